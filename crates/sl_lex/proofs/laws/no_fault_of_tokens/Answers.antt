use Rattle.sl_lex.proofs.OneCut.{no_fault_of_tokens}
use Rattle.sl_lex.proofs.laws.no_fault_of_tokens.Goals as goal

pub returns : goal.returns
returns c = no_fault_of_tokens

use Rattle.sl_lex.proofs.AllCuts.{tokens_or_fault}
use Rattle.sl_lex.proofs.laws.tokens_or_fault.Goals as goal

pub returns : goal.returns
returns c = tokens_or_fault

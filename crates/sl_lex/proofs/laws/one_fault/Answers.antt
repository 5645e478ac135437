use Rattle.sl_lex.proofs.OneCut.{one_fault}
use Rattle.sl_lex.proofs.laws.one_fault.Goals as goal

pub returns : goal.returns
returns c = one_fault

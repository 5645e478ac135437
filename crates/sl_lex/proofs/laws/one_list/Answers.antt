use Rattle.sl_lex.proofs.OneCut.{one_list}
use Rattle.sl_lex.proofs.laws.one_list.Goals as goal

pub returns : goal.returns
returns c = one_list

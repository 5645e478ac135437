use Rattle.sl_law_fairness.proofs.Covering.{cover_keeps_base}
use Rattle.sl_law_fairness.proofs.laws.books.cover_keeps_base.Goals as goal

pub returns : goal.returns
returns c = cover_keeps_base

use Rattle.sl_desk.proofs.OneVerdict.{one_returns}
use Rattle.sl_desk.proofs.laws.returns_have_one_verdict.Goals as goal

pub returns : goal.returns
returns c = one_returns

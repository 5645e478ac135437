use Rattle.sl_law_margins.proofs.BetweenClaims.{divisors_between}
use Rattle.sl_law_margins.proofs.laws.divisors_between.Goals as goal

pub returns : goal.returns
returns c = divisors_between

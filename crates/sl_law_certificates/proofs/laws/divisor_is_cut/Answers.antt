use Rattle.sl_law_certificates.proofs.Divisors.{divisor_is_cut}
use Rattle.sl_law_certificates.proofs.laws.divisor_is_cut.Goals as goal

pub returns : goal.returns
returns c = divisor_is_cut

use Rattle.std.proofs.Common.{refl}
use Rattle.sl_report_results.proofs.columns.with_minima.Goals as goal

pub returns : goal.returns
returns c = λ s v by plain. record {
  seats = plain.seats;
  votes = plain.votes;
  method = plain.method;
  least = c.in_ok-least.least;
  minima = refl;
  values = c.in_ok-least.ensures;
  grows = refl;
}

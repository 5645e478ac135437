use Rattle.std.proofs.Common.{arith}
use Rattle.sl_report_results.proofs.Tabled.{first_more}
use Rattle.sl_report_results.proofs.drawing.first_places.Goals as goal

pub loop-place-preserved : goal.loop-place-preserved
loop-place-preserved c = record { long = omega (arith, c.put_first.ensures.long, c.loop-place.invariant.long); first = first_more c.args.numbers.now c.loop-place.place c.args.end c.loop-place.places.items _ (omega arith) c.loop-place.invariant.first (λ n less. c.put_first.ensures.put n (omega (arith, c.loop-place.invariant.long))) }

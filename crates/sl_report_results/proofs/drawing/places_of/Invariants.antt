use Rattle.std.proofs.Common.{◌≡◌, map, take}
use Rattle.std.specs.Prelude.{unwrap_or}
use Rattle.sl_report_results.specs.inner.Within.{place_in}
use Rattle.sl_report_results.proofs.drawing.places_of.Given as goal

abbrev pub invariant-loop-item : goal.invariant-loop-item
invariant-loop-item l = l.places.items ≡ map (λ i. unwrap_or (place_in l.returns l.votes l.scope i) 0) (take l.item-index l.items)

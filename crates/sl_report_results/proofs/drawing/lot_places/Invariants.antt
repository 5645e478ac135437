use Rattle.std.proofs.Common.{◌≡◌, ◌≤◌, filter_map, length, take}
use Rattle.sl_report_results.specs.inner.Tables.{ArePlaces, number_among}
use Rattle.sl_law_meaning.specs.meaning.Lots.{first_mentions}
use Rattle.sl_report_results.proofs.drawing.lot_places.Given as goal

abbrev pub invariant-loop-item : goal.invariant-loop-item
invariant-loop-item l =
    let mentioned = first_mentions (filter_map (number_among l.returns l.votes l.scope l.numbers.items) (take l.item-index l.given)) in
    record {
      long : length l.places.items ≡ length l.items;
      placed : ArePlaces mentioned (length l.items) l.places.items;
      drawn : l.drawn ≡ length mentioned;
      few : l.drawn ≤ l.item-index;
    }

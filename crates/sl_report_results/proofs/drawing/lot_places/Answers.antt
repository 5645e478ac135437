use Rattle.std.proofs.Common.{◌≡◌, ◌<◌, ◌+◌, Some, None, ap, arith, filter_map, get_or, length, sym, subst, take, ◌∙◌}
use Rattle.std.specs.Option.{option_or}
use Rattle.std.specs.Prelude.{◌==◌, if◌then◌else◌, position, slice_index_or}
use Rattle.std.proofs.lemmas.List.{take_all}
use Rattle.std.proofs.lemmas.List.Quantifiers.{position-Some}
use Rattle.sl_law_meaning.specs.declared.fault.Item.TheVariants as item
use Rattle.sl_law_meaning.specs.meaning.Lots.{first_mentions}
use Rattle.sl_law_meaning.specs.meaning.Scopes.{same_item}
use Rattle.sl_report_results.proofs.DrawnLots.{item_more, none_more}
use Rattle.sl_report_results.proofs.Tabled.{drawn_more, placed_more}
use Rattle.sl_report_parties.proofs.Steps.{one_if_le}
use Rattle.sl_report_parties.specs.Sums.{one_if}
use Rattle.sl_report_results.specs.inner.Drawn.{with_first}
use Rattle.sl_report_results.specs.inner.Tables.{ArePlaces, number_among}
use Rattle.sl_report_results.proofs.drawing.lot_places.Goals as goal
use Rattle.sl_report_results.proofs.drawing.lot_places.Goals.{in-Some, in_default}

pub loop-item-preserved : goal.loop-item-preserved
loop-item-preserved c =
    let k = c.loop-item.item-index in
    let given = c.args.given.now in
    let items = c.args.items.now in
    let first = item.Party 0 in
    let one = get_or given k first in
    let number = number_among c.args.returns.now c.args.votes c.args.scope c.in_ok-numbers.numbers.items in
    let before = first_mentions (filter_map number (take k given)) in
    let inv = c.loop-item.invariant in
    elim c.match-number_among.branch [
      | in-Some w ↦
          let m = w.in-Some.number in
          let drawn : number one ≡ Some m =
          subst (λ ns. number_among c.args.returns.now c.args.votes c.args.scope ns one ≡ Some m) c.as_slice.ensures.value (sym c.number_among.ensures ∙ w.in-Some.is) in
          let less : m < length items = (position-Some (same_item one) items m one (sym (c.in_ok-numbers.ensures one) ∙ drawn)).0 in
          let after : first_mentions (filter_map number (take (k + 1) given)) ≡ with_first before m = item_more number given k first m c.loop-item-test.true drawn in
          let count : length before + one_if w.put_first.result ≡ length (with_first before m) =
          ap (λ b. length before + one_if b) w.put_first.ensures.told ∙ drawn_more before m (length items) c.loop-item.places.items less inv.placed in
          record {
            long = ap (λ v. length v.items) w.places-is ∙ w.put_first.ensures.long ∙ inv.long;
            placed = rw (w.places-is, after) (placed_more before m (length items) c.loop-item.places.items w.put_first.new.table.items inv.placed
                (λ n below. w.put_first.ensures.put n (omega (arith, below, inv.long))
                ∙ ap (λ d. option_or (slice_index_or c.loop-item.places.items n None) (if n == m then Some (d + 1) else None)) inv.drawn));
            drawn = rw after (omega (arith, count, w.drawn-is, w.one_if-drawn.ensures, inv.drawn));
            few = omega (arith, w.drawn-is, w.one_if-drawn.ensures, inv.few, one_if_le w.put_first.result);
          }
      | in_default w ↦
          let none : number one ≡ None =
          subst (λ ns. number_among c.args.returns.now c.args.votes c.args.scope ns one ≡ None) c.as_slice.ensures.value (sym c.number_among.ensures ∙ w.in_default.is) in
          let after : first_mentions (filter_map number (take (k + 1) given)) ≡ before = none_more number given k first c.loop-item-test.true none in
          record {
            long = ap (λ v. length v.items) w.places-is ∙ inv.long;
            placed = rw (w.places-is, after) inv.placed;
            drawn = rw after (w.drawn-is ∙ inv.drawn);
            few = omega (arith, w.drawn-is, inv.few);
          }
    ]

pub returns : goal.returns
returns c =
    let items = c.args.items.now in
    let given = c.args.given.now in
    let k = c.loop-item.item-index in
    subst (λ gs. ArePlaces (first_mentions (filter_map (λ i. position (same_item i) items) gs)) (length items) c.loop-item.places.items) (take_all k given c.loop-item-test.false)
    (subst (λ number. ArePlaces (first_mentions (filter_map number (take k given))) (length items) c.loop-item.places.items) (λ t i. c.in_ok-numbers.ensures i t) c.loop-item.invariant.placed)

-- Entries and lots order entries, so that none but equal entries tie.
use Rattle.std.proofs.Common.{◌≡◌, ℕ, true, List, ◌&&◌, nat_eq, ap, ◌∙◌}
use Rattle.std.specs.Cmp.{nat_cmp_total, then_total, on_total, back_total}
use Rattle.std.specs.declared.cmp.Ordering.{Ordering}
use Rattle.std.specs.declared.cmp.Ordering.TheVariants.{Less, Equal, Greater}
use Rattle.std.specs.Ordering.{is_eq, ordering_then}
use Rattle.std.proofs.lemmas.Bool.{and_parts, eqb-true}
use Rattle.sl_base_quotients.specs.declared.entry.Entry.{Entry}
use Rattle.sl_base_quotients.specs.Entry.{entry_cmp}
use Rattle.sl_base_quotients.specs.inner.EntryLaws.{entry_total, entry_ties}
use Rattle.sl_base_rankings.specs.Ranking.{same_entry}
use Rattle.sl_base_rankings.specs.Lot.{place_in_lot, lot_cmp}
use Rattle.sl_base_rankings.proofs.Greatest.{IsEntryOrder}

-- entries that are the same in all their parts are one
pub same_entry-is : (x y : Entry) → same_entry x y ≡ true → x ≡ y
same_entry-is x y h =
    let all = and_parts (nat_eq x.ratio.num y.ratio.num && nat_eq x.ratio.den y.ratio.den) (nat_eq x.index y.index) h in
    let parts = and_parts (nat_eq x.ratio.num y.ratio.num) (nat_eq x.ratio.den y.ratio.den) all.0 in
    let num = eqb-true x.ratio.num y.ratio.num parts.0 in
    let den = eqb-true x.ratio.den y.ratio.den parts.1 in
    let index = eqb-true x.index y.index all.1 in
    λ i. record { ratio = record { num = num i; den = den i }; index = index i }

pub entry_order : IsEntryOrder entry_cmp
entry_order = record {
  total = entry_total;
  ties = λ x y h. same_entry-is x y (entry_ties x y ∙ ap is_eq h);
}

last_equal : (r s : Ordering) → ordering_then r s ≡ Equal → s ≡ Equal
last_equal Less s h = cc
last_equal Equal s h = h
last_equal Greater s h = cc

pub lot_order : (lot : List ℕ) → IsEntryOrder (lot_cmp lot)
lot_order lot = record {
  total =
      then_total (then_total
      (back_total (on_total (λ (e : Entry). place_in_lot lot e.index) nat_cmp_total))
      (back_total (on_total (λ (e : Entry). e.index) nat_cmp_total)))
      entry_total;
  ties = λ x y h. entry_order.ties x y (last_equal _ (entry_cmp x y) h);
}

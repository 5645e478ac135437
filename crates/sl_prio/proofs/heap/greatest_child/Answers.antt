use Rattle.std.proofs.Common.{◌≡◌, ◌+◌, ◌-◌, ◌*◌, subst, sym, ◌∙◌, inl, inr, arith}
use Rattle.std.proofs.lemmas.Bool.{cases_Bool}
use Rattle.sl_base_rankings.proofs.Greatest.{AtMost-other}
use Rattle.sl_prio.proofs.Heaps.{greater_child, only_child, under_read, under_not_greater}
use Rattle.sl_prio.specs.inner.Heap.{IsGreatestChild}
use Rattle.sl_base_quotients.specs.Entry.{entry_cmp}
use Rattle.sl_base_rankings.proofs.Orders.{entry_order}
use Rattle.sl_prio.proofs.heap.greatest_child.Goals as goal

pub returns-then-right-entries : goal.returns-then-right-entries
returns-then-right-entries c =
    let xs = c.args.entries.now in
    let j = c.args.place in
    let n = c.from.result in
    let low = 2 * j + 2 - 1 in
    let left = c.index-entries-left.result in
    let right = c.index-entries-right.result in
    elim (cases_Bool c.exceeds.result) [
      | inl greater ↦
          let one : n ≡ 1 = rw greater at c.from.ensures in
          let e : 2 * j + 2 ≡ low + n = omega (arith, one) in
          subst (λ k. IsGreatestChild xs j k) e
          (greater_child xs j (2 * j + 2) (omega arith) (omega arith) (omega arith) low (omega arith)
          (under_read xs (2 * j + 2) low right left (omega arith) (omega arith) c.index-entries-right.is c.index-entries-left.is (AtMost-other entry_cmp entry_order right left (sym c.exceeds.ensures ∙ greater))))
      | inr not ↦
          let none : n ≡ 0 = rw not at c.from.ensures in
          let e : low ≡ low + n = omega (arith, none) in
          subst (λ k. IsGreatestChild xs j k) e
          (greater_child xs j low (omega arith) (omega arith) (omega arith) (2 * j + 2) (omega arith)
          (under_not_greater xs low (2 * j + 2) left right (omega arith) (omega arith) c.index-entries-left.is c.index-entries-right.is (sym c.exceeds.ensures ∙ not)))
    ]

pub returns-then-left-entries : goal.returns-then-left-entries
returns-then-left-entries c =
    let xs = c.args.entries.now in
    let j = c.args.place in
    let e : j * 2 + 1 ≡ 2 * j + 2 - 1 = omega arith in
    subst (λ k. IsGreatestChild xs j k) e (only_child xs j (omega arith) (omega arith))

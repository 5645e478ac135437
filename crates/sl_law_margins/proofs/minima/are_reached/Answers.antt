use Rattle.std.proofs.Common.{◌<◌, ℕ, get_or, arith, refl, sym, subst}
use Rattle.sl_base_quotients.specs.Quotient.{Quotient, AtMost}
use Rattle.sl_base_quotients.specs.Bounds.{HasWeight, last_quotient, next_quotient}
use Rattle.sl_base_quotients.specs.inner.QuotientLaws.{quotient_positive}
use Rattle.sl_base_quotients.proofs.Order.{AtMost-trans}
use Rattle.sl_law_meaning.proofs.methods.DivisorProofs.{in_range}
use Rattle.sl_law_margins.proofs.Missing.{below_next}
use Rattle.sl_law_margins.proofs.minima.are_reached.Goals as goal

pub loop-entry-init : goal.loop-entry-init
loop-entry-init c = λ i l. absurd (omega (arith, l))

pub loop-entry-preserved : goal.loop-entry-preserved
loop-entry-preserved c =
    let v = c.args.weights.now in
    let s = c.args.seats.now in
    let P : ℕ → Type 0 = λ i. HasWeight v i → get_or c.args.minima.now i 0 < get_or s i 0 → AtMost c.in-Some.next (last_quotient c.args.method v s i) in
    let reached = c.reaches.ensures.0 c.if-not-reaches.false in
    let least = c.minimum.ensures in
    λ i l. below_next P c.loop-entry.entry i l (c.loop-entry.invariant i) (λ f beyond. reached f (omega (arith, beyond, least)))

pub returns : goal.returns
returns c = (
  λ e i j fi fj beyond.
      let v = c.args.weights.now in
      let s = c.args.seats.now in
      let past = c.loop-entry-test.false in
      let l = in_range v i fi in
      let next = c.in-Some.ensures in
      let up : AtMost (next_quotient c.args.method v s j) c.in-Some.next = subst (λ (x : Quotient). AtMost (next_quotient c.args.method v s j) x) (sym next.2) (next.1.greatest j fj) in
      let pos : 0 < c.in-Some.next.num = subst (λ (x : Quotient). 0 < x.num) (sym next.2) (quotient_positive c.args.method (get_or v next.0 0) (get_or s next.0 0) next.1.weight) in
      AtMost-trans (next_quotient c.args.method v s j) c.in-Some.next (last_quotient c.args.method v s i) pos up (c.loop-entry.invariant i (omega (arith, l, past)) fi beyond),
  λ all. refl,
)

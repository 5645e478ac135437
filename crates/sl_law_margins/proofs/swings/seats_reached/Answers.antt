use Rattle.std.proofs.Common.{◌≡◌, ◌+◌, ◌-◌, ◌*◌, Bool, true, false, inl, inr, arith, sym, ap, subst, ◌∙◌}
use Rattle.std.specs.Ordering.{is_le}
use Rattle.std.proofs.lemmas.Bool.{cases_lt, true≢false}
use Rattle.sl_base_quotients.specs.Quotient.{Quotient, AtMost, Below, compare, quotient}
use Rattle.sl_law_margins.proofs.Claimants.{le_test}
use Rattle.sl_law_margins.proofs.swings.seats_reached.Goals as goal

-- what a comparison says
at_most : (x y : Quotient) (b : Bool) → b ≡ is_le (compare x y) → b ≡ true → AtMost x y
at_most x y b is e = (le_test (x.num * y.den) (y.num * x.den)).0 (sym is ∙ e)

below : (x y : Quotient) (b : Bool) → b ≡ is_le (compare x y) → b ≡ false → Below y x
below x y b is e =
    elim (cases_lt (y.num * x.den) (x.num * y.den)) [
      | inl l ↦ l
      | inr g ↦ absurd (true≢false (sym (is ∙ (le_test (x.num * y.den) (y.num * x.den)).1 g) ∙ e))
    ]

pub loop-seats-init : goal.loop-seats-init
loop-seats-init c = (omega arith, λ some. absurd (omega (arith, some)))

pub loop-seats-preserved : goal.loop-seats-preserved
loop-seats-preserved c =
    let q = quotient c.args.method c.args.weight c.loop-seats.seats in
    let here : AtMost c.args.claim q =
    subst (λ (x : Quotient). AtMost c.args.claim x) c.ratio.ensures (at_most c.args.claim c.ratio.result c.is_le.result (c.is_le.ensures ∙ ap is_le c.cmp.ensures) c.if-is_le.true) in
    let l = c.loop-seats-test.true in
    let e : c.loop-seats.seats ≡ c.loop-seats.seats + 1 - 1 = omega arith in (
      omega (arith, l),
      λ some. subst (λ n. AtMost c.args.claim (quotient c.args.method c.args.weight n)) e here,
    )

pub returns-else-is_le : goal.returns-else-is_le
returns-else-is_le c = record {
  within = c.loop-seats.invariant.0;
  last = c.loop-seats.invariant.1;
  next = λ l. subst (λ (x : Quotient). Below x c.args.claim) c.ratio.ensures (below c.args.claim c.ratio.result c.is_le.result (c.is_le.ensures ∙ ap is_le c.cmp.ensures) c.if-is_le.false);
}

pub returns-after-loop-seats : goal.returns-after-loop-seats
returns-after-loop-seats c = record { within = c.loop-seats.invariant.0; last = c.loop-seats.invariant.1; next = λ l. absurd (let past = c.loop-seats-test.false in omega (arith, l, past)) }

use Rattle.std.proofs.Common.{◌≡◌, ℕ, ◌+◌, ◌<◌, true, false, nat_eq, [], ◌∷◌, ◌++◌, length, inl, inr, arith, refl, sym, subst, ◌∙◌}
use Rattle.std.specs.Prelude.{slice_index}
use Rattle.std.proofs.lemmas.Bool.{cases_lt, eqb-true, true≢false}
use Rattle.sl_base_quotients.specs.Quotient.{Quotient, quotient}
use Rattle.sl_law_margins.specs.VotesToSpare.{with_fewer}
use Rattle.sl_law_margins.specs.inner.Filled.{Fills, Reaches}
use Rattle.sl_law_margins.proofs.Filling.{fills_none, fills_skipped, fills_reached, sum_more}
use Rattle.sl_law_margins.proofs.swings.are_filled.Goals as goal
use Rattle.sl_law_margins.proofs.swings.are_filled.Goals.{then-rival-to+then-left-gt0+then-weight-gt0, then-rival-to+then-left-gt0+else-weight-gt0, else-rival-to, else-rival-to-via-then-rival-to+else-left-gt0, else-rival-to-via-else-rival-to}

pub loop-rival-init : goal.loop-rival-init
loop-rival-init c =
    let e = c.seats_of_others-left.ensures in
    ([], fills_none c.args.method (with_fewer c.args.weights.now c.args.from c.args.moved) c.ratio-claim.result c.args.to c.seats_of_others-left.result, omega (arith, e))

pub seats_reached-left-requires-clause-most : goal.seats_reached-left-requires-clause-most
seats_reached-left-requires-clause-most c =
    let inv = c.loop-rival.invariant in
    let e = inv.2 in
    let house = c.requires.house in
    omega (arith, e, house)

pub loop-rival-preserved : goal.loop-rival-preserved
loop-rival-preserved c =
    let w = with_fewer c.args.weights.now c.args.from c.args.moved in
    let n = c.loop-rival.rival in
    let left = c.loop-rival.left in
    let inv = c.loop-rival.invariant in
    let u = inv.0 in
    let total = inv.2 in
    elim c.if-rival-to.branch [
      | then-rival-to+then-left-gt0+then-weight-gt0 b ↦
          (let a = b.seats_reached-left.result in
          let is = b.weight_left-weight.ensures in
          let some = b.if-weight-gt0.true in
          let reached : Reaches c.args.method (slice_index w n) c.ratio-claim.result left a =
          subst (λ x. Reaches c.args.method x c.ratio-claim.result left a) is b.seats_reached-left.ensures in
          let e = sum_more u a in
          let le = reached.within in
          let left-is = b.left-is in (
            u ++ a ∷ [],
            subst (λ k. Fills c.args.method w c.ratio-claim.result c.args.to (n + 1) k (u ++ a ∷ [])) (sym left-is)
                (fills_reached c.args.method w c.ratio-claim.result c.args.to n left a u inv.1 b.if-rival-to.true (omega (arith, some, is)) reached),
            omega (arith, e, total, le, left-is),
          ))
      | then-rival-to+then-left-gt0+else-weight-gt0 b ↦
          (let is = b.weight_left-weight.ensures in
          let none = b.if-weight-gt0.false in
          let e = sum_more u 0 in
          let left-is = b.left-is in (
            u ++ 0 ∷ [],
            subst (λ k. Fills c.args.method w c.ratio-claim.result c.args.to (n + 1) k (u ++ 0 ∷ [])) (sym left-is)
                (fills_skipped c.args.method w c.ratio-claim.result c.args.to n left u inv.1 (λ some ne f. omega (arith, f, none, is))),
            omega (arith, e, total, left-is),
          ))
      | else-rival-to b ↦
          (let e = sum_more u 0 in
          let left-is = b.left-is in (
            u ++ 0 ∷ [],
            subst (λ k. Fills c.args.method w c.ratio-claim.result c.args.to (n + 1) k (u ++ 0 ∷ [])) (sym left-is)
                (fills_skipped c.args.method w c.ratio-claim.result c.args.to n left u inv.1
                (elim b.else-rival-to.branch [
                  | else-rival-to-via-then-rival-to+else-left-gt0 b' ↦ (λ some ne f. let none = b'.if-left-gt0.false in omega (arith, some, none))
                  | else-rival-to-via-else-rival-to b' ↦ (λ some ne f. ne b'.if-rival-to.false)
                ])),
            omega (arith, e, total, left-is),
          ))
    ]

is_zero : (n : ℕ) → nat_eq n 0 ≡ true → n ≡ 0
is_zero n e = eqb-true n 0 e

is_more : (n : ℕ) → nat_eq n 0 ≡ false → 0 < n
is_more n e = elim (cases_lt 0 n) [ inl l ↦ l | inr g ↦ absurd (let z : n ≡ 0 = omega (arith, g) in true≢false (sym (subst (λ k. nat_eq k 0 ≡ true) (sym z) refl) ∙ e)) ]

pub returns : goal.returns
returns c =
    let inv = c.loop-rival.invariant in
    let w = with_fewer c.args.weights.now c.args.from c.args.moved in
    let most = c.loop-rival.auto.rival-end in
    let past = c.loop-rival-test.false in
    let end : c.loop-rival.rival ≡ length c.args.weights.now = omega (arith, most, past) in
    record {
      left = c.loop-rival.left;
      u = inv.0;
      fills = subst (λ n. Fills c.args.method w (quotient c.args.method (slice_index c.args.weights.now c.args.to + c.args.moved) (slice_index c.args.seats.now c.args.to)) c.args.to n c.loop-rival.left inv.0) end
          (subst (λ (q : Quotient). Fills c.args.method w q c.args.to c.loop-rival.rival c.loop-rival.left inv.0) c.ratio-claim.ensures inv.1);
      total = inv.2;
      filled = is_zero c.loop-rival.left;
      short = is_more c.loop-rival.left;
    }

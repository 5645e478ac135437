-- Webster near quota, by the inequality of two entries; and equal votes.
use Rattle.std.proofs.Common.{◌≡◌, ℕ, ◌+◌, ◌-◌, ◌*◌, ◌<◌, ◌≤◌, length, get_or, sum, inl, inr, arith, sym, subst}
use Rattle.std.proofs.Math.Nat.{mul-le-mul_left, mul-lt-mul_of_pos_right}
use Rattle.std.proofs.lemmas.Bool.{cases_lt}
use Rattle.sl_base_quotients.specs.Quotient.{AtMost, quotient}
use Rattle.sl_law_meaning.specs.methods.Field.{InField}
use Rattle.sl_law_meaning.proofs.methods.SeatSums.{none_needed}
use Rattle.sl_law_fairness.specs.NearQuota.{WebsterNearQuota}
use Rattle.sl_law_fairness.specs.Principles.{Balanced}
use Rattle.sl_law_fairness.proofs.Chains.{falls_strict, in_field}

-- x and y votes, a + 1 and b seats, S seats in all and V votes
apart : (x y a b all total : ℕ) → 2 * y * (2 * a + 1) ≤ 2 * x * (2 * b + 1) → 2 * (all * x) < (2 * a + 1) * total → (2 * b + 1) * total < 2 * (all * y) → ⊥
apart x y a b all total fair over under =
    let one : 2 * (all * x) * (2 * b + 1) < (2 * a + 1) * total * (2 * b + 1) = mul-lt-mul_of_pos_right over (omega arith) in
    let two : (2 * b + 1) * total * (2 * a + 1) < 2 * (all * y) * (2 * a + 1) = mul-lt-mul_of_pos_right under (omega arith) in
    let three : all * (2 * y * (2 * a + 1)) ≤ all * (2 * x * (2 * b + 1)) = mul-le-mul_left all fair in
    omega (arith, one, two, three)

pub webster_near_quota : WebsterNearQuota
webster_near_quota v seats s h i j fi fj far =
    let z = none_needed (length v) i in
    let some = far.0 in
    let odd : 2 * get_or s i 0 - 1 ≡ 2 * (get_or s i 0 - 1) + 1 = omega (arith, some) in
    let over = subst (λ n. 2 * (seats * get_or v i 0) < n * sum v) odd far.1 in
    apart (get_or v i 0) (get_or v j 0) (get_or s i 0 - 1) (get_or s j 0) seats (sum v) (h.min_max i j fi fj (omega (arith, z, some))) over far.2

pub balanced : Balanced
balanced method v m seats s h i j same low =
    elim (cases_lt (get_or s j 0 + 1) (get_or s i 0)) [
      | inr g ↦ g
      | inl more ↦ absurd (
          let mj = h.minima j in
          let above : get_or m i 0 < get_or s i 0 = omega (arith, mj, low, more) in
          let fi = in_field method v m seats s h i above in
          let fj : InField v j = omega (arith, fi, same) in
          let fair = subst (λ n. AtMost (quotient method n (get_or s j 0)) (quotient method (get_or v i 0) (get_or s i 0 - 1))) (sym same) (h.min_max i j fi fj above) in
          let strict = falls_strict method v i (get_or s j 0) (get_or s i 0 - 1) fi (omega (arith, more)) in
          omega (arith, fair, strict))
    ]

-- More than half of the votes, by the bound that a sum of inequalities gives.
use Rattle.std.proofs.Common.{◌+◌, ◌*◌, ◌≤◌, get_or, sum, inl, inr, arith}
use Rattle.std.proofs.Math.Nat.{mul-le-mul_left, mul-le-mul_right}
use Rattle.std.proofs.lemmas.Bool.{cases_lt}
use Rattle.sl_law_fairness.specs.Majorities.{JeffersonMajority}
use Rattle.sl_law_fairness.proofs.Quota.{jefferson_bound}

pub jefferson_majority : JeffersonMajority
jefferson_majority v seats s h i more =
    elim (cases_lt (2 * get_or s i 0) seats) [
      | inr g ↦ g
      | inl less ↦ absurd (
          let bound = jefferson_bound v seats s h i (omega (arith, more)) in
          let a : get_or v i 0 * (2 * (get_or s i 0 + 1)) ≤ get_or v i 0 * (seats + 1) = mul-le-mul_left (get_or v i 0) (omega arith) in
          let b : (sum v + 1) * (get_or s i 0 + 1) ≤ 2 * get_or v i 0 * (get_or s i 0 + 1) = mul-le-mul_right (get_or s i 0 + 1) (omega arith) in
          omega (arith, bound, a, b))
    ]

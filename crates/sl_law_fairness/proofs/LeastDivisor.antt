-- A smaller divisor rounds each vote to no fewer seats.
use Rattle.std.proofs.Common.{ℕ, ◌+◌, ◌-◌, ◌*◌, ◌/◌, ◌<◌, ◌≤◌, List, [], ◌∷◌, get_or, map, sum, arith}
use Rattle.std.proofs.Math.Nat.{mul-le-mul_left, le_of_mul-le-mul_left}
use Rattle.sl_law_meaning.proofs.methods.SeatSums.{sum-cons}
use Rattle.sl_law_meaning.proofs.methods.HamiltonProofs.{whole_low}
use Rattle.sl_law_fairness.specs.ClosedHouse.{LeastDivisorDecides}
use Rattle.sl_law_fairness.proofs.Sums.{whole_greatest}

-- x votes by y / (o / 2)
rounded : (x o y p z : ℕ) → 0 < y → 0 < z → z * o ≤ y * p → (x * o + y) / (2 * y) ≤ (x * p + z) / (2 * z)
rounded x o y p z py pz le =
    let k = (x * o + y) / (2 * y) in
    let low : 2 * y * k ≤ x * o + y = whole_low (x * o + y) (2 * y) in
    let one : z * (2 * y * k) ≤ z * (x * o + y) = mul-le-mul_left z low in
    let two : x * (z * o) ≤ x * (y * p) = mul-le-mul_left x le in
    let up = le_of_mul-le-mul_left {m = 2 * z * k} {n = x * p + z} {k = y} (omega (arith, one, two)) py in
    whole_greatest (x * p + z) (2 * z) k (omega (arith, pz)) up

sums : (f g : ℕ → ℕ) → ((x : ℕ) → f x ≤ g x) → (xs : List ℕ) → sum (map f xs) ≤ sum (map g xs)
sums f g le [] = omega arith
sums f g le (x ∷ xs) =
    let a = sum-cons (f x) (map f xs) in let b = sum-cons (g x) (map g xs) in let here = le x in let rest = sums f g le xs in omega (arith, a, b, here, rest)

pub least_divisor_decides : LeastDivisorDecides
least_divisor_decides v m c q hc hq le =
    sums (λ x. (x * (2 * get_or m q 0 - 1) + get_or v q 0) / (2 * get_or v q 0)) (λ x. (x * (2 * get_or m c 0 - 1) + get_or v c 0) / (2 * get_or v c 0))
    (λ x. rounded x (2 * get_or m q 0 - 1) (get_or v q 0) (2 * get_or m c 0 - 1) (get_or v c 0) hq.0 hc.0 le) v

-- Powers of ten, multiples of them, and quotients cut after some places.
use Rattle.std.proofs.Common.{◌≡◌, ℕ, zero, suc, ◌+◌, ◌-◌, ◌*◌, ◌/◌, ◌%◌, ◌^◌, ◌<◌, ◌≤◌, inl, inr, arith, ap}
use Rattle.std.proofs.Math.Nat.{div-add-mod', pow-suc, pow-le-pow_right, mul-le-mul_right}
use Rattle.std.proofs.lemmas.Bool.{cases_lt}
use Rattle.sl_law_margins.specs.inner.Units.{IsRoundest}
use Rattle.sl_law_margins.proofs.Shortest.{ten_pos}

pub ten_le : (n : ℕ) → n ≤ 12 → 10 ^ n ≤ 10 ^ 12
ten_le n h = pow-le-pow_right {n = 10} (omega arith) h

-- without a last zero, and with one place less, a number is the same
pub strip : (digits places units left : ℕ) → digits % 10 ≡ 0 → 0 < left → digits * 10 ^ places ≡ units * 10 ^ left →
    digits / 10 * 10 ^ places ≡ units * 10 ^ (left - 1)
strip digits places units zero z pos same = absurd (omega arith)
strip digits places units (suc l) z pos same =
    let parts = div-add-mod' digits 10 in
    let whole : digits ≡ digits / 10 * 10 = omega (arith, parts, z) in
    let one : digits * 10 ^ places ≡ digits / 10 * 10 * 10 ^ places = ap (λ n. n * 10 ^ places) whole in
    let two : units * 10 ^ suc l ≡ units * (10 ^ l * 10) = ap (λ n. units * n) (pow-suc 10 l) in
    let back : suc l - 1 ≡ l = omega arith in
    rw back (omega (arith, same, one, two))

-- the least multiple that is no less than low
pub least_multiple : (t m step low : ℕ) → t * step < low + step → low ≤ m * step → t * step ≤ m * step
least_multiple t m step low near le =
    elim (cases_lt m t) [
      | inl l ↦ absurd (let up : (m + 1) * step ≤ t * step = mul-le-mul_right step (omega arith) in omega (arith, up, near, le))
      | inr g ↦ mul-le-mul_right step g
    ]

-- a step that has a multiple up to high is no greater
pub step_within : (m step low high : ℕ) → 0 < low → low ≤ m * step → m * step ≤ high → step ≤ high
step_within zero step low high pos le up = absurd (omega arith)
step_within (suc m) step low high pos le up = omega arith

-- one more zero
pub next_power : (e step : ℕ) → step ≡ 10 ^ e → step * 10 ≡ 10 ^ (e + 1)
next_power e step is = let one = pow-suc 10 e in let same : e + 1 ≡ suc e = omega arith in rw same (omega (arith, one, is))

-- the least multiple of a step that is the greatest possible is a roundest number
pub roundest_is : (low high step e m t x u y : ℕ) → step ≡ 10 ^ e → low ≤ m * step → m * step ≤ high →
    x ≡ t * step → low ≤ x → x < low + step → y ≡ u * (step * 10) → y < low + step * 10 → high < y → IsRoundest low high x
roundest_is low high step e m t x u y is le up ex from near ey near' past = record {
  from = from;
  up_to = let l = least_multiple t m step low (omega (arith, near, ex)) le in omega (arith, l, up, ex);
  zeros = e;
  times = t;
  multiple = let same : t * step ≡ t * 10 ^ e = ap (λ n. t * n) is in omega (arith, ex, same);
  no_more = λ k a b.
      let p = next_power e step is in
      let same : k * (step * 10) ≡ k * 10 ^ (e + 1) = ap (λ n. k * n) p in
      let l = least_multiple u k (step * 10) low (omega (arith, near', ey)) (omega (arith, a, same)) in
      omega (arith, l, ey, same, b, past);
}

-- a turn of the search: the step with one more zero has a multiple up to high
pub wider : (low high step e d r : ℕ) → step ≡ 10 ^ e → r ≡ d * (step * 10) → low ≤ r → r ≤ high →
    ((x : ℕ) × (step * 10 ≡ 10 ^ x)) × ((x : ℕ) × (low ≤ x * (step * 10)) × (x * (step * 10) ≤ high))
wider low high step e d r is er from up = ((e + 1, next_power e step is), (d, omega (arith, er, from), omega (arith, er, up)))

pub closer : (low high step e d r : ℕ) → 0 < low → step ≡ 10 ^ e → r ≡ d * (step * 10) → low ≤ r → r ≤ high → high - step * 10 < high - step
closer low high step e d r pos is er from up =
    let one = ten_pos e in
    let some : 0 < step = omega (arith, one, is) in
    let within : step * 10 ≤ high = step_within d (step * 10) low high pos (omega (arith, er, from)) (omega (arith, er, up)) in
    omega (arith, some, within)

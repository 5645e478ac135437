-- Masks as sets of registers, bit by bit.
use Rattle.std.proofs.Common.{◌≡◌, ◌≢◌, ℕ, ◌^◌, ◌<◌, Bool, true, false, ◌==◌, if◌then◌else◌, bit_and, bit_or, refl, ap, arith}
use Rattle.std.specs.Prelude.{IsTrue}
use Rattle.std.specs.Int.{w16, bit_at, bit_not}
use Rattle.std.proofs.lemmas.Bool.{eqb-true, eqb-false, eq-eqb, ltb-true, lt-ltb}
use Rattle.std.proofs.lemmas.Nat.{and_le_r}
use Rattle.std.proofs.lemmas.Nat.Bits.{bit_at_or, bit_at_and, bit_at_not, bit_at-pow_same, bit_at-pow_other, bit_at-lt, same_from_bits_below}
use Rattle.std.proofs.Math.Pow.{pow-lt}
use Rattle.sl_code_instructions.specs.declared.kinds.Registers.{Registers}
use Rattle.sl_code_semantics.specs.Kinds.{is_register, contains, with_register, includes}

-- ---- one register more or less

power_below : (r : ℕ) → r < 16 → 2 ^ r < 2 ^ 16
power_below r h = pow-lt h

set_same : (m r : ℕ) → bit_at (bit_or m (2 ^ r)) r ≡ 1
set_same m r = omega (arith, bit_at_or m (2 ^ r) r, bit_at-pow_same r, bit_at-lt m r)

set_other : (m r q : ℕ) → q ≢ r → bit_at (bit_or m (2 ^ r)) q ≡ bit_at m q
set_other m r q h = omega (arith, bit_at_or m (2 ^ r) q, bit_at-pow_other r q h)

clear_same : (m r : ℕ) → r < 16 → bit_at (bit_and m (bit_not w16 (2 ^ r))) r ≡ 0
clear_same m r h = omega (arith, bit_at_and m (bit_not w16 (2 ^ r)) r, bit_at_not w16 (2 ^ r) r (power_below r h) h, bit_at-pow_same r)

clear_other : (m r q : ℕ) → r < 16 → q < 16 → q ≢ r → bit_at (bit_and m (bit_not w16 (2 ^ r))) q ≡ bit_at m q
clear_other m r q h l n = omega (arith, bit_at_and m (bit_not w16 (2 ^ r)) q, bit_at_not w16 (2 ^ r) q (power_below r h) l, bit_at-pow_other r q n, bit_at-lt m q)

at_same : (b : Bool) (r : ℕ) (rs : Registers) → r < 16 → contains (with_register b r rs) r ≡ b
at_same true r rs h = eq-eqb _ 1 (set_same rs.mask r)
at_same false r rs h = ap (λ n. n == 1) (clear_same rs.mask r h)

at_other : (b : Bool) (r q : ℕ) (rs : Registers) → r < 16 → q < 16 → q ≢ r → contains (with_register b r rs) q ≡ contains rs q
at_other true r q rs h l n = ap (λ x. x == 1) (set_other rs.mask r q n)
at_other false r q rs h l n = ap (λ x. x == 1) (clear_other rs.mask r q h l n)

-- the register itself is in the set or not, and each other one as before
pub has_one : (b : Bool) (r q : ℕ) (rs : Registers) → IsTrue (is_register r) → IsTrue (is_register q)
    → contains (with_register b r rs) q ≡ (if q == r then b else contains rs q)
has_one b r q rs hr hq = by_case (q == r) refl
  where
    by_case : (t : Bool) → (q == r) ≡ t → contains (with_register b r rs) q ≡ (if t then b else contains rs q)
    by_case true e = rw (eqb-true q r e) (at_same b r rs (ltb-true r 16 hr))
    by_case false e = at_other b r q rs (ltb-true r 16 hr) (ltb-true q 16 hq) (eqb-false q r e)

-- ---- one set within another

bit_within : (a b q : ℕ) → bit_and a b ≡ b → bit_at b q ≡ 1 → bit_at a q ≡ 1
bit_within a b q e h =
    let same : bit_at (bit_and a b) q ≡ bit_at b q = ap (λ n. bit_at n q) e in
    omega (arith, bit_at_and a b q, bit_at-lt a q, same, h)

pub includes_each : (have need : Registers) → IsTrue (includes have need)
    → (q : ℕ) → IsTrue (contains need q) → IsTrue (contains have q)
includes_each have need h q n = eq-eqb _ 1 (bit_within have.mask need.mask q (eqb-true _ _ h) (eqb-true _ 1 n))

same_bit : (a b q : ℕ) → (bit_at b q ≡ 1 → bit_at a q ≡ 1) → bit_at (bit_and a b) q ≡ bit_at b q
same_bit a b q h = by_case (bit_at b q == 1) refl
  where
    by_case : (t : Bool) → (bit_at b q == 1) ≡ t → bit_at (bit_and a b) q ≡ bit_at b q
    by_case true e =
        let set : bit_at b q ≡ 1 = eqb-true _ 1 e in
        omega (arith, set, h set, bit_at_and a b q)
    by_case false e = omega (arith, eqb-false _ 1 e, bit_at_and a b q, bit_at-lt b q)

pub each_includes : (have need : Registers) → need.mask < 2 ^ 16
    → ((q : ℕ) → IsTrue (is_register q) → IsTrue (contains need q) → IsTrue (contains have q)) → IsTrue (includes have need)
each_includes have need fits each =
    eq-eqb _ _ (same_from_bits_below 16 (bit_and have.mask need.mask) need.mask (omega (arith, and_le_r have.mask need.mask)) fits
    (λ q l. same_bit have.mask need.mask q (λ e. eqb-true _ 1 (each q (lt-ltb q 16 l) (eq-eqb _ 1 e)))))

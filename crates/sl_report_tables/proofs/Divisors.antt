-- Two numbers divided by their greatest common divisor.
use Rattle.std.specs.Int.{IsGcd, ◌∣◌}
use Rattle.std.proofs.Common.{◌≡◌, ℕ, zero, suc, ◌/◌, ◌%◌, ◌<◌, ◌≤◌, ◌⊎◌, Bool, true, false, ap, arith, inl, inr, refl, subst, sym}
use Rattle.std.specs.Prelude.{◌==◌}
use Rattle.std.proofs.Math.Nat.{eq-zero_of_zero-dvd}
use Rattle.std.proofs.lemmas.Bool.{cases_lt, eqb-false, eqb-true}
use Rattle.std.proofs.lemmas.Nat.Gcd.{dvd_of_mod-eq-zero, le_of_dvd, mod-eq-zero_of_dvd}
use Rattle.sl_report_results.specs.declared.fraction.Fraction.{Fraction}
use Rattle.sl_report_tables.specs.Lowest.{common_up_to, lowest_of}

pub divisor_some : (a b g : ℕ) → 0 < b → IsGcd a b g → 0 < g
divisor_some a b zero some h = absurd (let none = eq-zero_of_zero-dvd h.1 in omega (arith, some, none))
divisor_some a b (suc g) some h = omega arith

-- a number that is too great for a divisor is passed by
less : (n g x : ℕ) → g ≤ suc n → g ∣ x → (x % suc n == 0) ≡ false → g ≤ n
less n g x le d not = go (cases_lt n g) where
  go : (n < g) ⊎ (g ≤ n) → g ≤ n
  go (inr le) = le
  go (inl lt) = let e : g ≡ suc n = omega (arith, lt, le) in absurd (eqb-false (x % suc n) 0 not (mod-eq-zero_of_dvd (suc n) (subst (λ m. m ∣ x) e d)))

common_is : (n a b g : ℕ) → 0 < g → g ≤ n → IsGcd a b g → common_up_to n a b ≡ g
common_is zero a b g some le h = absurd (omega (arith, some, le))
common_is (suc n) a b g some le h = go (a % suc n == 0) (b % suc n == 0) refl refl (λ within. common_is n a b g some within h) where
  go : (x y : Bool) → (a % suc n == 0) ≡ x → (b % suc n == 0) ≡ y → (g ≤ n → common_up_to n a b ≡ g) → common_up_to (suc n) a b ≡ g
  go true true p q next =
      let both = h.2 (suc n) (dvd_of_mod-eq-zero (suc n) (eqb-true (a % suc n) 0 p)) (dvd_of_mod-eq-zero (suc n) (eqb-true (b % suc n) 0 q)) in
      let within = le_of_dvd some both in
      rw (p, q) (omega (arith, within, le))
  go true false p q next = rw (p, q) (next (less n g b le h.1 q))
  go false y p q next = rw p (next (less n g a le h.0 p))

pub lowest_is : (f : Fraction) (g : ℕ) → 0 < f.den → IsGcd f.num f.den g → record { num = f.num / g; den = f.den / g } ≡ lowest_of f
lowest_is f g some h = ap (λ n. record { num = f.num / n; den = f.den / n }) (sym (common_is f.den f.num f.den g (divisor_some f.num f.den g some h) (le_of_dvd some h.1) h))

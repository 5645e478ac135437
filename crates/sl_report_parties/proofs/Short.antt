-- The votes that are short of a share.
use Rattle.std.proofs.Common.{◌≡◌, ℕ, ◌+◌, ◌-◌, ◌*◌, ◌/◌, ◌%◌, ◌<◌, ◌≤◌, min, arith, ap, ◌∙◌, inl, inr}
use Rattle.std.proofs.lemmas.Bool.{cases_lt}
use Rattle.std.proofs.lemmas.Nat.{mul-le}
use Rattle.std.proofs.lemmas.Grind.{div_ceil_times}
use Rattle.sl_report_parties.specs.Parts.{IsLeast}

-- a product with so many more
more_times : (share d per x : ℕ) → per ≡ share + d → per * x ≡ share * x + x * d
more_times share d per x is = ap (λ p. p * x) is ∙ omega arith

-- a multiple that holds n is no less than the quotient, rounded up
up_to : (n d r y : ℕ) → 0 < d → r * d < n + d → n ≤ y * d → r ≤ y
up_to n d r y pos below within = elim (cases_lt y r) [
  | inl h ↦ absurd (omega (arith, below, within, grown (y + 1) r d (omega (arith, h))))
  | inr h ↦ h
]
  where
    grown : (a b d : ℕ) → a ≤ b → a * d ≤ b * d
    grown a b d h = mul-le a d b d h (omega arith)

module _ (share per has all : ℕ) (is_short : per * has < share * all) (is_more : share < per) where
  abbrev pub rounded : ℕ
  rounded = (share * all - per * has) / (per - share) + min 1 ((share * all - per * has) % (per - share))

  pub least_is : (more : ℕ) → more ≡ rounded → IsLeast share per has all more
  least_is more is =
      let per_is : per ≡ share + (per - share) = omega (arith, is_more) in
      let bounds = div_ceil_times (share * all - per * has) (per - share) (omega (arith, is_more)) in
      let times : more * (per - share) ≡ rounded * (per - share) = ap (λ n. n * (per - share)) is in
      record {
        enough = omega (arith, bounds.0, times, is_short, more_times share (per - share) per more per_is);
        least = λ fewer h.
            up_to (share * all - per * has) (per - share) more fewer (omega (arith, is_more)) (omega (arith, bounds.1, times))
            (omega (arith, h, is_short, more_times share (per - share) per fewer per_is));
      }

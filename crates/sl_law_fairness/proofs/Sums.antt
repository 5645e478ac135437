-- Sums of lists with a gap at an entry, and whole parts.
use Rattle.std.proofs.Common.{◌≡◌, ℕ, zero, suc, ◌+◌, ◌*◌, ◌/◌, ◌<◌, ◌≤◌, List, length, get_or, set, sum, inl, inr, arith, sym, subst}
use Rattle.std.proofs.lemmas.Bool.{cases_lt, cases_eq}
use Rattle.std.proofs.lemmas.List.{get_or-set_same, get_or-set_other}
use Rattle.std.proofs.lemmas.List.Sums.{sum_by-set}
use Rattle.sl_law_meaning.proofs.methods.SeatSums.{sum_mono}
use Rattle.sl_law_meaning.proofs.methods.HamiltonProofs.{whole_high}

-- the whole part is the greatest number that is not above the share
pub whole_greatest : (n d k : ℕ) → 0 < d → d * k ≤ n → k ≤ n / d
whole_greatest n d k pos le = elim (cases_lt (n / d) k) [ inl l ↦ absurd (let high = whole_high n d k pos l in omega (arith, high, le)) | inr g ↦ g ]

pub times_none : (a n b : ℕ) → n ≤ 0 → a * n ≤ b
times_none a zero b le = omega arith
times_none a (suc n) b le = absurd (omega arith)

-- entry by entry at most, and by a gap at one place: so are the sums
pub sum_gap : (s t : List ℕ) (i gap : ℕ) → i < length s → ((j : ℕ) → get_or s j 0 ≤ get_or t j 0) → get_or s i 0 + gap ≤ get_or t i 0 →
    sum s + gap ≤ sum t
sum_gap s t i gap within weak wide =
    let x = get_or s i 0 + gap in
    let more = set s i x in
    let one : sum more + get_or s i 0 ≡ sum s + (get_or s i 0 + gap) = sum_by-set (λ n. n) s i (get_or s i 0 + gap) 0 within in
    let each : (j : ℕ) → get_or more j 0 ≤ get_or t j 0 =
    λ j. elim (cases_eq j i) [
      | inl e ↦ subst (λ k. get_or more k 0 ≤ get_or t k 0) (sym e) (let same = get_or-set_same s i x 0 within in omega (arith, same, wide))
      | inr ne ↦ (let other = get_or-set_other s i j x 0 ne in let le = weak j in omega (arith, other, le))
    ] in
    let all = sum_mono more t each in
    omega (arith, one, all)

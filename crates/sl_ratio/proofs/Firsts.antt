-- The first of the best quotients, found by a search through the entries in order.
use Rattle.std.proofs.Common.{◌≡◌, ℕ, ◌+◌, ◌<◌, Option, Some, None, inl, inr, refl, subst, arith}
use Rattle.std.proofs.lemmas.Bool.{cases_lt}
use Rattle.sl_base_quotients.specs.Quotient.{Quotient}

-- what is searched for: the candidates, the quotient of each, and how quotients rank: x reaches y, or x beats y
pub record Search : Type 1 where
  pub candidate : ℕ → Type 0
  pub quotient_of : ℕ → Quotient
  pub reaches : Quotient → Quotient → Type 0
  pub beats : Quotient → Quotient → Type 0

-- what the search asks of the ranking
pub record IsRanking (l : Search) : Type 0 where
  pub weak : (x y : Quotient) → l.beats x y → l.reaches x y
  pub itself : (x : Quotient) → l.reaches x x
  pub chain : (x y : Quotient) (i : ℕ) → l.candidate i → l.beats x y → l.reaches y (l.quotient_of i) → l.beats x (l.quotient_of i)

-- i is the first among the candidates below n whose quotient stands highest
pub record IsBest (l : Search) (n i : ℕ) : Type 0 where
  pub within : i < n
  pub candidate : l.candidate i
  pub highest : (j : ℕ) → j < n → l.candidate j → l.reaches (l.quotient_of i) (l.quotient_of j)
  pub before : (j : ℕ) → j < i → l.candidate j → l.beats (l.quotient_of i) (l.quotient_of j)

-- what a search has found among the first n entries
abbrev pub Found : Search → ℕ → Option Quotient → Type 0
Found l n None = (j : ℕ) → j < n → ¬ l.candidate j
Found l n (Some x) = (i : ℕ) × IsBest l n i × (x ≡ l.quotient_of i)

-- of all numbers below n + 1, n is the last
each_more : (P : ℕ → Type 0) (n : ℕ) → ((j : ℕ) → j < n → P j) → P n → (j : ℕ) → j < n + 1 → P j
each_more P n below here j l =
    elim (cases_lt j n) [
      | inl less ↦ below j less
      | inr g ↦ (let e : n ≡ j = omega arith in subst P e here)
    ]

module _ (l : Search) (ranks : IsRanking l) where
  -- the next entry is no candidate
  pub skipped : (n : ℕ) (found : Option Quotient) → ¬ l.candidate n → Found l n found → Found l (n + 1) found
  skipped n None out none = each_more (λ j. ¬ l.candidate j) n none out
  skipped n (Some x) out (i, best, e) = (
    i,
    record {
      within = let w = best.within in omega arith;
      candidate = best.candidate;
      highest = each_more (λ j. l.candidate j → l.reaches (l.quotient_of i) (l.quotient_of j)) n best.highest (λ d. absurd (out d));
      before = best.before;
    },
    e,
  )

  -- the next entry does not stand higher than the one found
  pub kept : (n : ℕ) (x : Quotient) → l.reaches x (l.quotient_of n) → Found l n (Some x) → Found l (n + 1) (Some x)
  kept n x high (i, best, e) = (
    i,
    record {
      within = let w = best.within in omega arith;
      candidate = best.candidate;
      highest = each_more (λ j. l.candidate j → l.reaches (l.quotient_of i) (l.quotient_of j)) n best.highest (λ d. subst (λ (y : Quotient). l.reaches y (l.quotient_of n)) e high);
      before = best.before;
    },
    e,
  )

  -- the next entry is the first candidate
  pub started : (n : ℕ) → l.candidate n → Found l n None → Found l (n + 1) (Some (l.quotient_of n))
  started n d none = (
    n,
    record {
      within = omega arith;
      candidate = d;
      highest = each_more (λ j. l.candidate j → l.reaches (l.quotient_of n) (l.quotient_of j)) n (λ j less k. absurd (none j less k)) (λ k. ranks.itself (l.quotient_of n));
      before = λ j less k. absurd (none j less k);
    },
    refl,
  )

  -- the next entry stands higher than the one found
  pub taken : (n : ℕ) (x : Quotient) → l.candidate n → l.beats (l.quotient_of n) x → Found l n (Some x) → Found l (n + 1) (Some (l.quotient_of n))
  taken n x d high (i, best, e) =
      let beats_i = subst (λ (y : Quotient). l.beats (l.quotient_of n) y) e high in
      let above : (j : ℕ) → j < n → l.candidate j → l.beats (l.quotient_of n) (l.quotient_of j) =
      λ j less k. ranks.chain (l.quotient_of n) (l.quotient_of i) j k beats_i (best.highest j less k) in (
        n,
        record {
          within = omega arith;
          candidate = d;
          highest = each_more (λ j. l.candidate j → l.reaches (l.quotient_of n) (l.quotient_of j)) n (λ j less k. ranks.weak (l.quotient_of n) (l.quotient_of j) (above j less k)) (λ k. ranks.itself (l.quotient_of n));
          before = above;
        },
        refl,
      )

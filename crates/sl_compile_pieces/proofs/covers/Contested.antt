-- The pairs of a Land and a party whose lists are contested, and their numbers.
use Rattle.std.proofs.Common.{◌≡◌, ℕ, zero, suc, ◌+◌, ◌-◌, ◌<◌, ◌≤◌, ◌&&◌, Bool, true, false, List, [], map, length, nat_eq, nat_lt, refl, sym, ap, ◌∙◌, inl, inr, arith}
use Rattle.std.specs.Prelude.{slice_index, if◌then◌else◌}
use Rattle.std.proofs.lemmas.Bool.{cases_Bool, cases_lt, false≢true, and_parts, and_from, ltb-true, lt-ltb, ne_eqb, false_from_ne_true}
use Rattle.sl_law_meaning.specs.declared.election.Win.{Win}
use Rattle.sl_law_meaning.specs.returns.Election.{Election}
use Rattle.sl_code_semantics.specs.Effects.{one_if}
use Rattle.sl_compile_pieces.proofs.covers.Pairs.{pair_at}
use Rattle.sl_compile_pieces.proofs.covers.Winners.{won}

-- the winners of the list of the pair of that number, and how many they are
abbrev pub winners_at : Election → (ℕ → Bool) → ℕ → List (ℕ × Win)
winners_at e eligible q = won eligible e (pair_at e q)

abbrev pub many_at : Election → (ℕ → Bool) → ℕ → ℕ
many_at e eligible q = length (winners_at e eligible q)

module _ (e : Election) (eligible : ℕ → Bool) (base : List ℕ) where
  -- its list is contested: it has seats, but fewer than winners
  abbrev pub is_contested : ℕ → Bool
  is_contested q = nat_lt 0 (slice_index base q) && nat_lt (slice_index base q) (many_at e eligible q)

  -- so many of the first pairs are contested
  pub contested_before : ℕ → ℕ
  contested_before zero = 0
  contested_before (suc q) = contested_before q + one_if (is_contested q)

  -- a contested pair has its number among such pairs, from 1 on, and any other has 0
  abbrev pub number_of : ℕ → ℕ
  number_of q = if is_contested q then contested_before q + 1 else 0

  -- ---- which pairs are contested

  pub contested_by : (q : ℕ) → 0 < slice_index base q → slice_index base q < many_at e eligible q → is_contested q ≡ true
  contested_by q some fewer =
      and_from (nat_lt 0 (slice_index base q)) (nat_lt (slice_index base q) (many_at e eligible q)) (lt-ltb 0 (slice_index base q) some) (lt-ltb (slice_index base q) (many_at e eligible q) fewer)

  pub contested_parts : (q : ℕ) → is_contested q ≡ true → (0 < slice_index base q) × (slice_index base q < many_at e eligible q)
  contested_parts q is =
      let parts = and_parts (nat_lt 0 (slice_index base q)) (nat_lt (slice_index base q) (many_at e eligible q)) is in
      (ltb-true 0 (slice_index base q) parts.0, ltb-true (slice_index base q) (many_at e eligible q) parts.1)

  pub no_seats_uncontested : (q : ℕ) → slice_index base q ≡ 0 → is_contested q ≡ false
  no_seats_uncontested q none = false_from_ne_true (is_contested q) (λ is. let some = (contested_parts q is).0 in omega (arith, some, none))

  pub all_fit_uncontested : (q : ℕ) → many_at e eligible q ≤ slice_index base q → is_contested q ≡ false
  all_fit_uncontested q enough = false_from_ne_true (is_contested q) (λ is. let fewer = (contested_parts q is).1 in omega (arith, fewer, enough))

  -- with seats there are enough of them
  pub all_fit : (q : ℕ) → is_contested q ≡ false → 0 < slice_index base q → many_at e eligible q ≤ slice_index base q
  all_fit q not some =
      elim (cases_lt (slice_index base q) (many_at e eligible q)) [
        | inl fewer ↦ absurd (false≢true (sym not ∙ contested_by q some fewer))
        | inr enough ↦ enough
      ]

  -- ---- how many there are before a pair

  pub before_none : contested_before 0 ≡ 0
  unfolding contested_before
  before_none = refl

  before_more : (q : ℕ) → contested_before (q + 1) ≡ contested_before q + one_if (is_contested q)
  unfolding contested_before
  before_more q = let next : q + 1 ≡ suc q = omega arith in ap contested_before next

  pub before_contested : (q : ℕ) → is_contested q ≡ true → contested_before (q + 1) ≡ contested_before q + 1
  before_contested q is = before_more q ∙ ap (λ b. contested_before q + one_if b) is

  pub before_other : (q : ℕ) → is_contested q ≡ false → contested_before (q + 1) ≡ contested_before q
  before_other q not = let none : contested_before q + 0 ≡ contested_before q = omega arith in before_more q ∙ ap (λ b. contested_before q + one_if b) not ∙ none

  -- one more at most
  before_step : (q : ℕ) → (contested_before q ≤ contested_before (q + 1)) × (contested_before (q + 1) ≤ contested_before q + 1)
  before_step q =
      elim (cases_Bool (is_contested q)) [
        | inl is ↦ (let next = before_contested q is in (omega (arith, next), omega (arith, next)))
        | inr not ↦ (let next = before_other q not in (omega (arith, next), omega (arith, next)))
      ]

  before_rises : (q more : ℕ) → contested_before q ≤ contested_before (q + more)
  before_rises q zero = let same : q ≡ q + 0 = omega arith in let is = ap contested_before same in omega (arith, is)
  before_rises q (suc more) =
      let same : q + more + 1 ≡ q + suc more = omega arith in
      omega (arith, ap contested_before same, before_rises q more, (before_step (q + more)).0)

  pub before_up_to : (q k : ℕ) → q ≤ k → contested_before q ≤ contested_before k
  before_up_to q k low = let same : q + (k - q) ≡ k = omega (arith, low) in let is = ap contested_before same in let rest = before_rises q (k - q) in omega (arith, is, rest)

  pub before_few : (q : ℕ) → contested_before q ≤ q
  before_few zero = let none = before_none in omega (arith, none)
  before_few (suc q) =
      let next : q + 1 ≡ suc q = omega arith in
      omega (arith, ap contested_before next, before_few q, (before_step q).1)

  -- ---- numbers

  pub number_contested_is : (q : ℕ) → is_contested q ≡ true → number_of q ≡ contested_before q + 1
  number_contested_is q is = ap (λ (b : Bool). if b then contested_before q + 1 else 0) is

  pub number_other_is : (q : ℕ) → is_contested q ≡ false → number_of q ≡ 0
  number_other_is q not = ap (λ (b : Bool). if b then contested_before q + 1 else 0) not

  -- the number of a contested pair is that of no other
  pub number_alone : (k q : ℕ) → is_contested k ≡ true → number_of q ≡ number_of k → q ≡ k
  number_alone k q is same =
      elim (cases_Bool (is_contested q)) [
        | inl too ↦
            (let all : contested_before q + 1 ≡ contested_before k + 1 = sym (number_contested_is q too) ∙ same ∙ number_contested_is k is in
            elim (cases_lt q k) [
              | inl less ↦ absurd (let next = before_contested q too in let rest = before_up_to (q + 1) k (omega (arith, less)) in omega (arith, all, next, rest))
              | inr high ↦
                  elim (cases_lt k q) [
                    | inl more ↦ absurd (let next = before_contested k is in let rest = before_up_to (k + 1) q (omega (arith, more)) in omega (arith, all, next, rest))
                    | inr low ↦ omega (arith, high, low)
                  ]
            ])
        | inr not ↦ absurd (let all : 0 ≡ contested_before k + 1 = sym (number_other_is q not) ∙ same ∙ number_contested_is k is in omega (arith, all))
      ]

  -- ---- who is seated at once

  -- the winners of a pair who are: all of them where the list has a seat for each, and nobody where it is contested or has no seats
  abbrev pub at_once : ℕ → List ℕ
  at_once q = if is_contested q then [] else (if nat_eq (slice_index base q) 0 then [] else map (λ y. y.0) (winners_at e eligible q))

  pub nobody_contested : (q : ℕ) → is_contested q ≡ true → at_once q ≡ []
  nobody_contested q is = ap (λ (b : Bool). if b then [] else (if nat_eq (slice_index base q) 0 then [] else map (λ y. y.0) (winners_at e eligible q))) is

  at_once_of : (q n : ℕ) → is_contested q ≡ false → slice_index base q ≡ n → at_once q ≡ (if nat_eq n 0 then [] else map (λ y. y.0) (winners_at e eligible q))
  at_once_of q n not is =
      ap (λ (b : Bool). if b then [] else (if nat_eq (slice_index base q) 0 then [] else map (λ y. y.0) (winners_at e eligible q))) not
      ∙ ap (λ (m : ℕ). if nat_eq m 0 then [] else map (λ y. y.0) (winners_at e eligible q)) is

  pub nobody_without_seats : (q : ℕ) → slice_index base q ≡ 0 → at_once q ≡ []
  nobody_without_seats q none = at_once_of q 0 (no_seats_uncontested q none) none

  pub everybody_fits : (q n : ℕ) → is_contested q ≡ false → slice_index base q ≡ suc n → at_once q ≡ map (λ y. y.0) (winners_at e eligible q)
  everybody_fits q n not some =
      let other : nat_eq (suc n) 0 ≡ false = ne_eqb (suc n) 0 (λ z. omega (arith, z)) in
      at_once_of q (suc n) not some ∙ ap (λ (b : Bool). if b then [] else map (λ y. y.0) (winners_at e eligible q)) other

-- Where lots name a number first, and which numbers are left of a lot.
use Rattle.std.proofs.Common.{◌≡◌, ◌≢◌, ℕ, zero, suc, ◌<◌, ◌≤◌, Bool, true, false, not, List, [], ◌∷◌, length, get_or, filter, filter_map, Option, Some, None, Contains, refl, sym, ap, subst, ◌∙◌, inl, inr, arith, eq-eqb, ne_eqb, eqb-true}
use Rattle.std.specs.Prelude.{nat_eq, position}
use Rattle.std.specs.List.{position_or_len}
use Rattle.std.specs.List.Sorted.{IsStrictlyIncreasing}
use Rattle.std.proofs.lemmas.Bool.{cases_Bool, cases_eq, cases_lt, lt-ltb, true≢false}
use Rattle.std.proofs.lemmas.List.Kept.{AllPairs-from_increasing}
use Rattle.std.proofs.lemmas.List.Quantifiers.{position-Some}
use Rattle.std.proofs.lemmas.List.Sums.{fails_before_first}
use Rattle.sl_base_rankings.specs.Lot.{place_in_lot}
use Rattle.sl_base_rankings.proofs.LotPlaces.{place_is, place_here, place_later}
use Rattle.sl_base_rankings.proofs.Finding.{Contains-head, Contains-tail, Contains-cases, Contains-none, Contains-filter, filter-Contains}
use Rattle.sl_law_meaning.specs.meaning.Lots.{first_mentions}

-- ---- the place in a lot, number by number

-- the number stands at its place
pub place_at : (xs : List ℕ) (n : ℕ) → Contains xs n → (place_in_lot xs n < length xs) × (get_or xs (place_in_lot xs n) 0 ≡ n)
place_at [] n h = absurd (Contains-none n h)
place_at (x ∷ xs) n h =
    elim (cases_eq x n) [
      | inl e ↦
          let here = place_here x xs n e in
          (omega (arith, here), ap (λ (k : ℕ). get_or (x ∷ xs) k 0) here ∙ e)
      | inr other ↦
          let later : place_in_lot (x ∷ xs) n ≡ suc (place_in_lot xs n) = omega (arith, place_later x xs n other) in
          let behind : Contains xs n = elim (Contains-cases x xs n h) [ inl e ↦ absurd (other e) | inr c ↦ c ] in
          let rest = place_at xs n behind in
          (omega (arith, later, rest.0), ap (λ (k : ℕ). get_or (x ∷ xs) k 0) later ∙ rest.1)
    ]

-- and nowhere before
pub place_least : (xs : List ℕ) (n p : ℕ) → p < length xs → get_or xs p 0 ≡ n → place_in_lot xs n ≤ p
place_least [] n p l h = absurd (omega arith)
place_least (x ∷ xs) n zero l h = let here = place_here x xs n h in omega (arith, here)
place_least (x ∷ xs) n (suc p) l h =
    elim (cases_eq x n) [
      | inl e ↦ let here = place_here x xs n e in omega (arith, here)
      | inr other ↦ let later = place_later x xs n other in let rest = place_least xs n p (omega arith) h in omega (arith, later, rest)
    ]

-- numbers that are named first at one place are one
pub place_apart : (xs : List ℕ) (m n : ℕ) → Contains xs m → Contains xs n → place_in_lot xs m ≡ place_in_lot xs n → m ≡ n
place_apart xs m n h g e = sym (place_at xs m h).1 ∙ ap (λ (k : ℕ). get_or xs k 0) e ∙ (place_at xs n g).1

-- the first of two is not the one that the list begins with, if that is not named first
not_first : (x : ℕ) (xs : List ℕ) (j k : ℕ) → place_in_lot (x ∷ xs) j < place_in_lot (x ∷ xs) k → x ≢ k
not_first x xs j k before e = let here = place_here x xs k e in absurd (omega (arith, before, here))

-- ---- the order of a part of a lot
pub filter_order : (p : ℕ → Bool) (xs : List ℕ) (j k : ℕ) → p j ≡ true → p k ≡ true → place_in_lot xs j < place_in_lot xs k → place_in_lot (filter p xs) j < place_in_lot (filter p xs) k
filter_order p [] j k pj pk before = absurd (omega (arith, before, place_is [] j, place_is [] k))
filter_order p (x ∷ xs) j k pj pk before =
    let after = place_later x xs k (not_first x xs j k before) in
    elim (cases_eq x j) [
      | inl e ↦
          let kept : p x ≡ true = ap p e ∙ pj in
          let here = place_here x (filter p xs) j e in
          let later = place_later x (filter p xs) k (not_first x xs j k before) in
          rw kept (omega (arith, here, later))
      | inr other ↦
          let first = place_later x xs j other in
          let rest = filter_order p xs j k pj pk (omega (arith, before, first, after)) in
          elim (cases_Bool (p x)) [
            | inl t ↦
                let one = place_later x (filter p xs) j other in
                let two = place_later x (filter p xs) k (not_first x xs j k before) in
                rw t (omega (arith, rest, one, two))
            | inr f ↦ rw f rest
          ]
    ]

pub mentions_only : (xs : List ℕ) (j : ℕ) → Contains (first_mentions xs) j → Contains xs j
mentions_only [] j h = h
mentions_only (x ∷ xs) j h =
    elim (Contains-cases x (filter (λ m. not (nat_eq x m)) (first_mentions xs)) j h) [
      | inl e ↦ subst (λ (z : ℕ). Contains (x ∷ xs) z) e (Contains-head x xs)
      | inr c ↦ Contains-tail x xs j (mentions_only xs j (filter-Contains (λ m. not (nat_eq x m)) (first_mentions xs) j c).0)
    ]

kept_other : (x j : ℕ) → x ≢ j → not (nat_eq x j) ≡ true
kept_other x j other = ap not (ne_eqb x j other)

pub mentions_all : (xs : List ℕ) (j : ℕ) → Contains xs j → Contains (first_mentions xs) j
mentions_all [] j h = h
mentions_all (x ∷ xs) j h =
    let left = filter (λ m. not (nat_eq x m)) (first_mentions xs) in
    elim (cases_eq x j) [
      | inl e ↦ subst (λ (z : ℕ). Contains (x ∷ left) z) e (Contains-head x left)
      | inr other ↦
          let behind : Contains xs j = elim (Contains-cases x xs j h) [ inl e ↦ absurd (other e) | inr c ↦ c ] in
          Contains-tail x left j (Contains-filter (λ m. not (nat_eq x m)) (first_mentions xs) j (mentions_all xs j behind) (kept_other x j other))
    ]

pub mentions_order : (xs : List ℕ) (j k : ℕ) → place_in_lot xs j < place_in_lot xs k → place_in_lot (first_mentions xs) j < place_in_lot (first_mentions xs) k
mentions_order [] j k before = before
mentions_order (x ∷ xs) j k before =
    let p : ℕ → Bool = λ m. not (nat_eq x m) in
    let left = filter p (first_mentions xs) in
    let not_k = not_first x xs j k before in
    let after = place_later x xs k not_k in
    let later = place_later x left k not_k in
    elim (cases_eq x j) [
      | inl e ↦ let here = place_here x left j e in omega (arith, here, later)
      | inr other ↦
          let first = place_later x xs j other in
          let rest = mentions_order xs j k (omega (arith, before, first, after)) in
          let kept = filter_order p (first_mentions xs) j k (kept_other x j other) (kept_other x k not_k) rest in
          let one = place_later x left j other in
          omega (arith, kept, one, later)
    ]

-- ---- a lot by places, read among entries with these places

-- each entry by its number, where it is named first
abbrev pub read_among : List ℕ → List ℕ → List ℕ
read_among places lot = first_mentions (filter_map (λ n. position (nat_eq n) places) lot)

module _ (places : List ℕ) (increasing : IsStrictlyIncreasing places) where
  pub apart : (i j : ℕ) → i < length places → j < length places → get_or places i 0 ≡ get_or places j 0 → i ≡ j
  apart i j h g e =
      let pairs = AllPairs-from_increasing places increasing in
      elim (cases_lt i j) [
        | inl low ↦ let below = pairs i j 0 low g in absurd (omega (arith, below, e))
        | inr high ↦ elim (cases_lt j i) [
          | inl above ↦ let below = pairs j i 0 above h in absurd (omega (arith, below, e))
          | inr same ↦ omega (arith, high, same)
        ]
      ]

  abbrev pub number : ℕ → Option ℕ
  number n = position (nat_eq n) places

  number_is : (n i : ℕ) → number n ≡ Some i → (i < length places) × (n ≡ get_or places i 0)
  number_is n i h = let found = position-Some (nat_eq n) places i 0 h in (found.0, eqb-true n (get_or places i 0) found.1)

  pub number_at : (j : ℕ) → j < length places → number (get_or places j 0) ≡ Some j
  number_at j h =
      let p : ℕ → Bool = nat_eq (get_or places j 0) in
      let first = position_or_len p places in
      elim (cases_lt first (length places)) [
        | inl low ↦
            let is : number (get_or places j 0) ≡ Some first = rw (lt-ltb first (length places) low) refl in
            let found = number_is (get_or places j 0) first is in
            is ∙ ap Some (apart first j low h (sym found.1))
        | inr high ↦
            let fails : p (get_or places j 0) ≡ false = fails_before_first p places j 0 (omega (arith, h, high)) in
            absurd (true≢false (sym (eq-eqb (get_or places j 0) (get_or places j 0) refl) ∙ fails))
      ]

  -- ---- the numbers that a lot names
  pub numbers_only : (lot : List ℕ) (j : ℕ) → Contains (filter_map number lot) j → (j < length places) × Contains lot (get_or places j 0)
  numbers_only [] j h = absurd (Contains-none j h)
  numbers_only (n ∷ lot) j h = of (number n) refl h (λ c. numbers_only lot j c)
    where
      of : (o : Option ℕ) → number n ≡ o → Contains (filter_map number (n ∷ lot)) j → (Contains (filter_map number lot) j → (j < length places) × Contains lot (get_or places j 0))
          → (j < length places) × Contains (n ∷ lot) (get_or places j 0)
      of None is g behind =
          let rest = behind (rw is at g) in
          (rest.0, Contains-tail n lot (get_or places j 0) rest.1)
      of (Some i) is g behind = elim (Contains-cases i (filter_map number lot) j (rw is at g)) [
        | inl e ↦
            let found = number_is n i is in
            let here : n ≡ get_or places j 0 = found.1 ∙ ap (λ (k : ℕ). get_or places k 0) e in
            (subst (λ (k : ℕ). k < length places) e found.0, subst (λ (z : ℕ). Contains (n ∷ lot) z) here (Contains-head n lot))
        | inr c ↦ let rest = behind c in (rest.0, Contains-tail n lot (get_or places j 0) rest.1)
      ]

  pub numbers_all : (lot : List ℕ) (j : ℕ) → j < length places → Contains lot (get_or places j 0) → Contains (filter_map number lot) j
  numbers_all [] j low h = absurd (Contains-none (get_or places j 0) h)
  numbers_all (n ∷ lot) j low h = elim (Contains-cases n lot (get_or places j 0) h) [
    | inl e ↦
        let here : number n ≡ Some j = ap number e ∙ number_at j low in
        rw here (Contains-head j (filter_map number lot))
    | inr c ↦ behind (number n) refl (numbers_all lot j low c)
  ]
    where
      behind : (o : Option ℕ) → number n ≡ o → Contains (filter_map number lot) j → Contains (filter_map number (n ∷ lot)) j
      behind None is c = rw is c
      behind (Some i) is c = rw is (Contains-tail i (filter_map number lot) j c)

  pub numbers_order : (lot : List ℕ) (j k : ℕ) → j < length places → k < length places → place_in_lot lot (get_or places j 0) < place_in_lot lot (get_or places k 0)
      → place_in_lot (filter_map number lot) j < place_in_lot (filter_map number lot) k
  numbers_order [] j k low small before = absurd (omega (arith, before, place_is [] (get_or places j 0), place_is [] (get_or places k 0)))
  numbers_order (n ∷ lot) j k low small before = elim (cases_eq n (get_or places j 0)) [
    | inl e ↦
        let here : number n ≡ Some j = ap number e ∙ number_at j low in
        let other : j ≢ k = λ same. not_k (e ∙ ap (λ (i : ℕ). get_or places i 0) same) in
        let one = place_here j (filter_map number lot) j refl in
        let two = place_later j (filter_map number lot) k other in
        rw here (omega (arith, one, two))
    | inr not_j ↦
        let first = place_later n lot (get_or places j 0) not_j in
        let after = place_later n lot (get_or places k 0) not_k in
        of (number n) refl not_j (numbers_order lot j k low small (omega (arith, before, first, after)))
  ]
    where
      not_k : n ≢ get_or places k 0
      not_k = not_first n lot (get_or places j 0) (get_or places k 0) before

      of : (o : Option ℕ) → number n ≡ o → n ≢ get_or places j 0 → place_in_lot (filter_map number lot) j < place_in_lot (filter_map number lot) k
          → place_in_lot (filter_map number (n ∷ lot)) j < place_in_lot (filter_map number (n ∷ lot)) k
      of None is not_j h = rw is h
      of (Some i) is not_j h =
          let found = number_is n i is in
          let away_j : i ≢ j = λ same. not_j (found.1 ∙ ap (λ (k : ℕ). get_or places k 0) same) in
          let away_k : i ≢ k = λ same. not_k (found.1 ∙ ap (λ (k : ℕ). get_or places k 0) same) in
          let one = place_later i (filter_map number lot) j away_j in
          let two = place_later i (filter_map number lot) k away_k in
          rw is (omega (arith, h, one, two))

-- The winners who are chosen, as one more of them is, and where they are placed.
use Rattle.std.proofs.Common.{◌≡◌, ◌≢◌, ℕ, zero, suc, ◌<◌, ◌||◌, ◌==◌, Bool, true, false, List, [], ◌∷◌, ◌++◌, map, filter, length, Some, slice_get, nat_eq, refl, sym, ap, ◌∙◌, inl, inr, arith}
use Rattle.std.specs.Prelude.{slice_index, is_none, if◌then◌else◌}
use Rattle.std.specs.List.{zip}
use Rattle.std.proofs.lemmas.Bool.{cases_Bool, cases_eq, eq-eqb, ne_eqb, or_right}
use Rattle.std.proofs.lemmas.List.{ext_get_or}
use Rattle.std.proofs.lemmas.List.Folds.{list_any-append}
use Rattle.std.proofs.lemmas.Option.{same_Some}
use Rattle.sl_law_meaning.specs.declared.election.Win.{Win}
use Rattle.sl_law_meaning.specs.declared.table.Placed.{Placed}
use Rattle.sl_law_meaning.specs.declared.table.Placed.TheVariants as placed
use Rattle.sl_law_meaning.specs.meaning.Seating.{cover_place}
use Rattle.sl_law_meaning.proofs.meaning.Members.{among}

-- the numbers of the winners with a seat
abbrev pub chosen : List (ℕ × Win) → List ℕ → List ℕ
chosen winners s = map (λ y. y.0.0) (filter (λ y. nat_eq y.1 1) (zip winners s))

swapped : (a b r : Bool) → a || (b || r) ≡ b || (a || r)
swapped true true r = refl
swapped _ true r = refl
swapped _ _ r = refl

pub none_chosen : (winners : List (ℕ × Win)) (s : List ℕ) → ((i : ℕ) → slice_index s i ≡ 0) → chosen winners s ≡ []
none_chosen [] s none = refl
none_chosen (y ∷ winners) [] none = refl
none_chosen (y ∷ winners) (m ∷ s) none =
    rw (ne_eqb m 1 (λ one. omega (arith, one, none 0))) (none_chosen winners s (λ i. none (suc i)))

-- one winner more is chosen
pub one_chosen : (winners : List (ℕ × Win)) (t u : List ℕ) (i : ℕ) (y : ℕ × Win) → slice_get winners i ≡ Some y → i < length t → length u ≡ length t → slice_index t i ≡ 0 →
    slice_index u i ≡ 1 → ((j : ℕ) → j ≢ i → slice_index u j ≡ slice_index t j) → (n : ℕ) → among (chosen winners u) n ≡ nat_eq n y.0 || among (chosen winners t) n
one_chosen [] t u i y at within long none one others n = cc
one_chosen (v ∷ winners) [] u i y at within long none one others n = absurd (omega (arith, within))
one_chosen (v ∷ winners) (m ∷ t) [] i y at within long none one others n = absurd (omega (arith, long))
one_chosen (v ∷ winners) (m ∷ t) (k ∷ u) zero y at within long none one others n =
    let is : v ≡ y = same_Some v y at in
    let now : nat_eq k 1 ≡ true = eq-eqb k 1 one in
    let rest : u ≡ t = ext_get_or 0 u t (omega (arith, long)) (λ j less. others (suc j) (λ same. omega (arith, same))) in
    rw now (rw (ne_eqb m 1 (λ same. omega (arith, same, none))) (λ z. nat_eq n (is z).0 || among (chosen winners (rest z)) n))
one_chosen (v ∷ winners) (m ∷ t) (k ∷ u) (suc i) y at within long none one others n =
    let same : k ≡ m = others 0 (λ z. omega (arith, z)) in
    let rest : among (chosen winners u) n ≡ nat_eq n y.0 || among (chosen winners t) n =
    one_chosen winners t u i y at (omega (arith, within)) (omega (arith, long)) none one (λ j other. others (suc j) (λ z. other (omega (arith, z)))) n in
    elim (cases_Bool (nat_eq m 1)) [
      | inl seated ↦
          let now : nat_eq k 1 ≡ true = ap (λ (h : ℕ). nat_eq h 1) same ∙ seated in
          rw now (rw seated (ap (λ b. nat_eq n v.0 || b) rest ∙ swapped (nat_eq n v.0) (nat_eq n y.0) (among (chosen winners t) n)))
      | inr left ↦
          rw (ap (λ (h : ℕ). nat_eq h 1) same ∙ left) (rw left rest)
    ]

-- ---- places

-- a winner who is chosen is on the list, and all others are placed as before
pub place_more : (earlier ks hs : List ℕ) (m n : ℕ) (w : Win) (before : Placed) → among ks n ≡ nat_eq n m || among hs n → before ≡ cover_place (earlier ++ hs) (n, w) →
    (if n == m then placed.OnList else before) ≡ cover_place (earlier ++ ks) (n, w)
place_more earlier ks hs m n w before more was =
    let lone : Placed = if is_none w.party then placed.Single else placed.Unseated in
    let whole : among (earlier ++ ks) n ≡ among earlier n || (nat_eq n m || among hs n) = list_any-append (nat_eq n) earlier ks ∙ ap (λ b. among earlier n || b) more in
    let old : among (earlier ++ hs) n ≡ among earlier n || among hs n = list_any-append (nat_eq n) earlier hs in
    elim (cases_eq n m) [
      | inl same ↦
          let here : nat_eq n m ≡ true = eq-eqb n m same in
          let on : among (earlier ++ ks) n ≡ true = whole ∙ ap (λ b. among earlier n || (b || among hs n)) here ∙ or_right (among earlier n) true refl in
          ap (λ (b : Bool). if b then placed.OnList else before) here ∙ ap (λ (b : Bool). if b then placed.OnList else lone) (sym on)
      | inr other ↦
          let here : nat_eq n m ≡ false = ne_eqb n m other in
          let on : among (earlier ++ ks) n ≡ among (earlier ++ hs) n = whole ∙ ap (λ b. among earlier n || (b || among hs n)) here ∙ sym old in
          ap (λ (b : Bool). if b then placed.OnList else before) here ∙ was ∙ ap (λ (b : Bool). if b then placed.OnList else lone) (sym on)
    ]

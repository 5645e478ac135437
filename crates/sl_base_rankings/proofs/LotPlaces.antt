-- Where lots name an index first.
use Rattle.std.proofs.Common.{◌≡◌, ◌≢◌, ℕ, ◌+◌, ◌<◌, ◌≤◌, Bool, true, false, not, List, [], ◌∷◌, length, Some, None, refl, sym, ap, ◌∙◌, inl, inr, arith, eq-eqb, ne_eqb, nat_lt}
use Rattle.std.specs.Prelude.{nat_eq}
use Rattle.std.specs.List.{find, position_or_len}
use Rattle.std.specs.Ordering.{nat_cmp, is_le}
use Rattle.std.specs.declared.cmp.Ordering.TheVariants.{Greater}
use Rattle.std.proofs.lemmas.Bool.{cases_Bool, cases_lt, lt-ltb, le-ltb, true≢false}
use Rattle.std.proofs.lemmas.List.Sums.{prefix_len-le-length}
use Rattle.std.proofs.lemmas.Option.{same_Some}
use Rattle.sl_base_quotients.specs.declared.entry.Entry.{Entry}
use Rattle.sl_base_rankings.specs.Lot.{place_in_lot, lot_cmp}
use Rattle.sl_base_rankings.proofs.Finding.{find-Some}

pub place_is : (xs : List ℕ) (n : ℕ) → place_in_lot xs n ≡ position_or_len (λ x. nat_eq x n) xs
place_is xs n =
    let p : ℕ → Bool = λ x. nat_eq x n in
    let most = prefix_len-le-length (λ x. not (p x)) xs in
    elim (cases_lt (position_or_len p xs) (length xs)) [
      | inl low ↦ rw (lt-ltb (position_or_len p xs) (length xs) low) refl
      | inr high ↦ rw (le-ltb (position_or_len p xs) (length xs) high) (let all : length xs ≡ position_or_len p xs = omega (arith, most) in all)
    ]

pub place_here : (x : ℕ) (xs : List ℕ) (n : ℕ) → x ≡ n → place_in_lot (x ∷ xs) n ≡ 0
place_here x xs n h = place_is (x ∷ xs) n ∙ rw (eq-eqb x n h) refl

pub place_later : (x : ℕ) (xs : List ℕ) (n : ℕ) → x ≢ n → place_in_lot (x ∷ xs) n ≡ 1 + place_in_lot xs n
place_later x xs n h = place_is (x ∷ xs) n ∙ (rw (ne_eqb x n h) refl) ∙ ap (λ (k : ℕ). 1 + k) (sym (place_is xs n))

-- what a lot draws before another stands no later in it
pub not_later : (lot : List ℕ) (x y : Entry) → is_le (lot_cmp lot y x) ≡ true → place_in_lot lot x.index ≤ place_in_lot lot y.index
not_later lot x y h =
    let a = place_in_lot lot x.index in
    let b = place_in_lot lot y.index in
    elim (cases_lt b a) [
      | inl earlier ↦
          let low : nat_lt a b ≡ false = le-ltb a b (omega arith) in
          let other : a ≢ b = λ e. omega arith in
          let greater : nat_cmp a b ≡ Greater = rw (low, ne_eqb a b other) refl in
          let refuted : false ≡ true = rw greater at h in
          absurd (true≢false (sym refuted))
      | inr later ↦ later
    ]

-- an index that fails is none that passes
failed : (p : ℕ → Bool) (x n : ℕ) → p x ≡ false → p n ≡ true → x ≢ n
failed p x n f t e = true≢false (sym t ∙ ap p (sym e) ∙ f)

-- of the indexes that pass, the one that a search finds stands before the others
pub found_first : (p : ℕ → Bool) (lot : List ℕ) (n m : ℕ) → find p lot ≡ Some n → p m ≡ true → m ≢ n → place_in_lot lot n < place_in_lot lot m
found_first p [] n m h t other = cc
found_first p (x ∷ xs) n m h t other =
    elim (cases_Bool (p x)) [
      | inl u ↦
          let e : x ≡ n = same_Some x n (sym (rw u refl) ∙ h) in
          let here = place_here x xs n e in
          let later = place_later x xs m (λ f. other (sym f ∙ e)) in
          omega (arith, here, later)
      | inr f ↦
          let behind : find p xs ≡ Some n = sym (rw f refl) ∙ h in
          let rest = found_first p xs n m behind t other in
          let passes = (find-Some p xs n behind).1 in
          let first = place_later x xs n (failed p x n f passes) in
          let second = place_later x xs m (failed p x m f t) in
          omega (arith, rest, first, second)
    ]

-- where it finds none, the lot names none that passes
pub found_none : (p : ℕ → Bool) (lot : List ℕ) (m : ℕ) → find p lot ≡ None → p m ≡ true → place_in_lot lot m ≡ length lot
found_none p [] m h t = refl
found_none p (x ∷ xs) m h t =
    elim (cases_Bool (p x)) [
      | inl u ↦ let found : Some x ≡ None = sym (rw u refl) ∙ h in cc
      | inr f ↦
          let rest = found_none p xs m (sym (rw f refl) ∙ h) t in
          let later = place_later x xs m (failed p x m f t) in
          omega (arith, rest, later)
    ]

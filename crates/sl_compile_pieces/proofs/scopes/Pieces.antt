-- The elements of a list at their places; and lists in pieces, one for each number below another: where the pieces stand.
use Rattle.std.proofs.Common.{◌≡◌, ℕ, zero, suc, ◌+◌, ◌<◌, Bool, List, [], ◌∷◌, ◌++◌, length, map, filter, if◌then◌else◌, Some, refl, ap, subst, ◌∙◌, inl, inr, arith}
use Rattle.std.specs.Prelude.{flat_map, slice_get}
use Rattle.std.specs.List.{range_with_len}
use Rattle.std.proofs.lemmas.Bool.{cases_Bool}
use Rattle.std.proofs.lemmas.List.{length-append, append-nil}
use Rattle.std.proofs.lemmas.Option.{none-some}

module _ {X : Type 0} where
  pub get_left : (xs ys : List X) (i : ℕ) (x : X) → slice_get xs i ≡ Some x → slice_get (xs ++ ys) i ≡ Some x
  get_left [] ys i x at = absurd (none-some x at)
  get_left (y ∷ xs) ys zero x at = at
  get_left (y ∷ xs) ys (suc i) x at = get_left xs ys i x at

  pub get_right : (xs ys : List X) (i : ℕ) → slice_get (xs ++ ys) (length xs + i) ≡ slice_get ys i
  get_right [] ys i = let same : 0 + i ≡ i = omega arith in ap (λ (n : ℕ). slice_get ys n) same
  get_right (x ∷ xs) ys i =
      let same : suc (length xs) + i ≡ suc (length xs + i) = omega arith in
      ap (λ (n : ℕ). slice_get (x ∷ (xs ++ ys)) n) same ∙ get_right xs ys i

-- the piece stands in a list, from place j on
pub record Stands {X : Type 0} (all : List X) (j : ℕ) (piece : List X) : Type 0 where
  pub at : (i : ℕ) (x : X) → slice_get piece i ≡ Some x → slice_get all (j + i) ≡ Some x

module _ {X : Type 0} where
  pub stands_itself : (all : List X) → Stands all 0 all
  stands_itself all = record { at = λ i x h. let same : i ≡ 0 + i = omega arith in subst (λ (n : ℕ). slice_get all n ≡ Some x) same h }

  stands_first : (all : List X) (j : ℕ) (xs ys : List X) → Stands all j (xs ++ ys) → Stands all j xs
  stands_first all j xs ys h = record { at = λ i x is. h.at i x (get_left xs ys i x is) }

  stands_second : (all : List X) (j : ℕ) (xs ys : List X) → Stands all j (xs ++ ys) → Stands all (j + length xs) ys
  stands_second all j xs ys h = record {
    at = λ i x is.
        let same : j + (length xs + i) ≡ j + length xs + i = omega arith in
        subst (λ (n : ℕ). slice_get all n ≡ Some x) same (h.at (length xs + i) x (get_right xs ys i ∙ is));
  }

  module _ (f : ℕ → List X) where
    pub stands_piece : (all : List X) (a n j k : ℕ) → k < n → Stands all j (flat_map f (range_with_len a n)) → Stands all (j + length (flat_map f (range_with_len a k))) (f (a + k))
    stands_piece all a zero j k less h = absurd (omega arith)
    stands_piece all a (suc n) j zero less h =
        let same : a ≡ a + 0 = omega arith in
        let place : j ≡ j + 0 = omega arith in
        subst (λ (m : ℕ). Stands all m (f (a + 0))) place (subst (λ (m : ℕ). Stands all j (f m)) same (stands_first all j (f a) (flat_map f (range_with_len (a + 1) n)) h))
    stands_piece all a (suc n) j (suc k) less h =
        let rest : List X = flat_map f (range_with_len (a + 1) k) in
        let place : j + length (f a) + length rest ≡ j + length (f a ++ rest) = omega (arith, length-append (f a) rest) in
        let same : a + 1 + k ≡ a + suc k = omega arith in
        subst (λ (m : ℕ). Stands all m (f (a + suc k))) place (subst (λ (m : ℕ). Stands all (j + length (f a) + length rest) (f m)) same
        (stands_piece all (a + 1) n (j + length (f a)) k (omega arith) (stands_second all j (f a) (flat_map f (range_with_len (a + 1) n)) h)))

    pub length_next : (a k : ℕ) → length (flat_map f (range_with_len a (k + 1))) ≡ length (flat_map f (range_with_len a k)) + length (f (a + k))
    length_next a zero =
        let same : a ≡ a + 0 = omega arith in
        omega (arith, ap (λ (m : ℕ). length (f m)) same, ap (λ (xs : List X). length xs) (append-nil (f a)))
    length_next a (suc k) =
        let front : List X = flat_map f (range_with_len (a + 1) k) in
        let more : List X = flat_map f (range_with_len (a + 1) (k + 1)) in
        let same : a + 1 + k ≡ a + suc k = omega arith in
        let next : length more ≡ length front + length (f (a + suc k)) = length_next (a + 1) k ∙ ap (λ (m : ℕ). length front + length (f m)) same in
        let all : length (f a ++ more) ≡ length (f a) + length more = length-append (f a) more in
        let some : length (f a ++ front) ≡ length (f a) + length front = length-append (f a) front in
        let order : suc k + 1 ≡ suc (k + 1) = omega arith in
        omega (arith, next, all, some, ap (λ (m : ℕ). length (flat_map f (range_with_len a m))) order)

-- ---- elements that pass a test, as pieces

module _ {X Y : Type 0} (f : X → Y) where
  module _ (p : X → Bool) where
    pub passing_each : (xs : List X) → map f (filter p xs) ≡ flat_map (λ x. if p x then f x ∷ [] else []) xs
    passing_each [] = refl
    passing_each (x ∷ xs) = elim (cases_Bool (p x)) [ inl is ↦ rw is (ap (λ ys. f x ∷ ys) (passing_each xs)) | inr is ↦ rw is (passing_each xs) ]

-- Sums and counts over the numbers from 0 and over winners, one step more.
use Rattle.std.proofs.Common.{◌≡◌, ℕ, suc, ◌+◌, ◌<◌, ◌≤◌, Bool, true, false, cond, List, [], ◌∷◌, ◌++◌, Some, None, length, take, get_or, map, count_by, arith, refl, sym, ap, ◌∙◌, inl, inr, not, append_assoc, subst, ◌||◌, is_some, filter}
use Rattle.std.specs.Prelude.{sum_by, slice_get, nat_lt, if◌then◌else◌}
use Rattle.std.specs.List.{range_with_len, position, position_or_len, list_any, zip, flat_map, All}
use Rattle.std.proofs.lemmas.List.Sums.{sum-map, sum_by_more, position_or_len_is}
use Rattle.std.proofs.lemmas.Bool.{cond-true, cond-false, lt-ltb, le-ltb, cases_lt}
use Rattle.std.proofs.lemmas.List.FromFn.{sum_by-map-range_with_len_more, map-range_with_len_more}
use Rattle.std.proofs.lemmas.Option.{get_or_from_slice_get, slice_get_within, slice_get-get_or}
use Rattle.std.proofs.lemmas.Slice.Zip.{length-zip, get_or-zip}
use Rattle.std.proofs.lemmas.List.{take_all, take_more, map_push, map-id, map-append, append-nil}
use Rattle.std.proofs.lemmas.List.Concat.{flat_map-append}
use Rattle.std.proofs.lemmas.List.Elements.{filter-append}
use Rattle.sl_report_parties.specs.Sums.{one_if}

pub sum_range_more : (f : ℕ → ℕ) (n : ℕ) → sum_by f (range_with_len 0 (n + 1)) ≡ sum_by f (range_with_len 0 n) + f n
sum_range_more f n =
    sym (sum-map f (range_with_len 0 (n + 1)))
    ∙ sum_by-map-range_with_len_more (λ x. x) f 0 n n (omega arith)
    ∙ ap (λ t. t + f n) (sum-map f (range_with_len 0 n))

pub sum_next : {X : Type 0} (f : X → ℕ) (xs : List X) (i : ℕ) (x : X) → slice_get xs i ≡ Some x → sum_by f (take (i + 1) xs) ≡ sum_by f (take i xs) + f x
sum_next f xs i x here =
    sum_by_more f xs i x (slice_get_within xs i x here) ∙ ap (λ y. sum_by f (take i xs) + f y) (get_or_from_slice_get xs i x x here)

pub count_next : {X : Type 0} (p : X → Bool) (xs : List X) (i : ℕ) (x : X) (b : Bool) → slice_get xs i ≡ Some x → b ≡ p x →
    count_by p (take (i + 1) xs) ≡ count_by p (take i xs) + one_if b
count_next p xs i x b here is =
    sum_next (λ x. cond (p x) 1 0) xs i x here ∙ ap (λ t. count_by p (take i xs) + cond {A = ℕ} t 1 0) (sym is)

-- the first element that passes, and none
pub first_is : {X : Type 0} (p : X → Bool) (xs : List X) (i : ℕ) (d : X) → i < length xs → ((k : ℕ) → k < i → p (get_or xs k d) ≡ false) → p (get_or xs i d) ≡ true →
    Some i ≡ position p xs
first_is p xs i d within before here =
    sym (
    ap (λ n. cond (nat_lt n (length xs)) (Some n) None) (position_or_len_is p xs i d (omega arith) before (λ h. here))
    ∙ cond-true (nat_lt i (length xs)) (Some i) None (lt-ltb i (length xs) within))

pub none_is : {X : Type 0} (p : X → Bool) (xs : List X) (d : X) → ((k : ℕ) → k < length xs → p (get_or xs k d) ≡ false) → None ≡ position p xs
none_is p xs d before =
    sym (
    ap (λ n. cond (nat_lt n (length xs)) (Some n) None) (position_or_len_is p xs (length xs) d (omega arith) before (λ h. absurd (omega (arith, h))))
    ∙ cond-false (nat_lt (length xs) (length xs)) (Some (length xs)) None (le-ltb (length xs) (length xs) (omega arith)))

pub range_more : (n : ℕ) → range_with_len 0 (n + 1) ≡ range_with_len 0 n ++ n ∷ []
range_more n = sym (map-id (range_with_len 0 (n + 1))) ∙ map-range_with_len_more (λ k. k) 0 n n (omega arith) ∙ ap (λ xs. xs ++ n ∷ []) (map-id (range_with_len 0 n))

-- one piece more
pub pieces_more : {X : Type 0} (f : ℕ → List X) (n : ℕ) (xs ys : List X) → xs ≡ flat_map f (range_with_len 0 n) → ys ≡ xs ++ f n → ys ≡ flat_map f (range_with_len 0 (n + 1))
pieces_more f n xs ys so_far joined =
    joined ∙ ap (λ zs. zs ++ f n) so_far
    ∙ sym (ap (flat_map f) (range_more n) ∙ flat_map-append f (range_with_len 0 n) (n ∷ []) ∙ ap (λ xs. flat_map f (range_with_len 0 n) ++ xs) (append-nil (f n)))

-- one number more, after others
pub mapped_behind : {X : Type 0} (f : ℕ → X) (n : ℕ) (front xs ys : List X) (x : X) → xs ≡ front ++ map f (range_with_len 0 n) → ys ≡ xs ++ x ∷ [] → x ≡ f n → ys ≡ front ++ map f (range_with_len 0 (n + 1))
mapped_behind f n front xs ys x so_far pushed here =
    pushed ∙ ap (λ zs. zs ++ x ∷ []) so_far ∙ append_assoc front (map f (range_with_len 0 n)) (x ∷ [])
    ∙ ap (λ zs. front ++ zs) (ap (λ v. map f (range_with_len 0 n) ++ v ∷ []) here ∙ sym (map-range_with_len_more f 0 n n (omega arith)))

pub all_at : {X : Type 0} (P : X → Type 0) (xs : List X) (i : ℕ) (x : X) → All P xs → slice_get xs i ≡ Some x → P x
all_at P xs i x all here = subst P (get_or_from_slice_get xs i x x here) (all i x (slice_get_within xs i x here))

pub one_if_le : (b : Bool) → one_if b ≤ 1
one_if_le true = omega arith
one_if_le false = omega arith

pub mapped_more : {X : Type 0} (f : ℕ → X) (n : ℕ) (xs ys : List X) (x : X) → xs ≡ map f (range_with_len 0 n) → ys ≡ xs ++ x ∷ [] → x ≡ f n → ys ≡ map f (range_with_len 0 (n + 1))
mapped_more f n xs ys x so_far pushed here =
    pushed ∙ ap (λ zs. zs ++ x ∷ []) so_far ∙ ap (λ y. map f (range_with_len 0 n) ++ y ∷ []) here ∙ sym (map-range_with_len_more f 0 n n (omega arith))

-- a condition is met exactly where there is a first one
pub any_is : {X : Type 0} (p : X → Bool) (xs : List X) → nat_lt (position_or_len p xs) (length xs) ≡ list_any p xs
any_is p [] = refl
any_is p (x ∷ xs) = go (p x) (any_is p xs) where
  go : (b : Bool) → nat_lt (position_or_len p xs) (length xs) ≡ list_any p xs → nat_lt (cond (not b) (1 + position_or_len p xs) 0) (suc (length xs)) ≡ (b || list_any p xs)
  go true rest = lt-ltb 0 (suc (length xs)) (omega arith)
  go false rest = elim (cases_lt (position_or_len p xs) (length xs)) [
    | inl h ↦ lt-ltb (1 + position_or_len p xs) (suc (length xs)) (omega (arith, h)) ∙ sym (lt-ltb (position_or_len p xs) (length xs) h) ∙ rest
    | inr h ↦ le-ltb (1 + position_or_len p xs) (suc (length xs)) (omega (arith, h)) ∙ sym (le-ltb (position_or_len p xs) (length xs) h) ∙ rest
  ]

pub some_first : {X : Type 0} (p : X → Bool) (xs : List X) → is_some (position p xs) ≡ list_any p xs
some_first p xs = by_test (nat_lt (position_or_len p xs) (length xs)) ∙ any_is p xs
  where
    by_test : (b : Bool) → is_some (cond b (Some (position_or_len p xs)) None) ≡ b
    by_test true = refl
    by_test false = refl

-- ---- two lists, element by element

pub zip_at : {A B : Type 0} (xs : List A) (ys : List B) (i : ℕ) (x : A) (y : B) → slice_get xs i ≡ Some x → slice_get ys i ≡ Some y → slice_get (zip xs ys) i ≡ Some (x, y)
zip_at xs ys i x y at_x at_y =
    let in_x = slice_get_within xs i x at_x in
    let in_y = slice_get_within ys i y at_y in
    slice_get-get_or (zip xs ys) i (x, y) (omega (arith, in_x, in_y, length-zip xs ys))
    ∙ ap Some (get_or-zip xs ys i (x, y) in_x in_y)
    ∙ ap (λ a. Some (a, get_or ys i y)) (get_or_from_slice_get xs i x x at_x)
    ∙ ap (λ b. Some (x, b)) (get_or_from_slice_get ys i y y at_y)

pub map_next : {X Y : Type 0} (f : X → Y) (xs : List X) (i : ℕ) (x : X) (ys zs : List Y) (y : Y) → slice_get xs i ≡ Some x → ys ≡ map f (take i xs) → zs ≡ ys ++ y ∷ [] → y ≡ f x →
    zs ≡ map f (take (i + 1) xs)
map_next f xs i x ys zs y at so_far pushed here =
    pushed ∙ ap (λ w. w ++ y ∷ []) so_far ∙ ap (λ v. map f (take i xs) ++ v ∷ []) here
    ∙ sym (ap (map f) (take_more xs i x (slice_get_within xs i x at) ∙ ap (λ v. take i xs ++ v ∷ []) (get_or_from_slice_get xs i x x at)) ∙ map_push f (take i xs) x)

-- ---- those that pass a test, one number more

map_if : {X : Type 0} (f : ℕ → X) (b : Bool) (n : ℕ) → map f (if b then n ∷ [] else []) ≡ (if b then f n ∷ [] else [])
map_if f true n = refl
map_if f false n = refl

pub filtered_more : {X : Type 0} (f : ℕ → X) (p : ℕ → Bool) (n : ℕ) (xs ys : List X) (b : Bool) → xs ≡ map f (filter p (range_with_len 0 n)) →
    ys ≡ xs ++ (if b then f n ∷ [] else []) → b ≡ p n → ys ≡ map f (filter p (range_with_len 0 (n + 1)))
filtered_more f p n xs ys b so_far pushed test =
    pushed ∙ ap (λ zs. zs ++ (if b then f n ∷ [] else [])) so_far
    ∙ ap (λ t. map f (filter p (range_with_len 0 n)) ++ (if t then f n ∷ [] else [])) test
    ∙ ap (λ zs. map f (filter p (range_with_len 0 n)) ++ zs) (sym (map_if f (p n) n))
    ∙ sym (ap (λ ns. map f (filter p ns)) (range_more n) ∙ ap (map f) (filter-append p (range_with_len 0 n) (n ∷ [])) ∙ map-append f (filter p (range_with_len 0 n)) (filter p (n ∷ [])))

pub filtered_behind : {X : Type 0} (f : ℕ → X) (p : ℕ → Bool) (n : ℕ) (front xs ys : List X) (b : Bool) → xs ≡ front ++ map f (filter p (range_with_len 0 n)) →
    ys ≡ xs ++ (if b then f n ∷ [] else []) → b ≡ p n → ys ≡ front ++ map f (filter p (range_with_len 0 (n + 1)))
filtered_behind f p n front xs ys b so_far pushed test =
    pushed ∙ ap (λ zs. zs ++ (if b then f n ∷ [] else [])) so_far ∙ append_assoc front (map f (filter p (range_with_len 0 n))) (if b then f n ∷ [] else [])
    ∙ ap (λ zs. front ++ zs) (filtered_more f p n (map f (filter p (range_with_len 0 n))) (map f (filter p (range_with_len 0 n)) ++ (if b then f n ∷ [] else [])) b refl refl test)

pub filter_next : {X : Type 0} (p : X → Bool) (xs : List X) (n : ℕ) (x : X) → slice_get xs n ≡ Some x → filter p (take (n + 1) xs) ≡ filter p (take n xs) ++ filter p (x ∷ [])
filter_next p xs n x there =
    ap (filter p) (take_more xs n x (slice_get_within xs n x there) ∙ ap (λ y. take n xs ++ y ∷ []) (get_or_from_slice_get xs n x x there))
    ∙ filter-append p (take n xs) (x ∷ [])

pub kept_more : {X Y : Type 0} (f : X → Y) (p : X → Bool) (xs : List X) (n : ℕ) (x : X) (ys zs : List Y) → slice_get xs n ≡ Some x → ys ≡ map f (filter p (take n xs)) →
    zs ≡ ys ++ (if p x then f x ∷ [] else []) → zs ≡ map f (filter p (take (n + 1) xs))
kept_more {X} {Y} f p xs n x ys zs there so_far pushed =
    pushed ∙ ap (λ v. v ++ (if p x then f x ∷ [] else [])) so_far
    ∙ ap (λ v. map f (filter p (take n xs)) ++ v) (sym (of_one (p x)))
    ∙ sym (map-append f (filter p (take n xs)) (filter p (x ∷ [])))
    ∙ ap (map f) (sym (filter_next p xs n x there))
  where
    of_one : (b : Bool) → map f (if b then x ∷ [] else []) ≡ (if b then f x ∷ [] else [])
    of_one true = refl
    of_one false = refl

-- what passes of one element more is added
pub filter_pushed : {X : Type 0} (p : X → Bool) (xs : List X) (n : ℕ) (x : X) (ys zs : List X) → slice_get xs n ≡ Some x → ys ≡ filter p (take n xs) → zs ≡ ys ++ filter p (x ∷ []) → zs ≡ filter p (take (n + 1) xs)
filter_pushed p xs n x ys zs at so_far more = more ∙ ap (λ v. v ++ filter p (x ∷ [])) so_far ∙ sym (filter_next p xs n x at)

-- a loop that has gone over all of a list, or over all numbers below an end
pub at_end : {X Y : Type 0} (f : List X → Y) (xs : List X) (i : ℕ) (y : Y) → length xs ≤ i → y ≡ f (take i xs) → y ≡ f xs
at_end f xs i y all before = before ∙ ap f (take_all i xs all)

pub at_last : {Y : Type 0} (f : List ℕ → Y) (n m : ℕ) (y : Y) → n ≡ m → y ≡ f (range_with_len 0 n) → y ≡ f (range_with_len 0 m)
at_last f n m y is before = before ∙ ap (λ k. f (range_with_len 0 k)) is

-- Lists of names: what a look-up by bytes finds, and what a name that is added keeps.
use Rattle.std.proofs.Common.{◌≡◌, ℕ, zero, suc, ◌+◌, ◌<◌, ◌≤◌, ◌⊎◌, ◌||◌, Bool, true, false, cond, not, List, [], ◌∷◌, ◌++◌, length, map, Option, Some, None, IfSome, IsTrue, nat_eq, nat_le, nat_lt, slice_get, get_or, refl, sym, ap, ◌∙◌, true≢false, inl, inr, if◌then◌else◌, arith, length-append}
use Rattle.std.specs.List.{list_any, list_all, position, position_or_len}
use Rattle.std.specs.Option.{option_or}
use Rattle.std.specs.Str.{bytes_eq}
use Rattle.std.proofs.lemmas.Bool.Decides.{nat_tests}
use Rattle.std.proofs.lemmas.Bool.{cases_lt, le-leb, lt-leb}
use Rattle.std.proofs.lemmas.List.{length-map, map-append}
use Rattle.std.proofs.lemmas.List.Elements.{All-push}
use Rattle.std.proofs.lemmas.List.Folds.{list_any_at}
use Rattle.std.proofs.lemmas.List.Quantifiers.{position-Some}
use Rattle.std.proofs.lemmas.List.Sums.{fails_before_first}
use Rattle.std.proofs.lemmas.Option.{same_Some, none-some, slice_get_within, slice_get-get_or, get_or_from_slice_get}
use Rattle.std.proofs.lemmas.Slice.Eq.{bytes_eq-Decides}
use Rattle.sl_base_quotients.specs.declared.spelling.TheConstants.{MAX_NAME_BYTES}
use Rattle.sl_base_quotients.specs.declared.spelling.NameFault.TheVariants.{Empty, TooLong, BadByte, Twice, Full}
use Rattle.sl_base_quotients.specs.Names.{NameList, IsNameList, is_name, is_name_byte, has_name, name_fault, spelling_fault, number_of}

-- a search among items by what f reads of them is one among what it reads
module _ {X : Type 0} (f : X → List ℕ) (p : List ℕ → Bool) where
  pub list_any-map : (xs : List X) → list_any p (map f xs) ≡ list_any (λ x. p (f x)) xs
  list_any-map [] = refl
  list_any-map (x ∷ xs) = ap (λ b. p (f x) || b) (list_any-map xs)

  position_or_len-map : (xs : List X) → position_or_len p (map f xs) ≡ position_or_len (λ x. p (f x)) xs
  position_or_len-map [] = refl
  position_or_len-map (x ∷ xs) = ap (λ n. cond (not (p (f x))) (1 + n) 0) (position_or_len-map xs)

  pub position-map : (xs : List X) → position p (map f xs) ≡ position (λ x. p (f x)) xs
  position-map xs = rw (position_or_len-map xs, length-map xs f)

-- a name that stands at a place is found
found_at : (names : List (List ℕ)) (name : List ℕ) (i : ℕ) → slice_get names i ≡ Some name → bytes_eq name (get_or names i name) ≡ true
found_at names name i h = (bytes_eq-Decides name (get_or names i name)).1 (sym (get_or_from_slice_get names i name name h))

has_one : (list : NameList) (name : List ℕ) (i : ℕ) → slice_get list.names i ≡ Some name → has_name list name ≡ true
has_one list name i h = list_any_at (bytes_eq name) list.names i name (slice_get_within list.names i name h) (found_at list.names name i h)

-- what the number of a name says
pub number_within : (list : NameList) (name : List ℕ) (r : Option ℕ) → r ≡ number_of list name → IfSome r (λ i. i < length list.names)
number_within list name None h = _
number_within list name (Some i) h = (position-Some (bytes_eq name) list.names i name (sym h)).0

pub number_stands : (list : NameList) (name : List ℕ) (r : Option ℕ) → r ≡ number_of list name → IfSome r (λ i. slice_get list.names i ≡ Some name)
number_stands list name None h = _
number_stands list name (Some i) h =
    let at = position-Some (bytes_eq name) list.names i name (sym h) in
    let here : name ≡ get_or list.names i name = (bytes_eq-Decides name (get_or list.names i name)).0 at.1 in
    slice_get-get_or list.names i name at.0 ∙ ap Some (sym here)

pub number_lacks : (list : NameList) (name : List ℕ) → number_of list name ≡ None → (i : ℕ) → slice_get list.names i ≡ Some name → ⊥
number_lacks list name none i h =
    elim (cases_lt i (position_or_len (bytes_eq name) list.names)) [
      | inl l ↦ true≢false (sym (found_at list.names name i h) ∙ fails_before_first (bytes_eq name) list.names i name l)
      | inr g ↦
          let in_list : i < length list.names = slice_get_within list.names i name h in
          let first : position_or_len (bytes_eq name) list.names < length list.names = omega arith in
          let there : nat_lt (position_or_len (bytes_eq name) list.names) (length list.names) ≡ true = grind (arith, nat_tests) in
          none-some _ (sym none ∙ ap (λ b. cond b (Some (position_or_len (bytes_eq name) list.names)) None) there)
    ]

-- the faults, each by what it says
module _ (list : NameList) (name : List ℕ) (spelled : spelling_fault name ≡ None) where
  pub is_twice : has_name list name ≡ true → name_fault list name ≡ Some Twice
  is_twice twice = rw (spelled, twice)

  pub is_full : has_name list name ≡ false → list.limit ≤ length list.names → name_fault list name ≡ Some Full
  is_full new full = let f : nat_le list.limit (length list.names) ≡ true = le-leb _ _ full in rw (spelled, new, f)

  pub is_free : has_name list name ≡ false → length list.names < list.limit → name_fault list name ≡ None
  is_free new free = let f : nat_le list.limit (length list.names) ≡ false = lt-leb _ _ free in rw (spelled, new, f)

-- what a list says of a name that can join it
pub record Joins (list : NameList) (name : List ℕ) : Type 0 where
  pub spelled : is_name name ≡ true
  pub new : has_name list name ≡ false
  pub free : length list.names < list.limit

-- where no test gives a fault, each of them has the one answer
tests : (e t g h f : Bool) → option_or (if e then Some Empty else if t then Some TooLong else if not g then Some BadByte else None) (if h then Some Twice else if f then Some Full else None) ≡ None
    → (e ≡ false) × (t ≡ false) × (g ≡ true) × (h ≡ false) × (f ≡ false)
tests true t g h f k = absurd (none-some Empty (sym k))
tests false true g h f k = absurd (none-some TooLong (sym k))
tests false false false h f k = absurd (none-some BadByte (sym k))
tests false false true true f k = absurd (none-some Twice (sym k))
tests false false true false true k = absurd (none-some Full (sym k))
tests false false true false false k = (refl, refl, refl, refl, refl)

pub joins : (list : NameList) (name : List ℕ) → name_fault list name ≡ None → Joins list name
joins list name h =
    let r : (nat_eq (length name) 0 ≡ false) × (nat_lt MAX_NAME_BYTES (length name) ≡ false) × (list_all is_name_byte name ≡ true) × (has_name list name ≡ false) × (nat_le list.limit (length list.names) ≡ false) =
    tests (nat_eq (length name) 0) (nat_lt MAX_NAME_BYTES (length name)) (list_all is_name_byte name) (has_name list name) (nat_le list.limit (length list.names)) h in
    let short : nat_le (length name) MAX_NAME_BYTES ≡ true = grind (arith, nat_tests, r.1) in
    record {
      spelled = rw (r.0, short, r.2);
      new = r.3;
      free = grind (arith, nat_tests, r.4);
    }

-- an element of a list with one more at its end
pushed : (xs : List (List ℕ)) (y : List ℕ) (i : ℕ) (z : List ℕ) → slice_get (xs ++ y ∷ []) i ≡ Some z → (slice_get xs i ≡ Some z) ⊎ ((i ≡ length xs) × (y ≡ z))
pushed [] y zero z h = inr (refl, same_Some y z h)
pushed [] y (suc i) z h = absurd (none-some z h)
pushed (x ∷ xs) y zero z h = inl h
pushed (x ∷ xs) y (suc i) z h = elim (pushed xs y i z h) [ inl l ↦ inl l | inr r ↦ inr (ap suc r.0, r.1) ]

-- what an insertion that finds no equal key adds
pub map-inserted : {X : Type 0} (f : X → List ℕ) (xs : List X) (x : X) (name : List ℕ) → f x ≡ name → list_any (bytes_eq name) (map f xs) ≡ false
    → map f (if list_any (λ y. bytes_eq (f x) (f y)) xs then xs else xs ++ x ∷ []) ≡ map f xs ++ name ∷ []
map-inserted f xs x name e none =
    let absent : list_any (λ y. bytes_eq (f x) (f y)) xs ≡ false =
    sym (list_any-map f (bytes_eq (f x)) xs) ∙ ap (λ n. list_any (bytes_eq n) (map f xs)) e ∙ none in
    rw absent (map-append f xs (x ∷ []) ∙ ap (λ n. map f xs ++ n ∷ []) e)

-- the list with the name is a list of names too
pub with_name : (list : NameList) (name : List ℕ) → name_fault list name ≡ None → IsNameList list → IsNameList (record list { names = list.names ++ name ∷ [] })
with_name list name none is =
    let may = joins list name none in
    let lacks : (i : ℕ) → slice_get list.names i ≡ Some name → ⊥ = λ i h. true≢false (sym (has_one list name i h) ∙ may.new) in
    record {
      within = simp length-append (omega arith);
      spelled = All-push (λ n. IsTrue (is_name n)) list.names name is.spelled may.spelled;
      once = λ n i j hi hj. elim (pushed list.names name i n hi) [
        | inl a ↦ elim (pushed list.names name j n hj) [ inl b ↦ is.once n i j a b | inr b ↦ absurd (lacks i (a ∙ ap Some (sym b.1))) ]
        | inr a ↦ elim (pushed list.names name j n hj) [ inl b ↦ absurd (lacks j (b ∙ ap Some (sym a.1))) | inr b ↦ a.0 ∙ sym b.0 ]
      ];
    }

-- Places in lists of names, and how they stay as names join.
use Rattle.std.proofs.Common.{◌≡◌, ◌≢◌, ◌<◌, ◌+◌, ℕ, Bool, true, false, cond, List, [], ◌∷◌, ◌++◌, length, get_or, Some, None, nat_lt, refl, sym, ap, subst, ◌∙◌, arith, if◌then◌else◌}
use Rattle.std.specs.Str.{bytes_eq}
use Rattle.std.proofs.lemmas.Bool.{ltb-true, lt-ltb}
use Rattle.std.proofs.lemmas.List.{length_push}
use Rattle.std.proofs.lemmas.List.Sums.{passes_at_first}
use Rattle.std.proofs.lemmas.Option.{none-some, slice_get-get_or}
use Rattle.std.proofs.lemmas.Slice.Eq.{bytes_eq-Decides}
use Rattle.sl_base_quotients.specs.Names.{IsNameList}
use Rattle.sl_returns.specs.Cells.{is_blank, number_in, place_in, place_or_none}

-- the list has the name
abbrev pub Known : List (List ℕ) → List ℕ → Type 0
Known names name = place_in names name < length names

-- a name that was found is known, and one that was not is not
pub known : (names : List (List ℕ)) (name : List ℕ) (n : ℕ) → number_in names name ≡ Some n → Known names name
known names name n h = go (nat_lt (place_in names name) (length names)) refl h
  where
    go : (b : Bool) → nat_lt (place_in names name) (length names) ≡ b → cond b (Some (place_in names name)) None ≡ Some n → Known names name
    go true e h = ltb-true (place_in names name) (length names) e
    go false e h = absurd (none-some n h)

unknown : (names : List (List ℕ)) (name : List ℕ) → number_in names name ≡ None → Known names name → ⊥
unknown names name h k =
    let within : nat_lt (place_in names name) (length names) ≡ true = lt-ltb (place_in names name) (length names) k in
    none-some (place_in names name) (sym h ∙ ap (λ b. cond b (Some (place_in names name)) None) within)

-- a known name is no new one
pub new_differs : (names : List (List ℕ)) (old new : List ℕ) → Known names old → number_in names new ≡ None → bytes_eq old new ≡ false
new_differs names old new k h = go (bytes_eq old new) refl
  where
    go : (b : Bool) → bytes_eq old new ≡ b → bytes_eq old new ≡ false
    go false e = e
    go true e = absurd (unknown names new h (subst (λ n. Known names n) ((bytes_eq-Decides old new).0 e) k))

-- a known name keeps its place as another joins
place_push : (names : List (List ℕ)) (name new : List ℕ) → Known names name → place_in (names ++ new ∷ []) name ≡ place_in names name
place_push [] name new k = absurd (omega arith)
place_push (x ∷ names) name new k = go (bytes_eq name x) refl (place_push names name new)
  where
    go : (b : Bool) → bytes_eq name x ≡ b → (Known names name → place_in (names ++ new ∷ []) name ≡ place_in names name) → place_in ((x ∷ names) ++ new ∷ []) name ≡ place_in (x ∷ names) name
    go true e more = rw e refl
    go false e more =
        let there : Known names name = let l = rw e at k in omega arith in
        rw e (ap (λ n. 1 + n) (more there))

known_push : (names : List (List ℕ)) (name new : List ℕ) → Known names name → Known (names ++ new ∷ []) name
known_push names name new k = omega (arith, place_push names name new k, length_push names new)

-- the name at its place
pub at_place : (names : List (List ℕ)) (name : List ℕ) → Known names name → get_or names (place_in names name) [] ≡ name
at_place names name k = sym ((bytes_eq-Decides name (get_or names (place_in names name) [])).0 (passes_at_first (bytes_eq name) names [] k))

-- the names at other places are others
pub elsewhere : (limit : ℕ) (names : List (List ℕ)) (name : List ℕ) (k : ℕ) → IsNameList (record { limit = limit; names = names }) → Known names name → k < length names → k ≢ place_in names name
    → bytes_eq name (get_or names k []) ≡ false
elsewhere limit names name k is known within ne = go (bytes_eq name (get_or names k [])) refl
  where
    go : (b : Bool) → bytes_eq name (get_or names k []) ≡ b → bytes_eq name (get_or names k []) ≡ false
    go false e = e
    go true e =
        let same : name ≡ get_or names k [] = (bytes_eq-Decides name (get_or names k [])).0 e in
        let here = slice_get-get_or names k [] within ∙ ap Some (sym same) in
        let there = slice_get-get_or names (place_in names name) [] known ∙ ap Some (at_place names name known) in
        absurd (ne (is.once name k (place_in names name) here there))

-- ---- names that are kept as others join

-- the list has the name, or the name is empty
abbrev pub KnownOrNone : List (List ℕ) → List ℕ → Type 0
KnownOrNone names name = is_blank name ≡ false → Known names name

-- each name keeps its place in a longer list
pub record Keeps (names more : List (List ℕ)) : Type 0 where
  pub known : (name : List ℕ) → Known names name → Known more name
  pub place : (name : List ℕ) → Known names name → place_in more name ≡ place_in names name

pub keeps_same : (names : List (List ℕ)) → Keeps names names
keeps_same names = record { known = λ name k. k; place = λ name k. refl }

pub keeps_push : (names : List (List ℕ)) (new : List ℕ) → Keeps names (names ++ new ∷ [])
keeps_push names new = record { known = λ name k. known_push names name new k; place = λ name k. place_push names name new k }

pub keeps_or_none : (names more : List (List ℕ)) (name : List ℕ) → Keeps names more → KnownOrNone names name → place_or_none more name ≡ place_or_none names name
keeps_or_none names more name keeps known = go (is_blank name) known
  where
    go : (b : Bool) → (b ≡ false → Known names name) → (if b then None else Some (place_in more name)) ≡ (if b then None else Some (place_in names name))
    go true h = refl
    go false h = ap Some (keeps.place name (h refl))

-- Indexes that have marks, or that a lot names.
use Rattle.std.specs.Prelude.{◌≡◌, ◌+◌, ◌<◌, ◌≤◌, ℕ, All, Bool, true, cond, Contains, List, Option, length, nat_eq, slice_index_or}
use Rattle.std.specs.List.{count_by, find, list_any}
use Rattle.sl_base_quotients.specs.declared.entry.Entry.{Entry}
use Rattle.sl_base_rankings.specs.Lot.{place_in_lot}

-- whether a lot names an index
abbrev pub names : List ℕ → ℕ → Bool
names lot index = list_any (λ named. nat_eq named index) lot

-- whether an entry has an index
abbrev pub have_index : List Entry → ℕ → Bool
have_index xs index = list_any (λ x. nat_eq x.index index) xs

-- the first name of a lot that is the index of an entry
abbrev pub first_named : List ℕ → List Entry → Option ℕ
first_named lot xs = find (have_index xs) lot

-- a lot names none of some entries before a place
abbrev pub IsPassed : List ℕ → ℕ → List Entry → Type 0
IsPassed lot place xs = All (λ x. place ≤ place_in_lot lot x.index) xs

-- each index that has a mark is marked exactly if it passes
abbrev pub AreMarks : (ℕ → Bool) → List Bool → Type 0
AreMarks test marks = (index : ℕ) (d : Bool) → index < length marks → slice_index_or marks index d ≡ test index

-- the index of each of some entries has a mark, as far as there are marks; others may have one, too
abbrev pub HaveMarks : List Entry → List Bool → Type 0
HaveMarks xs marks = (x : Entry) → Contains xs x → (d : Bool) → x.index < length marks → slice_index_or marks x.index d ≡ true

-- no two of some entries have one index, nor has one of them an index that passes
abbrev pub AreApartFrom : (ℕ → Bool) → List Entry → Type 0
AreApartFrom before xs = (index : ℕ) → cond (before index) 1 0 + count_by (λ x. nat_eq x.index index) xs ≤ 1

-- no two of some entries have one index
abbrev pub AreApart : List Entry → Type 0
AreApart xs = (index : ℕ) → count_by (λ x. nat_eq x.index index) xs ≤ 1

-- The order of a table's seat steps and of its weights (docs/output.md, section 1).
use Rattle.std.specs.Prelude.{ℕ, Bool, List, [], ◌∷◌, ◌++◌, if◌then◌else◌}
use Rattle.std.specs.Cmp.Lexicographic.{slice_cmp}
use Rattle.std.specs.Ordering.{is_lt, nat_cmp}
use Rattle.sl_law_meaning.specs.declared.fault.Item.{Item}
use Rattle.sl_law_meaning.specs.declared.fault.Item.TheVariants as item
use Rattle.sl_law_meaning.specs.declared.fault.Scope.{Scope}
use Rattle.sl_law_meaning.specs.declared.fault.Scope.TheVariants as scope
use Rattle.sl_law_meaning.specs.declared.table.SeatStep.{SeatStep}
use Rattle.sl_law_meaning.specs.declared.table.Weight.{Weight}

-- ---- keys

-- the kind of a scope, and its numbers
abbrev pub scope_key : Scope → List ℕ
scope_key scope.All = 0 ∷ 0 ∷ 0 ∷ []
scope_key (scope.Land land) = 1 ∷ land ∷ 0 ∷ []
scope_key (scope.Party party) = 2 ∷ party ∷ 0 ∷ []
scope_key (scope.List land party) = 3 ∷ land ∷ party ∷ []

-- the kind of an entry, and its numbers
abbrev pub item_key : Item → List ℕ
item_key (item.Party party) = 0 ∷ party ∷ 0 ∷ []
item_key (item.Land land) = 1 ∷ land ∷ 0 ∷ []
item_key (item.List land party) = 2 ∷ land ∷ party ∷ []
item_key (item.Win win) = 3 ∷ win ∷ 0 ∷ []

-- of a seat step: the stage, the scope, the step, the entry, and its seat's number
abbrev pub step_key : SeatStep → List ℕ
step_key x = x.stage ∷ scope_key x.scope ++ (x.step ∷ item_key x.entry ++ x.n ∷ [])

-- a stage, a scope, and an entry
abbrev pub entry_key : ℕ → Scope → Item → List ℕ
entry_key stage scope entry = stage ∷ scope_key scope ++ item_key entry

abbrev pub weight_key : Weight → List ℕ
weight_key w = entry_key w.stage w.scope w.entry

-- ---- the order by a key

module _ {A : Type 0} (key : A → List ℕ) where
  -- whether x has the lesser key: the first number that differs is less
  abbrev pub is_before : A → A → Bool
  is_before x y = is_lt (slice_cmp nat_cmp (key x) (key y))

  -- x among others in order, before those of the same key
  abbrev pub with_one : A → List A → List A
  with_one x [] = x ∷ []
  with_one x (y ∷ ys) = if is_before y x then y ∷ with_one x ys else x ∷ y ∷ ys

  -- in order, those of one key as they stood
  abbrev pub in_order : List A → List A
  in_order [] = []
  in_order (x ∷ xs) = with_one x (in_order xs)

-- The bounds of a table's scopes, and their lines (docs/output.md, section 1).
use Rattle.std.specs.Prelude.{◌≡◌, ℕ, ◌<◌, ◌≤◌, ◌⊎◌, Bool, ◌&&◌, List, [], ◌∷◌, ◌++◌, All, Option, Some, None, map, flat_map, sum, count_by, codes, nat_eq, if◌then◌else◌}
use Rattle.std.specs.Ordering.{is_eq}
use Rattle.sl_base_quotients.specs.declared.limits.TheConstants.{MAX_WEIGHT, MAX_SEATS}
use Rattle.sl_base_quotients.specs.declared.method.Divisor.{Divisor}
use Rattle.sl_base_quotients.specs.Quotient.{Quotient, compare}
use Rattle.sl_base_quotients.specs.Bounds.{IsRounding, AreBounds}
use Rattle.sl_law_meaning.specs.declared.table.SeatStep.{SeatStep}
use Rattle.sl_law_meaning.specs.declared.table.Weight.{Weight}
use Rattle.sl_law_meaning.specs.laws.MeaningLaws.{same_scope}
use Rattle.sl_law_meaning.specs.meaning.Scopes.{same_item}
use Rattle.sl_law_meaning.specs.meaning.Tables.{SeatTable}
use Rattle.sl_law_meaning.specs.returns.Election.{Election}
use Rattle.sl_count_texts.specs.Faults.{stage_word, scope_words}
use Rattle.sl_count_texts.specs.Lines.{line, ratio_word}
use Rattle.sl_count_texts.specs.Orders.{weight_key, in_order}
use Rattle.sl_count_texts.specs.declared.bounds.ScopeBounds.{ScopeBounds}

-- ---- the weights of each scope

module _ {A : Type 0} (together : A → A → Bool) where
  -- x before the groups of what follows it: in the first of them, where x and what follows it go together
  abbrev pub before_groups : A → List (List A) → List (List A)
  before_groups x ((y ∷ ys) ∷ groups) = if together x y then (x ∷ y ∷ ys) ∷ groups else (x ∷ []) ∷ (y ∷ ys) ∷ groups
  before_groups x groups = (x ∷ []) ∷ groups

  -- a list, parted wherever an element and the next do not go together
  abbrev pub groups : List A → List (List A)
  groups [] = []
  groups (x ∷ xs) = before_groups x (groups xs)

-- two weights are of one scope of one stage
abbrev pub is_one_scope : Weight → Weight → Bool
is_one_scope v w = nat_eq v.stage w.stage && same_scope v.scope w.scope

-- the weights of one scope of one stage after another, by stages and scopes; in each the weights in entry order
abbrev pub scope_weights : SeatTable → List (List Weight)
scope_weights t = groups is_one_scope (in_order weight_key t.weights)

-- ---- the seats of the entries

-- a seat step is of a weight's stage, scope and entry
abbrev pub is_of_entry : Weight → SeatStep → Bool
is_of_entry w x = (nat_eq w.stage x.stage && same_scope w.scope x.scope) && same_item w.entry x.entry

-- the seats of a weight's entry: its seat steps there
abbrev pub seats_of : SeatTable → Weight → ℕ
seats_of t w = count_by (is_of_entry w) t.steps

-- ---- bounds

-- a weight for which bounds are given, by a method
pub record IsBoundsWeight (method : Divisor) (w : Weight) : Type 0 where
  pub by : w.divisor ≡ method
  pub positive : 1 ≤ w.weight
  pub limit : w.weight ≤ MAX_WEIGHT

-- bounds are given for a scope of these weights and seats: all weights are by the method, which rounds, no number is past its limit, and a seat
-- was awarded
pub record TellsBounds (method : Divisor) (ws : List Weight) (seats : List ℕ) : Type 0 where
  pub rounding : IsRounding method
  pub weights : All (IsBoundsWeight method) ws
  pub held : All (λ s. s ≤ MAX_SEATS) seats
  pub awarded : 0 < sum seats

-- the pair of bounds that is given for a scope, if any
abbrev pub IsToldPair : Divisor → List Weight → List ℕ → Option (Quotient × Quotient) → Type 0
IsToldPair method ws seats pair =
    (TellsBounds method ws seats × AreBounds method (map (λ w. w.weight) ws) seats pair)
    ⊎ ((¬ TellsBounds method ws seats) × (pair ≡ None))

-- the pair that is told of a scope, of the first weight's stage and scope
abbrev pub told : Weight → Option (Quotient × Quotient) → List ScopeBounds
told w (Some (last, next)) = record { stage = w.stage; scope = w.scope; last = last; next = next } ∷ []
told w None = []

-- where each weight's entry has so many seats
module _ (seats : Weight → ℕ) where
  -- the bounds of a scope, by its weights: one pair or none. The first of them names the method
  abbrev pub IsBoundsOf : List Weight → List ScopeBounds → Type 0
  IsBoundsOf [] found = found ≡ []
  IsBoundsOf (w ∷ ws) found =
      (pair : Option (Quotient × Quotient)) × IsToldPair w.divisor (w ∷ ws) (map seats (w ∷ ws)) pair × (found ≡ told w pair)

  -- the bounds of scopes, one after another
  abbrev pub AreScopeBounds : List (List Weight) → List ScopeBounds → Type 0
  AreScopeBounds [] found = found ≡ []
  AreScopeBounds (ws ∷ scopes) found = (first rest : List ScopeBounds) × IsBoundsOf ws first × AreScopeBounds scopes rest × (found ≡ first ++ rest)

-- the bounds of a table's scopes
abbrev pub AreBoundsOf : SeatTable → List ScopeBounds → Type 0
AreBoundsOf t found = AreScopeBounds (seats_of t) (scope_weights t) found

-- a lot decided between two bounds: they are equal
abbrev pub is_lot : ScopeBounds → Bool
is_lot b = is_eq (compare b.last b.next)

-- ---- lines

module _ (names : List (List ℕ)) (e : Election) where
  -- the line of a scope's bounds
  abbrev pub bounds_line : ScopeBounds → List ℕ
  bounds_line b =
      line (codes "bounds" ∷ stage_word names b.stage ∷ scope_words e b.scope ++ (ratio_word b.last ∷ ratio_word b.next ∷ (if is_lot b then codes "lot" ∷ [] else [])))

-- the lines of the bounds of a table's scopes, where the stages have those names
abbrev pub IsBoundsLines : List (List ℕ) → SeatTable → Election → List ℕ → Type 0
IsBoundsLines names t e text = (found : List ScopeBounds) × AreBoundsOf t found × (text ≡ flat_map (bounds_line names e) found)

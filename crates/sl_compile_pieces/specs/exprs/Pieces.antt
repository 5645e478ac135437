-- The plans of an expression: those of its arguments from left to right, and then its own (docs/compiler.md, section 4).
use Rattle.std.specs.Prelude.{ℕ, ◌+◌, List, [], ◌∷◌, ◌++◌, Option, None, Some, option_map, position, unwrap_or}
use Rattle.sl_base_quotients.specs.declared.method.Method.{Method}
use Rattle.sl_base_quotients.specs.declared.method.Method.TheVariants as by
use Rattle.sl_law_meaning.specs.declared.book.Majority.{Majority}
use Rattle.sl_base_terms.specs.declared.shape.Shape.{Shape}
use Rattle.sl_base_terms.specs.declared.shape.Shape.TheVariants as shape
use Rattle.sl_law_meaning.specs.book.Trees.{ExprTree, fact, name, sum, pair, split, without, atleast, grow}
use Rattle.sl_law_meaning.specs.book.Typing.{Column, type_of, is_named}
use Rattle.sl_compile_plans.specs.Trees.{Tree}
use Rattle.sl_compile_pieces.specs.declared.arguments.Arguments.{Arguments}
use Rattle.sl_compile_pieces.specs.scopes.Forms.{Form, AllParties, AllLands, AllLists, ListsOfParty, ListsInLand}
use Rattle.sl_compile_pieces.specs.seats.Slots.{Slots}
use Rattle.sl_compile_pieces.specs.nodes.Trees.{split_tree, grow_tree}
use Rattle.sl_compile_pieces.specs.columns.Trees.{copy_tree, pair_tree, sum_tree, summed}
use Rattle.sl_compile_pieces.specs.exprs.Slots.{fact_slots, passing, stage_slot}

-- the form by the shapes of the amounts and of the votes; no seats are split otherwise
abbrev pub form_by : Shape → Shape → Form
form_by shape.One shape.Land = AllLands
form_by shape.One shape.List = AllLists
form_by shape.Party votes = ListsOfParty
form_by shape.Land votes = ListsInLand
form_by amounts votes = AllParties

module _ (types : List Column) where
  abbrev pub shape_of : ExprTree → Shape
  shape_of x = (type_of types x).shape

  -- the slot in which the plans of an expression leave its column: a fact's own, and else the passing one of its shape on that level
  abbrev pub slot_of : ℕ → ExprTree → ℕ
  slot_of level (fact at told) = fact_slots.of told
  slot_of level x = passing level (shape_of x)

  -- those of seats and votes, and of minima if there are any, one level after the other
  abbrev pub arguments_at : ℕ → (s v : ExprTree) → Option ExprTree → Arguments
  arguments_at level s v m = record { amounts = slot_of level s; votes = slot_of (level + 1) v; minima = option_map (slot_of (level + 2)) m }

module _ (types : List Column) (stage : ℕ) where
  -- the slots of a split, whose result goes to the scratch column of the votes' shape
  abbrev pub node_slots : ℕ → Arguments → (votes : Shape) → Slots
  node_slots level from votes = record {
    stage = stage;
    amounts = from.amounts;
    votes = from.votes;
    minima = from.minima;
    result = passing level votes;
  }

  abbrev pub split_piece : ℕ → (seats votes : Shape) → Arguments → Method → Majority → List Tree
  split_piece level seats votes from method majority = split_tree (form_by seats votes) (node_slots level from votes) method majority ∷ []

  abbrev pub grow_piece : ℕ → (seats votes : Shape) → Arguments → Method → Majority → ℕ → List Tree
  grow_piece level seats votes from (by.Divisor d) majority cap = grow_tree (form_by seats votes) (node_slots level from votes) d majority cap ∷ []
  grow_piece level seats votes from by.Hamilton majority cap = []

  -- a fact stands in its slot already, and the column of a stage is copied; they write none of a lower level
  abbrev pub pieces : ℕ → ExprTree → List Tree
  pieces level (fact at told) = []
  pieces level (name at n) = copy_tree (shape_of types (name at n)) (stage_slot (unwrap_or (position (is_named n) types) 0)) (passing level (shape_of types (name at n))) ∷ []
  pieces level (sum at x over) = pieces level x ++ sum_tree over (shape_of types x) (slot_of types level x) (passing level (summed over)) ∷ []
  pieces level (pair at pairing l r) =
      pieces level l ++ (pieces (level + 1) r ++ pair_tree pairing (shape_of types l) (slot_of types level l) (slot_of types (level + 1) r) (passing level (shape_of types l)) ∷ [])
  pieces level (split at s v method without majority) =
      pieces level s ++ (pieces (level + 1) v ++ split_piece level (shape_of types s) (shape_of types v) (arguments_at types level s v None) method majority)
  pieces level (split at s v method (atleast m) majority) =
      pieces level s ++ (pieces (level + 1) v ++ (pieces (level + 2) m
      ++ split_piece level (shape_of types s) (shape_of types v) (arguments_at types level s v (Some m)) method majority))
  pieces level (grow at s v method m cap majority) =
      pieces level s ++ (pieces (level + 1) v ++ (pieces (level + 2) m
      ++ grow_piece level (shape_of types s) (shape_of types v) (arguments_at types level s v (Some m)) method majority cap.value))

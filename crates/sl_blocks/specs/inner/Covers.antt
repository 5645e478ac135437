-- A covering as a block: the caller's conditions, and what the block does (docs/blocks.md, section 6).
use Rattle.std.specs.Prelude.{◌≡◌, ◌≢◌, ℕ, ◌<◌, Bool, List, [], ◌∷◌, Some, nat_eq, slice_get, slice_index, slice_index_or}
use Rattle.sl_base_terms.specs.declared.shape.Shape.{Shape}
use Rattle.sl_base_terms.specs.declared.shape.Shape.TheVariants as shape
use Rattle.sl_law_meaning.specs.declared.table.Placed.TheVariants as placed
use Rattle.sl_law_meaning.specs.returns.Election.{Election, parties_of}
use Rattle.sl_code_instructions.specs.declared.instr.Instr.{Instr}
use Rattle.sl_code_instructions.specs.declared.instr.Instr.TheVariants.{Get, Zero, Store}
use Rattle.sl_code_semantics.specs.State.{State}
use Rattle.sl_code_semantics.specs.Effects.{one_if}
use Rattle.sl_code_semantics.specs.Memories.{column_of}
use Rattle.sl_compile_plans.specs.Trees.{Tree, Then}
use Rattle.sl_compile_pieces.specs.declared.registers.TheConstants as reg
use Rattle.sl_compile_pieces.specs.covers.Trees.{CoverSlots, place_singles, count_winners, number_contested, seat_uncontested}
use Rattle.sl_compile_pieces.specs.covers.Covering.{AreCovered, EndsInTie}
use Rattle.sl_blocks.specs.Blocks.{HasSlotsOf, IsShareBlock}

-- among slots of these shapes those of the covering are there, and the one that it writes is not that of the seats
pub record IsCoverJob (shapes : List Shape) (x : CoverSlots) : Type 0 where
  pub base : slice_get shapes x.base ≡ Some shape.List
  pub eligible : slice_get shapes x.eligible ≡ Some shape.Party
  pub numbers : slice_get shapes x.numbers ≡ Some shape.List
  pub apart : x.base ≢ x.numbers

-- the slots of a covering: the numbers of the lists stand in the first scratch slot by list
abbrev pub cover_slots : (base eligible : ℕ) (scratch : List (List ℕ)) → CoverSlots
cover_slots base eligible scratch = record { base = base; eligible = eligible; numbers = slice_index (slice_index_or scratch 3 []) 0 }

-- the instructions of the blanks in the plan of a covering
abbrev pub cover_given : CoverSlots → List Instr
cover_given x =
    Get reg.WEIGHT x.numbers
    ∷ (Get reg.BASE x.eligible
    ∷ (Get reg.LEFT x.base ∷ (Zero x.numbers ∷ (Store x.numbers reg.WEIGHT ∷ (Store x.numbers reg.SECOND_PASSING ∷ [])))))

-- the plan of a covering with this for the contested lists
abbrev pub cover_with : CoverSlots → Tree → Tree
cover_with x contested = Then place_singles (Then (count_winners x) (Then (number_contested x) (Then (seat_uncontested x) contested)))

-- the parties whose cell is 1
abbrev pub flagged : CoverSlots → State → ℕ → Bool
flagged x s party = nat_eq (s.columns x.eligible party) 1

-- where the block begins, no winner is placed, and each cell of the eligible parties is 0 or 1
pub record BeginsCover (x : CoverSlots) (e : Election) (s : State) : Type 0 where
  pub nobody : (winner : ℕ) → s.placed winner ≡ placed.Unseated
  pub flags : (party : ℕ) → party < parties_of e → s.columns x.eligible party ≡ one_if (flagged x s party)

-- the code after is the code before with the block of that covering
abbrev pub IsCoverBlock : (shapes : List Shape) → CoverSlots → List Instr → List Instr → Type 0
IsCoverBlock shapes x before after =
    IsShareBlock (HasSlotsOf shapes) (λ code e s. BeginsCover x e s)
    (λ code e s. AreCovered code e x (flagged x s) (column_of code e s x.base) s) (λ code e s. EndsInTie code e (flagged x s) (column_of code e s x.base)) before after

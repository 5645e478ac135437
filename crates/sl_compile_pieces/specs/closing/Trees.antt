-- The plans of a book's last clause: who sits in the end, and which seats stay vacant (docs/compiler.md, section 6).
use Rattle.std.specs.Prelude.{ℕ, List, [], ◌∷◌, ◌++◌, Option, None, Some, position, unwrap_or}
use Rattle.sl_law_meaning.specs.declared.book.Pairing.TheVariants as pairings
use Rattle.sl_law_meaning.specs.declared.book.Base.{Base}
use Rattle.sl_law_meaning.specs.declared.book.Base.TheVariants as base
use Rattle.sl_law_meaning.specs.declared.book.LastClause.{LastClause}
use Rattle.sl_law_meaning.specs.declared.book.Seating.{Seating}
use Rattle.sl_law_meaning.specs.declared.book.Seating.TheVariants as seating
use Rattle.sl_base_terms.specs.declared.shape.Shape.TheVariants as shape
use Rattle.sl_law_meaning.specs.book.Typing.{Column, is_named}
use Rattle.sl_code_instructions.specs.declared.instr.Instr.{Instr}
use Rattle.sl_code_instructions.specs.declared.instr.Instr.TheVariants.{Input, Seat, Single, Halt, Haltv}
use Rattle.sl_code_instructions.specs.declared.operand.Input.TheVariants as input
use Rattle.sl_compile_plans.specs.declared.plan.Cursor.TheVariants as cursor
use Rattle.sl_compile_plans.specs.Trees.{Tree, Line, Each}
use Rattle.sl_compile_pieces.specs.columns.Trees.{copy_tree, pair_tree}
use Rattle.sl_compile_pieces.specs.facts.Trees.{by_winner}
use Rattle.sl_compile_pieces.specs.covers.Trees.{CoverSlots, cover_tree}
use Rattle.sl_compile_pieces.specs.exprs.Slots.{fact_slots, winners_slot, pair_numbers, names_left, vacant_seats, passing, stage_slot}

-- the slot of the base column: that of a fact, or of a stage
abbrev pub base_slot : List Column → Base → ℕ
base_slot types base.Winners = winners_slot
base_slot types (base.Stage n) = stage_slot (unwrap_or (position (is_named n) types) 0)

-- the seats of the lists in the end; no expression is left that passes columns
abbrev pub final_seats : ℕ
final_seats = passing 0 shape.List

-- every winner of an eligible party with a list in the Land sits on it, and every other one as a single
abbrev pub place_kept : Tree
place_kept = Each cursor.Win (by_winner fact_slots (Line (Seat ∷ [])) (Line (Single ∷ [])))

abbrev pub cover_slots : CoverSlots
cover_slots = record { base = final_seats; eligible = fact_slots.eligible; numbers = pair_numbers }

-- the seats of the lists, and who sits on them
abbrev pub seating_pieces : ℕ → Seating → List Tree
seating_pieces from seating.Keep = pair_tree pairings.Larger shape.List from winners_slot final_seats ∷ (place_kept ∷ [])
seating_pieces from seating.Cover = copy_tree shape.List from final_seats ∷ (cover_tree cover_slots ∷ [])

-- with `vacate`: the seats that neither winners nor names fill
abbrev pub vacant_pieces : Option ℕ → List Tree
vacant_pieces None = []
vacant_pieces (Some vacate) =
    Line (Input names_left input.Names ∷ [])
    ∷ (pair_tree pairings.Less shape.List final_seats winners_slot vacant_seats ∷ (pair_tree pairings.Less shape.List vacant_seats names_left vacant_seats ∷ []))

abbrev pub last_pieces : List Column → LastClause → List Tree
last_pieces types last = seating_pieces (base_slot types last.base) last.seating ++ vacant_pieces last.vacate

-- the slot of the vacant seats, where there are such
abbrev pub vacant_slot : Option ℕ → Option ℕ
vacant_slot None = None
vacant_slot (Some vacate) = Some vacant_seats

-- the run ends with the seats, and with the vacant ones
abbrev pub halting : Option ℕ → Instr
halting None = Halt final_seats
halting (Some vacate) = Haltv final_seats vacant_seats

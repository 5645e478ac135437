-- The slots of a compiled rulebook: facts, columns to work in, scratch columns, and a column for each stage (docs/compiler.md, section 3).
use Rattle.std.specs.Prelude.{◌≡◌, ℕ, ◌+◌, ◌*◌, ◌≤◌, List, Some, slice_get}
use Rattle.sl_base_terms.specs.declared.shape.Shape.{Shape}
use Rattle.sl_base_terms.specs.declared.shape.Shape.TheVariants as shape
use Rattle.sl_law_meaning.specs.declared.fact.Fact.{Fact}
use Rattle.sl_law_meaning.specs.declared.fact.Fact.TheVariants as facts
use Rattle.sl_law_meaning.specs.declared.limits.TheConstants.{MAX_DEPTH}
use Rattle.sl_law_meaning.specs.book.Typing.{Column, fact_number, fact_type}
use Rattle.sl_base_terms.specs.Shapes.{shape_number}
use Rattle.sl_code_instructions.specs.Codes.{CountingCode}
use Rattle.sl_compile_pieces.specs.declared.slots.TheConstants.{ELIGIBLE, FIRST_FACT, VOTES, NUMBERS}
pub use Rattle.sl_compile_pieces.specs.declared.slots.TheConstants.{PAIR_NUMBERS as pair_numbers, NAMES_LEFT as names_left, VACANT_SEATS as vacant_seats, FIRST_PASSING_SLOT, LEVELS, FIRST_STAGE_SLOT}
use Rattle.sl_compile_pieces.specs.facts.Trees.{FactSlots}
use Rattle.sl_compile_pieces.specs.facts.Laws.{HasFactSlots}

-- the eligible parties and the facts stand first, and the two columns to work in with them
abbrev pub fact_slots : FactSlots
fact_slots = record { eligible = ELIGIBLE; of = λ told. FIRST_FACT + fact_number told; votes = VOTES; numbers = NUMBERS }

abbrev pub winners_slot : ℕ
winners_slot = fact_slots.of facts.Winners

-- a column of each shape for each level of an expression
abbrev pub passing : ℕ → Shape → ℕ
passing level s = FIRST_PASSING_SLOT + 4 * level + shape_number s

-- the slot in which an expression of that level leaves its column: that of a fact, or the passing one of the shape
pub data StandsOn (level : ℕ) (s : Shape) (slot : ℕ) : Type 0 where
  OfFact : (told : Fact) → slot ≡ fact_slots.of told → (fact_type told).shape ≡ s → StandsOn level s slot
  InPassing : slot ≡ passing level s → StandsOn level s slot

-- the column of a stage
abbrev pub stage_slot : ℕ → ℕ
stage_slot k = FIRST_STAGE_SLOT + k

-- a code has them, where these are the columns of its stages
pub record HasBookSlots (c : CountingCode) (types : List Column) : Type 0 where
  pub facts : HasFactSlots c fact_slots
  pub pair_numbers_are : slice_get c.slots pair_numbers ≡ Some shape.List
  pub names_left_are : slice_get c.slots names_left ≡ Some shape.List
  pub vacant_seats_are : slice_get c.slots vacant_seats ≡ Some shape.List
  pub passing_are : (level : ℕ) (s : Shape) → level ≤ MAX_DEPTH → slice_get c.slots (passing level s) ≡ Some s
  pub stages_are : (k : ℕ) (t : Column) → slice_get types k ≡ Some t → slice_get c.slots (stage_slot k) ≡ Some t.type.shape

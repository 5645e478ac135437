-- The end of a count in what the run of its code holds.
use Rattle.std.specs.Prelude.{All, List, [], length, map, slice_index_or, ◌<◌, ◌≡◌, ℕ}
use Rattle.sl_law_meaning.specs.declared.count.Column.{Column}
use Rattle.sl_law_meaning.specs.declared.count.Counted.{Counted as Kept}
use Rattle.sl_law_meaning.specs.declared.count.End.TheVariants as end
use Rattle.sl_law_meaning.specs.declared.count.End.{End}
use Rattle.sl_law_meaning.specs.declared.count.Records.TheVariants.{Dropped, Kept as WithRecords}
use Rattle.sl_law_meaning.specs.declared.count.Records.{Records}
use Rattle.sl_code_instructions.specs.Codes.{CountingCode}
use Rattle.sl_machine.specs.declared.machine.Ending.TheVariants as answer
use Rattle.sl_machine.specs.declared.machine.Ending.{Ending as Answer}
use Rattle.sl_code_semantics.specs.Memories.{Held}
use Rattle.sl_code_semantics.specs.Runs.{Ending}
use Rattle.sl_code_semantics.specs.Tables.{held_table}
use Rattle.sl_code_semantics.specs.Unrecorded.{without_records}
use Rattle.sl_law_meaning.specs.returns.Election.{Election}
use Rattle.sl_base_terms.specs.declared.shape.Shape.TheVariants as shape
use Rattle.sl_base_terms.specs.declared.shape.Shape.{Shape}
use Rattle.sl_count_texts.specs.inner.Fits.{Fits}

-- the ending of a run, with its records or without them
abbrev pub recorded : Records → Ending → Ending
recorded WithRecords ending = ending
recorded Dropped ending = without_records ending

-- each stage of a code has a slot
abbrev pub HasSlots : CountingCode → Type 0
HasSlots c = All (λ s. s.slot < length c.slots) c.stages

-- a column as its shape and the list of its cells
pub record Cells : Type 0 where
  pub shape : Shape
  pub cells : List ℕ

abbrev pub plain : Column → Cells
plain c = record { shape = c.shape; cells = c.cells.items }

-- the column in a slot
abbrev pub held_column : CountingCode → Held → ℕ → Cells
held_column c h slot = record { shape = slice_index_or c.slots slot shape.One; cells = slice_index_or h.columns slot [] }

-- the table and the columns of what is held
pub record Holds (c : CountingCode) (e : Election) (h : Held) (x : Kept) : Type 0 where
  pub table : x.table ≡ held_table e h
  pub fits : Fits x.table e
  pub columns : map plain x.columns.items ≡ map (λ s. held_column c h s.slot) c.stages

-- the end of a count whose run ends so
abbrev pub EndsAs : CountingCode → Election → Answer → End → Type 0
EndsAs c e (answer.Done h) (end.Counted x) = Holds c e h x
EndsAs c e (answer.Fault f) (end.Fault g) = f ≡ g
EndsAs c e _ _ = ⊥

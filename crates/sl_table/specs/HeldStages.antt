-- The text of a stage's column, of what a run of a code holds.
use Rattle.std.specs.Prelude.{ℕ, List, [], map, slice_index, slice_index_or}
use Rattle.sl_base_terms.specs.declared.shape.Shape.TheVariants as shape
use Rattle.sl_law_meaning.specs.returns.Election.{Election}
use Rattle.sl_code_instructions.specs.Codes.{CountingCode}
use Rattle.sl_code_semantics.specs.Memories.{Held}
use Rattle.sl_table.specs.Stages.{stage_text}

-- the slot of a stage's column
abbrev pub stage_slot : CountingCode → ℕ → ℕ
stage_slot c stage = slice_index (map (λ s. s.slot) c.stages) stage

-- the text of the column of a stage's slot
abbrev pub held_stage_text : CountingCode → Election → Held → ℕ → List ℕ
held_stage_text c e h stage = stage_text e (slice_index_or c.slots (stage_slot c stage) shape.One) (slice_index_or h.columns (stage_slot c stage) [])

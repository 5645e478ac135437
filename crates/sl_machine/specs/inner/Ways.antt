-- The way of a run through a code: the instructions that do something, each with its place.
use Rattle.std.specs.Prelude.{◌≡◌, ◌<◌, ◌+◌, ◌||◌, ℕ, Bool, true, false, List, [], ◌∷◌, length, take, slice_index, if◌then◌else◌}
use Rattle.sl_code_instructions.specs.Codes.{CountingCode}
use Rattle.sl_code_instructions.specs.declared.instr.Instr.{Instr}
use Rattle.sl_code_instructions.specs.declared.instr.Instr.TheVariants as op
use Rattle.sl_code_semantics.specs.Frames.{records_step, records_weight}
use Rattle.sl_code_steps.specs.declared.step.Records.{Records}
use Rattle.sl_code_steps.specs.declared.step.Records.TheVariants as records
use Rattle.sl_machine.specs.declared.way.Standing.{Standing}
use Rattle.sl_machine.specs.declared.way.Way.{Way}

-- an instruction that does nothing: it declares, or records what is dropped
abbrev pub is_idle : Records → Instr → Bool
is_idle k (op.At known) = true
is_idle records.Dropped i = records_step i || records_weight i
is_idle records.Kept i = false

-- of instructions that stand one after the other from a place on, those that do something
abbrev pub standing_from : Records → ℕ → List Instr → List Standing
standing_from k p [] = []
standing_from k p (i ∷ is) = if is_idle k i then standing_from k (p + 1) is else (record { instr = i; place = p } ∷ standing_from k (p + 1) is)

-- how many of them stand before a place of the code
abbrev pub standing_before : Records → CountingCode → ℕ → ℕ
standing_before k c p = length (standing_from k 0 (take p c.instrs))

pub record IsWay (k : Records) (c : CountingCode) (way : Way) : Type 0 where
  pub standing : way.standing.items ≡ standing_from k 0 c.instrs
  pub counted : length way.before.items ≡ length c.instrs
  pub before : (p : ℕ) → p < length c.instrs → slice_index way.before.items p ≡ standing_before k c p

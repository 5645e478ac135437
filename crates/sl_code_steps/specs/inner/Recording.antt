-- What a run that keeps what it records, or drops it, leaves of states, effects and endings.
use Rattle.std.specs.Prelude.{◌||◌, if◌then◌else◌}
use Rattle.sl_code_instructions.specs.declared.instr.Instr.{Instr}
use Rattle.sl_code_steps.specs.declared.step.Records.{Records}
use Rattle.sl_code_steps.specs.declared.step.Records.TheVariants as records
use Rattle.sl_code_semantics.specs.State.{State}
use Rattle.sl_code_semantics.specs.Effects.{Effect, Goes, Jumps, Ends, NoCase}
use Rattle.sl_code_semantics.specs.Runs.{Ending}
use Rattle.sl_code_semantics.specs.Unrecorded.{unrecorded, unrecorded_end, without_records}
use Rattle.sl_code_semantics.specs.Frames.{records_step, records_weight}

abbrev pub unrecorded_effect : Effect → Effect
unrecorded_effect (Goes s) = Goes (unrecorded s)
unrecorded_effect (Jumps s) = Jumps (unrecorded s)
unrecorded_effect (Ends end) = Ends (unrecorded_end end)
unrecorded_effect NoCase = NoCase

abbrev pub state_by : Records → State → State
state_by records.Kept s = s
state_by records.Dropped s = unrecorded s

abbrev pub effect_by : Records → Effect → Effect
effect_by records.Kept x = x
effect_by records.Dropped x = unrecorded_effect x

abbrev pub ending_by : Records → Ending → Ending
ending_by records.Kept x = x
ending_by records.Dropped x = without_records x

-- of the effect of an instruction: only those that record something have records to drop
abbrev pub left_by : Records → Instr → Effect → Effect
left_by k i x = if records_step i || records_weight i then effect_by k x else x

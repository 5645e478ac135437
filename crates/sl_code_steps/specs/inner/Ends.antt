-- Which instructions end a run.
use Rattle.std.specs.Prelude.{Bool, true, false}
use Rattle.sl_code_instructions.specs.declared.instr.Instr.{Instr}
use Rattle.sl_code_instructions.specs.declared.instr.Instr.TheVariants as op

-- the instructions that end a run
abbrev pub ends_run : Instr → Bool
ends_run (op.Fault n k f) = true
ends_run (op.Tie n k r) = true
ends_run (op.Halt k) = true
ends_run (op.Haltv k v) = true
ends_run _ = false

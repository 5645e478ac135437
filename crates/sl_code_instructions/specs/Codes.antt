-- A counting code, as the definitions see it (docs/code.md, section 1).
use Rattle.std.specs.Prelude.{◌≤◌, List, length}
use Rattle.sl_base_terms.specs.declared.limits.TheConstants.{MAX_STAGES}
use Rattle.sl_base_terms.specs.declared.shape.Shape.{Shape}
use Rattle.sl_code_instructions.specs.declared.code.TheConstants.{MAX_SLOTS, MAX_INSTRS}
use Rattle.sl_code_instructions.specs.declared.code.CodeStage.{CodeStage}
use Rattle.sl_code_instructions.specs.declared.instr.Instr.{Instr}

pub record CountingCode : Type 0 where
  pub instrs : List Instr
  -- the stages in order, and the slot of each one's column
  pub stages : List CodeStage
  -- the shapes of the slots
  pub slots : List Shape

-- the limits of the format
pub record IsCode (c : CountingCode) : Type 0 where
  pub instrs : length c.instrs ≤ MAX_INSTRS
  pub stages : length c.stages ≤ MAX_STAGES
  pub slots : length c.slots ≤ MAX_SLOTS

use Rattle.std.proofs.Common.{◌∙◌}
use Rattle.sl_code_instructions.specs.Rows.{operands_of, slot_in, stage_in}
use Rattle.sl_code_semantics.specs.Needs.{needed_shape, suits, has_stage}
use Rattle.sl_code_semantics.specs.WellKinded.{context_of}
use Rattle.sl_verify.proofs.Rows.{each_of_both}
use Rattle.sl_verify.proofs.needs.has_columns.Goals as goal

pub returns : goal.returns
returns c =
    let x = context_of c.args.code.now in
    rw (c.as_slice.ensures, c.requires, c.needed_shape.ensures) at c.each_operand.ensures ∙ each_of_both slot_in stage_in (suits x (needed_shape c.args.instr)) (has_stage x) (operands_of c.args.instr)

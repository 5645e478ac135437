use Rattle.std.proofs.Common.{true, ap, ◌∙◌}
use Rattle.std.specs.List.{list_all}
use Rattle.std.specs.Option.{option_map_or}
use Rattle.sl_code_instructions.specs.Rows.{register_in, operands_of}
use Rattle.sl_code_semantics.specs.Kinds.{is_register}
use Rattle.sl_verify.proofs.Rows.{each_holds}
use Rattle.sl_verify.proofs.needs.has_registers.Goals as goal

pub returns : goal.returns
returns c = λ instr same.
    c.each_register.ensures ∙ ap (list_all (λ x. option_map_or is_register (register_in x) true)) (c.as_slice.ensures ∙ same) ∙ each_holds register_in is_register (operands_of instr)

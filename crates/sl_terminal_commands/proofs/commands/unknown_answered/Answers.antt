-- What is said is what was explained.
use Rattle.std.proofs.Common.{Some, subst, sym}
use Rattle.sl_count_inputs.specs.declared.status.Input.TheVariants as input
use Rattle.sl_explain_calls.specs.Codes.{subject}
use Rattle.sl_explain_texts.specs.declared.code.FaultCode.TheVariants.{B01}
use Rattle.sl_terminal_commands.specs.Said.{IsSaid, fault}
use Rattle.sl_terminal_commands.proofs.commands.unknown_answered.Goals as goal

pub returns-in-Ok-clause-said : goal.returns-in-Ok-clause-said
returns-in-Ok-clause-said c = subst (λ v. IsSaid c.args.language (fault (subject input.Book (Some B01))) v.items) (sym c.with_said.ensures.said) c.in_ok-said.ensures

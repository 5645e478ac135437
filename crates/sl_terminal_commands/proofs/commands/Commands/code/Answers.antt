use Rattle.std.proofs.Common.{subst}
use Rattle.std.proofs.lemmas.Result.{IfOk-weaker}
use Rattle.sl_count_inputs.specs.Judging.{tree_verdict}
use Rattle.sl_terminal_commands.proofs.Failing.{answered_as}
use Rattle.sl_terminal_commands.proofs.commands.Commands.code.Goals as goal
use Rattle.sl_terminal_commands.specs.Sums.{IsVerdictOn}

pub returns-in-Ok-clause-said : goal.returns-in-Ok-clause-said
returns-in-Ok-clause-said g c =
    let bytes = g.O.Outside.bytes c.args.self.now.outside.now in
    let verdict = c.in-Ok.named.read.verdict in
    let on = subst (λ word. IsVerdictOn bytes word (tree_verdict verdict)) c.in-Ok.ensures.word c.in-Ok.ensures.book.verdict in
    IfOk-weaker c.compile_read-outcome.result _ _ (λ o said. answered_as _ _ o (λ a told. (verdict, on, told)) said) c.compile_read-outcome.ensures.said

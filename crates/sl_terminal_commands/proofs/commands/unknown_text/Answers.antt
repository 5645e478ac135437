-- What is explained of an unknown statute has its code.
use Rattle.std.proofs.Common.{IfOk, subst}
use Rattle.sl_terminal_commands.specs.Said.{IsSaid, fault}
use Rattle.sl_terminal_commands.proofs.commands.unknown_text.Goals as goal

pub returns : goal.returns
returns c = subst (λ s. IfOk c.explained_text.result (λ text. IsSaid c.args.language (fault s) text.items)) c.in_ok-explained.ensures c.explained_text.ensures

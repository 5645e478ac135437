use Rattle.std.specs.Prelude.{◌≡◌}
use Rattle.sl_explain_calls.specs.Codes.{subject_of}
use Rattle.sl_terminal_commands.proofs.refused_books.explain_refused.Given as goal

abbrev pub invariant-loop-book : goal.invariant-loop-book
invariant-loop-book l = subject_of l.explained ≡ subject_of l.initial.explained

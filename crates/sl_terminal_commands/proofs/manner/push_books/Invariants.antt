use Rattle.std.proofs.Common.{take, ◌≡◌, ◌++◌}
use Rattle.std.specs.Prelude.{flat_map}
use Rattle.sl_report_commands.specs.Digests.{digests}
use Rattle.sl_terminal_commands.specs.inner.Digested.{named_digest}
use Rattle.sl_terminal_commands.proofs.manner.push_books.Given as goal

abbrev pub invariant-loop-book : goal.invariant-loop-book
invariant-loop-book l = digests l.inputs.items ≡ digests l.initial.inputs.items ++ flat_map named_digest (take l.book-index l.books)

use Rattle.std.specs.List.{AllWithin}
use Rattle.sl_terminal_commands.specs.inner.Comparing.{IsGood}
use Rattle.sl_terminal_commands.proofs.refused_books.first_refused.Given as goal

-- those before are good
abbrev pub invariant-loop-number : goal.invariant-loop-number
invariant-loop-number l = AllWithin (λ b. IsGood b.read.verdict) l.books 0 l.number

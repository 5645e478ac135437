use Rattle.std.proofs.Common.{map, take}
use Rattle.sl_terminal_commands.specs.inner.Comparing.{AreRead}
use Rattle.sl_terminal_commands.proofs.commands.Commands.books_at.Given as goal

-- the rulebooks of the words so far
abbrev pub invariant-loop-word : goal.invariant-loop-word
invariant-loop-word g l = AreRead (g.O.Outside.bytes l.self.outside.now) (map (λ word. word.now) (take l.word-index l.words)) l.books.items

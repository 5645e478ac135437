use Rattle.std.proofs.Common.{All, map, string_bytes, take, ◌≡◌}
use Rattle.sl_terminal_commands.specs.inner.Statutes.{IsJudgedStatute}
use Rattle.sl_terminal_commands.proofs.statutes.statutes_of.Given as goal

-- the statutes of the words so far
abbrev pub invariant-loop-word : goal.invariant-loop-word
invariant-loop-word l = (map (λ b. b.word.now) l.books.items ≡ map string_bytes (take l.word-index l.words)) × All IsJudgedStatute l.books.items

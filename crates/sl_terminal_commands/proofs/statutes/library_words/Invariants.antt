use Rattle.std.proofs.Common.{drop, map, string_bytes, ◌++◌, ◌∷◌, ◌≡◌}
use Rattle.sl_laws.specs.declared.books.Statute.{Statute}
use Rattle.sl_terminal_commands.specs.Comparisons.{library_words}
use Rattle.sl_terminal_commands.proofs.statutes.library_words.Given as goal

-- the words so far, and those of the statutes that are left
abbrev pub invariant-loop-statute : goal.invariant-loop-statute
invariant-loop-statute l = map string_bytes l.words.items ++ map (λ (s : Statute). 64 ∷ s.name.now) (drop l.statute-index l.statute-items) ≡ library_words

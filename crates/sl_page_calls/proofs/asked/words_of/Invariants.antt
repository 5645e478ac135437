use Rattle.std.proofs.Common.{map, string_bytes, take, ◌∷◌, ◌≡◌}
use Rattle.sl_page_calls.specs.Asking.{program, words_given}
use Rattle.sl_page_calls.proofs.asked.words_of.Given as goal

-- the program's name, and the words so far
abbrev pub invariant-loop-word : goal.invariant-loop-word
invariant-loop-word l = map string_bytes l.all.items ≡ program ∷ words_given (take l.word-index l.words)

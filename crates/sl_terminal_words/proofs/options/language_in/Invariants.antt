use denote.Shadow.{shadow}
use denote.Text.{Utf8}
use Rattle.std.proofs.Common.{◌≡◌, [], drop, map, string_bytes}
use Rattle.sl_terminal_words.specs.Answers.{first_language}
use Rattle.sl_terminal_words.proofs.options.language_in.Given as goal

-- no word so far gives a language
abbrev pub invariant-loop-word : goal.invariant-loop-word
invariant-loop-word l =
    (first_language l.before (map string_bytes (drop l.word-index l.words)) ≡ first_language [] (map string_bytes l.words)) × shadow (Utf8 l.before)

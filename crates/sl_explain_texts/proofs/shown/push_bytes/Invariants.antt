use Rattle.std.proofs.Common.{◌≡◌, ◌++◌, map, take}
use Rattle.std.specs.Str.{encode_utf8_all}
use Rattle.sl_explain_texts.specs.Shown.{character_of, shown_character}
use Rattle.sl_explain_texts.proofs.shown.push_bytes.Given as goal

abbrev pub invariant-loop-byte : goal.invariant-loop-byte
invariant-loop-byte l = l.text.items ≡ l.fn.text.items ++ encode_utf8_all (map shown_character (map character_of (take l.byte-index l.bytes)))

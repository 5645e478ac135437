use Rattle.std.proofs.Common.{◌≡◌, ◌++◌, map}
use Rattle.std.specs.Str.{IsUtf8, chars, encode_utf8_all}
use Rattle.sl_explain_texts.specs.Shown.{shown_character}
use Rattle.sl_explain_texts.proofs.shown.push_characters.Given as goal

abbrev pub invariant-loop-character : goal.invariant-loop-character
invariant-loop-character l = record {
  utf8 : IsUtf8 l.character-iterator.rest.now;
  written : l.text.items ++ encode_utf8_all (map shown_character (chars l.character-iterator.rest.now)) ≡ l.fn.text.items ++ encode_utf8_all (map shown_character (chars l.characters));
}

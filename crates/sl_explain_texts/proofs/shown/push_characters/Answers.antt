use Rattle.std.proofs.lemmas.Str.{IsUtf8-past_char}
use Rattle.sl_explain_texts.specs.Shown.{shown_character}
use Rattle.sl_explain_texts.proofs.Pieces.{changed_next, changed_none, moved}
use Rattle.sl_explain_texts.proofs.shown.push_characters.Goals as goal

pub loop-character-preserved : goal.loop-character-preserved
loop-character-preserved c = record {
  utf8 = IsUtf8-past_char _ _ _ c.loop-character.invariant.utf8 c.in-Some.ensures.steps.0;
  written = moved _ _ _ _ _ _ c.loop-character.invariant.written c.in_ok-push_character.ensures (changed_next shown_character _ _ _ c.loop-character.invariant.utf8 c.in-Some.ensures.steps.0);
}

pub returns : goal.returns
returns c = changed_none shown_character _ _ _ c.in-None.ensures.steps.0.0 c.loop-character.invariant.written

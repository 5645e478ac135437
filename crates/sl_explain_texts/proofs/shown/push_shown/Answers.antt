use Rattle.std.proofs.Common.{◌≡◌, ◌∙◌, ◌++◌, List, OnOk, ap, map, subst, ℕ}
use Rattle.std.specs.Str.{chars, encode_utf8_all}
use Rattle.sl_explain_texts.specs.Shown.{shown_character}
use Rattle.sl_explain_texts.proofs.Characters.{shown_bytes, shown_text}
use Rattle.sl_explain_texts.proofs.shown.push_shown.Goals as goal

pub returns-in-Ok : goal.returns-in-Ok
returns-in-Ok c =
    subst (λ (xs : List ℕ). OnOk c.push_characters.result (c.push_characters.new.text.items ≡ c.args.text.now.items ++ xs))
    (ap (λ t. encode_utf8_all (map shown_character (chars t))) c.in-Ok.ensures.cases.0 ∙ shown_text c.args.bytes.now c.in-Ok.ensures.cases.1) c.push_characters.ensures

pub returns-in-Err : goal.returns-in-Err
returns-in-Err c =
    subst (λ (xs : List ℕ). OnOk c.push_bytes.result (c.push_bytes.new.text.items ≡ c.args.text.now.items ++ xs))
    (shown_bytes c.args.bytes.now c.in-Err.ensures.cases.0) c.push_bytes.ensures

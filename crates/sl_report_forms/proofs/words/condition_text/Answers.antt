use Rattle.std.proofs.Common.{◌≡◌, ◌∙◌, ◌∷◌, ◌++◌, ap, append_assoc, codes, sym}
use Rattle.std.specs.Fmt.{decimal}
use Rattle.sl_explain_texts.specs.Languages.{chosen}
use Rattle.sl_report_forms.proofs.words.condition_text.Goals as goal

pub returns-in_ok-format-in-Valid : goal.returns-in_ok-format-in-Valid
returns-in_ok-format-in-Valid c =
    let share = decimal c.in-Valid.share.value in
    let per = decimal c.in-Valid.per in
    let word = chosen c.args.language (codes "per") (codes "je") in
    rw c.in-Valid.is (
    c.in_ok-format-in-Valid.ensures.ok ∙ ap (λ t. share ++ 32 ∷ (t ++ 32 ∷ per)) c.text-word.ensures
    ∙ sym (append_assoc ((share ++ codes " ") ++ word) (codes " ") per ∙ append_assoc (share ++ codes " ") word (32 ∷ per) ∙ append_assoc share (codes " ") (word ++ 32 ∷ per)))

pub returns-in_ok-format-in-Winners : goal.returns-in_ok-format-in-Winners
returns-in_ok-format-in-Winners c =
    let least = decimal c.in-Winners.least in
    rw c.in-Winners.is (
    c.in_ok-format-in-Winners.ensures.ok ∙ ap (λ t. least ++ 32 ∷ t) c.text-word-in-Winners.ensures
    ∙ sym (append_assoc least (codes " ") (chosen c.args.language (codes "winners") (codes "Wahlkreise"))))

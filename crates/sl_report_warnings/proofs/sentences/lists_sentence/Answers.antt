-- What is said of lists that count no vote.
use Rattle.std.proofs.Common.{◌≡◌, ◌∷◌, [], IfOk, subst, ◌∙◌}
use Rattle.sl_explain_texts.specs.Languages.{row}
use Rattle.sl_explain_texts.specs.Messages.{says}
use Rattle.sl_report_warnings.specs.declared.texts.rows.TheConstants.{NOTHING_COUNTED}
use Rattle.sl_report_warnings.proofs.sentences.lists_sentence.Goals as goal

pub returns : goal.returns
returns c =
    subst (λ lists. IfOk c.text.result (λ text. text.items ≡ says c.args.speaker.language (row NOTHING_COUNTED) (lists ∷ c.args.party.now ∷ [])))
    (c.as_slice.ensures.value ∙ c.in_ok-lists.ensures) c.text.ensures

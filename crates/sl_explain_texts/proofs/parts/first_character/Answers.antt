use Rattle.std.proofs.Common.{rules, ◌∙◌, ap, length, unwrap_or}
use Rattle.std.proofs.lemmas.Iterator.{YieldsList-from_slice}
use Rattle.std.proofs.lemmas.Iterator.Search.{position_from_yields_List}
use borrow.Author.Tests.{tests}
use Rattle.sl_explain_texts.proofs.Firsts.{placed}
use Rattle.sl_explain_texts.specs.Shown.{begins_character}
use Rattle.sl_explain_texts.proofs.parts.first_character.Goals as goal

pub returns : goal.returns
returns c =
    let text = c.args.bytes.now in
    let at = position_from_yields_List begins_character _ _ c.position-place.result c.position-place.ensures.ran (YieldsList-from_slice text (cc)) (λ x b q k. search (rules, tests)) in
    c.unwrap_or.ensures ∙ ap (λ o. unwrap_or o (length text)) at ∙ placed begins_character text

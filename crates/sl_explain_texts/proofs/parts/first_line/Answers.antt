use Rattle.std.proofs.Common.{rules, ◌∙◌, ◌||◌, ap, length, nat_eq, take, unwrap_or, ℕ}
use Rattle.std.proofs.lemmas.Iterator.{YieldsList-from_slice}
use Rattle.std.proofs.lemmas.Iterator.Search.{position_from_yields_List}
use borrow.Author.Tests.{tests}
use Rattle.sl_explain_texts.proofs.Firsts.{placed}
use Rattle.sl_explain_texts.proofs.parts.first_line.Goals as goal

pub returns : goal.returns
returns c =
    let ends = λ (b : ℕ). nat_eq b 10 || nat_eq b 13 in
    let text = c.args.bytes.now in
    let at = position_from_yields_List ends _ _ c.position-end.result c.position-end.ensures.ran (YieldsList-from_slice text (cc)) (λ x b q k. search (rules, tests)) in
    c.until.ensures ∙ ap (λ n. take n text) (c.unwrap_or.ensures ∙ ap (λ o. unwrap_or o (length text)) at ∙ placed ends text)

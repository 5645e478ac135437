use Rattle.std.proofs.Common.{◌∙◌}
use Rattle.sl_explain_texts.proofs.Characters.{tested}
use Rattle.sl_explain_books.proofs.Characters.{fronted}
use Rattle.sl_explain_books.proofs.pieces.is_front.Goals as goal

pub returns-in-Some : goal.returns-in-Some
returns-in-Some c =
    let found = c.in-Some.ensures.lookup.0 in
    fronted c.args.rest.now c.in-Some.bytes.now c.args.count c.is_ok.result found.1 found.2
    (c.is_ok.ensures.value ∙ tested _ _ c.in-Some.bytes.now c.from_utf8.result c.from_utf8.ensures.cases)

use Rattle.std.proofs.Common.{◌∙◌}
use Rattle.sl_explain_texts.proofs.Characters.{tested}
use Rattle.sl_explain_texts.proofs.shown.is_text.Goals as goal

pub returns : goal.returns
returns c = c.is_ok.ensures.value ∙ tested _ _ c.args.bytes.now c.from_utf8.result c.from_utf8.ensures.cases

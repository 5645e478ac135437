use Rattle.std.proofs.Common.{◌∙◌, ap}
use Rattle.sl_explain_texts.proofs.Characters.{tested}
use Rattle.sl_report_tables.specs.Names.{is_text}
use Rattle.sl_report_tables.proofs.full_names.text_at.Goals as goal

pub returns : goal.returns
returns c =
    c.ok.ensures.variant ∙ tested _ _ c.in_ok-get.field-0.now c.from_utf8.result c.from_utf8.ensures.cases ∙ ap is_text c.in_ok-get.ensures.value

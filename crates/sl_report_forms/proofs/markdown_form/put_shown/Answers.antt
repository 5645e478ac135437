use Rattle.sl_report_forms.proofs.MarkdownLaws.{block_more}
use Rattle.sl_report_forms.proofs.markdown_form.put_shown.Goals as goal

pub returns : goal.returns
returns c = block_more _ _ _ _ c.put_gap.ensures c.put_block.ensures

use Rattle.sl_report_forms.proofs.MarkdownLaws.{reads_back}
use Rattle.sl_report_forms.proofs.escape_laws.markdown_reads_back.Goals as goal

pub returns : goal.returns
returns c = reads_back

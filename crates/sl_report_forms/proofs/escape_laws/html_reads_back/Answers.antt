use Rattle.sl_report_forms.proofs.HtmlLaws.{entities_read_back}
use Rattle.sl_report_forms.proofs.escape_laws.html_reads_back.Goals as goal

pub returns : goal.returns
returns c = entities_read_back

use Rattle.sl_report_forms.proofs.HtmlLaws.{no_markup}
use Rattle.sl_report_forms.proofs.escape_laws.html_has_no_markup.Goals as goal

pub returns : goal.returns
returns c = no_markup

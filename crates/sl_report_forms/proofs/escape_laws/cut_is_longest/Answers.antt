use Rattle.sl_report_forms.proofs.TextLaws.{longest_begin}
use Rattle.sl_report_forms.proofs.escape_laws.cut_is_longest.Goals as goal

pub returns : goal.returns
returns c = longest_begin

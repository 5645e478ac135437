use Rattle.std.proofs.Common.{◌≡◌, ◌∙◌}
use Rattle.sl_report_forms.specs.CommaForm.{IsBetweenRecords, comma_records, records_text}
use Rattle.sl_report_forms.proofs.CommaReading.{is-comma_text}
use Rattle.sl_report_forms.proofs.comma_form.comma_text.Goals as goal

pub returns-in-Ok : goal.returns-in-Ok
returns-in-Ok c =
    let from = c.from_writer-out.ensures in
    let fresh : IsBetweenRecords c.from_writer-out.result = record { setup = rw c.new.ensures at (from.cfg ∙ c.flexible.ensures); fields = from.fields; clean = from.wrote } in
    let (between, text) = c.in_ok-put_sheets.ensures fresh in
    let whole : c.in-Ok.text.items ≡ records_text (comma_records c.args.names.now c.args.sheets.now) = rw (from.wtr, c.new-2.ensures.items, from.empty) at (c.in-Ok.ensures.ok ∙ text) in
    is-comma_text _ _ _ whole

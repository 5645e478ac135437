use Rattle.std.proofs.Common.{sym}
use Rattle.csv.proofs.ReadFacts.{on-ok}
use Rattle.sl_report_forms.proofs.CommaWriting.{adds-one}
use Rattle.sl_report_forms.proofs.comma_form.put_fields.Goals as goal

pub returns : goal.returns
returns c =
    let good = sym c.if-is_err.ensures.value in
    let e = c.write_byte_record.ensures in
    adds-one c.args.out.now c.write_byte_record.new.self _ (on-ok _ good e.bytes) (on-ok _ good e.ended) (on-ok _ good e.clean) (on-ok _ good e.setup)

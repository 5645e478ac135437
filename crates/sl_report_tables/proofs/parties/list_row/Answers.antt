use Rattle.std.proofs.Common.{ap}
use Rattle.sl_report_forms.specs.Tables.{contents_of}
use Rattle.sl_report_tables.proofs.parties.list_row.Goals as goal

pub returns : goal.returns
returns c =
    rw (c.name.ensures, c.name-2.ensures, c.from-valid.ensures, c.valid.ensures, c.from-counted.ensures, c.counted.ensures) at (ap contents_of c.in_ok-vec.ensures.items)

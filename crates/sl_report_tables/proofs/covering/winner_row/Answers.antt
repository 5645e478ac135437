use Rattle.std.proofs.Common.{ap}
use Rattle.sl_report_forms.specs.Tables.{contents_of}
use Rattle.sl_report_tables.proofs.covering.winner_row.Goals as goal

pub returns : goal.returns
returns c =
    rw (c.name.ensures, c.name-2.ensures, c.name-3.ensures, c.percent.ensures, c.percent_exact.ensures, c.from-first.ensures, c.from-valid.ensures) at (ap contents_of c.in_ok-vec.ensures.items)

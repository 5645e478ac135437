use Rattle.std.proofs.Common.{ap}
use Rattle.sl_report_forms.specs.Tables.{contents_of}
use Rattle.sl_report_tables.proofs.scopes.entry_row.Goals as goal

pub returns : goal.returns
returns c =
    rw (c.land_side.ensures, c.party_side.ensures, c.fraction.ensures, c.fraction_exact.ensures, c.known.ensures, c.then_some.ensures, c.known-2.ensures, c.known_flag.ensures, c.known-3.ensures) at (ap contents_of c.in_ok-vec.ensures.items)

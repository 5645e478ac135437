use Rattle.std.proofs.Common.{ap}
use Rattle.sl_report_forms.specs.Tables.{contents_of}
use Rattle.sl_report_tables.proofs.scopes.scope_row.Goals as goal

pub returns : goal.returns
returns c =
    rw (c.keyword.ensures, c.method_word.ensures, c.divisor.ensures, c.fraction.ensures, c.fraction_exact.ensures, c.in_ok-last.ensures, c.as_slice.ensures.value, c.in_ok-next.ensures, c.as_slice-2.ensures.value, c.known_flag.ensures) at (ap contents_of c.in_ok-vec.ensures.items)

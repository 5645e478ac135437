use Rattle.std.proofs.Common.{ap}
use Rattle.sl_report_forms.specs.Tables.{contents_of}
use Rattle.sl_report_tables.proofs.press.lacking_row.Goals as goal

pub returns : goal.returns
returns c = record {
  votes = c.lacking_votes.result;
  winners = c.lacking_winners.result;
  lacks_votes = rw (c.as_slice-conditions.ensures.value, c.all_votes-valid.ensures.valid) at c.lacking_votes.ensures;
  lacks_winners = rw c.as_slice-conditions.ensures.value at c.lacking_winners.ensures;
  row_is = rw (c.name.ensures, c.percent.ensures, c.known.ensures, c.known-2.ensures, c.all_votes-valid.ensures.valid) at (ap contents_of c.in_ok-vec.ensures.items);
}

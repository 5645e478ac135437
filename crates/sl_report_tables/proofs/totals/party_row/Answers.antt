use Rattle.std.proofs.Common.{ap}
use Rattle.sl_report_forms.specs.Tables.{contents_of}
use Rattle.sl_report_tables.proofs.totals.party_row.Goals as goal

pub returns : goal.returns
returns c = record {
  votes = c.lacking_votes.result;
  winners = c.lacking_winners.result;
  lacks_votes = rw (c.requires.part, c.requires.valid) at c.lacking_votes.ensures;
  lacks_winners = rw c.requires.part at c.lacking_winners.ensures;
  row_is =
      rw (c.name.ensures, c.percent.ensures, c.percent_exact.ensures, c.condition.ensures, c.known.ensures, c.known-2.ensures, c.lists_of.ensures c.requires.party, c.requires.valid, c.requires.part) at (ap contents_of c.in_ok-vec.ensures.items);
}

use Rattle.std.proofs.Common.{◌≡◌, ◌*◌, ◌≤◌, ◌^◌}
use Rattle.std.specs.Prelude.{sum_by}
use Rattle.std.specs.List.{range_with_len}
use Rattle.sl_law_meaning.specs.returns.Votes.{counted_in}
use Rattle.sl_law_meaning.specs.returns.Facts.{valid_votes}
use Rattle.sl_report_parties.specs.Sums.{party_sum}
use Rattle.sl_report_parties.proofs.votes.all_votes.Given as goal

abbrev pub invariant-loop-party : goal.invariant-loop-party
invariant-loop-party l = record {
  valid : l.valid ≡ sum_by (valid_votes l.returns) (range_with_len 0 l.party);
  counted : l.counted ≡ sum_by (party_sum counted_in l.returns) (range_with_len 0 l.party);
  valid_fits : l.valid ≤ l.party * 2 ^ 40;
  counted_fits : l.counted ≤ l.party * 2 ^ 40;
}

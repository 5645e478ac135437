use Rattle.std.proofs.Common.{◌≡◌, ◌*◌, ◌≤◌, ◌^◌}
use Rattle.std.specs.Prelude.{sum_by}
use Rattle.std.specs.List.{range_with_len}
use Rattle.sl_law_meaning.specs.returns.Election.{list_at}
use Rattle.sl_law_meaning.specs.returns.Votes.{valid_in, counted_in}
use Rattle.sl_report_parties.proofs.votes.land_votes.Given as goal

abbrev pub invariant-loop-party : goal.invariant-loop-party
invariant-loop-party l = record {
  valid : l.valid ≡ sum_by (λ party. valid_in (list_at l.returns l.land party)) (range_with_len 0 l.party);
  counted : l.counted ≡ sum_by (λ party. counted_in (list_at l.returns l.land party)) (range_with_len 0 l.party);
  valid_fits : l.valid ≤ l.party * 2 ^ 32;
  counted_fits : l.counted ≤ l.party * 2 ^ 32;
}

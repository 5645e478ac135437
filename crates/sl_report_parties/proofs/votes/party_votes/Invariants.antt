use Rattle.std.proofs.Common.{◌≡◌, ◌*◌, ◌≤◌, ◌^◌}
use Rattle.std.specs.Prelude.{sum_by}
use Rattle.std.specs.List.{range_with_len}
use Rattle.sl_law_meaning.specs.returns.Election.{list_at}
use Rattle.sl_law_meaning.specs.returns.Votes.{valid_in, counted_in}
use Rattle.sl_report_parties.proofs.votes.party_votes.Given as goal

abbrev pub invariant-loop-land : goal.invariant-loop-land
invariant-loop-land l = record {
  valid : l.valid ≡ sum_by (λ land. valid_in (list_at l.returns land l.party)) (range_with_len 0 l.land);
  counted : l.counted ≡ sum_by (λ land. counted_in (list_at l.returns land l.party)) (range_with_len 0 l.land);
  valid_fits : l.valid ≤ l.land * 2 ^ 32;
  counted_fits : l.counted ≤ l.land * 2 ^ 32;
}

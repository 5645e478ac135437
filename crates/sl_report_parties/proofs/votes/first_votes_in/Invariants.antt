use Rattle.std.proofs.Common.{◌*◌, ◌^◌, ◌≡◌, ◌≤◌, take}
use Rattle.std.specs.Prelude.{if◌then◌else◌, sum_by}
use Rattle.sl_law_meaning.specs.returns.Facts.{is_in}
use Rattle.sl_report_parties.proofs.votes.first_votes_in.Given as goal

abbrev pub invariant-loop-number : goal.invariant-loop-number
invariant-loop-number l = record {
  votes : l.votes ≡ sum_by (λ w. if is_in l.land w then w.valid else 0) (take l.number l.returns.wins);
  few : l.votes ≤ l.number * 2 ^ 32;
}

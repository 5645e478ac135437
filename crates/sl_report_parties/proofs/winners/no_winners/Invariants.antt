use Rattle.std.proofs.Common.{◌≡◌, [], length}
use Rattle.std.specs.Prelude.{All}
use Rattle.sl_report_parties.proofs.winners.no_winners.Given as goal

abbrev pub invariant-loop : goal.invariant-loop
invariant-loop l = record {
  long : length l.all.items ≡ l.counter;
  empty : All (λ own. own.items ≡ []) l.all.items;
}

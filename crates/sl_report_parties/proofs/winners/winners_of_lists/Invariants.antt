use Rattle.std.proofs.Common.{◌≡◌, ◌*◌, ℕ, [], filter, length, map, take}
use Rattle.std.specs.Prelude.{slice_index_or}
use Rattle.std.specs.List.{enumerate_from}
use Rattle.sl_law_meaning.specs.returns.Election.{lands_of, parties_of}
use Rattle.sl_report_parties.specs.inner.Winners.{is_at, list_place}
use Rattle.sl_report_parties.proofs.winners.winners_of_lists.Given as goal

abbrev pub invariant-loop-number : goal.invariant-loop-number
invariant-loop-number l = record {
  long : length l.all.items ≡ lands_of l.returns * parties_of l.returns;
  on : (n : ℕ) → slice_index_or (map (λ own. own.items) l.all.items) n [] ≡ filter (λ x. is_at n (list_place l.returns x.1)) (take l.number (enumerate_from 0 l.returns.wins));
}

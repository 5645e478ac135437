use Rattle.std.proofs.Common.{◌≡◌, List, filter, take}
use Rattle.std.specs.Prelude.{flat_map}
use Rattle.std.specs.List.{AllZip}
use Rattle.sl_report_parties.specs.Ranks.{AreByRank, is_contested, winners_of_list}
use Rattle.sl_report_parties.specs.declared.contests.Ranked.{Ranked}
use Rattle.sl_report_parties.proofs.contests.contested.Given as goal

abbrev pub invariant-loop-list : goal.invariant-loop-list
invariant-loop-list l =
    (each : List (List Ranked)) × AllZip (λ k ws. AreByRank (winners_of_list l.table l.setting.returns.now k) ws) (filter (is_contested l.setting.book.now.eligible.items l.setting.returns.now) (take l.list-index l.list-items)) each
    × (l.winners.items ≡ flat_map (λ ws. ws) each)

-- The winners of contested lists, one list more.
use Rattle.std.specs.Prelude.{◌≡◌, ◌⊎◌, true, false, ◌++◌, List}
use Rattle.sl_law_meaning.specs.declared.book.Cond.{Cond}
use Rattle.sl_law_meaning.specs.declared.table.ListSeats.{ListSeats}
use Rattle.sl_law_meaning.specs.meaning.Tables.{SeatTable}
use Rattle.sl_law_meaning.specs.returns.Election.{Election}
use Rattle.sl_report_parties.specs.Ranks.{AreByRank, is_contested, winners_of_list}
use Rattle.sl_report_parties.specs.declared.contests.Ranked.{Ranked}

-- the winners of a list after others, if the list is contested
abbrev pub AddsContested : List Cond → SeatTable → Election → ListSeats → List Ranked → List Ranked → Type 0
AddsContested conditions t e l before after =
    ((is_contested conditions e l ≡ false) × (after ≡ before))
    ⊎ ((is_contested conditions e l ≡ true) × (ws : List Ranked) × AreByRank (winners_of_list t e l) ws × (after ≡ before ++ ws))

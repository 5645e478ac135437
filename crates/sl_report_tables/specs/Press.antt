-- The tables of a press report (docs/report.md).
use Rattle.std.specs.List.{AllZip}
use Rattle.std.specs.Prelude.{◌≡◌, ℕ, Bool, true, false, List, [], ◌∷◌, ◌++◌, Option, None, Some, codes, count_by, filter, if◌then◌else◌, map, nat_lt, option_map, take, unwrap_or, ◌||◌}
use Rattle.sl_report_forms.specs.Cells.{Content, a_change, a_number, a_text, a_word, an_entry, known, nothing, prose}
use Rattle.sl_report_forms.specs.Tables.{Column, Table}
use Rattle.sl_report_parties.specs.Earlier.{all_before, is_gone, seats_before}
use Rattle.sl_report_parties.specs.Lacking.{AreVotesFor, AreWinnersFor, Lacks}
use Rattle.sl_report_parties.specs.Press.{AreLeftOut}
use Rattle.sl_report_parties.specs.Seats.{all_seats, seats_without_party}
use Rattle.sl_report_parties.specs.Sums.{is_with}
use Rattle.sl_report_parties.specs.declared.earlier.EarlierParty.{EarlierParty}
use Rattle.sl_report_parties.specs.declared.press.Pressed.{Pressed}
use Rattle.sl_report_parties.specs.declared.press.Standing.{Standing}
use Rattle.sl_report_results.specs.declared.scopes.Scoped.{Scoped}
use Rattle.sl_report_tables.specs.Columns.{listed}
use Rattle.sl_report_tables.specs.Parts.{full_name, percent_cell, rounded_cell}
use Rattle.sl_law_meaning.specs.declared.book.Cond.{Cond}
use Rattle.sl_law_meaning.specs.declared.fault.Item.TheVariants as item
use Rattle.sl_law_meaning.specs.declared.fault.Scope.TheVariants as scope
use Rattle.sl_law_meaning.specs.declared.fault.Scope.{Scope}
use Rattle.sl_law_meaning.specs.meaning.Tables.{SeatTable}
use Rattle.sl_law_meaning.specs.returns.Election.{Election, wins_of}
use Rattle.sl_law_meaning.specs.returns.Facts.{all_valid_votes}
use Rattle.sl_report_tables.specs.declared.press.TheConstants.{BOTH_NAMES, LEFT_OUT, ONE_NAME, PRESS}

-- ---- the parties in the order of their seats, and all together

-- by how many seats there are more or fewer than before, where an earlier table is given
abbrev pub change_since : (seats : ℕ) → Option ℕ → Content
change_since seats None = nothing
change_since seats (Some before) = a_change seats before

-- a number of winners, where the returns have some
abbrev pub won_cell : Election → ℕ → Content
won_cell e winners = if nat_lt 0 (wins_of e) then a_number winners else nothing

-- a party
abbrev pub press_row : Election → Pressed → List Content
press_row e p =
    an_entry (item.Party p.party) ∷ full_name (item.Party p.party)
    ∷ a_number p.seats.seats ∷ known p.before ∷ change_since p.seats.seats p.before
    ∷ won_cell e p.part.winners ∷ won_cell e p.seats.direct ∷ a_number p.part.votes.valid
    ∷ rounded_cell p.part.votes.valid (all_valid_votes e) ∷ []

-- a party that had seats, and that the returns do not have, by its name and a full one
abbrev pub gone_row : EarlierParty → List Content
gone_row p = a_text p.name.now ∷ prose ∷ a_number 0 ∷ a_number p.seats ∷ a_change 0 p.seats ∷ nothing ∷ nothing ∷ nothing ∷ nothing ∷ []

abbrev pub gone_rows : Election → Option (List EarlierParty) → List (List Content)
gone_rows e None = []
gone_rows e (Some earlier) = map gone_row (filter (is_gone e) earlier)

-- the seats of winners without a party, now and before, and the constituencies that they won
abbrev pub others_before : Option (List EarlierParty) → Option ℕ
others_before earlier = option_map (seats_before []) earlier

abbrev pub others_row : Election → SeatTable → Option (List EarlierParty) → List Content
others_row e t earlier =
    nothing ∷ a_word (codes "without a party") (codes "ohne Partei")
    ∷ a_number (seats_without_party t e) ∷ known (others_before earlier) ∷ change_since (seats_without_party t e) (others_before earlier)
    ∷ a_number (count_by (is_with None) e.wins) ∷ a_number (seats_without_party t e) ∷ nothing ∷ nothing ∷ []

-- their row, where some won a constituency, or sat before
abbrev pub others_rows : Election → SeatTable → Option (List EarlierParty) → List (List Content)
others_rows e t earlier =
    if nat_lt 0 (count_by (is_with None) e.wins) || nat_lt 0 (unwrap_or (others_before earlier) 0) then others_row e t earlier ∷ [] else []

-- the seats of all, now and before, the constituencies with a winner, the winners who are seated, and all valid votes
abbrev pub sum_row : Election → SeatTable → Option (List EarlierParty) → List Content
sum_row e t earlier =
    nothing ∷ a_word (codes "all") (codes "alle")
    ∷ a_number (all_seats t).seats ∷ known (option_map all_before earlier) ∷ change_since (all_seats t).seats (option_map all_before earlier)
    ∷ won_cell e (wins_of e) ∷ won_cell e (all_seats t).direct ∷ a_number (all_valid_votes e)
    ∷ rounded_cell (all_valid_votes e) (all_valid_votes e) ∷ []

-- the columns of the names of a party, where full names are given and where none are
abbrev pub named_columns : (are_full : Bool) → List Column
named_columns true = listed BOTH_NAMES
named_columns false = listed ONE_NAME

abbrev pub press_table : (are_full : Bool) → Election → SeatTable → Option (List EarlierParty) → List Pressed → Table
press_table are_full e t earlier pressed = record {
  key = codes "press";
  columns = named_columns are_full ++ listed PRESS;
  rows = map (press_row e) pressed ++ (gone_rows e earlier ++ (others_rows e t earlier ++ sum_row e t earlier ∷ []));
}

-- ---- who won the last seats of the country, and who has the next claims

-- a scope of the whole country
abbrev pub is_whole : Scoped → Bool
is_whole s = is_all s.scope
  where
    is_all : Scope → Bool
    is_all scope.All = true
    is_all (scope.Land land) = false
    is_all (scope.Party party) = false
    is_all (scope.List land party) = false

-- ---- the largest party of those left out

-- its votes, and what it lacks for the nearest condition on votes and on winners
abbrev pub lacking_row : Election → Standing → (votes winners : Option ℕ) → List Content
lacking_row e s votes winners =
    an_entry (item.Party s.party) ∷ full_name (item.Party s.party) ∷ a_number s.part.votes.valid ∷ percent_cell s.part.votes.valid (all_valid_votes e) ∷ known votes ∷ known winners ∷ []

pub record IsLackingRow (conditions : List Cond) (e : Election) (s : Standing) (row : List Content) : Type 0 where
  pub votes : Option ℕ
  pub winners : Option ℕ
  pub lacks_votes : Lacks (AreVotesFor s.part.votes.valid (all_valid_votes e)) conditions s.part.met votes
  pub lacks_winners : Lacks (AreWinnersFor s.part.winners) conditions s.part.met winners
  pub row_is : row ≡ lacking_row e s votes winners

-- the first of the parties that meet no condition, by their valid votes
pub record IsLackingTable (are_full : Bool) (conditions : List Cond) (e : Election) (t : Table) : Type 0 where
  pub key : t.key ≡ codes "left_out"
  pub columns : t.columns ≡ named_columns are_full ++ listed LEFT_OUT
  pub left_out : List Standing
  pub are_left_out : AreLeftOut conditions e left_out
  pub rows : AllZip (IsLackingRow conditions e) (take 1 left_out) t.rows

-- The tables of the law, of the parties and their lists, and of winners (docs/report.md).
use Rattle.std.specs.List.{enumerate_from, position, zip}
use Rattle.std.specs.Prelude.{◌≡◌, ℕ, Bool, true, false, ◌&&◌, ◌||◌, List, [], ◌∷◌, Option, codes, filter, map, nat_lt, option_map, unwrap_or}
use Rattle.sl_report_forms.specs.Cells.{Content, a_flag, a_number, a_text, an_entry, known}
use Rattle.sl_report_forms.specs.Tables.{Table}
use Rattle.sl_report_parties.specs.Parts.{votes_of}
use Rattle.sl_report_parties.specs.Ranks.{AreContested}
use Rattle.sl_report_parties.specs.Seats.{all_seats, is_open, is_single, party_seats}
use Rattle.sl_report_parties.specs.declared.contests.Ranked.{Ranked}
use Rattle.sl_report_parties.specs.declared.seats.Seats.{Seats}
use Rattle.sl_report_tables.specs.Columns.{listed}
use Rattle.sl_report_tables.specs.Naming.{text_of}
use Rattle.sl_report_tables.specs.Parts.{condition_cell, full_name, party_cell, party_name_cell, percent_cell, percent_exact_cell}
use Rattle.sl_law_meaning.specs.declared.book.Book.{Book}
use Rattle.sl_law_meaning.specs.declared.book.Cond.{Cond}
use Rattle.sl_law_meaning.specs.declared.book.Seating.TheVariants as seating
use Rattle.sl_law_meaning.specs.declared.book.Seating.{Seating}
use Rattle.sl_law_meaning.specs.declared.election.Win.{Win}
use Rattle.sl_law_meaning.specs.declared.fault.Item.TheVariants as item
use Rattle.sl_law_meaning.specs.declared.table.ListSeats.{ListSeats}
use Rattle.sl_law_meaning.specs.declared.table.Placed.TheVariants as placed
use Rattle.sl_law_meaning.specs.declared.table.Placed.{Placed}
use Rattle.sl_law_meaning.specs.meaning.Tables.{SeatTable}
use Rattle.sl_law_meaning.specs.returns.Election.{Election, lands_of, list_at, parties_of}
use Rattle.sl_law_meaning.specs.returns.Facts.{all_valid_votes, meets, parties}
use Rattle.sl_law_meaning.specs.returns.Votes.{counted_in, valid_in}
use Rattle.sl_report_tables.specs.declared.parties.TheConstants as parties_columns
use Rattle.sl_report_tables.specs.declared.covering.TheConstants as covering_columns
use Rattle.sl_report_tables.specs.declared.counted.TheConstants as counted_columns

-- seats, where a table is known
abbrev pub seat_cells : Option Seats → List Content
seat_cells s = known (option_map (λ s. s.seats) s) ∷ known (option_map (λ s. s.direct) s) ∷ known (option_map (λ s. s.vacant) s) ∷ []

-- ---- the law

-- the house of the returns, or else that of the book
abbrev pub house_of : Book → Election → ℕ
house_of b e = unwrap_or e.house b.house.value

abbrev pub law_table : Book → (house : ℕ) → Option SeatTable → Table
law_table b house t = record {
  key = codes "law";
  columns = listed counted_columns.LAW;
  rows = (a_text (text_of b.law.items) ∷ a_number house ∷ seat_cells (option_map all_seats t)) ∷ [];
}

-- ---- parties

abbrev pub party_row : List Cond → Election → Option SeatTable → ℕ → List Content
party_row conditions e t party =
    an_entry (item.Party party) ∷ full_name (item.Party party)
    ∷ a_number (votes_of e party).valid ∷ percent_cell (votes_of e party).valid (all_valid_votes e) ∷ percent_exact_cell (votes_of e party).valid (all_valid_votes e)
    ∷ a_number (votes_of e party).counted ∷ condition_cell conditions (position (meets e party) conditions)
    ∷ seat_cells (option_map (λ t. party_seats t e party) t)

abbrev pub parties_table : List Cond → Election → Option SeatTable → Table
parties_table conditions e t = record {
  key = codes "parties";
  columns = listed parties_columns.PARTIES;
  rows = map (party_row conditions e t) (parties e);
}

-- ---- lists

abbrev pub list_row : Election → ListSeats → List Content
list_row e l =
    an_entry (item.Land l.land) ∷ full_name (item.Land l.land) ∷ an_entry (item.Party l.party) ∷ full_name (item.Party l.party)
    ∷ a_number (valid_in (list_at e l.land l.party)) ∷ a_number (counted_in (list_at e l.land l.party))
    ∷ a_number l.seats ∷ a_number l.direct ∷ a_number l.vacant ∷ []

-- a list of the election: any of them, or one that has votes or seats
abbrev pub is_shown_list : (any : Bool) → Election → ListSeats → Bool
is_shown_list any e l =
    (nat_lt l.land (lands_of e) && nat_lt l.party (parties_of e)) && (any || (nat_lt 0 (valid_in (list_at e l.land l.party)) || nat_lt 0 l.seats))

abbrev pub lists_table : (any : Bool) → Election → SeatTable → Table
lists_table any e t = record {
  key = codes "lists";
  columns = listed parties_columns.LISTS;
  rows = map (list_row e) (filter (is_shown_list any e) t.lists);
}

-- ---- winners

-- the constituency of a winner by his number, the Land, and the party if he has one
abbrev pub winner_row : ℕ × Win → List Content
winner_row w =
    an_entry (item.Win w.0) ∷ full_name (item.Win w.0) ∷ an_entry (item.Land w.1.land) ∷ full_name (item.Land w.1.land)
    ∷ party_cell w.1.party ∷ party_name_cell w.1.party (codes "-") (codes "-") ∷ []

abbrev pub is_on_list : Placed → Bool
is_on_list placed.OnList = true
is_on_list placed.Single = false
is_on_list placed.Unseated = false

abbrev pub has_place : Placed → Placed → Bool
has_place placed.Single place = is_single place
has_place placed.OnList place = is_on_list place
has_place placed.Unseated place = is_open place

-- the winners who have such places
abbrev pub placed_table : List ℕ → (Placed → Bool) → Election → SeatTable → Table
placed_table name has e t = record {
  key = name;
  columns = listed parties_columns.WINNERS;
  rows = map (λ x. winner_row x.0) (filter (λ x. has x.1) (zip (enumerate_from 0 e.wins) t.placed));
}

abbrev pub singles_table : Election → SeatTable → Table
singles_table e t = placed_table (codes "singles") is_single e t

abbrev pub open_table : Election → SeatTable → Table
open_table e t = placed_table (codes "open") is_open e t

-- ---- contested lists

-- the winners of contested lists, where they are covered
abbrev pub AreCovered : Seating → List Cond → SeatTable → Election → List Ranked → Type 0
AreCovered seating.Cover conditions t e ws = AreContested conditions t e ws
AreCovered seating.Keep conditions t e ws = ws ≡ []

abbrev pub ranked_row : Ranked → List Content
ranked_row w =
    an_entry (item.Land w.land) ∷ full_name (item.Land w.land) ∷ an_entry (item.Party w.party) ∷ full_name (item.Party w.party)
    ∷ an_entry (item.Win w.win) ∷ full_name (item.Win w.win)
    ∷ a_number w.first ∷ a_number w.valid ∷ percent_cell w.first w.valid ∷ percent_exact_cell w.first w.valid
    ∷ a_number w.rank ∷ a_flag w.seated ∷ []

abbrev pub covering_table : List Ranked → Table
covering_table ws = record {
  key = codes "covering";
  columns = listed covering_columns.COVERING;
  rows = map ranked_row ws;
}

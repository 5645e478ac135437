-- The tables of the totals of returns (docs/report.md).
use Rattle.std.specs.List.{AllZip}
use Rattle.std.specs.Prelude.{◌≡◌, ℕ, List, [], ◌∷◌, Option, None, Some, codes, count_by, filter, flat_map, length, map, nat_lt, option_map, slice_index, sum_by}
use Rattle.sl_report_forms.specs.Cells.{Content, a_number, a_word, an_entry, known, prose}
use Rattle.sl_report_forms.specs.Tables.{Table}
use Rattle.sl_report_parties.specs.Cells.{is_won}
use Rattle.sl_report_parties.specs.Lacking.{AreVotesFor, AreWinnersFor, Lacks}
use Rattle.sl_report_parties.specs.Parts.{part_of}
use Rattle.sl_report_parties.specs.Sums.{capped, is_alone_in, is_with, land_sum, lists_of, sum_in_all}
use Rattle.sl_report_parties.specs.declared.parts.PartyPart.{PartyPart}
use Rattle.sl_report_tables.specs.Columns.{listed}
use Rattle.sl_report_tables.specs.Parts.{condition_cell, full_name, percent_cell, percent_exact_cell}
use Rattle.sl_explain_texts.specs.Codes.{code_word}
use Rattle.sl_report_warnings.specs.Heads.{code_of, key_of}
use Rattle.sl_report_warnings.specs.Warnings.{warnings_of}
use Rattle.sl_report_warnings.specs.declared.warning.Warning.{Warning}
use Rattle.sl_law_meaning.specs.book.Books.{book_of}
use Rattle.sl_law_meaning.specs.declared.book.Book.{Book}
use Rattle.sl_law_meaning.specs.declared.book.Cond.{Cond}
use Rattle.sl_law_meaning.specs.declared.fault.Item.TheVariants as item
use Rattle.sl_law_meaning.specs.returns.Election.{Election, lands_of, parties_of}
use Rattle.sl_law_meaning.specs.returns.Facts.{all_valid_votes, is_in, lands, parties}
use Rattle.sl_law_meaning.specs.returns.Votes.{counted_in, valid_in}
use Rattle.sl_report_tables.specs.declared.warnings.TheConstants as warnings_columns
use Rattle.sl_report_tables.specs.declared.totals.TheConstants as totals_columns

abbrev pub totals_table : Election → Table
totals_table e = record {
  key = codes "totals";
  columns = listed totals_columns.TOTALS;
  rows = (
      a_number (all_valid_votes e) ∷ a_number (sum_in_all counted_in e)
      ∷ a_number (capped (sum_by (slice_index e.populations) (lands e)))
      ∷ a_number (lands_of e) ∷ a_number (parties_of e) ∷ a_number (capped (sum_by (lists_of e) (parties e)))
      ∷ a_number (length e.wins) ∷ a_number (count_by (is_with None) e.wins) ∷ []) ∷ [];
}

-- ---- parties

-- a party, by what it has, with the votes and the winners that it lacks
abbrev pub votes_row : List Cond → Election → ℕ → PartyPart → Option ℕ → Option ℕ → List Content
votes_row conditions e party has votes winners =
    an_entry (item.Party party) ∷ full_name (item.Party party)
    ∷ a_number has.votes.valid ∷ percent_cell has.votes.valid (all_valid_votes e) ∷ percent_exact_cell has.votes.valid (all_valid_votes e)
    ∷ a_number has.votes.counted ∷ a_number (lists_of e party) ∷ a_number has.winners
    ∷ condition_cell conditions has.met ∷ known votes ∷ known winners ∷ []

-- the row has what the party has, and what it lacks for the nearest condition on votes and on winners
pub record IsVotesRow (conditions : List Cond) (e : Election) (party : ℕ) (row : List Content) : Type 0 where
  pub votes : Option ℕ
  pub winners : Option ℕ
  pub lacks_votes : Lacks (AreVotesFor (part_of conditions e party).votes.valid (all_valid_votes e)) conditions (part_of conditions e party).met votes
  pub lacks_winners : Lacks (AreWinnersFor (part_of conditions e party).winners) conditions (part_of conditions e party).met winners
  pub row_is : row ≡ votes_row conditions e party (part_of conditions e party) votes winners

pub record IsVotesTable (conditions : List Cond) (e : Election) (t : Table) : Type 0 where
  pub key : t.key ≡ codes "votes"
  pub columns : t.columns ≡ listed totals_columns.VOTES
  pub rows : AllZip (IsVotesRow conditions e) (parties e) t.rows

-- ---- Länder

abbrev pub land_row : Election → ℕ → List Content
land_row e land =
    an_entry (item.Land land) ∷ full_name (item.Land land)
    ∷ a_number (slice_index e.populations land) ∷ a_number (land_sum valid_in e land) ∷ a_number (land_sum counted_in e land)
    ∷ a_number (count_by (is_in land) e.wins) ∷ a_number (count_by (is_alone_in land) e.wins) ∷ []

abbrev pub lands_table : Election → Table
lands_table e = record {
  key = codes "lands";
  columns = listed totals_columns.LANDS;
  rows = map (land_row e) (lands e);
}

-- ---- winners by Land and party

abbrev pub won_at : Election → ℕ → ℕ → ℕ
won_at e land party = count_by (is_won land party) e.wins

abbrev pub won_row : Election → ℕ → ℕ → List Content
won_row e land party =
    an_entry (item.Land land) ∷ full_name (item.Land land) ∷ an_entry (item.Party party) ∷ full_name (item.Party party) ∷ a_number (won_at e land party) ∷ []

-- the parties that have winners in a Land
abbrev pub won_rows : Election → ℕ → List (List Content)
won_rows e land = map (won_row e land) (filter (λ party. nat_lt 0 (won_at e land party)) (parties e))

abbrev pub winners_table : Election → Table
winners_table e = record {
  key = codes "winners";
  columns = listed totals_columns.WINNERS;
  rows = flat_map (won_rows e) (lands e);
}

-- ---- warnings

-- its code, its kind, and a sentence
abbrev pub warning_row : Warning → List Content
warning_row w = a_word (code_word (code_of w)) (code_word (code_of w)) ∷ a_word (key_of w) (key_of w) ∷ prose ∷ []

abbrev pub warnings_table : List Warning → Table
warnings_table warnings = record {
  key = codes "warnings";
  columns = listed warnings_columns.WARNINGS;
  rows = map warning_row warnings;
}

-- ---- all of them

-- the conditions of a book, and none without one
abbrev pub conditions_of : Option Book → List Cond
conditions_of None = []
conditions_of (Some b) = b.eligible.items

pub record AreTotals (b : Option Book) (e : Election) (tables : List Table) : Type 0 where
  pub votes : Table
  pub votes_are : IsVotesTable (conditions_of b) e votes
  pub tables_are : tables ≡ totals_table e ∷ votes ∷ lands_table e ∷ winners_table e ∷ warnings_table (warnings_of (option_map book_of b) e) ∷ []

-- The tables of several rulebooks, side by side (docs/report.md).
use Rattle.std.specs.List.{AllZip, flat_map, list_any}
use Rattle.std.specs.Prelude.{◌≡◌, ℕ, ◌-◌, Bool, ◌&&◌, List, [], ◌∷◌, ◌++◌, Option, Some, None, codes, count_by, drop, filter, if◌then◌else◌, map, nat_eq, nat_lt, option_map, string_bytes, sum_by, unwrap_or}
use Rattle.sl_report_forms.specs.Cells.{Content, a_change, a_number, a_text, an_entry, known, nothing}
use Rattle.sl_report_forms.specs.Tables.{Table, under}
use Rattle.sl_report_parties.specs.Seats.{all_seats, is_open, party_seats}
use Rattle.sl_report_parties.specs.Sums.{capped}
use Rattle.sl_report_tables.specs.Columns.{listed}
use Rattle.sl_report_tables.specs.Parties.{house_of}
use Rattle.sl_report_tables.specs.Faults.{kind_cell}
use Rattle.sl_report_tables.specs.Naming.{text_of}
use Rattle.sl_report_tables.specs.Parts.{full_name, party_cell, party_name_cell}
use Rattle.sl_report_tables.specs.declared.compare.Judged.{Judged}
use Rattle.sl_law_meaning.specs.declared.book.Book.{Book}
use Rattle.sl_law_meaning.specs.declared.count.Counted.{Counted}
use Rattle.sl_law_meaning.specs.declared.fault.Item.TheVariants as item
use Rattle.sl_law_meaning.specs.declared.fault.LegalFault.{LegalFault}
use Rattle.sl_law_meaning.specs.declared.table.ListSeats.{ListSeats}
use Rattle.sl_law_meaning.specs.returns.Election.{Election, has_list}
use Rattle.sl_law_meaning.specs.returns.Facts.{lands, parties}
use Rattle.sl_report_tables.specs.declared.lists_compared.TheConstants as lists_compared_columns
use Rattle.sl_report_tables.specs.declared.compare.TheConstants as compare_columns
use Rattle.sl_report_tables.specs.declared.changes.TheConstants as changes_columns

-- the word for a legal fault, where there is one
abbrev pub fault_cell : Option LegalFault → Content
fault_cell None = nothing
fault_cell (Some fault) = kind_cell fault.kind

-- ---- a line for each book

-- the seats in all, where there is a count
abbrev pub seats_of : Option Counted → Option ℕ
seats_of c = option_map (λ c. (all_seats c.table).seats) c

-- those beyond the house
abbrev pub beyond : Election → Book → Option Counted → Option ℕ
beyond e book c = option_map (λ seats. seats - house_of book e) (seats_of c)

-- the winners who are not seated
abbrev pub unseated : Option Counted → Option ℕ
unseated c = option_map (λ c. count_by is_open c.table.placed) c

-- the word and the law of the book, what it distributes, where it differs from the first book, and its fault
abbrev pub book_row : Election → Judged → Content → List Content
book_row e j differs =
    a_text (string_bytes j.word) ∷ a_text (text_of j.book.book.law.items) ∷ known (seats_of j.counted) ∷ known (beyond e j.book.book j.counted)
    ∷ known (unseated j.counted) ∷ differs ∷ fault_cell j.fault ∷ []

abbrev pub IsBookRow : Election → Judged → List Content → Type 0
IsBookRow e j row = (differs : Content) × (row ≡ book_row e j differs)

pub record IsBooksTable (e : Election) (books : List Judged) (t : Table) : Type 0 where
  pub key : t.key ≡ codes "books"
  pub columns : t.columns ≡ listed compare_columns.BOOKS
  pub rows : AllZip (IsBookRow e) books t.rows

-- ---- who is compared: all together, and then each party

abbrev pub compared : Election → List (Option ℕ)
compared e = None ∷ map Some (parties e)

-- the names of a party, or the word for all
abbrev pub compared_name : Option ℕ → List Content
compared_name party = party_cell party ∷ party_name_cell party (codes "all") (codes "alle") ∷ []

-- the seats by a count: all of them, or those of a party
abbrev pub seats_in : Election → Option ℕ → Counted → ℕ
seats_in e None c = (all_seats c.table).seats
seats_in e (Some party) c = (party_seats c.table e party).seats

-- ---- parties in rows, with a column for each book

-- a number of the count, or else the word for the fault
abbrev pub number_or_fault : (Counted → ℕ) → Option Counted → Option LegalFault → Content
number_or_fault number None fault = fault_cell fault
number_or_fault number (Some c) fault = a_number (number c)

abbrev pub compared_cell : Election → Option ℕ → Judged → Content
compared_cell e party j = number_or_fault (seats_in e party) j.counted j.fault

abbrev pub compared_row : Election → List Judged → Option ℕ → List Content
compared_row e books party = compared_name party ++ map (compared_cell e party) books

abbrev pub compare_table : Election → List Judged → Table
compare_table e books = record {
  key = codes "compare";
  columns = listed compare_columns.COMPARE ++ map (λ j. under (string_bytes j.word)) books;
  rows = map (compared_row e books) (compared e);
}

-- ---- the differences from the first book, with a column for each further book

-- how many seats more or fewer there are by one count than by another
abbrev pub change_cell : Election → Option ℕ → (before now : Option Counted) → Content
change_cell e party (Some before) (Some now) = a_change (seats_in e party now) (seats_in e party before)
change_cell e party None now = nothing
change_cell e party (Some before) None = nothing

-- that number, or else the word for the fault of the count
abbrev pub change_or_fault : Election → Option ℕ → Option Counted → Judged → Content
change_or_fault e party before j = by_count j.counted
  where
    by_count : Option Counted → Content
    by_count (Some now) = change_cell e party before (Some now)
    by_count None = fault_cell j.fault

abbrev pub change_row : Election → Judged → List Judged → Option ℕ → List Content
change_row e first others party = compared_name party ++ map (change_or_fault e party first.counted) others

-- rows from a count: none where there is no count
abbrev pub rows_from : Option Counted → List (List Content) → List (List Content)
rows_from None rows = []
rows_from (Some c) rows = rows

-- none of a single book, and none from a first book that has a legal fault
abbrev pub change_rows : Election → List Judged → List (List Content)
change_rows e [] = []
change_rows e (first ∷ []) = []
change_rows e (first ∷ second ∷ more) = rows_from first.counted (map (change_row e first (second ∷ more)) (compared e))

abbrev pub changes_table : Election → List Judged → Table
changes_table e books = record {
  key = codes "changes";
  columns = listed compare_columns.COMPARE ++ map (λ j. under (string_bytes j.word)) (drop 1 books);
  rows = change_rows e books;
}

-- ---- the lists that have seats, with a column for each book

-- the seats of a line, if it is that of the party's list in the Land
abbrev pub seats_at : (land party : ℕ) → ListSeats → ℕ
seats_at land party l = if nat_eq l.land land && nat_eq l.party party then l.seats else 0

-- the seats of the list by a count
abbrev pub list_seats : (land party : ℕ) → Counted → ℕ
list_seats land party c = capped (sum_by (seats_at land party) c.table.lists)

-- a book gives the list seats
abbrev pub gives_seats : (land party : ℕ) → Judged → Bool
gives_seats land party j = nat_lt 0 (unwrap_or (option_map (list_seats land party) j.counted) 0)

-- a list that has seats by one of the books
abbrev pub has_seats : Election → List Judged → (land party : ℕ) → Bool
has_seats e books land party = has_list e land party && list_any (gives_seats land party) books

abbrev pub list_seats_cell : (land party : ℕ) → Judged → Content
list_seats_cell land party j = number_or_fault (list_seats land party) j.counted j.fault

-- the Land, the party, and the seats by each book or the word for its fault
abbrev pub list_seats_row : List Judged → (land party : ℕ) → List Content
list_seats_row books land party = an_entry (item.Land land) ∷ full_name (item.Land land) ∷ an_entry (item.Party party) ∷ full_name (item.Party party) ∷ map (list_seats_cell land party) books

abbrev pub list_seats_rows : Election → List Judged → (land : ℕ) → List (List Content)
list_seats_rows e books land = map (list_seats_row books land) (filter (has_seats e books land) (parties e))

abbrev pub list_seats_table : Election → List Judged → Table
list_seats_table e books = record {
  key = codes "list_seats";
  columns = listed lists_compared_columns.LISTS ++ map (λ j. under (string_bytes j.word)) books;
  rows = flat_map (list_seats_rows e books) (lands e);
}

-- ---- a row for each book and each party

-- the word of the book, the party, its seats, and their difference from those by the first book
abbrev pub seats_row : Election → (first j : Judged) → Option ℕ → List Content
seats_row e first j party = a_text (string_bytes j.word) ∷ compared_name party ++ known (option_map (seats_in e party) j.counted) ∷ change_cell e party first.counted j.counted ∷ []

abbrev pub seats_rows : Election → List Judged → List (List Content)
seats_rows e [] = []
seats_rows e (first ∷ others) = flat_map (λ j. map (seats_row e first j) (compared e)) (first ∷ others)

abbrev pub seats_table : Election → List Judged → Table
seats_table e books = record {
  key = codes "seats";
  columns = listed changes_columns.EACH;
  rows = seats_rows e books;
}

pub record AreComparison (e : Election) (books : List Judged) (tables : List Table) : Type 0 where
  pub lines : Table
  pub lines_are : IsBooksTable e books lines
  pub tables_are : tables ≡ lines ∷ compare_table e books ∷ changes_table e books ∷ list_seats_table e books ∷ seats_table e books ∷ []

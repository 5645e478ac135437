-- What an election is, read off the records after the header (docs/returns.md, section 4).
use Rattle.std.specs.Prelude.{ℕ, ◌-◌, Bool, List, ◌++◌, length, map, filter, find, replicate, Option, None, option_map, nat_eq, ◌&&◌, slice_get}
use Rattle.std.specs.Str.{bytes_eq}
use Rattle.sl_base_quotients.specs.declared.limits.TheConstants.{MAX_PARTIES}
use Rattle.sl_law_meaning.specs.declared.election.ListVotes.{ListVotes}
use Rattle.sl_law_meaning.specs.declared.election.Win.{Win}
use Rattle.sl_law_meaning.specs.declared.election.Lot.{Lot}
use Rattle.sl_law_meaning.specs.returns.Election.{Election}
use Rattle.sl_returns.specs.declared.schema.TheConstants.{KIND, LAND, PARTY, A, B, C}
use Rattle.sl_returns.specs.declared.schema.Kind.{Kind}
use Rattle.sl_returns.specs.declared.schema.Kind.TheVariants as kind
use Rattle.sl_returns.specs.Cells.{Record, cell, number_of, number_or_none, place_in, place_or_none}
use Rattle.sl_returns.specs.Schema.{word_of}

-- the records of a kind, in their order
abbrev pub of_kind : Kind → List Record → List Record
of_kind k rs = filter (λ r. bytes_eq (cell r KIND) (word_of k)) rs

-- what a column has in each of them
abbrev pub column : ℕ → List Record → List (List ℕ)
column at rs = map (λ r. cell r at) rs

-- the house that the first of its records tells
abbrev pub house : List Record → Option ℕ
house rs = slice_get (map number_of (column A (of_kind kind.House rs))) 0

abbrev pub land_names : List Record → List (List ℕ)
land_names rs = column LAND (of_kind kind.Land rs)

abbrev pub populations : List Record → List ℕ
populations rs = map number_of (column A (of_kind kind.Land rs))

abbrev pub party_names : List Record → List (List ℕ)
party_names rs = column PARTY (of_kind kind.Party rs)

-- whether a record tells of a party of a national minority
abbrev pub is_minority : Record → Bool
is_minority r = nat_eq (number_of (cell r A)) 1

abbrev pub minorities : List Record → List Bool
minorities rs = map is_minority (of_kind kind.Party rs)

-- ---- lists

-- what a record tells of its list
abbrev pub votes_of : Record → ListVotes
votes_of r = record { valid = number_of (cell r A); counted = number_of (cell r B); slate = number_or_none (cell r C) }

-- whether a record names that Land and that party
abbrev pub names_both : List ℕ → List ℕ → Record → Bool
names_both land party r = bytes_eq (cell r LAND) land && bytes_eq (cell r PARTY) party

-- the list of a party in a Land, from the records of lists
abbrev pub list_from : List Record → List ℕ → List ℕ → Option ListVotes
list_from lists land party = option_map votes_of (find (names_both land party) lists)

-- a Land's row: a cell for each party, and empty ones for the parties that there may be beyond
abbrev pub row_from : List Record → List (List ℕ) → List ℕ → List (Option ListVotes)
row_from lists parties land = map (list_from lists land) parties ++ replicate (MAX_PARTIES - length parties) None

abbrev pub rows_from : List Record → List (List ℕ) → List (List ℕ) → List (List (Option ListVotes))
rows_from lists lands parties = map (row_from lists parties) lands

-- those of these records that name the party
abbrev pub of_party : List ℕ → List Record → List Record
of_party party rs = filter (λ r. bytes_eq (cell r PARTY) party) rs

-- ---- winners

abbrev pub win_of : List (List ℕ) → List (List ℕ) → Record → Win
win_of lands parties r = record {
  land = place_in lands (cell r LAND);
  party = place_or_none parties (cell r PARTY);
  first = number_of (cell r B);
  valid = number_of (cell r C);
}

abbrev pub win_names : List Record → List (List ℕ)
win_names rs = column A (of_kind kind.Win rs)

abbrev pub wins : List Record → List Win
wins rs = map (win_of (land_names rs) (party_names rs)) (of_kind kind.Win rs)

-- ---- lots

-- the lot that a record tells
abbrev pub lot_of : List (List ℕ) → List (List ℕ) → List (List ℕ) → Record → Lot
lot_of lands parties constituencies r = record {
  land = place_or_none lands (cell r LAND);
  party = place_or_none parties (cell r PARTY);
  stage = cell r A;
  win = place_or_none constituencies (cell r B);
}

abbrev pub lots : List Record → List Lot
lots rs = map (lot_of (land_names rs) (party_names rs) (win_names rs)) (of_kind kind.Lot rs)

-- ---- the election

abbrev pub election_of_records : List Record → Election
election_of_records rs = record {
  house = house rs;
  land_names = land_names rs;
  populations = populations rs;
  cells = rows_from (of_kind kind.List rs) (land_names rs) (party_names rs);
  party_names = party_names rs;
  minorities = minorities rs;
  win_names = win_names rs;
  wins = wins rs;
  lots = lots rs;
}

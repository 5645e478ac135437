-- The short text of a seat table (docs/output.md, section 1).
use Rattle.std.specs.Prelude.{ℕ, ◌+◌, Bool, true, false, ◌&&◌, List, [], ◌∷◌, ◌++◌, flat_map, filter, sum_by, count_by, codes, nat_eq, nat_lt, slice_index_or, if◌then◌else◌}
use Rattle.std.specs.List.{zip}
use Rattle.std.specs.Fmt.{decimal}
use Rattle.sl_law_meaning.specs.declared.table.ListSeats.{ListSeats}
use Rattle.sl_law_meaning.specs.declared.table.Placed.{Placed}
use Rattle.sl_law_meaning.specs.declared.table.Placed.TheVariants as placed
use Rattle.sl_law_meaning.specs.declared.election.Win.{Win}
use Rattle.sl_law_meaning.specs.returns.Election.{Election}
use Rattle.sl_law_meaning.specs.returns.Facts.{parties, is_of}
use Rattle.sl_law_meaning.specs.meaning.Tables.{SeatTable}
use Rattle.sl_count_texts.specs.Lines.{line}

abbrev pub is_single : Placed → Bool
is_single placed.Single = true
is_single placed.OnList = false
is_single placed.Unseated = false

abbrev pub is_seated : Placed → Bool
is_seated placed.Unseated = false
is_seated placed.OnList = true
is_seated placed.Single = true

abbrev pub is_list_of : ℕ → ListSeats → Bool
is_list_of party l = nat_eq l.party party

-- ---- names of the returns

module _ (e : Election) where
  abbrev pub land_word : ℕ → List ℕ
  land_word land = slice_index_or e.land_names land []

  abbrev pub party_word : ℕ → List ℕ
  party_word party = slice_index_or e.party_names party []

-- ---- numbers of the table

-- the seats of all lists, and all singles
abbrev pub total_seats : SeatTable → ℕ
total_seats t = sum_by (λ l. l.seats) t.lists + count_by is_single t.placed

module _ (t : SeatTable) (e : Election) where
  -- each winner beside the place
  abbrev pub places : List (Win × Placed)
  places = zip e.wins t.placed

  abbrev pub singles_of : ℕ → ℕ
  singles_of party = count_by (λ x. is_of party x.0 && is_single x.1) places

  -- the seats of a party's lists and its singles, and its winners who are seated
  abbrev pub seats_of : ℕ → ℕ
  seats_of party = sum_by (λ l. l.seats) (filter (is_list_of party) t.lists) + singles_of party

  abbrev pub seated_of : ℕ → ℕ
  seated_of party = count_by (λ x. is_of party x.0 && is_seated x.1) places

-- ---- lines

abbrev pub total_line : SeatTable → List ℕ
total_line t = line (codes "total" ∷ decimal (total_seats t) ∷ [])

abbrev pub party_line : SeatTable → Election → ℕ → List ℕ
party_line t e party = line (codes "party" ∷ party_word e party ∷ decimal (seats_of t e party) ∷ decimal (seated_of t e party) ∷ [])

abbrev pub list_line : Election → ListSeats → List ℕ
list_line e l = line (codes "list" ∷ land_word e l.land ∷ party_word e l.party ∷ decimal l.seats ∷ decimal l.direct ∷ [])

-- a line where seats are vacant
abbrev pub vacant_line : Election → ListSeats → List ℕ
vacant_line e l = if nat_lt 0 l.vacant then line (codes "vacant" ∷ land_word e l.land ∷ party_word e l.party ∷ decimal l.vacant ∷ []) else []

-- a line for a winner who sits as a single, or not at all
abbrev pub winner_line : List ℕ × Placed → List ℕ
winner_line (name, placed.Single) = line (codes "single" ∷ name ∷ [])
winner_line (name, placed.Unseated) = line (codes "open" ∷ name ∷ [])
winner_line (name, placed.OnList) = []

-- the total; each party; each list; the vacant seats of lists; the winners who sit on no list
abbrev pub short_text : SeatTable → Election → List ℕ
short_text t e =
    total_line t
    ++ (flat_map (party_line t e) (parties e)
    ++ (flat_map (list_line e) t.lists
    ++ (flat_map (vacant_line e) t.lists
    ++ flat_map winner_line (zip e.win_names t.placed))))

-- Returns of one Land, as examples/elections has them: parties with votes in it, and winners of its constituencies.
use Rattle.std.specs.Prelude.{ℕ, ◌+◌, Bool, List, [], ◌∷◌}
use Rattle.sl_law_meaning.specs.declared.table.ListSeats.{ListSeats}
use Rattle.sl_law_meaning.specs.declared.table.Placed.{Placed}
use Rattle.sl_law_meaning.specs.meaning.Tables.{SeatTable}
use Rattle.sl_law_meaning.specs.returns.Election.{Election, with_party, with_list, with_win}
use Rattle.sl_law_examples.specs.VotesThatCost.{votes}
use Rattle.sl_law_examples.specs.Tables.{winner_by}

-- parties of these names, each of a national minority or not
abbrev pub with_parties : List (List ℕ × Bool) → Election → Election
with_parties [] e = e
with_parties (p ∷ ps) e = with_parties ps (with_party e p.0 p.1)

-- lists of the parties from number n on, in the first Land, with these votes
abbrev pub with_lists : ℕ → List ℕ → Election → Election
with_lists n [] e = e
with_lists n (v ∷ vs) e = with_lists (n + 1) vs (with_list e 0 n (votes v))

-- winners of a party in the first Land, in constituencies of these names, each with one of two first votes
abbrev pub with_winners : ℕ → List (List ℕ) → Election → Election
with_winners party [] e = e
with_winners party (name ∷ names) e = with_winners party names (with_win e name (winner_by 0 party 1 2))

-- a table without steps and weights; and a line of it: so many seats of a party in the first Land, of them so many for winners
abbrev pub table_of : List ListSeats → List Placed → SeatTable
table_of lines places = record { lists = lines; placed = places; steps = []; weights = [] }

abbrev pub line : ℕ → ℕ → ℕ → ListSeats
line party seats direct = record { land = 0; party = party; seats = seats; direct = direct; vacant = 0 }

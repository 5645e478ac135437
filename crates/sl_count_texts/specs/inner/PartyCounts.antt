-- What is counted for the lines of the parties.
use Rattle.std.specs.Prelude.{◌≡◌, ℕ, ◌+◌, ◌^◌, ◌≤◌, ◌&&◌, Bool, All, List, Option, None, count_by, sum_by, if◌then◌else◌}
use Rattle.sl_law_meaning.specs.declared.election.Win.{Win}
use Rattle.sl_law_meaning.specs.declared.table.ListSeats.{ListSeats}
use Rattle.sl_law_meaning.specs.declared.table.Placed.{Placed}
use Rattle.sl_law_meaning.specs.returns.Election.{Election}
use Rattle.sl_law_meaning.specs.returns.Facts.{by_party, is_of}
use Rattle.sl_law_meaning.specs.meaning.Tables.{SeatTable}
use Rattle.sl_count_texts.specs.Short.{is_list_of, is_seated, is_single, places, seated_of, singles_of}
use Rattle.sl_count_texts.specs.declared.party_counts.Counted.{Counted}
use Rattle.sl_count_texts.specs.declared.party_counts.Counted.TheVariants as counted

-- whether a winner is counted who sits there
abbrev pub counts : Counted → Placed → Bool
counts counted.Seated = is_seated
counts counted.Singles = is_single

-- the party of a winner who is counted
abbrev pub party_counted : Counted → Win → Placed → Option ℕ
party_counted c w place = if counts c place then w.party else None

-- how many winners of a party are counted
abbrev pub winners_counted : Counted → SeatTable → Election → ℕ → ℕ
winners_counted c t e party = count_by (λ x. is_of party x.0 && counts c x.1) (places t e)

-- the seats of a party's lists, as a sum over all lists
abbrev pub list_seats_of : List ListSeats → ℕ → ℕ
list_seats_of lists party = sum_by (λ l. if is_list_of party l then l.seats else 0) lists

-- columns by party: the seats of its lists, with room for a single of each winner; its winners who are seated; those who sit as singles
pub record AreCounts (t : SeatTable) (e : Election) (seats_column seated_column singles_column : List ℕ) : Type 0 where
  pub list_seats : seats_column ≡ by_party e (list_seats_of t.lists)
  pub room : All (λ seats. seats + 2 ^ 64 ≤ 2 ^ 128) seats_column
  pub seated : seated_column ≡ by_party e (seated_of t e)
  pub singles : singles_column ≡ by_party e (singles_of t e)

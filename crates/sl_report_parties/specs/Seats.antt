-- The seats of parties, as the lines of a seat table have them.
use Rattle.std.specs.Prelude.{ℕ, ◌+◌, Bool, true, false, ◌&&◌, List, sum_by, count_by, is_none, nat_eq, if◌then◌else◌}
use Rattle.std.specs.List.{zip}
use Rattle.sl_law_meaning.specs.declared.election.Win.{Win}
use Rattle.sl_law_meaning.specs.declared.table.ListSeats.{ListSeats}
use Rattle.sl_law_meaning.specs.declared.table.Placed.{Placed}
use Rattle.sl_law_meaning.specs.declared.table.Placed.TheVariants as placed
use Rattle.sl_law_meaning.specs.meaning.Tables.{SeatTable}
use Rattle.sl_law_meaning.specs.returns.Election.{Election}
use Rattle.sl_law_meaning.specs.returns.Facts.{is_of}
use Rattle.sl_report_parties.specs.declared.seats.Seats.{Seats}
use Rattle.sl_report_parties.specs.Sums.{capped}

-- what a party's lists have
abbrev pub of_lists : (ListSeats → ℕ) → ℕ → List ListSeats → ℕ
of_lists number party lists = sum_by (λ l. if nat_eq l.party party then number l else 0) lists

abbrev pub is_single : Placed → Bool
is_single placed.Single = true
is_single placed.OnList = false
is_single placed.Unseated = false

abbrev pub is_seated : Placed → Bool
is_seated placed.Single = true
is_seated placed.OnList = true
is_seated placed.Unseated = false

abbrev pub is_open : Placed → Bool
is_open placed.Single = false
is_open placed.OnList = false
is_open placed.Unseated = true

-- a party's winners with such places
abbrev pub of_winners : (Placed → Bool) → ℕ → List Win → List Placed → ℕ
of_winners test party wins places = count_by (λ x. is_of party x.0 && test x.1) (zip wins places)

abbrev pub party_seats : SeatTable → Election → ℕ → Seats
party_seats t e party = record {
  seats = capped (of_lists (λ l. l.seats) party t.lists + of_winners is_single party e.wins t.placed);
  direct = capped (of_winners is_seated party e.wins t.placed);
  vacant = capped (of_lists (λ l. l.vacant) party t.lists);
}

abbrev pub all_seats : SeatTable → Seats
all_seats t = record {
  seats = capped (sum_by (λ l. l.seats) t.lists + count_by is_single t.placed);
  direct = capped (count_by is_seated t.placed);
  vacant = capped (sum_by (λ l. l.vacant) t.lists);
}

-- the winners without a party who are seated, each as a single
abbrev pub seats_without_party : SeatTable → Election → ℕ
seats_without_party t e = count_by (λ x. is_none x.0.party && is_single x.1) (zip e.wins t.placed)

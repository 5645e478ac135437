-- The seats of all parties, by some of the lists and of the winners.
use Rattle.std.specs.Prelude.{◌≡◌, ℕ, ◌+◌, ◌<◌, ◌&&◌, List, Option, count_by, length, slice_index_or, if◌then◌else◌}
use Rattle.sl_law_meaning.specs.declared.election.Win.{Win}
use Rattle.sl_law_meaning.specs.declared.table.ListSeats.{ListSeats}
use Rattle.sl_law_meaning.specs.declared.table.Placed.{Placed}
use Rattle.sl_law_meaning.specs.returns.Facts.{is_of}
use Rattle.sl_report_parties.specs.Seats.{is_seated, is_single, of_lists}
use Rattle.sl_report_parties.specs.Sums.{capped, one_if}
use Rattle.sl_report_parties.specs.declared.seats.Seats.{Seats}
use Rattle.sl_report_parties.specs.inner.Winners.{is_at}

-- so many seats, of constituency winners and vacant
abbrev pub capped_seats : (seats direct vacant : ℕ) → Seats
capped_seats seats direct vacant = record { seats = capped seats; direct = capped direct; vacant = capped vacant }

-- those of a winner with that place
abbrev pub seats_placed : Placed → Seats
seats_placed place = record { seats = one_if (is_single place); direct = one_if (is_seated place); vacant = 0 }

-- those of a party, by some lists and by some winners with their places
abbrev pub seats_by : List ListSeats → List (Win × Placed) → ℕ → Seats
seats_by lists winners party =
    capped_seats (of_lists (λ l. l.seats) party lists + count_by (λ x. is_of party x.0 && is_single x.1) winners)
    (count_by (λ x. is_of party x.0 && is_seated x.1) winners) (of_lists (λ l. l.vacant) party lists)

-- those of each of so many parties
pub record AreSeats (parties : ℕ) (lists : List ListSeats) (winners : List (Win × Placed)) (all : List Seats) : Type 0 where
  pub long : length all ≡ parties
  pub each : (k : ℕ) (d : Seats) → k < parties → slice_index_or all k d ≡ seats_by lists winners k

-- the same and more seats, where they are those of the party
abbrev pub with_more : Option ℕ → Seats → ℕ → Seats → Seats
with_more party more k s = if is_at k party then capped_seats (s.seats + more.seats) (s.direct + more.direct) (s.vacant + more.vacant) else s

pub record IsWith (party : Option ℕ) (more : Seats) (before after : List Seats) : Type 0 where
  pub long : length after ≡ length before
  pub each : (k : ℕ) (d : Seats) → k < length before → slice_index_or after k d ≡ with_more party more k (slice_index_or before k d)

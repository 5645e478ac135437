-- The ranks of the winners of a list.
use Rattle.std.specs.Prelude.{◌≡◌, ℕ, ◌+◌, ◌*◌, Bool, false, ◌&&◌, List, count_by, filter, flat_map, map, nat_eq, nat_lt, option_map, slice_get, unwrap_or}
use Rattle.std.specs.List.Sorted.{IsPermutation, IsSortedByKey, IsStableByKey}
use Rattle.std.specs.List.{AllZip, enumerate_from}
use Rattle.std.specs.Ordering.{nat_cmp}
use Rattle.sl_report_parties.specs.Seats.{is_seated}
use Rattle.sl_report_parties.specs.declared.contests.Ranked.{Ranked}
use Rattle.sl_law_meaning.specs.declared.book.Cond.{Cond}
use Rattle.sl_law_meaning.specs.declared.election.Win.{Win}
use Rattle.sl_law_meaning.specs.declared.table.ListSeats.{ListSeats}
use Rattle.sl_law_meaning.specs.meaning.Tables.{SeatTable}
use Rattle.sl_law_meaning.specs.returns.Election.{Election, parties_of}
use Rattle.sl_law_meaning.specs.returns.Facts.{is_eligible, is_of}

abbrev pub is_on : ListSeats → Win → Bool
is_on l w = is_of l.party w && nat_eq w.land l.land

-- the other winner has the greater share of first votes
abbrev pub is_above : Win → Win → Bool
is_above w other = nat_lt (w.first * other.valid) (other.first * w.valid)

-- 1 more than the winners of the list with a greater share
abbrev pub rank_of : ListSeats → Win → List Win → ℕ
rank_of l w wins = count_by (λ other. is_on l other && is_above w other) wins + 1

-- the winner of that number among all, of a list
abbrev pub ranked_of : SeatTable → Election → ListSeats → ℕ × Win → Ranked
ranked_of t e l x = record {
  land = l.land;
  party = l.party;
  win = x.0;
  first = x.1.first;
  valid = x.1.valid;
  rank = rank_of l x.1 e.wins;
  seated = unwrap_or (option_map is_seated (slice_get t.placed x.0)) false;
}

-- the winners of a list, in the order of their records
abbrev pub winners_of_list : SeatTable → Election → ListSeats → List Ranked
winners_of_list t e l = map (ranked_of t e l) (filter (λ x. is_on l x.1) (enumerate_from 0 e.wins))

-- those by rank, and those of one rank in the order of their records
pub record AreByRank (xs ys : List Ranked) : Type 0 where
  pub all : IsPermutation xs ys
  pub order : IsSortedByKey (λ w. w.rank) nat_cmp ys
  pub ties : IsStableByKey (λ w. w.rank) nat_cmp xs ys

-- the list is of a party of the election that meets a condition
abbrev pub has_eligible_party : List Cond → Election → ListSeats → Bool
has_eligible_party conditions e l = nat_lt l.party (parties_of e) && is_eligible conditions e l.party

-- a list of a party that takes part has more winners than seats
abbrev pub is_contested : List Cond → Election → ListSeats → Bool
is_contested conditions e l = nat_lt l.seats (count_by (is_on l) e.wins) && has_eligible_party conditions e l

-- the winners of each contested list, list by list
abbrev pub AreContested : List Cond → SeatTable → Election → List Ranked → Type 0
AreContested conditions t e found =
    (each : List (List Ranked)) × AllZip (λ l ws. AreByRank (winners_of_list t e l) ws) (filter (is_contested conditions e) t.lists) each
    × (found ≡ flat_map (λ ws. ws) each)

-- The parties that a press report shows, in the order of their seats, and those that it leaves out.
use Rattle.std.specs.List.Sorted.{IsPermutation, IsStableByKey}
use Rattle.std.specs.List.{AllAdjacentBelow}
use Rattle.std.specs.Ordering.{nat_cmp}
use Rattle.std.specs.Prelude.{ℕ, ◌≤◌, ◌||◌, Bool, List, [], Option, filter, is_none, length, map, nat_lt, option_map, slice_index_or, unwrap_or}
use Rattle.sl_report_parties.specs.Earlier.{seats_before}
use Rattle.sl_report_parties.specs.Parts.{part_of}
use Rattle.sl_report_parties.specs.Seats.{party_seats}
use Rattle.sl_report_parties.specs.declared.earlier.EarlierParty.{EarlierParty}
use Rattle.sl_report_parties.specs.declared.press.Pressed.{Pressed}
use Rattle.sl_report_parties.specs.declared.press.Standing.{Standing}
use Rattle.sl_law_meaning.specs.declared.book.Cond.{Cond}
use Rattle.sl_law_meaning.specs.meaning.Tables.{SeatTable}
use Rattle.sl_law_meaning.specs.returns.Election.{Election}
use Rattle.sl_law_meaning.specs.returns.Facts.{parties}

-- these, those with the most first: of two that stand one after another the first has at least as many, and those with as many keep their order
pub record AreByGreatest {A : Type 0} (number : A → ℕ) (xs ys : List A) : Type 0 where
  pub all : IsPermutation xs ys
  pub order : AllAdjacentBelow (λ x y. number y ≤ number x) ys (length ys)
  pub ties : IsStableByKey number nat_cmp xs ys

-- ---- who is shown

-- a party with its seats, its votes, the constituencies that it won, and its seats in an earlier table, where one is given
abbrev pub pressed_of : List Cond → SeatTable → Election → Option (List EarlierParty) → ℕ → Pressed
pressed_of conditions t e earlier party = record {
  party = party;
  seats = party_seats t e party;
  part = part_of conditions e party;
  before = option_map (seats_before (slice_index_or e.party_names party [])) earlier;
}

-- it has a seat, or won a constituency, or had a seat
abbrev pub is_pressed : Pressed → Bool
is_pressed p = nat_lt 0 p.seats.seats || (nat_lt 0 p.part.winners || nat_lt 0 (unwrap_or p.before 0))

-- those with a seat or a constituency, or with a seat in an earlier table, by their seats
abbrev pub ArePressed : List Cond → SeatTable → Election → Option (List EarlierParty) → List Pressed → Type 0
ArePressed conditions t e earlier found =
    AreByGreatest (λ p. p.seats.seats) (filter is_pressed (map (pressed_of conditions t e earlier) (parties e))) found

-- ---- who is left out

abbrev pub standing_of : List Cond → Election → ℕ → Standing
standing_of conditions e party = record { party = party; part = part_of conditions e party }

-- it meets no condition
abbrev pub is_left_out : Standing → Bool
is_left_out s = is_none s.part.met

-- those that meet no condition, by their valid votes
abbrev pub AreLeftOut : List Cond → Election → List Standing → Type 0
AreLeftOut conditions e found =
    AreByGreatest (λ s. s.part.votes.valid) (filter is_left_out (map (standing_of conditions e) (parties e))) found

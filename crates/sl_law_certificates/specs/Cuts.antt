-- Seats of a scope with a cut: a rank that every seat won reaches and that no waiting claim exceeds. What they show is computed entry by
-- entry (docs/certificate.md, section 1).
use Rattle.std.specs.Prelude.{ℕ, ◌-◌, ◌*◌, Bool, ◌&&◌, ◌||◌, not, List, Option, Some, None, length, filter, slice_index, nat_lt, nat_le, nat_eq, if◌then◌else◌}
use Rattle.std.specs.List.{list_all, list_any, range_with_len}
use Rattle.sl_base_quotients.specs.Quotient.{Quotient}
use Rattle.sl_law_meaning.specs.methods.Ties.{Choice, Decided, Tied, drawn}
use Rattle.sl_law_meaning.specs.laws.Ladders.{Ladders}

-- what a certificate tells of a scope: the seats of its entries, and a cut
pub record Told : Type 0 where
  pub seats : List ℕ
  pub cut : Quotient

abbrev pub at_most : Quotient → Quotient → Bool
at_most x y = nat_le (x.num * y.den) (y.num * x.den)

abbrev pub same_quotient : Quotient → Quotient → Bool
same_quotient x y = nat_eq (x.num * y.den) (y.num * x.den)

-- each of these entries is named there
abbrev pub names_all : List ℕ → List ℕ → Bool
names_all there entries = list_all (λ i. list_any (λ j. nat_eq j i) there) entries

-- the numbers of the entries
abbrev pub entries : Ladders → List ℕ
entries l = range_with_len 0 (length l.base)

module _ (l : Ladders) (t : Told) where
  -- entry i won a seat beyond its base; there is a next seat for it, so a claim of it waits
  abbrev pub has_won : ℕ → Bool
  has_won i = nat_lt (slice_index l.base i) (slice_index t.seats i)

  abbrev pub does_wait : ℕ → Bool
  does_wait i = l.has i (slice_index t.seats i)

  -- how its last seat ranks, and its next claim
  abbrev pub last_rank : ℕ → Quotient
  last_rank i = l.rank i (slice_index t.seats i - 1)

  abbrev pub next_rank : ℕ → Quotient
  next_rank i = l.rank i (slice_index t.seats i)

  -- the entry has its base at least; if it won a seat, there is one to win, and its last one reaches the cut; if a claim of it waits, that
  -- does not exceed the cut
  abbrev pub fits_cut : ℕ → Bool
  fits_cut i =
      nat_le (slice_index l.base i) (slice_index t.seats i)
      && ((not (has_won i) || (l.has i (slice_index t.seats i - 1) && at_most t.cut (last_rank i)))
      && (not (does_wait i) || at_most (next_rank i) t.cut))

  -- the seats are one number for each entry, and the cut parts the seats won from the waiting claims
  abbrev pub is_cut : Bool
  is_cut = nat_eq (length t.seats) (length l.base) && (nat_lt 0 t.cut.num && list_all fits_cut (entries l))

  -- the entries on the cut: who won there, who waits there, and both
  abbrev pub is_won_on : ℕ → Bool
  is_won_on i = has_won i && same_quotient t.cut (last_rank i)

  abbrev pub is_waiting_on : ℕ → Bool
  is_waiting_on i = does_wait i && same_quotient (next_rank i) t.cut

  abbrev pub won_on : List ℕ
  won_on = filter is_won_on (entries l)

  abbrev pub waiting_on : List ℕ
  waiting_on = filter is_waiting_on (entries l)

  abbrev pub all_on : List ℕ
  all_on = filter (λ i. is_won_on i || is_waiting_on i) (entries l)

  -- nobody won on the cut, or nobody waits there: so there is no tie
  abbrev pub is_clear : Bool
  is_clear = nat_eq (length won_on) 0 || nat_eq (length waiting_on) 0

  -- of those on the cut the lot draws just who won there
  abbrev pub draws_winners : List ℕ → Bool
  draws_winners lot =
      names_all (drawn lot (length won_on) all_on) won_on && names_all won_on (drawn lot (length won_on) all_on)

  -- the choice that the cut shows: the seats; or a tie on it, of as many seats as were won there, if the lot leaves out one who is on it
  abbrev pub choice_on : List ℕ → Option Choice
  choice_on lot =
      if is_clear then Some (Decided t.seats)
      else if not (names_all lot all_on) then Some (Tied (length won_on) all_on)
      else if draws_winners lot then Some (Decided t.seats)
      else None

  -- the choice that is shown, if what is told is a cut
  abbrev pub shown_choice : List ℕ → Option Choice
  shown_choice lot = if is_cut then choice_on lot else None

-- Who sits in the end, and how many seats there are, by the meaning of a rulebook (docs/meaning.md, section 8).
-- Each law is the contract of a function of `laws::books`.
use Rattle.std.specs.Prelude.{◌≡◌, ◌≢◌, ◌⊎◌, ℕ, ◌+◌, ◌-◌, ◌*◌, ◌<◌, ◌≤◌, Bool, true, false, not, List, Some, None, is_none, max, min, sum, sum_by, count_by, slice_get}
use Rattle.std.specs.List.{AllZip}
use Rattle.sl_law_meaning.specs.declared.book.Seating.TheVariants as seating
use Rattle.sl_law_meaning.specs.declared.election.Win.{Win}
use Rattle.sl_law_meaning.specs.declared.table.ListSeats.{ListSeats}
use Rattle.sl_law_meaning.specs.declared.table.Outcome.TheVariants as outcome
use Rattle.sl_law_meaning.specs.declared.table.Placed.{Placed}
use Rattle.sl_law_meaning.specs.declared.table.Placed.TheVariants as placed
use Rattle.sl_law_meaning.specs.book.Trees.{BookTree}
use Rattle.sl_law_meaning.specs.book.Typing.{is_typed}
use Rattle.sl_law_meaning.specs.returns.Election.{Election, IsElection, wins_of}
use Rattle.sl_law_meaning.specs.returns.Facts.{lists_of, list_cell, list_winners, is_on_list}
use Rattle.sl_law_meaning.specs.meaning.Columns.{IsLeaf}
use Rattle.sl_law_meaning.specs.meaning.Seating.{base_of}
use Rattle.sl_law_meaning.specs.meaning.Tables.{SeatTable}
use Rattle.sl_law_meaning.specs.meaning.Means.{Known, Through, nothing_known, StagesMean, Means}

-- ---- the base and the total

-- the column that the last clause names, after the stages of the book
pub record IsBase (b : BookTree) (e : Election) (base : List ℕ) : Type 0 where
  pub known : Known
  pub through : StagesMean b e nothing_known b.stages (Through known)
  pub is : IsLeaf b e known.columns (base_of b.last) base

-- the seats of a list in the base, and its winners
abbrev pub base_seats : Election → List ℕ → ℕ × ℕ → ℕ
base_seats e base l = list_cell e base l.0 l.1

abbrev pub winners_on : BookTree → Election → ℕ × ℕ → ℕ
winners_on b e l = list_cell e (list_winners b.eligible e) l.0 l.1

-- the seats by which the winners of lists exceed their base
abbrev pub overhang : BookTree → Election → List ℕ → ℕ
overhang b e base = sum_by (λ l. winners_on b e l - base_seats e base l) (lists_of e)

-- the winners without an eligible list, and those without a party
abbrev pub outside : BookTree → Election → ℕ
outside b e = count_by (λ w. not (is_on_list b.eligible e w)) e.wins

abbrev pub independents : Election → ℕ
independents e = count_by (λ w. is_none w.party) e.wins

abbrev pub is_single : Placed → Bool
is_single placed.Single = true
is_single placed.OnList = false
is_single placed.Unseated = false

-- the seats of all lists, and all singles
abbrev pub total_seats : SeatTable → ℕ
total_seats t = sum_by (λ s. s.seats) t.lists + count_by is_single t.placed

-- the line of a list in the table, with that many seats, of which so many are its winners'
pub record IsLine (l : ℕ × ℕ) (all winners : ℕ) (s : ListSeats) : Type 0 where
  pub land : s.land ≡ l.0
  pub party : s.party ≡ l.1
  pub seats : s.seats ≡ all
  pub direct : s.direct ≡ winners

-- ---- the laws

-- under `keep` each winner sits, on a list or as a single
abbrev pub KeepSeatsAll : Type 0
KeepSeatsAll =
    (b : BookTree) (e : Election) (t : SeatTable) → b.last.seating ≡ seating.Keep → Means b e (outcome.Table t) →
    (k : ℕ) → k < wins_of e → (slice_get t.placed k ≡ Some placed.OnList) ⊎ (slice_get t.placed k ≡ Some placed.Single)

-- under `keep` each list has the larger of its base and its winners, who all sit on it; and the total is the base with the overhang and
-- the winners outside
abbrev pub KeepTotal : Type 0
KeepTotal =
    (b : BookTree) (e : Election) (base : List ℕ) (t : SeatTable) → is_typed b ≡ true → IsElection e →
    b.last.seating ≡ seating.Keep → IsBase b e base → Means b e (outcome.Table t) →
    AllZip (λ l. IsLine l (max (base_seats e base l) (winners_on b e l)) (winners_on b e l)) (lists_of e) t.lists
    × (total_seats t ≡ sum base + overhang b e base + outside b e)

-- under `cover` each list has its base, and as many winners sit on it as it has seats, at most all; and the total is the base with the
-- independents
abbrev pub CoverKeepsBase : Type 0
CoverKeepsBase =
    (b : BookTree) (e : Election) (base : List ℕ) (t : SeatTable) → is_typed b ≡ true → IsElection e →
    b.last.seating ≡ seating.Cover → IsBase b e base → Means b e (outcome.Table t) →
    AllZip (λ l. IsLine l (base_seats e base l) (min (base_seats e base l) (winners_on b e l))) (lists_of e) t.lists
    × (total_seats t ≡ sum base + independents e)

-- where a winner may sit under `cover`
pub record IsCoveredPlace (b : BookTree) (e : Election) (w : Win) (p : Placed) : Type 0 where
  -- without a party: as a single
  pub alone : w.party ≡ None → p ≡ placed.Single
  -- of a party that is not eligible, or has no list in the Land: not at all
  pub no_list : w.party ≢ None → is_on_list b.eligible e w ≡ false → p ≡ placed.Unseated
  -- of an eligible list: on it, or not at all
  pub on_list : is_on_list b.eligible e w ≡ true → (p ≡ placed.OnList) ⊎ (p ≡ placed.Unseated)

abbrev pub CoverPlaces : Type 0
CoverPlaces =
    (b : BookTree) (e : Election) (t : SeatTable) → b.last.seating ≡ seating.Cover → Means b e (outcome.Table t) →
    (k : ℕ) (w : Win) → slice_get e.wins k ≡ Some w → (p : Placed) × (slice_get t.placed k ≡ Some p) × IsCoveredPlace b e w p

-- under `cover`, of two winners of one list of whom one sits and the other does not, the first has at least the share of first votes of
-- the other
abbrev pub CoverSeatsLargest : Type 0
CoverSeatsLargest =
    (b : BookTree) (e : Election) (t : SeatTable) → b.last.seating ≡ seating.Cover → Means b e (outcome.Table t) →
    (j k : ℕ) (v w : Win) → slice_get e.wins j ≡ Some v → slice_get e.wins k ≡ Some w → v.land ≡ w.land → v.party ≡ w.party →
    slice_get t.placed j ≡ Some placed.OnList → slice_get t.placed k ≡ Some placed.Unseated →
    w.first * v.valid ≤ v.first * w.valid

-- Tables by the statutes in which a sharper statement fails, or in which a premise is met, whatever the offsets in their texts. Each
-- example is the contract of a function of `tables`.
use Rattle.std.specs.Prelude.{◌≡◌, ℕ, true, List, [], ◌∷◌, Some, None, codes, map}
use Rattle.sl_base_quotients.specs.declared.method.Divisor.TheVariants.{Webster, Jefferson}
use Rattle.sl_law_meaning.specs.declared.election.Win.{Win}
use Rattle.sl_law_meaning.specs.declared.table.Outcome.TheVariants as outcome
use Rattle.sl_law_meaning.specs.declared.table.Placed.TheVariants as placed
use Rattle.sl_law_meaning.specs.book.Trees.{BookTree}
use Rattle.sl_law_meaning.specs.methods.Hamilton.{IsHamiltonAllocation}
use Rattle.sl_law_meaning.specs.returns.Election.{Election, IsElection, with_list, with_win}
use Rattle.sl_law_meaning.specs.meaning.Tables.{SeatTable}
use Rattle.sl_law_meaning.specs.meaning.Means.{Means}
use Rattle.sl_law_fairness.specs.Huntington.{IsLeastUnequal}
use Rattle.sl_law_fairness.specs.Winners.{total_seats}
use Rattle.sl_law_statutes.specs.Parties.{IsGain}
use Rattle.sl_law_statutes.specs.Trees.{law_of_1956, law_of_1985, law_of_2008, law_of_2013, law_of_2023}
use Rattle.sl_law_examples.specs.Failures.{IsOnly, Free}
use Rattle.sl_law_examples.specs.VotesThatCost.{votes, two_by_two, with_growth, Gives, Changes}
use Rattle.sl_law_examples.specs.WinnersAbove.{with_winners, at_the_threshold}

-- a winner of a Land and a party, with first votes and valid ones; and one without a party
abbrev pub winner_by : ℕ → ℕ → ℕ → ℕ → Win
winner_by land party first valid = record { land = land; party = Some party; first = first; valid = valid }

abbrev pub independent : ℕ → Win
independent land = record { land = land; party = None; first = 1; valid = 1 }

-- the book means a table on these returns, and in each such table the lists have these seats
pub record GivesLists (b : BookTree) (e : Election) (seats : List ℕ) : Type 0 where
  pub table : SeatTable
  pub means : Means b e (outcome.Table table)
  pub have : (t : SeatTable) → Means b e (outcome.Table t) → map (λ s. s.seats) t.lists ≡ seats

-- ---- lists

-- 2013, on the returns of `VoteCostsByGrowth` with the vote more: of B's three seats its list in X has two, by 6 votes, and that in Y one, for its
-- winner; by 6 votes and 1 the first would have all
pub record WinnersAmongLists : Type 0 where
  pub lists : (at : ℕ → ℕ) → GivesLists (law_of_2013 at) (with_list with_growth 0 0 (votes 2)) (1 ∷ 2 ∷ 1 ∷ 1 ∷ [])
  pub by_votes : IsOnly (Free Webster (6 ∷ 1 ∷ []) 3) (3 ∷ 0 ∷ [])

-- four seats; A has 1 vote in X and 6 in Y, and B has 4 in Y
abbrev pub three_lists : Election
three_lists = with_list (with_list (with_list (two_by_two 4 2 2) 0 0 (votes 1)) 1 0 (votes 6)) 1 1 (votes 4)

-- 2023: A's lists have 0 and 3 seats and B's has 1; among all three lists at once the last two would have two each. With a vote more in X, A's list
-- there wins a seat from that in Y
pub record ListsApart : Type 0 where
  pub before : (at : ℕ → ℕ) → GivesLists (law_of_2023 at) three_lists (0 ∷ 3 ∷ 1 ∷ [])
  pub together : IsOnly (Free Webster (1 ∷ 6 ∷ 4 ∷ []) 4) (0 ∷ 2 ∷ 2 ∷ [])
  pub returns : IsElection three_lists
  pub gain : IsGain three_lists 0 0 (votes 2)
  pub after : (at : ℕ → ℕ) → GivesLists (law_of_2023 at) (with_list three_lists 0 0 (votes 2)) (1 ∷ 2 ∷ 1 ∷ [])

-- ---- parties

-- 2023, on the returns of `FewerAreEnough`: 95 and 5 votes have ten seats and one. By Jefferson's measure a seat that goes over from B to A makes the
-- two less unequal
pub record BestByOneMeasure : Type 0 where
  pub seats : (at : ℕ → ℕ) → Gives (law_of_2023 at) at_the_threshold (10 ∷ 1 ∷ [])
  pub moved : ¬ IsLeastUnequal Jefferson (95 ∷ 5 ∷ []) (10 ∷ 1 ∷ [])

-- four seats; in X, A has 4 votes and two winners, the first with two of three first votes and the second with one of two, B has 7 votes, and a third
-- winner has no party
abbrev pub with_independent : Election
with_independent =
    with_win (with_win (with_win (with_list (with_list (two_by_two 4 2 2) 0 0 (votes 4)) 0 1 (votes 7)) (codes "x1") (winner_by 0 0 2 3)) (codes "x2") (winner_by 0 0 1 2)) (codes "x3") (independent 0)

-- 2023: B has 7 of 11 votes and two of the three seats of the lists, and so half of all four; of A's winners the first sits
pub record HalfOfAll : Type 0 where
  pub seats : (at : ℕ → ℕ) → Gives (law_of_2023 at) with_independent (1 ∷ 2 ∷ [])
  pub places : (at : ℕ → ℕ) (t : SeatTable) → Means (law_of_2023 at) with_independent (outcome.Table t) → t.placed ≡ placed.OnList ∷ placed.Unseated ∷ placed.Single ∷ []
  pub total : (at : ℕ → ℕ) (t : SeatTable) → Means (law_of_2023 at) with_independent (outcome.Table t) → total_seats t ≡ 4

-- two seats; A has 1 vote in X and 2 in Y, B has 1 in Y, and a winner in X has no party
abbrev pub beside_independent : Election
beside_independent = with_win (with_list (with_list (with_list (two_by_two 2 2 2) 0 0 (votes 1)) 1 0 (votes 2)) 1 1 (votes 1)) (codes "x1") (independent 0)

-- 2013: A has 3 of 4 votes and the only seat of the lists, and so half of both
pub record HalfOfTwo : Type 0 where
  pub seats : (at : ℕ → ℕ) → Gives (law_of_2013 at) beside_independent (1 ∷ 0 ∷ [])
  pub total : (at : ℕ → ℕ) (t : SeatTable) → Means (law_of_2013 at) beside_independent (outcome.Table t) → total_seats t ≡ 2

-- of the returns with an independent: A lacks four votes for a second seat, and with so many it has it in the count
pub record FourAreEnough : Type 0 where
  pub three_more : Free Webster (7 ∷ 7 ∷ []) 3 (1 ∷ 2 ∷ [])
  pub four_more : IsOnly (Free Webster (8 ∷ 7 ∷ []) 3) (2 ∷ 1 ∷ [])
  pub in_the_count : (at : ℕ → ℕ) → Changes (law_of_2023 at) with_independent (votes 8) (1 ∷ 2 ∷ []) (2 ∷ 1 ∷ [])

-- ---- votes that a party lacks, by the older statutes

-- three seats; A has 1 vote in X, which has two people, and B has 1 in Y, which has one
abbrev pub one_list_each : Election
one_list_each = with_list (with_list (two_by_two 3 2 1) 0 0 (votes 1)) 1 1 (votes 1)

-- A has five seats of ten, and with two votes more five of nine
abbrev pub GainsNothing : BookTree → Type 0
GainsNothing b = Changes b with_winners (votes 3) (5 ∷ 5 ∷ []) (5 ∷ 4 ∷ [])

pub record NoSeatGained : Type 0 where
  -- up to 2008, on the returns of `NoMethodGives`: by two votes more A has a seat before overhang, but in the table it has its five winners as before
  pub by_jefferson : IsOnly (Free Jefferson (1 ∷ 11 ∷ []) 5) (0 ∷ 5 ∷ []) × IsOnly (Free Jefferson (3 ∷ 11 ∷ []) 5) (1 ∷ 4 ∷ [])
  pub by_hamilton : IsOnly (IsHamiltonAllocation true (1 ∷ 11 ∷ []) 5) (0 ∷ 5 ∷ []) × IsOnly (IsHamiltonAllocation true (3 ∷ 11 ∷ []) 5) (1 ∷ 4 ∷ [])
  pub by_webster : IsOnly (Free Webster (1 ∷ 11 ∷ []) 5) (0 ∷ 5 ∷ []) × IsOnly (Free Webster (3 ∷ 11 ∷ []) 5) (1 ∷ 4 ∷ [])
  pub up_to_2008 : (at : ℕ → ℕ) → GainsNothing (law_of_1956 at) × GainsNothing (law_of_1985 at) × GainsNothing (law_of_2008 at)
  -- 2013: by a vote more A would have a third of four seats, but the house grows to three only, of which it has two as before
  pub of_four : IsOnly (Free Webster (1 ∷ 1 ∷ []) 4) (2 ∷ 2 ∷ []) × IsOnly (Free Webster (2 ∷ 1 ∷ []) 4) (3 ∷ 1 ∷ [])
  pub of_2013 : (at : ℕ → ℕ) → Changes (law_of_2013 at) one_list_each (votes 2) (2 ∷ 2 ∷ []) (2 ∷ 1 ∷ [])

-- ---- the total

-- one seat; in X, A and B have 1 vote each, and two winners have no party
abbrev pub two_independents : Election
two_independents = with_win (with_win (with_list (with_list (two_by_two 1 2 2) 0 0 (votes 1)) 0 1 (votes 1)) (codes "x1") (independent 0)) (codes "x2") (independent 0)

pub record MoreIndependents : Type 0 where
  pub seats : (at : ℕ → ℕ) → Gives (law_of_2023 at) two_independents (0 ∷ 0 ∷ [])
  pub total : (at : ℕ → ℕ) (t : SeatTable) → Means (law_of_2023 at) two_independents (outcome.Table t) → total_seats t ≡ 2

-- More votes for a list, and fewer seats for its party: by the statutes up to 2008, and by that of 2013, whatever the offsets in their texts.
-- Each example is the contract of a function of `votes`.
use Rattle.std.specs.Prelude.{◌≡◌, ℕ, false, List, [], ◌∷◌, Some, None, codes}
use Rattle.sl_law_meaning.specs.declared.election.ListVotes.{ListVotes}
use Rattle.sl_law_meaning.specs.declared.election.Win.{Win}
use Rattle.sl_law_meaning.specs.declared.table.Outcome.TheVariants as outcome
use Rattle.sl_law_meaning.specs.book.Trees.{BookTree}
use Rattle.sl_law_meaning.specs.returns.Election.{Election, IsElection, no_election, with_house, with_land, with_party, with_list, with_win}
use Rattle.sl_law_meaning.specs.meaning.Tables.{SeatTable}
use Rattle.sl_law_meaning.specs.meaning.Means.{Means}
use Rattle.sl_law_statutes.specs.Trees.{law_of_1956, law_of_1985, law_of_2008, law_of_2013}
use Rattle.sl_law_statutes.specs.Parties.{seats_column, IsGain}

-- a list's votes, all of them valid and counted; and a winner of a Land and a party
abbrev pub votes : ℕ → ListVotes
votes n = record { valid = n; counted = n; slate = None }

abbrev pub winner : ℕ → ℕ → Win
winner land party = record { land = land; party = Some party; first = 1; valid = 1 }

-- a house of so many seats, the Länder X and Y with so many people, and the parties A and B
abbrev pub two_by_two : ℕ → ℕ → ℕ → Election
two_by_two seats x y = with_party (with_party (with_land (with_land (with_house no_election seats) (codes "X") x) (codes "Y") y) (codes "A") false) (codes "B") false

-- the book means a table on these returns, and in each such table the parties have these seats
pub record Gives (b : BookTree) (e : Election) (seats : List ℕ) : Type 0 where
  pub table : SeatTable
  pub means : Means b e (outcome.Table table)
  pub have : (t : SeatTable) → Means b e (outcome.Table t) → seats_column e t ≡ seats

-- with those votes for its list in X, and all else equal, A and B have other seats
pub record Changes (b : BookTree) (e : Election) (more : ListVotes) (before after : List ℕ) : Type 0 where
  pub returns : IsElection e
  pub gain : IsGain e 0 0 more
  pub had : Gives b e before
  pub have : Gives b (with_list e 0 0 more) after

-- five seats; A has 1 vote and two winners in X and 2 votes in Y, and B has 1 vote in X
abbrev pub with_overhang : Election
with_overhang =
    with_win (with_win (with_list (with_list (with_list (two_by_two 5 2 2) 0 0 (votes 1)) 0 1 (votes 1)) 1 0 (votes 2)) (codes "x1") (winner 0 0)) (codes "x2") (winner 0 0)

-- A has five of six seats, and with a vote more four of five
abbrev pub VoteCosts : BookTree → Type 0
VoteCosts b = Changes b with_overhang (votes 2) (5 ∷ 1 ∷ []) (4 ∷ 1 ∷ [])

abbrev pub VoteCostsByOverhang : Type 0
VoteCostsByOverhang = (at : ℕ → ℕ) → VoteCosts (law_of_1956 at) × VoteCosts (law_of_1985 at) × VoteCosts (law_of_2008 at)

-- four seats; A has 1 vote in X and 4 in Y, and B has 6 votes in X and 1 vote and a winner in Y
abbrev pub with_growth : Election
with_growth =
    with_win (with_list (with_list (with_list (with_list (two_by_two 4 2 1) 0 0 (votes 1)) 0 1 (votes 6)) 1 0 (votes 4)) 1 1 (votes 1)) (codes "y1") (winner 1 1)

-- A has three of seven seats, and with a vote more two of five
abbrev pub VoteCostsByGrowth : Type 0
VoteCostsByGrowth = (at : ℕ → ℕ) → Changes (law_of_2013 at) with_growth (votes 2) (3 ∷ 4 ∷ []) (2 ∷ 3 ∷ [])

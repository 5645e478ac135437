-- What fails, in small numbers. Each example is the contract of a function of `hamilton`, `quota`, `premises` or `joins`.
use Rattle.std.specs.Prelude.{◌≡◌, ℕ, ◌*◌, ◌≤◌, Bool, false, List, [], ◌∷◌, sum, slice_index}
use Rattle.sl_base_quotients.specs.declared.method.Divisor.{Divisor}
use Rattle.sl_base_quotients.specs.declared.method.Divisor.TheVariants.{Adams, Dean, Hill, Webster, Jefferson}
use Rattle.sl_law_meaning.specs.methods.Field.{InField, no_minima}
use Rattle.sl_law_meaning.specs.methods.Allocations.{IsDivisorAllocation}
use Rattle.sl_law_meaning.specs.methods.Hamilton.{whole, IsHamiltonAllocation}
use Rattle.sl_law_meaning.specs.methods.LeastHouse.{IsGrowth, GrownTo}
use Rattle.sl_law_fairness.specs.Parts.{part, IsPutIn}
use Rattle.sl_law_fairness.specs.Quota.{raised_whole}
use Rattle.sl_law_fairness.specs.Joining.{Joins}
use Rattle.sl_law_fairness.specs.Optimal.{IsGivenOut}

-- s is in X, and nothing else is
abbrev pub IsOnly : (List ℕ → Type 0) → List ℕ → Type 0
IsOnly X s = X s × ((t : List ℕ) → X t → t ≡ s)

-- the allocations of these votes without minima
abbrev pub Free : Divisor → List ℕ → ℕ → List ℕ → Type 0
Free method votes seats s = IsDivisorAllocation method votes (no_minima votes) seats s

-- ---- Hamilton's method
abbrev pub Hamilton : List ℕ → ℕ → List ℕ → Type 0
Hamilton votes seats s = IsHamiltonAllocation false votes seats s

-- a larger house takes a seat away
pub record Alabama : Type 0 where
  pub three : IsOnly (Hamilton (3 ∷ 3 ∷ 1 ∷ []) 3) (1 ∷ 1 ∷ 1 ∷ [])
  pub four : IsOnly (Hamilton (3 ∷ 3 ∷ 1 ∷ []) 4) (2 ∷ 2 ∷ 0 ∷ [])
  pub ten : IsOnly (Hamilton (6 ∷ 6 ∷ 2 ∷ []) 10) (4 ∷ 4 ∷ 2 ∷ [])
  pub eleven : IsOnly (Hamilton (6 ∷ 6 ∷ 2 ∷ []) 11) (5 ∷ 5 ∷ 1 ∷ [])

-- the first entry gains a vote, and loses a seat to the second, which gains none
pub record MoreVotes : Type 0 where
  pub before : IsOnly (Hamilton (5 ∷ 1 ∷ 3 ∷ []) 5) (3 ∷ 0 ∷ 2 ∷ [])
  pub after : IsOnly (Hamilton (6 ∷ 1 ∷ 6 ∷ []) 5) (2 ∷ 1 ∷ 2 ∷ [])
  -- here the second one even loses a vote
  pub earlier : IsOnly (Hamilton (4 ∷ 15 ∷ 15 ∷ []) 3) (1 ∷ 1 ∷ 1 ∷ [])
  pub later : IsOnly (Hamilton (5 ∷ 14 ∷ 6 ∷ []) 3) (0 ∷ 2 ∷ 1 ∷ [])

-- an entry comes with two seats of its own, and the others share theirs otherwise
pub record NewEntry : Type 0 where
  pub before : IsOnly (Hamilton (6 ∷ 1 ∷ []) 3) (3 ∷ 0 ∷ [])
  pub after : IsOnly (Hamilton (6 ∷ 1 ∷ 6 ∷ []) 5) (2 ∷ 1 ∷ 2 ∷ [])
  pub due : whole (6 ∷ 1 ∷ 6 ∷ []) 5 2 ≡ 2

pub record NotCoherent : Type 0 where
  pub all : Hamilton (6 ∷ 1 ∷ 6 ∷ []) 5 (2 ∷ 1 ∷ 2 ∷ [])
  pub parts : ¬ Hamilton (part (0 ∷ 1 ∷ []) (6 ∷ 1 ∷ 6 ∷ [])) 3 (part (0 ∷ 1 ∷ []) (2 ∷ 1 ∷ 2 ∷ []))

-- ---- outside quota: the seats of the first entry, and its share
pub record WebsterBelow : Type 0 where
  pub seats : IsOnly (Free Webster (6 ∷ 1 ∷ 1 ∷ 1 ∷ []) 6) (3 ∷ 1 ∷ 1 ∷ 1 ∷ [])
  pub share : whole (6 ∷ 1 ∷ 1 ∷ 1 ∷ []) 6 0 ≡ 4

pub record WebsterAbove : Type 0 where
  pub seats : IsOnly (Free Webster (6 ∷ 1 ∷ 1 ∷ 1 ∷ []) 3) (3 ∷ 0 ∷ 0 ∷ 0 ∷ [])
  pub share : raised_whole (6 ∷ 1 ∷ 1 ∷ 1 ∷ []) 3 0 ≡ 2

pub record JeffersonAbove : Type 0 where
  pub seats : IsOnly (Free Jefferson (4 ∷ 1 ∷ 1 ∷ []) 3) (3 ∷ 0 ∷ 0 ∷ [])
  pub share : raised_whole (4 ∷ 1 ∷ 1 ∷ []) 3 0 ≡ 2

-- minima 0 and 2
pub record MinimaOutside : Type 0 where
  pub seats : (method : Divisor) → IsOnly (IsDivisorAllocation method (1 ∷ 1 ∷ []) (0 ∷ 2 ∷ []) 2) (0 ∷ 2 ∷ [])
  pub first_share : whole (1 ∷ 1 ∷ []) 2 0 ≡ 1
  pub second_share : raised_whole (1 ∷ 1 ∷ []) 2 1 ≡ 1

-- ---- without a premise
-- of three methods: a first seat is an infinite quotient
abbrev pub WithInfinite : (Divisor → Type 0) → Type 0
WithInfinite P = P Adams × P Dean × P Hill

abbrev pub MoreVotesByLot : Type 0
MoreVotesByLot = WithInfinite (λ method. Free method (1 ∷ 1 ∷ []) 1 (1 ∷ 0 ∷ []) × Free method (2 ∷ 1 ∷ []) 1 (0 ∷ 1 ∷ []))

abbrev pub FewerVotesByLot : Type 0
FewerVotesByLot = WithInfinite (λ method. Free method (2 ∷ 1 ∷ []) 1 (0 ∷ 1 ∷ []))

-- minima 0 and 2
abbrev pub FewerVotesByMinima : Type 0
FewerVotesByMinima = (method : Divisor) → IsOnly (IsDivisorAllocation method (2 ∷ 1 ∷ []) (0 ∷ 2 ∷ []) 3) (1 ∷ 2 ∷ [])

pub record MoreVotesAmongOthers : Type 0 where
  pub before : IsOnly (Free Webster (7 ∷ 1 ∷ 4 ∷ []) 4) (3 ∷ 0 ∷ 1 ∷ [])
  pub after : IsOnly (Free Webster (8 ∷ 2 ∷ 2 ∷ []) 4) (2 ∷ 1 ∷ 1 ∷ [])

abbrev pub EqualVotes : Type 0
EqualVotes = (method : Divisor) → Free method (1 ∷ 1 ∷ []) 1 (1 ∷ 0 ∷ []) × Free method (1 ∷ 1 ∷ []) 1 (0 ∷ 1 ∷ [])

abbrev pub LargerHouseByTie : Type 0
LargerHouseByTie =
    (method : Divisor) → Free method (1 ∷ 1 ∷ 1 ∷ []) 1 (1 ∷ 0 ∷ 0 ∷ []) × Free method (1 ∷ 1 ∷ 1 ∷ []) 2 (0 ∷ 1 ∷ 1 ∷ [])

-- the first entry twice, and the others
abbrev pub first_twice : List ℕ
first_twice = 0 ∷ 0 ∷ 1 ∷ 2 ∷ []

pub record NamedTwice : Type 0 where
  pub before : (method : Divisor) → Free method (1 ∷ 1 ∷ 1 ∷ []) 2 (0 ∷ 1 ∷ 1 ∷ [])
  pub among : (method : Divisor) → Free method (part first_twice (1 ∷ 1 ∷ 1 ∷ [])) 2 (1 ∷ 1 ∷ 0 ∷ 0 ∷ [])
  pub put : IsPutIn first_twice (1 ∷ 1 ∷ 0 ∷ 0 ∷ []) (0 ∷ 1 ∷ 1 ∷ []) (1 ∷ 0 ∷ 0 ∷ [])
  pub after : (method : Divisor) → ¬ Free method (1 ∷ 1 ∷ 1 ∷ []) 2 (1 ∷ 0 ∷ 0 ∷ [])

-- without votes the shares are 0 whatever the seats: these are just as many, and no allocation
pub record NoVotes : Type 0 where
  pub shares : (i : ℕ) → sum (0 ∷ []) * slice_index (1 ∷ []) i ≡ 1 * slice_index (0 ∷ []) i
  pub none : (method : Divisor) → ¬ Free method (0 ∷ []) 1 (1 ∷ [])
  pub remainders : (prefer : Bool) → ¬ IsHamiltonAllocation prefer (0 ∷ []) 1 (1 ∷ [])

-- the most seats for a vote are as few as they can be by these seats, which are no allocation by Jefferson's method
pub record LeastMostByTie : Type 0 where
  pub given : IsGivenOut (2 ∷ 2 ∷ 3 ∷ []) 2 (1 ∷ 1 ∷ 0 ∷ [])
  pub least : (t : List ℕ) → IsGivenOut (2 ∷ 2 ∷ 3 ∷ []) 2 t → (i : ℕ) → InField (2 ∷ 2 ∷ 3 ∷ []) i →
      (j : ℕ) × InField (2 ∷ 2 ∷ 3 ∷ []) j × (slice_index (1 ∷ 1 ∷ 0 ∷ []) i * slice_index (2 ∷ 2 ∷ 3 ∷ []) j ≤ slice_index t j * slice_index (2 ∷ 2 ∷ 3 ∷ []) i)
  pub none : ¬ Free Jefferson (2 ∷ 2 ∷ 3 ∷ []) 2 (1 ∷ 1 ∷ 0 ∷ [])

-- minima 0 and 1
abbrev pub MajorityByMinima : Type 0
MajorityByMinima = (method : Divisor) → IsOnly (IsDivisorAllocation method (2 ∷ 1 ∷ []) (0 ∷ 1 ∷ []) 1) (0 ∷ 1 ∷ [])

abbrev pub WebsterMajority : Type 0
WebsterMajority = IsOnly (Free Webster (4 ∷ 1 ∷ 1 ∷ 1 ∷ []) 5) (2 ∷ 1 ∷ 1 ∷ 1 ∷ [])

abbrev pub HalfOfEven : Type 0
HalfOfEven = IsOnly (Free Jefferson (3 ∷ 2 ∷ []) 2) (1 ∷ 1 ∷ [])

-- from one seat up to nine, minima 0 and 1
pub record HouseGrows : Type 0 where
  pub first_house : IsOnly (Free Jefferson (3 ∷ 2 ∷ []) 1) (1 ∷ 0 ∷ [])
  pub growth : IsGrowth Jefferson (3 ∷ 2 ∷ []) (0 ∷ 1 ∷ []) 1 9 (GrownTo 2)

-- ---- joins: the second entry joins the first
-- the two had two seats, and have one
pub record JeffersonByTie : Type 0 where
  pub join : Joins (1 ∷ 1 ∷ 2 ∷ []) (2 ∷ 0 ∷ 2 ∷ []) 0 1
  pub before : Free Jefferson (1 ∷ 1 ∷ 2 ∷ []) 3 (1 ∷ 1 ∷ 1 ∷ [])
  pub after : Free Jefferson (2 ∷ 0 ∷ 2 ∷ []) 3 (1 ∷ 0 ∷ 2 ∷ [])

-- the two had no seat, and have one
pub record AdamsByTie : Type 0 where
  pub join : Joins (1 ∷ 1 ∷ 2 ∷ []) (2 ∷ 0 ∷ 2 ∷ []) 0 1
  pub before : Free Adams (1 ∷ 1 ∷ 2 ∷ []) 1 (0 ∷ 0 ∷ 1 ∷ [])
  pub after : Free Adams (2 ∷ 0 ∷ 2 ∷ []) 1 (1 ∷ 0 ∷ 0 ∷ [])

pub record WebsterLoses : Type 0 where
  pub join : Joins (1 ∷ 1 ∷ 4 ∷ []) (2 ∷ 0 ∷ 4 ∷ []) 0 1
  pub before : IsOnly (Free Webster (1 ∷ 1 ∷ 4 ∷ []) 4) (1 ∷ 1 ∷ 2 ∷ [])
  pub after : IsOnly (Free Webster (2 ∷ 0 ∷ 4 ∷ []) 4) (1 ∷ 0 ∷ 3 ∷ [])

pub record WebsterWins : Type 0 where
  pub join : Joins (1 ∷ 1 ∷ 4 ∷ []) (2 ∷ 0 ∷ 4 ∷ []) 0 1
  pub before : IsOnly (Free Webster (1 ∷ 1 ∷ 4 ∷ []) 2) (0 ∷ 0 ∷ 2 ∷ [])
  pub after : IsOnly (Free Webster (2 ∷ 0 ∷ 4 ∷ []) 2) (1 ∷ 0 ∷ 1 ∷ [])

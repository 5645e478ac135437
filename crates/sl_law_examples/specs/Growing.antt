-- What fails where a house grows, and the bound on growth of the house of 2013. Each example is the contract of a function of `growth`.
use Rattle.std.specs.Prelude.{◌≡◌, ℕ, ◌+◌, ◌-◌, ◌*◌, ◌<◌, ◌≤◌, [], ◌∷◌, sum, slice_index}
use Rattle.sl_base_quotients.specs.declared.method.Divisor.{Divisor}
use Rattle.sl_base_quotients.specs.declared.method.Divisor.TheVariants.{Webster}
use Rattle.sl_law_meaning.specs.methods.LeastHouse.{IsGrowth, GrownTo, IsGrownAllocation}
use Rattle.sl_law_fairness.specs.ClosedHouse.{needed_by, HasMinimum}
use Rattle.sl_law_fairness.specs.Growths.{MeetsEach}
use Rattle.sl_law_fairness.specs.NearQuota.{in_field}
use Rattle.sl_law_examples.specs.Failures.{IsOnly, Free}
use Rattle.sl_law_examples.specs.ByHand.{votes_2013, floors_2013}

-- of three equal entries the last is to have a seat: a lot may give it the only one, but none of two, so the house grows to three
pub record MetByLot : Type 0 where
  pub met : (method : Divisor) → Free method (1 ∷ 1 ∷ 1 ∷ []) 1 (0 ∷ 0 ∷ 1 ∷ [])
  pub unmet : (method : Divisor) → Free method (1 ∷ 1 ∷ 1 ∷ []) 2 (1 ∷ 1 ∷ 0 ∷ [])
  pub growth : (method : Divisor) → IsGrowth method (1 ∷ 1 ∷ 1 ∷ []) (0 ∷ 0 ∷ 1 ∷ []) 1 9 (GrownTo 3)

-- minima 1 and 1, and the second entry has no votes: no seats have no allocation, so each of them meets the minima; one seat goes to the second
pub record TooFewSeats : Type 0 where
  pub none : (method : Divisor) → MeetsEach method (1 ∷ 0 ∷ []) (1 ∷ 1 ∷ []) 0
  pub one : (method : Divisor) → IsOnly (IsGrownAllocation method (1 ∷ 0 ∷ []) (1 ∷ 1 ∷ []) 1) (0 ∷ 1 ∷ [])

-- an entry without votes has its minimum in the grown house, as no votes give it
pub record WithoutVotes : Type 0 where
  pub growth : (method : Divisor) → IsGrowth method (1 ∷ 0 ∷ []) (0 ∷ 1 ∷ []) 1 9 (GrownTo 1)
  pub seats : (method : Divisor) → IsOnly (IsGrownAllocation method (1 ∷ 0 ∷ []) (0 ∷ 1 ∷ []) 1) (0 ∷ 1 ∷ [])
  pub by_votes : (method : Divisor) → ¬ Free method (1 ∷ 0 ∷ []) 1 (0 ∷ 1 ∷ [])

-- minima 9 and 1: the second entry has fewer votes for each seat of its minimum, but the first has the least divisor, and the house grows for it
pub record HalfDecides : Type 0 where
  pub fewer : 1 * 9 < 10 * 1
  pub least : 10 * (2 * 1 - 1) < 1 * (2 * 9 - 1)
  pub first : needed_by (10 ∷ 1 ∷ []) (9 ∷ 1 ∷ []) 0 ≡ 10
  pub second : needed_by (10 ∷ 1 ∷ []) (9 ∷ 1 ∷ []) 1 ≡ 6
  pub growth : IsGrowth Webster (10 ∷ 1 ∷ []) (9 ∷ 1 ∷ []) 9 20 (GrownTo 10)

-- the 631 seats of 2013 are more than any party's minimum less a half over its part of the votes; with half a seat for each party the bound is met
-- for the last party, and not for the first
pub record Bound2013 : Type 0 where
  pub without_halves : (q : ℕ) → HasMinimum votes_2013 floors_2013 q →
      (2 * slice_index floors_2013 q - 1) * sum votes_2013 < 2 * slice_index votes_2013 q * 631
  pub of_last : 2 * 3243569 * 631 ≤ (2 * 56 - 1) * sum votes_2013 + 3243569 * in_field votes_2013
  pub of_first : (2 * 242 - 1) * sum votes_2013 + 14921877 * in_field votes_2013 < 2 * 14921877 * 631

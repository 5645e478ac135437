-- What fails from one method to another, by other measures, and of votes that are rounded; and premises that are met. Each example is the contract
-- of a function of `measures`, `hamilton`, `quota`, `premises` or `joins`.
use Rattle.std.specs.Prelude.{◌≡◌, ℕ, ◌*◌, ◌<◌, ◌≤◌, true, Bool, List, [], ◌∷◌, IsPermutation, slice_index}
use Rattle.std.specs.List.{range_with_len}
use Rattle.sl_base_quotients.specs.declared.method.Divisor.{Divisor}
use Rattle.sl_base_quotients.specs.declared.method.Divisor.TheVariants.{Adams, Dean, Webster, Jefferson}
use Rattle.sl_law_meaning.specs.methods.Field.{InField}
use Rattle.sl_law_meaning.specs.methods.Hamilton.{IsHamiltonAllocation}
use Rattle.sl_law_meaning.specs.methods.Ties.{Distinct}
use Rattle.sl_law_fairness.specs.ByDivisor.{IsByDivisor, IsRoundedUp, IsHarmonic, IsGeometric}
use Rattle.sl_law_fairness.specs.Hamilton.{deviation}
use Rattle.sl_law_fairness.specs.Joining.{Joins}
use Rattle.sl_law_fairness.specs.NearQuota.{AreApart}
use Rattle.sl_law_fairness.specs.Optimal.{IsGivenOut}
use Rattle.sl_law_fairness.specs.Parts.{part, IsPutIn}
use Rattle.sl_law_examples.specs.Failures.{IsOnly, Free, Hamilton, WithInfinite}

-- ---- Hamilton's method

-- with preference for a majority or without
abbrev pub EqualRemainders : Type 0
EqualRemainders = (prefer : Bool) → IsHamiltonAllocation prefer (1 ∷ 1 ∷ []) 1 (1 ∷ 0 ∷ []) × IsHamiltonAllocation prefer (1 ∷ 1 ∷ []) 1 (0 ∷ 1 ∷ [])

-- with preference the seats deviate more from the shares
pub record PreferredDeviates : Type 0 where
  pub plain : IsOnly (Hamilton (4 ∷ 2 ∷ 1 ∷ []) 2) (1 ∷ 1 ∷ 0 ∷ [])
  pub preferred : IsOnly (IsHamiltonAllocation true (4 ∷ 2 ∷ 1 ∷ []) 2) (2 ∷ 0 ∷ 0 ∷ [])
  pub more : deviation 7 2 (4 ∷ 2 ∷ 1 ∷ []) (1 ∷ 1 ∷ 0 ∷ []) < deviation 7 2 (4 ∷ 2 ∷ 1 ∷ []) (2 ∷ 0 ∷ 0 ∷ [])

pub record OneGains : Type 0 where
  pub before : IsOnly (Hamilton (3 ∷ 3 ∷ 1 ∷ []) 3) (1 ∷ 1 ∷ 1 ∷ [])
  pub after : IsOnly (Hamilton (4 ∷ 3 ∷ 1 ∷ []) 3) (2 ∷ 1 ∷ 0 ∷ [])

-- ---- the principles

-- seats that are just the shares, and an order of the entries
pub record JustShares : Type 0 where
  pub seats : (method : Divisor) → IsOnly (Free method (6 ∷ 4 ∷ 2 ∷ []) 6) (3 ∷ 2 ∷ 1 ∷ [])
  pub remainders : (prefer : Bool) → IsOnly (IsHamiltonAllocation prefer (6 ∷ 4 ∷ 2 ∷ []) 6) (3 ∷ 2 ∷ 1 ∷ [])
  pub order : IsPermutation (range_with_len 0 3) (2 ∷ 0 ∷ 1 ∷ [])
  pub turned : part (2 ∷ 0 ∷ 1 ∷ []) (6 ∷ 4 ∷ 2 ∷ []) ≡ 2 ∷ 6 ∷ 4 ∷ []

-- 75 and 25 are the percents of 751 and 249 of 1000 votes, rounded, and no multiple of them
pub record WholePercents : Type 0 where
  pub votes : IsOnly (Free Webster (751 ∷ 249 ∷ []) 2) (2 ∷ 0 ∷ [])
  pub percents : Free Webster (75 ∷ 25 ∷ []) 2 (1 ∷ 1 ∷ [])
  pub votes_by_remainders : IsOnly (Hamilton (751 ∷ 249 ∷ []) 2) (2 ∷ 0 ∷ [])
  pub percents_by_remainders : Hamilton (75 ∷ 25 ∷ []) 2 (1 ∷ 1 ∷ [])

-- ---- without a premise, and with it

-- the second entry has votes too, or none
abbrev pub OtherField : Type 0
OtherField = WithInfinite (λ method. IsOnly (Free method (1 ∷ 0 ∷ []) 1) (1 ∷ 0 ∷ []) × Free method (1 ∷ 1 ∷ []) 1 (0 ∷ 1 ∷ []))

-- the first two of three equal entries have one seat, and the other one of them may have it
pub record PutInPlace : Type 0 where
  pub distinct : Distinct (0 ∷ 1 ∷ [])
  pub before : (method : Divisor) → Free method (1 ∷ 1 ∷ 1 ∷ []) 2 (0 ∷ 1 ∷ 1 ∷ [])
  pub among : (method : Divisor) → Free method (part (0 ∷ 1 ∷ []) (1 ∷ 1 ∷ 1 ∷ [])) 1 (1 ∷ 0 ∷ [])
  pub put : IsPutIn (0 ∷ 1 ∷ []) (1 ∷ 0 ∷ []) (0 ∷ 1 ∷ 1 ∷ []) (1 ∷ 0 ∷ 1 ∷ [])

-- ---- quota, and joins

-- a seat that goes over from the second entry to the first brings both nearer to their shares, and by Jefferson's method one the other way
pub record NotNear : Type 0 where
  pub few : WithInfinite (λ method. IsOnly (Free method (4 ∷ 1 ∷ []) 2) (1 ∷ 1 ∷ []))
  pub few_apart : AreApart (4 ∷ 1 ∷ []) 2 (1 ∷ 1 ∷ []) 1 0
  pub many : IsOnly (Free Jefferson (4 ∷ 1 ∷ []) 3) (3 ∷ 0 ∷ [])
  pub many_apart : AreApart (4 ∷ 1 ∷ []) 3 (3 ∷ 0 ∷ []) 0 1

-- two of four equal entries join: by a lot they win two seats under Jefferson's method, and lose two under Adams's
pub record TwoByLot : Type 0 where
  pub join : Joins (1 ∷ 1 ∷ 1 ∷ 1 ∷ []) (2 ∷ 0 ∷ 1 ∷ 1 ∷ []) 0 1
  pub had_none : Free Jefferson (1 ∷ 1 ∷ 1 ∷ 1 ∷ []) 2 (0 ∷ 0 ∷ 1 ∷ 1 ∷ [])
  pub have_two : Free Jefferson (2 ∷ 0 ∷ 1 ∷ 1 ∷ []) 2 (2 ∷ 0 ∷ 0 ∷ 0 ∷ [])
  pub had_four : Free Adams (1 ∷ 1 ∷ 1 ∷ 1 ∷ []) 6 (2 ∷ 2 ∷ 1 ∷ 1 ∷ [])
  pub keep_two : Free Adams (2 ∷ 0 ∷ 1 ∷ 1 ∷ []) 6 (2 ∷ 0 ∷ 2 ∷ 2 ∷ [])

-- ---- from one method to another

pub record LaterMethods : Type 0 where
  -- by the later method the second entry has more seats, and so has the first
  pub one_each : IsOnly (Free Adams (4 ∷ 3 ∷ 1 ∷ 1 ∷ []) 4) (1 ∷ 1 ∷ 1 ∷ 1 ∷ [])
  pub two_each : IsOnly (Free Jefferson (4 ∷ 3 ∷ 1 ∷ 1 ∷ []) 4) (2 ∷ 2 ∷ 0 ∷ 0 ∷ [])
  -- the second loses its seat to the first
  pub earlier : IsOnly (Free Webster (5 ∷ 2 ∷ 1 ∷ []) 2) (1 ∷ 1 ∷ 0 ∷ [])
  pub later : IsOnly (Free Jefferson (5 ∷ 2 ∷ 1 ∷ []) 2) (2 ∷ 0 ∷ 0 ∷ [])
  -- a lot gives the seat to the first, and then to the second
  pub first_by_lot : Free Adams (2 ∷ 1 ∷ []) 1 (1 ∷ 0 ∷ [])
  pub second_by_lot : Free Dean (2 ∷ 1 ∷ []) 1 (0 ∷ 1 ∷ [])

-- ---- by a divisor, and by measures

-- 2 votes without a seat, by a lot: no divisor rounds them to 0
pub record NoDivisor : Type 0 where
  pub by_lot : WithInfinite (λ method. Free method (2 ∷ 1 ∷ []) 1 (0 ∷ 1 ∷ []))
  pub up : ¬ IsByDivisor IsRoundedUp (2 ∷ 1 ∷ []) (0 ∷ 0 ∷ []) 1 (0 ∷ 1 ∷ [])
  pub harmonic : ¬ IsByDivisor IsHarmonic (2 ∷ 1 ∷ []) (0 ∷ 0 ∷ []) 1 (0 ∷ 1 ∷ [])
  pub geometric : ¬ IsByDivisor IsGeometric (2 ∷ 1 ∷ []) (0 ∷ 0 ∷ []) 1 (0 ∷ 1 ∷ [])

-- of two seats for three entries some entry has none, so the fewest seats for a vote are as many as they can be by any seats
pub record MostLeastByLot : Type 0 where
  pub given : IsGivenOut (1 ∷ 1 ∷ 1 ∷ []) 2 (2 ∷ 0 ∷ 0 ∷ [])
  pub most : (t : List ℕ) → IsGivenOut (1 ∷ 1 ∷ 1 ∷ []) 2 t → (i : ℕ) → InField (1 ∷ 1 ∷ 1 ∷ []) i →
      (j : ℕ) × InField (1 ∷ 1 ∷ 1 ∷ []) j × (slice_index t j * slice_index (1 ∷ 1 ∷ 1 ∷ []) i ≤ slice_index (2 ∷ 0 ∷ 0 ∷ []) i * slice_index (1 ∷ 1 ∷ 1 ∷ []) j)
  pub none : ¬ Free Adams (1 ∷ 1 ∷ 1 ∷ []) 2 (2 ∷ 0 ∷ 0 ∷ [])

-- other seats deviate less from the shares in sum
pub record WebsterDeviates : Type 0 where
  pub seats : IsOnly (Free Webster (6 ∷ 1 ∷ 1 ∷ 1 ∷ []) 6) (3 ∷ 1 ∷ 1 ∷ 1 ∷ [])
  pub less : deviation 9 6 (6 ∷ 1 ∷ 1 ∷ 1 ∷ []) (4 ∷ 1 ∷ 1 ∷ 0 ∷ []) < deviation 9 6 (6 ∷ 1 ∷ 1 ∷ 1 ∷ []) (3 ∷ 1 ∷ 1 ∷ 1 ∷ [])

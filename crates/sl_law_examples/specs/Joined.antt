-- What fails by Dean's and Hill's methods too, and where two entries join. Each example is the contract of a function of `quota`, `premises` or `joins`.
use Rattle.std.specs.Prelude.{◌≡◌, [], ◌∷◌}
use Rattle.sl_base_quotients.specs.declared.method.Divisor.{Divisor}
use Rattle.sl_base_quotients.specs.declared.method.Divisor.TheVariants.{Dean, Hill, Jefferson}
use Rattle.sl_law_meaning.specs.methods.Hamilton.{whole}
use Rattle.sl_law_fairness.specs.Quota.{raised_whole}
use Rattle.sl_law_fairness.specs.Joining.{Joins}
use Rattle.sl_law_examples.specs.Failures.{IsOnly, Free, Hamilton, WithInfinite}

-- of Dean's method and Hill's
abbrev pub ByBoth : (Divisor → Type 0) → Type 0
ByBoth P = P Dean × P Hill

-- ---- outside quota, and a majority
pub record BelowQuota : Type 0 where
  pub seats : WithInfinite (λ method. IsOnly (Free method (4 ∷ 1 ∷ 1 ∷ []) 3) (1 ∷ 1 ∷ 1 ∷ []))
  pub share : whole (4 ∷ 1 ∷ 1 ∷ []) 3 0 ≡ 2

pub record AboveQuota : Type 0 where
  pub seats : ByBoth (λ method. IsOnly (Free method (25 ∷ 6 ∷ 6 ∷ 6 ∷ 6 ∷ 6 ∷ []) 11) (6 ∷ 1 ∷ 1 ∷ 1 ∷ 1 ∷ 1 ∷ []))
  pub share : raised_whole (25 ∷ 6 ∷ 6 ∷ 6 ∷ 6 ∷ 6 ∷ []) 11 0 ≡ 5

abbrev pub LessThanHalf : Type 0
LessThanHalf = WithInfinite (λ method. IsOnly (Free method (3 ∷ 1 ∷ 1 ∷ []) 3) (1 ∷ 1 ∷ 1 ∷ []))

-- ---- joins: the second entry joins the first
pub record JoinLoses : Type 0 where
  pub join : Joins (1 ∷ 1 ∷ 4 ∷ []) (2 ∷ 0 ∷ 4 ∷ []) 0 1
  pub before : WithInfinite (λ method. IsOnly (Free method (1 ∷ 1 ∷ 4 ∷ []) 3) (1 ∷ 1 ∷ 1 ∷ []))
  pub after : WithInfinite (λ method. IsOnly (Free method (2 ∷ 0 ∷ 4 ∷ []) 3) (1 ∷ 0 ∷ 2 ∷ []))

pub record JoinWins : Type 0 where
  pub join : Joins (10 ∷ 10 ∷ 19 ∷ []) (20 ∷ 0 ∷ 19 ∷ []) 0 1
  pub before : ByBoth (λ method. IsOnly (Free method (10 ∷ 10 ∷ 19 ∷ []) 5) (1 ∷ 1 ∷ 3 ∷ []))
  pub after : ByBoth (λ method. IsOnly (Free method (20 ∷ 0 ∷ 19 ∷ []) 5) (3 ∷ 0 ∷ 2 ∷ []))

pub record JeffersonWins : Type 0 where
  pub join : Joins (2 ∷ 2 ∷ 5 ∷ []) (4 ∷ 0 ∷ 5 ∷ []) 0 1
  pub before : IsOnly (Free Jefferson (2 ∷ 2 ∷ 5 ∷ []) 2) (0 ∷ 0 ∷ 2 ∷ [])
  pub after : IsOnly (Free Jefferson (4 ∷ 0 ∷ 5 ∷ []) 2) (1 ∷ 0 ∷ 1 ∷ [])

pub record HamiltonLoses : Type 0 where
  pub join : Joins (41 ∷ 41 ∷ 40 ∷ 39 ∷ 39 ∷ []) (82 ∷ 0 ∷ 40 ∷ 39 ∷ 39 ∷ []) 0 1
  pub before : IsOnly (Hamilton (41 ∷ 41 ∷ 40 ∷ 39 ∷ 39 ∷ []) 2) (1 ∷ 1 ∷ 0 ∷ 0 ∷ 0 ∷ [])
  pub after : IsOnly (Hamilton (82 ∷ 0 ∷ 40 ∷ 39 ∷ 39 ∷ []) 2) (1 ∷ 0 ∷ 1 ∷ 0 ∷ 0 ∷ [])

pub record HamiltonWins : Type 0 where
  pub join : Joins (3 ∷ 3 ∷ 4 ∷ []) (6 ∷ 0 ∷ 4 ∷ []) 0 1
  pub before : IsOnly (Hamilton (3 ∷ 3 ∷ 4 ∷ []) 1) (0 ∷ 0 ∷ 1 ∷ [])
  pub after : IsOnly (Hamilton (6 ∷ 0 ∷ 4 ∷ []) 1) (1 ∷ 0 ∷ 0 ∷ [])

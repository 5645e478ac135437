-- What makes a table of quotients that of a divisor method (Balinski and Young, Fair Representation; docs/methods.md, section 1).
use Rattle.std.specs.Prelude.{ℕ, ◌+◌, ◌<◌, ◌≤◌}
use Rattle.sl_base_quotients.specs.declared.limits.TheConstants.{MAX_WEIGHT, MAX_SEATS}
use Rattle.sl_base_quotients.specs.Quotient.{Quotient, FitsRatio, Below}

-- q v a is the quotient of a weight v for the next seat, with a seats held
pub record IsSignpost (q : ℕ → ℕ → Quotient) : Type 0 where
  -- each weight has a positive numerator
  pub positive : (v a : ℕ) → 1 ≤ v → 1 ≤ (q v a).num
  -- in the range of weights and seats both parts are in a ratio's range
  pub fits : (v a : ℕ) → 1 ≤ v → v ≤ MAX_WEIGHT → a ≤ MAX_SEATS → FitsRatio (q v a)
  -- a quotient falls strictly with the seats held
  pub falls : (v a : ℕ) → 1 ≤ v → Below (q v (a + 1)) (q v a)
  -- and rises strictly with the weight, unless it is infinite
  pub rises : (v w a : ℕ) → v < w → 0 < (q v a).den → Below (q v a) (q w a)

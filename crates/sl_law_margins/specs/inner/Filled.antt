-- Whether all but one entry can fill their seats by claims that are no smaller than the next one of that entry.
use Rattle.std.specs.Prelude.{◌≡◌, ◌≢◌, ℕ, ◌+◌, ◌-◌, ◌<◌, ◌≤◌, Bool, true, false, List, length, sum, slice_index}
use Rattle.sl_base_quotients.specs.declared.method.Divisor.{Divisor}
use Rattle.sl_base_quotients.specs.Quotient.{Quotient, AtMost, Below, quotient}
use Rattle.sl_base_quotients.specs.Bounds.{HasWeight}
use Rattle.sl_law_margins.specs.VotesToSpare.{with_fewer}

-- the weight w has a seats by claims that are no smaller than this one, of at most so many: and all of them where they are fewer
pub record Reaches (method : Divisor) (w : ℕ) (claim : Quotient) (most a : ℕ) : Type 0 where
  pub within : a ≤ most
  pub last : 0 < a → AtMost claim (quotient method w (a - 1))
  pub next : a < most → Below (quotient method w a) claim

-- seats u for the first n entries, none for i; each by claims that are no smaller than this one, and where seats are left each has all such
pub record Fills (method : Divisor) (w : List ℕ) (claim : Quotient) (i n left : ℕ) (u : List ℕ) : Type 0 where
  pub same_length : length u ≡ n
  pub own : slice_index u i ≡ 0
  pub reached : (k : ℕ) → k < n → k ≢ i → 0 < slice_index u k → HasWeight w k × AtMost claim (quotient method (slice_index w k) (slice_index u k - 1))
  pub all : 0 < left → (k : ℕ) → k < n → k ≢ i → HasWeight w k → Below (quotient method (slice_index w k) (slice_index u k)) claim

-- with x votes moved from j to i: all seats of the others are filled, or some are left
pub record AreFilled (method : Divisor) (v s : List ℕ) (j i x : ℕ) (answer : Bool) : Type 0 where
  pub left : ℕ
  pub u : List ℕ
  pub fills : Fills method (with_fewer v j x) (quotient method (slice_index v i + x) (slice_index s i)) i (length v) left u
  pub total : sum u + left + slice_index s i ≡ sum s
  pub filled : answer ≡ true → left ≡ 0
  pub short : answer ≡ false → 0 < left

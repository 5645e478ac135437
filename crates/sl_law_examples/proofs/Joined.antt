-- What fails where two entries join.
use Rattle.std.proofs.Common.{◌≡◌, ℕ, zero, suc, [], ◌∷◌, get_or, arith, refl}
use Rattle.std.specs.Prelude.{◌≢◌}
use Rattle.sl_base_quotients.specs.declared.method.Divisor.TheVariants.{Adams, Webster, Jefferson}
use Rattle.sl_law_fairness.specs.Joining.{Joins}
use Rattle.sl_law_examples.specs.Failures.{JeffersonByTie, AdamsByTie, WebsterLoses, WebsterWins}
use Rattle.sl_law_examples.proofs.Allocated.{divisor_some, divisor_only}

-- 1, 1 and n votes become 2, 0 and n
join : (n : ℕ) → Joins (1 ∷ 1 ∷ n ∷ []) (2 ∷ 0 ∷ n ∷ []) 0 1
join n = record {
  same_length = refl;
  apart = λ e. omega (arith, e);
  joined = refl;
  emptied = refl;
  others = others;
} where
  others : (k : ℕ) → k ≢ 0 → k ≢ 1 → get_or (2 ∷ 0 ∷ n ∷ []) k 0 ≡ get_or (1 ∷ 1 ∷ n ∷ []) k 0
  others zero a b = absurd (a refl)
  others (suc zero) a b = absurd (b refl)
  others (suc (suc k)) a b = refl

pub jefferson_by_tie : JeffersonByTie
jefferson_by_tie = record {
  join = join 2;
  before = divisor_some Jefferson (1 ∷ 1 ∷ 2 ∷ []) (0 ∷ 0 ∷ 0 ∷ []) (1 ∷ 1 ∷ 1 ∷ []) refl refl refl;
  after = divisor_some Jefferson (2 ∷ 0 ∷ 2 ∷ []) (0 ∷ 0 ∷ 0 ∷ []) (1 ∷ 0 ∷ 2 ∷ []) refl refl refl;
}

pub adams_by_tie : AdamsByTie
adams_by_tie = record {
  join = join 2;
  before = divisor_some Adams (1 ∷ 1 ∷ 2 ∷ []) (0 ∷ 0 ∷ 0 ∷ []) (0 ∷ 0 ∷ 1 ∷ []) refl refl refl;
  after = divisor_some Adams (2 ∷ 0 ∷ 2 ∷ []) (0 ∷ 0 ∷ 0 ∷ []) (1 ∷ 0 ∷ 0 ∷ []) refl refl refl;
}

pub webster_loses : WebsterLoses
webster_loses = record {
  join = join 4;
  before = divisor_only Webster (1 ∷ 1 ∷ 4 ∷ []) (0 ∷ 0 ∷ 0 ∷ []) (1 ∷ 1 ∷ 2 ∷ []) refl refl refl;
  after = divisor_only Webster (2 ∷ 0 ∷ 4 ∷ []) (0 ∷ 0 ∷ 0 ∷ []) (1 ∷ 0 ∷ 3 ∷ []) refl refl refl;
}

pub webster_wins : WebsterWins
webster_wins = record {
  join = join 4;
  before = divisor_only Webster (1 ∷ 1 ∷ 4 ∷ []) (0 ∷ 0 ∷ 0 ∷ []) (0 ∷ 0 ∷ 2 ∷ []) refl refl refl;
  after = divisor_only Webster (2 ∷ 0 ∷ 4 ∷ []) (0 ∷ 0 ∷ 0 ∷ []) (1 ∷ 0 ∷ 1 ∷ []) refl refl refl;
}

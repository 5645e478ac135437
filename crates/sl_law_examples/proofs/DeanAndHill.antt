-- What fails by Dean's and Hill's methods too, and where two entries join, by tests that compute.
use Rattle.std.proofs.Common.{◌≡◌, ℕ, zero, suc, ◌+◌, List, [], ◌∷◌, get_or, arith, refl}
use Rattle.std.specs.Prelude.{◌≢◌}
use Rattle.sl_base_quotients.specs.declared.method.Divisor.TheVariants.{Adams, Dean, Hill, Jefferson}
use Rattle.sl_law_fairness.specs.Joining.{Joins}
use Rattle.sl_law_examples.specs.Joined.{BelowQuota, AboveQuota, LessThanHalf, JoinLoses, JoinWins, JeffersonWins, HamiltonLoses, HamiltonWins}
use Rattle.sl_law_examples.proofs.Allocated.{divisor_only, hamilton_only}

pub join : (a b c : ℕ) (rest : List ℕ) → c ≡ a + b → Joins (a ∷ b ∷ rest) (c ∷ 0 ∷ rest) 0 1
join a b c rest e = record {
  same_length = refl;
  apart = λ h. omega (arith, h);
  joined = e;
  emptied = refl;
  others = others;
} where
  others : (k : ℕ) → k ≢ 0 → k ≢ 1 → get_or (c ∷ 0 ∷ rest) k 0 ≡ get_or (a ∷ b ∷ rest) k 0
  others zero x y = absurd (x refl)
  others (suc zero) x y = absurd (y refl)
  others (suc (suc k)) x y = refl

pub below_quota : BelowQuota
below_quota = record {
  seats = (divisor_only Adams (4 ∷ 1 ∷ 1 ∷ []) (0 ∷ 0 ∷ 0 ∷ []) (1 ∷ 1 ∷ 1 ∷ []) refl refl refl, divisor_only Dean (4 ∷ 1 ∷ 1 ∷ []) (0 ∷ 0 ∷ 0 ∷ []) (1 ∷ 1 ∷ 1 ∷ []) refl refl refl, divisor_only Hill (4 ∷ 1 ∷ 1 ∷ []) (0 ∷ 0 ∷ 0 ∷ []) (1 ∷ 1 ∷ 1 ∷ []) refl refl refl);
  share = refl;
}

pub above_quota : AboveQuota
above_quota = record {
  seats = (divisor_only Dean (25 ∷ 6 ∷ 6 ∷ 6 ∷ 6 ∷ 6 ∷ []) (0 ∷ 0 ∷ 0 ∷ 0 ∷ 0 ∷ 0 ∷ []) (6 ∷ 1 ∷ 1 ∷ 1 ∷ 1 ∷ 1 ∷ []) refl refl refl, divisor_only Hill (25 ∷ 6 ∷ 6 ∷ 6 ∷ 6 ∷ 6 ∷ []) (0 ∷ 0 ∷ 0 ∷ 0 ∷ 0 ∷ 0 ∷ []) (6 ∷ 1 ∷ 1 ∷ 1 ∷ 1 ∷ 1 ∷ []) refl refl refl);
  share = refl;
}

pub less_than_half : LessThanHalf
less_than_half = (divisor_only Adams (3 ∷ 1 ∷ 1 ∷ []) (0 ∷ 0 ∷ 0 ∷ []) (1 ∷ 1 ∷ 1 ∷ []) refl refl refl, divisor_only Dean (3 ∷ 1 ∷ 1 ∷ []) (0 ∷ 0 ∷ 0 ∷ []) (1 ∷ 1 ∷ 1 ∷ []) refl refl refl, divisor_only Hill (3 ∷ 1 ∷ 1 ∷ []) (0 ∷ 0 ∷ 0 ∷ []) (1 ∷ 1 ∷ 1 ∷ []) refl refl refl)

pub join_loses : JoinLoses
join_loses = record {
  join = join 1 1 2 (4 ∷ []) refl;
  before = (divisor_only Adams (1 ∷ 1 ∷ 4 ∷ []) (0 ∷ 0 ∷ 0 ∷ []) (1 ∷ 1 ∷ 1 ∷ []) refl refl refl, divisor_only Dean (1 ∷ 1 ∷ 4 ∷ []) (0 ∷ 0 ∷ 0 ∷ []) (1 ∷ 1 ∷ 1 ∷ []) refl refl refl, divisor_only Hill (1 ∷ 1 ∷ 4 ∷ []) (0 ∷ 0 ∷ 0 ∷ []) (1 ∷ 1 ∷ 1 ∷ []) refl refl refl);
  after = (divisor_only Adams (2 ∷ 0 ∷ 4 ∷ []) (0 ∷ 0 ∷ 0 ∷ []) (1 ∷ 0 ∷ 2 ∷ []) refl refl refl, divisor_only Dean (2 ∷ 0 ∷ 4 ∷ []) (0 ∷ 0 ∷ 0 ∷ []) (1 ∷ 0 ∷ 2 ∷ []) refl refl refl, divisor_only Hill (2 ∷ 0 ∷ 4 ∷ []) (0 ∷ 0 ∷ 0 ∷ []) (1 ∷ 0 ∷ 2 ∷ []) refl refl refl);
}

pub join_wins : JoinWins
join_wins = record {
  join = join 10 10 20 (19 ∷ []) refl;
  before = (divisor_only Dean (10 ∷ 10 ∷ 19 ∷ []) (0 ∷ 0 ∷ 0 ∷ []) (1 ∷ 1 ∷ 3 ∷ []) refl refl refl, divisor_only Hill (10 ∷ 10 ∷ 19 ∷ []) (0 ∷ 0 ∷ 0 ∷ []) (1 ∷ 1 ∷ 3 ∷ []) refl refl refl);
  after = (divisor_only Dean (20 ∷ 0 ∷ 19 ∷ []) (0 ∷ 0 ∷ 0 ∷ []) (3 ∷ 0 ∷ 2 ∷ []) refl refl refl, divisor_only Hill (20 ∷ 0 ∷ 19 ∷ []) (0 ∷ 0 ∷ 0 ∷ []) (3 ∷ 0 ∷ 2 ∷ []) refl refl refl);
}

pub jefferson_wins : JeffersonWins
jefferson_wins = record {
  join = join 2 2 4 (5 ∷ []) refl;
  before = divisor_only Jefferson (2 ∷ 2 ∷ 5 ∷ []) (0 ∷ 0 ∷ 0 ∷ []) (0 ∷ 0 ∷ 2 ∷ []) refl refl refl;
  after = divisor_only Jefferson (4 ∷ 0 ∷ 5 ∷ []) (0 ∷ 0 ∷ 0 ∷ []) (1 ∷ 0 ∷ 1 ∷ []) refl refl refl;
}

pub hamilton_loses : HamiltonLoses
hamilton_loses = record {
  join = join 41 41 82 (40 ∷ 39 ∷ 39 ∷ []) refl;
  before = hamilton_only (41 ∷ 41 ∷ 40 ∷ 39 ∷ 39 ∷ []) (1 ∷ 1 ∷ 0 ∷ 0 ∷ 0 ∷ []) refl refl;
  after = hamilton_only (82 ∷ 0 ∷ 40 ∷ 39 ∷ 39 ∷ []) (1 ∷ 0 ∷ 1 ∷ 0 ∷ 0 ∷ []) refl refl;
}

pub hamilton_wins : HamiltonWins
hamilton_wins = record {
  join = join 3 3 6 (4 ∷ []) refl;
  before = hamilton_only (3 ∷ 3 ∷ 4 ∷ []) (0 ∷ 0 ∷ 1 ∷ []) refl refl;
  after = hamilton_only (6 ∷ 0 ∷ 4 ∷ []) (1 ∷ 0 ∷ 0 ∷ []) refl refl;
}

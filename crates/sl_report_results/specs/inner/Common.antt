-- Claims as they are compared.
use Rattle.std.specs.Prelude.{◌≡◌, ℕ, List, Option, MatchOption}
use Rattle.sl_base_quotients.specs.Bounds.{IsLast, IsNext, last_quotient, next_quotient}
use Rattle.sl_base_quotients.specs.Quotient.{Quotient, SameQuotient}
use Rattle.sl_base_quotients.specs.declared.method.Divisor.{Divisor}

-- the quotient of one of the entries of which P holds, or nothing where there is none
abbrev pub IsClaim : (ℕ → Type 0) → (ℕ → Quotient) → Option Quotient → Type 0
IsClaim P claim found = MatchOption found ((i : ℕ) → ¬ P i) (λ x. (i : ℕ) × P i × (x ≡ claim i))

-- a quotient by which the last seat was won, and which equals a next claim
pub record IsCommon (method : Divisor) (v s : List ℕ) (x : Quotient) : Type 0 where
  pub last : ℕ
  pub next : ℕ
  pub won : IsLast method v s last
  pub claims : IsNext method v s next
  pub value : x ≡ last_quotient method v s last
  pub equal : SameQuotient x (next_quotient method v s next)

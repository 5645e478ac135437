-- Allocations outside quota.
use Rattle.std.proofs.Common.{[], ◌∷◌, refl}
use Rattle.sl_base_quotients.specs.declared.method.Divisor.{Divisor}
use Rattle.sl_base_quotients.specs.declared.method.Divisor.TheVariants.{Adams, Dean, Hill, Webster, Jefferson}
use Rattle.sl_law_meaning.specs.methods.Allocations.{IsDivisorAllocation}
use Rattle.sl_law_examples.specs.Failures.{IsOnly, WebsterBelow, WebsterAbove, JeffersonAbove, MinimaOutside}
use Rattle.sl_law_examples.proofs.Allocated.{divisor_only}

pub webster_below : WebsterBelow
webster_below = record {
  seats = divisor_only Webster (6 ∷ 1 ∷ 1 ∷ 1 ∷ []) (0 ∷ 0 ∷ 0 ∷ 0 ∷ []) (3 ∷ 1 ∷ 1 ∷ 1 ∷ []) refl refl refl;
  share = refl;
}

pub webster_above : WebsterAbove
webster_above = record {
  seats = divisor_only Webster (6 ∷ 1 ∷ 1 ∷ 1 ∷ []) (0 ∷ 0 ∷ 0 ∷ 0 ∷ []) (3 ∷ 0 ∷ 0 ∷ 0 ∷ []) refl refl refl;
  share = refl;
}

pub jefferson_above : JeffersonAbove
jefferson_above = record {
  seats = divisor_only Jefferson (4 ∷ 1 ∷ 1 ∷ []) (0 ∷ 0 ∷ 0 ∷ []) (3 ∷ 0 ∷ 0 ∷ []) refl refl refl;
  share = refl;
}

only_minima : (method : Divisor) → IsOnly (IsDivisorAllocation method (1 ∷ 1 ∷ []) (0 ∷ 2 ∷ []) 2) (0 ∷ 2 ∷ [])
only_minima Adams = divisor_only Adams (1 ∷ 1 ∷ []) (0 ∷ 2 ∷ []) (0 ∷ 2 ∷ []) refl refl refl
only_minima Dean = divisor_only Dean (1 ∷ 1 ∷ []) (0 ∷ 2 ∷ []) (0 ∷ 2 ∷ []) refl refl refl
only_minima Hill = divisor_only Hill (1 ∷ 1 ∷ []) (0 ∷ 2 ∷ []) (0 ∷ 2 ∷ []) refl refl refl
only_minima Webster = divisor_only Webster (1 ∷ 1 ∷ []) (0 ∷ 2 ∷ []) (0 ∷ 2 ∷ []) refl refl refl
only_minima Jefferson = divisor_only Jefferson (1 ∷ 1 ∷ []) (0 ∷ 2 ∷ []) (0 ∷ 2 ∷ []) refl refl refl

pub minima_outside : MinimaOutside
minima_outside = record { seats = only_minima; first_share = refl; second_share = refl }

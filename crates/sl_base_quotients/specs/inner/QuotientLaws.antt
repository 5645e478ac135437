-- The quotients of the five methods fall with the seats held and rise with the weight, and fit a ratio.
use Rattle.std.proofs.Common.{ℕ, zero, suc, ◌+◌, ◌*◌, ◌<◌, ◌≤◌, arith}
use Rattle.std.proofs.Math.Nat.{mul-le-mul_right, mul-le-mul_left}
use Rattle.sl_base_quotients.specs.declared.method.Divisor.{Divisor}
use Rattle.sl_base_quotients.specs.declared.method.Divisor.TheVariants.{Adams, Dean, Hill, Webster, Jefferson}
use Rattle.sl_base_quotients.specs.declared.ratio.TheConstants.{MAX_NUMERATOR, MAX_DENOMINATOR}
use Rattle.sl_base_quotients.specs.declared.limits.TheConstants.{MAX_WEIGHT, MAX_SEATS}
use Rattle.sl_base_quotients.specs.Quotient.{FitsRatio, Below, quotient}

times_pos : (v k : ℕ) → 1 ≤ v → 1 ≤ v * (k + 1)
times_pos zero k h = absurd (omega arith)
times_pos (suc w) k h = omega arith

square_pos : (v : ℕ) → 1 ≤ v → 1 ≤ v * v
square_pos zero h = absurd (omega arith)
square_pos (suc w) h = omega arith

pub quotient_positive : (method : Divisor) (v a : ℕ) → 1 ≤ v → 1 ≤ (quotient method v a).num
quotient_positive Adams v a h = h
quotient_positive Dean v a h = times_pos v (2 * a) h
quotient_positive Hill v a h = square_pos v h
quotient_positive Webster v a h = omega arith
quotient_positive Jefferson v a h = h

pub quotient_falls : (method : Divisor) (v a : ℕ) → 1 ≤ v → Below (quotient method v (a + 1)) (quotient method v a)
quotient_falls Adams v a h = omega arith
quotient_falls Dean v a h = omega arith
quotient_falls Hill v a h = let s = square_pos v h in omega (arith, s)
quotient_falls Webster v a h = omega arith
quotient_falls Jefferson v a h = omega arith

-- a smaller numerator over the same denominator
over_same : (m n d : ℕ) → m < n → 0 < d → m * d < n * d
over_same m n zero h pos = absurd (omega arith)
over_same m n (suc d) h pos = let l : (m + 1) * suc d ≤ n * suc d = mul-le-mul_right (suc d) (omega arith) in omega arith

squares_rise : (v w : ℕ) → v < w → v * v < w * w
squares_rise v w h =
    let one : (v + 1) * v ≤ w * v = mul-le-mul_right v (omega arith) in
    let two : w * (v + 1) ≤ w * w = mul-le-mul_left w (omega arith) in
    omega arith

pub quotient_rises : (method : Divisor) (v w a : ℕ) → v < w → 0 < (quotient method v a).den → Below (quotient method v a) (quotient method w a)
quotient_rises Adams v w a h pos = over_same v w a h pos
quotient_rises Dean v w a h pos =
    over_same (v * (2 * a + 1)) (w * (2 * a + 1)) (2 * a * (a + 1)) (over_same v w (2 * a + 1) h (omega arith)) pos
quotient_rises Hill v w a h pos = over_same (v * v) (w * w) (a * (a + 1)) (squares_rise v w h) pos
quotient_rises Webster v w a h pos = over_same (2 * v) (2 * w) (2 * a + 1) (omega arith) pos
quotient_rises Jefferson v w a h pos = over_same v w (a + 1) h pos

-- products are monotone in both factors
products : (a b c d : ℕ) → a ≤ b → c ≤ d → a * c ≤ b * d
products a b c d h k =
    let one : a * c ≤ b * c = mul-le-mul_right c h in
    let two : b * c ≤ b * d = mul-le-mul_left b k in
    omega arith

dean_den : (a : ℕ) → a ≤ MAX_SEATS → 2 * a * (a + 1) ≤ MAX_DENOMINATOR
dean_den a h = let p : 2 * a * (a + 1) ≤ 2 * MAX_SEATS * (MAX_SEATS + 1) = products (2 * a) (2 * MAX_SEATS) (a + 1) (MAX_SEATS + 1) (omega arith) (omega arith) in omega arith

dean_num : (v a : ℕ) → v ≤ MAX_WEIGHT → a ≤ MAX_SEATS → v * (2 * a + 1) ≤ MAX_NUMERATOR
dean_num v a w h = let p : v * (2 * a + 1) ≤ MAX_WEIGHT * (2 * MAX_SEATS + 1) = products v MAX_WEIGHT (2 * a + 1) (2 * MAX_SEATS + 1) w (omega arith) in omega arith

hill_den : (a : ℕ) → a ≤ MAX_SEATS → a * (a + 1) ≤ MAX_DENOMINATOR
hill_den a h = let p : a * (a + 1) ≤ MAX_SEATS * (MAX_SEATS + 1) = products a MAX_SEATS (a + 1) (MAX_SEATS + 1) (omega arith) (omega arith) in omega arith

hill_num : (v : ℕ) → v ≤ MAX_WEIGHT → v * v ≤ MAX_NUMERATOR
hill_num v w = let p : v * v ≤ MAX_WEIGHT * MAX_WEIGHT = products v MAX_WEIGHT v MAX_WEIGHT w w in omega arith

pub quotient_fits : (method : Divisor) (v a : ℕ) → 1 ≤ v → v ≤ MAX_WEIGHT → a ≤ MAX_SEATS → FitsRatio (quotient method v a)
quotient_fits Adams v a p w h = record { positive = p; num = omega arith; den = omega arith }
quotient_fits Dean v a p w h = record { positive = times_pos v (2 * a) p; num = dean_num v a w h; den = dean_den a h }
quotient_fits Hill v a p w h = record { positive = square_pos v p; num = hill_num v w; den = hill_den a h }
quotient_fits Webster v a p w h = record { positive = omega arith; num = omega arith; den = omega arith }
quotient_fits Jefferson v a p w h = record { positive = p; num = omega arith; den = omega arith }

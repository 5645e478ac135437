-- The order of quotients. Each lemma says of which quotient the numerator has to be positive.
use Rattle.std.proofs.Common.{◌≡◌, ℕ, zero, suc, ◌*◌, ◌<◌, ◌≤◌, ◌⊎◌, inl, inr, arith}
use Rattle.std.proofs.Math.Nat.{mul-le-mul_right, le_of_mul-le-mul_right}
use Rattle.std.proofs.lemmas.Bool.{cases_lt}
use Rattle.sl_base_quotients.specs.Quotient.{Quotient, AtMost, Below}

zero_right : (a d : ℕ) → 0 < a → a * d ≤ 0 → d ≡ 0
zero_right a zero pos h = omega arith
zero_right a (suc d) pos h = absurd (omega arith)

chain : (a b c d e f : ℕ) → 0 < c → a * d ≤ c * b → c * f ≤ e * d → a * f ≤ e * b
chain a b c zero e f pos h k = let z : f ≡ 0 = zero_right c f pos (omega arith) in rw z (omega arith)
chain a b c (suc d) e f pos h k =
    let one : a * suc d * f ≤ c * b * f = mul-le-mul_right f h in
    let two : c * f * b ≤ e * suc d * b = mul-le-mul_right b k in
    let all : a * f * suc d ≤ e * b * suc d = omega arith in
    le_of_mul-le-mul_right all (omega arith)

pub AtMost-trans : (x y z : Quotient) → 0 < y.num → AtMost x y → AtMost y z → AtMost x z
AtMost-trans x y z pos h k = chain x.num x.den y.num y.den z.num z.den pos h k

pub Below-AtMost : (x y z : Quotient) → 0 < z.num → Below x y → AtMost y z → Below x z
Below-AtMost x y z pos h k =
    elim (cases_lt (x.num * z.den) (z.num * x.den)) [ inl l ↦ l | inr g ↦ absurd (let back = AtMost-trans y z x pos k g in omega (arith, back)) ]

pub AtMost-Below : (x y z : Quotient) → 0 < x.num → AtMost x y → Below y z → Below x z
AtMost-Below x y z pos h k =
    elim (cases_lt (x.num * z.den) (z.num * x.den)) [ inl l ↦ l | inr g ↦ absurd (let back = AtMost-trans z x y pos g h in omega (arith, back)) ]

pub Below-AtMost_weak : (x y : Quotient) → Below x y → AtMost x y
Below-AtMost_weak x y h = omega arith

pub Below-irrefl : (x : Quotient) → Below x x → ⊥
Below-irrefl x h = omega arith

pub decide_AtMost : (x y : Quotient) → AtMost x y ⊎ (AtMost x y → ⊥)
decide_AtMost x y = elim (cases_lt (y.num * x.den) (x.num * y.den)) [ inl l ↦ inr (λ h. omega arith) | inr g ↦ inl g ]

-- of two quotients one is at most the other
pub not-AtMost : (x y : Quotient) → (AtMost x y → ⊥) → AtMost y x
not-AtMost x y h = elim (cases_lt (y.num * x.den) (x.num * y.den)) [ inl l ↦ omega arith | inr g ↦ absurd (h g) ]

pub not-Below : (x y : Quotient) → (Below x y → ⊥) → AtMost y x
not-Below x y h = elim (cases_lt (x.num * y.den) (y.num * x.den)) [ inl l ↦ absurd (h l) | inr g ↦ g ]

pub cases_below : (x y : Quotient) → Below x y ⊎ AtMost y x
cases_below x y = cases_lt (x.num * y.den) (y.num * x.den)

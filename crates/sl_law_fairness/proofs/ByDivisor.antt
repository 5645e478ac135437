-- A divisor between the claims: the greatest next one.
use Rattle.std.proofs.Common.{◌≡◌, ℕ, zero, suc, ◌+◌, ◌-◌, ◌*◌, ◌/◌, ◌<◌, ◌≤◌, ◌⊎◌, List, length, get_or, inl, inr, arith, subst}
use Rattle.std.proofs.Math.Nat.{mul-le-mul_right}
use Rattle.std.proofs.lemmas.Nat.{mul-lt}
use Rattle.std.proofs.lemmas.Bool.{cases_lt}
use Rattle.sl_base_quotients.specs.declared.method.Divisor.{Divisor}
use Rattle.sl_base_quotients.specs.declared.method.Divisor.TheVariants.{Adams, Webster, Jefferson}
use Rattle.sl_base_quotients.specs.Quotient.{Quotient, AtMost, quotient}
use Rattle.sl_base_quotients.specs.inner.QuotientLaws.{quotient_positive}
use Rattle.sl_base_quotients.proofs.Order.{AtMost-trans, decide_AtMost, not-AtMost}
use Rattle.sl_law_meaning.specs.methods.Field.{InField}
use Rattle.sl_law_meaning.specs.methods.Allocations.{IsDivisorAllocation}
use Rattle.sl_law_meaning.proofs.methods.DivisorProofs.{in_range}
use Rattle.sl_law_meaning.proofs.methods.HamiltonProofs.{whole_low, whole_high}
use Rattle.sl_law_fairness.specs.ByDivisor.{IsNearest, IsRoundedDown, IsRoundedUp, IsByDivisor, WebsterByDivisor, JeffersonByDivisor, AdamsByDivisor}

abbrev pub next : Divisor → List ℕ → List ℕ → ℕ → Quotient
next method v s i = quotient method (get_or v i 0) (get_or s i 0)

-- of the first n entries the one of the field whose next claim is greatest, if there is any
abbrev Greatest : Divisor → List ℕ → List ℕ → ℕ → Type 0
Greatest method v s n =
    ((i : ℕ) → i < n → InField v i → ⊥)
    ⊎ ((j : ℕ) × InField v j × ((i : ℕ) → i < n → InField v i → AtMost (next method v s i) (next method v s j)))

module _ (method : Divisor) (v s : List ℕ) where
  -- what holds of each number below n and of n
  one_more : (P : ℕ → Type 0) (n i : ℕ) → i < suc n → ((k : ℕ) → k < n → P k) → P n → P i
  one_more P n i l before here =
      elim (cases_lt i n) [ inl less ↦ before i less | inr g ↦ (let e : n ≡ i = omega arith in subst P e here) ]

  joined : (n : ℕ) → Greatest method v s n → Greatest method v s (suc n)
  joined n so_far =
      elim (cases_lt 0 (get_or v n 0)) [
        | inr g ↦ elim so_far [
          | inl none ↦ inl (λ i l. one_more (λ k. InField v k → ⊥) n i l none (λ f. omega (arith, f, g)))
          | inr some ↦ inr (some.0, some.1, λ i l. one_more (λ k. InField v k → AtMost (next method v s k) (next method v s some.0)) n i l some.2 (λ f. absurd (omega (arith, f, g))))
        ]
        | inl here ↦ elim so_far [
          | inl none ↦ inr (n, here, λ i l. one_more (λ k. InField v k → AtMost (next method v s k) (next method v s n)) n i l (λ k less f. absurd (none k less f)) (λ f. omega arith))
          | inr some ↦ elim (decide_AtMost (next method v s n) (next method v s some.0)) [
            | inl le ↦ inr (some.0, some.1, λ i l. one_more (λ k. InField v k → AtMost (next method v s k) (next method v s some.0)) n i l some.2 (λ f. le))
            | inr not ↦
                (let up = not-AtMost (next method v s n) (next method v s some.0) not in
                inr (
                  n,
                  here,
                  λ i l. one_more (λ k. InField v k → AtMost (next method v s k) (next method v s n)) n i l
                      (λ k less f. AtMost-trans (next method v s k) (next method v s some.0) (next method v s n)
                      (quotient_positive method (get_or v some.0 0) (get_or s some.0 0) some.1) (some.2 k less f) up)
                      (λ f. omega arith),
                ))
          ]
        ]
      ]

  greatest : (n : ℕ) → Greatest method v s n
  greatest zero = inl (λ i l f. omega arith)
  greatest (suc n) = joined n (greatest n)

-- d stands between the claims: no next one is above it, and no last one beyond a minimum is below
pub record Divides (method : Divisor) (v m s : List ℕ) (d : Quotient) : Type 0 where
  pub above_next : (i : ℕ) → InField v i → AtMost (next method v s i) d
  pub below_last : (i : ℕ) → InField v i → get_or m i 0 < get_or s i 0 → AtMost d (quotient method (get_or v i 0) (get_or s i 0 - 1))

-- there is one: a next claim, or any where there is no field
pub some_divisor : (method : Divisor) (v m : List ℕ) (seats : ℕ) (s : List ℕ) → IsDivisorAllocation method v m seats s →
    (Q : Quotient → Type 0) → Q (record { num = 1; den = 1 }) → ((j : ℕ) → InField v j → Q (next method v s j)) →
    (d : Quotient) × Q d × Divides method v m s d
some_divisor method v m seats s h Q one each =
    elim (greatest method v s (length v)) [
      | inl none ↦ (
        record { num = 1; den = 1 },
        one,
        record {
          above_next = λ i f. absurd (none i (in_range v i f) f);
          below_last = λ i f less. absurd (none i (in_range v i f) f);
        },
      )
      | inr some ↦ (
        next method v s some.0,
        each some.0 some.1,
        record {
          above_next = λ i f. some.2 i (in_range v i f) f;
          below_last = λ i f less. h.min_max i some.0 f some.1 less;
        },
      )
    ]

-- and what has one is fair
pub fair_by : (method : Divisor) (v m s : List ℕ) (d : Quotient) → 0 < d.num → Divides method v m s d →
    (i j : ℕ) → InField v i → InField v j → get_or m i 0 < get_or s i 0 → AtMost (next method v s j) (quotient method (get_or v i 0) (get_or s i 0 - 1))
fair_by method v m s d pos h i j fi fj less =
    AtMost-trans (next method v s j) d (quotient method (get_or v i 0) (get_or s i 0 - 1)) pos (h.above_next j fj) (h.below_last i fi less)

-- ---- Webster

-- a number may be rounded to one that is not above m, where it is not above m and a half
capped : (d : Quotient) (v m : ℕ) → 0 < d.num → 2 * (v * d.den) ≤ (2 * m + 1) * d.num → (r : ℕ) × IsNearest d v r × (r ≤ m)
capped d v m pos le =
    let n = 2 * (v * d.den) + d.num in
    let r = n / (2 * d.num) in
    let low : 2 * d.num * r ≤ n = whole_low n (2 * d.num) in
    let high : n < 2 * d.num * (r + 1) = whole_high n (2 * d.num) (r + 1) (omega (arith, pos)) (omega arith) in
    elim (cases_lt m r) [
      | inr g ↦ (r, record { not_above = omega (arith, low); not_below = omega (arith, high) }, g)
      | inl less ↦
          (let more : (m + 1) * d.num ≤ r * d.num = mul-le-mul_right d.num (omega (arith, less)) in
          (m, record { not_above = omega (arith, low, more); not_below = le }, omega arith))
    ]

-- the last claim of s seats against d
last_claim : (d : Quotient) (v s : ℕ) → 0 < s → AtMost d (quotient Webster v (s - 1)) → 2 * (s * d.num) ≤ 2 * (v * d.den) + d.num
last_claim d v zero pos h = absurd (omega (arith, pos))
last_claim d v (suc s) pos h =
    let e : suc s - 1 ≡ s = omega arith in
    let h' : d.num * (2 * s + 1) ≤ 2 * v * d.den = subst (λ n. d.num * (2 * n + 1) ≤ 2 * v * d.den) e h in
    omega (arith, h')

claim_last : (d : Quotient) (v s : ℕ) → 0 < s → 2 * (s * d.num) ≤ 2 * (v * d.den) + d.num → AtMost d (quotient Webster v (s - 1))
claim_last d v zero pos h = absurd (omega (arith, pos))
claim_last d v (suc s) pos h =
    let e : s ≡ suc s - 1 = omega arith in
    let h' : d.num * (2 * s + 1) ≤ 2 * v * d.den = omega (arith, h) in
    subst (λ n. d.num * (2 * n + 1) ≤ 2 * v * d.den) e h'

-- a rounding by which the claims against a divisor say what the rounded number is
pub record IsRoundingOf (method : Divisor) (Rounded : Quotient → ℕ → ℕ → Type 0) : Type 0 where
  -- where s seats are not too few, and if they are beyond a minimum not too many
  pub exact : (d : Quotient) (v s : ℕ) → 0 < s → AtMost (quotient method v s) d → AtMost d (quotient method v (s - 1)) → Rounded d v s
  pub capped : (d : Quotient) (v m : ℕ) → 0 < d.num → 0 < d.den → AtMost (quotient method v m) d → (r : ℕ) × Rounded d v r × (r ≤ m)
  -- and back
  pub next : (d : Quotient) (v r s : ℕ) → Rounded d v r → r ≤ s → AtMost (quotient method v s) d
  pub last : (d : Quotient) (v s : ℕ) → 0 < s → Rounded d v s → AtMost d (quotient method v (s - 1))

module _ (method : Divisor) (Rounded : Quotient → ℕ → ℕ → Type 0) (law : IsRoundingOf method Rounded) (v m : List ℕ) (seats : ℕ) (s : List ℕ) where
  pub to_divisor : IsDivisorAllocation method v m seats s → ((j : ℕ) → InField v j → 0 < (next method v s j).den) → IsByDivisor Rounded v m seats s
  to_divisor h finite =
      let found = some_divisor method v m seats s h (λ d. (0 < d.num) × (0 < d.den)) (omega arith, omega arith)
      (λ j f. (quotient_positive method (get_or v j 0) (get_or s j 0) f, finite j f)) in
      let d = found.0 in
      let pos = found.1 in
      let div = found.2 in
      record {
        same_length = h.same_length;
        total = h.total;
        outside = h.outside;
        divisor = d;
        positive = pos;
        rounded = λ i f.
            let low = h.minima i in
            elim (cases_lt (get_or m i 0) (get_or s i 0)) [
              | inl less ↦ (get_or s i 0, law.exact d (get_or v i 0) (get_or s i 0) (omega (arith, less)) (div.above_next i f) (div.below_last i f less), omega (arith, less))
              | inr g ↦
                  (let r = law.capped d (get_or v i 0) (get_or s i 0) pos.0 pos.1 (div.above_next i f) in
                  let le = r.2 in
                  (r.0, r.1, omega (arith, le, low, g)))
            ];
      }

  pub from_divisor : IsByDivisor Rounded v m seats s → IsDivisorAllocation method v m seats s
  from_divisor h =
      let d = h.divisor in
      let pos = h.positive in
      let div : Divides method v m s d = record {
        above_next = λ i f. let r = h.rounded i f in let e = r.2 in law.next d (get_or v i 0) r.0 (get_or s i 0) r.1 (omega (arith, e));
        below_last = λ i f less.
            let r = h.rounded i f in
            let e = r.2 in
            let same : r.0 ≡ get_or s i 0 = omega (arith, e, less) in
            law.last d (get_or v i 0) (get_or s i 0) (omega (arith, less)) (subst (Rounded d (get_or v i 0)) same r.1);
      } in
      record {
        same_length = h.same_length;
        total = h.total;
        minima = λ i. elim (cases_lt 0 (get_or v i 0)) [
          | inl f ↦ (let e = (h.rounded i f).2 in omega (arith, e))
          | inr g ↦ (let z : get_or v i 0 ≡ 0 = omega arith in let e = h.outside i z in omega (arith, e))
        ];
        outside = h.outside;
        min_max = fair_by method v m s d pos.0 div;
      }

webster_rounds : IsRoundingOf Webster IsNearest
webster_rounds = record {
  exact = λ d v s pos up down. record { not_above = last_claim d v s pos down; not_below = omega (arith, up) };
  capped = λ d v m pos den up. capped d v m pos (omega (arith, up));
  next = λ d v r s is le. let low = is.not_below in let up : (2 * r + 1) * d.num ≤ (2 * s + 1) * d.num = mul-le-mul_right d.num (omega (arith, le)) in omega (arith, low, up);
  last = λ d v s pos is. claim_last d v s pos is.not_above;
}

pub webster_by_divisor : WebsterByDivisor
webster_by_divisor v m seats s = (
  λ h. to_divisor Webster IsNearest webster_rounds v m seats s h (λ j f. omega arith),
  from_divisor Webster IsNearest webster_rounds v m seats s,
)

-- ---- Jefferson

capped_down : (d : Quotient) (v m : ℕ) → 0 < d.num → v * d.den ≤ (m + 1) * d.num → (r : ℕ) × IsRoundedDown d v r × (r ≤ m)
capped_down d v m pos le =
    let r = v * d.den / d.num in
    let low : d.num * r ≤ v * d.den = whole_low (v * d.den) d.num in
    let high : v * d.den < d.num * (r + 1) = whole_high (v * d.den) d.num (r + 1) pos (omega arith) in
    elim (cases_lt m r) [
      | inr g ↦ (r, record { not_above = omega (arith, low); not_below = omega (arith, high) }, g)
      | inl less ↦
          (let more : m * d.num ≤ r * d.num = mul-le-mul_right d.num (omega (arith, less)) in
          (m, record { not_above = omega (arith, low, more); not_below = le }, omega arith))
    ]

last_down : (d : Quotient) (v s : ℕ) → 0 < s → AtMost d (quotient Jefferson v (s - 1)) → s * d.num ≤ v * d.den
last_down d v s pos h =
    let e : s - 1 + 1 ≡ s = omega (arith, pos) in
    let h' = subst (λ n. d.num * n ≤ v * d.den) e h in omega (arith, h')

down_last : (d : Quotient) (v s : ℕ) → 0 < s → s * d.num ≤ v * d.den → AtMost d (quotient Jefferson v (s - 1))
down_last d v s pos h =
    let e : s ≡ s - 1 + 1 = omega (arith, pos) in
    let h' : d.num * s ≤ v * d.den = omega (arith, h) in subst (λ n. d.num * n ≤ v * d.den) e h'

jefferson_rounds : IsRoundingOf Jefferson IsRoundedDown
jefferson_rounds = record {
  exact = λ d v s pos up down. record { not_above = last_down d v s pos down; not_below = omega (arith, up) };
  capped = λ d v m pos den up. capped_down d v m pos (omega (arith, up));
  next = λ d v r s is le. let low = is.not_below in let up : (r + 1) * d.num ≤ (s + 1) * d.num = mul-le-mul_right d.num (omega (arith, le)) in omega (arith, low, up);
  last = λ d v s pos is. down_last d v s pos is.not_above;
}

pub jefferson_by_divisor : JeffersonByDivisor
jefferson_by_divisor v m seats s = (
  λ h. to_divisor Jefferson IsRoundedDown jefferson_rounds v m seats s h (λ j f. omega arith),
  from_divisor Jefferson IsRoundedDown jefferson_rounds v m seats s,
)

-- ---- Adams

capped_up : (d : Quotient) (v m : ℕ) → 0 < d.num → v * d.den ≤ m * d.num → (r : ℕ) × IsRoundedUp d v r × (r ≤ m)
capped_up d v m pos le =
    let n = v * d.den + (d.num - 1) in
    let r = n / d.num in
    let low : d.num * r ≤ n = whole_low n d.num in
    let high : n < d.num * (r + 1) = whole_high n d.num (r + 1) pos (omega arith) in
    elim (cases_lt m r) [
      | inr g ↦ (r, record { not_above = omega (arith, low); not_below = omega (arith, high, pos) }, g)
      | inl less ↦
          (let more : (m + 1) * d.num ≤ r * d.num = mul-le-mul_right d.num (omega (arith, less)) in
          absurd (omega (arith, low, more, le, pos)))
    ]

last_up : (d : Quotient) (v s : ℕ) → 0 < s → AtMost d (quotient Adams v (s - 1)) → s * d.num ≤ v * d.den + d.num
last_up d v zero pos h = absurd (omega (arith, pos))
last_up d v (suc s) pos h =
    let e : suc s - 1 ≡ s = omega arith in
    let h' : d.num * s ≤ v * d.den = subst (λ n. d.num * n ≤ v * d.den) e h in omega (arith, h')

up_last : (d : Quotient) (v s : ℕ) → 0 < s → s * d.num ≤ v * d.den + d.num → AtMost d (quotient Adams v (s - 1))
up_last d v zero pos h = absurd (omega (arith, pos))
up_last d v (suc s) pos h =
    let e : s ≡ suc s - 1 = omega arith in
    let h' : d.num * s ≤ v * d.den = omega (arith, h) in subst (λ n. d.num * n ≤ v * d.den) e h'

adams_rounds : IsRoundingOf Adams IsRoundedUp
adams_rounds = record {
  exact = λ d v s pos up down. record { not_above = last_up d v s pos down; not_below = omega (arith, up) };
  capped = λ d v m pos den up. capped_up d v m pos (omega (arith, up));
  next = λ d v r s is le. let low = is.not_below in let up : r * d.num ≤ s * d.num = mul-le-mul_right d.num le in omega (arith, low, up);
  last = λ d v s pos is. up_last d v s pos is.not_above;
}

-- by a finite divisor each vote rounds up to a seat
seated : (v den num r : ℕ) → 0 < v → 0 < den → v * den ≤ r * num → 0 < r
seated v den num zero pv pd le = absurd (let p : 0 * 0 < v * den = mul-lt 0 0 v den pv pd in omega (arith, p, le))
seated v den num (suc r) pv pd le = omega arith

pub adams_by_divisor : AdamsByDivisor
adams_by_divisor v m seats s = (
  λ h. to_divisor Adams IsRoundedUp adams_rounds v m seats s h.0 h.1,
  λ h. (
    from_divisor Adams IsRoundedUp adams_rounds v m seats s h,
    λ i f.
        let r = h.rounded i f in
        let e = r.2 in
        let some = seated (get_or v i 0) h.divisor.den h.divisor.num r.0 f h.positive.1 r.1.not_below in
        omega (arith, e, some),
  ),
)

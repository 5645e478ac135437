-- A seat more brings an entry nearer to its share by V up to its whole part, and then by V - 2 r, with r its remainder; so one number separates
-- the seats that are given from those that are not.
use Rattle.std.proofs.Common.{◌≡◌, ℕ, zero, suc, ◌+◌, ◌-◌, ◌*◌, ◌<◌, ◌≤◌, false, List, [], ◌∷◌, length, get_or, sum, inl, inr, arith, sym, subst}
use Rattle.std.proofs.Math.Nat.{mul-le-mul_left}
use Rattle.std.proofs.lemmas.Bool.{cases_lt, cases_eq, false≢true}
use Rattle.sl_law_meaning.specs.methods.Field.{InField}
use Rattle.sl_law_meaning.specs.methods.Hamilton.{whole, remainder, IsHamiltonAllocation}
use Rattle.sl_law_meaning.proofs.methods.SeatSums.{entry_le_sum, sum-cons}
use Rattle.sl_law_meaning.proofs.methods.DivisorProofs.{in_range}
use Rattle.sl_law_meaning.proofs.methods.HamiltonProofs.{whole_high}
use Rattle.sl_law_fairness.specs.Hamilton.{apart, deviation, HamiltonLeastDeviation}
use Rattle.sl_law_fairness.proofs.HamiltonVotes.{share, compared}

-- with V votes, a number p between the remainders, and a share a / V
abbrev Fits : (V p a s t : ℕ) → Type 0
Fits V p a s t = apart (V * s) a + (V * t + 2 * p * s) ≤ apart (V * t) a + (V * s + 2 * p * t)

low_up : (V p w r k : ℕ) → r ≤ p → Fits V p (V * w + r) w (w + k)
low_up V p w r zero h = subst (λ n. Fits V p (V * w + r) w n) (let e : w ≡ w + 0 = omega arith in e) (omega arith)
low_up V p w r (suc k) h = omega (arith, h)

low_down : (V p t r k : ℕ) → p ≤ V → Fits V p (V * (t + k) + r) (t + k) t
low_down V p t r k h = let up : k * p ≤ k * V = mul-le-mul_left k h in omega (arith, up)

high_up : (V p w r k : ℕ) → r ≤ V → Fits V p (V * w + r) (w + 1) (w + 1 + k)
high_up V p w r k h = omega (arith, h)

high_down : (V p t r k : ℕ) → p ≤ r → p ≤ V → r ≤ V → Fits V p (V * (t + k) + r) (t + k + 1) t
high_down V p t r k h le top = let up : k * p ≤ k * V = mul-le-mul_left k le in omega (arith, up, h, top)

low : (V p w r t : ℕ) → r ≤ p → p ≤ V → Fits V p (V * w + r) w t
low V p w r t h le =
    elim (cases_lt t w) [
      | inr g ↦ (let e : w + (t - w) ≡ t = omega (arith, g) in subst (λ n. Fits V p (V * w + r) w n) e (low_up V p w r (t - w) h))
      | inl less ↦ (let e : t + (w - t) ≡ w = omega (arith, less) in subst (λ n. Fits V p (V * n + r) n t) e (low_down V p t r (w - t) le))
    ]

high : (V p w r t : ℕ) → p ≤ r → p ≤ V → r ≤ V → Fits V p (V * w + r) (w + 1) t
high V p w r t h le top =
    elim (cases_lt w t) [
      | inl more ↦ (let e : w + 1 + (t - w - 1) ≡ t = omega (arith, more) in subst (λ n. Fits V p (V * w + r) (w + 1) n) e (high_up V p w r (t - w - 1) top))
      | inr g ↦ (let e : t + (w - t) ≡ w = omega (arith, g) in subst (λ n. Fits V p (V * n + r) (n + 1) t) e (high_down V p t r (w - t) h le top))
    ]

-- ---- the number between

module _ (v : List ℕ) (seats : ℕ) (s : List ℕ) (h : IsHamiltonAllocation false v seats s) where
  rem_high : (j : ℕ) → InField v j → remainder v seats j ≤ sum v
  rem_high j f =
      let all = entry_le_sum v j in
      let pos : 0 < sum v = omega (arith, all, f) in
      let top = whole_high (seats * get_or v j 0) (sum v) (whole v seats j + 1) pos (omega arith) in
      let parts = share v seats j in
      omega (arith, top, parts)

  no_greater : (i j : ℕ) → InField v i → InField v j → get_or s i 0 ≡ whole v seats i + 1 → get_or s j 0 ≡ whole v seats j → remainder v seats j ≤ remainder v seats i
  no_greater i j fi fj ei ej = elim (compared false v seats s h i j fi fj ei ej) [ inl lead ↦ absurd (false≢true lead) | inr by ↦ by.1 ]

  record Between (n : ℕ) : Type 0 where
    pub p : ℕ
    pub most : p ≤ sum v
    pub raised : (i : ℕ) → InField v i → get_or s i 0 ≡ whole v seats i + 1 → p ≤ remainder v seats i
    pub others : (j : ℕ) → j < n → InField v j → get_or s j 0 ≡ whole v seats j → remainder v seats j ≤ p

  next : (n : ℕ) → Between n → Between (suc n)
  next n b =
      elim (cases_lt 0 (get_or v n 0)) [
        | inr g ↦ record {
          p = b.p;
          most = b.most;
          raised = b.raised;
          others = λ j l f e. elim (cases_eq j n) [ inl is ↦ absurd (let f' = subst (λ k. 0 < get_or v k 0) is f in omega (arith, f', g)) | inr ne ↦ b.others j (omega (arith, l, ne)) f e ];
        }
        | inl fn ↦ elim (cases_eq (get_or s n 0) (whole v seats n)) [
          | inr up ↦ record {
            p = b.p;
            most = b.most;
            raised = b.raised;
            others = λ j l f e. elim (cases_eq j n) [ inl is ↦ absurd (up (subst (λ k. get_or s k 0 ≡ whole v seats k) is e)) | inr ne ↦ b.others j (omega (arith, l, ne)) f e ];
          }
          | inl down ↦ elim (cases_lt b.p (remainder v seats n)) [
            | inl more ↦ record {
              p = remainder v seats n;
              most = rem_high n fn;
              raised = λ i f e. no_greater i n f fn e down;
              others = λ j l f e. elim (cases_eq j n) [
                | inl is ↦ subst (λ k. remainder v seats k ≤ remainder v seats n) (sym is) (omega arith)
                | inr ne ↦ (let o = b.others j (omega (arith, l, ne)) f e in omega (arith, o, more))
              ];
            }
            | inr few ↦ record {
              p = b.p;
              most = b.most;
              raised = b.raised;
              others = λ j l f e. elim (cases_eq j n) [ inl is ↦ subst (λ k. remainder v seats k ≤ b.p) (sym is) few | inr ne ↦ b.others j (omega (arith, l, ne)) f e ];
            }
          ]
        ]
      ]

  between : (n : ℕ) → Between n
  between zero = record { p = 0; most = omega arith; raised = λ i f e. omega arith; others = λ j l f e. absurd (omega (arith, l)) }
  between (suc n) = next n (between n)

  fits : (b : Between (length v)) (i t : ℕ) → Fits (sum v) b.p (seats * get_or v i 0) (get_or s i 0) t
  fits b i t =
      elim (cases_lt 0 (get_or v i 0)) [
        | inr g ↦
            (let z : get_or v i 0 ≡ 0 = omega (arith, g) in
            subst (λ n. Fits (sum v) b.p (seats * n) (get_or s i 0) t) (sym z) (subst (λ n. Fits (sum v) b.p (seats * 0) n t) (sym (h.outside i z)) (omega arith)))
        | inl f ↦
            (let le = b.most in
            subst (λ n. Fits (sum v) b.p n (get_or s i 0) t) (share v seats i)
            (elim (h.shares i f) [
              | inl e ↦ subst (λ n. Fits (sum v) b.p (sum v * whole v seats i + remainder v seats i) n t) (sym e) (low (sum v) b.p (whole v seats i) (remainder v seats i) t (b.others i (in_range v i f) f e) le)
              | inr e ↦ subst (λ n. Fits (sum v) b.p (sum v * whole v seats i + remainder v seats i) n t) (sym e) (high (sum v) b.p (whole v seats i) (remainder v seats i) t (b.raised i f e) le (rem_high i f))
            ]))
      ]

-- ---- the sums

all_fit : (V p seats : ℕ) (v s t : List ℕ) → length s ≡ length v → length t ≡ length v → ((i : ℕ) → Fits V p (seats * get_or v i 0) (get_or s i 0) (get_or t i 0)) →
    deviation V seats v s + (V * sum t + 2 * p * sum s) ≤ deviation V seats v t + (V * sum s + 2 * p * sum t)
all_fit V p seats [] [] [] ls lt each = omega arith
all_fit V p seats [] (a ∷ s) t ls lt each = absurd (omega (arith, ls))
all_fit V p seats [] [] (b ∷ t) ls lt each = absurd (omega (arith, lt))
all_fit V p seats (x ∷ v) [] t ls lt each = absurd (omega (arith, ls))
all_fit V p seats (x ∷ v) (a ∷ s) [] ls lt each = absurd (omega (arith, lt))
all_fit V p seats (x ∷ v) (a ∷ s) (b ∷ t) ls lt each =
    let rest = all_fit V p seats v s t (omega (arith, ls)) (omega (arith, lt)) (λ i. each (suc i)) in
    let this = each 0 in
    subst (λ n. deviation V seats (x ∷ v) (a ∷ s) + (V * sum (b ∷ t) + 2 * p * n) ≤ deviation V seats (x ∷ v) (b ∷ t) + (V * n + 2 * p * sum (b ∷ t))) (sym (sum-cons a s))
    (subst (λ n. deviation V seats (x ∷ v) (a ∷ s) + (V * n + 2 * p * (a + sum s)) ≤ deviation V seats (x ∷ v) (b ∷ t) + (V * (a + sum s) + 2 * p * n)) (sym (sum-cons b t))
    (omega (arith, rest, this)))

pub hamilton_least_deviation : HamiltonLeastDeviation
hamilton_least_deviation v seats s h t long total =
    let b = between v seats s h (length v) in
    let all = all_fit (sum v) b.p seats v s t h.same_length long (λ i. fits v seats s h b i (get_or t i 0)) in
    let same : sum t ≡ sum s = (let e = h.total in omega (arith, e, total)) in
    let all' = subst (λ n. deviation (sum v) seats v s + (sum v * n + 2 * b.p * sum s) ≤ deviation (sum v) seats v t + (sum v * sum s + 2 * b.p * n)) same all in
    omega (arith, all')

-- Huntington's tests: a seat moved from x = a + 1 seats for v votes to y seats for w votes makes nothing better exactly where the next claim of
-- the one is at most the last of the other.
use Rattle.std.proofs.Common.{◌≡◌, ◌↔◌, ℕ, ◌+◌, ◌-◌, ◌*◌, ◌<◌, ◌≤◌, Bool, true, false, cond, length, get_or, inl, inr, arith, sym, subst}
use Rattle.std.specs.Prelude.{nat_le}
use Rattle.std.proofs.Math.Nat.{mul-le-mul_left, le_of_mul-le-mul_left}
use Rattle.std.proofs.lemmas.Nat.{mul-lt, mul-le}
use Rattle.std.proofs.lemmas.Bool.{cases_lt, cases_eq, leb-true, le-leb, false_from_ne_true}
use Rattle.sl_base_quotients.specs.declared.method.Divisor.{Divisor}
use Rattle.sl_base_quotients.specs.declared.method.Divisor.TheVariants.{Adams, Dean, Hill, Webster, Jefferson}
use Rattle.sl_base_quotients.specs.Quotient.{AtMost, quotient}
use Rattle.sl_law_meaning.proofs.methods.SeatSums.{none_needed}
use Rattle.sl_law_fairness.specs.Huntington.{lead, inequality, HuntingtonsTests}
use Rattle.sl_law_fairness.proofs.Chains.{falls_weak}

-- what the test of a comparison says
abbrev Says : Bool → ℕ → ℕ → Type 0
Says true m n = m ≤ n
Says false m n = n < m

says : (m n : ℕ) → Says (nat_le m n) m n
says m n =
    elim (cases_lt n m) [
      | inl less ↦ (let e = false_from_ne_true (nat_le m n) (λ h. let le = leb-true m n h in omega (arith, le, less)) in subst (λ b. Says b m n) (sym e) less)
      | inr le ↦ subst (λ b. Says b m n) (sym (le-leb m n le)) le
    ]

-- the claims of the two
abbrev Claims : Divisor → (a v y w : ℕ) → Type 0
Claims method a v y w = AtMost (quotient method w y) (quotient method v a)

-- the inequality of the two before and after, by who is better
abbrev Rises : Divisor → (a v y w : ℕ) → Bool → Bool → Type 0
Rises method a v y w b c = AtMost (cond b (lead method (a + 1) v y w) (lead method y w (a + 1) v)) (cond c (lead method a v (y + 1) w) (lead method (y + 1) w a v))

pos : (m n : ℕ) → 0 < m → 0 < n → 0 < m * n
pos m n h k = mul-lt 0 0 m n h k

-- times a positive number
over : (k m n : ℕ) → 0 < k → k * m ≤ k * n → m ≤ n
over k m n p h = le_of_mul-le-mul_left {m = m} {n = n} {k = k} h p

-- ---- the one was better, and the other is then: the two say the same

adams_turns : (a v y w d e : ℕ) → 0 < v → d + y * v ≡ (a + 1) * w → e + a * w ≡ (y + 1) * v → (d * v ≤ e * w) ↔ (w * a ≤ v * y)
adams_turns a v y w d e pv hd he =
    let md : (d + y * v) * v ≡ (a + 1) * w * v = λ i. hd i * v in
    let me : (e + a * w) * w ≡ (y + 1) * v * w = λ i. he i * w in (
      λ h. over (v + w) (w * a) (v * y) (omega (arith, pv)) (omega (arith, h, md, me)),
      λ h. let up : (v + w) * (w * a) ≤ (v + w) * (v * y) = mul-le-mul_left (v + w) h in omega (arith, up, md, me),
    )

jefferson_turns : (a v y w d e : ℕ) → 0 < v → d + y * v ≡ (a + 1) * w → e + a * w ≡ (y + 1) * v → (d * w ≤ e * v) ↔ (w * (a + 1) ≤ v * (y + 1))
jefferson_turns a v y w d e pv hd he =
    let md : (d + y * v) * w ≡ (a + 1) * w * w = λ i. hd i * w in
    let me : (e + a * w) * v ≡ (y + 1) * v * v = λ i. he i * v in (
      λ h. over (v + w) (w * (a + 1)) (v * (y + 1)) (omega (arith, pv)) (omega (arith, h, md, me)),
      λ h. let up : (v + w) * (w * (a + 1)) ≤ (v + w) * (v * (y + 1)) = mul-le-mul_left (v + w) h in omega (arith, up, md, me),
    )

webster_turns : (a v y w d e : ℕ) → 0 < v → 0 < w → d + y * v ≡ (a + 1) * w → e + a * w ≡ (y + 1) * v → (d * (w * v) ≤ e * (v * w)) ↔ (2 * w * (2 * a + 1) ≤ 2 * v * (2 * y + 1))
webster_turns a v y w d e pv pw hd he = (
  λ h. let le = over (v * w) d e (pos v w pv pw) (omega (arith, h)) in omega (arith, le, hd, he),
  λ h. let le : d ≤ e = omega (arith, h, hd, he) in let up : v * w * d ≤ v * w * e = mul-le-mul_left (v * w) le in omega (arith, up),
)

dean_turns : (a v y w d e : ℕ) → d + y * v ≡ (a + 1) * w → e + a * w ≡ (y + 1) * v →
    (d * ((y + 1) * a) ≤ e * ((a + 1) * y)) ↔ (w * (2 * y + 1) * (2 * a * (a + 1)) ≤ v * (2 * a + 1) * (2 * y * (y + 1)))
dean_turns a v y w d e hd he =
    let md : (d + y * v) * ((y + 1) * a) ≡ (a + 1) * w * ((y + 1) * a) = λ i. hd i * ((y + 1) * a) in
    let me : (e + a * w) * ((a + 1) * y) ≡ (y + 1) * v * ((a + 1) * y) = λ i. he i * ((a + 1) * y) in
    (λ h. omega (arith, h, md, me), λ h. omega (arith, h, md, me))

turns : (method : Divisor) (a v y w : ℕ) → 0 < v → 0 < w → y * v ≤ (a + 1) * w → a * w < (y + 1) * v → Rises method a v y w true false ↔ Claims method a v y w
turns Adams a v y w pv pw b c = adams_turns a v y w ((a + 1) * w - y * v) ((y + 1) * v - a * w) pv (omega (arith, b)) (omega (arith, c))
turns Dean a v y w pv pw b c = dean_turns a v y w ((a + 1) * w - y * v) ((y + 1) * v - a * w) (omega (arith, b)) (omega (arith, c))
turns Hill a v y w pv pw b c = (λ h. omega (arith, h), λ h. omega (arith, h))
turns Webster a v y w pv pw b c = webster_turns a v y w ((a + 1) * w - y * v) ((y + 1) * v - a * w) pv pw (omega (arith, b)) (omega (arith, c))
turns Jefferson a v y w pv pw b c = jefferson_turns a v y w ((a + 1) * w - y * v) ((y + 1) * v - a * w) pv (omega (arith, b)) (omega (arith, c))

-- ---- the one is better still: it was worse before, and the claims say so

no_less : (k d e : ℕ) → 0 < k → e < d → d * k ≤ e * k → ⊥
no_less k d e p less h = let le = over k d e p (omega (arith, h)) in omega (arith, le, less)

dean_falls : (a v y w d e : ℕ) → 0 < v → d + y * v ≡ (a + 1) * w → e + (y + 1) * v ≡ a * w → d * (a * (y + 1)) ≤ e * ((a + 1) * y) → ⊥
dean_falls a v y w d e pv hd he h =
    let more : d ≡ e + v + w = omega (arith, hd, he) in
    let h' : (e + v + w) * (a * (y + 1)) ≤ e * ((a + 1) * y) = subst (λ n. n * (a * (y + 1)) ≤ e * ((a + 1) * y)) more h in
    let me : (e + (y + 1) * v) * y ≡ a * w * y = λ i. he i * y in
    omega (arith, h', me, he, pv)

dean_claims_fall : (a v y w : ℕ) → 0 < v → (y + 1) * v ≤ a * w → w * (2 * y + 1) * (2 * a * (a + 1)) ≤ v * (2 * a + 1) * (2 * y * (y + 1)) → ⊥
dean_claims_fall a v y w pv c h =
    let up : y * (2 * a + 1) * ((y + 1) * v) ≤ y * (2 * a + 1) * (a * w) = mul-le-mul_left (y * (2 * a + 1)) c in
    let some : 0 < a * w = omega (arith, c, pv) in
    omega (arith, up, h, some)

hill_claims_fall : (a v y w : ℕ) → 0 < v → 0 < w → (y + 1) * v ≤ a * w → w * w * (a * (a + 1)) ≤ v * v * (y * (y + 1)) → ⊥
hill_claims_fall a v y w pv pw c h =
    let up : (y + 1) * v * (y * v) ≤ a * w * (a * w) = mul-le ((y + 1) * v) (y * v) (a * w) (a * w) c (omega (arith, c)) in
    let some : 0 < w * (a * w) = pos w (a * w) pw (omega (arith, c, pv)) in
    omega (arith, up, h, some)

falls : (method : Divisor) (a v y w : ℕ) → 0 < v → 0 < w → y * v ≤ (a + 1) * w → (y + 1) * v ≤ a * w → Rises method a v y w true true ↔ Claims method a v y w
falls Adams a v y w pv pw b c = (
  λ h. absurd (no_less w ((a + 1) * w - y * v) (a * w - (y + 1) * v) pw (omega (arith, b, c, pv, pw)) h),
  λ h. absurd (omega (arith, h, c, pv)),
)
falls Dean a v y w pv pw b c = (
  λ h. absurd (dean_falls a v y w ((a + 1) * w - y * v) (a * w - (y + 1) * v) pv (omega (arith, b)) (omega (arith, c)) h),
  λ h. absurd (dean_claims_fall a v y w pv c h),
)
falls Hill a v y w pv pw b c = (
  λ h. absurd (let some = pos w v pw pv in omega (arith, h, some)),
  λ h. absurd (hill_claims_fall a v y w pv pw c h),
)
falls Webster a v y w pv pw b c = (
  λ h. absurd (no_less (v * w) ((a + 1) * w - y * v) (a * w - (y + 1) * v) (pos v w pv pw) (omega (arith, b, c, pv, pw)) h),
  λ h. absurd (omega (arith, h, c, pv)),
)
falls Jefferson a v y w pv pw b c = (
  λ h. absurd (no_less v ((a + 1) * w - y * v) (a * w - (y + 1) * v) pv (omega (arith, b, c, pv, pw)) h),
  λ h. absurd (omega (arith, h, c, pw)),
)

-- ---- the other was better already: it is better yet

grown : (k d e : ℕ) → d ≤ e → d * k ≤ e * k
grown k d e le = let up : k * d ≤ k * e = mul-le-mul_left k le in omega (arith, up)

dean_rises : (a v y w d e : ℕ) → d + (a + 1) * w ≡ y * v → e + a * w ≡ (y + 1) * v → d * ((y + 1) * a) ≤ e * (y * (a + 1))
dean_rises a v y w d e hd he =
    let md : (d + (a + 1) * w) * ((y + 1) * a) ≡ y * v * ((y + 1) * a) = λ i. hd i * ((y + 1) * a) in
    let me : (e + a * w) * (y * (a + 1)) ≡ (y + 1) * v * (y * (a + 1)) = λ i. he i * (y * (a + 1)) in
    omega (arith, md, me)

dean_claims_rise : (a v y w : ℕ) → (a + 1) * w < y * v → w * (2 * y + 1) * (2 * a * (a + 1)) ≤ v * (2 * a + 1) * (2 * y * (y + 1))
dean_claims_rise a v y w b =
    let up : a * (2 * y + 1) * ((a + 1) * w) ≤ a * (2 * y + 1) * (y * v) = mul-le-mul_left (a * (2 * y + 1)) (omega (arith, b)) in
    omega (arith, up)

hill_claims_rise : (a v y w : ℕ) → (a + 1) * w < y * v → w * w * (a * (a + 1)) ≤ v * v * (y * (y + 1))
hill_claims_rise a v y w b =
    let up : (a + 1) * w * (a * w) ≤ (y + 1) * v * (y * v) = mul-le ((a + 1) * w) (a * w) ((y + 1) * v) (y * v) (omega (arith, b)) (omega (arith, b)) in
    omega (arith, up)

rises : (method : Divisor) (a v y w : ℕ) → (a + 1) * w < y * v → Rises method a v y w false false × Claims method a v y w
rises Adams a v y w b = (grown v (y * v - (a + 1) * w) ((y + 1) * v - a * w) (omega (arith, b)), omega (arith, b))
rises Dean a v y w b = (dean_rises a v y w (y * v - (a + 1) * w) ((y + 1) * v - a * w) (omega (arith, b)) (omega (arith, b)), dean_claims_rise a v y w b)
rises Hill a v y w b = (omega arith, hill_claims_rise a v y w b)
rises Webster a v y w b = (grown (w * v) (y * v - (a + 1) * w) ((y + 1) * v - a * w) (omega (arith, b)), omega (arith, b))
rises Jefferson a v y w b = (grown w (y * v - (a + 1) * w) ((y + 1) * v - a * w) (omega (arith, b)), omega (arith, b))

-- ---- all cases

same : (method : Divisor) (a v y w : ℕ) → 0 < v → 0 < w → (b c : Bool) → Says b (y * v) ((a + 1) * w) → Says c ((y + 1) * v) (a * w) → Rises method a v y w b c ↔ Claims method a v y w
same method a v y w pv pw true true h k = falls method a v y w pv pw h k
same method a v y w pv pw true false h k = turns method a v y w pv pw h k
same method a v y w pv pw false true h k = absurd (omega (arith, h, k))
same method a v y w pv pw false false h k = let r = rises method a v y w h in (λ x. r.1, λ x. r.0)

-- of x seats
moves : (method : Divisor) (x v y w : ℕ) → 0 < x → 0 < v → 0 < w →
    AtMost (inequality method x v y w) (inequality method (x - 1) v (y + 1) w) ↔ AtMost (quotient method w y) (quotient method v (x - 1))
moves method x v y w px pv pw =
    let e : x - 1 + 1 ≡ x = omega (arith, px) in
    subst (λ n. AtMost (inequality method n v y w) (inequality method (x - 1) v (y + 1) w) ↔ AtMost (quotient method w y) (quotient method v (x - 1))) e
    (same method (x - 1) v y w pv pw (nat_le (y * v) ((x - 1 + 1) * w)) (nat_le ((y + 1) * v) ((x - 1) * w)) (says (y * v) ((x - 1 + 1) * w)) (says ((y + 1) * v) ((x - 1) * w)))

pub huntingtons_tests : HuntingtonsTests
huntingtons_tests method v seats s long total out = (
  λ h i j ne fi fj some.
      let z = none_needed (length v) i in
      (moves method (get_or s i 0) (get_or v i 0) (get_or s j 0) (get_or v j 0) some fi fj).1 (h.min_max i j fi fj (omega (arith, z, some))),
  λ h. record {
    same_length = long;
    total = total;
    minima = λ i. let z = none_needed (length v) i in omega (arith, z);
    outside = λ i none. let z = none_needed (length v) i in let o = out i none in omega (arith, z, o);
    min_max = λ i j fi fj less.
        let some : 0 < get_or s i 0 = omega (arith, less) in
        elim (cases_eq i j) [
          | inl e ↦ subst (λ k. AtMost (quotient method (get_or v k 0) (get_or s k 0)) (quotient method (get_or v i 0) (get_or s i 0 - 1))) e
              (falls_weak method v i (get_or s i 0 - 1) (get_or s i 0) fi (omega arith))
          | inr ne ↦ (moves method (get_or s i 0) (get_or v i 0) (get_or s j 0) (get_or v j 0) some fi fj).0 (h i j ne fi fj some)
        ];
  },
)

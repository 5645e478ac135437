-- Jefferson's, Adams's and Hamilton's allocations against the share of an entry: inequalities of two entries, summed.
use Rattle.std.proofs.Common.{◌≡◌, ℕ, ◌+◌, ◌-◌, ◌*◌, ◌/◌, ◌<◌, ◌≤◌, Bool, true, false, List, length, get_or, map, sum, cond, inl, inr, arith, sym, subst}
use Rattle.std.specs.Prelude.{◌&&◌, nat_lt, nat_le}
use Rattle.std.proofs.Math.Nat.{mul-le-mul_left, div-add-mod'}
use Rattle.std.proofs.lemmas.Bool.{cases_lt, cases_Bool, and_parts, ltb-true, leb-true, true≢false}
use Rattle.std.proofs.lemmas.List.{length-map}
use Rattle.sl_base_quotients.specs.declared.method.Divisor.TheVariants.{Adams, Jefferson}
use Rattle.sl_base_quotients.specs.Quotient.{AtMost}
use Rattle.sl_law_meaning.specs.methods.Field.{InField, no_minima}
use Rattle.sl_law_meaning.specs.methods.Allocations.{IsDivisorAllocation}
use Rattle.sl_law_meaning.specs.methods.Hamilton.{whole, remainder, is_leading, IsHamiltonAllocation}
use Rattle.sl_law_meaning.proofs.methods.SeatSums.{entry_le_sum, none_needed}
use Rattle.sl_law_meaning.proofs.methods.DivisorProofs.{in_range}
use Rattle.sl_law_meaning.proofs.methods.HamiltonProofs.{at_map, zero_div}
use Rattle.sl_law_fairness.specs.Quota.{raised_whole, JeffersonLowerQuota, AdamsUpperQuota, HamiltonInQuota}
use Rattle.sl_law_fairness.proofs.Chains.{in_field}
use Rattle.sl_law_meaning.proofs.methods.HamiltonProofs.{sum_times, whole_low}
use Rattle.sl_law_fairness.proofs.Sums.{sum_gap, whole_greatest, times_none}

-- inequalities of products entry by entry, summed, with a gap at i
pub summed : (a b : ℕ) (xs ys : List ℕ) (i gap : ℕ) → i < length xs → ((j : ℕ) → a * get_or xs j 0 ≤ b * get_or ys j 0) →
    a * get_or xs i 0 + gap ≤ b * get_or ys i 0 → a * sum xs + gap ≤ b * sum ys
summed a b xs ys i gap within weak wide =
    let L = map (λ x. a * x) xs in
    let R = map (λ y. b * y) ys in
    let atL : (j : ℕ) → get_or L j 0 ≡ a * get_or xs j 0 = at_map (λ x. a * x) (omega arith) xs in
    let atR : (j : ℕ) → get_or R j 0 ≡ b * get_or ys j 0 = at_map (λ y. b * y) (omega arith) ys in
    let same = length-map xs (λ x. a * x) in
    let l : i < length L = omega (arith, same) in
    let each : (j : ℕ) → get_or L j 0 ≤ get_or R j 0 = λ j. let x = atL j in let y = atR j in let le = weak j in omega (arith, x, y, le) in
    let here : get_or L i 0 + gap ≤ get_or R i 0 = let x = atL i in let y = atR i in omega (arith, x, y, wide) in
    let all = sum_gap L R i gap l each here in
    let eL = sum_times a xs in
    let eR = sum_times b ys in
    omega (arith, all, eL, eR)

-- who has a whole part has votes
has_share : (v : List ℕ) (seats i : ℕ) → 0 < whole v seats i → InField v i
has_share v seats i some =
    elim (cases_lt 0 (get_or v i 0)) [
      | inl f ↦ f
      | inr g ↦ absurd (let z : get_or v i 0 ≡ 0 = omega arith in let none : seats * get_or v i 0 / sum v ≡ 0 = rw z (no_share seats (sum v)) in omega (arith, none, some))
    ] where
      no_share : (n d : ℕ) → n * 0 / d ≡ 0
      no_share n d = let z : n * 0 ≡ 0 = omega arith in rw z (zero_div d)

module _ (v : List ℕ) (seats : ℕ) (s : List ℕ) (h : IsDivisorAllocation Jefferson v (no_minima v) seats s) (i : ℕ) (fi : InField v i) where
  -- v_i s_j ≤ v_j (s_i + 1)
  jefferson_pair : (j : ℕ) → get_or v i 0 * get_or s j 0 ≤ (get_or s i 0 + 1) * get_or v j 0
  jefferson_pair j =
      elim (cases_lt 0 (get_or s j 0)) [
        | inr g ↦ times_none (get_or v i 0) (get_or s j 0) ((get_or s i 0 + 1) * get_or v j 0) g
        | inl pos ↦
            (let z = none_needed (length v) j in
            let less : get_or (no_minima v) j 0 < get_or s j 0 = omega (arith, z, pos) in
            let fj = in_field Jefferson v (no_minima v) seats s h j less in
            let fair : get_or v i 0 * (get_or s j 0 - 1 + 1) ≤ get_or v j 0 * (get_or s i 0 + 1) = h.min_max j i fj fi less in
            let e : get_or s j 0 - 1 + 1 ≡ get_or s j 0 = omega arith in
            let fair' = subst (λ n. get_or v i 0 * n ≤ get_or v j 0 * (get_or s i 0 + 1)) e fair in
            omega (arith, fair'))
      ]

  -- v_i (S + 1) ≤ V (s_i + 1)
  pub jefferson_bound : get_or v i 0 * (seats + 1) ≤ sum v * (get_or s i 0 + 1)
  jefferson_bound =
      let l = in_range v i fi in
      let all = summed (get_or v i 0) (get_or s i 0 + 1) s v i (get_or v i 0) (omega (arith, l, h.same_length)) jefferson_pair (omega arith) in
      let all' = subst (λ n. get_or v i 0 * n + get_or v i 0 ≤ (get_or s i 0 + 1) * sum v) h.total all in
      omega (arith, all')

pub jefferson_lower_quota : JeffersonLowerQuota
jefferson_lower_quota v seats s h i =
    elim (cases_lt (get_or s i 0) (whole v seats i)) [
      | inr g ↦ g
      | inl less ↦ absurd (
          let fi : InField v i = has_share v seats i (omega (arith, less)) in
          let bound = jefferson_bound v seats s h i fi in
          let low = whole_low (seats * get_or v i 0) (sum v) in
          let up : sum v * (get_or s i 0 + 1) ≤ sum v * (seats * get_or v i 0 / sum v) = mul-le-mul_left (sum v) (omega arith) in
          omega (arith, bound, low, up, fi))
    ]

module _ (v : List ℕ) (seats : ℕ) (s : List ℕ) (h : IsDivisorAllocation Adams v (no_minima v) seats s) (i : ℕ) (fi : InField v i)
    (k : ℕ) (e : get_or s i 0 ≡ k + 1) where
  -- v_j (s_i - 1) ≤ v_i s_j
  adams_pair : (j : ℕ) → k * get_or v j 0 ≤ get_or v i 0 * get_or s j 0
  adams_pair j =
      elim (cases_lt 0 (get_or v j 0)) [
        | inr g ↦ times_none k (get_or v j 0) (get_or v i 0 * get_or s j 0) g
        | inl fj ↦
            (let z = none_needed (length v) i in
            let fair : get_or v j 0 * (get_or s i 0 - 1) ≤ get_or v i 0 * get_or s j 0 = h.min_max i j fi fj (omega (arith, z, e)) in
            let e' : get_or s i 0 - 1 ≡ k = omega (arith, e) in
            let fair' = subst (λ n. get_or v j 0 * n ≤ get_or v i 0 * get_or s j 0) e' fair in
            omega (arith, fair'))
      ]

  adams_bound : k * sum v + get_or v i 0 ≤ get_or v i 0 * seats
  adams_bound =
      let here = subst (λ n. k * get_or v i 0 + get_or v i 0 ≤ get_or v i 0 * n) (sym e) (omega arith) in
      let all = summed k (get_or v i 0) v s i (get_or v i 0) (in_range v i fi) adams_pair here in
      subst (λ n. k * sum v + get_or v i 0 ≤ get_or v i 0 * n) h.total all

pub adams_upper_quota : AdamsUpperQuota
adams_upper_quota v seats s h i =
    elim (cases_lt 0 (get_or s i 0)) [
      | inr g ↦ (let z : get_or s i 0 ≡ 0 = omega arith in subst (λ n. n ≤ raised_whole v seats i) (sym z) (omega arith))
      | inl some ↦ (let z = none_needed (length v) i in by_one (get_or s i 0 - 1) (omega arith) (in_field Adams v (no_minima v) seats s h i (omega (arith, z, some))))
    ] where
      by_one : (k : ℕ) → get_or s i 0 ≡ k + 1 → InField v i → get_or s i 0 ≤ raised_whole v seats i
      by_one k e fi =
          let bound = adams_bound v seats s h i fi k e in
          let le = entry_le_sum v i in
          let pos : 0 < sum v = omega (arith, le, fi) in
          subst (λ n. n ≤ raised_whole v seats i) (sym e)
          (whole_greatest (seats * get_or v i 0 + (sum v - 1)) (sum v) (k + 1) pos (omega (arith, bound, pos, fi)))

-- an entry that is raised without a remainder ranks no higher than any, unless it leads
ranked : (b c : Bool) (r q : ℕ) → c ≡ false → q ≤ 0 →
    AtMost (cond b (record { num = 1; den = 0 }) (record { num = r + 1; den = 1 })) (cond c (record { num = 1; den = 0 }) (record { num = q + 1; den = 1 })) →
    r ≡ 0
ranked true true r q e z h = absurd (true≢false e)
ranked false true r q e z h = absurd (true≢false e)
ranked true false r q e z h = absurd (let l : 1 * 1 ≤ (q + 1) * 0 = h in omega (arith, l))
ranked false false r q e z h = let l : (r + 1) * 1 ≤ (q + 1) * 1 = h in omega (arith, l)

module _ (prefer : Bool) (v : List ℕ) (seats : ℕ) (s : List ℕ) (h : IsHamiltonAllocation prefer v seats s) (i : ℕ) (fi : InField v i) where
  pos : 0 < sum v
  pos = let le = entry_le_sum v i in omega (arith, le, fi)

  -- a share by its whole part and its remainder
  share : (j : ℕ) → sum v * whole v seats j + remainder v seats j ≡ seats * get_or v j 0
  share j = let parts = div-add-mod' (seats * get_or v j 0) (sum v) in omega (arith, parts)

  small : (j : ℕ) → remainder v seats j < sum v
  small j = let p = pos in omega (arith, p)

  module _ (raised : get_or s i 0 ≡ whole v seats i + 1) (exact : remainder v seats i ≤ 0) where
    -- more than half of the votes would have more than half of the seats
    not_leading : (is_leading v seats i ≡ true) → ⊥
    not_leading lead =
        let parts = and_parts (nat_lt (sum v) (2 * get_or v i 0)) (nat_le (2 * whole v seats i) seats) lead in
        let more : sum v < 2 * get_or v i 0 = ltb-true (sum v) (2 * get_or v i 0) parts.0 in
        let half : 2 * whole v seats i ≤ seats = leb-true (2 * whole v seats i) seats parts.1 in
        let a : sum v * (2 * whole v seats i) ≤ sum v * seats = mul-le-mul_left (sum v) half in
        let b : seats * (sum v + 1) ≤ seats * (2 * get_or v i 0) = mul-le-mul_left seats (omega arith) in
        let c = share i in
        let le = entry_le_sum s i in
        omega (arith, a, b, c, exact, le, raised, h.total)

    not_preferred : (prefer && is_leading v seats i) ≡ false
    not_preferred =
        elim (cases_Bool (prefer && is_leading v seats i)) [
          | inr no' ↦ no'
          | inl yes' ↦ absurd (not_leading (and_parts prefer (is_leading v seats i) yes').1)
        ]

    -- so none has less than its share
    served : (j : ℕ) → seats * get_or v j 0 ≤ sum v * get_or s j 0
    served j =
        elim (cases_lt 0 (get_or v j 0)) [
          | inr g ↦ times_none seats (get_or v j 0) (sum v * get_or s j 0) g
          | inl fj ↦ elim (h.shares j fj) [
            | inr e ↦ subst (λ n. seats * get_or v j 0 ≤ sum v * n) (sym e) (let c = share j in let l = small j in omega (arith, c, l))
            | inl e ↦
                (let none = ranked (prefer && is_leading v seats j) (prefer && is_leading v seats i) (remainder v seats j) (remainder v seats i)
                not_preferred exact (h.largest i j fi fj raised e) in
                subst (λ n. seats * get_or v j 0 ≤ sum v * n) (sym e) (let c = share j in omega (arith, c, none)))
          ]
        ]

    too_many : ⊥
    too_many =
        let here : seats * get_or v i 0 + sum v ≤ sum v * get_or s i 0 =
        subst (λ n. seats * get_or v i 0 + sum v ≤ sum v * n) (sym raised) (let c = share i in omega (arith, c, exact)) in
        let all = summed seats (sum v) v s i (sum v) (in_range v i fi) served here in
        let all' = subst (λ n. seats * sum v + sum v ≤ sum v * n) h.total all in
        let p = pos in
        omega (arith, all', p)

  within_raised : get_or s i 0 ≤ raised_whole v seats i
  within_raised =
      let c = share i in
      let p = pos in
      elim (h.shares i fi) [
        | inl e ↦ subst (λ n. n ≤ raised_whole v seats i) (sym e)
            (whole_greatest (seats * get_or v i 0 + (sum v - 1)) (sum v) (whole v seats i) p (omega (arith, c)))
        | inr e ↦ elim (cases_lt 0 (remainder v seats i)) [
          | inr exact ↦ absurd (too_many e exact)
          | inl some ↦ subst (λ n. n ≤ raised_whole v seats i) (sym e)
              (whole_greatest (seats * get_or v i 0 + (sum v - 1)) (sum v) (whole v seats i + 1) p (omega (arith, c, some, p)))
        ]
      ]

pub hamilton_in_quota : HamiltonInQuota
hamilton_in_quota prefer v seats s h i = (
  elim (cases_lt (get_or s i 0) (whole v seats i)) [
    | inr g ↦ g
    | inl less ↦ elim (h.shares i (has_share v seats i (omega (arith, less)))) [ inl e ↦ absurd (omega (arith, e, less)) | inr e ↦ absurd (omega (arith, e, less)) ]
  ],
  elim (cases_lt 0 (get_or v i 0)) [
    | inl fi ↦ within_raised prefer v seats s h i fi
    | inr g ↦ (let z : get_or v i 0 ≡ 0 = omega arith in subst (λ n. n ≤ raised_whole v seats i) (sym (h.outside i z)) (omega arith))
  ],
)

-- Two entries that join: the quotients of a third one against both.
use Rattle.std.proofs.Common.{◌≡◌, ◌≢◌, ℕ, zero, suc, ◌+◌, ◌-◌, ◌*◌, ◌<◌, ◌≤◌, List, length, get_or, inl, inr, arith, refl, sym, subst}
use Rattle.std.proofs.Math.Nat.{mul-le-mul_left, le_of_mul-le-mul_right}
use Rattle.std.proofs.lemmas.Bool.{cases_lt}
use Rattle.sl_base_quotients.specs.declared.method.Divisor.TheVariants.{Adams, Jefferson}
use Rattle.sl_law_meaning.specs.methods.Field.{InField, no_minima}
use Rattle.sl_law_meaning.specs.methods.Allocations.{IsDivisorAllocation}
use Rattle.sl_law_meaning.specs.methods.Ties.{IsTied}
use Rattle.sl_law_meaning.proofs.methods.SeatSums.{some_greater, none_needed}
use Rattle.sl_law_meaning.proofs.methods.TieLaw.{below_length}
use Rattle.sl_law_fairness.specs.Joining.{Joins, JeffersonJoins, AdamsJoins}
use Rattle.sl_law_fairness.proofs.Chains.{in_field}
use Rattle.sl_law_fairness.proofs.Sums.{times_none}
use Rattle.sl_law_fairness.proofs.Moves.{IsMoved, moved, holder_tied, taker_tied}

-- the seats of both at i
pub both : (s : List ℕ) (i j : ℕ) → i ≢ j → (0 < get_or s j 0 → i < length s) →
    (t : List ℕ) × IsMoved s t i j × (get_or t i 0 ≡ get_or s i 0 + get_or s j 0) × (get_or t j 0 ≡ 0)
both s i j ne within =
    elim (cases_lt 0 (get_or s j 0)) [
      | inl some ↦ moved s i j (get_or s i 0 + get_or s j 0) 0 ne (within some) (below_length s j 0 some) (omega arith)
      | inr g ↦ (s, record { same_length = refl; same_sum = refl; others = λ k ni nj. refl }, omega arith, omega arith)
    ]

-- a product of which one factor is positive
same_factor : (c a b : ℕ) → 0 < c → c * a ≤ c * b → a ≤ b
same_factor c a b pos le = le_of_mul-le-mul_right {k = c} (omega arith) pos

-- what the chain of quotients of a third entry (c votes) against the joined one (a and b votes) leaves: equality
jefferson_chain : (a b c x y n d e : ℕ) → 0 < c → c * x ≤ a * d → c * y ≤ b * d → (a + b) * e ≤ c * (n + 1) → d ≤ e → n + 1 ≤ x + y →
    (x + y ≡ n + 1) × (c * (n + 1) ≤ (a + b) * e)
jefferson_chain a b c x y n d e pos one two three de nx =
    let p : (a + b) * d ≤ (a + b) * e = mul-le-mul_left (a + b) de in
    let q : c * (n + 1) ≤ c * (x + y) = mul-le-mul_left c nx in
    let r : c * (x + y) ≤ c * (n + 1) = omega (arith, p, one, two, three) in
    let le = same_factor c (x + y) (n + 1) pos r in
    (omega (arith, le, nx), omega (arith, p, q, one, two, three))

adams_chain : (a b c x y n d e : ℕ) → 0 < c → a * d ≤ c * x → b * d ≤ c * y → c * n ≤ (a + b) * e → e ≤ d → x + y ≤ n →
    (n ≡ x + y) × ((a + b) * e ≤ c * n)
adams_chain a b c x y n d e pos one two three de nx =
    let p : (a + b) * e ≤ (a + b) * d = mul-le-mul_left (a + b) de in
    let q : c * (x + y) ≤ c * n = mul-le-mul_left c nx in
    let r : c * n ≤ c * (x + y) = omega (arith, p, one, two, three) in
    let le = same_factor c n (x + y) pos r in
    (omega (arith, le, nx), omega (arith, p, q, one, two, three))

-- a third entry k that gained or lost when i and j joined
module _ (v w : List ℕ) (i j : ℕ) (join : Joins v w i j) (seats : ℕ) (s t : List ℕ) where
  module _ (hs : IsDivisorAllocation Jefferson v (no_minima v) seats s) (ht : IsDivisorAllocation Jefferson w (no_minima w) seats t) where
    within_j : 0 < get_or s j 0 → i < length s
    within_j some =
        let fj = in_field Jefferson v (no_minima v) seats s hs j (let z = none_needed (length v) j in omega (arith, z, some)) in
        let l = below_length w i 0 (omega (arith, join.joined, fj)) in
        omega (arith, l, join.same_length, hs.same_length)

    -- c s_p ≤ v_p d, for the third's votes c and its next divisor d
    against : (k p : ℕ) → InField v k → get_or v k 0 * get_or s p 0 ≤ get_or v p 0 * (get_or s k 0 + 1)
    against k p fk =
        elim (cases_lt 0 (get_or s p 0)) [
          | inr g ↦ times_none (get_or v k 0) (get_or s p 0) (get_or v p 0 * (get_or s k 0 + 1)) g
          | inl some ↦
              (let z = none_needed (length v) p in
              let less : get_or (no_minima v) p 0 < get_or s p 0 = omega (arith, z, some) in
              let fp = in_field Jefferson v (no_minima v) seats s hs p less in
              let fair : get_or v k 0 * (get_or s p 0 - 1 + 1) ≤ get_or v p 0 * (get_or s k 0 + 1) = hs.min_max p k fp fk less in
              let e : get_or s p 0 - 1 + 1 ≡ get_or s p 0 = omega arith in
              subst (λ n. get_or v k 0 * n ≤ get_or v p 0 * (get_or s k 0 + 1)) e fair)
        ]

    jefferson_third : (k : ℕ) → k ≢ i → k ≢ j → get_or s k 0 < get_or t k 0 → get_or t i 0 < get_or s i 0 + get_or s j 0 →
        (get_or s i 0 + get_or s j 0 ≡ get_or t i 0 + 1) × IsTied (IsDivisorAllocation Jefferson w (no_minima w) seats) i
    jefferson_third k ni nj more less =
        let z = none_needed (length w) k in
        let above : get_or (no_minima w) k 0 < get_or t k 0 = omega (arith, z, more) in
        let wk = in_field Jefferson w (no_minima w) seats t ht k above in
        let same = join.others k ni nj in
        let vk : InField v k = omega (arith, wk, same) in
        let a = against k i vk in
        let b = against k j vk in
        let wi : InField w i = some_votes less in
        let fair : get_or w i 0 * (get_or t k 0 - 1 + 1) ≤ get_or w k 0 * (get_or t i 0 + 1) = ht.min_max k i wk wi above in
        let e : get_or t k 0 - 1 + 1 ≡ get_or t k 0 = omega (arith, more) in
        let f1 = subst (λ n. get_or w i 0 * n ≤ get_or w k 0 * (get_or t i 0 + 1)) e fair in
        let f2 = subst (λ n. n * get_or t k 0 ≤ get_or w k 0 * (get_or t i 0 + 1)) join.joined f1 in
        let f3 = subst (λ n. (get_or v i 0 + get_or v j 0) * get_or t k 0 ≤ n * (get_or t i 0 + 1)) same f2 in
        let both' = jefferson_chain (get_or v i 0) (get_or v j 0) (get_or v k 0) (get_or s i 0) (get_or s j 0) (get_or t i 0) (get_or s k 0 + 1) (get_or t k 0)
        vk a b f3 (omega (arith, more)) (omega (arith, less)) in
        let g1 = subst (λ n. n * (get_or t i 0 + 1) ≤ (get_or v i 0 + get_or v j 0) * get_or t k 0) (sym same) both'.1 in
        let g2 = subst (λ n. get_or w k 0 * (get_or t i 0 + 1) ≤ n * get_or t k 0) (sym join.joined) g1 in
        let worth : get_or w k 0 * (get_or t i 0 + 1) ≤ get_or w i 0 * (get_or t k 0 - 1 + 1) = subst (λ n. get_or w k 0 * (get_or t i 0 + 1) ≤ get_or w i 0 * n) (sym e) g2 in
        (both'.0, taker_tied Jefferson w (no_minima w) seats t ht k i ni above wi worth) where
          -- who has a seat has votes
          some_votes : get_or t i 0 < get_or s i 0 + get_or s j 0 → InField w i
          some_votes l =
              let zi = none_needed (length v) i in
              let zj = none_needed (length v) j in
              elim (cases_lt 0 (get_or s i 0)) [
                | inl some ↦ (let f = in_field Jefferson v (no_minima v) seats s hs i (omega (arith, zi, some)) in omega (arith, join.joined, f))
                | inr none ↦ (let f = in_field Jefferson v (no_minima v) seats s hs j (omega (arith, zj, none, l)) in omega (arith, join.joined, f))
              ]

  module _ (hs : IsDivisorAllocation Adams v (no_minima v) seats s) (ht : IsDivisorAllocation Adams w (no_minima w) seats t) where
    -- v_p (s_k - 1) ≤ c s_p, for the third's votes c
    adams_against : (k p : ℕ) → InField v k → 0 < get_or s k 0 → get_or v p 0 * (get_or s k 0 - 1) ≤ get_or v k 0 * get_or s p 0
    adams_against k p fk some =
        elim (cases_lt 0 (get_or v p 0)) [
          | inl fp ↦ (let z = none_needed (length v) k in hs.min_max k p fk fp (omega (arith, z, some)))
          | inr g ↦ no_votes (get_or v p 0) (get_or s k 0 - 1) (get_or v k 0 * get_or s p 0) g
        ] where
          no_votes : (x d b : ℕ) → x ≤ 0 → x * d ≤ b
          no_votes zero d b le = omega arith
          no_votes (suc x) d b le = absurd (omega arith)

    adams_third : (k : ℕ) → k ≢ i → k ≢ j → get_or t k 0 < get_or s k 0 → get_or s i 0 + get_or s j 0 < get_or t i 0 →
        (get_or t i 0 ≡ get_or s i 0 + get_or s j 0 + 1) × IsTied (IsDivisorAllocation Adams w (no_minima w) seats) i
    adams_third k ni nj less more =
        let zk = none_needed (length v) k in
        let zi = none_needed (length w) i in
        let vk = in_field Adams v (no_minima v) seats s hs k (omega (arith, zk, less)) in
        let same = join.others k ni nj in
        let wk : InField w k = omega (arith, vk, same) in
        let above : get_or (no_minima w) i 0 < get_or t i 0 = omega (arith, zi, more) in
        let wi = in_field Adams w (no_minima w) seats t ht i above in
        let a = adams_against k i vk (omega (arith, less)) in
        let b = adams_against k j vk (omega (arith, less)) in
        let fair : get_or w k 0 * (get_or t i 0 - 1) ≤ get_or w i 0 * get_or t k 0 = ht.min_max i k wi wk above in
        let f1 = subst (λ n. get_or w k 0 * (get_or t i 0 - 1) ≤ n * get_or t k 0) join.joined fair in
        let f2 = subst (λ n. n * (get_or t i 0 - 1) ≤ (get_or v i 0 + get_or v j 0) * get_or t k 0) same f1 in
        let both' = adams_chain (get_or v i 0) (get_or v j 0) (get_or v k 0) (get_or s i 0) (get_or s j 0) (get_or t i 0 - 1) (get_or s k 0 - 1) (get_or t k 0)
        vk a b f2 (omega (arith, less)) (omega (arith, more)) in
        let g1 = subst (λ n. (get_or v i 0 + get_or v j 0) * get_or t k 0 ≤ n * (get_or t i 0 - 1)) (sym same) both'.1 in
        let worth = subst (λ n. n * get_or t k 0 ≤ get_or w k 0 * (get_or t i 0 - 1)) (sym join.joined) g1 in
        let e = both'.0 in
        (omega (arith, e, more), holder_tied Adams w (no_minima w) seats t ht i k (λ h. ni (sym h)) above wk worth)

-- the third entry, by the sums
pub jefferson_joins : JeffersonJoins
jefferson_joins v w i j join seats s t hs ht =
    elim (cases_lt (get_or t i 0) (get_or s i 0 + get_or s j 0)) [
      | inr g ↦ inl g
      | inl less ↦
          (let b = both s i j join.apart (within_j v w i j join seats s t hs ht) in
          let s' = b.0 in
          let at_i = b.2 in
          let at_j = b.3 in
          let sums = b.1.same_sum in
          let found = some_greater s' t i (omega (arith, sums, hs.total, ht.total)) (omega (arith, at_i, less)) in
          let k = found.0 in
          let more : get_or s' k 0 < get_or t k 0 = found.1 in
          let none = ht.outside j join.emptied in
          let z = none_needed (length w) j in
          let ni : k ≢ i = λ e. let more' = subst (λ x. get_or s' x 0 < get_or t x 0) e more in omega (arith, more', at_i, less) in
          let nj : k ≢ j = λ e. let more' = subst (λ x. get_or s' x 0 < get_or t x 0) e more in omega (arith, more', none, z) in
          let same = b.1.others k ni nj in
          inr (jefferson_third v w i j join seats s t hs ht k ni nj (omega (arith, more, same)) less))
    ]

pub adams_joins : AdamsJoins
adams_joins v w i j join seats s t hs ht =
    elim (cases_lt (get_or s i 0 + get_or s j 0) (get_or t i 0)) [
      | inr g ↦ inl g
      | inl more ↦
          (let b = both s i j join.apart within in
          let s' = b.0 in
          let at_i = b.2 in
          let at_j = b.3 in
          let sums = b.1.same_sum in
          let found = some_greater t s' i (omega (arith, sums, hs.total, ht.total)) (omega (arith, at_i, more)) in
          let k = found.0 in
          let less : get_or t k 0 < get_or s' k 0 = found.1 in
          let ni : k ≢ i = λ e. let less' = subst (λ x. get_or t x 0 < get_or s' x 0) e less in omega (arith, less', at_i, more) in
          let nj : k ≢ j = λ e. let less' = subst (λ x. get_or t x 0 < get_or s' x 0) e less in omega (arith, less', at_j) in
          let same = b.1.others k ni nj in
          inr (adams_third v w i j join seats s t hs ht k ni nj (omega (arith, less, same)) more))
    ] where
      within : 0 < get_or s j 0 → i < length s
      within some =
          let z = none_needed (length v) j in
          let fj = in_field Adams v (no_minima v) seats s hs j (omega (arith, z, some)) in
          let l = below_length w i 0 (omega (arith, join.joined, fj)) in
          omega (arith, l, join.same_length, hs.same_length)

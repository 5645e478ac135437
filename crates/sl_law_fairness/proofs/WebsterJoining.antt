-- Two entries that join under Webster: the quotients of a third one against both leave one seat.
use Rattle.std.proofs.Common.{◌≡◌, ◌≢◌, ℕ, zero, suc, ◌+◌, ◌-◌, ◌*◌, ◌<◌, ◌≤◌, List, length, get_or, inl, inr, arith, subst}
use Rattle.std.proofs.Math.Nat.{mul-le-mul_left, le_of_mul-le-mul_right}
use Rattle.std.proofs.lemmas.Bool.{cases_lt}
use Rattle.sl_base_quotients.specs.declared.method.Divisor.TheVariants.{Webster}
use Rattle.sl_law_meaning.specs.methods.Field.{InField, no_minima}
use Rattle.sl_law_meaning.specs.methods.Allocations.{IsDivisorAllocation}
use Rattle.sl_law_meaning.proofs.methods.SeatSums.{some_greater, none_needed}
use Rattle.sl_law_meaning.proofs.methods.TieLaw.{below_length}
use Rattle.sl_law_fairness.specs.Joining.{Joins, WebsterJoins}
use Rattle.sl_law_fairness.proofs.Chains.{in_field}
use Rattle.sl_law_fairness.proofs.Joining.{both}

-- c 2x ≤ a d + c and c 2y ≤ b d + c and (a + b) e ≤ c (2 n + 1) and d ≤ e: x + y ≤ n + 1
low_chain : (a b c x y n d e : ℕ) → 0 < c → c * (2 * x) ≤ a * d + c → c * (2 * y) ≤ b * d + c → (a + b) * e ≤ c * (2 * n + 1) → d ≤ e →
    x + y ≤ n + 1
low_chain a b c x y n d e pos one two three de =
    let p : (a + b) * d ≤ (a + b) * e = mul-le-mul_left (a + b) de in
    let q : 2 * (x + y) * c ≤ (2 * n + 3) * c = omega (arith, p, one, two, three) in
    let r : 2 * (x + y) ≤ 2 * n + 3 = le_of_mul-le-mul_right {k = c} q pos in
    omega (arith, r)

high_chain : (a b c x y n d e : ℕ) → 0 < c → a * d ≤ c * (2 * x + 1) → b * d ≤ c * (2 * y + 1) → c * (2 * n) ≤ (a + b) * e + c → e ≤ d →
    n ≤ x + y + 1
high_chain a b c x y n d e pos one two three de =
    let p : (a + b) * e ≤ (a + b) * d = mul-le-mul_left (a + b) de in
    let q : 2 * n * c ≤ (2 * (x + y) + 3) * c = omega (arith, p, one, two, three) in
    let r : 2 * n ≤ 2 * (x + y) + 3 = le_of_mul-le-mul_right {k = c} q pos in
    omega (arith, r)

-- an inequality of quotients: the next one of a third entry (c votes, z seats) against the last one of p (a votes, x seats)
last_parts : (c z a x : ℕ) → 0 < x → 2 * c * (2 * (x - 1) + 1) ≤ 2 * a * (2 * z + 1) → c * (2 * x) ≤ a * (2 * z + 1) + c
last_parts c z a zero pos h = absurd (omega arith)
last_parts c z a (suc x) pos h = let e : suc x - 1 ≡ x = omega arith in let h' = subst (λ n. 2 * c * (2 * n + 1) ≤ 2 * a * (2 * z + 1)) e h in omega (arith, h')

no_seats : (c x b : ℕ) → x ≤ 0 → c * (2 * x) ≤ b
no_seats c zero b h = omega arith
no_seats c (suc x) b h = absurd (omega arith)

no_votes : (a d b : ℕ) → a ≤ 0 → a * d ≤ b
no_votes zero d b h = omega arith
no_votes (suc a) d b h = absurd (omega arith)

halved : (a d c x : ℕ) → 2 * a * d ≤ 2 * c * x → a * d ≤ c * x
halved a d c x h = omega (arith, h)

module _ (v w : List ℕ) (i j : ℕ) (join : Joins v w i j) (seats : ℕ) (s t : List ℕ)
    (hs : IsDivisorAllocation Webster v (no_minima v) seats s) (ht : IsDivisorAllocation Webster w (no_minima w) seats t) where
  within_j : 0 < get_or s j 0 → i < length s
  within_j some =
      let z = none_needed (length v) j in
      let fj = in_field Webster v (no_minima v) seats s hs j (omega (arith, z, some)) in
      let l = below_length w i 0 (omega (arith, join.joined, fj)) in
      omega (arith, l, join.same_length, hs.same_length)

  -- the third's next against a last one, in s
  against : (k p : ℕ) → InField v k → get_or v k 0 * (2 * get_or s p 0) ≤ get_or v p 0 * (2 * get_or s k 0 + 1) + get_or v k 0
  against k p fk =
      elim (cases_lt 0 (get_or s p 0)) [
        | inr g ↦ no_seats (get_or v k 0) (get_or s p 0) (get_or v p 0 * (2 * get_or s k 0 + 1) + get_or v k 0) g
        | inl some ↦
            (let z = none_needed (length v) p in
            let less : get_or (no_minima v) p 0 < get_or s p 0 = omega (arith, z, some) in
            let fp = in_field Webster v (no_minima v) seats s hs p less in
            last_parts (get_or v k 0) (get_or s k 0) (get_or v p 0) (get_or s p 0) some (hs.min_max p k fp fk less))
      ]

  -- a next one against the third's last, in s
  against_last : (k p : ℕ) → InField v k → 0 < get_or s k 0 → get_or v p 0 * (2 * (get_or s k 0 - 1) + 1) ≤ get_or v k 0 * (2 * get_or s p 0 + 1)
  against_last k p fk some =
      elim (cases_lt 0 (get_or v p 0)) [
        | inr g ↦ no_votes (get_or v p 0) (2 * (get_or s k 0 - 1) + 1) (get_or v k 0 * (2 * get_or s p 0 + 1)) g
        | inl fp ↦ (let z = none_needed (length v) k in
            halved (get_or v p 0) (2 * (get_or s k 0 - 1) + 1) (get_or v k 0) (2 * get_or s p 0 + 1) (hs.min_max k p fk fp (omega (arith, z, some))))
      ]

  gained : (k : ℕ) → k ≢ i → k ≢ j → get_or s k 0 < get_or t k 0 → InField w i → get_or s i 0 + get_or s j 0 ≤ get_or t i 0 + 1
  gained k ni nj more wi =
      let z = none_needed (length w) k in
      let above : get_or (no_minima w) k 0 < get_or t k 0 = omega (arith, z, more) in
      let wk = in_field Webster w (no_minima w) seats t ht k above in
      let same = join.others k ni nj in
      let vk : InField v k = omega (arith, wk, same) in
      let fair = halved (get_or w i 0) (2 * (get_or t k 0 - 1) + 1) (get_or w k 0) (2 * get_or t i 0 + 1) (ht.min_max k i wk wi above) in
      let f2 = subst (λ n. n * (2 * (get_or t k 0 - 1) + 1) ≤ get_or w k 0 * (2 * get_or t i 0 + 1)) join.joined fair in
      let f3 = subst (λ n. (get_or v i 0 + get_or v j 0) * (2 * (get_or t k 0 - 1) + 1) ≤ n * (2 * get_or t i 0 + 1)) same f2 in
      low_chain (get_or v i 0) (get_or v j 0) (get_or v k 0) (get_or s i 0) (get_or s j 0) (get_or t i 0) (2 * get_or s k 0 + 1) (2 * (get_or t k 0 - 1) + 1)
      vk (against k i vk) (against k j vk) f3 (omega (arith, more))

  lost : (k : ℕ) → k ≢ i → k ≢ j → get_or t k 0 < get_or s k 0 → 0 < get_or t i 0 → get_or t i 0 ≤ get_or s i 0 + get_or s j 0 + 1
  lost k ni nj less some =
      let zk = none_needed (length v) k in
      let zi = none_needed (length w) i in
      let vk = in_field Webster v (no_minima v) seats s hs k (omega (arith, zk, less)) in
      let same = join.others k ni nj in
      let wk : InField w k = omega (arith, vk, same) in
      let above : get_or (no_minima w) i 0 < get_or t i 0 = omega (arith, zi, some) in
      let wi = in_field Webster w (no_minima w) seats t ht i above in
      let fair = last_parts (get_or w k 0) (get_or t k 0) (get_or w i 0) (get_or t i 0) some (ht.min_max i k wi wk above) in
      let f1 = subst (λ n. get_or w k 0 * (2 * get_or t i 0) ≤ n * (2 * get_or t k 0 + 1) + get_or w k 0) join.joined fair in
      let f2 = subst (λ n. n * (2 * get_or t i 0) ≤ (get_or v i 0 + get_or v j 0) * (2 * get_or t k 0 + 1) + n) same f1 in
      high_chain (get_or v i 0) (get_or v j 0) (get_or v k 0) (get_or s i 0) (get_or s j 0) (get_or t i 0) (2 * (get_or s k 0 - 1) + 1) (2 * get_or t k 0 + 1)
      vk (against_last k i vk (omega (arith, less))) (against_last k j vk (omega (arith, less))) f2 (omega (arith, less))

  -- who has a seat has votes
  some_votes : 0 < get_or s i 0 + get_or s j 0 → InField w i
  some_votes l =
      let zi = none_needed (length v) i in
      let zj = none_needed (length v) j in
      elim (cases_lt 0 (get_or s i 0)) [
        | inl some ↦ (let f = in_field Webster v (no_minima v) seats s hs i (omega (arith, zi, some)) in omega (arith, join.joined, f))
        | inr none ↦ (let f = in_field Webster v (no_minima v) seats s hs j (omega (arith, zj, none, l)) in omega (arith, join.joined, f))
      ]

  no_fewer : get_or s i 0 + get_or s j 0 ≤ get_or t i 0 + 1
  no_fewer =
      elim (cases_lt (get_or t i 0) (get_or s i 0 + get_or s j 0)) [
        | inr g ↦ omega (arith, g)
        | inl less ↦
            (let b = both s i j join.apart within_j in
            let s' = b.0 in
            let at_i = b.2 in
            let sums = b.1.same_sum in
            let found = some_greater s' t i (omega (arith, sums, hs.total, ht.total)) (omega (arith, at_i, less)) in
            let k = found.0 in
            let more : get_or s' k 0 < get_or t k 0 = found.1 in
            let none = ht.outside j join.emptied in
            let z = none_needed (length w) j in
            let ni : k ≢ i = λ e. let more' = subst (λ x. get_or s' x 0 < get_or t x 0) e more in omega (arith, more', at_i, less) in
            let nj : k ≢ j = λ e. let more' = subst (λ x. get_or s' x 0 < get_or t x 0) e more in omega (arith, more', none, z) in
            let same = b.1.others k ni nj in
            gained k ni nj (omega (arith, more, same)) (some_votes (omega (arith, less))))
      ]

  no_more : get_or t i 0 ≤ get_or s i 0 + get_or s j 0 + 1
  no_more =
      elim (cases_lt (get_or s i 0 + get_or s j 0) (get_or t i 0)) [
        | inr g ↦ omega (arith, g)
        | inl more ↦
            (let b = both s i j join.apart within_j in
            let s' = b.0 in
            let at_i = b.2 in
            let at_j = b.3 in
            let sums = b.1.same_sum in
            let found = some_greater t s' i (omega (arith, sums, hs.total, ht.total)) (omega (arith, at_i, more)) in
            let k = found.0 in
            let less : get_or t k 0 < get_or s' k 0 = found.1 in
            let ni : k ≢ i = λ e. let less' = subst (λ x. get_or t x 0 < get_or s' x 0) e less in omega (arith, less', at_i, more) in
            let nj : k ≢ j = λ e. let less' = subst (λ x. get_or t x 0 < get_or s' x 0) e less in omega (arith, less', at_j) in
            let same = b.1.others k ni nj in
            lost k ni nj (omega (arith, less, same)) (omega (arith, more)))
      ]

pub webster_joins : WebsterJoins
webster_joins v w i j join seats s t hs ht = (no_fewer v w i j join seats s t hs ht, no_more v w i j join seats s t hs ht)

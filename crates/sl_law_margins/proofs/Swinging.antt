-- When votes that go over win a seat: where the others cannot fill their seats by claims that are no smaller than the next one.
use Rattle.std.proofs.Common.{◌≡◌, ◌≢◌, ℕ, zero, suc, ◌+◌, ◌-◌, ◌<◌, ◌≤◌, Bool, true, false, List, ◌∷◌, length, get_or, set, sum, inl, inr, arith, sym, ◌∙◌, subst}
use Rattle.std.proofs.lemmas.Bool.{cases_lt, cases_eq}
use Rattle.std.proofs.lemmas.List.{length-set, get_or-set_same, get_or-set_other, get_or_past}
use Rattle.std.proofs.lemmas.List.Sums.{sum_by-set}
use Rattle.sl_base_quotients.specs.declared.method.Divisor.{Divisor}
use Rattle.sl_base_quotients.specs.Quotient.{AtMost, quotient}
use Rattle.sl_base_quotients.specs.inner.QuotientLaws.{quotient_positive}
use Rattle.sl_base_quotients.proofs.Order.{AtMost-trans, Below-AtMost}
use Rattle.sl_law_meaning.specs.methods.Field.{InField, no_minima}
use Rattle.sl_law_meaning.specs.methods.Allocations.{IsDivisorAllocation}
use Rattle.sl_law_meaning.proofs.methods.SeatSums.{some_greater, none_needed, sum-cons}
use Rattle.sl_law_meaning.proofs.methods.DivisorProofs.{in_range}
use Rattle.sl_law_fairness.proofs.Chains.{falls_weak, rises_weak, in_field}
use Rattle.sl_law_fairness.proofs.Moves.{other}
use Rattle.sl_law_margins.specs.MissingVotes.{IsAllocation}
use Rattle.sl_law_margins.specs.VotesToSpare.{with_fewer}
use Rattle.sl_law_margins.specs.Swings.{with_swing, IsAllocationBySwing, WinsASeat, MayWinNone}
use Rattle.sl_law_margins.specs.inner.Filled.{Fills, AreFilled}
use Rattle.sl_law_margins.proofs.Sparing.{some_allocation}

-- a greater sum has a greater number somewhere
more_somewhere : (u t : List ℕ) → sum u < sum t → (k : ℕ) × (get_or u k 0 < get_or t k 0)
more_somewhere u t less =
    let a = sum-cons 1 u in
    let b = sum-cons 0 t in
    let found = some_greater (1 ∷ u) (0 ∷ t) 0 (omega (arith, a, b, less)) (omega arith) in
    at found.0 found.1
  where
    at : (j : ℕ) → get_or (1 ∷ u) j 0 < get_or (0 ∷ t) j 0 → (k : ℕ) × (get_or u k 0 < get_or t k 0)
    at zero l = absurd (omega (arith, l))
    at (suc k) l = (k, l)

-- who has a number stands in the list
within_length : (u : List ℕ) (k a : ℕ) → a < get_or u k 0 → k < length u
within_length u k a l = elim (cases_lt k (length u)) [ inl less ↦ less | inr past ↦ absurd (let z = get_or_past u k 0 past in omega (arith, z, l)) ]

fewer_than : (v : List ℕ) (j x k : ℕ) → j < length v → get_or (with_fewer v j x) k 0 ≤ get_or v k 0
fewer_than v j x k lj =
    elim (cases_eq k j) [
      | inl e ↦ subst (λ n. get_or (with_fewer v j x) n 0 ≤ get_or v n 0) (sym e) (let a = get_or-set_same v j (get_or v j 0 - x) 0 lj in omega (arith, a))
      | inr out ↦ (let a = get_or-set_other v j k (get_or v j 0 - x) 0 out in omega (arith, a))
    ]

-- votes that read the same have the same allocations
same_votes : (method : Divisor) (v w m : List ℕ) (seats : ℕ) (s : List ℕ) → length w ≡ length v → ((k : ℕ) → get_or w k 0 ≡ get_or v k 0) →
    IsDivisorAllocation method v m seats s → IsDivisorAllocation method w m seats s
same_votes method v w m seats s long same h = record {
  same_length = h.same_length ∙ sym long;
  total = h.total;
  minima = h.minima;
  outside = λ k z. h.outside k (sym (same k) ∙ z);
  min_max = λ p q fp fq less.
      let a = same p in
      let b = same q in
      subst (λ n. AtMost (quotient method n (get_or s q 0)) (quotient method (get_or w p 0) (get_or s p 0 - 1))) (sym b)
      (subst (λ n. AtMost (quotient method (get_or v q 0) (get_or s q 0)) (quotient method n (get_or s p 0 - 1))) (sym a)
      (h.min_max p q (omega (arith, fp, a)) (omega (arith, fq, b)) less));
}

module _ (method : Divisor) (v s : List ℕ) (h : IsAllocation method v s) (j i : ℕ) (ne : j ≢ i) (lj : j < length v) (li : i < length v) where
  -- the votes after a swing
  long : (x : ℕ) → length (with_swing v j i x) ≡ length v
  long x = length-set (set v j (get_or v j 0 - x)) i (get_or v i 0 + x) ∙ length-set v j (get_or v j 0 - x)

  own : (x : ℕ) → get_or (with_swing v j i x) i 0 ≡ get_or v i 0 + x
  own x = let l = length-set v j (get_or v j 0 - x) in get_or-set_same (set v j (get_or v j 0 - x)) i (get_or v i 0 + x) 0 (omega (arith, l, li))

  rest : (x k : ℕ) → k ≢ i → get_or (with_swing v j i x) k 0 ≡ get_or (with_fewer v j x) k 0
  rest x k out = get_or-set_other (set v j (get_or v j 0 - x)) i k (get_or v i 0 + x) 0 out

  -- more votes moved, no more for the others
  fewer : (x y k : ℕ) → x ≤ y → get_or (with_fewer v j y) k 0 ≤ get_or (with_fewer v j x) k 0
  fewer x y k le =
      elim (cases_eq k j) [
        | inl e ↦ subst (λ n. get_or (with_fewer v j y) n 0 ≤ get_or (with_fewer v j x) n 0) (sym e)
            (let a = get_or-set_same v j (get_or v j 0 - x) 0 lj in let b = get_or-set_same v j (get_or v j 0 - y) 0 lj in omega (arith, a, b, le))
        | inr out ↦ (let a = get_or-set_other v j k (get_or v j 0 - x) 0 out in let b = get_or-set_other v j k (get_or v j 0 - y) 0 out in omega (arith, a, b))
      ]

  -- the others' seats
  without : List ℕ → List ℕ
  without t = set t i 0

  module _ (t : List ℕ) (lt : i < length t) where
    sum_without : sum (without t) + get_or t i 0 ≡ sum t
    unfolding without
    sum_without = let e : sum (set t i 0) + get_or t i 0 ≡ sum t + 0 = sum_by-set (λ n. n) t i 0 0 lt in omega (arith, e)

    none_own : get_or (without t) i 0 ≡ 0
    unfolding without
    none_own = get_or-set_same t i 0 0 lt

    same_others : (k : ℕ) → k ≢ i → get_or (without t) k 0 ≡ get_or t k 0
    unfolding without
    same_others k out = get_or-set_other t i k 0 0 out

  claims_rise : (x y : ℕ) → x ≤ y → AtMost (quotient method (get_or v i 0 + x) (get_or s i 0)) (quotient method (get_or v i 0 + y) (get_or s i 0))
  claims_rise x y le = rises_weak method (get_or v i 0 + x) (get_or v i 0 + y) (get_or s i 0) (omega (arith, le))

  -- ---- where seats are left, every allocation gives i more
  module _ (x left : ℕ) (u : List ℕ) (some : 0 < left) (fills : Fills method (with_fewer v j x) (quotient method (get_or v i 0 + x) (get_or s i 0)) i (length v) left u)
      (total : sum u + left + get_or s i 0 ≡ sum s) (pos : 0 < x) (y : ℕ) (le : x ≤ y) where
    module _ (t : List ℕ) (ht : IsAllocationBySwing method v s j i y t) (few : get_or t i 0 ≤ get_or s i 0) where
      lt : i < length t
      lt = let lw = long y in omega (arith, ht.same_length, lw, li)

      -- some other has more seats than it has claims
      found : (k : ℕ) × (get_or u k 0 < get_or (without t) k 0)
      found = let st = sum_without t lt in more_somewhere u (without t) (omega (arith, st, total, some, few, ht.total))

      no_such : ⊥
      no_such =
          let k = found.0 in
          let more : get_or u k 0 < get_or (without t) k 0 = found.1 in
          let out : k ≢ i = λ e. let more' = subst (λ n. get_or u n 0 < get_or (without t) n 0) e more in let z = none_own t lt in omega (arith, more', z) in
          let w = with_swing v j i y in
          let same = same_others t lt k out in
          let z = none_needed (length v) k in
          let over : get_or (no_minima v) k 0 < get_or t k 0 = omega (arith, z, same, more) in
          let wk : InField w k = in_field method w (no_minima v) (sum s) t ht k over in
          let e = rest y k out in
          let down = fewer x y k le in
          let fk : InField (with_fewer v j x) k = omega (arith, wk, e, down) in
          let vk : get_or (with_fewer v j x) k 0 ≤ get_or v k 0 = fewer_than v j x k lj in
          let inside : k < length v = in_range v k (omega (arith, fk, vk)) in
          let a = get_or u k 0 in
          let low = fills.all some k inside out fk in
          let o = own y in
          let wi : InField w i = omega (arith, o, pos, le) in
          let fair = ht.min_max k i wk wi over in
          let c = quotient method (get_or v i 0 + y) (get_or s i 0) in
          let first : AtMost (quotient method (get_or w i 0) (get_or s i 0)) (quotient method (get_or w i 0) (get_or t i 0)) = falls_weak method w i (get_or t i 0) (get_or s i 0) wi few in
          let second : AtMost (quotient method (get_or w k 0) (get_or t k 0 - 1)) (quotient method (get_or w k 0) a) = falls_weak method w k a (get_or t k 0 - 1) wk (omega (arith, same, more)) in
          let third : AtMost (quotient method (get_or w k 0) a) (quotient method (get_or (with_fewer v j x) k 0) a) = rises_weak method (get_or w k 0) (get_or (with_fewer v j x) k 0) a (omega (arith, e, down)) in
          let one = AtMost-trans (quotient method (get_or w i 0) (get_or s i 0)) (quotient method (get_or w i 0) (get_or t i 0)) (quotient method (get_or w k 0) (get_or t k 0 - 1))
          (quotient_positive method (get_or w i 0) (get_or t i 0) wi) first fair in
          let two = AtMost-trans (quotient method (get_or w i 0) (get_or s i 0)) (quotient method (get_or w k 0) (get_or t k 0 - 1)) (quotient method (get_or w k 0) a)
          (quotient_positive method (get_or w k 0) (get_or t k 0 - 1) wk) one second in
          let three = AtMost-trans (quotient method (get_or w i 0) (get_or s i 0)) (quotient method (get_or w k 0) a) (quotient method (get_or (with_fewer v j x) k 0) a)
          (quotient_positive method (get_or w k 0) a wk) two third in
          let three' : AtMost c (quotient method (get_or (with_fewer v j x) k 0) a) = subst (λ n. AtMost (quotient method n (get_or s i 0)) (quotient method (get_or (with_fewer v j x) k 0) a)) o three in
          let rise : AtMost (quotient method (get_or v i 0 + x) (get_or s i 0)) c = claims_rise x y le in
          let last = Below-AtMost (quotient method (get_or (with_fewer v j x) k 0) a) (quotient method (get_or v i 0 + x) (get_or s i 0)) c
          (quotient_positive method (get_or v i 0 + y) (get_or s i 0) (omega (arith, pos, le))) low rise in
          omega (arith, three', last)

    pub wins : WinsASeat method v s j i y
    wins t ht = elim (cases_lt (get_or s i 0) (get_or t i 0)) [ inl more ↦ more | inr few ↦ absurd (no_such t ht few) ]

  -- ---- where all are filled, some allocation gives i no more
  module _ (x : ℕ) (u : List ℕ) (fills : Fills method (with_fewer v j x) (quotient method (get_or v i 0 + x) (get_or s i 0)) i (length v) 0 u)
      (total : sum u + get_or s i 0 ≡ sum s) (y : ℕ) (pos : 0 < y) (le : y ≤ x) where
    w : List ℕ
    w = with_swing v j i y

    wi : InField w i
    unfolding w
    wi = let o = own y in omega (arith, o, pos)

    is_own : get_or w i 0 ≡ get_or v i 0 + y
    unfolding w
    is_own = own y

    is_rest : (k : ℕ) → k ≢ i → get_or w k 0 ≡ get_or (with_fewer v j y) k 0
    unfolding w
    is_rest k out = rest y k out

    is_long : length w ≡ length v
    unfolding w
    is_long = long y

    module _ (t : List ℕ) (ht : IsDivisorAllocation method w (no_minima v) (sum s) t) (many : get_or s i 0 < get_or t i 0) where
      lt' : i < length t
      lt' = let lw = is_long in omega (arith, ht.same_length, lw, li)

      found' : (k : ℕ) × (get_or (without t) k 0 < get_or u k 0)
      found' = let st = sum_without t lt' in more_somewhere (without t) u (omega (arith, st, total, many, ht.total))

      one_less : (r : List ℕ) × IsDivisorAllocation method w (no_minima v) (sum s) r × (get_or r i 0 ≡ get_or t i 0 - 1)
      one_less =
          let k = found'.0 in
          let more : get_or (without t) k 0 < get_or u k 0 = found'.1 in
          let out : k ≢ i = λ e. let more' = subst (λ n. get_or (without t) n 0 < get_or u n 0) e more in let z = fills.own in omega (arith, more', z) in
          let inside : k < length v = (let far = within_length u k (get_or (without t) k 0) more in let l = fills.same_length in omega (arith, far, l)) in
          let same = same_others t lt' k out in
          let reached = fills.reached k inside out (omega (arith, more)) in
          let fk = reached.0 in
          let e = is_rest k out in
          let down = fewer y x k le in
          let wk : InField w k = omega (arith, fk, e, down) in
          let o = is_own in
          let a = get_or u k 0 in
          let last = falls_weak method w i (get_or s i 0) (get_or t i 0 - 1) wi (omega (arith, many)) in
          let c = quotient method (get_or v i 0 + y) (get_or s i 0) in
          let last' : AtMost (quotient method (get_or w i 0) (get_or t i 0 - 1)) c = subst (λ n. AtMost (quotient method (get_or w i 0) (get_or t i 0 - 1)) (quotient method n (get_or s i 0))) o last in
          let d = quotient method (get_or v i 0 + x) (get_or s i 0) in
          let F = get_or (with_fewer v j x) k 0 in
          let one = AtMost-trans (quotient method (get_or w i 0) (get_or t i 0 - 1)) c d (quotient_positive method (get_or v i 0 + y) (get_or s i 0) (omega (arith, pos))) last' (claims_rise y x le) in
          let two = AtMost-trans (quotient method (get_or w i 0) (get_or t i 0 - 1)) d (quotient method F (a - 1)) (quotient_positive method (get_or v i 0 + x) (get_or s i 0) (omega (arith, pos, le))) one reached.1 in
          let three = AtMost-trans (quotient method (get_or w i 0) (get_or t i 0 - 1)) (quotient method F (a - 1)) (quotient method F (get_or t k 0)) (quotient_positive method F (a - 1) fk) two
          (falls_weak method (with_fewer v j x) k (get_or t k 0) (a - 1) fk (omega (arith, same, more))) in
          let four = AtMost-trans (quotient method (get_or w i 0) (get_or t i 0 - 1)) (quotient method F (get_or t k 0)) (quotient method (get_or w k 0) (get_or t k 0)) (quotient_positive method F (get_or t k 0) fk) three
          (rises_weak method F (get_or w k 0) (get_or t k 0) (omega (arith, e, down))) in
          let z = none_needed (length v) i in
          let r = other method w (no_minima v) (sum s) t ht i k (λ q. out (sym q)) (omega (arith, z, many)) wk four in
          (r.0, r.1, r.2)

    down_to : (n : ℕ) (t : List ℕ) → IsDivisorAllocation method w (no_minima v) (sum s) t → get_or t i 0 ≤ n → (r : List ℕ) × IsDivisorAllocation method w (no_minima v) (sum s) r × (get_or r i 0 ≤ get_or s i 0)
    down_to zero t ht few = (t, ht, omega (arith, few))
    down_to (suc n) t ht few =
        elim (cases_lt (get_or s i 0) (get_or t i 0)) [
          | inr le ↦ (t, ht, le)
          | inl many ↦ (let o = one_less t ht many in let e = o.2 in down_to n o.0 o.1 (omega (arith, e, few, many)))
        ]

    pub wins_none : MayWinNone method v s j i y
    unfolding w
    wins_none =
        let some = some_allocation method v w (no_minima v) s is_long h i wi in
        down_to (get_or some.0 i 0) some.0 some.1 (omega arith)

  -- without a swing the seats stand
  unmoved : (k : ℕ) → get_or (with_swing v j i 0) k 0 ≡ get_or v k 0
  unmoved k =
      elim (cases_eq k i) [
        | inl e ↦ subst (λ n. get_or (with_swing v j i 0) n 0 ≡ get_or v n 0) (sym e) (let o = own 0 in omega (arith, o))
        | inr out ↦ elim (cases_eq k j) [
          | inl e ↦ subst (λ n. get_or (with_swing v j i 0) n 0 ≡ get_or v n 0) (sym e) (let r = rest 0 j ne in let a = get_or-set_same v j (get_or v j 0 - 0) 0 lj in omega (arith, r, a))
          | inr off ↦ (let r = rest 0 k out in let a = get_or-set_other v j k (get_or v j 0 - 0) 0 off in omega (arith, r, a))
        ]
      ]

  pub none_moved : MayWinNone method v s j i 0
  none_moved = (s, same_votes method v (with_swing v j i 0) (no_minima v) (sum s) s (long 0) unmoved h, omega arith)

  pub when_filled : (x : ℕ) (answer : Bool) → AreFilled method v s j i x answer → answer ≡ true → (y : ℕ) → y ≤ x → MayWinNone method v s j i y
  when_filled x answer a e y le =
      let z = a.filled e in
      let total = a.total in
      elim (cases_lt 0 y) [
        | inl pos ↦ wins_none x a.u
            (subst (λ n. Fills method (with_fewer v j x) (quotient method (get_or v i 0 + x) (get_or s i 0)) i (length v) n a.u) z a.fills) (omega (arith, total, z)) y pos le
        | inr none ↦ (let same : 0 ≡ y = omega (arith, none) in subst (MayWinNone method v s j i) same none_moved)
      ]

  pub when_short : (x : ℕ) (answer : Bool) → AreFilled method v s j i x answer → answer ≡ false → 0 < x → WinsASeat method v s j i x
  when_short x answer a e pos = wins x a.left a.u (a.short e) a.fills a.total pos x (omega arith)

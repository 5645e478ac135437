-- Seats of the least deviation: a seat moved from what is over its share to what is under it would bring both nearer.
use Rattle.std.proofs.Common.{◌≡◌, ◌≢◌, ℕ, zero, suc, ◌+◌, ◌-◌, ◌*◌, ◌<◌, ◌≤◌, ◌⊎◌, List, [], ◌∷◌, length, get_or, map, set, sum, inl, inr, arith, sym, ◌∙◌, subst}
use Rattle.std.proofs.Math.Nat.{mul-le-mul_left}
use Rattle.std.proofs.lemmas.Bool.{cases_lt}
use Rattle.std.proofs.lemmas.List.{length-set, get_or-set_other, get_or_past}
use Rattle.std.proofs.lemmas.List.Sums.{sum_by-set}
use Rattle.sl_law_meaning.specs.methods.Field.{InField}
use Rattle.sl_law_meaning.specs.methods.Hamilton.{whole, remainder}
use Rattle.sl_law_meaning.proofs.methods.SeatSums.{some_greater}
use Rattle.sl_law_meaning.proofs.methods.DivisorProofs.{in_range}
use Rattle.sl_law_meaning.proofs.methods.HamiltonProofs.{at_map, sum_times, whole_high}
use Rattle.sl_law_fairness.specs.Hamilton.{apart, deviation, LeastDeviationIsHamilton}
use Rattle.sl_law_fairness.proofs.HamiltonVotes.{share}

-- other seats for one entry
deviation_set : (V S : ℕ) (v s : List ℕ) (i x : ℕ) → length s ≡ length v → i < length s →
    deviation V S v (set s i x) + apart (V * get_or s i 0) (S * get_or v i 0) ≡ deviation V S v s + apart (V * x) (S * get_or v i 0)
deviation_set V S v [] i x long l = absurd (omega (arith, l))
deviation_set V S [] (a ∷ s) i x long l = absurd (omega (arith, long))
deviation_set V S (y ∷ v) (a ∷ s) zero x long l = omega arith
deviation_set V S (y ∷ v) (a ∷ s) (suc i) x long l = let rest = deviation_set V S v s i x (omega (arith, long)) (omega (arith, l)) in omega (arith, rest)

one_less : (V s : ℕ) → 0 < s → V * (s - 1) + V ≡ V * s
one_less V zero pos = absurd (omega (arith, pos))
one_less V (suc k) pos = let e : suc k - 1 ≡ k = omega arith in subst (λ n. V * n + V ≡ V * suc k) (sym e) (omega arith)

module _ (v : List ℕ) (seats : ℕ) (s : List ℕ) (some : 0 < sum v) (long : length s ≡ length v) (total : sum s ≡ seats)
    (least : (t : List ℕ) → length t ≡ length v → sum t ≡ seats → deviation (sum v) seats v s ≤ deviation (sum v) seats v t) where
  abbrev off : ℕ → ℕ → ℕ
  off i x = apart (sum v * x) (seats * get_or v i 0)

  -- a seat moved from i to j brings the two no nearer
  no_nearer : (i j : ℕ) → i ≢ j → i < length s → j < length s → 0 < get_or s i 0 →
      off i (get_or s i 0) + off j (get_or s j 0) ≤ off i (get_or s i 0 - 1) + off j (get_or s j 0 + 1)
  no_nearer i j ne li lj pos =
      let x = set s i (get_or s i 0 - 1) in
      let t = set x j (get_or s j 0 + 1) in
      let lx = length-set s i (get_or s i 0 - 1) in
      let lt = length-set x j (get_or s j 0 + 1) in
      let xj = get_or-set_other s i j (get_or s i 0 - 1) 0 (λ e. ne (sym e)) in
      let lj' : j < length x = omega (arith, lx, lj) in
      let a : sum x + get_or s i 0 ≡ sum s + (get_or s i 0 - 1) = sum_by-set (λ n. n) s i (get_or s i 0 - 1) 0 li in
      let b : sum t + get_or x j 0 ≡ sum x + (get_or s j 0 + 1) = sum_by-set (λ n. n) x j (get_or s j 0 + 1) 0 lj' in
      let c = deviation_set (sum v) seats v s i (get_or s i 0 - 1) long li in
      let d = deviation_set (sum v) seats v x j (get_or s j 0 + 1) (lx ∙ long) lj' in
      let d' = subst (λ n. deviation (sum v) seats v t + apart (sum v * n) (seats * get_or v j 0) ≡ deviation (sum v) seats v x + off j (get_or s j 0 + 1)) xj d in
      let le = least t (lt ∙ lx ∙ long) (omega (arith, a, b, xj, total, pos)) in
      omega (arith, c, d', le)

  -- the seats and the shares have the same sum
  same_sums : sum (map (λ x. sum v * x) s) ≡ sum (map (λ x. seats * x) v)
  same_sums = let a = sum_times (sum v) s in let b = sum_times seats v in let e : sum v * sum s ≡ sum v * seats = λ k. sum v * total k in omega (arith, a, b, e)

  at_seats : (i : ℕ) → get_or (map (λ x. sum v * x) s) i 0 ≡ sum v * get_or s i 0
  at_seats = at_map (λ x. sum v * x) (omega arith) s

  at_share : (i : ℕ) → get_or (map (λ x. seats * x) v) i 0 ≡ seats * get_or v i 0
  at_share = at_map (λ x. seats * x) (omega arith) v

  inside : (i a : ℕ) → a < get_or s i 0 → i < length s
  inside i a l = elim (cases_lt i (length s)) [ inl less ↦ less | inr past ↦ absurd (let z = get_or_past s i 0 past in omega (arith, z, l)) ]

  under_inside : (i a : ℕ) → a < seats * get_or v i 0 → i < length s
  under_inside i a l =
      elim (cases_lt 0 (get_or v i 0)) [
        | inl f ↦ (let r = in_range v i f in omega (arith, r, long))
        | inr g ↦ absurd (let z : get_or v i 0 ≡ 0 = omega (arith, g) in let l' = subst (λ n. a < seats * n) z l in omega (arith, l'))
      ]

  seated : (i : ℕ) → 0 < sum v * get_or s i 0 → 0 < get_or s i 0
  seated i pos = elim (cases_lt 0 (get_or s i 0)) [ inl l ↦ l | inr g ↦ absurd (let z : get_or s i 0 ≡ 0 = omega (arith, g) in let p = subst (λ n. 0 < sum v * n) z pos in omega (arith, p)) ]

  -- nobody is over by a seat or more
  not_over : (i : ℕ) → sum v * get_or s i 0 < seats * get_or v i 0 + sum v
  not_over i =
      elim (cases_lt (sum v * get_or s i 0) (seats * get_or v i 0 + sum v)) [
        | inl l ↦ l
        | inr over ↦ absurd (
            let ai = at_seats i in
            let bi = at_share i in
            let sums = same_sums in
            let found = some_greater (map (λ x. sum v * x) s) (map (λ x. seats * x) v) i (omega (arith, sums)) (omega (arith, ai, bi, over, some)) in
            let j = found.0 in
            let aj = at_seats j in
            let bj = at_share j in
            let under : sum v * get_or s j 0 < seats * get_or v j 0 = (let f = found.1 in omega (arith, f, aj, bj)) in
            let pos = seated i (omega (arith, over, some)) in
            let ne : i ≢ j = λ e. let under' = subst (λ k. sum v * get_or s k 0 < seats * get_or v k 0) (sym e) under in omega (arith, under', over) in
            let le = no_nearer i j ne (inside i 0 pos) (under_inside j (sum v * get_or s j 0) under) pos in
            let e = one_less (sum v) (get_or s i 0) pos in
            let f : sum v * (get_or s j 0 + 1) ≡ sum v * get_or s j 0 + sum v = omega arith in
            omega (arith, le, e, f, under, over, some))
      ]

  -- or under
  not_under : (i : ℕ) → seats * get_or v i 0 < sum v * get_or s i 0 + sum v
  not_under i =
      elim (cases_lt (seats * get_or v i 0) (sum v * get_or s i 0 + sum v)) [
        | inl l ↦ l
        | inr under ↦ absurd (
            let ai = at_seats i in
            let bi = at_share i in
            let sums = same_sums in
            let found = some_greater (map (λ x. seats * x) v) (map (λ x. sum v * x) s) i (omega (arith, sums)) (omega (arith, ai, bi, under, some)) in
            let j = found.0 in
            let aj = at_seats j in
            let bj = at_share j in
            let over : seats * get_or v j 0 < sum v * get_or s j 0 = (let f = found.1 in omega (arith, f, aj, bj)) in
            let pos = seated j (omega (arith, over)) in
            let ne : j ≢ i = λ e. let over' = subst (λ k. seats * get_or v k 0 < sum v * get_or s k 0) e over in omega (arith, over', under) in
            let le = no_nearer j i ne (inside j 0 pos) (under_inside i (sum v * get_or s i 0) (omega (arith, under, some))) pos in
            let e = one_less (sum v) (get_or s j 0) pos in
            let f : sum v * (get_or s i 0 + 1) ≡ sum v * get_or s i 0 + sum v = omega arith in
            omega (arith, le, e, f, under, over, some))
      ]

  -- products by all votes, compared
  fewer : (a b : ℕ) → sum v * a < sum v * b → a < b
  fewer a b l = elim (cases_lt a b) [ inl less ↦ less | inr ge ↦ absurd (let up : sum v * b ≤ sum v * a = mul-le-mul_left (sum v) ge in omega (arith, up, l)) ]

  small : (i : ℕ) → remainder v seats i < sum v
  small i =
      let top = whole_high (seats * get_or v i 0) (sum v) (whole v seats i + 1) some (omega arith) in
      let parts = share v seats i in
      omega (arith, top, parts)

  shares : (i : ℕ) → InField v i → (get_or s i 0 ≡ whole v seats i) ⊎ (get_or s i 0 ≡ whole v seats i + 1)
  shares i f =
      let parts = share v seats i in
      let r = small i in
      let over = not_over i in
      let under = not_under i in
      let w = whole v seats i in
      let top : get_or s i 0 < w + 2 = fewer (get_or s i 0) (w + 2) (omega (arith, parts, r, over)) in
      let low : w < get_or s i 0 + 1 = fewer w (get_or s i 0 + 1) (omega (arith, parts, under)) in
      elim (cases_lt w (get_or s i 0)) [ inl up ↦ inr (omega (arith, up, top)) | inr at ↦ inl (omega (arith, at, low)) ]

  largest : (i j : ℕ) → InField v i → InField v j → get_or s i 0 ≡ whole v seats i + 1 → get_or s j 0 ≡ whole v seats j → remainder v seats j ≤ remainder v seats i
  largest i j fi fj up down =
      elim (cases_lt (remainder v seats i) (remainder v seats j)) [
        | inr g ↦ g
        | inl more ↦ absurd (
            let ne : i ≢ j = λ e. let up' = subst (λ k. get_or s k 0 ≡ whole v seats k + 1) e up in omega (arith, up', down) in
            let ri = in_range v i fi in
            let rj = in_range v j fj in
            let le = no_nearer i j ne (omega (arith, ri, long)) (omega (arith, rj, long)) (omega (arith, up)) in
            let pi = share v seats i in
            let pj = share v seats j in
            let si = small i in
            let sj = small j in
            let e = one_less (sum v) (get_or s i 0) (omega (arith, up)) in
            let a : sum v * get_or s i 0 ≡ sum v * whole v seats i + sum v = subst (λ n. sum v * n ≡ sum v * whole v seats i + sum v) (sym up) (omega arith) in
            let b : sum v * get_or s j 0 ≡ sum v * whole v seats j = λ k. sum v * down k in
            let f : sum v * (get_or s j 0 + 1) ≡ sum v * get_or s j 0 + sum v = omega arith in
            omega (arith, le, pi, pj, si, sj, e, a, b, f, more))
      ]

  none : (i : ℕ) → get_or v i 0 ≡ 0 → get_or s i 0 ≡ 0
  none i z =
      let over = not_over i in
      let over' = subst (λ n. sum v * get_or s i 0 < seats * n + sum v) z over in
      let l = fewer (get_or s i 0) 1 (omega (arith, over')) in
      omega (arith, l)

pub least_deviation_is_hamilton : LeastDeviationIsHamilton
least_deviation_is_hamilton v seats s some long total least = record {
  same_length = long;
  total = total;
  outside = none v seats s some long total least;
  shares = shares v seats s some long total least;
  largest = λ i j fi fj up down. let le = largest v seats s some long total least i j fi fj up down in omega (arith, le);
}

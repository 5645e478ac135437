-- The seats of each claim that is at least the last one of a minimum: a settled vector, below every allocation that meets it.
use Rattle.std.proofs.Common.{◌≡◌, ◌↔◌, ◌≢◌, ℕ, zero, suc, ◌+◌, ◌-◌, ◌*◌, ◌/◌, ◌<◌, ◌≤◌, ◌⊎◌, Bool, true, false, List, [], ◌∷◌, length, get_or, map, max, sum, count_by, cond, refl, ap, inl, inr, arith, sym, ◌∙◌, subst}
use Rattle.std.specs.Prelude.{nat_lt}
use Rattle.std.proofs.Math.Nat.{mul-le-mul_left}
use Rattle.std.proofs.lemmas.Bool.{cases_lt, lt-ltb}
use Rattle.std.proofs.lemmas.List.{length-map}
use Rattle.std.proofs.lemmas.List.Sums.{sum_by-cons}
use Rattle.sl_base_quotients.specs.declared.method.Divisor.TheVariants.{Webster}
use Rattle.sl_base_quotients.specs.Quotient.{Quotient, AtMost, Below, quotient}
use Rattle.sl_base_quotients.proofs.Order.{AtMost-trans, Below-AtMost}
use Rattle.sl_law_meaning.specs.methods.Field.{InField, IsEmptyField, no_minima}
use Rattle.sl_law_meaning.specs.methods.Allocations.{IsDivisorAllocation}
use Rattle.sl_law_meaning.specs.methods.LeastHouse.{outside_sum, AllMeet, GrownTo, IsGrowth}
use Rattle.sl_law_meaning.specs.laws.Ladders.{IsSettled, divisor_ladders}
use Rattle.sl_law_meaning.proofs.methods.SeatSums.{sum-cons, some_less, none_needed, length_zeros, sum_zeros}
use Rattle.sl_law_meaning.proofs.methods.ListedEntries.{cases_all}
use Rattle.sl_law_meaning.proofs.methods.OneBatch.{settled_below, settled_above}
use Rattle.sl_law_meaning.proofs.methods.DivisorProofs.{in_range, has_of, free_tops, divisor_allocations}
use Rattle.sl_law_meaning.proofs.methods.HamiltonProofs.{at_map, whole_low, whole_high}
use Rattle.sl_law_fairness.specs.ClosedHouse.{seats_by, needed_by, HasMinimum, IsGreatestNeed, ClosedHouse, GrowthBound}
use Rattle.sl_law_fairness.specs.NearQuota.{in_field}
use Rattle.sl_law_fairness.proofs.Chains.{falls_weak}
use Rattle.sl_law_fairness.proofs.Moves.{holder_tied}

-- every allocation of so many seats meets the field's minima exactly where they are enough for each entry
abbrev pub WebsterMeets : Type 0
WebsterMeets = (v m : List ℕ) (seats : ℕ) → AllMeet Webster v m seats ↔ ((q : ℕ) → HasMinimum v m q → needed_by v m q ≤ seats)

-- half of a number is below one of it
half_none : (o y : ℕ) → 0 < y → (0 * o + y) / (2 * y) ≡ 0
half_none o y pos =
    elim (cases_lt 0 ((0 * o + y) / (2 * y))) [
      | inr g ↦ omega (arith, g)
      | inl some ↦ absurd (let low = whole_low (0 * o + y) (2 * y) in no_room y ((0 * o + y) / (2 * y)) pos some (omega (arith, low)))
    ] where
      no_room : (a n : ℕ) → 0 < a → 0 < n → 2 * a * n ≤ a → ⊥
      no_room a zero pa pn le = omega (arith, pn)
      no_room a (suc n) pa pn le = omega (arith, pa, le)

-- the claim of a minimum against the claims of n seats by its divisor
low_claim : (x y k n : ℕ) → 0 < n → 2 * y * n ≤ x * (2 * k + 1) + y → 2 * y * (2 * (n - 1) + 1) ≤ 2 * x * (2 * k + 1)
low_claim x y k zero pos le = absurd (omega (arith, pos))
low_claim x y k (suc n) pos le =
    let e : n ≡ suc n - 1 = omega arith in
    let h : 2 * y * (2 * n + 1) ≤ 2 * x * (2 * k + 1) = omega (arith, le) in
    subst (λ j. 2 * y * (2 * j + 1) ≤ 2 * x * (2 * k + 1)) e h

module _ (v m : List ℕ) (q : ℕ) (fq : InField v q) (some : 0 < get_or m q 0) where
  abbrev k : ℕ
  k = get_or m q 0 - 1

  odd : 2 * get_or m q 0 - 1 ≡ 2 * k + 1
  odd = omega (arith, some)

  abbrev n : List ℕ
  n = seats_by v m q

  -- the claim of the last seat of the minimum
  abbrev claim : Quotient
  claim = quotient Webster (get_or v q 0) k

  at : (i : ℕ) → get_or n i 0 ≡ (get_or v i 0 * (2 * get_or m q 0 - 1) + get_or v q 0) / (2 * get_or v q 0)
  at i = at_map (λ x. (x * (2 * get_or m q 0 - 1) + get_or v q 0) / (2 * get_or v q 0)) (half_none (2 * get_or m q 0 - 1) (get_or v q 0) fq) v i

  low : (i : ℕ) → 2 * get_or v q 0 * get_or n i 0 ≤ get_or v i 0 * (2 * k + 1) + get_or v q 0
  low i =
      let one = whole_low (get_or v i 0 * (2 * get_or m q 0 - 1) + get_or v q 0) (2 * get_or v q 0) in
      let two = subst (λ r. 2 * get_or v q 0 * r ≤ get_or v i 0 * (2 * get_or m q 0 - 1) + get_or v q 0) (sym (at i)) one in
      subst (λ o. 2 * get_or v q 0 * get_or n i 0 ≤ get_or v i 0 * o + get_or v q 0) odd two

  high : (i : ℕ) → get_or v i 0 * (2 * k + 1) + get_or v q 0 < 2 * get_or v q 0 * (get_or n i 0 + 1)
  high i =
      let a = at i in
      let one = whole_high (get_or v i 0 * (2 * get_or m q 0 - 1) + get_or v q 0) (2 * get_or v q 0) (get_or n i 0 + 1) (omega (arith, fq)) (omega (arith, a)) in
      subst (λ o. get_or v i 0 * o + get_or v q 0 < 2 * get_or v q 0 * (get_or n i 0 + 1)) odd one

  -- q itself has its minimum
  itself : get_or n q 0 ≡ get_or m q 0
  itself =
      let l = low q in let h = high q in
      exact (get_or v q 0) (get_or m q 0 - 1) (get_or n q 0) (get_or m q 0) fq (omega (arith, some)) l h
    where
      exact : (y j r w : ℕ) → 0 < y → w ≡ j + 1 → 2 * y * r ≤ y * (2 * j + 1) + y → y * (2 * j + 1) + y < 2 * y * (r + 1) → r ≡ w
      exact y j r w pos e l h =
          elim (cases_lt (j + 1) r) [
            | inl more ↦ absurd (let up : 2 * y * (j + 2) ≤ 2 * y * r = mul-le-mul_left (2 * y) (omega (arith, more)) in omega (arith, l, up, pos))
            | inr g ↦ elim (cases_lt r (j + 1)) [
              | inl less ↦ absurd (let up : 2 * y * (r + 1) ≤ 2 * y * (j + 1) = mul-le-mul_left (2 * y) (omega (arith, less)) in omega (arith, h, up))
              | inr g' ↦ omega (arith, g, g', e)
            ]
          ]

  -- who has no votes has no seats
  none_outside : (i : ℕ) → 0 < get_or n i 0 → InField v i
  none_outside i has =
      elim (cases_lt 0 (get_or v i 0)) [
        | inl f ↦ f
        | inr g ↦ absurd (
            let z : get_or v i 0 ≡ 0 = omega arith in
            let l = low i in
            let l' = subst (λ x. 2 * get_or v q 0 * get_or n i 0 ≤ x * (2 * k + 1) + get_or v q 0) z l in
            let up : 2 * get_or v q 0 * 1 ≤ 2 * get_or v q 0 * get_or n i 0 = mul-le-mul_left (2 * get_or v q 0) has in
            omega (arith, l', up, fq))
      ]

  -- each seat ranks at least as high as the last one of the minimum, and each next one lower
  last_high : (i : ℕ) → 0 < get_or n i 0 → AtMost claim (quotient Webster (get_or v i 0) (get_or n i 0 - 1))
  last_high i has = low_claim (get_or v i 0) (get_or v q 0) k (get_or n i 0) has (low i)

  next_low : (i : ℕ) → Below (quotient Webster (get_or v i 0) (get_or n i 0)) claim
  next_low i = let h = high i in omega (arith, h)

  settled : IsSettled (divisor_ladders Webster v (no_minima v)) n
  settled = record {
    on = record {
      same_length = length-map v (λ x. (x * (2 * get_or m q 0 - 1) + get_or v q 0) / (2 * get_or v q 0)) ∙ sym (length_zeros (length v));
      above = λ i. let z = none_needed (length v) i in omega (arith, z);
      there = λ i more. has_of Webster v (no_minima v) i (get_or n i 0 - 1) (none_outside i (omega (arith, more)));
    };
    apart = λ i j more next.
        let f = none_outside i (omega (arith, more)) in
        Below-AtMost (quotient Webster (get_or v j 0) (get_or n j 0)) claim (quotient Webster (get_or v i 0) (get_or n i 0 - 1))
        (omega (arith, f)) (next_low j) (last_high i (omega (arith, more)));
  }

  module _ (seats : ℕ) (t : List ℕ) (ht : IsDivisorAllocation Webster v (no_minima v) seats t) where
    up_to : needed_by v m q ≤ seats → get_or m q 0 ≤ get_or t q 0
    up_to le =
        let b = settled_below (divisor_ladders Webster v (no_minima v)) (free_tops Webster v).falling n t seats settled (((free_tops Webster v).tops seats t).0 ht) le q in
        let e = itself in omega (arith, b, e)

    within : seats ≤ needed_by v m q → (i : ℕ) → get_or t i 0 ≤ get_or n i 0
    within le = settled_above (divisor_ladders Webster v (no_minima v)) (free_tops Webster v).falling n t seats settled (((free_tops Webster v).tops seats t).0 ht) le

  -- with fewer seats some allocation does not meet the minimum
  module _ (seats : ℕ) (few : seats < needed_by v m q) (all : AllMeet Webster v m seats) where
    no_such : ⊥
    no_such =
        let z = sum_zeros (length v) in
        let some_one = (divisor_allocations Webster v (no_minima v) seats (length_zeros (length v))).0.1
        (omega (arith, z), λ empty. absurd (empty q fq)) in
        let t = some_one.0 in
        let ht = some_one.1 in
        let meets = all t ht q fq in
        let high_q = within seats t ht (omega (arith, few)) q in
        let e = itself in
        let same : get_or t q 0 ≡ get_or m q 0 = omega (arith, meets, high_q, e) in
        let found = some_less t n (omega (arith, few, ht.total)) in
        let p = found.0 in
        let less : get_or t p 0 < get_or n p 0 = found.1 in
        let fp = none_outside p (omega (arith, less)) in
        let ne : q ≢ p = λ h. let less' = subst (λ x. get_or t x 0 < get_or n x 0) (sym h) less in omega (arith, less', same, e) in
        let zq = none_needed (length v) q in
        let above : get_or (no_minima v) q 0 < get_or t q 0 = omega (arith, zq, same, some) in
        let next = AtMost-trans claim (quotient Webster (get_or v p 0) (get_or n p 0 - 1)) (quotient Webster (get_or v p 0) (get_or t p 0)) (omega (arith, fp))
        (last_high p (omega (arith, less))) (falls_weak Webster v p (get_or t p 0) (get_or n p 0 - 1) fp (omega (arith, less))) in
        let back : k ≡ get_or t q 0 - 1 = omega (arith, same) in
        let worth = subst (λ r. AtMost (quotient Webster (get_or v q 0) r) (quotient Webster (get_or v p 0) (get_or t p 0))) back next in
        let tied = holder_tied Webster v (no_minima v) seats t ht q p ne above fp worth in
        let s1 = tied.0 in
        let t1 = tied.2 in
        let top = within seats s1 tied.1 (omega (arith, few)) q in
        let bottom = all t1.0 t1.1 q fq in
        let apart = t1.2 in
        omega (arith, top, bottom, apart, e)

pub webster_meets : WebsterMeets
webster_meets v m seats = (
  λ all q has. elim (cases_lt seats (needed_by v m q)) [
    | inr g ↦ g
    | inl few ↦ absurd (no_such v m q has.0 has.1 seats few all)
  ],
  λ enough t ht q f. elim (cases_lt 0 (get_or m q 0)) [
    | inl some ↦ up_to v m q f some seats t ht (enough q (f, some))
    | inr none ↦ omega (arith, none)
  ],
)

-- who needs more seats than these, if any
short_of : (v m : List ℕ) (seats : ℕ) → ((q : ℕ) → HasMinimum v m q → needed_by v m q ≤ seats) ⊎ ((q : ℕ) × HasMinimum v m q × (seats < needed_by v m q))
short_of v m seats =
    elim (cases_all (λ q. HasMinimum v m q → needed_by v m q ≤ seats) decided (length v)) [
      | inl all ↦ inl (λ q has. all q (in_range v q has.0) has)
      | inr one ↦ inr (let q = one.0 in elim (cases_lt 0 (get_or v q 0)) [
        | inr g ↦ absurd (one.1 (λ has. absurd (let f = has.0 in omega (arith, f, g))))
        | inl f ↦ elim (cases_lt 0 (get_or m q 0)) [
          | inr g ↦ absurd (one.1 (λ has. absurd (let s = has.1 in omega (arith, s, g))))
          | inl s ↦ elim (cases_lt seats (needed_by v m q)) [
            | inl less ↦ (q, (f, s), less)
            | inr g ↦ absurd (one.1 (λ has. g))
          ]
        ]
      ])
    ] where
      decided : (q : ℕ) → (HasMinimum v m q → needed_by v m q ≤ seats) ⊎ ((HasMinimum v m q → needed_by v m q ≤ seats) → ⊥)
      decided q =
          elim (cases_lt seats (needed_by v m q)) [
            | inr g ↦ inl (λ has. g)
            | inl less ↦ elim (cases_lt 0 (get_or v q 0)) [
              | inr g ↦ inl (λ has. absurd (let f = has.0 in omega (arith, f, g)))
              | inl f ↦ elim (cases_lt 0 (get_or m q 0)) [
                | inr g ↦ inl (λ has. absurd (let s = has.1 in omega (arith, s, g)))
                | inl s ↦ inr (λ h. let le = h (f, s) in omega (arith, le, less))
              ]
            ]
          ]

module _ (v m : List ℕ) (pool cap house : ℕ) where
  to_closed : IsGrowth Webster v m pool cap (GrownTo house) → ¬ IsEmptyField v × (house ≤ cap) × IsGreatestNeed v m pool house
  to_closed g =
      let serves = g.1 in
      let from = serves.from in
      let outside = serves.outside in
      let each : (q : ℕ) → HasMinimum v m q → needed_by v m q ≤ house - outside_sum v m = (webster_meets v m (house - outside_sum v m)).0 serves.met in (
        g.0,
        serves.up_to,
        record {
          from = from;
          enough = λ q has. let le = each q has in omega (arith, le, outside);
          one_of = elim (cases_lt (max pool (outside_sum v m)) house) [
            | inr low ↦ inl (omega (arith, low, from, outside))
            | inl more ↦ elim (short_of v m (house - 1 - outside_sum v m)) [
              | inr one ↦ inr (one.0, one.1, (let less = one.2 in let le = each one.0 one.1 in omega (arith, less, le, outside, more)))
              | inl none ↦ absurd (
                  let up = serves.up_to in
                  let le = g.2 (house - 1) (record {
                    from = omega (arith, more);
                    up_to = omega (arith, up);
                    outside = omega (arith, more);
                    met = (webster_meets v m (house - 1 - outside_sum v m)).1 none;
                  }) in
                  omega (arith, le, more))
            ]
          ];
        },
      )

  from_closed : (¬ IsEmptyField v × (house ≤ cap) × IsGreatestNeed v m pool house) → IsGrowth Webster v m pool cap (GrownTo house)
  from_closed h =
      let need = h.2 in
      let outside : outside_sum v m ≤ house = elim need.one_of [ inl e ↦ omega (arith, e) | inr one ↦ (let e = one.2 in omega (arith, e)) ] in (
        h.0,
        record {
          from = need.from;
          up_to = h.1;
          outside = outside;
          met = (webster_meets v m (house - outside_sum v m)).1 (λ q has. let le = need.enough q has in omega (arith, le));
        },
        λ other serves. elim need.one_of [
          | inl e ↦ (let from = serves.from in let out = serves.outside in omega (arith, e, from, out))
          | inr one ↦
              (let le = (webster_meets v m (other - outside_sum v m)).0 serves.met one.0 one.1 in
              let out = serves.outside in
              let e = one.2 in
              omega (arith, le, out, e))
        ],
      )

pub closed_house : ClosedHouse
closed_house v m pool cap house = (to_closed v m pool cap house, from_closed v m pool cap house)

-- ---- how far a house grows

count-cons : (p : ℕ → Bool) (x : ℕ) (xs : List ℕ) → count_by p (x ∷ xs) ≡ cond {A = ℕ} (p x) 1 0 + count_by p xs
count-cons p x xs = sum_by-cons (λ y. cond {A = ℕ} (p y) 1 0) x xs

pub count_no : (p : ℕ → Bool) (x : ℕ) (xs : List ℕ) → p x ≡ false → count_by p (x ∷ xs) ≡ count_by p xs
count_no p x xs e = let c = count-cons p x xs in let z : cond {A = ℕ} (p x) 1 0 ≡ 0 = ap (λ b. cond {A = ℕ} b 1 0) e in omega (arith, c, z)

pub count_yes : (p : ℕ → Bool) (x : ℕ) (xs : List ℕ) → p x ≡ true → count_by p (x ∷ xs) ≡ count_by p xs + 1
count_yes p x xs e = let c = count-cons p x xs in let z : cond {A = ℕ} (p x) 1 0 ≡ 1 = ap (λ b. cond {A = ℕ} b 1 0) e in omega (arith, c, z)

rounded_sum : (o y : ℕ) → 0 < y → (xs : List ℕ) → 2 * y * sum (map (λ x. (x * o + y) / (2 * y)) xs) ≤ o * sum xs + y * in_field xs
rounded_sum o y pos [] = omega arith
rounded_sum o y pos (zero ∷ xs) =
    let rest = rounded_sum o y pos xs in
    let none = half_none o y pos in
    let a = sum-cons ((zero * o + y) / (2 * y)) (map (λ x. (x * o + y) / (2 * y)) xs) in
    let b = sum-cons zero xs in
    let c : in_field (zero ∷ xs) ≡ in_field xs = count_no (λ x. nat_lt 0 x) zero xs refl in
    let l : sum (map (λ x. (x * o + y) / (2 * y)) (zero ∷ xs)) ≡ sum (map (λ x. (x * o + y) / (2 * y)) xs) = omega (arith, a, none) in
    let r : sum (zero ∷ xs) ≡ sum xs = omega (arith, b) in
    subst (λ n. 2 * y * n ≤ o * sum (zero ∷ xs) + y * in_field (zero ∷ xs)) (sym l)
    (subst (λ n. 2 * y * sum (map (λ x. (x * o + y) / (2 * y)) xs) ≤ o * n + y * in_field (zero ∷ xs)) (sym r)
    (subst (λ n. 2 * y * sum (map (λ x. (x * o + y) / (2 * y)) xs) ≤ o * sum xs + y * n) (sym c) rest))
rounded_sum o y pos (suc n ∷ xs) =
    let rest = rounded_sum o y pos xs in
    let low = whole_low (suc n * o + y) (2 * y) in
    let a = sum-cons ((suc n * o + y) / (2 * y)) (map (λ x. (x * o + y) / (2 * y)) xs) in
    let b = sum-cons (suc n) xs in
    let c : in_field (suc n ∷ xs) ≡ in_field xs + 1 = count_yes (λ x. nat_lt 0 x) (suc n) xs (lt-ltb 0 (suc n) (omega arith)) in
    subst (λ z. 2 * y * z ≤ o * sum (suc n ∷ xs) + y * in_field (suc n ∷ xs)) (sym a)
    (subst (λ z. 2 * y * ((suc n * o + y) / (2 * y) + sum (map (λ x. (x * o + y) / (2 * y)) xs)) ≤ o * z + y * in_field (suc n ∷ xs)) (sym b)
    (subst (λ z. 2 * y * ((suc n * o + y) / (2 * y) + sum (map (λ x. (x * o + y) / (2 * y)) xs)) ≤ o * (suc n + sum xs) + y * z) (sym c)
    (omega (arith, rest, low))))

pub growth_bound : GrowthBound
growth_bound v m pool cap house g more =
    let closed = (to_closed v m pool cap house g).2 in
    elim closed.one_of [
      | inl e ↦ absurd (omega (arith, e, more))
      | inr one ↦
          (let q = one.0 in
          let has = one.1 in
          let e = one.2 in
          let all = rounded_sum (2 * get_or m q 0 - 1) (get_or v q 0) has.0 v in
          let same : needed_by v m q ≡ house - outside_sum v m = omega (arith, e) in
          (q, has, subst (λ n. 2 * get_or v q 0 * n ≤ (2 * get_or m q 0 - 1) * sum v + get_or v q 0 * in_field v) same all))
    ]

-- Hamilton's allocations are the tops of ladders with one seat above each whole part.
use Rattle.std.proofs.Common.{◌≡◌, ℕ, zero, suc, ◌+◌, ◌-◌, ◌*◌, ◌/◌, ◌%◌, ◌<◌, ◌≤◌, ◌⊎◌, Bool, List, [], ◌∷◌, length, get_or, map, sum, inl, inr, arith, refl, sym, ap, ◌∙◌}
use Rattle.std.specs.Prelude.{◌&&◌, nat_lt, nat_le}
use Rattle.std.proofs.Math.Nat.{le_of_mul-le-mul_right, div-add-mod', mul-le-mul_right}
use Rattle.std.proofs.lemmas.Bool.{cases_lt, lt-ltb, ltb-true, le-leb, leb-true, and_parts, and_from, cond_both}
use Rattle.std.proofs.lemmas.List.{length-map}
use Rattle.sl_base_quotients.specs.Quotient.{Quotient}
use Rattle.sl_law_meaning.specs.methods.Field.{InField, IsEmptyField}
use Rattle.sl_law_meaning.specs.methods.Hamilton.{whole, is_leading, remainder, remainder_rank, IsHamiltonAllocation}
use Rattle.sl_law_meaning.specs.methods.Ties.{IsWellDefined}
use Rattle.sl_law_meaning.specs.laws.Ladders.{Has, AreFalling, IsTop, HasRoom, hamilton_ladders}
use Rattle.sl_law_meaning.specs.laws.MethodLaws.{HamiltonAllocations}
use Rattle.sl_law_meaning.specs.laws.Awards.{HamiltonTops, HamiltonLadders}
use Rattle.sl_law_meaning.proofs.methods.SeatSums.{sum-cons, sum_mono, sum_mono_strict, entry_le_sum}
use Rattle.sl_law_meaning.proofs.methods.ListedEntries.{cases_all}
use Rattle.sl_law_meaning.proofs.methods.ManyBatches.{decide_Has, tops_well_defined}
use Rattle.sl_law_meaning.proofs.methods.DivisorProofs.{in_range, cases_field}
use Rattle.sl_law_meaning.proofs.methods.ChoiceLaw.{same_choices, well_defined_too}

pub at_map : (f : ℕ → ℕ) → f 0 ≡ 0 → (xs : List ℕ) (i : ℕ) → get_or (map f xs) i 0 ≡ f (get_or xs i 0)
at_map f z [] i = sym z
at_map f z (x ∷ xs) zero = refl
at_map f z (x ∷ xs) (suc i) = at_map f z xs i

pub sum_times : (k : ℕ) (xs : List ℕ) → sum (map (λ x. k * x) xs) ≡ k * sum xs
sum_times k [] = omega arith
sum_times k (x ∷ xs) = sum-cons (k * x) (map (λ y. k * y) xs) ∙ (let rest = sum_times k xs in rw (sum-cons x xs) (omega (arith, rest)))

pub zero_div : (n : ℕ) → 0 / n ≡ 0
zero_div zero = refl
zero_div (suc n) = omega arith

-- 0 votes have no whole seat
no_votes : (seats total : ℕ) → seats * 0 / total ≡ 0
no_votes seats total = let z : seats * 0 ≡ 0 = omega arith in rw z (zero_div total)

-- a whole part is not above the share, and the next number is
pub whole_low : (n d : ℕ) → d * (n / d) ≤ n
whole_low n d = let parts = div-add-mod' n d in omega (arith, parts)

pub whole_high : (n d t : ℕ) → 0 < d → n / d < t → n < d * t
whole_high n d t pos h =
    let parts = div-add-mod' n d in
    let low : n % d < d = omega arith in
    let up : (n / d + 1) * d ≤ t * d = mul-le-mul_right d (omega arith) in
    omega (arith, parts, low, up)

module _ (prefer : Bool) (v : List ℕ) (seats : ℕ) where
  pub at_wholes : (i : ℕ) → get_or (hamilton_ladders prefer v seats).base i 0 ≡ whole v seats i
  at_wholes i = at_map (λ x. seats * x / sum v) (no_votes seats (sum v)) v i

  sum_positive : (i : ℕ) → InField v i → 0 < sum v
  sum_positive i f = let l = entry_le_sum v i in omega (arith, l)

  pub field_of : (i a : ℕ) → Has (hamilton_ladders prefer v seats) i a → InField v i × (a ≤ whole v seats i)
  field_of i a h =
      let parts = and_parts (nat_lt 0 (get_or v i 0)) (nat_le a (whole v seats i)) h in
      (ltb-true 0 (get_or v i 0) parts.0, leb-true a (whole v seats i) parts.1)

  pub has_of : (i a : ℕ) → InField v i → a ≤ whole v seats i → Has (hamilton_ladders prefer v seats) i a
  has_of i a f le = and_from (nat_lt 0 (get_or v i 0)) (nat_le a (whole v seats i)) (lt-ltb 0 (get_or v i 0) f) (le-leb a (whole v seats i) le)

  rank_positive : (i : ℕ) → 0 < (remainder_rank prefer v seats i).num
  rank_positive i = cond_both {A = Quotient} (prefer && is_leading v seats i) (record { num = 1; den = 0 }) (record { num = remainder v seats i + 1; den = 1 })
      (λ q. 0 < q.num) (λ e. omega arith) (λ e. omega arith)

  falling : AreFalling (hamilton_ladders prefer v seats)
  falling = record {
    within = λ i a h. let l = in_range v i (field_of i a h).0 in omega (arith, l, length-map v (λ x. seats * x / sum v));
    positive = λ i a h. rank_positive i;
    no_gap = λ i a low h. let parts = field_of i (a + 1) h in let le = parts.1 in has_of i a parts.0 (omega (arith, le));
    falls = λ i a low h. let le = (field_of i (a + 1) h).1 in absurd (omega (arith, le, low, at_wholes i));
  }

  -- S * v of each entry against V times its seats
  wholes_within : sum (hamilton_ladders prefer v seats).base ≤ seats
  wholes_within =
      elim (cases_lt 0 (sum v)) [
        | inl pos ↦
            (let W = map (λ x. seats * x / sum v) v in
            let L = map (λ n. sum v * n) W in
            let R = map (λ x. seats * x) v in
            let weak : (j : ℕ) → get_or L j 0 ≤ get_or R j 0 =
            λ j. under (get_or L j 0) (get_or W j 0) (get_or R j 0) (get_or v j 0) (at_map (λ n. sum v * n) (omega arith) W j) (at_wholes j) (at_map (λ x. seats * x) (omega arith) v j) in
            let total = sum_mono L R weak in
            let eL = sum_times (sum v) W in
            let eR = sum_times seats v in
            le_of_mul-le-mul_right {m = sum W} {n = seats} {k = sum v} (omega (arith, total, eL, eR)) pos)
        | inr g ↦
            (let none : (j : ℕ) → get_or (map (λ x. seats * x / sum v) v) j 0 ≤ get_or [] j 0 =
            λ j. no_share (get_or v j 0) (get_or (map (λ x. seats * x / sum v) v) j 0) (let l = entry_le_sum v j in omega (arith, l)) (at_wholes j) in
            let all = sum_mono (map (λ x. seats * x / sum v) v) [] none in omega (arith, all))
      ] where
        under : (a w b x : ℕ) → a ≡ sum v * w → w ≡ seats * x / sum v → b ≡ seats * x → a ≤ b
        under a w b x ea ew eb = let low = whole_low (seats * x) (sum v) in let e : sum v * w ≡ sum v * (seats * x / sum v) = ap (λ n. sum v * n) ew in omega (arith, low, ea, e, eb)

        no_share : (x w : ℕ) → x ≤ 0 → w ≡ seats * x / sum v → w ≤ 0
        no_share zero w le e = omega (arith, e, no_votes seats (sum v))
        no_share (suc x) w le e = absurd (omega arith)

  -- the seats do not serve one more than the whole part for each entry of the field
  not_all : (s : List ℕ) (i : ℕ) → InField v i → ((j : ℕ) → InField v j → whole v seats j < get_or s j 0) → seats < sum s
  not_all s i f above =
      let L = map (λ x. seats * x) v in
      let R = map (λ n. sum v * n) s in
      let pos = sum_positive i f in
      let atL : (j : ℕ) → get_or L j 0 ≡ seats * get_or v j 0 = at_map (λ x. seats * x) (omega arith) v in
      let atR : (j : ℕ) → get_or R j 0 ≡ sum v * get_or s j 0 = at_map (λ n. sum v * n) (omega arith) s in
      let strict : (j : ℕ) → InField v j → get_or L j 0 < get_or R j 0 =
      λ j fj. let high = whole_high (seats * get_or v j 0) (sum v) (get_or s j 0) pos (above j fj) in omega (arith, high, atL j, atR j) in
      let weak : (j : ℕ) → get_or L j 0 ≤ get_or R j 0 =
      λ j. elim (cases_lt 0 (get_or v j 0)) [ inl fj ↦ (let l = strict j fj in omega (arith, l)) | inr g ↦ none (get_or v j 0) (get_or L j 0) (get_or R j 0) g (atL j) ] in
      let total = sum_mono_strict L R i weak (strict i f) in
      let eL = sum_times seats v in
      let eR = sum_times (sum v) s in
      elim (cases_lt seats (sum s)) [ inl l ↦ l | inr g ↦ absurd (let low : sum v * sum s ≤ seats * sum v = too_few (sum s) g in omega (arith, total, eL, eR, low)) ] where
        none : (x a b : ℕ) → x ≤ 0 → a ≡ seats * x → a ≤ b
        none zero a b h e = omega arith
        none (suc x) a b h e = absurd (omega arith)

        too_few : (n : ℕ) → n ≤ seats → sum v * n ≤ seats * sum v
        too_few n le = let h : n * sum v ≤ seats * sum v = mul-le-mul_right (sum v) le in omega (arith, h)

  pub room : (i : ℕ) → InField v i → HasRoom (hamilton_ladders prefer v seats) seats
  room i f s on less =
      let P : ℕ → Type 0 = λ j. Has (hamilton_ladders prefer v seats) j (get_or s j 0) → ⊥ in
      let dec : (j : ℕ) → P j ⊎ (P j → ⊥) = λ j.
      elim (decide_Has (hamilton_ladders prefer v seats) j (get_or s j 0)) [ inl h ↦ inr (λ none. none h) | inr none ↦ inl none ] in
      elim (cases_all P dec (length v)) [
        | inr some ↦ (some.0, elim (decide_Has (hamilton_ladders prefer v seats) some.0 (get_or s some.0 0)) [ inl h ↦ h | inr none ↦ absurd (some.1 none) ])
        | inl all ↦
            (let above : (j : ℕ) → InField v j → whole v seats j < get_or s j 0 =
            λ j fj. elim (cases_lt (whole v seats j) (get_or s j 0)) [ inl l ↦ l | inr g ↦ absurd (all j (in_range v j fj) (has_of j (get_or s j 0) fj g)) ] in
            absurd (let many = not_all s i f above in omega (arith, many, less)))
      ]

  whole_outside : (i : ℕ) → get_or v i 0 ≡ 0 → whole v seats i ≡ 0
  whole_outside i z = rw z (no_votes seats (sum v))

  to_top : (s : List ℕ) → IsHamiltonAllocation prefer v seats s → IsTop (hamilton_ladders prefer v seats) seats s
  to_top s h = record {
    on = record {
      same_length = h.same_length ∙ sym (length-map v (λ x. seats * x / sum v));
      above = λ i. elim (cases_lt 0 (get_or v i 0)) [
        | inl f ↦ elim (h.shares i f) [ inl e ↦ omega (arith, e, at_wholes i) | inr e ↦ omega (arith, e, at_wholes i) ]
        | inr g ↦ (let z : get_or v i 0 ≡ 0 = omega arith in omega (arith, whole_outside i z, at_wholes i))
      ];
      there = λ i less. let r = raised i less in has_of i (get_or s i 0 - 1) r.0 (let e = r.1 in omega (arith, e));
    };
    total = h.total;
    min_max = λ i j less next.
        let r = raised i less in
        let n = field_of j (get_or s j 0) next in
        h.largest i j r.0 n.0 r.1 (elim (h.shares j n.0) [ inl e ↦ e | inr e ↦ absurd (let le = n.1 in omega (arith, e, le)) ]);
  } where
    raised : (i : ℕ) → get_or (hamilton_ladders prefer v seats).base i 0 < get_or s i 0 → InField v i × (get_or s i 0 ≡ whole v seats i + 1)
    raised i less =
        elim (cases_lt 0 (get_or v i 0)) [
          | inl f ↦ (f, elim (h.shares i f) [ inl e ↦ absurd (omega (arith, e, less, at_wholes i)) | inr e ↦ e ])
          | inr g ↦ (let z : get_or v i 0 ≡ 0 = omega arith in absurd (omega (arith, h.outside i z, less)))
        ]

  from_top : (s : List ℕ) → IsTop (hamilton_ladders prefer v seats) seats s → IsHamiltonAllocation prefer v seats s
  from_top s h = record {
    same_length = h.on.same_length ∙ length-map v (λ x. seats * x / sum v);
    total = h.total;
    outside = λ i z. elim (cases_lt (get_or (hamilton_ladders prefer v seats).base i 0) (get_or s i 0)) [
      | inl less ↦ absurd (let f = (field_of i (get_or s i 0 - 1) (h.on.there i less)).0 in omega (arith, f, z))
      | inr g ↦ omega (arith, g, whole_outside i z, at_wholes i)
    ];
    shares = λ i f. elim (cases_lt (get_or (hamilton_ladders prefer v seats).base i 0) (get_or s i 0)) [
      | inl less ↦ inr (let le = (field_of i (get_or s i 0 - 1) (h.on.there i less)).1 in omega (arith, le, less, at_wholes i))
      | inr g ↦ inl (omega (arith, g, h.on.above i, at_wholes i))
    ];
    largest = λ i j fi fj ei ej. h.min_max i j (omega (arith, ei, at_wholes i)) (has_of j (get_or s j 0) fj (omega (arith, ej)));
  }

  pub hamilton_tops : HamiltonTops prefer v seats
  hamilton_tops = record {
    falling = falling;
    wholes = at_wholes;
    within = wholes_within;
    room = room;
    tops = λ s. (to_top s, from_top s);
    choice = same_choices (IsHamiltonAllocation prefer v seats) (IsTop (hamilton_ladders prefer v seats) seats) (λ s. (to_top s, from_top s));
  }

  has_room : (IsEmptyField v → seats ≡ 0) → HasRoom (hamilton_ladders prefer v seats) seats
  has_room empty s on less =
      elim (cases_field v) [
        | inl none ↦ absurd (let z = empty none in omega (arith, z, less))
        | inr some ↦ room some.0 some.1 s on less
      ]

  pub hamilton_well_defined : (IsEmptyField v → seats ≡ 0) → IsWellDefined (IsHamiltonAllocation prefer v seats)
  hamilton_well_defined empty =
      well_defined_too (IsTop (hamilton_ladders prefer v seats) seats) (IsHamiltonAllocation prefer v seats) (λ s. (from_top s, to_top s))
      (tops_well_defined (hamilton_ladders prefer v seats) falling seats wholes_within (has_room empty))

pub hamilton_allocations : HamiltonAllocations
hamilton_allocations prefer v seats = (
  (λ some empty. none some.0 some.1 empty, λ can. (hamilton_well_defined prefer v seats can).some),
  hamilton_well_defined prefer v seats,
) where
  none : (s : List ℕ) → IsHamiltonAllocation prefer v seats s → IsEmptyField v → seats ≡ 0
  none s h empty =
      let all = sum_mono s [] (λ i. let z = h.outside i (let f = empty i in elim (cases_lt 0 (get_or v i 0)) [ inl l ↦ absurd (f l) | inr g ↦ omega arith ]) in omega (arith, z)) in
      omega (arith, all, h.total)

pub hamilton_ladders_law : HamiltonLadders
hamilton_ladders_law prefer v seats = hamilton_tops prefer v seats

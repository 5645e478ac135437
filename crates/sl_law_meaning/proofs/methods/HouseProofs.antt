-- The least house: there is one or none, and the settled vectors without minima find it.
use Rattle.std.proofs.Common.{◌≡◌, ℕ, zero, suc, ◌+◌, ◌-◌, ◌<◌, ◌≤◌, ◌⊎◌, max, Bool, true, false, List, [], ◌∷◌, length, get_or, sum, inl, inr, arith, refl, sym, ap, ◌∙◌, subst, cond}
use Rattle.std.specs.Prelude.{nat_eq}
use Rattle.std.proofs.lemmas.Bool.{cases_lt, eq-eqb, ne_eqb}
use Rattle.sl_base_quotients.specs.declared.method.Divisor.{Divisor}
use Rattle.sl_base_quotients.specs.Quotient.{AtMost, quotient}
use Rattle.sl_law_meaning.specs.methods.Field.{InField, IsEmptyField, no_minima}
use Rattle.sl_law_meaning.specs.methods.Allocations.{IsDivisorAllocation}
use Rattle.sl_law_meaning.specs.methods.LeastHouse.{outside_minima, outside_sum, AllMeet, Serves, Growth, GrownTo, EmptyField, AboveCap, IsGrowth, IsGrownAllocation}
use Rattle.sl_law_meaning.specs.laws.MethodLaws.{Growths}
use Rattle.sl_law_meaning.specs.laws.Awards.{free_ladders, GrowthLaws, GrowthBatches}
use Rattle.sl_law_meaning.proofs.methods.SeatSums.{sum-cons, sum_mono, none_needed}
use Rattle.sl_law_meaning.proofs.methods.ListedEntries.{below_next}
use Rattle.sl_law_meaning.proofs.methods.DivisorProofs.{cases_field, divisor_well_defined, free_tops}
use Rattle.sl_law_meaning.proofs.methods.LadderProofs.{batches}
use Rattle.sl_law_meaning.proofs.methods.GrowthProofs.{met, unmet, decide_AllMeet}

-- the least number below a bound of which a fact that can be decided holds
least_of : (P : ℕ → Type 0) → ((i : ℕ) → P i ⊎ (P i → ⊥)) → (n : ℕ) →
    ((i : ℕ) → i < n → P i → ⊥) ⊎ ((i : ℕ) × P i × ((j : ℕ) → P j → i ≤ j))
least_of P dec zero = inl (λ i l p. omega arith)
least_of P dec (suc n) =
    elim (least_of P dec n) [
      | inr some ↦ inr some
      | inl none ↦ elim (dec n) [
        | inr out ↦ inl (below_next (λ i. P i → ⊥) n none out)
        | inl p ↦ inr (n, p, λ j pj. elim (cases_lt j n) [ inl l ↦ absurd (none j l pj) | inr g ↦ g ])
      ]
    ]

module _ (method : Divisor) (v m : List ℕ) (seats cap : ℕ) where
  decide_Serves : (house i : ℕ) → InField v i → Serves method v m seats cap house ⊎ (Serves method v m seats cap house → ⊥)
  decide_Serves house i f =
      elim (cases_lt house (max seats (outside_sum v m))) [
        | inl low ↦ inr (λ h. omega (arith, low, h.from, h.outside))
        | inr enough ↦ elim (cases_lt cap house) [
          | inl high ↦ inr (λ h. omega (arith, high, h.up_to))
          | inr up_to ↦ elim (decide_AllMeet method v m (house - outside_sum v m) i f) [
            | inl all ↦ inl (record { from = omega arith; up_to = up_to; outside = omega arith; met = all })
            | inr none ↦ inr (λ h. none h.met)
          ]
        ]
      ]

  some_growth : (g : Growth) × IsGrowth method v m seats cap g
  some_growth =
      elim (cases_field v) [
        | inl empty ↦ (EmptyField, empty)
        | inr field ↦
            (let nonempty : IsEmptyField v → ⊥ = λ empty. empty field.0 field.1 in
            elim (least_of (λ h. Serves method v m seats cap h) (λ h. decide_Serves h field.0 field.1) (suc cap)) [
              | inl none ↦ (AboveCap, (nonempty, λ h serves. none h (let le = serves.up_to in omega (arith, le)) serves))
              | inr some ↦ (GrownTo some.0, (nonempty, some.1, some.2))
            ])
      ]

  one_growth : (g h : Growth) → IsGrowth method v m seats cap g → IsGrowth method v m seats cap h → h ≡ g
  one_growth (GrownTo a) (GrownTo b) x y = let up = x.2 b y.1 in let down = y.2 a x.1 in let e : b ≡ a = omega (arith, up, down) in ap GrownTo e
  one_growth (GrownTo a) EmptyField x y = absurd (x.0 y)
  one_growth (GrownTo a) AboveCap x y = absurd (y.1 a x.1)
  one_growth EmptyField (GrownTo b) x y = absurd (y.0 x)
  one_growth EmptyField EmptyField x y = refl
  one_growth EmptyField AboveCap x y = absurd (y.0 x)
  one_growth AboveCap (GrownTo b) x y = absurd (x.1 b y.1)
  one_growth AboveCap EmptyField x y = absurd (x.0 y)
  one_growth AboveCap AboveCap x y = refl

pub growths : Growths
growths method v m seats cap = let g = some_growth method v m seats cap in (g.0, g.1, λ h hh. one_growth method v m seats cap g.0 h g.1 hh)

-- the minima outside the field
pub length-outside : (v m : List ℕ) → length m ≡ length v → length (outside_minima v m) ≡ length v
length-outside [] m e = refl
length-outside (x ∷ v) [] e = absurd (omega arith)
length-outside (x ∷ v) (y ∷ m) e = ap (λ n. suc n) (length-outside v m (omega arith))

pub outside_at : (v m : List ℕ) (i : ℕ) → length m ≡ length v → get_or v i 0 ≡ 0 → get_or (outside_minima v m) i 0 ≡ get_or m i 0
outside_at [] [] i e z = refl
outside_at [] (y ∷ m) i e z = absurd (omega arith)
outside_at (x ∷ v) [] i e z = absurd (omega arith)
outside_at (x ∷ v) (y ∷ m) zero e z = ap (λ b. cond {A = ℕ} b y 0) (eq-eqb x 0 z)
outside_at (x ∷ v) (y ∷ m) (suc i) e z = outside_at v m i (omega arith) z

pub outside_in : (v m : List ℕ) (i : ℕ) → InField v i → get_or (outside_minima v m) i 0 ≡ 0
outside_in [] m i f = refl
outside_in (x ∷ v) [] i f = refl
outside_in (x ∷ v) (y ∷ m) zero f = ap (λ b. cond {A = ℕ} b y 0) (ne_eqb x 0 (λ e. omega arith))
outside_in (x ∷ v) (y ∷ m) (suc i) f = outside_in v m i f

-- what a vector gives to the field
abbrev inside : List ℕ → List ℕ → List ℕ
inside (v ∷ vs) (s ∷ ss) = cond (nat_eq v 0) 0 s ∷ inside vs ss
inside vs ss = []

length-inside : (v s : List ℕ) → length s ≡ length v → length (inside v s) ≡ length v
length-inside [] s e = refl
length-inside (x ∷ v) [] e = absurd (omega arith)
length-inside (x ∷ v) (y ∷ s) e = ap (λ n. suc n) (length-inside v s (omega arith))

inside_in : (v s : List ℕ) (i : ℕ) → length s ≡ length v → InField v i → get_or (inside v s) i 0 ≡ get_or s i 0
inside_in [] s i e f = absurd (omega arith)
inside_in (x ∷ v) [] i e f = absurd (omega arith)
inside_in (x ∷ v) (y ∷ s) zero e f = ap (λ b. cond {A = ℕ} b 0 y) (ne_eqb x 0 (λ z. omega arith))
inside_in (x ∷ v) (y ∷ s) (suc i) e f = inside_in v s i (omega arith) f

inside_at : (v s : List ℕ) (i : ℕ) → get_or v i 0 ≡ 0 → get_or (inside v s) i 0 ≡ 0
inside_at [] s i z = refl
inside_at (x ∷ v) [] i z = refl
inside_at (x ∷ v) (y ∷ s) zero z = ap (λ b. cond {A = ℕ} b 0 y) (eq-eqb x 0 z)
inside_at (x ∷ v) (y ∷ s) (suc i) z = inside_at v s i z

parts : (b : Bool) (y : ℕ) → cond {A = ℕ} b 0 y + cond {A = ℕ} b y 0 ≡ y
parts true y = omega arith
parts false y = omega arith

sum_parts : (v s : List ℕ) → length s ≡ length v → sum s ≡ sum (inside v s) + outside_sum v s
sum_parts [] [] e = refl
sum_parts [] (y ∷ s) e = absurd (omega arith)
sum_parts (x ∷ v) [] e = absurd (omega arith)
sum_parts (x ∷ v) (y ∷ s) e =
    let rest = sum_parts v s (omega arith) in
    omega (arith, rest, parts (nat_eq x 0) y, sum-cons y s, sum-cons (cond (nat_eq x 0) 0 y) (inside v s), sum-cons (cond (nat_eq x 0) y 0) (outside_minima v s))

module _ (method : Divisor) (v m : List ℕ) (e : length m ≡ length v) where
  module _ (house : ℕ) (s : List ℕ) (h : IsGrownAllocation method v m house s) where
    same_outside : (i : ℕ) → get_or (outside_minima v s) i 0 ≡ get_or (outside_minima v m) i 0
    same_outside i =
        elim (cases_lt 0 (get_or v i 0)) [
          | inl f ↦ outside_in v s i f ∙ sym (outside_in v m i f)
          | inr g ↦ (let z : get_or v i 0 ≡ 0 = omega arith in outside_at v s i h.same_length z ∙ h.outside i z)
        ]

    same_sum : outside_sum v s ≡ outside_sum v m
    same_sum =
        let up = sum_mono (outside_minima v s) (outside_minima v m) (λ i. omega (arith, same_outside i)) in
        let down = sum_mono (outside_minima v m) (outside_minima v s) (λ i. omega (arith, same_outside i)) in
        omega (arith, up, down)

    -- the field's part is an allocation of the other seats, without minima
    field_part : IsDivisorAllocation method v (no_minima v) (house - outside_sum v m) (inside v s)
    field_part = record {
      same_length = length-inside v s h.same_length;
      total = omega (arith, sum_parts v s h.same_length, same_sum, h.total);
      minima = λ i. omega (arith, none_needed (length v) i);
      outside = λ i z. inside_at v s i z ∙ sym (none_needed (length v) i);
      min_max = λ i j fi fj less.
          let ei = inside_in v s i h.same_length fi in
          let ej = inside_in v s j h.same_length fj in
          let fair = h.min_max i j fi fj (omega (arith, less, ei, outside_in v m i fi, none_needed (length v) i)) in
          subst (λ n. AtMost (quotient method (get_or v j 0) n) (quotient method (get_or v i 0) (get_or (inside v s) i 0 - 1))) (sym ej)
          (subst (λ n. AtMost (quotient method (get_or v j 0) (get_or s j 0)) (quotient method (get_or v i 0) (n - 1))) (sym ei) fair);
    }

    meets_all : AllMeet method v m (house - outside_sum v m) → (i : ℕ) → get_or m i 0 ≤ get_or s i 0
    meets_all all i =
        elim (cases_lt 0 (get_or v i 0)) [
          | inl f ↦ (let ok = all (inside v s) field_part i f in omega (arith, ok, inside_in v s i h.same_length f))
          | inr g ↦ (let z : get_or v i 0 ≡ 0 = omega arith in omega (arith, h.outside i z, outside_at v m i e z))
        ]

  pub growing : GrowthLaws method v m
  growing = record {
    met = met method v m;
    unmet = unmet method v m;
    first = λ s peers settled listed i f short t h meets seats.
        let made = ((batches (free_ladders method v) (free_tops method v).falling).batch s peers settled listed).all t h in (
          λ all. let le = unmet method v m s peers settled listed i f short seats all in let total = made.1 in omega (arith, le, total),
          met method v m t made.0 meets seats,
        );
    one_each = length-outside v m e;
    house = λ least iff i f seats cap le. (
      λ empty. empty i f,
      record { from = omega arith; up_to = le; outside = omega arith; met = (iff (max seats (outside_sum v m + least) - outside_sum v m)).1 (omega arith) },
      λ h serves. least_serves least seats cap h serves ((iff (h - outside_sum v m)).0 serves.met),
    );
    above_cap = λ low lower i f seats cap less. (
      λ empty. empty i f,
      λ h serves. let le = least_serves low seats cap h serves (lower (h - outside_sum v m) serves.met) in let up = serves.up_to in omega (arith, le, up, less),
    );
    seats_meet = λ seats cap house serves s h i. meets_all house s h serves.met i;
    minima_fit = λ seats cap house serves i f.
        let some = (divisor_well_defined method v (outside_minima v m) (length-outside v m e) house serves.outside (λ empty. absurd (empty i f))).some in
        let all = sum_mono m some.0 (meets_all house some.0 some.1 serves.met) in
        omega (arith, all, some.1.total);
  } where
    least_serves : (low seats cap h : ℕ) → Serves method v m seats cap h → low ≤ h - outside_sum v m → max seats (outside_sum v m + low) ≤ h
    least_serves low seats cap h serves le = let from = serves.from in let outside = serves.outside in omega (arith, from, outside, le)

pub growth_batches : GrowthBatches
growth_batches method v m e = growing method v m e

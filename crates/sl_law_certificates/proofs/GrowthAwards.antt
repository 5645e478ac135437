-- What is shown of a growth is its award, and something told shows it.
use Rattle.std.proofs.Common.{◌≡◌, ℕ, zero, suc, ◌+◌, ◌-◌, ◌<◌, ◌≤◌, ◌⊎◌, ◌&&◌, ◌||◌, Bool, true, false, not, List, [], ◌∷◌, Some, None, length, get_or, sum, max, cond, inl, inr, arith, refl, sym, ap, ◌∙◌, subst, nat_eq, nat_lt, nat_le}
use Rattle.std.specs.Prelude.{if◌then◌else◌}
use Rattle.std.proofs.lemmas.Bool.{eqb-true, eqb-false, ltb-true, leb-true, eq-eqb, ne_eqb, lt-ltb, le-ltb, le-leb, cases_lt, cases_eq, and_parts, and_from, or_cases, or_left, or_right}
use Rattle.std.proofs.lemmas.Bool.{not-true, not-false, not_from_true, not_from_false, false_from_ne_true, true_from_ne_false}
use Rattle.std.proofs.lemmas.Option.{same_Some, none-some}
use Rattle.sl_base_quotients.specs.declared.method.Divisor.{Divisor}
use Rattle.sl_base_quotients.specs.Quotient.{Quotient, AtMost, SameQuotient, quotient}
use Rattle.sl_law_meaning.specs.declared.book.Majority.{Majority}
use Rattle.sl_law_meaning.specs.declared.fault.Item.{Item}
use Rattle.sl_law_meaning.specs.declared.fault.FaultKind.TheVariants as fault
use Rattle.sl_law_meaning.specs.methods.Field.{InField, IsEmptyField}
use Rattle.sl_law_meaning.specs.methods.Ties.{Distinct}
use Rattle.sl_law_meaning.specs.methods.LeastHouse.{outside_minima, outside_sum, AllMeet, Serves, Growth, GrownTo, EmptyField, AboveCap, IsGrowth, IsGrownAllocation}
use Rattle.sl_law_meaning.specs.meaning.Splits.{Award, Refused, IsHouseAward, IsGrowthAward}
use Rattle.sl_law_meaning.specs.laws.Ladders.{Ladders, IsTop, divisor_ladders}
use Rattle.sl_law_meaning.specs.laws.Awards.{DivisorTops, free_ladders}
use Rattle.sl_law_meaning.proofs.methods.SeatSums.{sum-cons, sum_mono, length_zeros, none_needed}
use Rattle.sl_law_meaning.proofs.methods.DivisorProofs.{empty_fields, free_tops, divisor_allocations, divisor_ladders_law}
use Rattle.sl_law_meaning.proofs.methods.HouseProofs.{growing, outside_at, outside_in}
use Rattle.sl_law_certificates.specs.Cuts.{Told, is_cut}
use Rattle.sl_law_certificates.specs.Awards.{chosen_award, field_seats, field_told, all_sure, some_last, shown_growth}
use Rattle.sl_law_certificates.specs.Laws.{IsCut, GrowthsAreShown}
use Rattle.sl_law_certificates.proofs.Tests.{if_cases, if_some, if_true, if_false}
use Rattle.sl_law_certificates.proofs.Cuts.{cut_test, winners, IsWonOn}
use Rattle.sl_law_certificates.proofs.CutLaws.{last_cut}
use Rattle.sl_law_certificates.proofs.Splits.{nothing_told, chosen_meant, chosen_found}
use Rattle.sl_law_certificates.proofs.Growths.{sure_meets, unsure, last_least, least_last}

-- ---- the seats of the field

length-field : (v s : List ℕ) → length s ≡ length v → length (field_seats v s) ≡ length v
length-field [] s e = refl
length-field (x ∷ v) [] e = absurd (omega arith)
length-field (x ∷ v) (y ∷ s) e = ap (λ n. suc n) (length-field v s (omega arith))

field_in : (v s : List ℕ) (i : ℕ) → length s ≡ length v → InField v i → get_or (field_seats v s) i 0 ≡ get_or s i 0
field_in [] s i e f = absurd (omega arith)
field_in (x ∷ v) [] i e f = absurd (omega arith)
field_in (x ∷ v) (y ∷ s) zero e f = ap (λ b. cond {A = ℕ} b 0 y) (ne_eqb x 0 (λ z. omega arith))
field_in (x ∷ v) (y ∷ s) (suc i) e f = field_in v s i (omega arith) f

field_out : (v s : List ℕ) (i : ℕ) → get_or v i 0 ≡ 0 → get_or (field_seats v s) i 0 ≡ 0
field_out [] s i z = refl
field_out (x ∷ v) [] i z = refl
field_out (x ∷ v) (y ∷ s) zero z = ap (λ b. cond {A = ℕ} b 0 y) (eq-eqb x 0 z)
field_out (x ∷ v) (y ∷ s) (suc i) z = field_out v s i z

two_parts : (b : Bool) (y : ℕ) → cond {A = ℕ} b 0 y + cond {A = ℕ} b y 0 ≡ y
two_parts true y = omega arith
two_parts false y = omega arith

sum_fields : (v s : List ℕ) → length s ≡ length v → sum s ≡ sum (field_seats v s) + outside_sum v s
sum_fields [] [] e = refl
sum_fields [] (y ∷ s) e = absurd (omega arith)
sum_fields (x ∷ v) [] e = absurd (omega arith)
sum_fields (x ∷ v) (y ∷ s) e =
    let rest = sum_fields v s (omega arith) in
    let first = sum-cons (cond (nat_eq x 0) 0 y) (field_seats v s) in
    let other = sum-cons (cond (nat_eq x 0) y 0) (outside_minima v s) in
    omega (arith, rest, two_parts (nat_eq x 0) y, sum-cons y s, first, other)

module _ (d : Divisor) (v m : List ℕ) (long : length m ≡ length v) where
  abbrev grown : Ladders
  grown = divisor_ladders d v (outside_minima v m)

  pub tops : DivisorTops d v (outside_minima v m)
  tops = divisor_ladders_law d v (outside_minima v m) (growing d v m long).one_each

  -- an allocation of a grown house, and its part in the field
  module _ (house : ℕ) (s : List ℕ) (top : IsTop grown house s) where
    as_many : length s ≡ length v
    as_many = top.on.same_length ∙ (growing d v m long).one_each

    same_outside : (i : ℕ) → get_or (outside_minima v s) i 0 ≡ get_or (outside_minima v m) i 0
    same_outside i =
        elim (cases_lt 0 (get_or v i 0)) [
          | inl f ↦ outside_in v s i f ∙ sym (outside_in v m i f)
          | inr g ↦ (let z : get_or v i 0 ≡ 0 = omega arith in outside_at v s i as_many z ∙ ((tops.tops house s).1 top).outside i z)
        ]

    field_sum : sum (field_seats v s) + outside_sum v m ≡ house
    field_sum =
        let up = sum_mono (outside_minima v s) (outside_minima v m) (λ i. omega (arith, same_outside i)) in
        let down = sum_mono (outside_minima v m) (outside_minima v s) (λ i. omega (arith, same_outside i)) in
        omega (arith, sum_fields v s as_many, up, down, top.total)

    -- who has a seat in the field's part is of the field, with all that it has
    seat_in : (i : ℕ) → get_or (free_ladders d v).base i 0 < get_or (field_seats v s) i 0 → InField v i
    seat_in i less =
        elim (cases_lt 0 (get_or v i 0)) [
          | inl f ↦ f
          | inr g ↦ absurd (let z : get_or v i 0 ≡ 0 = omega arith in omega (arith, less, field_out v s i z))
        ]

    field_cut : (c : Quotient) → IsCut grown (record { seats = s; cut = c }) → is_cut (free_ladders d v) (field_told v (record { seats = s; cut = c })) ≡ true
    field_cut c cut =
        cut_test (free_ladders d v) (field_told v (record { seats = s; cut = c })) (record {
          on = record {
            same_length = length-field v s as_many ∙ sym (length_zeros (length v));
            above = λ i. omega (arith, none_needed (length v) i);
            there = λ i less. lt-ltb 0 (get_or v i 0) (seat_in i less);
          };
          positive = cut.positive;
          won = λ i less.
              let f = seat_in i less in
              let e = field_in v s i as_many f in
              subst (λ n. AtMost c (quotient d (get_or v i 0) (n - 1))) (sym e) (cut.won i (omega (arith, less, e, outside_in v m i f)));
          waits = λ j next.
              let f : InField v j = ltb-true 0 (get_or v j 0) next in
              let e = field_in v s j as_many f in
              subst (λ n. AtMost (quotient d (get_or v j 0) n) c) (sym e) (cut.waits j next);
        })

module _ (d : Divisor) (majority : Majority) (items : List Item) (lot v m : List ℕ) (seats cap : ℕ) (a : Award) (distinct : Distinct lot) (long : length m ≡ length v) where
  abbrev Z : ℕ
  Z = outside_sum v m

  abbrev first : ℕ
  first = max seats (outside_sum v m)

  abbrev shows : Told → Type 0
  shows t = shown_growth d majority items lot v m seats cap t ≡ Some a

  -- ---- what is shown is meant

  pub growth_meant : (t : Told) → shows t → IsGrowthAward d majority items lot v m seats cap a
  growth_meant t h =
      let f = field_told v t in
      let house = sum t.seats in
      elim (if_cases (nat_eq (sum v) 0) (Some (Refused fault.NoList)) _ (Some a) h) [
        | inl empty ↦ record { growth = EmptyField; least = (empty_fields v).1 (eqb-true (sum v) 0 empty.0); comes = sym (same_Some (Refused fault.NoList) a empty.1) }
        | inr field ↦
            (let nonempty : IsEmptyField v → ⊥ = λ none. eqb-false (sum v) 0 field.0 ((empty_fields v).0 none) in
            elim (if_cases (nat_lt cap first) (Some (Refused fault.Cap)) _ (Some a) field.1) [
              | inl over ↦
                  (let less = ltb-true cap first over.0 in
                  record {
                    growth = AboveCap;
                    least = (nonempty, λ other serves. let x = serves.from in let y = serves.outside in let z = serves.up_to in omega (arith, x, y, z, less));
                    comes = sym (same_Some (Refused fault.Cap) a over.1);
                  })
              | inr in_cap ↦ elim (if_cases (not (is_cut (free_ladders d v) f && nat_eq (sum f.seats + Z) house)) None _ (Some a) in_cap.1) [
                | inl not_shown ↦ absurd (none-some a not_shown.1)
                | inr is_shown ↦
                    (let two = and_parts (is_cut (free_ladders d v) f) (nat_eq (sum f.seats + Z) house) (not-false _ is_shown.0) in
                    let total : sum f.seats + Z ≡ house = eqb-true (sum f.seats + Z) house two.1 in
                    elim (if_cases (not (all_sure d v m f)) _ _ (Some a) is_shown.1) [
                      | inl not_sure ↦
                          (let at_cap = if_some (nat_eq house cap) (Some (Refused fault.Cap)) a not_sure.1 in
                          let same : house ≡ cap = eqb-true house cap at_cap.0 in
                          record {
                            growth = AboveCap;
                            least = (
                              nonempty,
                              λ other serves. let x = serves.up_to in
                                  unsure d v m long f two.0 (not-true (all_sure d v m f) not_sure.0) (other - Z) (omega (arith, x, total, same)) serves.met,
                            );
                            comes = sym (same_Some (Refused fault.Cap) a at_cap.1);
                          })
                      | inr sure ↦
                          (let ok = if_some ((nat_le first house && nat_le house cap) && (nat_eq house first || some_last d v m f)) _ a sure.1 in
                          let p = and_parts (nat_le first house && nat_le house cap) (nat_eq house first || some_last d v m f) ok.0 in
                          let q = and_parts (nat_le first house) (nat_le house cap) p.0 in
                          let up : first ≤ house = leb-true first house q.0 in
                          let down : house ≤ cap = leb-true house cap q.1 in
                          let all : AllMeet d v m (sum f.seats) = sure_meets d v m long f two.0 (not-false (all_sure d v m f) sure.0) in
                          let here : sum f.seats ≡ house - Z = omega (arith, total) in
                          record {
                            growth = GrownTo house;
                            least = (
                              nonempty,
                              record { from = omega arith; up_to = down; outside = omega arith; met = subst (λ n. AllMeet d v m n) here all },
                              λ other serves. elim (or_cases (nat_eq house first) (some_last d v m f) p.1) [
                                | inl begins ↦
                                    (let x = serves.from in let y = serves.outside in let z = eqb-true house first begins in omega (arith, x, y, z))
                                | inr last ↦
                                    (let x = last_least d v m long f two.0 last (other - Z) serves.met in let y = serves.outside in omega (arith, x, y, total))
                              ],
                            );
                            comes = chosen_meant (IsGrownAllocation d v m house) (grown d v m long) (tops d v m long).falling items majority lot v house t a distinct
                                (λ c hc. ((tops d v m long).choice house lot c).0 hc) ok.1;
                          })
                    ])
              ]
            ])
      ]

  -- ---- what is meant is shown

  -- past the tests of the field and of the cap
  after_tests : (t : Told) → (IsEmptyField v → ⊥) → first ≤ cap → is_cut (free_ladders d v) (field_told v t) ≡ true → sum (field_seats v t.seats) + Z ≡ sum t.seats →
      (if not (all_sure d v m (field_told v t)) then (if nat_eq (sum t.seats) cap then Some (Refused fault.Cap) else None)
      else if (nat_le first (sum t.seats) && nat_le (sum t.seats) cap) && (nat_eq (sum t.seats) first || some_last d v m (field_told v t))
      then chosen_award (grown d v m long) items majority lot v (sum t.seats) t
      else None) ≡ Some a → shows t
  after_tests t field in_cap is e h =
      if_false (nat_eq (sum v) 0) (Some (Refused fault.NoList)) _ (Some a) (ne_eqb (sum v) 0 (λ z. field ((empty_fields v).1 z)))
      (if_false (nat_lt cap first) (Some (Refused fault.Cap)) _ (Some a) (le-ltb cap first in_cap)
      (if_false (not (is_cut (free_ladders d v) (field_told v t) && nat_eq (sum (field_seats v t.seats) + Z) (sum t.seats))) None _ (Some a)
      (not_from_true _ (and_from _ _ is (eq-eqb _ _ e))) h))

  -- no house up to the cap serves: the cap itself, which somebody is not sure to have a minimum by
  cap_found : (IsEmptyField v → ⊥) → ((h : ℕ) → Serves d v m seats cap h → ⊥) → first ≤ cap → a ≡ Refused fault.Cap → (t : Told) × shows t
  cap_found field none in_cap comes =
      let some = ((divisor_allocations d v (outside_minima v m) cap (growing d v m long).one_each).1 (omega arith, λ empty. absurd (field empty))).some in
      let s : List ℕ = some.0 in
      let top : IsTop (grown d v m long) cap s = ((tops d v m long).tops cap s).0 some.1 in
      let same : sum s ≡ cap = top.total in
      let found = last_cut (grown d v m long) (tops d v m long).falling s (subst (λ n. IsTop (grown d v m long) n s) (sym same) top) in
      let t : Told = record { seats = s; cut = found.0 } in
      let total : sum (field_seats v s) + Z ≡ cap = field_sum d v m long cap s top in
      let is = field_cut d v m long cap s top found.0 found.1 in
      let unmet : all_sure d v m (field_told v t) ≡ false = false_from_ne_true (all_sure d v m (field_told v t)) (λ sure.
      let all = sure_meets d v m long (field_told v t) is sure in
      let here : sum (field_seats v s) ≡ cap - Z = omega (arith, total) in
      none cap (record { from = omega (arith, in_cap); up_to = omega arith; outside = omega (arith, in_cap); met = subst (λ n. AllMeet d v m n) here all })) in (
        t,
        after_tests t field in_cap is (total ∙ sym same)
            (if_true (not (all_sure d v m (field_told v t))) _ _ (Some a) (not_from_false (all_sure d v m (field_told v t)) unmet)
            (if_true (nat_eq (sum s) cap) (Some (Refused fault.Cap)) None (Some a) (eq-eqb (sum s) cap same) (ap Some (sym comes)))),
      )

  -- the least house that serves
  module _ (house : ℕ) (serves : Serves d v m seats cap house) (leastly : (h : ℕ) → Serves d v m seats cap h → house ≤ h) (s : List ℕ) (top : IsTop (grown d v m long) house s) (c : Quotient)
      (cut : IsCut (grown d v m long) (record { seats = s; cut = c }))
      (last : ((i : ℕ) → get_or (outside_minima v m) i 0 < get_or s i 0 → ⊥)
      ⊎ ((i : ℕ) × (get_or (outside_minima v m) i 0 < get_or s i 0) × SameQuotient c (quotient d (get_or v i 0) (get_or s i 0 - 1)))) where
    abbrev f : Told
    f = field_told v (record { seats = s; cut = c })

    is : is_cut (free_ladders d v) f ≡ true
    is = field_cut d v m long house s top c cut

    total : sum f.seats + Z ≡ house
    total = field_sum d v m long house s top

    sure : all_sure d v m f ≡ true
    sure =
        let here : house - Z ≡ sum f.seats = omega (arith, total) in
        let all : AllMeet d v m (sum f.seats) = subst (λ n. AllMeet d v m n) here serves.met in
        true_from_ne_false (all_sure d v m f) (λ none. unsure d v m long f is none (sum f.seats) (omega arith) all)

    last_one : (house ≡ first → ⊥) → some_last d v m f ≡ true
    last_one later =
        let from = serves.from in
        let up_to = serves.up_to in
        let outside = serves.outside in
        elim last [
          | inl nobody ↦
              absurd (let fits = sum_mono s (outside_minima v m) (λ i. let le = nobody i in omega (arith, le)) in let same = top.total in omega (arith, fits, same, later, from, outside))
          | inr one ↦
              (let i = one.0 in
              let have = one.1 in
              let here : InField v i = ltb-true 0 (get_or v i 0) (top.on.there i have) in
              let e = field_in v s i (as_many d v m long house s top) here in
              let won : IsWonOn (free_ladders d v) f i = (
                omega (arith, have, e, none_needed (length v) i),
                subst (λ n. SameQuotient c (quotient d (get_or v i 0) (n - 1))) (sym e) one.2,
              ) in
              least_last d v m long f is i ((winners (free_ladders d v) (free_tops d v).falling f is).has i won) sure (λ met.
              let back : sum f.seats - 1 ≡ house - 1 - Z = omega (arith, total) in
              let le = leastly (house - 1) (record {
                from = omega (arith, later, from, outside);
                up_to = omega (arith, up_to);
                outside = omega (arith, later, from, outside);
                met = subst (λ k. AllMeet d v m k) back met;
              }) in omega (arith, le, later, from, outside)))
        ]

    house_test : ((nat_le first (sum s) && nat_le (sum s) cap) && (nat_eq (sum s) first || some_last d v m f)) ≡ true
    house_test =
        let from = serves.from in
        let up_to = serves.up_to in
        let outside = serves.outside in
        let same = top.total in
        and_from _ _ (and_from _ _ (le-leb first (sum s) (omega (arith, from, outside, same))) (le-leb (sum s) cap (omega (arith, up_to, same))))
        (elim (cases_eq house first) [
          | inl begins ↦ or_left (nat_eq (sum s) first) (some_last d v m f) (eq-eqb (sum s) first (same ∙ begins))
          | inr later ↦ or_right (nat_eq (sum s) first) (some_last d v m f) (last_one later)
        ])

  pub growth_found : (g : Growth) → IsGrowth d v m seats cap g → IsHouseAward d majority items lot v m g a → (t : Told) × shows t
  growth_found EmptyField empty comes =
      (nothing_told, if_true (nat_eq (sum v) 0) (Some (Refused fault.NoList)) _ (Some a) (eq-eqb (sum v) 0 ((empty_fields v).0 empty)) (ap Some (sym comes)))
  growth_found AboveCap none comes =
      elim (cases_lt cap first) [
        | inl over ↦ (
          nothing_told,
          if_false (nat_eq (sum v) 0) (Some (Refused fault.NoList)) _ (Some a) (ne_eqb (sum v) 0 (λ z. none.0 ((empty_fields v).1 z)))
              (if_true (nat_lt cap first) (Some (Refused fault.Cap)) _ (Some a) (lt-ltb cap first over) (ap Some (sym comes))),
        )
        | inr in_cap ↦ cap_found none.0 none.1 in_cap comes
      ]
  growth_found (GrownTo house) least comes =
      let from = least.1.from in
      let up_to = least.1.up_to in
      let outside = least.1.outside in
      let chosen = chosen_found (IsGrownAllocation d v m house) (grown d v m long) (tops d v m long).falling items majority lot v house a (λ c hc. ((tops d v m long).choice house lot c).1 hc) comes in
      let s : List ℕ = chosen.0 in
      let top : IsTop (grown d v m long) house s = chosen.1 in
      let same : sum s ≡ house = top.total in
      let cut = last_cut (grown d v m long) (tops d v m long).falling s (subst (λ n. IsTop (grown d v m long) n s) (sym same) top) in
      let t : Told = record { seats = s; cut = cut.0 } in (
        t,
        after_tests t least.0 (omega (arith, from, up_to, outside))
            (is house least.1 least.2 s top cut.0 cut.1 cut.2) (total house least.1 least.2 s top cut.0 cut.1 cut.2 ∙ sym same)
            (if_false (not (all_sure d v m (field_told v t))) _ _ (Some a) (not_from_true _ (sure house least.1 least.2 s top cut.0 cut.1 cut.2))
            (if_true _ _ _ (Some a) (house_test house least.1 least.2 s top cut.0 cut.1 cut.2)
            (subst (λ n. chosen_award (grown d v m long) items majority lot v n t ≡ Some a) (sym same) (chosen.2 cut.0 cut.1)))),
      )

pub growths_are_shown : GrowthsAreShown
growths_are_shown d majority items lot v m seats cap a distinct long = (
  λ h. growth_found d majority items lot v m seats cap a distinct long h.growth h.least h.comes,
  λ h. growth_meant d majority items lot v m seats cap a distinct long h.0 h.1,
)

-- More further votes than enough: the entry has no fewer seats by them, or its votes do not matter.
use Rattle.std.proofs.Common.{◌≡◌, ◌≢◌, ℕ, ◌+◌, ◌<◌, ◌≤◌, List, length, get_or, sum, inl, inr, arith, sym, ◌∙◌, subst}
use Rattle.std.proofs.lemmas.Bool.{cases_lt, cases_eq}
use Rattle.std.proofs.lemmas.List.{length-set, get_or-set_same, get_or-set_other}
use Rattle.sl_base_quotients.specs.declared.method.Divisor.{Divisor}
use Rattle.sl_base_quotients.specs.Quotient.{quotient}
use Rattle.sl_law_meaning.specs.methods.Field.{InField}
use Rattle.sl_law_meaning.specs.methods.Allocations.{IsDivisorAllocation}
use Rattle.sl_law_meaning.proofs.methods.DivisorProofs.{divisor_allocations}
use Rattle.sl_law_fairness.specs.Votes.{SameField}
use Rattle.sl_law_fairness.proofs.Chains.{in_field}
use Rattle.sl_law_fairness.proofs.Votes.{votes_monotone, first_seats_by_lot}
use Rattle.sl_law_margins.specs.MissingVotes.{with_further, AreEnoughWith}
use Rattle.sl_law_margins.specs.Laws.{EnoughStaysEnough}

module _ (method : Divisor) (v m s : List ℕ) (long : length m ≡ length v) (h : IsDivisorAllocation method v m (sum s) s) (i : ℕ) (within : i < length v) where
  here : (x : ℕ) → get_or (with_further v i x) i 0 ≡ get_or v i 0 + x
  here x = get_or-set_same v i (get_or v i 0 + x) 0 within

  other : (x j : ℕ) → j ≢ i → get_or (with_further v i x) j 0 ≡ get_or v j 0
  other x j ne = get_or-set_other v i j (get_or v i 0 + x) 0 ne

  no_less : (x j : ℕ) → get_or v j 0 ≤ get_or (with_further v i x) j 0
  no_less x j = elim (cases_eq j i) [
    | inl e ↦ subst (λ k. get_or v k 0 ≤ get_or (with_further v i x) k 0) (sym e) (let p = here x in omega (arith, p))
    | inr ne ↦ (let p = other x j ne in omega (arith, p))
  ]

  -- with any further votes there is an allocation
  some_after : (x : ℕ) → (u : List ℕ) × IsDivisorAllocation method (with_further v i x) m (sum s) u
  some_after x =
      let can = (divisor_allocations method v m (sum s) long).0.0 (s, h) in
      let e : length m ≡ length (with_further v i x) = long ∙ sym (length-set v i (get_or v i 0 + x)) in
      (divisor_allocations method (with_further v i x) m (sum s) e).0.1
      (can.0, λ empty. can.1 (λ j f. empty j (let up = no_less x j in omega (arith, f, up))))

  module _ (x y : ℕ) (enough : AreEnoughWith method v m s i x) (more : x < y) (t : List ℕ) (ht : IsDivisorAllocation method (with_further v i y) m (sum s) t)
      (few : get_or t i 0 ≤ get_or s i 0) where
    u : List ℕ
    u = (some_after x).0

    hu : IsDivisorAllocation method (with_further v i x) m (sum s) u
    unfolding u
    hu = (some_after x).1

    fi : InField (with_further v i x) i
    fi = let low = h.minima i in let l = enough u hu in
        in_field method (with_further v i x) m (sum s) u hu i (omega (arith, low, l))

    gain : get_or (with_further v i x) i 0 < get_or (with_further v i y) i 0
    gain = let a = here x in let b = here y in omega (arith, a, b, more)

    others : (j : ℕ) → j ≢ i → get_or (with_further v i y) j 0 ≤ get_or (with_further v i x) j 0
    others j ne = let a = other x j ne in let b = other y j ne in omega (arith, a, b)

    fiy : InField (with_further v i y) i
    fiy = let g = gain in let f = fi in omega (arith, g, f)

    same : SameField (with_further v i x) (with_further v i y)
    same = record {
      same_length = length-set v i (get_or v i 0 + x) ∙ sym (length-set v i (get_or v i 0 + y));
      same_entries = λ j. elim (cases_eq j i) [
        | inl e ↦ (λ f. subst (λ k. InField (with_further v i y) k) (sym e) fiy, λ f. subst (λ k. InField (with_further v i x) k) (sym e) fi)
        | inr ne ↦ (λ f. (let a = other x j ne in let b = other y j ne in omega (arith, a, b, f)), λ f. (let a = other x j ne in let b = other y j ne in omega (arith, a, b, f)))
      ];
    }

    itself : SameField (with_further v i y) (with_further v i y)
    itself = record { same_length = λ k. length (with_further v i y); same_entries = λ j. (λ f. f, λ f. f) }

    no_such : ⊥
    no_such =
        elim (cases_lt 0 (quotient method (get_or (with_further v i y) i 0) (get_or t i 0)).den) [
          | inl finite ↦
              (let le = votes_monotone method (with_further v i x) (with_further v i y) m (sum s) u t hu ht i gain others finite in
              let l = enough u hu in omega (arith, le, l, few))
          | inr none ↦
              (let z : (quotient method (get_or (with_further v i y) i 0) (get_or t i 0)).den ≡ 0 = omega (arith, none) in
              let all = (first_seats_by_lot method (with_further v i y) m (sum s) t ht i fiy z).1 in
              let first = (all (with_further v i y) itself t).0 ht in
              let back = (all (with_further v i x) same t).1 (record {
                same_length = first.same_length ∙ sym same.same_length;
                total = first.total;
                each = λ j. elim (first.each j) [ inl e ↦ inl e | inr f ↦ inr ((same.same_entries j).1 f.0, f.1, f.2) ];
              }) in
              let l = enough t back in omega (arith, l, few))
        ]

pub enough_stays_enough : EnoughStaysEnough
enough_stays_enough method v m s long h i within x y enough le t ht =
    elim (cases_lt (get_or s i 0) (get_or t i 0)) [
      | inl l ↦ l
      | inr few ↦ elim (cases_lt x y) [
        | inl more ↦ absurd (no_such method v m s long h i within x y enough more t ht few)
        | inr g ↦ (let e : y ≡ x = omega (arith, le, g) in enough t (subst (λ n. IsDivisorAllocation method (with_further v i n) m (sum s) t) e ht))
      ]
    ]

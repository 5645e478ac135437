-- Allocations and votes: chains of quotients between two allocations.
use Rattle.std.proofs.Common.{◌≡◌, ℕ, zero, suc, ◌-◌, ◌*◌, ◌<◌, ◌≤◌, List, get_or, inl, inr, arith, refl, sym, ◌∙◌, subst}
use Rattle.std.proofs.lemmas.Bool.{cases_lt, cases_eq}
use Rattle.sl_base_quotients.specs.declared.method.Divisor.{Divisor}
use Rattle.sl_base_quotients.specs.declared.method.Divisor.TheVariants.{Adams, Dean, Hill, Webster, Jefferson}
use Rattle.sl_base_quotients.specs.Quotient.{AtMost, Below, quotient}
use Rattle.sl_base_quotients.specs.inner.QuotientLaws.{quotient_positive, quotient_rises}
use Rattle.sl_base_quotients.proofs.Order.{AtMost-trans}
use Rattle.sl_law_meaning.specs.methods.Field.{InField}
use Rattle.sl_law_meaning.specs.methods.Allocations.{IsDivisorAllocation}
use Rattle.sl_law_meaning.proofs.methods.SeatSums.{some_greater, sum_mono_strict}
use Rattle.sl_law_fairness.specs.Votes.{VotesMonotone, VotesOrdered, SameField, AreFirstSeats, FirstSeatsByLot}
use Rattle.sl_law_fairness.proofs.Chains.{falls_weak, same_den, in_field}
use Rattle.sl_law_fairness.proofs.RelativeVotes.{absolutely_monotone}

pub votes_monotone : VotesMonotone
votes_monotone method v w m seats s t hs ht i gain others finite =
    elim (cases_lt (get_or t i 0) (get_or s i 0)) [
      | inr g ↦ g
      | inl lost ↦
          (let found = some_greater s t i (omega (arith, hs.total, ht.total)) lost in
          let j = found.0 in
          let more : get_or s j 0 < get_or t j 0 = found.1 in
          elim (cases_eq j i) [
            | inl e ↦ absurd (let more' = subst (λ k. get_or s k 0 < get_or t k 0) e more in omega (arith, more', lost))
            | inr ne ↦
                (let le = absolutely_monotone method v w m seats seats s t hs ht i j gain (others j ne) finite lost in
                absurd (omega (arith, le, more)))
          ])
    ]

pub votes_ordered : VotesOrdered
votes_ordered method v m seats s h i j less low finite =
    elim (cases_lt (get_or s i 0) (get_or s j 0)) [
      | inr g ↦ g
      | inl more ↦
          (let mi = h.minima i in
          let above : get_or m j 0 < get_or s j 0 = omega (arith, mi, low, more) in
          let fj = in_field method v m seats s h j above in
          let fi : InField v i = omega (arith, fj, less) in
          let A = quotient method (get_or v i 0) (get_or s i 0) in
          let B = quotient method (get_or v j 0) (get_or s j 0 - 1) in
          let C = quotient method (get_or v j 0) (get_or s i 0) in
          let ab : AtMost A B = h.min_max j i fj fi above in
          let bc : AtMost B C = falls_weak method v j (get_or s i 0) (get_or s j 0 - 1) fj (omega arith) in
          let some : 0 < C.den = omega (arith, finite, same_den method (get_or v j 0) (get_or v i 0) (get_or s i 0)) in
          let ca : Below C A = quotient_rises method (get_or v j 0) (get_or v i 0) (get_or s i 0) less some in
          let ac : AtMost A C = AtMost-trans A B C (quotient_positive method (get_or v j 0) (get_or s j 0 - 1) fj) ab bc in
          absurd (omega (arith, ac, ca)))
    ]

-- a quotient is infinite before a first seat alone, and then for each weight
none_held : (method : Divisor) (w a : ℕ) → (quotient method w a).den ≡ 0 → a ≡ 0
none_held Adams w a z = z
none_held Dean w zero z = refl
none_held Dean w (suc a) z = absurd (omega arith)
none_held Hill w zero z = refl
none_held Hill w (suc a) z = absurd (omega arith)
none_held Webster w a z = absurd (omega arith)
none_held Jefferson w a z = absurd (omega arith)

-- nothing is above an infinite quotient, and nothing finite is no smaller
top_quotient : (a b c d : ℕ) → d ≡ 0 → a * d ≤ c * b
top_quotient a b c d z = rw z (omega arith)

infinite_too : (a b c d : ℕ) → 0 < a → b ≡ 0 → a * d ≤ c * b → d ≡ 0
infinite_too a b c zero pos z le = refl
infinite_too (suc a) b c (suc d) pos z le = absurd (let h : suc a * suc d ≤ c * 0 = rw z at le in omega (arith, h))
infinite_too zero b c (suc d) pos z le = absurd (omega arith)

module _ (method : Divisor) (w m : List ℕ) (seats : ℕ) (t : List ℕ) (h : IsDivisorAllocation method w m seats t)
    (i : ℕ) (fi : InField w i) (infinite : (quotient method (get_or w i 0) (get_or t i 0)).den ≡ 0) where
  -- a last seat beyond a minimum is a first one
  first : (j : ℕ) → get_or m j 0 < get_or t j 0 → (quotient method (get_or w j 0) (get_or t j 0 - 1)).den ≡ 0
  first j less =
      let fj = in_field method w m seats t h j less in
      let A = quotient method (get_or w i 0) (get_or t i 0) in
      let B = quotient method (get_or w j 0) (get_or t j 0 - 1) in
      infinite_too A.num A.den B.num B.den (quotient_positive method (get_or w i 0) (get_or t i 0) fi) infinite (h.min_max j i fj fi less)

  one : (j : ℕ) → get_or m j 0 < get_or t j 0 → get_or t j 0 ≡ 1
  one j less = let z = none_held method (get_or w j 0) (get_or t j 0 - 1) (first j less) in omega (arith, z, less)

  no_seat : get_or t i 0 ≡ 0
  no_seat = none_held method (get_or w i 0) (get_or t i 0) infinite

  -- whatever the weight, the quotient of a first seat is infinite
  first_infinite : (x a : ℕ) → a ≡ 0 → (quotient method x a).den ≡ 0
  first_infinite x a z =
      same_den method x (get_or w i 0) a ∙ subst (λ n. (quotient method (get_or w i 0) n).den ≡ 0) (no_seat ∙ sym z) infinite

  module _ (v : List ℕ) (same : SameField v w) (s : List ℕ) where
    module _ (hs : IsDivisorAllocation method v m seats s) where
      -- a second seat of j comes after all first seats
      no_fewer : (j : ℕ) → get_or m j 0 < get_or s j 0 → 1 < get_or s j 0 → (k : ℕ) → get_or t k 0 ≤ get_or s k 0
      no_fewer j above second k =
          let low = hs.minima k in
          elim (cases_lt (get_or m k 0) (get_or t k 0)) [
            | inr g ↦ omega (arith, low, g)
            | inl less ↦ elim (cases_lt 0 (get_or s k 0)) [
              | inl some ↦ (let e = one k less in omega (arith, e, some))
              | inr none ↦
                  (let vj = in_field method v m seats s hs j above in
                  let vk = (same.same_entries k).1 (in_field method w m seats t h k less) in
                  let A = quotient method (get_or v k 0) (get_or s k 0) in
                  let B = quotient method (get_or v j 0) (get_or s j 0 - 1) in
                  let z = none_held method (get_or v j 0) (get_or s j 0 - 1)
                  (infinite_too A.num A.den B.num B.den (quotient_positive method (get_or v k 0) (get_or s k 0) vk)
                  (first_infinite (get_or v k 0) (get_or s k 0) (omega arith)) (hs.min_max j k vj vk above)) in
                  absurd (omega (arith, z, second)))
            ]
          ]

      only_first : (j : ℕ) → get_or m j 0 < get_or s j 0 → get_or s j 0 ≡ 1
      only_first j above =
          elim (cases_lt 1 (get_or s j 0)) [
            | inr g ↦ omega (arith, g, above)
            | inl second ↦
                (let here : get_or t j 0 < get_or s j 0 = elim (cases_lt (get_or m j 0) (get_or t j 0)) [
                  | inl less ↦ (let e = one j less in omega (arith, e, second))
                  | inr g ↦ omega (arith, g, above)
                ] in
                absurd (let more = sum_mono_strict t s j (no_fewer j above second) here in omega (arith, more, h.total, hs.total)))
          ]

      only : AreFirstSeats v m seats s
      only = record {
        same_length = hs.same_length;
        total = hs.total;
        each = λ j. elim (cases_lt (get_or m j 0) (get_or s j 0)) [
          | inl above ↦ inr (let e = only_first j above in (in_field method v m seats s hs j above, omega (arith, e, above), e))
          | inr g ↦ inl (let low = hs.minima j in omega (arith, low, g))
        ];
      }

    each : AreFirstSeats v m seats s → IsDivisorAllocation method v m seats s
    each hf = record {
      same_length = hf.same_length;
      total = hf.total;
      minima = λ j. elim (hf.each j) [ inl e ↦ omega (arith, e) | inr f ↦ (let z = f.1 in omega (arith, z)) ];
      outside = λ j z. elim (hf.each j) [ inl e ↦ e | inr f ↦ absurd (let some = f.0 in omega (arith, some, z)) ];
      min_max = λ p q fp fq above.
          let last : get_or s p 0 - 1 ≡ 0 = elim (hf.each p) [ inl e ↦ absurd (omega (arith, e, above)) | inr f ↦ (let e = f.2 in omega (arith, e)) ] in
          let A = quotient method (get_or v q 0) (get_or s q 0) in
          let B = quotient method (get_or v p 0) (get_or s p 0 - 1) in
          top_quotient A.num A.den B.num B.den (first_infinite (get_or v p 0) (get_or s p 0 - 1) last);
    }

pub first_seats_by_lot : FirstSeatsByLot
first_seats_by_lot method w m seats t h i fi infinite = (
  no_seat method w m seats t h i fi infinite,
  λ v same s. (only method w m seats t h i fi infinite v same s, each method w m seats t h i fi infinite v same s),
)

-- Minima in the field, by seats with a cut that were awarded without them.
use Rattle.std.proofs.Common.{◌≡◌, ℕ, ◌+◌, ◌-◌, ◌<◌, ◌≤◌, ◌&&◌, ◌||◌, true, false, not, List, length, get_or, sum, inl, inr, arith, subst, nat_lt, nat_le}
use Rattle.std.specs.Prelude.{Contains}
use Rattle.std.specs.List.{range_with_len}
use Rattle.std.proofs.lemmas.Bool.{eqb-true, eqb-false, ltb-true, ltb-false, leb-true, leb-false, lt-ltb, cases_Bool, and_parts, and_cases, or_cases, or_parts}
use Rattle.std.proofs.lemmas.Bool.{both_ways, not-true, not-false, false_from_ne_true, true_from_ne_false}
use Rattle.std.proofs.lemmas.List.Folds.{Any-from_list_any, list_any_at}
use Rattle.std.proofs.lemmas.List.FromFn.{length-range_with_len, get_or-range_with_len}
use Rattle.sl_base_quotients.specs.declared.method.Divisor.{Divisor}
use Rattle.sl_law_meaning.specs.methods.Field.{InField}
use Rattle.sl_law_meaning.specs.methods.LeastHouse.{AllMeet}
use Rattle.sl_law_meaning.specs.laws.Ladders.{Ladders, AreFalling}
use Rattle.sl_law_meaning.specs.laws.Awards.{free_ladders, GrowthLaws}
use Rattle.sl_law_meaning.proofs.methods.SeatSums.{length_zeros, none_needed}
use Rattle.sl_law_meaning.proofs.methods.RaisedSeats.{cases_Contains}
use Rattle.sl_law_meaning.proofs.methods.DrawnLots.{fits_in}
use Rattle.sl_law_meaning.proofs.methods.TieLaw.{below_length}
use Rattle.sl_law_meaning.proofs.methods.ManyBatches.{list_peers, some_peer}
use Rattle.sl_law_meaning.proofs.methods.DivisorProofs.{in_range, free_tops}
use Rattle.sl_law_meaning.proofs.methods.HouseProofs.{growing}
use Rattle.sl_law_certificates.specs.Cuts.{Told, entries, is_cut, is_won_on, won_on, all_on, is_clear}
use Rattle.sl_law_certificates.specs.Awards.{is_sure, all_sure, is_last, some_last}
use Rattle.sl_law_certificates.proofs.Tests.{all_below, some_fails}
use Rattle.sl_law_certificates.proofs.Cuts.{cut, winners, both, won_test, test_won, some_won, won_distinct, all_distinct, clear_settled, low, low_at, low_other, low_sum, low_settled, low_peers}
use Rattle.sl_law_certificates.proofs.Choices.{fewer}

module _ (d : Divisor) (v m : List ℕ) (long : length m ≡ length v) (f : Told) (is : is_cut (free_ladders d v) f ≡ true) where
  abbrev free : Ladders
  free = free_ladders d v

  law : AreFalling free
  law = (free_tops d v).falling

  laws : GrowthLaws d v m
  laws = growing d v m long

  abbrev under : List ℕ
  under = low free law f is

  base_zero : (i : ℕ) → get_or free.base i 0 ≡ 0
  base_zero i = none_needed (length v) i

  unmet : (k : ℕ) → Contains (won_on free f) k → (i : ℕ) → InField v i → get_or under i 0 < get_or m i 0 → (seats : ℕ) → AllMeet d v m seats →
      sum under + length (all_on free f) ≤ seats
  unmet k ck i field short seats all =
      laws.unmet under (all_on free f) (low_settled free law f is) (low_peers free law f is k ck) i field short seats all

  under_most : (i : ℕ) → get_or under i 0 ≤ get_or f.seats i 0
  under_most i =
      elim (cases_Contains (won_on free f) i) [
        | inl ci ↦ omega (arith, low_at free law f is i ci)
        | inr out ↦ omega (arith, low_other free law f is i out)
      ]

  -- what it says that an entry of the field is sure
  sure_at : all_sure d v m f ≡ true → (i : ℕ) → InField v i →
      ((nat_le (get_or m i 0) (get_or f.seats i 0) && ((is_clear free f || not (is_won_on free f i)) || nat_lt (get_or m i 0) (get_or f.seats i 0))) ≡ true)
  sure_at all i field =
      let within : i < length free.base = omega (arith, in_range v i field, length_zeros (length v)) in
      elim (or_cases (not (nat_lt 0 (get_or v i 0))) _ (all_below (is_sure d v m f) (length free.base) all i within)) [
        | inl out ↦ absurd (both_ways (nat_lt 0 (get_or v i 0)) (not-true (nat_lt 0 (get_or v i 0)) out) (lt-ltb 0 (get_or v i 0) field))
        | inr h ↦ h
      ]

  -- where all are sure, every allocation of that many seats meets the minima
  pub sure_meets : all_sure d v m f ≡ true → AllMeet d v m (sum f.seats)
  sure_meets all =
      elim (cases_Bool (is_clear free f)) [
        | inl clear ↦
            laws.met f.seats (clear_settled free law f is clear) (λ i field. leb-true _ _ (and_parts _ _ (sure_at all i field)).0) (sum f.seats) (omega arith)
        | inr tie ↦ laws.met under (low_settled free law f is) (in_tie tie) (sum f.seats) (omega (arith, low_sum free law f is))
      ] where
        in_tie : is_clear free f ≡ false → (i : ℕ) → InField v i → get_or m i 0 ≤ get_or under i 0
        in_tie tie i field =
            let here = and_parts _ _ (sure_at all i field) in
            let le : get_or m i 0 ≤ get_or f.seats i 0 = leb-true _ _ here.0 in
            elim (cases_Contains (won_on free f) i) [
              | inr out ↦ omega (arith, le, low_other free law f is i out)
              | inl ci ↦ elim (or_cases (is_clear free f || not (is_won_on free f i)) _ here.1) [
                | inr more ↦ (let less = ltb-true _ _ more in omega (arith, less, low_at free law f is i ci))
                | inl either ↦ absurd (elim (or_cases (is_clear free f) _ either) [
                  | inl clear ↦ both_ways (is_clear free f) tie clear
                  | inr none ↦
                      both_ways (is_won_on free f i) (not-true (is_won_on free f i) none) (won_test free law f is i ((winners free law f is).has_only i ci))
                ])
              ]
            ]

  -- where one is not, so many seats and fewer do not meet them
  pub unsure : all_sure d v m f ≡ false → (seats : ℕ) → seats ≤ sum f.seats → AllMeet d v m seats → ⊥
  unsure none seats few all =
      let found = some_fails (is_sure d v m f) (length free.base) none in
      let i = found.0 in
      let parts = or_parts (not (nat_lt 0 (get_or v i 0))) _ found.2 in
      let field : InField v i = ltb-true 0 (get_or v i 0) (not-false (nat_lt 0 (get_or v i 0)) parts.0) in
      elim (and_cases (nat_le (get_or m i 0) (get_or f.seats i 0)) _ parts.1) [
        | inl below ↦
            (let short : get_or f.seats i 0 < get_or m i 0 = leb-false (get_or m i 0) (get_or f.seats i 0) below in
            elim (cases_Bool (is_clear free f)) [
              | inl clear ↦
                  (let listed = list_peers free law f.seats in
                  let le = laws.unmet f.seats listed.0 (clear_settled free law f is clear) listed.1 i field short seats all in
                  let some = some_peer free law f.seats listed.0 listed.1 i (lt-ltb 0 (get_or v i 0) field) in
                  omega (arith, le, some, few))
              | inr tie ↦ tie_short tie i field (omega (arith, under_most i, short))
            ])
        | inr rest ↦
            (let two = or_parts (is_clear free f || not (is_won_on free f i)) _ rest in
            let first = or_parts (is_clear free f) _ two.0 in
            let won = test_won free law f is i (not-false (is_won_on free f i) first.1) in
            let have = won.0 in
            let le : get_or f.seats i 0 ≤ get_or m i 0 = ltb-false (get_or m i 0) (get_or f.seats i 0) two.1 in
            let less = low_at free law f is i ((winners free law f is).has i won) in
            tie_short first.0 i field (omega (arith, less, le, have, base_zero i)))
      ] where
        tie_short : is_clear free f ≡ false → (i : ℕ) → InField v i → get_or under i 0 < get_or m i 0 → ⊥
        tie_short tie i field short =
            let w = some_won free law f is tie in
            let le = unmet w.0 w.1 i field short seats all in
            omega (arith, le, fewer free law f is tie, low_sum free law f is, few)

  -- where an entry has just its minimum by a last seat, fewer seats do not meet them
  pub last_least : some_last d v m f ≡ true → (seats : ℕ) → AllMeet d v m seats → sum f.seats ≤ seats
  last_least last seats all =
      let found = Any-from_list_any (is_last d v m f) (entries free) last in
      let i = found.1 in
      let p = and_parts _ _ found.4 in
      let won = test_won free law f is i p.0 in
      let ci = (winners free law f is).has i won in
      let just : get_or f.seats i 0 ≡ get_or m i 0 = eqb-true _ _ p.1 in
      let field : InField v i = ltb-true 0 (get_or v i 0) ((cut free law f is).on.there i won.0) in
      let have = won.0 in
      let le = unmet i ci i field (omega (arith, low_at free law f is i ci, just, have, base_zero i)) seats all in
      let within : (j : ℕ) → Contains (won_on free f) j → Contains (all_on free f) j =
      λ j cj. (both free law f is).has j (inl ((winners free law f is).has_only j cj)) in
      let fits = fits_in (won_on free f) (all_on free f) (won_distinct free law f is) (all_distinct free law f is) within in
      omega (arith, le, fits, low_sum free law f is)

  -- and where a seat less does not meet them all, there is such a seat
  pub least_last : (k : ℕ) → Contains (won_on free f) k → all_sure d v m f ≡ true → (AllMeet d v m (sum f.seats - 1) → ⊥) → some_last d v m f ≡ true
  least_last k ck all fails =
      let some = ck.1 in
      true_from_ne_false (some_last d v m f) (λ none. fails (laws.met under (low_settled free law f is) (met none) (sum f.seats - 1) (omega (arith, some, low_sum free law f is))))
    where
      not_last : some_last d v m f ≡ false → (i : ℕ) → get_or free.base i 0 < get_or f.seats i 0 → is_last d v m f i ≡ false
      not_last none i less =
          false_from_ne_true (is_last d v m f i) (λ so.
          let n = length free.base in
          let w = below_length f.seats i (get_or free.base i 0) less in
          let within : i < n = omega (arith, w, (cut free law f is).on.same_length) in
          let e : i ≡ get_or (range_with_len 0 n) i 0 = omega (arith, get_or-range_with_len 0 n i 0 within) in
          both_ways (some_last d v m f) none
          (list_any_at (is_last d v m f) (range_with_len 0 n) i 0 (omega (arith, within, length-range_with_len 0 n))
          (subst (λ j. is_last d v m f j ≡ true) e so)))

      met : some_last d v m f ≡ false → (i : ℕ) → InField v i → get_or m i 0 ≤ get_or under i 0
      met none i field =
          let le : get_or m i 0 ≤ get_or f.seats i 0 = leb-true _ _ (and_parts _ _ (sure_at all i field)).0 in
          elim (cases_Contains (won_on free f) i) [
            | inr out ↦ omega (arith, le, low_other free law f is i out)
            | inl ci ↦
                (let won = (winners free law f is).has_only i ci in
                elim (and_cases (is_won_on free f i) _ (not_last none i won.0)) [
                  | inl unwon ↦ absurd (both_ways (is_won_on free f i) unwon (won_test free law f is i won))
                  | inr other ↦ (let ne = eqb-false (get_or f.seats i 0) (get_or m i 0) other in omega (arith, le, ne, low_at free law f is i ci))
                ])
          ]

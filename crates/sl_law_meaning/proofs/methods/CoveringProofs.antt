-- The sets of winners to be seated are the tops of ladders with one place each.
use Rattle.std.proofs.Common.{◌≡◌, ℕ, ◌+◌, ◌-◌, ◌*◌, ◌<◌, ◌≤◌, List, length, get_or, sum, replicate, inl, inr, arith, sym, ◌∙◌}
use Rattle.std.specs.Prelude.{nat_lt, nat_eq}
use Rattle.std.proofs.lemmas.Bool.{cases_lt, lt-ltb, ltb-true, eq-eqb, eqb-true, and_parts, and_from}
use Rattle.std.proofs.lemmas.List.{get_or-replicate, get_or_past}
use Rattle.std.proofs.lemmas.List.Folds.{sum_by-replicate}
use Rattle.sl_law_meaning.specs.methods.Covering.{IsCovering}
use Rattle.sl_law_meaning.specs.methods.Ties.{IsWellDefined}
use Rattle.sl_law_meaning.specs.laws.Ladders.{Has, AreFalling, IsTop, HasRoom, covering_ladders}
use Rattle.sl_law_meaning.specs.laws.MethodLaws.{AllHaveVotes, Coverings, FullCoverings}
use Rattle.sl_law_meaning.specs.laws.Awards.{CoveringTops, CoveringLadders}
use Rattle.sl_law_meaning.proofs.methods.SeatSums.{sum_mono_strict, none_needed, length_zeros, sum_zeros, full, at_most_length}
use Rattle.sl_law_meaning.proofs.methods.ListedEntries.{cases_all}
use Rattle.sl_law_meaning.proofs.methods.ManyBatches.{tops_well_defined}
use Rattle.sl_law_meaning.proofs.methods.TieLaw.{below_length}
use Rattle.sl_law_meaning.proofs.methods.ChoiceLaw.{same_choices, well_defined_too}

module _ (first valid : List ℕ) where
  winner_of : (i a : ℕ) → Has (covering_ladders first valid) i a → (i < length first) × (a ≡ 0)
  winner_of i a h =
      let parts = and_parts (nat_lt i (length first)) (nat_eq a 0) h in (ltb-true i (length first) parts.0, eqb-true a 0 parts.1)

  has_of : (i a : ℕ) → i < length first → a ≡ 0 → Has (covering_ladders first valid) i a
  has_of i a l e = and_from (nat_lt i (length first)) (nat_eq a 0) (lt-ltb i (length first) l) (eq-eqb a 0 e)

  falling : AllHaveVotes first → AreFalling (covering_ladders first valid)
  falling votes = record {
    within = λ i a h. let l = (winner_of i a h).0 in omega (arith, l, length_zeros (length first));
    positive = λ i a h. votes i (winner_of i a h).0;
    no_gap = λ i a low h. let z = (winner_of i (a + 1) h).1 in absurd (omega (arith, z));
    falls = λ i a low h. let z = (winner_of i (a + 1) h).1 in absurd (omega (arith, z));
  }

  room : (seats : ℕ) → seats ≤ length first → HasRoom (covering_ladders first valid) seats
  room seats le s on less =
      elim (cases_all (λ i. 0 < get_or s i 0) (λ i. elim (cases_lt 0 (get_or s i 0)) [ inl l ↦ inl l | inr g ↦ inr (λ l. omega arith) ]) (length s)) [
        | inl all ↦ absurd (let many = full s all in omega (arith, many, less, le, on.same_length, length_zeros (length first)))
        | inr some ↦
            (let i = some.0 in
            (i, has_of i (get_or s i 0) (omega (arith, some.2, on.same_length, length_zeros (length first))) (omega (arith, some.1))))
      ]

  to_top : (seats : ℕ) (s : List ℕ) → IsCovering first valid seats s → IsTop (covering_ladders first valid) seats s
  to_top seats s h = record {
    on = record {
      same_length = h.same_length ∙ sym (length_zeros (length first));
      above = λ i. omega (arith, none_needed (length first) i);
      there = λ i less. has_of i (get_or s i 0 - 1) (let l = below_length s i 0 (omega (arith, less)) in omega (arith, l, h.same_length)) (omega (arith, h.one_place i));
    };
    total = h.total;
    min_max = λ i j less next.
        let n = winner_of j (get_or s j 0) next in
        let z = none_needed (length first) i in
        h.largest i j (omega (arith, h.one_place i, less)) n.0 n.1;
  }

  from_top : (seats : ℕ) (s : List ℕ) → IsTop (covering_ladders first valid) seats s → IsCovering first valid seats s
  from_top seats s h = record {
    same_length = h.on.same_length ∙ length_zeros (length first);
    total = h.total;
    one_place = λ i. elim (cases_lt 1 (get_or s i 0)) [
      | inl l ↦ absurd (let z = (winner_of i (get_or s i 0 - 1) (h.on.there i (omega (arith, none_needed (length first) i)))).1 in omega (arith, z, l))
      | inr g ↦ g
    ];
    largest = λ i j e l z. h.min_max i j (omega (arith, none_needed (length first) i)) (has_of j (get_or s j 0) l z);
  }

  pub covering_tops : AllHaveVotes first → CoveringTops first valid
  covering_tops votes = record {
    falling = falling votes;
    room = room;
    tops = λ seats s. (to_top seats s, from_top seats s);
    choice = λ seats. same_choices (IsCovering first valid seats) (IsTop (covering_ladders first valid) seats) (λ s. (to_top seats s, from_top seats s));
  }

  pub covering_well_defined : (seats : ℕ) → AllHaveVotes first → seats ≤ length first → IsWellDefined (IsCovering first valid seats)
  covering_well_defined seats votes le =
      well_defined_too (IsTop (covering_ladders first valid) seats) (IsCovering first valid seats) (λ s. (from_top seats s, to_top seats s))
      (tops_well_defined (covering_ladders first valid) (falling votes) seats (omega (arith, sum_zeros (length first))) (room seats le))

pub coverings : Coverings
coverings first valid seats votes = (
  (λ some. few some.0 some.1, λ le. (covering_well_defined first valid seats votes le).some),
  covering_well_defined first valid seats votes,
) where
  few : (s : List ℕ) → IsCovering first valid seats s → seats ≤ length first
  few s h = let le = at_most_length s h.one_place in omega (arith, le, h.total, h.same_length)

pub full_coverings : FullCoverings
full_coverings first valid s h i l =
    elim (cases_lt (get_or s i 0) 1) [
      | inr g ↦ omega (arith, g, h.one_place i)
      | inl less ↦
          (let n = length first in
          let ones : (j : ℕ) → get_or s j 0 ≤ get_or {A = ℕ} (replicate n 1) j 0 =
          λ j. elim (cases_lt j n) [
            | inl lj ↦ omega (arith, h.one_place j, get_or-replicate {A = ℕ} n j 1 0 lj)
            | inr g ↦ omega (arith, get_or_past s j 0 (omega (arith, h.same_length, g)))
          ] in
          let fewer = sum_mono_strict s (replicate n 1) i ones (omega (arith, less, get_or-replicate {A = ℕ} n i 1 0 l)) in
          let total : sum (replicate n 1) ≡ n * 1 = sum_by-replicate (λ x. x) n 1 in
          absurd (omega (arith, fewer, total, h.total)))
    ]

pub covering_ladders_law : CoveringLadders
covering_ladders_law first valid votes = covering_tops first valid votes

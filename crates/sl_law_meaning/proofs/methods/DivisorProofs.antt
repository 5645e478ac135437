-- The divisor allocations are the tops of their ladders.
use Rattle.std.proofs.Common.{◌≡◌, ℕ, ◌+◌, ◌-◌, ◌<◌, ◌≤◌, ◌⊎◌, List, [], length, get_or, sum, inl, inr, arith, sym, ◌∙◌}
use Rattle.std.proofs.lemmas.Bool.{cases_lt, lt-ltb, ltb-true}
use Rattle.sl_base_quotients.specs.declared.method.Divisor.{Divisor}
use Rattle.sl_law_meaning.specs.methods.Field.{InField, IsEmptyField, no_minima}
use Rattle.sl_law_meaning.specs.methods.Allocations.{IsDivisorAllocation}
use Rattle.sl_law_meaning.specs.methods.Ties.{IsWellDefined}
use Rattle.sl_law_meaning.specs.laws.Ladders.{Has, AreFalling, IsTop, HasRoom, divisor_ladders}
use Rattle.sl_law_meaning.specs.laws.MethodLaws.{EmptyFields, DivisorAllocations}
use Rattle.sl_law_meaning.specs.laws.Awards.{DivisorTops, DivisorLadders}
use Rattle.sl_base_quotients.specs.inner.QuotientLaws.{quotient_positive, quotient_falls}
use Rattle.sl_law_meaning.proofs.methods.SeatSums.{sum_mono, entry_le_sum, length_zeros}
use Rattle.sl_law_meaning.proofs.methods.ListedEntries.{cases_all}
use Rattle.sl_law_meaning.proofs.methods.ManyBatches.{tops_well_defined}
use Rattle.sl_law_meaning.proofs.methods.TieLaw.{below_length}
use Rattle.sl_law_meaning.proofs.methods.ChoiceLaw.{same_choices, well_defined_too}

pub in_range : (v : List ℕ) (i : ℕ) → InField v i → i < length v
in_range v i h = below_length v i 0 h

-- the field is empty, or has an entry
pub cases_field : (v : List ℕ) → IsEmptyField v ⊎ ((i : ℕ) × InField v i)
cases_field v =
    elim (cases_all (λ i. get_or v i 0 ≤ 0) (λ i. elim (cases_lt 0 (get_or v i 0)) [ inl l ↦ inr (λ h. omega arith) | inr g ↦ inl g ]) (length v)) [
      | inl all ↦ inl (λ i f. let z = all i (in_range v i f) in omega (arith, z, f))
      | inr some ↦ inr (some.0, elim (cases_lt 0 (get_or v some.0 0)) [ inl l ↦ l | inr g ↦ absurd (some.1 g) ])
    ]

pub empty_fields : EmptyFields
empty_fields v = (
  λ empty. let all = sum_mono v [] (λ i. let f = empty i in omega (arith, f)) in omega (arith, all),
  λ z i f. let le = entry_le_sum v i in omega (arith, le, z, f),
)

module _ (method : Divisor) (v m : List ℕ) where
  pub field_of : (i a : ℕ) → Has (divisor_ladders method v m) i a → InField v i
  field_of i a h = ltb-true 0 (get_or v i 0) h

  pub has_of : (i a : ℕ) → InField v i → Has (divisor_ladders method v m) i a
  has_of i a f = lt-ltb 0 (get_or v i 0) f

  pub room : (seats i : ℕ) → InField v i → HasRoom (divisor_ladders method v m) seats
  room seats i f s on less = (i, has_of i (get_or s i 0) f)

  module _ (seats : ℕ) (s : List ℕ) where
    to_top : length m ≡ length v → IsDivisorAllocation method v m seats s → IsTop (divisor_ladders method v m) seats s
    to_top e h = record {
      on = record {
        same_length = h.same_length ∙ sym e;
        above = h.minima;
        there = λ i less. has_of i (get_or s i 0 - 1) (in_field i less);
      };
      total = h.total;
      min_max = λ i j less next. h.min_max i j (in_field i less) (field_of j (get_or s j 0) next) less;
    } where
      in_field : (i : ℕ) → get_or m i 0 < get_or s i 0 → InField v i
      in_field i less =
          elim (cases_lt 0 (get_or v i 0)) [ inl f ↦ f | inr g ↦ (let z : get_or v i 0 ≡ 0 = omega arith in absurd (let same = h.outside i z in omega (arith, same, less))) ]

    from_top : length m ≡ length v → IsTop (divisor_ladders method v m) seats s → IsDivisorAllocation method v m seats s
    from_top e h = record {
      same_length = h.on.same_length ∙ e;
      total = h.total;
      minima = h.on.above;
      outside = λ i z. elim (cases_lt (get_or m i 0) (get_or s i 0)) [
        | inl less ↦ absurd (let f = field_of i (get_or s i 0 - 1) (h.on.there i less) in omega (arith, f, z))
        | inr g ↦ (let low = h.on.above i in omega (arith, g, low))
      ];
      min_max = λ i j fi fj less. h.min_max i j less (has_of j (get_or s j 0) fj);
    }

  module _ (e : length m ≡ length v) where
    pub falling : AreFalling (divisor_ladders method v m)
    falling = record {
      within = λ i a h. let l = in_range v i (field_of i a h) in omega (arith, l, e);
      positive = λ i a h. quotient_positive method (get_or v i 0) a (field_of i a h);
      no_gap = λ i a low h. h;
      falls = λ i a low h. quotient_falls method (get_or v i 0) a (field_of i (a + 1) h);
    }

    pub divisor_tops : DivisorTops method v m
    divisor_tops = record {
      falling = falling;
      room = room;
      tops = λ seats s. (to_top seats s e, from_top seats s e);
      choice = λ seats. same_choices (IsDivisorAllocation method v m seats) (IsTop (divisor_ladders method v m) seats) (λ s. (to_top seats s e, from_top seats s e));
    }

    -- without a field the minima alone are on the ladders
    has_room : (seats : ℕ) → (IsEmptyField v → sum m ≡ seats) → HasRoom (divisor_ladders method v m) seats
    has_room seats empty s on less =
        elim (cases_field v) [
          | inl none ↦ absurd (let same = empty none in let all = sum_mono m s (λ i. on.above i) in omega (arith, same, all, less))
          | inr some ↦ (some.0, has_of some.0 (get_or s some.0 0) some.1)
        ]

    pub divisor_well_defined : (seats : ℕ) → sum m ≤ seats → (IsEmptyField v → sum m ≡ seats) → IsWellDefined (IsDivisorAllocation method v m seats)
    divisor_well_defined seats le empty =
        well_defined_too (IsTop (divisor_ladders method v m) seats) (IsDivisorAllocation method v m seats) (λ s. (from_top seats s e, to_top seats s e))
        (tops_well_defined (divisor_ladders method v m) falling seats le (has_room seats empty))

pub divisor_allocations : DivisorAllocations
divisor_allocations method v m seats e = (
  (λ some. only some.0 some.1, λ can. (divisor_well_defined method v m e seats can.0 can.1).some),
  λ can. divisor_well_defined method v m e seats can.0 can.1,
) where
  only : (s : List ℕ) → IsDivisorAllocation method v m seats s → (sum m ≤ seats) × (IsEmptyField v → sum m ≡ seats)
  only s h = (
    (let up = sum_mono m s h.minima in omega (arith, up, h.total)),
    λ empty.
        let up = sum_mono m s h.minima in
        let down = sum_mono s m (λ i. let same = h.outside i (let f = empty i in elim (cases_lt 0 (get_or v i 0)) [ inl l ↦ absurd (f l) | inr g ↦ omega arith ]) in omega (arith, same)) in
        omega (arith, up, down, h.total),
  )

-- without minima
pub free_tops : (method : Divisor) (v : List ℕ) → DivisorTops method v (no_minima v)
free_tops method v = divisor_tops method v (no_minima v) (length_zeros (length v))

pub divisor_ladders_law : DivisorLadders
divisor_ladders_law method v m e = divisor_tops method v m e

-- A divisor between the claims of an allocation is a cut of it.
use Rattle.std.proofs.Common.{ℕ, zero, suc, ◌*◌, ◌-◌, ◌<◌, ◌≤◌, length, get_or, inl, inr, arith, sym, ◌∙◌}
use Rattle.std.proofs.lemmas.Bool.{cases_lt, ltb-true, lt-ltb}
use Rattle.sl_base_quotients.specs.Quotient.{Quotient, quotient}
use Rattle.sl_base_quotients.proofs.Order.{Below-AtMost_weak}
use Rattle.sl_law_meaning.specs.methods.Field.{InField, no_minima}
use Rattle.sl_law_meaning.proofs.methods.SeatSums.{length_zeros, none_needed}
use Rattle.sl_law_meaning.proofs.methods.DivisorProofs.{empty_fields}
use Rattle.sl_law_margins.specs.Divisors.{as_quotient}
use Rattle.sl_law_certificates.specs.Laws.{DivisorIsCut}

-- nothing is below zero
none_below : (n a b : ℕ) → n ≤ 0 → a < n * b → ⊥
none_below zero a b le less = omega (arith, less)
none_below (suc n) a b le less = omega (arith, le)

pub divisor_is_cut : DivisorIsCut
divisor_is_cut method v s d some allocation between =
    let cut = as_quotient method d in
    let field : (i : ℕ) → get_or (no_minima v) i 0 < get_or s i 0 → InField v i = λ i less.
    elim (cases_lt 0 (get_or v i 0)) [
      | inl f ↦ f
      | inr g ↦ absurd (let out = allocation.outside i (omega arith) in omega (arith, out, less))
    ] in
    record {
      on = record {
        same_length = allocation.same_length ∙ sym (length_zeros (length v));
        above = λ i. omega (arith, none_needed (length v) i);
        there = λ i less. lt-ltb 0 (get_or v i 0) (field i less);
      };
      positive = elim (cases_lt 0 cut.num) [
        | inl more ↦ more
        | inr none ↦ absurd (
            let q : ℕ → Quotient = λ i. quotient method (get_or v i 0) (get_or s i 0) in
            let empty = (empty_fields v).0 (λ i f. none_below cut.num ((q i).num * cut.den) (q i).den none (between.above_next i f)) in
            omega (arith, some, empty))
      ];
      won = λ i less. Below-AtMost_weak cut (quotient method (get_or v i 0) (get_or s i 0 - 1)) (between.below_last i (field i less) (omega (arith, less)));
      waits = λ j next. Below-AtMost_weak (quotient method (get_or v j 0) (get_or s j 0)) cut (between.above_next j (ltb-true 0 (get_or v j 0) next));
    }

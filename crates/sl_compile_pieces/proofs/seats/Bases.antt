-- The plans for the first seats of an entry find them.
use Rattle.std.proofs.Common.{◌≡◌, ℕ, ◌*◌, ◌/◌, ◌%◌, ◌≤◌, Bool, false, List, length, All, Option, Some, None, min, sum, slice_get, refl, sym, ap, ◌∙◌, arith, ◌∷◌, []}
use Rattle.std.specs.Prelude.{slice_index}
use Rattle.std.proofs.Math.Nat.{mul-le-mul_right}
use Rattle.sl_base_quotients.specs.declared.limits.TheConstants.{MAX_WEIGHT, MAX_SEATS}
use Rattle.sl_law_meaning.specs.declared.fault.Item.{Item}
use Rattle.sl_law_meaning.specs.returns.Election.{Election}
use Rattle.sl_law_meaning.specs.methods.Field.{InField}
use Rattle.sl_law_meaning.specs.methods.Hamilton.{whole, whole_parts, remainder}
use Rattle.sl_law_meaning.specs.methods.LeastHouse.{outside_minima}
use Rattle.sl_law_meaning.specs.meaning.Scopes.{Group, place}
use Rattle.sl_law_meaning.proofs.methods.HamiltonProofs.{zero_div, at_wholes}
use Rattle.sl_law_meaning.proofs.methods.HouseProofs.{outside_at, outside_in}
use Rattle.sl_law_meaning.proofs.methods.SeatSums.{none_needed, entry_le_sum}
use Rattle.sl_code_instructions.specs.Codes.{CountingCode}
use Rattle.sl_code_semantics.specs.State.{State, with_register}
use Rattle.sl_code_semantics.specs.Effects.{most}
use Rattle.sl_code_semantics.proofs.effects.Registers.{div_does, rem_does, get_does}
use Rattle.sl_compile_plans.specs.Trees.{Tree}
use Rattle.sl_compile_plans.specs.Achieves.{Achieves, Never}
use Rattle.sl_compile_plans.specs.Frames.{may_write_table, may_record_weight}
use Rattle.sl_compile_plans.proofs.Rules.{line_ends, line_goes, if_zero, ends_in, line_first, line_over, achieves_so}
use Rattle.sl_compile_pieces.specs.scopes.Forms.{Form, table_of, votes_of, OnItem}
use Rattle.sl_compile_pieces.specs.scopes.Scopes.{IsEntry}
use Rattle.sl_compile_pieces.specs.declared.registers.TheConstants as reg
use Rattle.sl_compile_pieces.specs.seats.Slots.{Slots, HasMinima}
use Rattle.sl_compile_pieces.specs.seats.Trees.{minimum_base, outside_base, whole_base}
use Rattle.sl_compile_pieces.specs.inner.seats.Filling.{FindsBase, Leaves}
use Rattle.sl_compile_pieces.proofs.seats.Lists.{number_within}

-- ---- what the plans leave as it was

abbrev LeavesEntry : Tree → Type 0
LeavesEntry tree = Leaves (reg.AMOUNT ∷ reg.TOTAL ∷ reg.LEFT ∷ reg.WEIGHT ∷ []) tree × (may_write_table tree ≡ false) × (may_record_weight tree ≡ false)

minimum_leaves : (o : Option ℕ) → LeavesEntry (minimum_base o)
minimum_leaves None = (record { registers = refl; columns = λ slot. refl; party = refl; land = refl; win = refl; placed = refl; steps = refl }, refl, refl)
minimum_leaves (Some _) = (record { registers = refl; columns = λ slot. refl; party = refl; land = refl; win = refl; placed = refl; steps = refl }, refl, refl)

outside_leaves : (o : Option ℕ) → LeavesEntry (outside_base o)
outside_leaves None = (record { registers = refl; columns = λ slot. refl; party = refl; land = refl; win = refl; placed = refl; steps = refl }, refl, refl)
outside_leaves (Some _) = (record { registers = refl; columns = λ slot. refl; party = refl; land = refl; win = refl; placed = refl; steps = refl }, refl, refl)

module _ (c : CountingCode) (e : Election) (x : Slots) (g : Group) (v m : List ℕ) (seats : ℕ) where
  -- ---- minima

  module _ (f : Form) (entry : (j : ℕ) (i : Item) → slice_get g.entries j ≡ Some i → IsEntry e (table_of f) (votes_of f) g.scope i) where
    minimum_at : (o : Option ℕ) → ((slot : ℕ) → o ≡ Some slot → slice_get c.slots slot ≡ Some (votes_of f)) → (j : ℕ) (i : Item) (s : State) → slice_get g.entries j ≡ Some i
        → OnItem i s → HasMinima e g.entries v o s m → Achieves c e (minimum_base o) s (λ t. t.registers reg.BASE ≡ slice_index m j) Never
    minimum_at None known j i s at on minima =
        let none : 0 ≡ slice_index m j = sym (ap (λ (xs : List ℕ). slice_index xs j) minima ∙ none_needed (length v) j) in
        ends_in refl none
    minimum_at (Some slot) known j i s at on minima =
        line_goes (get_does c e s slot (votes_of f) (known slot refl) reg.BASE (place e i) ((entry j i at).cell s on)) (line_ends (minima.at j i at))

    module _ (known : (slot : ℕ) → x.minima ≡ Some slot → slice_get c.slots slot ≡ Some (votes_of f)) where
      -- the minimum of each entry
      pub minimum_finds : FindsBase c e x g v m seats m (λ j n. Unit {0}) (minimum_base x.minima)
      minimum_finds =
          let (leaves, table, weights) = minimum_leaves x.minima in
          record { finds = λ j i s at here minima. achieves_so (minimum_at x.minima known j i s at here.on_item minima) (λ t h. (h, tt)); leaves = leaves; table = table; weights = weights }

      -- the minima outside the field
      pub outside_finds : length m ≡ length v → FindsBase c e x g v m seats (outside_minima v m) (λ j n. Unit {0}) (outside_base x.minima)
      outside_finds long =
          let (leaves, table, weights) = outside_leaves x.minima in
          record {
            finds = λ j i s at here minima.
                if_zero {r = reg.WEIGHT}
                (λ none. achieves_so (minimum_at x.minima known j i s at here.on_item minima) (λ t h. (h ∙ sym (outside_at v m j long (sym here.weight ∙ none)), tt)))
                (λ w some. ends_in refl (sym (outside_in v m j (omega (arith, here.weight, some))), tt));
            leaves = leaves;
            table = table;
            weights = weights;
          }

  -- ---- whole parts

  -- what the register of steps holds then: the remainder of an entry in the field
  abbrev pub Remains : ℕ → ℕ → Type 0
  Remains j n = InField v j → n ≡ remainder v seats j

  whole_at : (j : ℕ) (s : State) → s.registers reg.AMOUNT ≡ seats → s.registers reg.TOTAL ≡ sum v → s.registers reg.WEIGHT ≡ slice_index v j → seats * slice_index v j ≤ most
      → Achieves c e whole_base s (λ t. (t.registers reg.BASE ≡ whole v seats j) × Remains j (t.registers reg.STEP)) Never
  whole_at j s amount total weight fits =
      let n : ℕ = min (s.registers reg.AMOUNT * s.registers reg.WEIGHT) most in
      let w : State = with_register reg.STEP n (with_register reg.BASE n (with_register reg.BASE (s.registers reg.AMOUNT) s)) in
      let exact : n ≡ seats * slice_index v j = rw (amount, weight) (omega (arith, fits)) in
      line_first refl (line_first refl (line_first refl
      (line_over (if_zero {r = reg.TOTAL}
      (λ none.
      let without : slice_index v j ≡ 0 = omega (arith, entry_le_sum v j, none, total) in
      line_ends (no_whole n (slice_index v j) exact without, λ field. absurd (omega (arith, field, without))))
      (λ d some.
      let all : w.registers reg.TOTAL ≡ sum v = total in
      line_goes (div_does c e w reg.BASE reg.TOTAL d some)
      (line_goes (rem_does c e (with_register reg.BASE (n / w.registers reg.TOTAL) w) reg.STEP reg.TOTAL d some)
      (line_ends (
        ap (λ k. k / w.registers reg.TOTAL) exact ∙ ap (λ k. seats * slice_index v j / k) all,
        λ field. ap (λ k. k % w.registers reg.TOTAL) exact ∙ ap (λ k. seats * slice_index v j % k) all,
      ))))))))
    where
      no_whole : (n weight : ℕ) → n ≡ seats * weight → weight ≡ 0 → n ≡ seats * weight / sum v
      no_whole n weight is none =
          let product : seats * weight ≡ 0 = rw none (omega arith) in
          is ∙ product ∙ sym (ap (λ k. k / sum v) product ∙ zero_div (sum v))

  -- the whole part of each entry, and its remainder
  pub whole_finds : (prefer : Bool) → All (λ weight. weight ≤ MAX_WEIGHT) v → seats ≤ MAX_SEATS → FindsBase c e x g v m seats (whole_parts v seats) Remains whole_base
  whole_finds prefer weights few = record {
    finds = λ j i s at here minima.
        let small : slice_index v j ≤ MAX_WEIGHT = number_within MAX_WEIGHT v j weights in
        let high : seats * slice_index v j ≤ MAX_SEATS * slice_index v j = mul-le-mul_right (slice_index v j) few in
        achieves_so (whole_at j s here.amount here.total here.weight (omega (arith, small, high))) (λ t h. (h.0 ∙ sym (at_wholes prefer v seats j), h.1));
    leaves = record { registers = refl; columns = λ slot. refl; party = refl; land = refl; win = refl; placed = refl; steps = refl };
    table = refl;
    weights = refl;
  }

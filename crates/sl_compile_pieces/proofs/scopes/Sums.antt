-- The sum of a column over the entries of a scope.
use Rattle.std.proofs.Common.{◌≡◌, ◌≢◌, ℕ, ◌+◌, length, take, Some, refl, ap, ◌∙◌, arith}
use Rattle.std.specs.Prelude.{min, sum_by, slice_get}
use Rattle.std.proofs.lemmas.List.{take_all}
use Rattle.std.proofs.lemmas.List.Sums.{sum_by_more}
use Rattle.std.proofs.lemmas.Option.{slice_get_within, get_or_from_slice_get}
use Rattle.sl_law_meaning.specs.declared.fault.Item.{Item}
use Rattle.sl_law_meaning.specs.returns.Election.{Election}
use Rattle.sl_law_meaning.specs.meaning.Scopes.{Group, place}
use Rattle.sl_code_instructions.specs.Codes.{CountingCode}
use Rattle.sl_code_semantics.specs.State.{State, with_register}
use Rattle.sl_code_semantics.specs.Effects.{most}
use Rattle.sl_code_semantics.proofs.effects.Registers.{set_does, get_does}
use Rattle.sl_code_semantics.proofs.effects.Storing.{register_same, register_other}
use Rattle.sl_compile_plans.specs.Achieves.{Achieves, Never}
use Rattle.sl_compile_plans.proofs.Rules.{line_ends, line_goes, then_achieves, achieves_so}
use Rattle.sl_compile_pieces.specs.scopes.Forms.{Form, votes_of, table_of, OnScope, OnItem}
use Rattle.sl_compile_pieces.specs.inner.scopes.Walks.{bare, Visits}
use Rattle.sl_compile_pieces.specs.scopes.Scopes.{IsEntry}
use Rattle.sl_compile_pieces.specs.scopes.Sums.{add_cell, EntriesAreSummed}
use Rattle.sl_compile_pieces.proofs.scopes.Forms.{each_entry}
use Rattle.sl_compile_pieces.proofs.scopes.Scopes.{scopes_hold}
use Rattle.sl_compile_pieces.proofs.scopes.Staying.{entries_visited}

module _ (c : CountingCode) (e : Election) (f : Form) (g : Group) (total cell slot : ℕ) (column : ℕ → ℕ) (known : slice_get c.slots slot ≡ Some (votes_of f)) (other : total ≢ cell)
    (entry : (j : ℕ) (i : Item) → slice_get g.entries j ≡ Some i → IsEntry e (table_of f) (votes_of f) g.scope i) where
  first_sum : ℕ → ℕ
  first_sum j = sum_by (λ i. column (place e i)) (take j g.entries)

  record Summed (j : ℕ) (t : State) : Type 0 where
    column_is : t.columns slot ≡ column
    total_is : t.registers total ≡ min (first_sum j) most

  next_sum : (j : ℕ) (i : Item) → slice_get g.entries j ≡ Some i → first_sum (j + 1) ≡ first_sum j + column (place e i)
  unfolding first_sum
  next_sum j i at =
      sum_by_more (λ y. column (place e y)) g.entries j i (slice_get_within g.entries j i at) ∙ ap (λ y. first_sum j + column (place e y)) (get_or_from_slice_get g.entries j i i at)

  one_cell : (j : ℕ) (i : Item) (s : State) → slice_get g.entries j ≡ Some i → OnItem i s → Summed j (bare s) → Achieves c e (add_cell total cell slot) s (λ t. Summed (j + 1) (bare t)) Never
  one_cell j i s at on h =
      let q : ℕ = place e i in
      let x : ℕ = s.columns slot q in
      let u : State = with_register cell x s in
      let read : x ≡ column q = ap (λ (f : ℕ → ℕ). f q) h.column_is in
      let got : u.registers cell ≡ x = register_same s cell x in
      let kept : u.registers total ≡ s.registers total = register_other s cell x total other in
      let next : first_sum (j + 1) ≡ first_sum j + column q = next_sum j i at in
      let sum : min (u.registers total + u.registers cell) most ≡ min (first_sum (j + 1)) most = omega (arith, read, got, kept, next) in
      line_goes (get_does c e s slot (votes_of f) known cell q ((entry j i at).cell s on))
      (line_goes refl
      (line_ends (record { column_is = h.column_is; total_is = register_same u total (min (u.registers total + u.registers cell) most) ∙ sum })))

  visits : Visits c e (add_cell total cell slot) g.entries OnItem Summed Never
  visits = entries_visited (record { party = refl; land = refl; win = refl }) one_cell

  begins : (t : State) → t.columns slot ≡ column → t.registers total ≡ 0 → Summed 0 t
  unfolding first_sum
  begins t is zero_is = let none : 0 ≡ min 0 most = omega arith in record { column_is = is; total_is = zero_is ∙ none }

  ends : (t : State) → Summed (length g.entries) t → t.registers total ≡ min (sum_by (λ i. column (place e i)) g.entries) most
  unfolding first_sum
  ends t h = h.total_is ∙ ap (λ xs. min (sum_by (λ i. column (place e i)) xs) most) (take_all (length g.entries) g.entries (omega arith))

pub entries_are_summed : EntriesAreSummed
entries_are_summed c e f m g total cell slot s at known other on =
    let column : ℕ → ℕ = s.columns slot in
    let entry : (j : ℕ) (i : Item) → slice_get g.entries j ≡ Some i → IsEntry e (table_of f) (votes_of f) g.scope i = (scopes_hold e f m g at).entry in
    let Inv : ℕ → State → Type 0 = Summed c e f g total cell slot column known other entry in
    then_achieves {Q = λ t. OnScope g.scope t × Inv 0 (bare t)}
    (line_goes (set_does c e s total 0) (line_ends (on, begins c e f g total cell slot column known other entry (bare (with_register total 0 s)) refl (register_same s total 0))))
    (λ t h. achieves_so (each_entry c e f m g (add_cell total cell slot) Inv Never t at (visits c e f g total cell slot column known other entry) h.0 h.1)
    (λ u r. (r.0, ends c e f g total cell slot column known other entry (bare u) r.1)))

-- The plan that sums a column over the entries of a scope.
use Rattle.std.specs.Prelude.{◌≡◌, ◌≢◌, ℕ, [], ◌∷◌, min, sum_by, Some, slice_get}
use Rattle.sl_law_meaning.specs.returns.Election.{Election}
use Rattle.sl_law_meaning.specs.meaning.Scopes.{Group, place}
use Rattle.sl_code_instructions.specs.declared.instr.Instr.TheVariants.{Set, Get, Add}
use Rattle.sl_code_instructions.specs.Codes.{CountingCode}
use Rattle.sl_code_semantics.specs.State.{State}
use Rattle.sl_code_semantics.specs.Effects.{most}
use Rattle.sl_compile_plans.specs.Trees.{Tree, Line, Then}
use Rattle.sl_compile_plans.specs.Achieves.{Achieves, Never}
use Rattle.sl_compile_pieces.specs.scopes.Forms.{Form, votes_of, groups_of, entries_plan, OnScope}

-- the register `total` is more by the slot's cell at the cursors, which the register `cell` gets
abbrev pub add_cell : (total cell slot : ℕ) → Tree
add_cell total cell slot = Line (Get cell slot ∷ (Add total cell ∷ []))

abbrev pub sum_plan : Form → (total cell slot : ℕ) → Tree
sum_plan f total cell slot = Then (Line (Set total 0 ∷ [])) (entries_plan f (add_cell total cell slot))

-- the register is the sum of the column's cells at the scope's entries, or the most that a register holds where the sum is more
abbrev pub EntriesAreSummed : Type 0
EntriesAreSummed =
    (c : CountingCode) (e : Election) (f : Form) (m : ℕ) (g : Group) (total cell slot : ℕ) (s : State) → slice_get (groups_of e f) m ≡ Some g →
    slice_get c.slots slot ≡ Some (votes_of f) → total ≢ cell → OnScope g.scope s →
    Achieves c e (sum_plan f total cell slot) s (λ t. OnScope g.scope t × (t.registers total ≡ min (sum_by (λ i. s.columns slot (place e i)) g.entries) most)) Never

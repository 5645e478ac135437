-- A worked plan: the sum of a column over all lists (docs/plans.md, section 8).
use Rattle.std.specs.Prelude.{◌≡◌, ℕ, ◌+◌, ◌*◌, ◌≤◌, [], ◌∷◌, map, Some, slice_get}
use Rattle.std.specs.List.{sum, range_with_len}
use Rattle.sl_base_terms.specs.declared.shape.Shape.TheVariants as shape
use Rattle.sl_law_meaning.specs.returns.Election.{Election, lands_of, parties_of}
use Rattle.sl_code_instructions.specs.declared.instr.Instr.TheVariants.{Set, Get, Add}
use Rattle.sl_code_instructions.specs.declared.kinds.Kinds.{Kinds}
use Rattle.sl_code_instructions.specs.Codes.{CountingCode}
use Rattle.sl_code_instructions.specs.Standing.{HasAt}
use Rattle.sl_code_semantics.specs.Kinds.{start_kinds}
use Rattle.sl_code_semantics.specs.WellKinded.{context_of}
use Rattle.sl_code_semantics.specs.Pieces.{JumpsWithin}
use Rattle.sl_code_semantics.specs.State.{State}
use Rattle.sl_code_semantics.specs.Comes.{Comes}
use Rattle.sl_code_semantics.specs.Effects.{most}
use Rattle.sl_compile_plans.specs.declared.plan.Cursor.TheVariants as cursor
use Rattle.sl_compile_plans.specs.Trees.{Tree, Line, Then, Each, flat}
use Rattle.sl_compile_plans.specs.Meaning.{cost}
use Rattle.sl_compile_plans.specs.Fine.{bare, kinds_along, ArePassed}

-- register 1 is more by the cell at the cursors
abbrev pub add_cell : ℕ → Tree
add_cell k = Line (Get 0 k ∷ (Add 1 0 ∷ []))

-- register 1 is the sum of the column's cells: 11 instructions
abbrev pub sum_tree : ℕ → Tree
sum_tree k = Then (Line (Set 1 0 ∷ [])) (Each cursor.Land (Each cursor.Party (add_cell k)))

-- the sum of the first n cells
abbrev pub sum_of_first : ℕ → (ℕ → ℕ) → ℕ
sum_of_first n cells = sum (map cells (range_with_len 0 n))

abbrev pub ColumnsAreSummed : Type 0
ColumnsAreSummed =
    (c : CountingCode) (e : Election) (k p : ℕ) (known : Kinds) (s : State) →
    slice_get c.slots k ≡ Some shape.List → sum_of_first (lands_of e * parties_of e) (s.columns k) ≤ most → HasAt c p (flat known p (sum_tree k)) →
    (t : State) × Comes c e (cost e (sum_tree k)) p s (p + 11) t × (t.registers 1 ≡ sum_of_first (lands_of e * parties_of e) (s.columns k))

-- the verifier finds no fault in its instructions where they stand in a code that has the slot, and no jump leads out of them
pub record IsAccepted (code : CountingCode) (k p : ℕ) : Type 0 where
  pub passed : ArePassed (context_of code) (Some start_kinds) (flat (bare start_kinds) p (sum_tree k)) (Some (kinds_along start_kinds (sum_tree k)))
  pub within : JumpsWithin p (flat (bare start_kinds) p (sum_tree k))

abbrev pub SumsAreAccepted : Type 0
SumsAreAccepted =
    (code : CountingCode) (k p : ℕ) → slice_get code.slots k ≡ Some shape.List → HasAt code p (flat (bare start_kinds) p (sum_tree k)) → IsAccepted code k p

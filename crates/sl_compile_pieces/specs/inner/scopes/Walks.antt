-- What the plans for entries and for scopes achieve: that of their body, as often as there are entries or scopes.
use Rattle.std.specs.Prelude.{◌≡◌, ℕ, ◌+◌, List, length, None, Some, slice_get}
use Rattle.sl_law_meaning.specs.returns.Election.{Election}
use Rattle.sl_law_meaning.specs.meaning.Scopes.{Group}
use Rattle.sl_code_instructions.specs.Codes.{CountingCode}
use Rattle.sl_code_semantics.specs.State.{State, End}
use Rattle.sl_compile_plans.specs.Trees.{Tree}
use Rattle.sl_compile_plans.specs.Achieves.{Achieves}
use Rattle.sl_compile_pieces.specs.scopes.Forms.{Form, groups_of, scopes_plan, entries_plan, OnScope, OnItem}

-- the state, but for the cursors that stand at scopes and entries
abbrev pub bare : State → State
bare s = record s { party = None; land = None }

-- A plan takes the elements of a list in turn, with an invariant over the number of those that are done: it asks of the body that it leads
-- from each number to the next one, with the cursors on the element before and after it.
pub record Visits {X : Type 0} (c : CountingCode) (e : Election) (body : Tree) (all : List X) (On : X → State → Type 0) (Inv : ℕ → State → Type 0)
    (E : End → Type 0) : Type 0 where
  pub visit : (j : ℕ) (x : X) (s : State) → slice_get all j ≡ Some x → On x s → Inv j (bare s) → Achieves c e body s (λ t. On x t × Inv (j + 1) (bare t)) E

-- the entries of a scope
abbrev pub EachEntry : Type 1
EachEntry =
    (c : CountingCode) (e : Election) (f : Form) (m : ℕ) (g : Group) (body : Tree) (Inv : ℕ → State → Type 0) (E : End → Type 0) (s : State) →
    slice_get (groups_of e f) m ≡ Some g → Visits c e body g.entries OnItem Inv E → OnScope g.scope s → Inv 0 (bare s) →
    Achieves c e (entries_plan f body) s (λ t. OnScope g.scope t × Inv (length g.entries) (bare t)) E

-- the scopes
abbrev pub EachScope : Type 1
EachScope =
    (c : CountingCode) (e : Election) (f : Form) (body : Tree) (Inv : ℕ → State → Type 0) (E : End → Type 0) (s : State) →
    Visits c e body (groups_of e f) (λ g. OnScope g.scope) Inv E → Inv 0 (bare s) →
    Achieves c e (scopes_plan f body) s (λ t. Inv (length (groups_of e f)) (bare t)) E

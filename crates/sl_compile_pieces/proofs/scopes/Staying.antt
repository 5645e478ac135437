-- Where the cursors of two states stand alike, they stand at the same scope and at the same entry; so bodies that move no cursor stay at the entry that they visit.
use Rattle.std.proofs.Common.{◌≡◌, ℕ, ◌+◌, false, List, Some, ◌∙◌}
use Rattle.std.specs.Prelude.{slice_get}
use Rattle.sl_law_meaning.specs.declared.fault.Scope.{Scope}
use Rattle.sl_law_meaning.specs.declared.fault.Scope.TheVariants as scope
use Rattle.sl_law_meaning.specs.declared.fault.Item.{Item}
use Rattle.sl_law_meaning.specs.declared.fault.Item.TheVariants as item
use Rattle.sl_law_meaning.specs.returns.Election.{Election}
use Rattle.sl_code_instructions.specs.Codes.{CountingCode}
use Rattle.sl_code_semantics.specs.State.{State, End}
use Rattle.sl_compile_plans.specs.declared.plan.Cursor.TheVariants as cursor
use Rattle.sl_compile_plans.specs.Trees.{Tree}
use Rattle.sl_compile_plans.specs.Achieves.{Achieves}
use Rattle.sl_compile_plans.specs.Frames.{may_move, KeepsRest}
use Rattle.sl_compile_plans.proofs.KeepingRules.{achieves_keeping}
use Rattle.sl_compile_pieces.specs.scopes.Forms.{OnScope, OnItem}
use Rattle.sl_compile_pieces.specs.inner.scopes.Walks.{bare, Visits}

-- a scope is known by two cursors
pub scope_stays : (on : Scope) (s t : State) → t.party ≡ s.party → t.land ≡ s.land → OnScope on s → OnScope on t
scope_stays scope.All s t party land h = h
scope_stays (scope.Party p) s t party land h = party ∙ h
scope_stays (scope.Land l) s t party land h = land ∙ h
scope_stays (scope.List l p) s t party land h = (land ∙ h.0, party ∙ h.1)

-- an entry by three
pub item_stays : (i : Item) (s t : State) → t.party ≡ s.party → t.land ≡ s.land → t.win ≡ s.win → OnItem i s → OnItem i t
item_stays (item.Party p) s t party land win h = party ∙ h
item_stays (item.Land l) s t party land win h = land ∙ h
item_stays (item.List l p) s t party land win h = (land ∙ h.0, party ∙ h.1)
item_stays (item.Win w) s t party land win h = win ∙ h

-- a plan that moves no cursor
pub record Stays (tree : Tree) : Type 0 where
  pub party : may_move tree cursor.Party ≡ false
  pub land : may_move tree cursor.Land ≡ false
  pub win : may_move tree cursor.Win ≡ false

pub item_kept : (tree : Tree) → Stays tree → (s t : State) → KeepsRest tree s t → (i : Item) → OnItem i s → OnItem i t
item_kept tree stays s t h i on = item_stays i s t (h.party stays.party) (h.land stays.land) (h.win stays.win) on

-- what is left to show of a body that moves no cursor: it leads from each number to the next one
pub entries_visited : {c : CountingCode} {e : Election} {body : Tree} {all : List Item} {Inv : ℕ → State → Type 0} {E : End → Type 0} → Stays body
    → ((j : ℕ) (i : Item) (s : State) → slice_get all j ≡ Some i → OnItem i s → Inv j (bare s) → Achieves c e body s (λ t. Inv (j + 1) (bare t)) E)
    → Visits c e body all OnItem Inv E
entries_visited {body = body} stays turn = record {
  visit = λ j i s at on inv. achieves_keeping (turn j i s at on inv) (λ t r kept. (item_kept body stays s t kept i on, r));
}

-- What the search for the house of a growth achieves (docs/blocks.md, section 4).
use Rattle.std.specs.Prelude.{◌≡◌, ◌≢◌, ℕ, List, Some, sum, slice_get}
use Rattle.sl_base_quotients.specs.declared.method.Divisor.{Divisor}
use Rattle.sl_law_meaning.specs.declared.fault.Item.{Item}
use Rattle.sl_law_meaning.specs.declared.fault.FaultKind.TheVariants as fault
use Rattle.sl_law_meaning.specs.returns.Election.{Election}
use Rattle.sl_law_meaning.specs.methods.LeastHouse.{GrownTo, AboveCap, IsGrowth}
use Rattle.sl_law_meaning.specs.meaning.Scopes.{Group, place}
use Rattle.sl_law_meaning.specs.meaning.Results.{fault_at}
use Rattle.sl_code_semantics.specs.State.{State, End, Faulted}
use Rattle.sl_compile_pieces.specs.scopes.Forms.{OnScope}
use Rattle.sl_compile_pieces.specs.declared.registers.TheConstants as reg
use Rattle.sl_compile_pieces.specs.seats.Slots.{Slots}

-- all is as it was, but for registers, cursors, the table and cells of the scope's entries in the result's column
abbrev pub KeepsOthers : Election → Slots → Group → State → State → Type 0
KeepsOthers e x g before after = record {
  elsewhere : (q : ℕ) → ((j : ℕ) (i : Item) → slice_get g.entries j ≡ Some i → place e i ≢ q) → after.columns x.result q ≡ before.columns x.result q;
  columns : (slot q : ℕ) → slot ≢ x.result → after.columns slot q ≡ before.columns slot q;
  steps : after.steps ≡ before.steps;
  weights : after.weights ≡ before.weights;
  placed : (winner : ℕ) → after.placed winner ≡ before.placed winner;
}

-- the amount is the house; the search has written cells of the scope's entries in the result's column, and all else is as it was
pub record HasHouse (e : Election) (x : Slots) (g : Group) (d : Divisor) (v m : List ℕ) (seats cap : ℕ) (before after : State) : Type 0 where
  pub house : ℕ
  pub grown : IsGrowth d v m seats cap (GrownTo house)
  pub amount : after.registers reg.AMOUNT ≡ house
  pub total : after.registers reg.TOTAL ≡ sum v
  pub on : OnScope g.scope after
  pub kept : KeepsOthers e x g before after

-- no house up to the cap serves, and the run ends so
pub record EndsAboveCap (x : Slots) (g : Group) (d : Divisor) (v m : List ℕ) (seats cap : ℕ) (end : End) : Type 0 where
  pub above : IsGrowth d v m seats cap AboveCap
  pub is : end ≡ Faulted (fault_at x.stage g.scope fault.Cap)

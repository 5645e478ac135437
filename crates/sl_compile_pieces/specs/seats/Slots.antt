-- Where a split or a growth finds its columns, and where it leaves its own (docs/blocks.md, section 3).
use Rattle.std.specs.Prelude.{◌≡◌, ◌≢◌, ℕ, List, Option, None, Some, length, slice_get, slice_index}
use Rattle.sl_law_meaning.specs.declared.fault.Item.{Item}
use Rattle.sl_law_meaning.specs.returns.Election.{Election}
use Rattle.sl_law_meaning.specs.methods.Field.{no_minima}
use Rattle.sl_law_meaning.specs.meaning.Scopes.{place}
use Rattle.sl_code_instructions.specs.Codes.{CountingCode}
use Rattle.sl_code_semantics.specs.State.{State}
use Rattle.sl_code_semantics.specs.Effects.{stage_of, name_of}
use Rattle.sl_compile_pieces.specs.scopes.Forms.{Form, amounts_of, votes_of}

-- its stage, and the slots of the amounts, of the votes, of the minima if there are any, and of its result
pub record Slots : Type 0 where
  pub stage : ℕ
  pub amounts : ℕ
  pub votes : ℕ
  pub minima : Option ℕ
  pub result : ℕ

-- the code has these slots, with the shapes of the form, and the stage under that name; the result's slot is no other's
pub record HasSlots (c : CountingCode) (f : Form) (x : Slots) (name : List ℕ) : Type 0 where
  pub amounts : slice_get c.slots x.amounts ≡ Some (amounts_of f)
  pub votes : slice_get c.slots x.votes ≡ Some (votes_of f)
  pub minima : (slot : ℕ) → x.minima ≡ Some slot → slice_get c.slots slot ≡ Some (votes_of f)
  pub result : slice_get c.slots x.result ≡ Some (votes_of f)
  pub not_amounts : x.amounts ≢ x.result
  pub not_votes : x.votes ≢ x.result
  pub not_minima : (slot : ℕ) → x.minima ≡ Some slot → slot ≢ x.result
  pub stage : stage_of c.stages x.stage ≡ Some x.stage
  pub named : name_of c.stages x.stage ≡ Some name

-- ---- the numbers of a scope's entries in a column

pub record HasCells (e : Election) (entries : List Item) (column : ℕ → ℕ) (v : List ℕ) : Type 0 where
  pub one_each : length v ≡ length entries
  pub at : (j : ℕ) (i : Item) → slice_get entries j ≡ Some i → column (place e i) ≡ slice_index v j

-- the minima of its entries, 0 for each where there is no slot of minima
abbrev pub MinimaIn : Election → List Item → List ℕ → Option ℕ → (ℕ → ℕ → ℕ) → List ℕ → Type 0
MinimaIn e entries v None columns m = m ≡ no_minima v
MinimaIn e entries v (Some slot) columns m = HasCells e entries (columns slot) m

abbrev pub HasMinima : Election → List Item → List ℕ → Option ℕ → State → List ℕ → Type 0
HasMinima e entries v slot s m = MinimaIn e entries v slot s.columns m

-- ---- what stays

-- columns, records and the places of winners are the same
abbrev pub IsUnchanged : State → State → Type 0
IsUnchanged before after = record {
  columns : (slot q : ℕ) → after.columns slot q ≡ before.columns slot q;
  steps : after.steps ≡ before.steps;
  weights : after.weights ≡ before.weights;
  placed : (winner : ℕ) → after.placed winner ≡ before.placed winner;
}

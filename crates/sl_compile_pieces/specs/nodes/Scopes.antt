-- What the plan of a scope achieves: the award of the scope, or its fault (docs/blocks.md, section 4).
use Rattle.std.specs.Prelude.{◌≡◌, ◌≢◌, ℕ, ◌≤◌, List, Option, None, Some, ◌++◌, All, slice_get, slice_index, IsPermutation}
use Rattle.sl_base_quotients.specs.declared.limits.TheConstants.{MAX_WEIGHT, MAX_SEATS}
use Rattle.sl_base_terms.specs.declared.shape.Shape.{Shape}
use Rattle.sl_law_meaning.specs.declared.fault.Item.{Item}
use Rattle.sl_law_meaning.specs.declared.fault.FaultKind.{FaultKind}
use Rattle.sl_law_meaning.specs.declared.table.SeatStep.{SeatStep}
use Rattle.sl_law_meaning.specs.returns.Election.{Election}
use Rattle.sl_law_meaning.specs.meaning.Scopes.{Group, place, cells}
use Rattle.sl_law_meaning.specs.meaning.Records.{Records}
use Rattle.sl_law_meaning.specs.meaning.Splits.{Award, Seats, Refused}
use Rattle.sl_law_meaning.specs.meaning.Results.{Stand, fault_at}
use Rattle.sl_code_instructions.specs.Codes.{CountingCode}
use Rattle.sl_code_semantics.specs.State.{State, End, Faulted}
use Rattle.sl_compile_plans.specs.Trees.{Tree}
use Rattle.sl_compile_plans.specs.Achieves.{Achieves}
use Rattle.sl_compile_pieces.specs.scopes.Forms.{Form, amounts_of, votes_of, groups_of, OnScope}
use Rattle.sl_compile_pieces.specs.columns.Columns.{HoldsColumn}
use Rattle.sl_compile_pieces.specs.seats.Slots.{Slots, HasCells}

-- ---- the arguments

-- the minima, if there are any
abbrev pub HoldsMinima : Election → Shape → Option ℕ → State → Option (List ℕ) → Type 0
HoldsMinima e shape None s None = Unit {0}
HoldsMinima e shape (Some slot) s (Some minima) = HoldsColumn e shape (s.columns slot) minima
HoldsMinima e shape _ s _ = ⊥

-- no entry of a scope has a weight above the limit
abbrev pub AreWeights : Election → Form → (votes : List ℕ) → Type 0
AreWeights e f votes = All (λ g. All (λ weight. weight ≤ MAX_WEIGHT) (cells e g.entries votes)) (groups_of e f)

pub record HoldsArguments (e : Election) (f : Form) (x : Slots) (amounts votes : List ℕ) (minima : Option (List ℕ)) (s : State) : Type 0 where
  pub amounts_are : HoldsColumn e (amounts_of f) (s.columns x.amounts) amounts
  pub votes_are : HoldsColumn e (votes_of f) (s.columns x.votes) votes
  pub minima_are : HoldsMinima e (votes_of f) x.minima s minima
  pub weights : AreWeights e f votes

-- ---- a scope

-- these records were added, those of seats in whatever order, and nobody was placed
abbrev pub AddsRecords : Records → State → State → Type 0
AddsRecords records before after = record {
  added : List SeatStep;
  steps : after.steps ≡ before.steps ++ added;
  are : IsPermutation added records.steps;
  weights : after.weights ≡ before.weights ++ records.weights;
  placed : (winner : ℕ) → after.placed winner ≡ before.placed winner;
}

-- the scope yields seats: they are in the cells of its entries, their records are added, and all else is as it was
pub record HasAward (e : Election) (x : Slots) (IsAward : Group → Award → Type 0) (records : Group → List ℕ → Records) (g : Group) (before after : State) :
    Type 0 where
  pub seats : List ℕ
  pub award : IsAward g (Seats seats)
  pub on : OnScope g.scope after
  pub cells : HasCells e g.entries (after.columns x.result) seats
  pub elsewhere : (q : ℕ) → ((j : ℕ) (i : Item) → slice_get g.entries j ≡ Some i → place e i ≢ q) → after.columns x.result q ≡ before.columns x.result q
  pub columns : (slot q : ℕ) → slot ≢ x.result → after.columns slot q ≡ before.columns slot q
  pub adds : AddsRecords (records g seats) before after

-- the scope ends in a fault, and the run ends with it
pub record EndsFaulty (x : Slots) (IsAward : Group → Award → Type 0) (g : Group) (end : End) : Type 0 where
  pub kind : FaultKind
  pub refused : IsAward g (Refused kind)
  pub is : end ≡ Faulted (fault_at x.stage g.scope kind)

-- where the slots hold those arguments, the plan does so in each scope that has no more seats than the limit
pub record DoesScopes (c : CountingCode) (e : Election) (f : Form) (x : Slots) (amounts votes : List ℕ) (minima : Option (List ℕ))
    (IsAward : Group → Award → Type 0) (records : Group → List ℕ → Records) (tree : Tree) : Type 0 where
  pub does : (k : ℕ) (g : Group) (s : State) → slice_get (groups_of e f) k ≡ Some g → OnScope g.scope s → HoldsArguments e f x amounts votes minima s →
      slice_index amounts g.amount_place ≤ MAX_SEATS →
      Achieves c e tree s (HasAward e x IsAward records g s) (EndsFaulty x IsAward g)

-- where a split or a growth stands
abbrev pub stand : Form → Slots → List ℕ → Stand
stand f x name = record { stage = x.stage; name = name; shape = votes_of f }

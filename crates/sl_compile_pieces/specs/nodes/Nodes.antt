-- What the plan of a split or of a growth achieves: the column and the records that it means, or the fault that it means (docs/blocks.md, section 4).
use Rattle.std.specs.Prelude.{◌≡◌, ◌≢◌, ℕ, ◌≤◌, List, Option, Some}
use Rattle.sl_base_quotients.specs.declared.limits.TheConstants.{MAX_SEATS}
use Rattle.sl_base_quotients.specs.declared.method.Divisor.{Divisor}
use Rattle.sl_base_quotients.specs.declared.method.Method.{Method}
use Rattle.sl_base_quotients.specs.declared.method.Method.TheVariants as by
use Rattle.sl_law_meaning.specs.declared.book.Majority.{Majority}
use Rattle.sl_base_terms.specs.declared.shape.Shape.TheVariants as shape
use Rattle.sl_law_meaning.specs.declared.fault.LegalFault.{LegalFault}
use Rattle.sl_law_meaning.specs.returns.Election.{Election, IsElection}
use Rattle.sl_law_meaning.specs.meaning.Scopes.{Group}
use Rattle.sl_law_meaning.specs.meaning.Records.{Records}
use Rattle.sl_law_meaning.specs.meaning.Splits.{Award}
use Rattle.sl_law_meaning.specs.meaning.Results.{ExprResult, Column, Fault, IsShared}
use Rattle.sl_law_meaning.specs.meaning.Expressions.{IsSplit, IsGrown}
use Rattle.sl_law_meaning.specs.laws.OneLaws.{FitsMethod}
use Rattle.sl_code_instructions.specs.Codes.{CountingCode}
use Rattle.sl_code_semantics.specs.State.{State, End, Faulted}
use Rattle.sl_compile_plans.specs.Trees.{Tree}
use Rattle.sl_compile_plans.specs.Achieves.{Achieves}
use Rattle.sl_compile_pieces.specs.scopes.Forms.{Form, amounts_of, votes_of, groups_of}
use Rattle.sl_compile_pieces.specs.columns.Columns.{HoldsColumn}
use Rattle.sl_compile_pieces.specs.seats.Slots.{Slots, HasSlots}
use Rattle.sl_compile_pieces.specs.nodes.Trees.{shared, split_tree, grow_tree}
use Rattle.sl_compile_pieces.specs.nodes.Scopes.{AddsRecords, HoldsArguments, DoesScopes, stand}

-- the node yields a column: it is in the slot of the result, its records are added, and all else is as it was
pub record HasResult (e : Election) (f : Form) (x : Slots) (IsResult : ExprResult → Type 0) (before after : State) : Type 0 where
  pub values : List ℕ
  pub records : Records
  pub result : IsResult (Column values records)
  pub column : HoldsColumn e (votes_of f) (after.columns x.result) values
  pub columns : (slot q : ℕ) → slot ≢ x.result → after.columns slot q ≡ before.columns slot q
  pub adds : AddsRecords records before after

-- the node ends in a fault, and the run ends with it
pub record EndsWith (IsResult : ExprResult → Type 0) (end : End) : Type 0 where
  pub fault : LegalFault
  pub result : IsResult (Fault fault)
  pub is : end ≡ Faulted fault

-- what is done in each scope, where each scope yields an award, is done for the node
abbrev pub ScopesAreJoined : Type 1
ScopesAreJoined =
    (c : CountingCode) (e : Election) (f : Form) (x : Slots) (name : List ℕ) (amounts votes : List ℕ) (minima : Option (List ℕ))
    (IsAward : Group → Award → Type 0) (records : Group → List ℕ → Records) (tree : Tree) (state : State) → HasSlots c f x name →
    ((g : Group) → (a : Award) × IsAward g a) → DoesScopes c e f x amounts votes minima IsAward records tree → HoldsArguments e f x amounts votes minima state →
    Achieves c e (shared f x tree) state
    (HasResult e f x (IsShared e (stand f x name) amounts IsAward records (groups_of e f)) state)
    (EndsWith (IsShared e (stand f x name) amounts IsAward records (groups_of e f)))

abbrev pub SplitsAchieve : Type 0
SplitsAchieve =
    (c : CountingCode) (e : Election) (f : Form) (x : Slots) (name : List ℕ) (amounts votes : List ℕ) (minima : Option (List ℕ)) (method : Method)
    (majority : Majority) (state : State) → IsElection e → HasSlots c f x name → FitsMethod method minima → HoldsArguments e f x amounts votes minima state →
    Achieves c e (split_tree f x method majority) state
    (HasResult e f x (IsSplit e (stand f x name) amounts votes (amounts_of f) method majority minima) state)
    (EndsWith (IsSplit e (stand f x name) amounts votes (amounts_of f) method majority minima))

-- a growth has one amount
abbrev pub GrowthsAchieve : Type 0
GrowthsAchieve =
    (c : CountingCode) (e : Election) (f : Form) (x : Slots) (name : List ℕ) (amounts votes minima : List ℕ) (d : Divisor) (majority : Majority) (cap : ℕ)
    (state : State) → IsElection e → HasSlots c f x name → amounts_of f ≡ shape.One → cap ≤ MAX_SEATS →
    HoldsArguments e f x amounts votes (Some minima) state →
    Achieves c e (grow_tree f x d majority cap) state
    (HasResult e f x (IsGrown e (stand f x name) amounts votes (by.Divisor d) majority minima cap) state)
    (EndsWith (IsGrown e (stand f x name) amounts votes (by.Divisor d) majority minima cap))

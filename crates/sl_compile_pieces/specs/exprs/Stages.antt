-- The plans of a rulebook's stages, and what they achieve: after the stages stand their columns and their records, or the run ended with the
-- first fault (docs/compiler.md, section 5).
use Rattle.std.specs.Prelude.{◌≡◌, ℕ, ◌+◌, ◌<◌, ◌≤◌, true, List, [], ◌∷◌, ◌++◌, None, Some, length, slice_get}
use Rattle.std.specs.List.{AllZip, list_all}
use Rattle.sl_law_meaning.specs.declared.fault.LegalFault.{LegalFault}
use Rattle.sl_base_terms.specs.declared.limits.TheConstants.{MAX_STAGES}
use Rattle.sl_base_terms.specs.Tests.{first_failing}
use Rattle.sl_law_meaning.specs.book.Trees.{StageTree, BookTree}
use Rattle.sl_law_meaning.specs.book.Limits.{is_within_stage}
use Rattle.sl_law_meaning.specs.book.Typing.{Column, type_of, stage_column, columns_of, stages_tests, is_typed}
use Rattle.sl_law_meaning.specs.returns.Election.{Election, IsElection}
use Rattle.sl_law_meaning.specs.meaning.Means.{Known, Through, Stopped, StagesMean}
use Rattle.sl_law_meaning.specs.laws.ColumnLaws.{IsTypedAs}
use Rattle.sl_code_instructions.specs.declared.code.CodeStage.{CodeStage}
use Rattle.sl_code_instructions.specs.Codes.{CountingCode}
use Rattle.sl_code_semantics.specs.State.{State, End, Faulted}
use Rattle.sl_compile_plans.specs.Trees.{Tree}
use Rattle.sl_compile_plans.specs.Laid.{AchievesAll}
use Rattle.sl_compile_pieces.specs.columns.Trees.{copy_tree}
use Rattle.sl_compile_pieces.specs.exprs.Slots.{stage_slot, HasBookSlots, FIRST_PASSING_SLOT}
use Rattle.sl_compile_pieces.specs.exprs.Pieces.{pieces, slot_of}
use Rattle.sl_compile_pieces.specs.exprs.Meaning.{HoldsKnown}
use Rattle.sl_compile_pieces.specs.nodes.Scopes.{AddsRecords}

-- those of the stage of that number: its expression, whose column is copied into the stage's slot
abbrev pub stage_pieces : List Column → ℕ → StageTree → List Tree
stage_pieces types k s =
    pieces types k 0 s.expr ++ copy_tree (type_of types s.expr).shape (slot_of types 0 s.expr) (stage_slot k) ∷ []

-- those of the stages from that number on
abbrev pub stages_pieces : List Column → ℕ → List StageTree → List Tree
stages_pieces types k [] = []
stages_pieces types k (s ∷ ss) = stage_pieces types k s ++ stages_pieces (types ++ stage_column types s ∷ []) (k + 1) ss

-- the code has the stages from that number on, under their names
pub record HasStages (c : CountingCode) (k : ℕ) (ss : List StageTree) : Type 0 where
  pub few : k + length ss ≤ MAX_STAGES
  pub each : (j : ℕ) (s : StageTree) → slice_get ss j ≡ Some s → (stage : CodeStage) × (slice_get c.stages (k + j) ≡ Some stage) × (stage.name ≡ s.name)

-- what stands after some stages: from the state before the first of them on, their columns are in their slots, their records were added, and no
-- slot below the passing ones was changed
pub record IsBehind (b : BookTree) (e : Election) (k : Known) (before s : State) : Type 0 where
  pub typed : AllZip (IsTypedAs e) k.types k.columns
  pub known : HoldsKnown b e k.types k.columns s
  pub low : (slot q : ℕ) → slot < FIRST_PASSING_SLOT → s.columns slot q ≡ before.columns slot q
  pub adds : AddsRecords k.records before s

-- the stages yield their columns
pub record HasColumns (b : BookTree) (e : Election) (k : Known) (ss : List StageTree) (before s : State) : Type 0 where
  pub known : Known
  pub means : StagesMean b e k ss (Through known)
  pub behind : IsBehind b e known before s

-- or to the first fault
pub record EndsStopped (b : BookTree) (e : Election) (k : Known) (ss : List StageTree) (end : End) : Type 0 where
  pub fault : LegalFault
  pub means : StagesMean b e k ss (Stopped fault)
  pub is : end ≡ Faulted fault

abbrev pub StagesAchieve : Type 0
StagesAchieve =
    (code : CountingCode) (b : BookTree) (e : Election) (k : Known) (ss : List StageTree) (before s : State) → is_typed b ≡ true → IsElection e →
    first_failing (stages_tests k.types ss) ≡ None → list_all is_within_stage ss ≡ true → HasBookSlots code (columns_of k.types ss) →
    HasStages code (length k.columns) ss → IsBehind b e k before s →
    AchievesAll code e (stages_pieces k.types (length k.columns) ss) s (HasColumns b e k ss before) (EndsStopped b e k ss)

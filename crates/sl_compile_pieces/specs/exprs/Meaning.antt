-- What the plans of an expression achieve (docs/compiler.md, section 4).
use Rattle.std.specs.Prelude.{◌≡◌, ◌⊎◌, ℕ, ◌+◌, ◌<◌, ◌≤◌, true, List, None, Some, slice_get}
use Rattle.std.specs.List.{AllZip}
use Rattle.sl_base_terms.specs.declared.shape.Shape.{Shape}
use Rattle.sl_base_terms.specs.declared.shape.Shape.TheVariants as shape
use Rattle.sl_law_meaning.specs.declared.fact.Fact.{Fact}
use Rattle.sl_base_terms.specs.declared.limits.TheConstants.{MAX_STAGES}
use Rattle.sl_base_terms.specs.Tests.{first_failing}
use Rattle.sl_law_meaning.specs.book.Trees.{ExprTree, BookTree}
use Rattle.sl_law_meaning.specs.book.Limits.{depth_of}
use Rattle.sl_law_meaning.specs.book.Typing.{Column, fact_type, type_of, expr_tests, splits_in, is_typed}
use Rattle.sl_law_meaning.specs.returns.Election.{Election, IsElection}
use Rattle.sl_law_meaning.specs.meaning.Columns.{NamedColumn, fact_column}
use Rattle.sl_law_meaning.specs.meaning.Records.{Records}
use Rattle.sl_law_meaning.specs.meaning.Results as results
use Rattle.sl_law_meaning.specs.meaning.Expressions.{Context, ExprMeans}
use Rattle.sl_law_meaning.specs.laws.ColumnLaws.{IsTypedAs}
use Rattle.sl_code_instructions.specs.declared.code.CodeStage.{CodeStage}
use Rattle.sl_code_instructions.specs.Codes.{CountingCode}
use Rattle.sl_code_semantics.specs.State.{State}
use Rattle.sl_compile_plans.specs.Laid.{AchievesAll}
use Rattle.sl_compile_pieces.specs.columns.Columns.{HoldsColumn}
use Rattle.sl_compile_pieces.specs.nodes.Nodes.{EndsWith}
use Rattle.sl_compile_pieces.specs.exprs.Slots.{fact_slots, passing, stage_slot, HasBookSlots, LEVELS, FIRST_STAGE_SLOT}
use Rattle.sl_compile_pieces.specs.exprs.Pieces.{pieces, slot_of}
use Rattle.sl_compile_pieces.specs.nodes.Scopes.{AddsRecords}

-- the columns of facts, and those of the stages before, are in their slots
pub record HoldsKnown (b : BookTree) (e : Election) (types : List Column) (columns : List NamedColumn) (s : State) : Type 0 where
  pub facts : (told : Fact) → HoldsColumn e (fact_type told).shape (s.columns (fact_slots.of told)) (fact_column b e told)
  pub stages : (k : ℕ) (t : Column) (x : NamedColumn) → slice_get types k ≡ Some t → slice_get columns k ≡ Some x →
      HoldsColumn e t.type.shape (s.columns (stage_slot k)) x.values

-- the code has the slots, and the stage under its name
pub record StandsIn (c : CountingCode) (x : Context) : Type 0 where
  pub slots : HasBookSlots c x.types
  pub few : x.stage < MAX_STAGES
  pub stage : CodeStage
  pub staged : slice_get c.stages x.stage ≡ Some stage
  pub named : stage.name ≡ x.name

-- a result yields a column: it is in that slot, its records are added, and no slot below the first one and no stage's is changed
pub record ComesTo (e : Election) (IsResult : results.ExprResult → Type 0) (of : Shape) (slot first : ℕ) (before after : State) : Type 0 where
  pub values : List ℕ
  pub records : Records
  pub result : IsResult (results.Column values records)
  pub column : HoldsColumn e of (after.columns slot) values
  pub columns : (k q : ℕ) → (k < first) ⊎ (FIRST_STAGE_SLOT ≤ k) → after.columns k q ≡ before.columns k q
  pub adds : AddsRecords records before after

-- an expression yields a column in its slot; it may change the scratch columns of this level and of later ones
abbrev pub HasExpr : BookTree → Election → Context → ExprTree → ℕ → State → State → Type 0
HasExpr b e c x level =
    ComesTo e (ExprMeans b e c x) (type_of c.types x).shape (slot_of c.types level x) (passing level shape.One)

-- a typed expression of at most so many levels
abbrev pub ExprsAchieve : Type 0
ExprsAchieve =
    (code : CountingCode) (b : BookTree) (e : Election) (c : Context) (x : ExprTree) (level : ℕ) (s : State) → is_typed b ≡ true → IsElection e →
    AllZip (IsTypedAs e) c.types c.columns → first_failing (expr_tests c.types x) ≡ None → level + depth_of x + splits_in x ≤ LEVELS → StandsIn code c →
    HoldsKnown b e c.types c.columns s →
    AchievesAll code e (pieces c.types c.stage level x) s (HasExpr b e c x level s) (EndsWith (ExprMeans b e c x))

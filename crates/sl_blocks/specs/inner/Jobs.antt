-- Splits and growths as blocks: the caller's conditions, and what the blocks do (docs/blocks.md, section 5).
use Rattle.std.specs.Prelude.{◌≡◌, ◌≢◌, ℕ, ◌<◌, ◌≤◌, List, [], ◌∷◌, Option, None, Some, slice_get, option_map}
use Rattle.sl_base_quotients.specs.declared.limits.TheConstants.{MAX_SEATS}
use Rattle.sl_base_quotients.specs.declared.method.Divisor.{Divisor}
use Rattle.sl_base_quotients.specs.declared.method.Method.{Method}
use Rattle.sl_base_quotients.specs.declared.method.Method.TheVariants as by
use Rattle.sl_base_terms.specs.declared.shape.Shape.{Shape}
use Rattle.sl_base_terms.specs.declared.shape.Shape.TheVariants as shape
use Rattle.sl_base_terms.specs.declared.limits.TheConstants.{MAX_STAGES}
use Rattle.sl_law_meaning.specs.returns.Election.{Election}
use Rattle.sl_law_meaning.specs.meaning.Results.{ExprResult}
use Rattle.sl_law_meaning.specs.meaning.Expressions.{IsSplit, IsGrown}
use Rattle.sl_code_instructions.specs.declared.instr.Instr.{Instr}
use Rattle.sl_code_instructions.specs.declared.code.CodeStage.{CodeStage}
use Rattle.sl_code_instructions.specs.Codes.{CountingCode}
use Rattle.sl_code_semantics.specs.State.{State}
use Rattle.sl_code_semantics.specs.Memories.{column_of}
use Rattle.sl_compile_pieces.specs.declared.form.Form.{Form}
use Rattle.sl_compile_pieces.specs.scopes.Forms.{amounts_of, votes_of}
use Rattle.sl_compile_pieces.specs.seats.Slots.{Slots}
use Rattle.sl_compile_pieces.specs.nodes.Scopes.{AreWeights, stand}
use Rattle.sl_compile_pieces.specs.nodes.Nodes.{HasResult, EndsWith}
use Rattle.sl_compile_pieces.specs.nodes.Trees.{split_tree, grow_tree}
use Rattle.sl_blocks.specs.PlanBlocks.{AreBlocks}
use Rattle.sl_blocks.specs.declared.job.Job.{Job}
use Rattle.sl_blocks.specs.Blocks.{HasSlotsOf, IsShareBlock}

-- ---- the caller's conditions

abbrev pub slots_of : Job → Slots
slots_of j = record { stage = j.stage; amounts = j.amount; votes = j.weights; minima = j.minima; result = j.result }

-- among slots of these shapes the job's are there, with the shapes of the form; its result is no other's; and a stage may have its number
pub record IsJob (shapes : List Shape) (f : Form) (j : Job) : Type 0 where
  pub amounts : slice_get shapes j.amount ≡ Some (amounts_of f)
  pub votes : slice_get shapes j.weights ≡ Some (votes_of f)
  pub minima : (slot : ℕ) → j.minima ≡ Some slot → slice_get shapes slot ≡ Some (votes_of f)
  pub result : slice_get shapes j.result ≡ Some (votes_of f)
  pub not_amounts : j.amount ≢ j.result
  pub not_votes : j.weights ≢ j.result
  pub not_minima : (slot : ℕ) → j.minima ≡ Some slot → slot ≢ j.result
  pub stage : j.stage < MAX_STAGES

-- a method and whether there are minima: Hamilton's method takes none
abbrev pub TakesMinima : Method → Option ℕ → Type 0
TakesMinima method None = Unit {0}
TakesMinima (by.Divisor d) (Some slot) = Unit {0}
TakesMinima by.Hamilton (Some slot) = ⊥

-- a split
pub record IsSplitJob (shapes : List Shape) (j : Job) (method : Method) : Type 0 where
  pub form : Form
  pub job : IsJob shapes form j
  pub takes : TakesMinima method j.minima

-- a growth: there is one amount, there are minima, and the cap is a number of seats
pub record IsGrowthJob (shapes : List Shape) (j : Job) (cap : ℕ) : Type 0 where
  pub form : Form
  pub job : IsJob shapes form j
  pub one : amounts_of form ≡ shape.One
  pub slot : ℕ
  pub minima : j.minima ≡ Some slot
  pub few : cap ≤ MAX_SEATS

-- ---- what the blocks do

-- a code that has these slots, each with its shape, whatever others it has, and the job's stage
pub record HasJob (shapes : List Shape) (j : Job) (code : CountingCode) : Type 0 where
  pub slots : HasSlotsOf shapes code
  pub stage : CodeStage
  pub staged : slice_get code.stages j.stage ≡ Some stage

-- where the block begins, no entry of a scope has a weight above the limit
pub record HasWeights (f : Form) (j : Job) (code : CountingCode) (e : Election) (state : State) : Type 0 where
  pub weights : AreWeights e f (column_of code e state j.weights)

-- the name of the job's stage
abbrev pub name_in : CountingCode → Job → List ℕ → Type 0
name_in code j name = option_map (λ stage. stage.name) (slice_get code.stages j.stage) ≡ Some name

-- what a split comes to by the columns that the state holds
pub record SplitMeans (f : Form) (j : Job) (method : Method) (code : CountingCode) (e : Election) (state : State) (r : ExprResult) : Type 0 where
  pub name : List ℕ
  pub named : name_in code j name
  pub is : IsSplit e (stand f (slots_of j) name) (column_of code e state j.amount) (column_of code e state j.weights) (amounts_of f) method j.majority
      (option_map (column_of code e state) j.minima) r

-- and what a growth comes to
pub record GrowthMeans (f : Form) (j : Job) (slot : ℕ) (d : Divisor) (cap : ℕ) (code : CountingCode) (e : Election) (state : State) (r : ExprResult) : Type 0 where
  pub name : List ℕ
  pub named : name_in code j name
  pub is : IsGrown e (stand f (slots_of j) name) (column_of code e state j.amount) (column_of code e state j.weights) (by.Divisor d) j.majority
      (column_of code e state slot) cap r

-- a block does as the result says: its column and its records, or its fault
abbrev pub IsResultBlock : (shapes : List Shape) (f : Form) (j : Job) → (CountingCode → Election → State → ExprResult → Type 0) → List Instr → List Instr → Type 0
IsResultBlock shapes f j Means before after =
    IsShareBlock (HasJob shapes j) (HasWeights f j) (λ code e state. HasResult e f (slots_of j) (Means code e state) state) (λ code e state. EndsWith (Means code e state)) before after

-- the code after is the code before with the block of that split, or of that growth
abbrev pub IsSplitBlock : (shapes : List Shape) (j : Job) (method : Method) → List Instr → List Instr → Type 0
IsSplitBlock shapes j method before after = (f : Form) → IsJob shapes f j → IsResultBlock shapes f j (SplitMeans f j method) before after

abbrev pub IsGrowthBlock : (shapes : List Shape) (j : Job) (d : Divisor) (cap : ℕ) → List Instr → List Instr → Type 0
IsGrowthBlock shapes j d cap before after =
    (f : Form) (slot : ℕ) → IsJob shapes f j → j.minima ≡ Some slot → IsResultBlock shapes f j (GrowthMeans f j slot d cap) before after

-- the same in the words of plans
abbrev pub IsSplitPlan : (shapes : List Shape) (j : Job) (method : Method) → List Instr → List Instr → Type 0
IsSplitPlan shapes j method before after = (f : Form) → IsJob shapes f j → AreBlocks (HasJob shapes j) (split_tree f (slots_of j) method j.majority ∷ []) before after

abbrev pub IsGrowthPlan : (shapes : List Shape) (j : Job) (d : Divisor) (cap : ℕ) → List Instr → List Instr → Type 0
IsGrowthPlan shapes j d cap before after = (f : Form) → IsJob shapes f j → AreBlocks (HasJob shapes j) (grow_tree f (slots_of j) d j.majority cap ∷ []) before after

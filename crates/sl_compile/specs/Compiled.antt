-- What it is for a counting code to count as a rulebook means (docs/compiler.md, section 8).
use Rattle.std.specs.Prelude.{◌≡◌, ◌↔◌, ℕ, [], Option, Some, length, map, slice_get}
use Rattle.sl_law_meaning.specs.declared.table.Outcome.{Outcome}
use Rattle.sl_law_meaning.specs.declared.table.Outcome.TheVariants as outcome
use Rattle.sl_law_meaning.specs.book.Trees.{BookTree}
use Rattle.sl_law_meaning.specs.book.Typing.{columns_of}
use Rattle.sl_law_meaning.specs.returns.Election.{Election, IsElection}
use Rattle.sl_law_meaning.specs.meaning.Columns.{NamedColumn}
use Rattle.sl_law_meaning.specs.meaning.Tables.{SeatTable}
use Rattle.sl_law_meaning.specs.meaning.Means.{Known, Through, nothing_known, StagesMean, SameTable, Means}
use Rattle.sl_law_meaning.specs.laws.MeaningLaws.{RecordsComeOnce}
use Rattle.sl_code_instructions.specs.declared.code.CodeStage.{CodeStage}
use Rattle.sl_code_instructions.specs.Codes.{CountingCode}
use Rattle.sl_code_semantics.specs.State.{State, End, Halted, Faulted}
use Rattle.sl_code_semantics.specs.Runs.{Ending, Ended, budget_of, ending}
use Rattle.sl_code_semantics.specs.Memories.{Held, column_of, held_of}
use Rattle.sl_code_semantics.specs.Tables.{held_table}

-- the table stands in what is held, and no record comes twice
pub record IsHeld (e : Election) (h : Held) (t : SeatTable) : Type 0 where
  pub same : SameTable t (held_table e h)
  pub once : RecordsComeOnce (held_table e h)

-- the run of a code that ends so yields the outcome
abbrev pub ComesTo : CountingCode → Election → Ending → Outcome → Type 0
ComesTo c e (Ended (Halted base vacant s)) (outcome.Table t) = IsHeld e (held_of c e base vacant s) t
ComesTo c e (Ended (Faulted f)) (outcome.Fault g) = f ≡ g
ComesTo c e _ _ = ⊥

-- where the run is done, the slot of each stage holds the stage's column
pub record HasStageColumns (b : BookTree) (c : CountingCode) (e : Election) (s : State) : Type 0 where
  pub known : Known
  pub means : StagesMean b e nothing_known b.stages (Through known)
  pub columns : (n : ℕ) (stage : CodeStage) (x : NamedColumn) → slice_get c.stages n ≡ Some stage → slice_get known.columns n ≡ Some x →
      column_of c e s stage.slot ≡ x.values

-- how the code ends with the book's budget
abbrev pub ending_by : BookTree → CountingCode → Election → Ending
ending_by b c e = ending c e (budget_of (length b.stages) e)

-- the code has the stages of the book, in order, and the slot of each is there and has the shape of the stage's column. On all returns its run
-- ends within the budget; it yields an outcome exactly if the book means that outcome; and where it is done, the columns of the stages stand in
-- their slots
pub record IsCompiled (b : BookTree) (c : CountingCode) : Type 0 where
  pub stages : map (λ s. s.name) c.stages ≡ map (λ s. s.name) b.stages
  pub shapes : map (λ s. slice_get c.slots s.slot) c.stages ≡ map (λ x. Some x.type.shape) (columns_of [] b.stages)
  pub ends : (e : Election) → IsElection e → (end : End) × (ending_by b c e ≡ Ended end)
  pub means : (e : Election) (o : Outcome) → IsElection e → Means b e o ↔ ComesTo c e (ending_by b c e) o
  pub columns : (e : Election) (base : ℕ) (vacant : Option ℕ) (s : State) → IsElection e → ending_by b c e ≡ Ended (Halted base vacant s) → HasStageColumns b c e s

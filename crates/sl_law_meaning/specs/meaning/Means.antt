-- What a rulebook means on returns: one outcome, a seat table or a legal fault (docs/meaning.md, section 9).
use Rattle.std.specs.Prelude.{◌≡◌, ℕ, List, [], ◌∷◌, ◌++◌, length, unwrap_or, option_map, slice_get, filter_map, IsPermutation}
use Rattle.std.specs.List.{zip, AllZip}
use Rattle.sl_law_meaning.specs.declared.book.Seating.{Seating}
use Rattle.sl_law_meaning.specs.declared.book.Seating.TheVariants as seating
use Rattle.sl_law_meaning.specs.declared.fault.LegalFault.{LegalFault}
use Rattle.sl_law_meaning.specs.declared.table.Outcome.{Outcome}
use Rattle.sl_law_meaning.specs.declared.table.Outcome.TheVariants as outcome
use Rattle.sl_law_meaning.specs.meaning.Tables.{SeatTable}
use Rattle.sl_law_meaning.specs.book.Trees.{StageTree, BookTree}
use Rattle.sl_law_meaning.specs.returns.Election.{Election}
use Rattle.sl_law_meaning.specs.returns.Facts.{lists_of, is_eligible}
use Rattle.sl_law_meaning.specs.book.Typing.{Column as TypedColumn, stage_column}
use Rattle.sl_law_meaning.specs.methods.Ties.{Choice}
use Rattle.sl_law_meaning.specs.meaning.Columns.{NamedColumn, IsLeaf}
use Rattle.sl_law_meaning.specs.meaning.Seating.{base_of}
use Rattle.sl_law_meaning.specs.meaning.Records.{Records, no_records, both_records}
use Rattle.sl_law_meaning.specs.meaning.Results.{ExprResult, Column, Fault}
use Rattle.sl_law_meaning.specs.meaning.Expressions.{Context, ExprMeans}
use Rattle.sl_law_meaning.specs.meaning.Seating.{keep_table, IsSeating, tie_of, cover_table}

-- ---- stages

-- what is known after some stages: their columns, with their types, and the records of their seats
pub record Known : Type 0 where
  pub types : List TypedColumn
  pub columns : List NamedColumn
  pub records : Records

abbrev pub nothing_known : Known
nothing_known = record { types = []; columns = []; records = no_records }

-- where the expression of the next stage stands
abbrev pub context_of : Known → StageTree → Context
context_of k s = record { stage = length k.columns; name = s.name; types = k.types; columns = k.columns }

-- what is known after that stage too
abbrev pub with_stage : Known → StageTree → List ℕ → Records → Known
with_stage k s values records = record {
  types = k.types ++ stage_column k.types s ∷ [];
  columns = k.columns ++ record { name = s.name; values = values } ∷ [];
  records = both_records k.records records;
}

-- what stages come to: their columns, or the first fault
pub data StagesResult : Type 0 where
  Through : (known : Known) → StagesResult
  Stopped : (fault : LegalFault) → StagesResult

-- a fault stops the run, and a column goes on
abbrev pub GoesOn : ExprResult → (List ℕ → Records → Type 0) → StagesResult → Type 0
GoesOn (Fault f) OnColumn r = r ≡ Stopped f
GoesOn (Column values records) OnColumn r = OnColumn values records

abbrev pub StagesMean : BookTree → Election → Known → List StageTree → StagesResult → Type 0
StagesMean b e k [] r = r ≡ Through k
StagesMean b e k (s ∷ ss) r =
    (first : ExprResult) × ExprMeans b e (context_of k s) s.expr first ×
    GoesOn first (λ values records. StagesMean b e (with_stage k s values records) ss r) r

-- ---- outcomes

-- under `cover` each list, in list order, yields a choice between its winners; the first tie is the outcome
pub record IsCovered (b : BookTree) (e : Election) (base : List ℕ) (records : Records) (o : Outcome) : Type 0 where
  pub choices : List Choice
  pub each : AllZip (IsSeating (is_eligible b.eligible e) e base) (lists_of e) choices
  pub is : o ≡ unwrap_or (option_map (λ f. outcome.Fault f) (slice_get (filter_map (tie_of (is_eligible b.eligible e) e (length b.stages)) (zip (lists_of e) choices)) 0))
      (outcome.Table (cover_table b e base records (zip (lists_of e) choices)))

abbrev pub IsSeated : BookTree → Election → Seating → List ℕ → Records → Outcome → Type 0
IsSeated b e seating.Keep base records o = o ≡ outcome.Table (keep_table b e base records)
IsSeated b e seating.Cover base records o = IsCovered b e base records o

-- the last clause, after the stages
pub record IsEnd (b : BookTree) (e : Election) (k : Known) (o : Outcome) : Type 0 where
  pub base : List ℕ
  pub is_base : IsLeaf b e k.columns (base_of b.last) base
  pub seated : IsSeated b e b.last.seating base k.records o

abbrev pub EndsAs : BookTree → Election → StagesResult → Outcome → Type 0
EndsAs b e (Stopped f) o = o ≡ outcome.Fault f
EndsAs b e (Through k) o = IsEnd b e k o

-- the outcome, with a table's steps and weights in the order of stages, scopes and entries
pub record IsOutcome (b : BookTree) (e : Election) (o : Outcome) : Type 0 where
  pub run : StagesResult
  pub stages : StagesMean b e nothing_known b.stages run
  pub ends : EndsAs b e run o

-- ---- up to the order of a table's steps and weights

pub record SameTable (t u : SeatTable) : Type 0 where
  pub lists : t.lists ≡ u.lists
  pub placed : t.placed ≡ u.placed
  pub steps : IsPermutation t.steps u.steps
  pub weights : IsPermutation t.weights u.weights

abbrev pub SameOutcome : Outcome → Outcome → Type 0
SameOutcome (outcome.Table t) (outcome.Table u) = SameTable t u
SameOutcome (outcome.Fault f) (outcome.Fault g) = f ≡ g
SameOutcome _ _ = ⊥

-- the book b means the outcome o on the returns e
pub record Means (b : BookTree) (e : Election) (o : Outcome) : Type 0 where
  pub ordered : Outcome
  pub is : IsOutcome b e ordered
  pub same : SameOutcome o ordered

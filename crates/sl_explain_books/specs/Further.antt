-- The further faults of a refused rulebook: the clause in which a fault lies is left out, and the rest is tested again (docs/explanations.md).
use Rattle.std.specs.Prelude.{ℕ, ◌-◌, ◌≡◌, Bool, true, false, not, ◌||◌, List, [], ◌∷◌, ◌++◌, Option, Some, None, filter, length, min, nat_eq, nat_le, if◌then◌else◌}
use Rattle.std.specs.List.{list_any}
use Rattle.std.specs.Str.{bytes_eq}
use Rattle.sl_law_meaning.specs.declared.book.Base.{Base}
use Rattle.sl_law_meaning.specs.declared.book.Base.TheVariants as base
use Rattle.sl_law_meaning.specs.declared.book.Cond.{Cond}
use Rattle.sl_law_meaning.specs.declared.book.Cond.TheVariants as condition
use Rattle.sl_law_meaning.specs.declared.book.LastClause.{LastClause}
use Rattle.sl_law_meaning.specs.declared.book.Number.{Number}
use Rattle.sl_law_meaning.specs.declared.check_fault.CheckFault.{CheckFault}
use Rattle.sl_law_meaning.specs.declared.check_fault.CheckFault.TheVariants as fault
use Rattle.sl_law_meaning.specs.book.Trees.{BookTree, StageTree}
use Rattle.sl_law_meaning.specs.book.Typing.{check_fault}
use Rattle.sl_check.specs.Names.{names_one_of}
use Rattle.sl_explain_books.specs.declared.clause.Clause.{Clause}
use Rattle.sl_explain_books.specs.declared.clause.Clause.TheVariants as clause
use Rattle.sl_explain_books.specs.declared.further.Further.{Further}
use Rattle.sl_explain_books.specs.declared.further.TheConstants.{MAX_FURTHER}

-- ---- the clause in which a fault lies

-- the stage in which an offset lies: the last of those that begin no later
abbrev pub stage_at : ℕ → Option ℕ → List StageTree → Option ℕ
stage_at at found [] = found
stage_at at found (s ∷ ss) = stage_at at (if nat_le s.at at then Some s.at else found) ss

abbrev pub stage_clause : Option ℕ → Clause
stage_clause None = clause.Last
stage_clause (Some at) = clause.Stage at

-- the stage in which an offset lies, or the last clause
abbrev pub clause_at : BookTree → ℕ → Clause
clause_at b at = if nat_le b.last.at at then clause.Last else stage_clause (stage_at at None b.stages)

abbrev pub clause_of : BookTree → CheckFault → Clause
clause_of b (fault.Version at) = clause.Version
clause_of b (fault.HouseRange at) = clause.House
clause_of b (fault.PerRange at) = clause.Condition at
clause_of b (fault.StageTwice at) = clause.Stage at
clause_of b (fault.TwoSplits at) = clause.Stage at
clause_of b (fault.StageUnknown at) = clause_at b at
clause_of b (fault.Shape at) = clause_at b at
clause_of b (fault.Unit at) = clause_at b at
clause_of b (fault.MethodOption at) = clause_at b at
clause_of b (fault.CapRange at) = clause_at b at
clause_of b (fault.SeatsShape at) = clause.Last

-- ---- a rulebook without a clause

-- a number that no test refuses, in place of one that is left out
abbrev pub version_left : Clause → Number → Number
version_left clause.Version n = record { value = 2; at = n.at }
version_left _ n = n

abbrev pub house_left : Clause → Number → Number
house_left clause.House n = record { value = 1; at = n.at }
house_left _ n = n

-- the condition with the share at that offset is left out, and the others are left
abbrev pub condition_left : Clause → Cond → Bool
condition_left (clause.Condition at) (condition.Valid share per) = not (nat_eq share.at at)
condition_left _ c = true

abbrev pub is_stage : Clause → ℕ → Bool
is_stage (clause.Stage stage) at = nat_eq stage at
is_stage _ at = false

abbrev pub is_last : Clause → Bool
is_last clause.Last = true
is_last _ = false

-- a stage is left out that is the clause itself, and one that names a stage before it that is left out: nothing is known of what it names
abbrev pub is_left_out : Clause → List (List ℕ) → StageTree → Bool
is_left_out c lost s = is_stage c s.at || names_one_of lost s.expr

-- the names of the stages that are left out, with that of a stage, if it is
abbrev pub lost_with : Clause → List (List ℕ) → StageTree → List (List ℕ)
lost_with c lost s = if is_left_out c lost s then lost ++ s.name ∷ [] else lost

-- a stage, if it is left
abbrev pub left_of : Clause → List (List ℕ) → StageTree → List StageTree
left_of c lost s = if is_left_out c lost s then [] else s ∷ []

-- the names of the stages that are left out, after those
abbrev pub names_lost : Clause → List (List ℕ) → List StageTree → List (List ℕ)
names_lost c lost [] = lost
names_lost c lost (s ∷ ss) = names_lost c (lost_with c lost s) ss

-- the stages that are left, after those names
abbrev pub stages_left : Clause → List (List ℕ) → List StageTree → List StageTree
stages_left c lost [] = []
stages_left c lost (s ∷ ss) = left_of c lost s ++ stages_left c (lost_with c lost s) ss

-- the winners, in which no fault lies, are the base where the last clause is left out, or the stage that it names
abbrev pub base_left : Clause → List (List ℕ) → Base → Base
base_left c lost base.Winners = base.Winners
base_left c lost (base.Stage n) = if is_last c || list_any (bytes_eq n) lost then base.Winners else base.Stage n

abbrev pub last_left : Clause → List (List ℕ) → LastClause → LastClause
last_left c lost last = record { base = base_left c lost last.base; at = last.at; seating = last.seating; vacate = last.vacate }

-- the rulebook without a clause, and without the stages that name one that is left out
abbrev pub without : Clause → BookTree → BookTree
without c b = record {
  version = version_left c b.version;
  law = b.law;
  house = house_left c b.house;
  eligible = filter (condition_left c) b.eligible;
  stages = stages_left c [] b.stages;
  last = last_left c (names_lost c [] b.stages) b.last;
}

-- what is left of a rulebook without the clause in which a fault lies
abbrev pub without_fault : CheckFault → BookTree → BookTree
without_fault f b = without (clause_of b f) b

-- ---- the further faults

-- a rulebook has these faults one after another, each with the clauses of those before it left out, and that much is left of it
pub data Leaves (b : BookTree) : List CheckFault → BookTree → Type 0 where
  none : Leaves b [] b
  one_more : {fs : List CheckFault} {left : BookTree} → (f : CheckFault) → Leaves b fs left → check_fault left ≡ Some f → Leaves b (fs ++ f ∷ []) (without_fault f left)

-- all further faults of a rulebook after a fault: nothing that is left is refused
pub record AreFurther (b : BookTree) (f : CheckFault) (fs : List CheckFault) : Type 0 where
  pub left : BookTree
  pub leaves : Leaves (without_fault f b) fs left
  pub good : check_fault left ≡ None

-- a line for each of these faults, up to the twentieth, and the number of the others
pub record Tells (r : Further) (fs : List CheckFault) : Type 0 where
  pub lines : length r.lines.items ≡ min MAX_FURTHER (length fs)
  pub more : r.more ≡ length fs - MAX_FURTHER

-- so it is with all further faults of a rulebook after a fault
pub record TellsAll (b : BookTree) (f : CheckFault) (r : Further) : Type 0 where
  pub faults : List CheckFault
  pub all : AreFurther b f faults
  pub tells : Tells r faults

-- What the plans of a book's last clause achieve: after the stages they yield the table that the book means, or end with the first tie
-- (docs/compiler.md, section 6).
use Rattle.std.specs.Prelude.{◌≡◌, ℕ, ◌≤◌, true, None, length}
use Rattle.sl_base_terms.specs.declared.shape.Shape.TheVariants as shape
use Rattle.sl_law_meaning.specs.declared.fault.LegalFault.{LegalFault}
use Rattle.sl_law_meaning.specs.declared.table.Outcome.TheVariants as outcome
use Rattle.sl_law_meaning.specs.declared.table.Placed.TheVariants as placed
use Rattle.sl_law_meaning.specs.book.Trees.{BookTree}
use Rattle.sl_base_terms.specs.Tests.{first_failing}
use Rattle.sl_law_meaning.specs.book.Typing.{base_tests, is_typed}
use Rattle.sl_law_meaning.specs.returns.Election.{Election, IsElection}
use Rattle.sl_law_meaning.specs.meaning.Tables.{SeatTable}
use Rattle.sl_law_meaning.specs.meaning.Means.{Known, IsEnd}
use Rattle.sl_code_instructions.specs.Codes.{CountingCode}
use Rattle.sl_code_semantics.specs.State.{State, End, Faulted}
use Rattle.sl_code_semantics.specs.Memories.{held_of}
use Rattle.sl_code_semantics.specs.Tables.{held_table}
use Rattle.sl_compile_plans.specs.Laid.{AchievesAll}
use Rattle.sl_compile_pieces.specs.facts.Laws.{flags}
use Rattle.sl_compile_pieces.specs.columns.Columns.{HoldsColumn}
use Rattle.sl_compile_pieces.specs.exprs.Slots.{fact_slots, HasBookSlots, FIRST_STAGE_SLOT}
use Rattle.sl_compile_pieces.specs.exprs.Stages.{IsBehind}
use Rattle.sl_compile_pieces.specs.closing.Trees.{last_pieces, final_seats, vacant_slot}

-- where the last clause begins: the stages are after, the eligible parties are stored, and no winner is placed
pub record BeginsClosing (b : BookTree) (e : Election) (k : Known) (before s : State) : Type 0 where
  pub behind : IsBehind b e k before s
  pub flags : HoldsColumn e shape.Party (s.columns fact_slots.eligible) (flags b.eligible e)
  pub nobody : (winner : ℕ) → s.placed winner ≡ placed.Unseated

-- the last clause yields a table: its lists and places stand in what is held, nothing is recorded, and the columns of the stages are kept
pub record HasClosed (c : CountingCode) (b : BookTree) (e : Election) (k : Known) (before after : State) : Type 0 where
  pub table : SeatTable
  pub means : IsEnd b e k (outcome.Table table)
  pub lists : (held_table e (held_of c e final_seats (vacant_slot b.last.vacate) after)).lists ≡ table.lists
  pub placed : (held_table e (held_of c e final_seats (vacant_slot b.last.vacate) after)).placed ≡ table.placed
  pub steps : after.steps ≡ before.steps
  pub weights : after.weights ≡ before.weights
  pub columns : (slot q : ℕ) → FIRST_STAGE_SLOT ≤ slot → after.columns slot q ≡ before.columns slot q

-- or to the first tie
pub record EndsInOutcome (b : BookTree) (e : Election) (k : Known) (end : End) : Type 0 where
  pub fault : LegalFault
  pub means : IsEnd b e k (outcome.Fault fault)
  pub is : end ≡ Faulted fault

abbrev pub ClosingsAchieve : Type 0
ClosingsAchieve =
    (c : CountingCode) (b : BookTree) (e : Election) (k : Known) (before s : State) → is_typed b ≡ true → IsElection e →
    HasBookSlots c k.types → length c.stages ≡ length b.stages → first_failing (base_tests k.types b.last.at b.last.base) ≡ None →
    BeginsClosing b e k before s →
    AchievesAll c e (last_pieces k.types b.last) s (HasClosed c b e k s) (EndsInOutcome b e k)

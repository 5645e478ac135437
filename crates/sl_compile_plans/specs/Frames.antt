-- What a plan may write, and that it leaves all else as it was.
use Rattle.std.specs.Prelude.{◌≡◌, ℕ, Bool, true, false, ◌||◌, List, ◌++◌}
use Rattle.std.specs.List.{list_any}
use Rattle.sl_law_meaning.specs.declared.table.SeatStep.{SeatStep}
use Rattle.sl_law_meaning.specs.declared.table.Weight.{Weight}
use Rattle.sl_law_meaning.specs.returns.Election.{Election}
use Rattle.sl_code_instructions.specs.declared.instr.Instr.{Instr}
use Rattle.sl_code_instructions.specs.declared.instr.Instr.TheVariants as op
use Rattle.sl_code_instructions.specs.Codes.{CountingCode}
use Rattle.sl_code_semantics.specs.State.{State}
use Rattle.sl_code_semantics.specs.Frames.{writes_register, writes_slot, moves_party, moves_land, moves_win, writes_table, writes_mark, records_step, records_weight}
use Rattle.sl_compile_plans.specs.declared.plan.Cursor.{Cursor}
use Rattle.sl_compile_plans.specs.declared.plan.Cursor.TheVariants as cursor
use Rattle.sl_compile_plans.specs.Trees.{Tree, Line, Stop, Then, If, Each, Times, jump_of, to_first, count_down}
use Rattle.sl_compile_plans.specs.Meaning.{Onward, does}

-- ---- what a plan may write

-- an instruction after which the plan may go on is such a one. A loop's start and its step write the same
abbrev pub has_instr : (Instr → Bool) → Tree → Bool
has_instr is_so (Line is) = list_any is_so is
has_instr is_so (Stop i) = false
has_instr is_so (Then a b) = has_instr is_so a || has_instr is_so b
has_instr is_so (If t a b) = is_so (jump_of t 0) || (has_instr is_so a || has_instr is_so b)
has_instr is_so (Each over a) = is_so (to_first over 0) || has_instr is_so a
has_instr is_so (Times r m a) = list_any is_so (count_down r) || has_instr is_so a

abbrev pub may_write_register : Tree → ℕ → Bool
may_write_register tree q = has_instr (λ i. writes_register i q) tree

abbrev pub may_write_slot : Tree → ℕ → Bool
may_write_slot tree slot = has_instr (λ i. writes_slot i slot) tree

abbrev pub moves_cursor : Cursor → Instr → Bool
moves_cursor cursor.Party = moves_party
moves_cursor cursor.Land = moves_land
moves_cursor cursor.Win = moves_win

abbrev pub may_move : Tree → Cursor → Bool
may_move tree over = has_instr (moves_cursor over) tree

abbrev pub may_write_table : Tree → Bool
may_write_table = has_instr writes_table

abbrev pub may_write_mark : Tree → Bool
may_write_mark = has_instr writes_mark

-- it may seat the winner at the cursor
abbrev pub seats_winner : Instr → Bool
seats_winner op.Seat = true
seats_winner op.Single = true
seats_winner _ = false

abbrev pub may_seat : Tree → Bool
may_seat = has_instr seats_winner

abbrev pub may_record_step : Tree → Bool
may_record_step = has_instr records_step

abbrev pub may_record_weight : Tree → Bool
may_record_weight = has_instr records_weight

-- ---- what stays

-- what the plan cannot write is in the second state as in the first, and records are only added
pub record KeepsRest (tree : Tree) (s t : State) : Type 0 where
  pub registers : (q : ℕ) → may_write_register tree q ≡ false → t.registers q ≡ s.registers q
  pub columns : (slot : ℕ) → may_write_slot tree slot ≡ false → (place : ℕ) → t.columns slot place ≡ s.columns slot place
  pub party : may_move tree cursor.Party ≡ false → t.party ≡ s.party
  pub land : may_move tree cursor.Land ≡ false → t.land ≡ s.land
  pub win : may_move tree cursor.Win ≡ false → t.win ≡ s.win
  pub table : may_write_table tree ≡ false → t.table ≡ s.table
  pub mark : may_write_mark tree ≡ false → t.mark ≡ s.mark
  pub placed : may_seat tree ≡ false → (w : ℕ) → t.placed w ≡ s.placed w
  pub steps : (more : List SeatStep) × (t.steps ≡ s.steps ++ more)
  pub weights : (more : List Weight) × (t.weights ≡ s.weights ++ more)
  pub steps_kept : may_record_step tree ≡ false → t.steps ≡ s.steps
  pub weights_kept : may_record_weight tree ≡ false → t.weights ≡ s.weights

-- a plan that goes on leaves what it cannot write
abbrev pub PlansKeepTheRest : Type 0
PlansKeepTheRest = (c : CountingCode) (e : Election) (tree : Tree) (s t : State) → does c e tree s ≡ Onward t → KeepsRest tree s t

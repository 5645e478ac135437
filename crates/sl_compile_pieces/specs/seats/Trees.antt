-- The plans of a scope: sums, the first seats and the entries of the table, a seat awarded, the majority clause (docs/blocks.md, section 3).
use Rattle.std.specs.Prelude.{ℕ, List, [], ◌∷◌, ◌++◌, Option, None, Some, is_none, if◌then◌else◌}
use Rattle.sl_base_quotients.specs.declared.method.Divisor.{Divisor}
use Rattle.sl_base_quotients.specs.declared.method.Method.{Method}
use Rattle.sl_base_quotients.specs.declared.method.Method.TheVariants as by
use Rattle.sl_base_quotients.specs.declared.limits.TheConstants.{MAX_SEATS}
use Rattle.sl_law_meaning.specs.declared.book.Majority.{Majority}
use Rattle.sl_law_meaning.specs.book.Typing.{is_prefer}
use Rattle.sl_law_meaning.specs.meaning.Splits.{is_refuse}
use Rattle.sl_code_instructions.specs.declared.instr.Instr.{Instr}
use Rattle.sl_code_instructions.specs.declared.instr.Instr.TheVariants.{Set, Mov, Add, Sub, Mul, Div, Rem, Get, Store, Table, Prio, Rest, Lead, Emit, Given, Fault, Tie, Weigh}
use Rattle.sl_code_instructions.specs.declared.operand.EndFault.{EndFault}
use Rattle.sl_code_instructions.specs.declared.operand.EndFault.TheVariants as end
use Rattle.sl_code_instructions.specs.declared.operand.Ranking.{Ranking}
use Rattle.sl_code_instructions.specs.declared.operand.Ranking.TheVariants as ranking
use Rattle.sl_code_instructions.specs.declared.operand.Rounding.{Rounding}
use Rattle.sl_code_instructions.specs.Numbers.{rounding_of}
use Rattle.sl_compile_plans.specs.declared.plan.Test.TheVariants as test
use Rattle.sl_compile_plans.specs.declared.plan.Bound.TheVariants as bound
use Rattle.sl_compile_plans.specs.Trees.{Tree, Line, Stop, Then, If, Times, ones}
use Rattle.sl_compile_pieces.specs.scopes.Forms.{Form, table_of, kind_of, entries_plan}
use Rattle.sl_compile_pieces.specs.declared.registers.TheConstants as reg
use Rattle.sl_compile_pieces.specs.awards.Trees.{count_up}
use Rattle.sl_compile_pieces.specs.seats.Slots.{Slots}

-- nothing is done
abbrev pub nothing : Tree
nothing = Line []

-- the most seats of a scope
abbrev pub most_seats : ℕ
most_seats = MAX_SEATS

-- ends with a fault of the scope
abbrev pub faulty : Form → Slots → EndFault → Tree
faulty f x why = Stop (Fault x.stage (kind_of f) why)

-- ends with that fault where the register holds more than the number
abbrev pub not_over : Form → Slots → ℕ → ℕ → EndFault → Tree
not_over f x r n why = Then (Line (Set reg.FIRST_PASSING n ∷ [])) (If (test.Less reg.FIRST_PASSING r) (faulty f x why) nothing)

-- ---- sums

abbrev pub add_minimum : Option ℕ → List Instr
add_minimum None = []
add_minimum (Some slot) = Get reg.BASE slot ∷ (Add reg.NEEDED reg.BASE ∷ [])

-- the sums of the votes and of the minima of the scope's entries
abbrev pub sums : Form → Slots → Tree
sums f x =
    Then (Line (Set reg.TOTAL 0 ∷ (Set reg.NEEDED 0 ∷ [])))
    (entries_plan f (Line (Get reg.WEIGHT x.votes ∷ (Add reg.TOTAL reg.WEIGHT ∷ add_minimum x.minima))))

-- ends where the minima need more seats, or where there are none to give them to
abbrev pub refuses_seats : Form → Slots → Tree
refuses_seats f x =
    Then (If (test.Less reg.AMOUNT reg.NEEDED) (faulty f x end.Short) nothing)
    (If (test.Zero reg.TOTAL) (If (test.Less reg.NEEDED reg.AMOUNT) (faulty f x end.NoList) nothing) nothing)

-- ---- the first seats of each entry: those that are not awarded

abbrev pub minimum_base : Option ℕ → Tree
minimum_base None = Line (Set reg.BASE 0 ∷ [])
minimum_base (Some slot) = Line (Get reg.BASE slot ∷ [])

-- a minimum where there is no weight
abbrev pub outside_base : Option ℕ → Tree
outside_base minima = If (test.Zero reg.WEIGHT) (minimum_base minima) (Line (Set reg.BASE 0 ∷ []))

-- the whole part of the share, and in the register of steps what remains of it
abbrev pub whole_base : Tree
whole_base =
    Then (Line (Mov reg.BASE reg.AMOUNT ∷ (Mul reg.BASE reg.WEIGHT ∷ (Mov reg.STEP reg.BASE ∷ []))))
    (If (test.Zero reg.TOTAL) nothing (Line (Div reg.BASE reg.TOTAL ∷ (Rem reg.STEP reg.TOTAL ∷ []))))

abbrev pub base_of : Method → Slots → Tree
base_of (by.Divisor d) x = minimum_base x.minima
base_of by.Hamilton x = whole_base

-- ---- how an entry with weight enters the table

-- the weights of a method that rounds are recorded
abbrev pub weigh : Form → Slots → Option Rounding → List Instr
weigh f x None = []
weigh f x (Some by) = Weigh x.stage (kind_of f) by reg.WEIGHT ∷ []

-- where no minima are written, its weight is recorded
abbrev pub told_weight : Form → Slots → Divisor → List Instr
told_weight f x d = if is_none x.minima then weigh f x (rounding_of d) else []

abbrev pub enter_quotient : Form → Slots → Divisor → Tree
enter_quotient f x d = Line (told_weight f x d ++ Prio d reg.WEIGHT reg.BASE ∷ [])

abbrev pub enter_remainder : Tree
enter_remainder = Line (Rest reg.STEP ∷ [])

-- ahead of all, where the entry has more than half of the votes and its whole part is no more than half of the seats
abbrev pub enter_preferred : Tree
enter_preferred =
    Then (Line (Mov reg.FIRST_PASSING reg.WEIGHT ∷ (Add reg.FIRST_PASSING reg.WEIGHT ∷ (Mov reg.SECOND_PASSING reg.BASE ∷ (Add reg.SECOND_PASSING reg.BASE ∷ [])))))
    (If (test.Less reg.TOTAL reg.FIRST_PASSING) (If (test.Less reg.AMOUNT reg.SECOND_PASSING) enter_remainder (Line (Lead ∷ []))) enter_remainder)

abbrev pub enter_of : Form → Slots → Method → Majority → Tree
enter_of f x (by.Divisor d) majority = enter_quotient f x d
enter_of f x by.Hamilton majority = if is_prefer majority then enter_preferred else enter_remainder

abbrev pub ranking_of : Method → Ranking
ranking_of (by.Divisor d) = ranking.Quotients
ranking_of by.Hamilton = ranking.Remainders

-- the first seats of an entry are given, one after the other, where it has any
abbrev pub give_seats : Form → Slots → Tree
give_seats f x =
    If (test.Zero reg.BASE) nothing
    (Then (Line (Sub reg.LEFT reg.BASE ∷ (Set reg.NUMBER 0 ∷ (Mov reg.TURNS reg.BASE ∷ []))))
    (Times reg.TURNS (bound.AtMost most_seats) (Line (count_up reg.NUMBER ++ Given x.stage (kind_of f) reg.NUMBER ∷ []))))

-- each entry of the scope gets its first seats, and the table its next one
abbrev pub fill_entry : Form → Slots → Tree → Tree → Tree
fill_entry f x base enter =
    Then (Line (Get reg.WEIGHT x.votes ∷ []))
    (Then base
    (Then (Line (Store x.result reg.BASE ∷ []))
    (Then (give_seats f x) (If (test.Zero reg.WEIGHT) nothing enter))))

abbrev pub fill : Form → Slots → Ranking → Tree → Tree → Tree
fill f x by base enter = Then (Line (Table (table_of f) by ∷ (Mov reg.LEFT reg.AMOUNT ∷ []))) (entries_plan f (fill_entry f x base enter))

-- ---- a seat awarded

-- its entry's next seat waits in the table
abbrev pub enter_again : Slots → Divisor → Tree
enter_again x d = Then (Line (Get reg.WEIGHT x.votes ∷ [])) (If (test.Zero reg.WEIGHT) nothing (Line (Prio d reg.WEIGHT reg.HELD ∷ [])))

abbrev pub again_of : Slots → Method → Tree
again_of x (by.Divisor d) = enter_again x d
again_of x by.Hamilton = nothing

-- it is counted by `ones`, which is 1 where seats are awarded
abbrev pub seat : Form → Slots → Tree → Tree
seat f x again = Then (Line (Get reg.HELD x.result ∷ (Add reg.HELD ones ∷ (Store x.result reg.HELD ∷ (Emit x.stage (kind_of f) reg.HELD reg.STEP ∷ []))))) again

-- a tie ends the run
abbrev pub tied : Form → Slots → Tree
tied f x = Stop (Tie x.stage (kind_of f) reg.LEFT)

-- ---- the majority clause

-- ends where an entry has more than half of the votes and no more than half of the seats
abbrev pub refuse_entry : Form → Slots → Tree
refuse_entry f x =
    Then (Line (Get reg.WEIGHT x.votes ∷ (Add reg.WEIGHT reg.WEIGHT ∷ [])))
    (If (test.Less reg.TOTAL reg.WEIGHT)
    (Then (Line (Get reg.HELD x.result ∷ (Add reg.HELD reg.HELD ∷ []))) (If (test.Less reg.AMOUNT reg.HELD) nothing (faulty f x end.Majority)))
    nothing)

abbrev pub refuse : Form → Slots → Majority → Tree
refuse f x majority = if is_refuse majority then If (test.Zero reg.AMOUNT) nothing (entries_plan f (refuse_entry f x)) else nothing

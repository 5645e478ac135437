-- The plans of a split and of a growth (docs/blocks.md, section 4).
use Rattle.std.specs.Prelude.{ℕ, [], ◌∷◌}
use Rattle.sl_base_quotients.specs.declared.method.Divisor.{Divisor}
use Rattle.sl_base_quotients.specs.declared.method.Method.{Method}
use Rattle.sl_base_quotients.specs.declared.method.Method.TheVariants as by
use Rattle.sl_law_meaning.specs.declared.book.Majority.{Majority}
use Rattle.sl_code_instructions.specs.declared.instr.Instr.TheVariants.{Set, Mov, Add, Sub, Max, Get, Store, Zero, Table, Prio}
use Rattle.sl_code_instructions.specs.declared.operand.EndFault.TheVariants as end
use Rattle.sl_code_instructions.specs.declared.operand.Ranking.TheVariants as ranking
use Rattle.sl_compile_plans.specs.declared.plan.Test.TheVariants as test
use Rattle.sl_compile_plans.specs.declared.plan.Bound.TheVariants as bound
use Rattle.sl_compile_plans.specs.Trees.{Tree, Line, Then, If, ones}
use Rattle.sl_compile_pieces.specs.scopes.Forms.{Form, table_of, scopes_plan, entries_plan}
use Rattle.sl_compile_pieces.specs.declared.registers.TheConstants as reg
use Rattle.sl_compile_pieces.specs.awards.Trees.{batches, awards}
use Rattle.sl_compile_pieces.specs.seats.Slots.{Slots}
use Rattle.sl_compile_pieces.specs.seats.Trees.{nothing, most_seats, faulty, not_over, sums, refuses_seats, minimum_base, outside_base, base_of, enter_quotient, enter_of, ranking_of, fill, enter_again, again_of, seat, tied, refuse}

-- ---- all scopes: the limit first, then each scope from a column of zeros

abbrev pub within_limit : Form → Slots → Tree
within_limit f x = Then (Line (Get reg.AMOUNT x.amounts ∷ [])) (not_over f x reg.AMOUNT most_seats end.Limit)

abbrev pub shared : Form → Slots → Tree → Tree
shared f x scope = Then (scopes_plan f (within_limit f x)) (Then (Line (Zero x.result ∷ [])) (scopes_plan f scope))

-- ---- a scope of a split

abbrev pub split_scope : Form → Slots → Method → Majority → Tree
split_scope f x method majority =
    Then (Line (Get reg.AMOUNT x.amounts ∷ []))
    (Then (sums f x)
    (Then (refuses_seats f x)
    (Then (fill f x (ranking_of method) (base_of method x) (enter_of f x method majority))
    (Then (awards x.stage (bound.AtMost most_seats) (tied f x) (seat f x (again_of x method))) (refuse f x majority)))))

abbrev pub split_tree : Form → Slots → Method → Majority → Tree
split_tree f x method majority = shared f x (split_scope f x method majority)

-- ---- a scope of a growth: the least house first

-- in the search the register of numbers holds the minima of entries without weight, and that of turns what the seats that the other entries
-- hold lack of their minima
abbrev pub search_entry : Form → Slots → Divisor → Tree
search_entry f x d =
    Then (Line (Get reg.WEIGHT x.votes ∷ []))
    (Then (minimum_base x.minima)
    (Then (If (test.Zero reg.WEIGHT) (Line (Add reg.NUMBER reg.BASE ∷ [])) (Line (Add reg.TURNS reg.BASE ∷ [])))
    (Then (Line (Set reg.HELD 0 ∷ (Store x.result reg.HELD ∷ [])))
    (If (test.Zero reg.WEIGHT) nothing (Line (Prio d reg.WEIGHT reg.HELD ∷ []))))))

-- a batch begins as long as a minimum is not met; else no turns are left
abbrev pub search_batch : Tree
search_batch = If (test.Zero reg.TURNS) (Line (Set reg.LEFT 0 ∷ [])) (If (test.Empty reg.PEERS) nothing (Line (Mov reg.IN_BATCH reg.PEERS ∷ [])))

-- a seat of the search, in a turn of the batches
abbrev pub search_seat : Slots → Divisor → Tree
search_seat x d =
    Then (Line (Get reg.HELD x.result ∷ []))
    (Then (minimum_base x.minima)
    (Then (If (test.Less reg.HELD reg.BASE) (Line (Sub reg.TURNS ones ∷ [])) nothing)
    (Then (Line (Add reg.HELD ones ∷ (Store x.result reg.HELD ∷ (Add reg.ALL_LEFT ones ∷ [])))) (enter_again x d))))

abbrev pub search : Form → Slots → Divisor → ℕ → Tree
search f x d cap =
    Then (Line (Set reg.NUMBER 0 ∷ (Set reg.TURNS 0 ∷ (Table (table_of f) ranking.Quotients ∷ []))))
    (Then (entries_plan f (search_entry f x d))
    (Then (Line (Set reg.ALL_LEFT 0 ∷ (Set reg.LEFT cap ∷ []))) (batches reg.LEFT (bound.AtMost most_seats) search_batch (search_seat x d))))

-- the amount grows to the house that the search found
abbrev pub take_house : Form → Slots → ℕ → Tree
take_house f x cap =
    Then (Line (Mov reg.FIRST_PASSING reg.IN_BATCH ∷ (Add reg.FIRST_PASSING reg.TURNS ∷ [])))
    (Then (If (test.Zero reg.FIRST_PASSING) nothing (faulty f x end.Cap))
    (Then (Line (Add reg.ALL_LEFT reg.NUMBER ∷ (Max reg.AMOUNT reg.ALL_LEFT ∷ []))) (not_over f x reg.AMOUNT cap end.Cap)))

abbrev pub find_house : Form → Slots → Divisor → ℕ → Tree
find_house f x d cap = Then (search f x d cap) (take_house f x cap)

abbrev pub grow_scope : Form → Slots → Divisor → Majority → ℕ → Tree
grow_scope f x d majority cap =
    Then (Line (Get reg.AMOUNT x.amounts ∷ []))
    (Then (sums f x)
    (Then (If (test.Zero reg.TOTAL) (faulty f x end.NoList) nothing)
    (Then (not_over f x reg.NEEDED cap end.Cap)
    (Then (find_house f x d cap)
    (Then (fill f x (ranking_of (by.Divisor d)) (outside_base x.minima) (enter_quotient f x d))
    (Then (awards x.stage (bound.AtMost most_seats) (tied f x) (seat f x (again_of x (by.Divisor d)))) (refuse f x majority)))))))

abbrev pub grow_tree : Form → Slots → Divisor → Majority → ℕ → Tree
grow_tree f x d majority cap = shared f x (grow_scope f x d majority cap)

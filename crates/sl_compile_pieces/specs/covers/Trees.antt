-- The plan of a covering: on each list its winners are seated by their shares, as many as the list has seats (docs/blocks.md, section 6).
use Rattle.std.specs.Prelude.{ℕ, [], ◌∷◌, ◌++◌}
use Rattle.sl_code_instructions.specs.declared.instr.Instr.TheVariants.{Set, Mov, Sub, Get, Store, Zero, Table, Wland, Share, Take, Tie, Seat, Single}
use Rattle.sl_code_instructions.specs.declared.operand.Entries.TheVariants as entries
use Rattle.sl_code_instructions.specs.declared.operand.Ranking.TheVariants as ranking
use Rattle.sl_code_instructions.specs.declared.operand.ScopeKind.TheVariants as kind
use Rattle.sl_code_semantics.specs.declared.known.TheConstants.{LAST_CLAUSE}
use Rattle.sl_compile_plans.specs.declared.plan.Cursor.TheVariants as cursor
use Rattle.sl_compile_plans.specs.declared.plan.Test.TheVariants as test
use Rattle.sl_compile_plans.specs.declared.plan.Bound.TheVariants as bound
use Rattle.sl_compile_plans.specs.Trees.{Tree, Line, Stop, Then, If, Each, Times}
use Rattle.sl_compile_pieces.specs.declared.registers.TheConstants as reg
use Rattle.sl_compile_pieces.specs.awards.Trees.{count_up, awards}

-- the slots of the seats of the lists, of the eligible parties (1 for such a party, else 0), and of the lists' numbers, which the plan writes
pub record CoverSlots : Type 0 where
  pub base : ℕ
  pub eligible : ℕ
  pub numbers : ℕ

abbrev pub nothing : Tree
nothing = Line []

-- every winner without a party is a single
abbrev pub place_singles : Tree
place_singles = Each cursor.Win (If test.NoParty (Line (Single ∷ [])) nothing)

-- the plan for a winner whose party is eligible and has a list in the winner's Land, with the cursors at that list
abbrev pub if_seatable : CoverSlots → Tree → Tree
if_seatable x body =
    Then (Line (Wland ∷ []))
    (If test.NoParty nothing (If test.NoList nothing (Then (Line (Get reg.BASE x.eligible ∷ [])) (If (test.Zero reg.BASE) nothing body))))

-- how many such winners there are of each list
abbrev pub count_winner : CoverSlots → Tree
count_winner x = Line (Get reg.WEIGHT x.numbers ∷ (count_up reg.WEIGHT ++ Store x.numbers reg.WEIGHT ∷ []))

abbrev pub count_winners : CoverSlots → Tree
count_winners x = Then (Line (Zero x.numbers ∷ [])) (Each cursor.Win (if_seatable x (count_winner x)))

-- a list is contested if it has seats, but fewer than winners: then it is counted, and has that as its number in place of the winners'; any other has 0.
-- A list without winners has that already
abbrev pub take_number : CoverSlots → Tree
take_number x =
    Then (Line (Get reg.LEFT x.base ∷ (Sub reg.WEIGHT reg.LEFT ∷ (Set reg.SECOND_PASSING 0 ∷ []))))
    (Then (If (test.Zero reg.WEIGHT) nothing (If (test.Zero reg.LEFT) nothing (Line (count_up reg.NEEDED ++ Mov reg.SECOND_PASSING reg.NEEDED ∷ []))))
    (Line (Store x.numbers reg.SECOND_PASSING ∷ [])))

abbrev pub number_list : CoverSlots → Tree
number_list x = Then (Line (Get reg.WEIGHT x.numbers ∷ [])) (If (test.Zero reg.WEIGHT) nothing (take_number x))

-- so the contested lists are numbered from 1 on, in list order
abbrev pub number_contested : CoverSlots → Tree
number_contested x = Then (Line (Set reg.NEEDED 0 ∷ [])) (Each cursor.Land (Each cursor.Party (number_list x)))

-- on a list that has seats and is not contested every such winner is seated
abbrev pub seat_fitting : CoverSlots → Tree
seat_fitting x =
    Then (Line (Get reg.WEIGHT x.numbers ∷ (Get reg.LEFT x.base ∷ [])))
    (If (test.Zero reg.WEIGHT) (If (test.Zero reg.LEFT) nothing (Line (Seat ∷ []))) nothing)

abbrev pub seat_uncontested : CoverSlots → Tree
seat_uncontested x = Each cursor.Win (if_seatable x (seat_fitting x))

-- a winner of the list of this number waits in the table by the share, is counted, and brings the list's seats
abbrev pub enter_winner : CoverSlots → Tree
enter_winner x = Line (Share ∷ (count_up reg.TOTAL ++ Get reg.LEFT x.base ∷ []))

-- is it one: the list has the number. A contested list is one of an eligible party, so that is not asked again
abbrev pub of_pair : CoverSlots → Tree
of_pair x =
    Then (Line (Get reg.WEIGHT x.numbers ∷ []))
    (If (test.Less reg.WEIGHT reg.AMOUNT) nothing (If (test.Less reg.AMOUNT reg.WEIGHT) nothing (enter_winner x)))

abbrev pub see_winner : CoverSlots → Tree
see_winner x = Then (Line (Wland ∷ [])) (If test.NoParty nothing (of_pair x))

-- the smaller one of the list's seats and its winners are to be distributed
abbrev pub seats_to_give : Tree
seats_to_give = Line (Mov reg.FIRST_PASSING reg.TOTAL ∷ (Sub reg.FIRST_PASSING reg.LEFT ∷ (Mov reg.LEFT reg.TOTAL ∷ (Sub reg.LEFT reg.FIRST_PASSING ∷ []))))

-- a tie ends the run with the list as its scope: the cursors are set to it by one of its winners, who is taken and enters again
abbrev pub tied_winners : Tree
tied_winners = Then (Line (Take ∷ (Share ∷ (Wland ∷ [])))) (If test.NoParty nothing (If (test.Empty reg.PEERS) nothing (Stop (Tie LAST_CLAUSE kind.List reg.LEFT))))

abbrev pub cover_pair : CoverSlots → Tree
cover_pair x =
    Then (Line (count_up reg.AMOUNT ++ (Set reg.TOTAL 0 ∷ (Set reg.LEFT 0 ∷ (Table entries.Win ranking.Quotients ∷ [])))))
    (Then (Each cursor.Win (see_winner x)) (Then seats_to_give (awards LAST_CLAUSE bound.Wins tied_winners (Line (Seat ∷ [])))))

-- the contested lists, one after the other
abbrev pub cover_contested : CoverSlots → Tree
cover_contested x = Then (Line (Set reg.AMOUNT 0 ∷ [])) (Times reg.NEEDED bound.Lists (cover_pair x))

abbrev pub cover_tree : CoverSlots → Tree
cover_tree x = Then place_singles (Then (count_winners x) (Then (number_contested x) (Then (seat_uncontested x) (cover_contested x))))

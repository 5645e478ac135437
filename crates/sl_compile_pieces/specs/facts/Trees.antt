-- The plans of the columns that a rulebook can name: who is eligible, the house, votes, winners, people (docs/compiler.md, section 2).
use Rattle.std.specs.Prelude.{ℕ, List, [], ◌∷◌}
use Rattle.sl_law_meaning.specs.declared.book.Cond.{Cond}
use Rattle.sl_law_meaning.specs.declared.book.Cond.TheVariants as condition
use Rattle.sl_law_meaning.specs.declared.fact.Fact.{Fact}
use Rattle.sl_law_meaning.specs.declared.fact.Fact.TheVariants as facts
use Rattle.sl_code_instructions.specs.declared.instr.Instr.{Instr}
use Rattle.sl_code_instructions.specs.declared.instr.Instr.TheVariants.{Set, Add, Mul, Get, Store, Zero, Input, House, Wland}
use Rattle.sl_code_instructions.specs.declared.operand.Input.TheVariants as input
use Rattle.sl_compile_plans.specs.declared.plan.Cursor.TheVariants as cursor
use Rattle.sl_compile_plans.specs.declared.plan.Test.TheVariants as test
use Rattle.sl_compile_plans.specs.Trees.{Tree, Line, Then, If, Each, ones}
pub use Rattle.sl_compile_pieces.specs.declared.registers.TheConstants.{TOTAL as all_votes, OWN as own_votes, CELL as cell, OTHER as number}

-- the slots of the eligible parties and of each fact, and two to work in: one of lists and one of parties
pub record FactSlots : Type 0 where
  pub eligible : ℕ
  pub of : Fact → ℕ
  pub votes : ℕ
  pub numbers : ℕ

abbrev pub nothing : Tree
nothing = Line []

-- the column's cell at the cursors is one more
abbrev pub count_one : ℕ → List Instr
count_one slot = Get cell slot ∷ (Set ones 1 ∷ (Add cell ones ∷ (Store slot cell ∷ [])))

-- ---- who is eligible

-- the party is eligible
abbrev pub let_in : FactSlots → Tree
let_in x = Line (Set cell 1 ∷ (Store x.eligible cell ∷ []))

-- each party that meets the condition is eligible: so many of all valid votes; so many winners; a national minority; everyone
abbrev pub condition_tree : FactSlots → Cond → Tree
condition_tree x (condition.Valid share per) =
    Then (Line (Input x.votes input.Valid ∷ (Set all_votes 0 ∷ [])))
    (Then (Each cursor.Land (Each cursor.Party (Line (Get cell x.votes ∷ (Add all_votes cell ∷ [])))))
    (Then (Line (Set number share.value ∷ (Mul all_votes number ∷ [])))
    (Each cursor.Party
    (Then (Line (Set own_votes 0 ∷ []))
    (Then (Each cursor.Land (Line (Get cell x.votes ∷ (Add own_votes cell ∷ []))))
    (Then (Line (Set number per ∷ (Mul own_votes number ∷ []))) (If (test.Less own_votes all_votes) nothing (let_in x))))))))
condition_tree x (condition.Winners least) =
    Then (Line (Zero x.numbers ∷ []))
    (Then (Each cursor.Win (If test.NoParty nothing (Line (count_one x.numbers))))
    (Then (Line (Set number least ∷ [])) (Each cursor.Party (Then (Line (Get cell x.numbers ∷ [])) (If (test.Less cell number) nothing (let_in x))))))
condition_tree x condition.Minority =
    Then (Line (Input x.numbers input.Minority ∷ [])) (Each cursor.Party (Then (Line (Get cell x.numbers ∷ [])) (If (test.Zero cell) nothing (let_in x))))
condition_tree x condition.All = Each cursor.Party (let_in x)

abbrev pub conditions_tree : FactSlots → List Cond → Tree
conditions_tree x [] = nothing
conditions_tree x (c ∷ cs) = Then (condition_tree x c) (conditions_tree x cs)

abbrev pub eligible_tree : FactSlots → List Cond → Tree
eligible_tree x cs = Then (Line (Zero x.eligible ∷ [])) (conditions_tree x cs)

-- ---- facts

-- the house of the returns, and the book's where they give none
abbrev pub house_tree : FactSlots → ℕ → Tree
house_tree x default = Line (Set cell default ∷ (House cell ∷ (Store (x.of facts.House) cell ∷ [])))

-- a party that is not eligible has no votes in any Land
abbrev pub drop_votes : FactSlots → Tree
drop_votes x =
    Then (Line (Get number x.eligible ∷ []))
    (If (test.Zero number) (Then (Line (Set cell 0 ∷ [])) (Each cursor.Land (Line (Store (x.of facts.Counted) cell ∷ [])))) nothing)

abbrev pub counted_tree : FactSlots → Tree
counted_tree x = Then (Line (Input (x.of facts.Counted) input.Counted ∷ [])) (Each cursor.Party (drop_votes x))

-- for the winner at the cursor: one plan where the party is eligible and has a list in the Land, and else the other
abbrev pub by_winner : FactSlots → (on_list outside : Tree) → Tree
by_winner x on_list outside =
    Then (Line (Wland ∷ [])) (If test.NoParty outside (If test.NoList outside (Then (Line (Get number x.eligible ∷ [])) (If (test.Zero number) outside on_list))))

abbrev pub winners_tree : FactSlots → Tree
winners_tree x = Then (Line (Zero (x.of facts.Winners) ∷ [])) (Each cursor.Win (by_winner x (Line (count_one (x.of facts.Winners))) nothing))

abbrev pub outside_tree : FactSlots → Tree
outside_tree x = Then (Line (Zero (x.of facts.Outside) ∷ [])) (Each cursor.Win (by_winner x nothing (Line (count_one (x.of facts.Outside)))))

abbrev pub alone_tree : FactSlots → Tree
alone_tree x =
    Then (Line (Zero (x.of facts.Independents) ∷ [])) (Each cursor.Win (Then (Line (Wland ∷ [])) (If test.NoParty (Line (count_one (x.of facts.Independents))) nothing)))

abbrev pub population_tree : FactSlots → Tree
population_tree x = Line (Input (x.of facts.Population) input.Population ∷ [])

-- where the book has that house
abbrev pub fact_tree : FactSlots → ℕ → Fact → Tree
fact_tree x default facts.House = house_tree x default
fact_tree x default facts.Counted = counted_tree x
fact_tree x default facts.Winners = winners_tree x
fact_tree x default facts.Outside = outside_tree x
fact_tree x default facts.Independents = alone_tree x
fact_tree x default facts.Population = population_tree x

-- An election under the law of 1956, small enough to follow by hand (docs/meaning.md, section 11).
use Rattle.std.specs.Prelude.{ℕ, false, [], ◌∷◌, Some, None, replicate, codes}
use Rattle.sl_base_quotients.specs.declared.method.Divisor.TheVariants.{Jefferson}
use Rattle.sl_base_quotients.specs.declared.method.Method.TheVariants as by
use Rattle.sl_law_meaning.specs.declared.fact.Fact.TheVariants as facts
use Rattle.sl_law_meaning.specs.declared.book.Pairing.TheVariants as pairings
use Rattle.sl_law_meaning.specs.declared.book.Axis.TheVariants as axis
use Rattle.sl_law_meaning.specs.declared.book.Base.TheVariants as base
use Rattle.sl_law_meaning.specs.declared.book.Cond.TheVariants as condition
use Rattle.sl_law_meaning.specs.declared.book.Majority.TheVariants as majority
use Rattle.sl_law_meaning.specs.declared.book.Seating.TheVariants as seating
use Rattle.sl_law_meaning.specs.declared.fault.Scope.{Scope}
use Rattle.sl_law_meaning.specs.declared.fault.Scope.TheVariants as scope
use Rattle.sl_law_meaning.specs.declared.fault.Item.{Item}
use Rattle.sl_law_meaning.specs.declared.fault.Item.TheVariants as item
use Rattle.sl_law_meaning.specs.declared.table.Placed.TheVariants as placed
use Rattle.sl_law_meaning.specs.declared.table.SeatStep.{SeatStep}
use Rattle.sl_law_meaning.specs.declared.table.Weight.{Weight}
use Rattle.sl_law_meaning.specs.declared.table.Outcome.TheVariants as outcome
use Rattle.sl_law_meaning.specs.book.Trees.{ExprTree, fact, name, sum, pair, split, without, BookTree}
use Rattle.sl_law_meaning.specs.meaning.Tables.{SeatTable}
use Rattle.sl_law_meaning.specs.returns.Election.{Election}
use Rattle.sl_law_meaning.specs.meaning.Means.{Means}
use Rattle.sl_law_examples.specs.SmallElections.{number, votes, over}

-- ---- the law: parties with 5 of 100 valid votes, three winners or a minority's flag; the house less the outside winners goes to the
-- parties and then to each party's lists, both by jefferson; winners are kept beyond the share, and seats without names stay vacant

abbrev pub pool : ExprTree
pool = pair 0 pairings.Less (fact 0 facts.House) (sum 0 (fact 0 facts.Outside) axis.All)

abbrev pub upper : ExprTree
upper = split 0 (name 0 (codes "pool")) (sum 0 (fact 0 facts.Counted) axis.Party) (by.Divisor Jefferson) without majority.Free

abbrev pub lower : ExprTree
lower = split 0 (name 0 (codes "upper")) (fact 0 facts.Counted) (by.Divisor Jefferson) without majority.Free

abbrev pub law_of_1956 : BookTree
law_of_1956 = record {
  version = number 2;
  law = codes "Bundeswahlgesetz 1956";
  house = number 494;
  eligible = condition.Valid (number 5) 100 ∷ condition.Winners 3 ∷ condition.Minority ∷ [];
  stages = record { name = codes "pool"; at = 0; expr = pool }
      ∷ record { name = codes "upper"; at = 0; expr = upper }
      ∷ record { name = codes "lower"; at = 0; expr = lower } ∷ [];
  last = record { base = base.Stage (codes "lower"); at = 0; seating = seating.Keep; vacate = Some 0 };
}

-- ---- the returns: a house of 10; in the first Land 600 and 200 votes, in the second 100 and 100, and three winners of the first party

abbrev pub two_lands : Election
two_lands = record {
  house = Some 10;
  land_names = codes "X" ∷ codes "Y" ∷ [];
  populations = 800 ∷ 200 ∷ [];
  cells = (Some (votes 600) ∷ Some (votes 200) ∷ replicate 254 None) ∷ (Some (votes 100) ∷ Some (votes 100) ∷ replicate 254 None) ∷ [];
  party_names = codes "A" ∷ codes "B" ∷ [];
  minorities = false ∷ false ∷ [];
  win_names = codes "y1" ∷ codes "y2" ∷ codes "y3" ∷ [];
  wins = record { land = 1; party = Some 0; first = 40; valid = 100 }
      ∷ record { land = 1; party = Some 0; first = 50; valid = 100 }
      ∷ record { land = 1; party = Some 0; first = 45; valid = 100 } ∷ [];
  lots = [];
}

-- ---- the table: 7 and 3 seats for the parties; 6 and 1, 2 and 1 for their lists; and the second list of the first party keeps three

abbrev pub step_at : ℕ → Scope → Item → ℕ → ℕ → ℕ → ℕ → SeatStep
step_at stage s i n step num den = record { stage = stage; scope = s; entry = i; n = n; step = step; mark = over num den }

abbrev pub weight_at : ℕ → Scope → Item → ℕ → Weight
weight_at stage s i weight = record { stage = stage; scope = s; entry = i; divisor = Jefferson; weight = weight }

abbrev pub table_of_1956 : SeatTable
table_of_1956 = record {
  lists = record { land = 0; party = 0; seats = 6; direct = 0; vacant = 0 }
      ∷ record { land = 0; party = 1; seats = 2; direct = 0; vacant = 0 }
      ∷ record { land = 1; party = 0; seats = 3; direct = 3; vacant = 0 }
      ∷ record { land = 1; party = 1; seats = 1; direct = 0; vacant = 0 } ∷ [];
  placed = placed.OnList ∷ placed.OnList ∷ placed.OnList ∷ [];
  steps = step_at 1 scope.All (item.Party 0) 1 1 700 1
      ∷ step_at 1 scope.All (item.Party 0) 2 2 700 2
      ∷ step_at 1 scope.All (item.Party 0) 3 4 700 3
      ∷ step_at 1 scope.All (item.Party 0) 4 5 700 4
      ∷ step_at 1 scope.All (item.Party 0) 5 7 700 5
      ∷ step_at 1 scope.All (item.Party 0) 6 8 700 6
      ∷ step_at 1 scope.All (item.Party 0) 7 9 700 7
      ∷ step_at 1 scope.All (item.Party 1) 1 3 300 1
      ∷ step_at 1 scope.All (item.Party 1) 2 6 300 2
      ∷ step_at 1 scope.All (item.Party 1) 3 9 300 3
      ∷ step_at 2 (scope.Party 0) (item.List 0 0) 1 1 600 1
      ∷ step_at 2 (scope.Party 0) (item.List 0 0) 2 2 600 2
      ∷ step_at 2 (scope.Party 0) (item.List 0 0) 3 3 600 3
      ∷ step_at 2 (scope.Party 0) (item.List 0 0) 4 4 600 4
      ∷ step_at 2 (scope.Party 0) (item.List 0 0) 5 5 600 5
      ∷ step_at 2 (scope.Party 0) (item.List 0 0) 6 6 600 6
      ∷ step_at 2 (scope.Party 0) (item.List 1 0) 1 6 100 1
      ∷ step_at 2 (scope.Party 1) (item.List 0 1) 1 1 200 1
      ∷ step_at 2 (scope.Party 1) (item.List 0 1) 2 2 200 2
      ∷ step_at 2 (scope.Party 1) (item.List 1 1) 1 2 100 1 ∷ [];
  weights = weight_at 1 scope.All (item.Party 0) 700
      ∷ weight_at 1 scope.All (item.Party 1) 300
      ∷ weight_at 2 (scope.Party 0) (item.List 0 0) 600
      ∷ weight_at 2 (scope.Party 0) (item.List 1 0) 100
      ∷ weight_at 2 (scope.Party 1) (item.List 0 1) 200
      ∷ weight_at 2 (scope.Party 1) (item.List 1 1) 100 ∷ [];
}

abbrev pub LawOf1956 : Type 0
LawOf1956 = Means law_of_1956 two_lands (outcome.Table table_of_1956)

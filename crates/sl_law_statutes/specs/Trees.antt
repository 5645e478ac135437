-- The trees of the statutes, written by hand from their texts (docs/laws.md). All hold for any offsets: each place of a text that a tree
-- keeps has a number here, and `at` says at which offset it stands.
use Rattle.std.specs.Prelude.{ℕ, List, [], ◌∷◌, Some, None, codes}
use Rattle.sl_base_quotients.specs.declared.method.Divisor.TheVariants.{Jefferson, Webster}
use Rattle.sl_base_quotients.specs.declared.method.Method.{Method}
use Rattle.sl_base_quotients.specs.declared.method.Method.TheVariants as by
use Rattle.sl_law_meaning.specs.declared.fact.Fact.{Fact}
use Rattle.sl_law_meaning.specs.declared.fact.Fact.TheVariants as facts
use Rattle.sl_law_meaning.specs.declared.book.Axis.TheVariants as axis
use Rattle.sl_law_meaning.specs.declared.book.Base.TheVariants as base
use Rattle.sl_law_meaning.specs.declared.book.Cond.{Cond}
use Rattle.sl_law_meaning.specs.declared.book.Cond.TheVariants as condition
use Rattle.sl_law_meaning.specs.declared.book.LastClause.{LastClause}
use Rattle.sl_law_meaning.specs.declared.book.Majority.{Majority}
use Rattle.sl_law_meaning.specs.declared.book.Majority.TheVariants as majority
use Rattle.sl_law_meaning.specs.declared.book.Number.{Number}
use Rattle.sl_law_meaning.specs.declared.book.Pairing.TheVariants as pairings
use Rattle.sl_law_meaning.specs.declared.book.Seating.TheVariants as seating
use Rattle.sl_law_meaning.specs.book.Trees.{ExprTree, fact, name, sum, pair, split, grow, without, atleast, StageTree, BookTree}

module _ (at : ℕ → ℕ) where
  -- a number, and a stage, at those places
  abbrev pub number : ℕ → ℕ → Number
  number n place = record { value = n; at = at place }

  abbrev pub stage : List ℕ → ℕ → ExprTree → StageTree
  stage title place expr = record { name = title; at = at place; expr = expr }

  -- ---- who takes part

  abbrev pub minorities : List Cond
  minorities = condition.Valid (number 5 0) 100 ∷ condition.Minority ∷ []

  abbrev pub common : List Cond
  common = condition.Valid (number 5 0) 100 ∷ condition.Winners 3 ∷ condition.Minority ∷ []

  -- ---- stages

  -- the house without those winners
  abbrev pub pool : Fact → StageTree
  pool told = stage (codes "pool") 1 (pair (at 2) pairings.Less (fact (at 3) facts.House) (sum (at 4) (fact (at 5) told) axis.All))

  -- the pool among the parties, by the votes of all their lists
  abbrev pub party_votes : ExprTree
  party_votes = sum (at 6) (fact (at 7) facts.Counted) axis.Party

  abbrev pub upper : Method → Majority → StageTree
  upper method m = stage (codes "upper") 8 (split (at 9) (name (at 10) (codes "pool")) party_votes method without m)

  -- each party's seats among its lists
  abbrev pub lower : Method → StageTree
  lower method = stage (codes "lower") 11 (split (at 12) (name (at 13) (codes "upper")) (fact (at 14) facts.Counted) method without majority.Free)

  -- the three stages of five statutes: what is left without those winners goes to the parties, and then to their lists
  abbrev pub shares : Fact → Method → Majority → List StageTree
  shares told method m = pool told ∷ upper method m ∷ lower method ∷ []

  -- the five further stages of 2013
  abbrev pub lands_2013 : StageTree
  lands_2013 = stage (codes "lands") 15 (split (at 16) (fact (at 17) facts.House) (fact (at 18) facts.Population) (by.Divisor Webster) without majority.Free)

  abbrev pub first_2013 : StageTree
  first_2013 = stage (codes "first") 19
      (split (at 20) (pair (at 21) pairings.Less (name (at 22) (codes "lands")) (fact (at 23) facts.Outside)) (fact (at 24) facts.Counted) (by.Divisor Webster) without majority.Free)

  abbrev pub floor_2013 : StageTree
  floor_2013 = stage (codes "floor") 25 (sum (at 26) (pair (at 27) pairings.Larger (name (at 28) (codes "first")) (fact (at 29) facts.Winners)) axis.Party)

  abbrev pub upper_2013 : StageTree
  upper_2013 = stage (codes "upper") 8 (grow (at 9) (name (at 10) (codes "pool")) party_votes (by.Divisor Webster) (name (at 30) (codes "floor")) (number 4000 31) majority.Refuse)

  abbrev pub lower_2013 : StageTree
  lower_2013 = stage (codes "lower") 11
      (split (at 12) (name (at 13) (codes "upper")) (fact (at 14) facts.Counted) (by.Divisor Webster) (atleast (fact (at 32) facts.Winners)) majority.Free)

  -- ---- last clauses

  abbrev pub keep : LastClause
  keep = record { base = base.Stage (codes "lower"); at = at 33; seating = seating.Keep; vacate = Some (at 34) }

  abbrev pub cover : LastClause
  cover = record { base = base.Stage (codes "lower"); at = at 33; seating = seating.Cover; vacate = None }

  -- ---- the statutes

  abbrev pub law_of_1956 : BookTree
  law_of_1956 = record {
    version = number 2 35;
    law = codes "Bundeswahlgesetz 1956";
    house = number 494 36;
    eligible = common;
    stages = shares facts.Outside (by.Divisor Jefferson) majority.Free;
    last = keep;
  }

  abbrev pub law_of_1985 : BookTree
  law_of_1985 = record {
    version = number 2 35;
    law = codes "Bundeswahlgesetz 1985";
    house = number 496 36;
    eligible = common;
    stages = shares facts.Outside by.Hamilton majority.Prefer;
    last = keep;
  }

  abbrev pub law_of_2008 : BookTree
  law_of_2008 = record {
    version = number 2 35;
    law = codes "Bundeswahlgesetz 2008";
    house = number 598 36;
    eligible = common;
    stages = shares facts.Outside (by.Divisor Webster) majority.Refuse;
    last = keep;
  }

  abbrev pub law_of_2013 : BookTree
  law_of_2013 = record {
    version = number 2 35;
    law = codes "Bundeswahlgesetz 2013";
    house = number 598 36;
    eligible = common;
    stages = pool facts.Outside ∷ lands_2013 ∷ first_2013 ∷ floor_2013 ∷ upper_2013 ∷ lower_2013 ∷ [];
    last = keep;
  }

  abbrev pub law_of_2023 : BookTree
  law_of_2023 = record {
    version = number 1 35;
    law = codes "Bundeswahlgesetz 2023";
    house = number 630 36;
    eligible = minorities;
    stages = shares facts.Independents (by.Divisor Webster) majority.Refuse;
    last = cover;
  }

  abbrev pub law_of_2023_order : BookTree
  law_of_2023_order = record {
    version = number 1 35;
    law = codes "Bundeswahlgesetz 2023, order of 2024";
    house = number 630 36;
    eligible = common;
    stages = shares facts.Independents (by.Divisor Webster) majority.Refuse;
    last = cover;
  }

-- each statute by its name in the library
abbrev pub statutes : List (List ℕ × ((ℕ → ℕ) → BookTree))
statutes =
    (codes "1956", law_of_1956)
    ∷ (codes "1985", law_of_1985)
    ∷ (codes "2008", law_of_2008)
    ∷ (codes "2013", law_of_2013)
    ∷ (codes "2023", law_of_2023)
    ∷ (codes "2023-order", law_of_2023_order)
    ∷ []

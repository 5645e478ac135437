-- Small elections by the statutes of 2023, whatever the offsets in their texts: what the order of 2024 changes, and a tie.
use Rattle.std.specs.Prelude.{ℕ, [], ◌∷◌, codes}
use Rattle.sl_law_meaning.specs.declared.count.Records.TheVariants.{Dropped}
use Rattle.sl_law_meaning.specs.declared.fault.FaultKind.TheVariants as fault
use Rattle.sl_law_meaning.specs.declared.fault.Item.TheVariants as item
use Rattle.sl_law_meaning.specs.declared.fault.Scope.TheVariants as scope
use Rattle.sl_law_meaning.specs.declared.table.Outcome.TheVariants as outcome
use Rattle.sl_law_meaning.specs.declared.table.Placed.TheVariants as placed
use Rattle.sl_law_meaning.specs.meaning.Counts.{IsMeantTable}
use Rattle.sl_law_meaning.specs.meaning.Means.{Means}
use Rattle.sl_law_meaning.specs.meaning.Results.{fault_at}
use Rattle.sl_law_meaning.specs.returns.Election.{Election, with_list, with_win}
use Rattle.sl_law_statutes.specs.Trees.{law_of_2023, law_of_2023_order}
use Rattle.sl_law_examples.specs.VotesThatCost.{votes, two_by_two}
use Rattle.sl_law_examples.specs.Tables.{winner_by}
use Rattle.sl_law_certificate_examples.specs.Returns.{table_of, line}

-- 25 seats; in X A has 96 votes, and B 4 votes and three winners
abbrev pub three_winners : Election
three_winners =
    with_win (with_win (with_win (with_list (with_list (two_by_two 25 2 2) 0 0 (votes 96)) 0 1 (votes 4))
    (codes "x1") (winner_by 0 1 40 100)) (codes "x2") (winner_by 0 1 50 100)) (codes "x3") (winner_by 0 1 45 100)

-- by the statute B does not take part; by the order it does, and the winner with the largest share has its seat
pub record OrderDiffers : Type 0 where
  pub by_statute : (at : ℕ → ℕ) →
      IsMeantTable Dropped (law_of_2023 at) three_winners
      (table_of (line 0 25 0 ∷ line 1 0 0 ∷ []) (placed.Unseated ∷ placed.Unseated ∷ placed.Unseated ∷ []))
  pub by_order : (at : ℕ → ℕ) →
      IsMeantTable Dropped (law_of_2023_order at) three_winners
      (table_of (line 0 24 0 ∷ line 1 1 1 ∷ []) (placed.Unseated ∷ placed.OnList ∷ placed.Unseated ∷ []))

-- five seats; A has 3 votes in X and 3 in Y, and B has 4 in X
abbrev pub equal_lists : Election
equal_lists = with_list (with_list (with_list (two_by_two 5 2 2) 0 0 (votes 3)) 1 0 (votes 3)) 0 1 (votes 4)

-- of A's three seats one is tied between its lists, and there is no lot
abbrev pub TiedScope : Type 0
TiedScope = (at : ℕ → ℕ) →
    Means (law_of_2023 at) equal_lists (outcome.Fault (fault_at 2 (scope.Party 0) (fault.Tie 1 (item.List 0 0 ∷ item.List 1 0 ∷ []))))

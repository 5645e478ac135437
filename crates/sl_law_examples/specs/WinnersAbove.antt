-- One party with more winners than its votes give it seats: by the statutes up to 2008 a table that no method gives, and by that of 2023
-- winners without a seat, whatever the offsets in their texts. Each example is the contract of a function of `votes`.
use Rattle.std.specs.Prelude.{◌≡◌, ℕ, Bool, [], ◌∷◌, codes, count_by}
use Rattle.sl_base_quotients.specs.declared.method.Divisor.{Divisor}
use Rattle.sl_base_quotients.specs.declared.method.Divisor.TheVariants.{Webster}
use Rattle.sl_law_meaning.specs.declared.table.Outcome.TheVariants as outcome
use Rattle.sl_law_meaning.specs.methods.Hamilton.{IsHamiltonAllocation}
use Rattle.sl_law_meaning.specs.returns.Election.{Election, with_list, with_win}
use Rattle.sl_law_meaning.specs.meaning.Tables.{SeatTable}
use Rattle.sl_law_meaning.specs.meaning.Means.{Means}
use Rattle.sl_law_statutes.specs.Trees.{law_of_1956, law_of_1985, law_of_2008, law_of_2023}
use Rattle.sl_law_statutes.specs.Unseated.{is_unseated}
use Rattle.sl_law_examples.specs.Failures.{IsOnly, Free}
use Rattle.sl_law_examples.specs.VotesThatCost.{votes, winner, two_by_two, Gives, Changes}

-- five seats; in X, A has 1 vote and five winners, and B has 11 votes
abbrev pub with_winners : Election
with_winners =
    with_win (with_win (with_win (with_win (with_win (with_list (with_list (two_by_two 5 2 2) 0 0 (votes 1)) 0 1 (votes 11))
    (codes "x1") (winner 0 0)) (codes "x2") (winner 0 0)) (codes "x3") (winner 0 0)) (codes "x4") (winner 0 0)) (codes "x5") (winner 0 0)

-- up to 2008 each has five of ten seats, and no method gives that by 1 and 11 votes
pub record NoMethodGives : Type 0 where
  pub seats : (at : ℕ → ℕ) →
      Gives (law_of_1956 at) with_winners (5 ∷ 5 ∷ []) × Gives (law_of_1985 at) with_winners (5 ∷ 5 ∷ []) × Gives (law_of_2008 at) with_winners (5 ∷ 5 ∷ [])
  pub by_divisor : (method : Divisor) → ¬ Free method (1 ∷ 11 ∷ []) 10 (5 ∷ 5 ∷ [])
  pub by_remainders : (prefer : Bool) → ¬ IsHamiltonAllocation prefer (1 ∷ 11 ∷ []) 10 (5 ∷ 5 ∷ [])

-- by that of 2023 B has all five seats, and the five winners have none
pub record FiveUnseated : Type 0 where
  pub seats : (at : ℕ → ℕ) → Gives (law_of_2023 at) with_winners (0 ∷ 5 ∷ [])
  pub unseated : (at : ℕ → ℕ) (t : SeatTable) → Means (law_of_2023 at) with_winners (outcome.Table t) → count_by is_unseated t.placed ≡ 5

-- eleven seats; in X, A has 95 votes and B has 5. Eleven votes more are the least that win A the eleventh seat from B, but one more is enough in the
-- count: of 101 votes B has fewer than 5 in 100, and no longer takes part
abbrev pub at_the_threshold : Election
at_the_threshold = with_list (with_list (two_by_two 11 2 2) 0 0 (votes 95)) 0 1 (votes 5)

pub record FewerAreEnough : Type 0 where
  pub ten_more : Free Webster (105 ∷ 5 ∷ []) 11 (10 ∷ 1 ∷ [])
  pub eleven_more : IsOnly (Free Webster (106 ∷ 5 ∷ []) 11) (11 ∷ 0 ∷ [])
  pub one_more : (at : ℕ → ℕ) → Changes (law_of_2023 at) at_the_threshold (votes 96) (10 ∷ 1 ∷ []) (11 ∷ 0 ∷ [])
  -- which are no seats by the votes of both
  pub of_both : IsOnly (Free Webster (96 ∷ 5 ∷ []) 11) (10 ∷ 1 ∷ [])

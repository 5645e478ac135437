-- What the seats of the parties are best at by the statutes of 2023, whatever the offsets in their texts. The law is the contract of a function
-- of `laws`.
use Rattle.std.specs.Prelude.{ℕ, ◌-◌, List, sum}
use Rattle.sl_base_quotients.specs.declared.method.Divisor.TheVariants.{Webster}
use Rattle.sl_base_quotients.specs.Quotient.{AtMost}
use Rattle.sl_law_meaning.specs.declared.table.Outcome.TheVariants as outcome
use Rattle.sl_law_meaning.specs.book.Trees.{BookTree}
use Rattle.sl_law_meaning.specs.returns.Election.{Election, IsElection}
use Rattle.sl_law_meaning.specs.meaning.Tables.{SeatTable}
use Rattle.sl_law_meaning.specs.meaning.Means.{Means}
use Rattle.sl_law_fairness.specs.Winners.{independents}
use Rattle.sl_law_fairness.specs.Optimal.{IsGivenOut, deviations}
use Rattle.sl_law_fairness.specs.Huntington.{IsLeastUnequal}
use Rattle.sl_law_statutes.specs.Trees.{law_of_2023, law_of_2023_order}
use Rattle.sl_law_statutes.specs.Houses.{house_of}
use Rattle.sl_law_statutes.specs.Parties.{party_column, seats_column}

-- no other way to give the parties that take part the house without the independents has smaller squares of the deviations of the seats for each
-- vote; and no seat moved from a party to another makes the seats for a vote of the two less apart
pub record AreBest (b : BookTree) (e : Election) (t : SeatTable) : Type 0 where
  pub least : (s : List ℕ) → IsGivenOut (party_column b e) (house_of b e - independents e) s →
      AtMost (deviations (sum (party_column b e)) (house_of b e - independents e) (party_column b e) (seats_column e t))
      (deviations (sum (party_column b e)) (house_of b e - independents e) (party_column b e) s)
  pub moved : IsLeastUnequal Webster (party_column b e) (seats_column e t)

abbrev pub AlwaysBest : BookTree → Type 0
AlwaysBest b = (e : Election) (t : SeatTable) → IsElection e → Means b e (outcome.Table t) → AreBest b e t

abbrev pub BestOf2023 : Type 0
BestOf2023 = (at : ℕ → ℕ) → AlwaysBest (law_of_2023 at) × AlwaysBest (law_of_2023_order at)

-- The numbers of the facts, one by one.
use Rattle.std.specs.Prelude.{ℕ, Bool, not, ◌&&◌, List, count_by, is_none, if◌then◌else◌}
use Rattle.sl_law_meaning.specs.declared.book.Cond.{Cond}
use Rattle.sl_law_meaning.specs.declared.fact.Fact.{Fact}
use Rattle.sl_law_meaning.specs.declared.fact.Fact.TheVariants as facts
use Rattle.sl_law_meaning.specs.declared.election.Win.{Win}
use Rattle.sl_law_meaning.specs.returns.Votes.{counted_in}
use Rattle.sl_law_meaning.specs.returns.Election.{Election, list_at}
use Rattle.sl_law_meaning.specs.returns.Facts.{is_of, is_in, is_eligible, takes_part, is_on_list}

abbrev pub is_won : ℕ → ℕ → Win → Bool
is_won land party w = is_in land w && is_of party w

module _ (conditions : List Cond) (e : Election) where
  abbrev pub is_outside : ℕ → Win → Bool
  is_outside land w = is_in land w && not (is_on_list conditions e w)

  abbrev pub list_cell : Fact → ℕ → ℕ → ℕ
  list_cell facts.Counted land party = if is_eligible conditions e party then counted_in (list_at e land party) else 0
  list_cell facts.Winners land party = if takes_part conditions e land party then count_by (is_won land party) e.wins else 0
  list_cell _ land party = 0

  abbrev pub land_cell : Fact → ℕ → ℕ
  land_cell facts.Outside land = count_by (is_outside land) e.wins
  land_cell facts.Independents land = count_by (λ w. is_in land w && is_none w.party) e.wins
  land_cell _ land = 0

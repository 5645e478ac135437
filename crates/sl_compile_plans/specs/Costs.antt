-- What is shown of costs: a plan costs its price, and where no number of that is above a share's, it takes at most a share (docs/plans.md, section 7).
use Rattle.std.specs.Prelude.{◌≡◌, ◌≤◌, true}
use Rattle.sl_law_meaning.specs.returns.Election.{Election, lands_of, parties_of, wins_of}
use Rattle.sl_code_semantics.specs.Runs.{share_of}
use Rattle.sl_compile_plans.specs.Trees.{Tree}
use Rattle.sl_compile_plans.specs.Meaning.{cost}
use Rattle.sl_compile_plans.specs.Prices.{price_at, price_of, has_price, is_in_share}

abbrev pub PlansCostTheirPrice : Type 0
PlansCostTheirPrice = (e : Election) (tree : Tree) → has_price tree ≡ true → cost e tree ≡ price_at (parties_of e) (lands_of e) (wins_of e) (price_of tree)

abbrev pub SharesSuffice : Type 0
SharesSuffice = (e : Election) (tree : Tree) → has_price tree ≡ true → is_in_share (price_of tree) ≡ true → cost e tree ≤ share_of e

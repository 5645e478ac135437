use Rattle.sl_law_examples.proofs.VotesAndGrowth.{vote_costs_by_growth}
use Rattle.sl_law_examples.proofs.votes.vote_costs_by_growth.Goals as goal

pub returns : goal.returns
returns c = vote_costs_by_growth

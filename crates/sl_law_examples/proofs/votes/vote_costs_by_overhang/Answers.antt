use Rattle.sl_law_examples.proofs.VotesAndOverhang.{vote_costs_by_overhang}
use Rattle.sl_law_examples.proofs.votes.vote_costs_by_overhang.Goals as goal

pub returns : goal.returns
returns c = vote_costs_by_overhang

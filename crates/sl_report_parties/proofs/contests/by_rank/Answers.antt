use Rattle.std.proofs.Common.{rules, subst}
use Rattle.sl_report_parties.specs.Ranks.{AreByRank}
use Rattle.sl_report_parties.proofs.ContestSteps.{ranked_order}
use Rattle.sl_report_parties.proofs.contests.by_rank.Goals as goal

pub returns : goal.returns
returns c =
    subst (λ xs. AreByRank xs c.sort_by_key.new.self.items) c.in_ok-winners.ensures
    (ranked_order c.in_ok-winners.winners.items c.sort_by_key.new.self.items c.in_ok-sort_by_key.ensures.permutation
    c.in_ok-sort_by_key.ensures.sorted c.in_ok-sort_by_key.ensures.stable (λ f a r g h. search rules))

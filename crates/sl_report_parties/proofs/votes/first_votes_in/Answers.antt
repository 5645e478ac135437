use Rattle.std.proofs.Common.{arith}
use Rattle.std.specs.Prelude.{if◌then◌else◌, sum_by}
use Rattle.sl_law_meaning.specs.declared.election.Win.{Win}
use Rattle.sl_law_meaning.specs.returns.Facts.{is_in}
use Rattle.sl_report_parties.proofs.Steps.{at_end, sum_next}
use Rattle.sl_report_parties.proofs.votes.first_votes_in.Goals as goal

pub loop-number-preserved : goal.loop-number-preserved
loop-number-preserved c =
    let more = sum_next (λ (w : Win). if is_in c.args.land w then w.valid else 0) c.args.returns.now.wins c.loop-number.number c.win.result c.win.ensures in
    record {
      votes = grind (arith, more, c.loop-number.invariant.votes, c.first_votes-votes.ensures);
      few = grind (arith, c.loop-number.invariant.few, c.first_votes-votes.ensures);
    }

pub returns : goal.returns
returns c = at_end (sum_by (λ (w : Win). if is_in c.args.land w then w.valid else 0)) c.args.returns.now.wins c.loop-number.number _ (omega (arith, c.wins-number-end.ensures.number)) c.loop-number.invariant.votes

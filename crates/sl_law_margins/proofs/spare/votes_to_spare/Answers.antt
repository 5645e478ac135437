use Rattle.std.proofs.Common.{sym, subst}
use Rattle.sl_law_margins.specs.VotesToSpare.{AreToSpare}
use Rattle.sl_law_margins.proofs.Sparing.{spare_by, spare_infinite}
use Rattle.sl_law_margins.proofs.spare.votes_to_spare.Goals as goal

pub returns-in_err-kept : goal.returns-in_err-kept
returns-in_err-kept c =
    subst (AreToSpare c.args.method c.args.weights.now c.args.minima.now c.args.seats.now c.args.entry) (sym c.from_residual.ensures)
    (spare_infinite c.args.method c.args.weights.now c.args.minima.now c.args.seats.now c.requires.allocation c.args.entry c.requires.entry c.requires.beyond c.in_err-kept.ensures)

pub returns : goal.returns
returns c =
    spare_by c.args.method c.args.weights.now c.args.minima.now c.args.seats.now c.requires.allocation c.args.entry c.requires.entry c.requires.beyond
    c.in_ok-kept.kept c.in_ok-kept.ensures c.checked_sub.result c.checked_sub.ensures

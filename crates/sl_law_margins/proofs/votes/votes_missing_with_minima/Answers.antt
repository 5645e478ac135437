use Rattle.std.proofs.Common.{sym, subst}
use Rattle.sl_law_margins.specs.MissingVotes.{AreMissingWith}
use Rattle.sl_law_margins.proofs.Missing.{no_less_needed, missing_some, missing_none, all_safe, not_safe}
use Rattle.sl_law_margins.proofs.votes.votes_missing_with_minima.Goals as goal

pub overflow_sub-result : goal.overflow_sub-result
overflow_sub-result c =
    no_less_needed c.args.method c.args.weights.now c.args.minima.now c.args.seats.now c.args.entry c.requires.allocation c.in_ok-needed.needed c.in_ok-needed.ensures

pub returns : goal.returns
returns c = record {
  missing = missing_some c.args.method c.args.weights.now c.args.minima.now c.args.seats.now c.args.entry c.requires.allocation c.requires.entry c.in_ok-needed.needed c.in_ok-needed.ensures;
  none = (
    (λ e. cc),
    (λ safe. absurd (not_safe c.args.method c.args.weights.now c.args.minima.now c.args.seats.now c.args.entry c.requires.allocation c.in_ok-needed.needed c.in_ok-needed.ensures safe)),
  );
}

pub returns-in_err-needed : goal.returns-in_err-needed
returns-in_err-needed c = record {
  missing = subst (AreMissingWith c.args.method c.args.weights.now c.args.minima.now c.args.seats.now c.args.entry) (sym c.from_residual.ensures)
      (missing_none c.args.method c.args.weights.now c.args.minima.now c.args.seats.now c.args.entry c.requires.allocation c.requires.entry c.in_err-needed.ensures);
  none = (
    (λ e. all_safe c.args.method c.args.weights.now c.args.minima.now c.args.seats.now c.args.entry c.requires.allocation c.in_err-needed.ensures),
    (λ safe. c.from_residual.ensures),
  );
}

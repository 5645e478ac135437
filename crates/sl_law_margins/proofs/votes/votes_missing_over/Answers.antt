use Rattle.std.proofs.Common.{[], None, Some, ◌-◌, get_or, subst, sym}
use Rattle.sl_law_margins.specs.MissingVotes.{AreMissing}
use Rattle.sl_law_margins.proofs.LeastRival.{needed_over, without_minima}
use Rattle.sl_law_margins.proofs.Missing.{all_safe, missing_none, missing_some, no_less_needed, not_safe}
use Rattle.sl_law_margins.proofs.NoMinima.{missing_without}
use Rattle.sl_law_margins.proofs.votes.votes_missing_over.Goals as goal

pub overflow_sub-result : goal.overflow_sub-result
overflow_sub-result c =
    let v = c.args.weights.now in
    let s = c.args.seats.now in
    no_less_needed c.args.method v [] s c.args.entry (without_minima c.args.method v s c.requires.allocation) c.in_ok-needed.needed
    (needed_over c.args.method v s c.requires.allocation c.args.entry c.args.other c.requires.other c.requires.last (Some c.in_ok-needed.needed) c.in_ok-needed.ensures)

pub returns : goal.returns
returns c =
    let v = c.args.weights.now in
    let s = c.args.seats.now in
    let w = c.in_ok-needed.needed in
    let allocation = without_minima c.args.method v s c.requires.allocation in
    let needed = needed_over c.args.method v s c.requires.allocation c.args.entry c.args.other c.requires.other c.requires.last (Some w) c.in_ok-needed.ensures in
    record {
      missing = missing_without c.args.method v s c.args.entry (Some (w - get_or v c.args.entry 0)) (missing_some c.args.method v [] s c.args.entry allocation c.requires.entry w needed);
      none = ((λ e. cc), (λ safe. absurd (not_safe c.args.method v [] s c.args.entry allocation w needed safe)));
    }

pub returns-in_err-needed : goal.returns-in_err-needed
returns-in_err-needed c =
    let v = c.args.weights.now in
    let s = c.args.seats.now in
    let allocation = without_minima c.args.method v s c.requires.allocation in
    let needed = needed_over c.args.method v s c.requires.allocation c.args.entry c.args.other c.requires.other c.requires.last None c.in_err-needed.ensures in
    record {
      missing = subst (AreMissing c.args.method v s c.args.entry) (sym c.from_residual.ensures)
          (missing_without c.args.method v s c.args.entry None (missing_none c.args.method v [] s c.args.entry allocation c.requires.entry needed));
      none = ((λ e. all_safe c.args.method v [] s c.args.entry allocation needed), (λ safe. c.from_residual.ensures));
    }

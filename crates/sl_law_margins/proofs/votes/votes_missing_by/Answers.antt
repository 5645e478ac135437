use Rattle.std.proofs.Common.{◌≡◌, [], None, length, rules, tests, refl, subst}
use Rattle.std.proofs.lemmas.List.{nil_from_length}
use Rattle.sl_base_quotients.specs.Bounds.{IsLast}
use Rattle.sl_law_meaning.specs.methods.Ties.{Lists}
use Rattle.sl_law_margins.specs.inner.Needed.{IsNeeded}
use Rattle.sl_law_margins.proofs.LeastRival.{needed_none, without_minima}
use Rattle.sl_law_margins.proofs.Missing.{all_safe, missing_none}
use Rattle.sl_law_margins.proofs.NoMinima.{missing_without}
use Rattle.sl_law_margins.proofs.votes.votes_missing_by.Goals as goal
use Rattle.sl_law_margins.proofs.votes.votes_missing_by.Goals.{Then-is_empty}

nothing_needed : (c : Then-is_empty) → IsNeeded c.args.method c.args.weights.now [] c.args.seats.now c.args.entry (length c.args.weights.now) None
nothing_needed c =
    let empty : c.args.last.now ≡ [] = nil_from_length c.args.last.now (search (tests, rules)) in
    needed_none c.args.method c.args.weights.now c.args.seats.now c.requires.allocation c.args.entry (subst (Lists (IsLast c.args.method c.args.weights.now c.args.seats.now)) empty c.requires.last)

pub returns-then-is_empty-clause-missing : goal.returns-then-is_empty-clause-missing
returns-then-is_empty-clause-missing c =
    let v = c.args.weights.now in
    let s = c.args.seats.now in
    missing_without c.args.method v s c.args.entry None (missing_none c.args.method v [] s c.args.entry (without_minima c.args.method v s c.requires.allocation) c.requires.entry (nothing_needed c))

pub returns-then-is_empty-clause-none : goal.returns-then-is_empty-clause-none
returns-then-is_empty-clause-none c =
    let v = c.args.weights.now in
    let s = c.args.seats.now in
    ((λ e. all_safe c.args.method v [] s c.args.entry (without_minima c.args.method v s c.requires.allocation) (nothing_needed c)), (λ safe. refl))

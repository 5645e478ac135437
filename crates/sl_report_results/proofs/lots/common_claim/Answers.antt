use Rattle.std.proofs.Common.{◌∙◌, ap, subst, sym}
use Rattle.std.specs.Ordering.{is_eq}
use Rattle.std.specs.Prelude.{MatchOption}
use Rattle.sl_report_results.proofs.Borders.{common_or_none}
use Rattle.sl_report_results.specs.Lots.{IsDrawn}
use Rattle.sl_report_results.specs.inner.Common.{IsCommon}
use Rattle.sl_report_results.proofs.lots.common_claim.Goals as goal

pub returns : goal.returns
returns c =
    let m = c.args.method in
    let v = c.args.weights.now in
    let s = c.args.seats.now in
    subst (λ o. MatchOption o (IsDrawn m v s → ⊥) (IsCommon m v s)) (sym c.then_some.ensures)
    (common_or_none m v s c.in_ok-last.last c.in_ok-next.next c.in_ok-last.ensures c.in_ok-next.ensures c.is_eq.result (c.is_eq.ensures ∙ ap is_eq c.cmp.ensures))

pub last_claim-requires-clause-won : goal.last_claim-requires-clause-won
last_claim-requires-clause-won c = c.requires.won

pub next_claim-requires-clause-claims : goal.next_claim-requires-clause-claims
next_claim-requires-clause-claims c = c.requires.claims

pub returns-in_err-last : goal.returns-in_err-last
returns-in_err-last c = rw c.from_residual.ensures (λ (drawn : IsDrawn c.args.method c.args.weights.now c.args.seats.now). c.in_err-last.ensures drawn.last drawn.won)

pub returns-in_err-next : goal.returns-in_err-next
returns-in_err-next c = rw c.from_residual-in_err-next.ensures (λ (drawn : IsDrawn c.args.method c.args.weights.now c.args.seats.now). c.in_err-next.ensures drawn.next drawn.claims)

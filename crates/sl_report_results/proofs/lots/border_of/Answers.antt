use Rattle.std.proofs.Common.{subst}
use Rattle.std.specs.Prelude.{MatchOption}
use Rattle.sl_report_results.proofs.Borders.{no_border, on_border, positive_den}
use Rattle.sl_report_results.specs.Lots.{IsDrawn}
use Rattle.sl_report_results.specs.inner.Common.{IsCommon}
use Rattle.sl_report_results.proofs.lots.border_of.Goals as goal

pub returns-in_default : goal.returns-in_default
returns-in_default c =
    let v = c.args.weights.now in
    let s = c.args.seats.now in
    let common = subst (λ o. MatchOption o (IsDrawn c.args.method v s → ⊥) (IsCommon c.args.method v s)) c.in_ok-claim.was c.requires in
    no_border c.args.method v s c.in_ok-claim.claim common (c.is_infinite.ensures.0 c.if-is_infinite.true)

pub returns-in_default-2 : goal.returns-in_default-2
returns-in_default-2 c =
    let v = c.args.weights.now in
    let s = c.args.seats.now in
    let common = subst (λ o. MatchOption o (IsDrawn c.args.method v s → ⊥) (IsCommon c.args.method v s)) c.in_ok-claim.was c.requires in
    on_border c.args.method v s c.in_ok-claim.claim common c.in_default.not-Hill
    (positive_den c.is_infinite.result c.in_ok-claim.claim.den c.is_infinite.ensures c.if-is_infinite.false)

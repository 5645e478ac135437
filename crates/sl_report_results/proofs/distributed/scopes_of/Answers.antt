use Rattle.std.proofs.Common.{◌<◌, ◌≤◌, ◌∙◌, ap, arith, sym, filter, length, subst}
use Rattle.std.specs.List.{AllZip}
use Rattle.std.proofs.lemmas.List.{take_all}
use Rattle.sl_report_results.proofs.ScopeSteps.{same_shape, scope_more, scope_within, scopes_long}
use Rattle.sl_report_results.specs.Places.{IsScope, items_in, scope_count}
use Rattle.sl_report_results.specs.Scopes.{IsScopeOf, has_entry, scope_entries}
use Rattle.sl_report_results.specs.StageScopes.{name_of}
use Rattle.sl_report_results.specs.inner.Drawn.{given_by}
use Rattle.sl_report_results.specs.inner.MoreScopes.{Adds}
use Rattle.sl_report_results.specs.inner.Tables.{AreWon}
use Rattle.sl_report_results.specs.inner.Within.{shape_in}
use Rattle.sl_law_meaning.specs.meaning.Scopes.{scopes}
use Rattle.sl_report_results.proofs.distributed.scopes_of.Goals as goal

pub push_scope-requires-clause-scope : goal.push_scope-requires-clause-scope
push_scope-requires-clause-scope c =
    let e = c.args.setting.now.returns.now in
    subst (IsScope e) (sym c.scope_at-scope.ensures) (scope_within e c.args.what.now.seats.shape c.loop-number.number (omega (arith, c.loop-number-test.true, c.scope_count-number-end.ensures)))

pub push_scope-requires-clause-given : goal.push_scope-requires-clause-given
push_scope-requires-clause-given c =
    let stages = c.args.setting.now.book.now.stages.items in
    c.as_slice-in-loop-number.ensures.value ∙ c.in_ok-given.ensures ∙ ap (λ name. given_by name c.args.what.now.votes.shape c.args.setting.now.returns.now.lots) (c.name_of-name.ensures ∙ ap (λ ss. name_of ss c.args.stage) c.as_slice.ensures.value)

pub loop-number-preserved : goal.loop-number-preserved
loop-number-preserved c =
    let e = c.args.setting.now.returns.now in
    let what = c.args.what.now in
    let over = what.seats.shape in
    let name = name_of c.args.setting.now.book.now.stages.items c.args.stage in
    let n = c.loop-number.number in
    let less : n < scope_count e over = omega (arith, c.loop-number-test.true, c.scope_count-number-end.ensures) in
    let won : AreWon e (shape_in what.votes.shape c.scope_at-scope.result) c.args.stage c.args.steps.now c.in_ok-won.won.cells.items =
    subst (λ v. AreWon e v c.args.stage c.args.steps.now c.in_ok-won.won.cells.items)
    (c.shape_in-votes.ensures ∙ ap (shape_in what.votes.shape) c.scope_at.ensures ∙ same_shape over what.votes.shape n ∙ ap (shape_in what.votes.shape) (sym c.scope_at-scope.ensures)) c.in_ok-won.ensures in
    scope_more e name c.args.stage what c.args.steps.now over what.votes.shape n c.loop-number.scopes.items c.push_scope.new.scopes.items less c.loop-number.invariant
    (subst (λ s. Adds c.args.stage what s (scope_entries e name c.args.stage what c.args.steps.now (items_in e what.votes.shape s)) c.loop-number.scopes.items c.push_scope.new.scopes.items) c.scope_at-scope.ensures (c.in_ok-push_scope.ensures c.args.steps.now won))

pub returns : goal.returns
returns c =
    let e = c.args.setting.now.returns.now in
    let what = c.args.what.now in
    let name = name_of c.args.setting.now.book.now.stages.items c.args.stage in
    let all = scopes e what.seats.shape what.votes.shape in
    let long : length all ≤ c.loop-number.number = omega (arith, c.loop-number-test.false, c.scope_count-number-end.ensures, scopes_long e what.seats.shape what.votes.shape) in
    subst (λ gs. AllZip (IsScopeOf e name c.args.stage what c.args.steps.now) (filter (λ g. has_entry e name c.args.stage what c.args.steps.now g.entries) gs) c.loop-number.scopes.items)
    (take_all c.loop-number.number all long) c.loop-number.invariant

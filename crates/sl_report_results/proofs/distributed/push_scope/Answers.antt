use Rattle.std.proofs.Common.{OnOk, subst, ◌∙◌}
use Rattle.sl_report_results.specs.inner.MoreScopes.{Adds}
use Rattle.sl_report_results.proofs.distributed.push_scope.Goals as goal

pub returns : goal.returns
returns c = λ steps won.
    subst (λ xs. OnOk c.push_some.result (Adds c.args.stage c.args.what.now c.args.scope xs c.args.scopes.now.items c.push_some.new.scopes.items))
    (c.as_slice.ensures.value ∙ c.in_ok-entries.ensures steps won) c.push_some.ensures

use Rattle.std.proofs.Common.{take, filter}
use Rattle.std.specs.List.{AllZip}
use Rattle.sl_report_results.specs.Scopes.{IsScopeOf, has_entry}
use Rattle.sl_report_results.specs.StageScopes.{name_of}
use Rattle.sl_law_meaning.specs.meaning.Scopes.{scopes}
use Rattle.sl_report_results.proofs.distributed.scopes_of.Given as goal

abbrev pub invariant-loop-number : goal.invariant-loop-number
invariant-loop-number l =
    let e = l.setting.returns.now in
    let name = name_of l.setting.book.now.stages.items l.stage in
    AllZip (IsScopeOf e name l.stage l.what l.steps) (filter (λ g. has_entry e name l.stage l.what l.steps g.entries) (take l.number (scopes e l.what.seats.shape l.what.votes.shape))) l.scopes.items

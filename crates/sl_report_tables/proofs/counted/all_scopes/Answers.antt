use Rattle.std.proofs.Common.{List, arith, subst, ◌≡◌, ℕ}
use Rattle.std.specs.List.{AllZip, flat_map, range_with_len}
use Rattle.sl_report_results.specs.declared.scopes.Scoped.{Scoped}
use Rattle.sl_report_tables.specs.Reports.{AreScopesOf}
use Rattle.sl_report_tables.proofs.MoreTables.{groups_more}
use Rattle.sl_report_tables.proofs.counted.all_scopes.Goals as goal

pub loop-stage-preserved : goal.loop-stage-preserved
loop-stage-preserved c =
    groups_more (AreScopesOf c.args.setting.now.book.now c.args.setting.now.returns.now c.args.counted.now) c.loop-stage.stage c.in_ok-found.found.items _ _
    c.loop-stage.invariant c.in_ok-found.ensures c.in_ok-append.ensures.items

pub returns : goal.returns
returns c =
    subst
    (λ (n : ℕ). (each : List (List Scoped)) × AllZip (AreScopesOf c.args.setting.now.book.now c.args.setting.now.returns.now c.args.counted.now) (range_with_len 0 n) each
    × (c.loop-stage.scopes.items ≡ flat_map (λ found. found) each))
    (omega (arith, c.loop-stage-test.false, c.loop-stage.auto.stage-end, c.len-stage-end.ensures)) c.loop-stage.invariant

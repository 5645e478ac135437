use Rattle.std.proofs.Common.{arith, subst, ◌∙◌}
use Rattle.std.proofs.lemmas.List.{take_all}
use Rattle.std.proofs.lemmas.Option.{slice_get-get_or}
use Rattle.sl_report_parties.proofs.ContestSteps.{SoFar, list_more}
use Rattle.sl_report_parties.proofs.contests.contested.Goals as goal

pub loop-list-preserved : goal.loop-list-preserved
loop-list-preserved c =
    let s = c.args.setting.now in
    let lists = c.lists-list-items.result.now in
    list_more s.book.now.eligible.items c.args.table.now s.returns.now lists c.loop-list.list-index _ _ _
    (slice_get-get_or lists c.loop-list.list-index _ c.loop-list-test.true) c.loop-list.invariant c.in_ok-push_contested.ensures

pub returns : goal.returns
returns c =
    let s = c.args.setting.now in
    let lists = c.lists-list-items.result.now in
    subst (λ ls. SoFar s.book.now.eligible.items c.args.table.now s.returns.now ls c.loop-list.winners.items)
    (take_all c.loop-list.list-index lists (omega (arith, c.loop-list-test.false)) ∙ c.lists-list-items.ensures) c.loop-list.invariant

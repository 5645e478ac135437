-- The run begins, and where it goes on no further it has ended, or its steps have run out.
use Rattle.std.proofs.Common.{◌≡◌, ℕ, suc, ◌-◌, List, drop, sym, ap, subst, ◌∙◌}
use Rattle.sl_code_semantics.specs.Runs.{run}
use Rattle.sl_code_steps.specs.declared.store.Store.{Store}
use Rattle.sl_machine.specs.declared.way.Standing.{Standing}
use Rattle.sl_code_steps.specs.inner.Recording.{ending_by}
use Rattle.sl_code_steps.specs.inner.Stores.{state_of}
use Rattle.sl_machine.specs.inner.UnderWay.{rest_of, steps_left}
use Rattle.sl_machine.proofs.runs.UnderWay.{begins, ends_as_it_was}
use Rattle.sl_machine.proofs.machine.steps.Goals as goal

pub loop-next-init : goal.loop-next-init
loop-next-init g c =
    let there = begins g.R.Recording.records c.args.code.now c.args.returns.now c.args.budget (state_of c.args.store.now) c.from-ahead.result.now c.requires.safe c.requires.records c.from-ahead.ensures in
    record { under_way = there.0; same = there.1; sizes = c.requires.sizes }

pub returns-in-None-clause-end : goal.returns-in-None-clause-end
returns-in-None-clause-end g c =
    let k = g.R.Recording.records in
    let code = c.args.code.now in
    let e = c.args.returns.now in
    let l = c.loop-next in
    let here = c.first_of.result.now in
    let s = state_of l.store in
    let same = subst (λ (xs : List Standing). ending_by k (run code e c.args.budget 0 (state_of c.args.store.now)) ≡ rest_of k code e l.clock xs s) c.first_of.ensures l.invariant.same in
    let stops = rw c.in-None.is at c.in_ok-next.ensures.stops in
    let was = ends_as_it_was l.clock c.step_from.new.clock l.ahead.now here (drop 1 l.ahead.now) l.store c.step_from.new.store c.first_of.ensures stops.0 c.if-is_out.ensures.1 stops.1 in
    same ∙ ap (λ (n : ℕ). ending_by k (run code e n here.place s)) was.0
    ∙ ap (λ (x : Store). ending_by k (run code e (suc (steps_left l.clock here.place - 1)) here.place (state_of x))) (sym was.1)
    ∙ c.in_ok-end_at-in-None.ensures.ends.1 (steps_left l.clock here.place - 1)

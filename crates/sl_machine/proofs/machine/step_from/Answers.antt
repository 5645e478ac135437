-- The step is one that may be made, and the run goes on as it would have.
use Rattle.std.proofs.Common.{List, ◌∷◌, Some, drop, sym, ap, subst, ◌∙◌}
use Rattle.std.proofs.lemmas.Option.{slice_get_within}
use Rattle.sl_machine.specs.declared.way.Standing.{Standing}
use Rattle.sl_code_steps.specs.inner.Stores.{state_of}
use Rattle.sl_machine.specs.inner.UnderWay.{IsUnderWay, GoesOn}
use Rattle.sl_machine.proofs.runs.Leading.{may_here, columns_here, goes_on, target_is, jumps_to}
use Rattle.sl_machine.proofs.runs.UnderWay.{some_ahead, goes_further, jumps_further}
use Rattle.sl_machine.proofs.machine.step_from.Goals as goal

pub first_of-here-requires : goal.first_of-here-requires
first_of-here-requires g c = some_ahead g.R.Recording.records c.args.code.now c.args.returns.now c.args.clock.now c.args.ahead.now (state_of c.args.store.now) c.requires.under_way

pub behind-requires : goal.behind-requires
behind-requires g c = some_ahead g.R.Recording.records c.args.code.now c.args.returns.now c.args.clock.now c.args.ahead.now (state_of c.args.store.now) c.requires.under_way

pub step-requires-clause-step : goal.step-requires-clause-step
step-requires-clause-step g c =
    let under = subst (λ (xs : List Standing). IsUnderWay g.R.Recording.records c.args.code.now c.args.returns.now c.args.clock.now xs (state_of c.args.store.now)) c.first_of-here.ensures c.requires.under_way in
    may_here under.safe under.stands

pub step-requires-clause-columns : goal.step-requires-clause-columns
step-requires-clause-columns g c =
    let under = subst (λ (xs : List Standing). IsUnderWay g.R.Recording.records c.args.code.now c.args.returns.now c.args.clock.now xs (state_of c.args.store.now)) c.first_of-here.ensures c.requires.under_way in
    columns_here under.safe under.stands

pub step-requires-clause-records : goal.step-requires-clause-records
step-requires-clause-records g c =
    let under = subst (λ (xs : List Standing). IsUnderWay g.R.Recording.records c.args.code.now c.args.returns.now c.args.clock.now xs (state_of c.args.store.now)) c.first_of-here.ensures c.requires.under_way in
    under.none

pub from-requires-clause-place : goal.from-requires-clause-place
from-requires-clause-place g c =
    let under = subst (λ (xs : List Standing). IsUnderWay g.R.Recording.records c.args.code.now c.args.returns.now c.args.clock.now xs (state_of c.args.store.now)) c.first_of-here.ensures c.requires.under_way in
    let same = c.in-Some-Jumps.is ∙ ap Some c.in-Some-Jumps.field-0-is in
    let follows = rw same at c.in_ok-step.ensures.follows in
    let target = target_is under.safe under.stands g.R.Recording.records under.none follows (rw same at c.in_ok-step.ensures.target) in
    let there = (jumps_to under.safe under.stands g.R.Recording.records under.none follows target).0 in
    slice_get_within c.args.code.now.instrs c.in-Some-Jumps.target there.instr there.stands

pub returns-in-Some-Goes-clause-goes : goal.returns-in-Some-Goes-clause-goes
returns-in-Some-Goes-clause-goes g c =
    let k = g.R.Recording.records in
    let code = c.args.code.now in
    let e = c.args.returns.now in
    let clock = c.args.clock.now in
    let s = state_of c.args.store.now in
    let t = state_of c.step.new.self in
    let here = c.first_of-here.result.now in
    let others = drop 1 c.args.ahead.now in
    let under = subst (λ (xs : List Standing). IsUnderWay k code e clock xs s) c.first_of-here.ensures c.requires.under_way in
    let follows = rw (c.in-Some-Goes.is ∙ ap Some c.in-Some-Goes.field-0-is) at c.in_ok-step.ensures.follows in
    subst (λ (xs : List Standing). GoesOn k code e clock xs s clock c.behind.result.now t) (sym c.first_of-here.ensures)
    (subst (λ (next : List Standing). GoesOn k code e clock (here ∷ others) s clock next t) (sym c.behind.ensures)
    (goes_further k code e clock here others s t under (goes_on under.safe under.stands k under.none follows)))

pub returns-in-Some-clause-goes : goal.returns-in-Some-clause-goes
returns-in-Some-clause-goes g c =
    let k = g.R.Recording.records in
    let code = c.args.code.now in
    let e = c.args.returns.now in
    let clock = c.args.clock.now in
    let s = state_of c.args.store.now in
    let t = state_of c.step.new.self in
    let here = c.first_of-here.result.now in
    let others = drop 1 c.args.ahead.now in
    let q = c.in-Some-Jumps.target in
    let under = subst (λ (xs : List Standing). IsUnderWay k code e clock xs s) c.first_of-here.ensures c.requires.under_way in
    let same = c.in-Some-Jumps.is ∙ ap Some c.in-Some-Jumps.field-0-is in
    let follows = rw same at c.in_ok-step.ensures.follows in
    let target = target_is under.safe under.stands k under.none follows (rw same at c.in_ok-step.ensures.target) in
    let counted = rw c.in-Some.is at c.after_jump.ensures in
    subst (λ (xs : List Standing). GoesOn k code e clock xs s c.in-Some.after c.from.result.now t) (sym c.first_of-here.ensures)
    (jumps_further k code e clock here others s t under q c.from.result.now c.in-Some.after (jumps_to under.safe under.stands k under.none follows target) c.from.ensures counted.0 counted.1)

-- The end fits, and is that of the run.
use Rattle.std.proofs.Common.{◌≡◌}
use Rattle.std.proofs.lemmas.Option.{slice_get_within}
use Rattle.std.proofs.lemmas.Result.{IfOk-weaker}
use Rattle.sl_code_semantics.specs.Effects.{Ends, effect}
use Rattle.sl_machine.specs.inner.Leading.{EndsWith}
use Rattle.sl_code_steps.specs.inner.Stores.{state_of, end_with}
use Rattle.sl_machine.proofs.runs.Leading.{may_here, columns_here, ends_with}
use Rattle.sl_machine.proofs.machine.end_at.Goals as goal

pub instr_at-requires : goal.instr_at-requires
instr_at-requires g c = slice_get_within c.args.code.now.instrs c.args.place c.requires.safe.instr c.requires.safe.stands

pub end-requires-clause-step : goal.end-requires-clause-step
end-requires-clause-step g c = may_here c.requires.safe c.instr_at.ensures

pub end-requires-clause-columns : goal.end-requires-clause-columns
end-requires-clause-columns g c = columns_here c.requires.safe c.instr_at.ensures

pub end-requires-clause-ends : goal.end-requires-clause-ends
end-requires-clause-ends g c = c.requires.ends c.instr_at.result.now c.instr_at.ensures

pub returns-clause-ends : goal.returns-clause-ends
returns-clause-ends g c =
    let code = c.args.code.now in
    let e = c.args.returns.now in
    let s = state_of c.args.store.now in
    let i = c.instr_at.result.now in
    let at = c.instr_at.ensures in
    let k = g.R.Recording.records in
    let t = state_of c.end.new.self in
    IfOk-weaker c.end.result (λ end. Ends (end_with end t) ≡ effect code e i s) (λ end. EndsWith k code e c.args.place s end t)
    (λ end same. ends_with c.requires.safe at k c.requires.records end t (c.requires.ends i at) same) c.end.ensures.follows

use Rattle.std.proofs.Common.{◌≡◌, ◌≤◌, length, sym, arith, add-one}
use Rattle.std.proofs.lemmas.List.{length-take-le, take_all, drop_all, append-nil}
use Rattle.sl_compile.proofs.Walks.{few_stages, stage_fits, stage_number, stage_room, laid_next}
use Rattle.sl_compile.proofs.stages.lay_stages.Goals as goal

pub lay_stage-requires-clause-fits : goal.lay_stage-requires-clause-fits
lay_stage-requires-clause-fits c =
    stage_fits c.args.stages.now c.loop-i.types c.loop-i.i c.index-stages-i.result c.args.code.now.items c.loop-i.code.items
    c.loop-i.invariant c.loop-i-test.true c.index-stages-i.is

pub lay_stage-requires-clause-number : goal.lay_stage-requires-clause-number
lay_stage-requires-clause-number c =
    stage_number c.args.stages.now c.loop-i.types c.loop-i.i c.loop-i-test.true (omega (arith, few_stages c.args.stages.now c.requires.limits))

pub lay_stage-requires-clause-room : goal.lay_stage-requires-clause-room
lay_stage-requires-clause-room c =
    stage_room c.args.stages.now c.loop-i.types c.loop-i.i c.index-stages-i.result c.args.code.now.items c.loop-i.code.items
    c.loop-i.invariant c.loop-i-test.true c.index-stages-i.is c.requires.room

pub loop-i-preserved : goal.loop-i-preserved
loop-i-preserved c =
    let few : length c.args.stages.now ≤ length c.loop-i.types = omega (arith, few_stages c.args.stages.now c.requires.limits) in
    rw add-one (laid_next c.args.stages.now c.loop-i.types c.loop-i.i c.index-stages-i.result c.args.code.now.items c.loop-i.code.items
    c.loop-i.invariant c.loop-i-test.true c.index-stages-i.is c.in_ok-types.field-0 c.lay_stage.new.code.items few c.in_ok-types.ensures.has c.in_ok-types.ensures.blocks)

pub invariant_of-earlier : goal.invariant_of-earlier
invariant_of-earlier c =
    let few = few_stages c.args.stages.now c.requires.limits in
    let long = length-take-le c.loop-i.i c.args.stages.now (omega (arith, c.loop-i-test.true)) in
    record { paired = omega (arith, long, few); few = omega (arith, long, few) }

pub overflow_cast-site : goal.overflow_cast-site
overflow_cast-site c = omega (arith, few_stages c.args.stages.now c.requires.limits)

pub invariant_of-site : goal.invariant_of-site
invariant_of-site c = record { low = c.requires.slots; few = omega (arith, few_stages c.args.stages.now c.requires.limits) }

pub returns-clause-have : goal.returns-clause-have
returns-clause-have c =
    let past = c.loop-i-test.false in
    sym (rw (drop_all c.loop-i.i c.args.stages.now past, take_all c.loop-i.i c.args.stages.now past) at c.loop-i.invariant.have)

pub returns-clause-blocks : goal.returns-clause-blocks
returns-clause-blocks c =
    let ss = c.args.stages.now in
    let past = c.loop-i-test.false in
    let all = rw (drop_all c.loop-i.i ss past, append-nil) at c.loop-i.invariant.rest in
    let have = rw (drop_all c.loop-i.i ss past) at c.loop-i.invariant.have in
    let end : c.loop-i.i ≡ length ss = omega arith in
    rw (← all, have, ← end) c.loop-i.invariant.blocks

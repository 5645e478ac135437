use Rattle.std.proofs.Common.{arith}
use Rattle.std.proofs.lemmas.List.{take_all}
use Rattle.sl_compile_layout.specs.inner.Layout.{filled}
use Rattle.sl_compile_layout.proofs.Laying.{known_step, line_more}
use Rattle.sl_compile_layout.proofs.emitter.put_line.Goals as goal

pub loop-part-preserved : goal.loop-part-preserved
loop-part-preserved c =
    let before = c.loop-part.invariant in
    let each = filled c.args.given.now in
    let parts = c.args.parts.now in
    let n = c.loop-part.part-index in
    record {
      known = known_step each c.args.known c.loop-part.known c.known_after-known.result c.fill-instr.result parts n _ c.loop-part-test.true before.known c.fill-instr.ensures c.known_after-known.ensures;
      items = line_more each c.args.code.now.items c.loop-part.code.items c.push.new.code.items c.fill-instr.result parts n _ c.loop-part-test.true before.items c.fill-instr.ensures c.push.ensures.items;
      len = omega (arith, before.len, c.push.ensures.len);
      capacity = omega (arith, before.capacity, c.push.ensures.capacity);
    }

pub returns-clause-after : goal.returns-clause-after
returns-clause-after c = rw (← take_all c.loop-part.part-index c.args.parts.now c.loop-part-test.false) c.loop-part.invariant.known

pub returns-clause-items : goal.returns-clause-items
returns-clause-items c = rw (← take_all c.loop-part.part-index c.args.parts.now c.loop-part-test.false) c.loop-part.invariant.items

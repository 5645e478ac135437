use Rattle.std.proofs.Common.{arith}
use Rattle.sl_prio.proofs.Gaps.{last_rises, others_left, rest_heap, rest_left}
use Rattle.sl_prio.proofs.Heaps.{given_back, without_one}
use Rattle.sl_prio.proofs.heap.take_out.Goals as goal

pub sink-hole-requires-clause-others : goal.sink-hole-requires-clause-others
sink-hole-requires-clause-others c = rw c.deref_mut.ensures.value (without_one c.args.entries.now.items c.args.place c.requires.heap)

pub raise-requires : goal.raise-requires
raise-requires c =
    last_rises c.args.entries.now.len c.args.entries.now.items c.deref_mut.result.now c.sink-hole.new.entries c.pop.new.self.items c.args.place c.sink-hole.result c.in-Some.last (omega arith) c.deref_mut.ensures.value (omega arith)
    c.in-Some.ensures.rest (c.in-Some.ensures.value c.in-Some.last (omega arith)) c.sink-hole.ensures.moved c.sink-hole.ensures.settled (omega arith) c.deref_mut-then-hole-len.result.now c.deref_mut-then-hole-len.ensures.value

pub returns-then-hole-len-clause-rest : goal.returns-then-hole-len-clause-rest
returns-then-hole-len-clause-rest c =
    rw (given_back c.pop.new.self.len c.pop.new.self.items c.raise.new.entries (omega arith) (omega arith))
    (others_left c.args.entries.now.len c.args.entries.now.items c.deref_mut.result.now c.sink-hole.new.entries c.pop.new.self.items c.args.place c.sink-hole.result c.in-Some.last (omega arith) c.deref_mut.ensures.value (omega arith)
    c.in-Some.ensures.rest (c.in-Some.ensures.value c.in-Some.last (omega arith)) c.sink-hole.ensures.moved c.sink-hole.ensures.settled (omega arith) c.deref_mut-then-hole-len.result.now c.raise.new.entries c.deref_mut-then-hole-len.ensures.value c.raise.ensures.moved)

pub returns-then-hole-len-clause-heap : goal.returns-then-hole-len-clause-heap
returns-then-hole-len-clause-heap c = rw (given_back c.pop.new.self.len c.pop.new.self.items c.raise.new.entries (omega arith) (omega arith)) c.raise.ensures.heap

pub returns-else-hole-len-clause-rest : goal.returns-else-hole-len-clause-rest
returns-else-hole-len-clause-rest c =
    rest_left c.args.entries.now.len c.args.entries.now.items c.deref_mut.result.now c.sink-hole.new.entries c.pop.new.self.items c.args.place c.sink-hole.result c.in-Some.last (omega arith) c.deref_mut.ensures.value (omega arith)
    c.in-Some.ensures.rest (c.in-Some.ensures.value c.in-Some.last (omega arith)) c.sink-hole.ensures.moved c.sink-hole.ensures.settled (omega arith)

pub returns-else-hole-len-clause-heap : goal.returns-else-hole-len-clause-heap
returns-else-hole-len-clause-heap c =
    rest_heap c.args.entries.now.len c.args.entries.now.items c.deref_mut.result.now c.sink-hole.new.entries c.pop.new.self.items c.args.place c.sink-hole.result c.in-Some.last (omega arith) c.deref_mut.ensures.value (omega arith)
    c.in-Some.ensures.rest (c.in-Some.ensures.value c.in-Some.last (omega arith)) c.sink-hole.ensures.moved c.sink-hole.ensures.settled (omega arith)

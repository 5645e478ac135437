use Rattle.std.proofs.Common.{◌<◌, List, get_or, length, sym, ap, subst, arith}
use Rattle.std.proofs.lemmas.List.{get_or_default}
use borrow.Author.Tests.{tests}
use Rattle.sl_base_quotients.specs.declared.entry.Entry.{Entry}
use Rattle.sl_prio.specs.inner.Heap.{IsHeap}
use Rattle.sl_prio.proofs.Heaps.{top_first}
use Rattle.sl_prio.proofs.PeerCounts.{first_is_peer}
use Rattle.sl_prio.proofs.prio.Prio.take.Goals as goal

pub returns-clause-top : goal.returns-clause-top
returns-clause-top c =
    let held = c.args.self.now in
    let heap : IsHeap held = subst (λ (xs : List Entry). IsHeap xs) c.self.view_is c.self.invariant.kept.heap in
    let same = ap length c.self.view_is in
    let some : 0 < length held = grind (arith, tests) in
    sym (top_first held heap c.remove.result some c.remove.ensures.value)

pub remove-requires-clause-peer : goal.remove-requires-clause-peer
remove-requires-clause-peer c = λ d.
    let held = c.args.self.now in
    let heap : IsHeap held = subst (λ (xs : List Entry). IsHeap xs) c.self.view_is c.self.invariant.kept.heap in
    let same = ap length c.self.view_is in
    let some : 0 < length held = grind (arith, tests) in
    first_is_peer held heap (get_or held 0 d) some (get_or_default held 0 d (get_or held 0 d) some)

-- The peers below a place are those of its children.
use Rattle.std.proofs.Common.{◌+◌, ◌*◌, length, length-append, ap, arith}
use Rattle.sl_prio.specs.inner.Heap.{peers_under}
use Rattle.sl_prio.proofs.Subtrees.{peers_bounded}
use Rattle.sl_prio.proofs.peers.+count_under.Goals as goal

pub overflow_add-result : goal.overflow_add-result
overflow_add-result t c =
    let first = c.args.top.now in
    let xs = c.args.entries.now in
    let p = c.args.place in
    let sum = ap length c.in-Some.ensures.peers in
    let parts = length-append (peers_under first xs (2 * p + 1)) (peers_under first xs (2 * p + 2)) in
    let most = peers_bounded first xs p in
    let left = c.count_under-left.ensures in
    let right = c.count_under-right.ensures in
    omega (arith, sum, parts, most, left, right)

pub overflow_add-result-in-Some : goal.overflow_add-result-in-Some
overflow_add-result-in-Some t c =
    let first = c.args.top.now in
    let xs = c.args.entries.now in
    let p = c.args.place in
    let sum = ap length c.in-Some.ensures.peers in
    let parts = length-append (peers_under first xs (2 * p + 1)) (peers_under first xs (2 * p + 2)) in
    let most = peers_bounded first xs p in
    let left = c.count_under-left.ensures in
    let right = c.count_under-right.ensures in
    omega (arith, sum, parts, most, left, right)

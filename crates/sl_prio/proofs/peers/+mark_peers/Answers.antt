-- The peers below a place are those of its children.
use Rattle.std.proofs.Common.{◌+◌, ◌*◌, ◌||◌, ◌&&◌, nat_eq, sym, subst}
use Rattle.std.proofs.lemmas.Bool.{and_parts}
use Rattle.sl_prio.specs.inner.Heap.{peers_under}
use Rattle.sl_prio.specs.inner.Marks.{AreApartFrom, AreMarks, have_index}
use Rattle.sl_prio.proofs.Marks.{all_apart, all_marked, fresh_before}
use Rattle.sl_prio.proofs.peers.+mark_peers.Goals as goal

pub returns-clause-marks : goal.returns-clause-marks
returns-clause-marks t c = λ before held.
    let first = c.args.top.now in
    let xs = c.args.entries.now in
    let p = c.args.place in
    let peer = c.in-Some.peer in
    let left = peers_under first xs (2 * p + 1) in
    let right = peers_under first xs (2 * p + 2) in
    let after = c.mark_peers-right.new.marks in
    let one = c.mark-fresh.ensures.marked before held in
    let two = c.mark_peers-left.ensures.marks (λ index. before index || nat_eq peer.index index) one in
    let three = c.mark_peers-right.ensures.marks (λ index. (before index || nat_eq peer.index index) || have_index left index) two in
    subst (λ ys. AreMarks (λ index. before index || have_index ys index) after) (sym c.in-Some.ensures.peers) (all_marked before peer left right after three)

pub returns-clause-apart : goal.returns-clause-apart
returns-clause-apart t c = λ distinct before held.
    let first = c.args.top.now in
    let xs = c.args.entries.now in
    let p = c.args.place in
    let peer = c.in-Some.peer in
    let left = peers_under first xs (2 * p + 1) in
    let right = peers_under first xs (2 * p + 2) in
    let fresh = c.mark-fresh.result in
    let all = and_parts (fresh && c.mark_peers-left.result) c.mark_peers-right.result distinct in
    let two = and_parts fresh c.mark_peers-left.result all.0 in
    let was = c.mark-fresh.ensures.marked before held in
    let then = c.mark_peers-left.ensures.marks (λ index. before index || nat_eq peer.index index) was in
    let unmarked = fresh_before before c.args.marks.now peer.index held (c.mark-fresh.ensures.fresh two.0) in
    let apart_left = c.mark_peers-left.ensures.apart two.1 (λ index. before index || nat_eq peer.index index) was in
    let apart_right = c.mark_peers-right.ensures.apart all.1 (λ index. (before index || nat_eq peer.index index) || have_index left index) then in
    subst (λ ys. AreApartFrom before ys) (sym c.in-Some.ensures.peers) (all_apart before peer left right unmarked apart_left apart_right)

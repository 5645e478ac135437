use Rattle.std.proofs.Common.{◌∷◌, [], get_or, option_to_list, sym, ap}
use Rattle.sl_prio.specs.inner.Heap.{peers_under}
use Rattle.sl_prio.proofs.DrawnPeers.{drawn_only, drawn_top, drawn_whole}
use Rattle.sl_prio.proofs.PassedNames.{none_named}
use Rattle.sl_prio.proofs.peers.drawn_at.Goals as goal

pub returns-in_default-clause-drawn : goal.returns-in_default-clause-drawn
returns-in_default-clause-drawn c =
    drawn_top c.args.lot.now c.args.entries.now c.requires.kept.heap c.args.top.now c.requires.first c.requires.kept.ratios c.in_default.ensures.peer

pub returns-in_default-clause-passed : goal.returns-in_default-clause-passed
returns-in_default-clause-passed c = none_named c.args.lot.now (peers_under c.args.top.now c.args.entries.now 0) c.in_default.ensures.peer

pub returns-then-distinct-clause-drawn : goal.returns-then-distinct-clause-drawn
returns-then-distinct-clause-drawn c =
    drawn_only c.args.lot.now c.args.entries.now c.requires.kept.heap c.args.top.now c.requires.first c.in-Some.named.peer c.in-Some.ensures.peer (c.requires.apart c.if-distinct.true)

pub bounds-entries-named : goal.bounds-entries-named
bounds-entries-named c = c.in-Some.ensures.peer.within

pub returns-clause-drawn : goal.returns-clause-drawn
returns-clause-drawn c =
    let read = c.index-entries-named.result in
    let found = c.in-Some.ensures.peer in
    drawn_whole c.args.lot.now c.args.entries.now c.requires.kept.heap c.args.top.now c.requires.first ((get_or c.args.entries.now c.in-Some.named.peer read).index ∷ []) c.draw.result
    (sym (ap option_to_list (found.named read))) c.draw.ensures

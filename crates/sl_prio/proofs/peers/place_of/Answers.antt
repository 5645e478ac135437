use Rattle.std.proofs.Common.{rules, false, ◌∙◌, arith}
use Rattle.std.proofs.lemmas.Iterator.{YieldsList-from_slice}
use Rattle.std.proofs.lemmas.Iterator.Adapters.{position_from-zero}
use Rattle.std.proofs.lemmas.Iterator.Search.{position_from_yields_List}
use borrow.Author.Tests.{tests}
use Rattle.sl_prio.specs.inner.Heap.{is_peer_with, peers_under}
use Rattle.sl_prio.proofs.PeerMarks.{found_with, unmarked}
use Rattle.sl_prio.proofs.peers.place_of.Goals as goal

pub returns-then-not-marks-mark : goal.returns-then-not-marks-mark
returns-then-not-marks-mark c =
    unmarked (peers_under c.args.top.now c.args.entries.now 0) c.args.marks.now c.args.index false c.requires.marks (omega arith) (search (rules, tests))

pub returns : goal.returns
returns c =
    let p = is_peer_with c.args.top.now c.args.index in
    found_with c.args.entries.now c.args.top.now c.args.index c.position.result
    (position_from_yields_List p _ _ c.position.result c.position.ensures.ran (YieldsList-from_slice c.args.entries.now (cc)) (λ x b q k. search (rules, tests)) ∙ position_from-zero p c.args.entries.now)

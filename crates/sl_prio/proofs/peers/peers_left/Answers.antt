use Rattle.std.proofs.Common.{◌≡◌, ◌<◌, ◌-◌, ℕ, IsTrue, List, false, sym, subst, arith}
use Rattle.sl_base_quotients.specs.declared.entry.Entry.{Entry}
use Rattle.sl_base_rankings.specs.Peers.{peers}
use Rattle.sl_prio.specs.inner.Marks.{HaveMarks, have_index}
use Rattle.sl_prio.proofs.PeerMarks.{others_counted}
use Rattle.sl_prio.proofs.peers.peers_left.Goals as goal

pub returns-then-before-gt1 : goal.returns-then-before-gt1
returns-then-before-gt1 c =
    let before = c.args.before in
    let several : 1 < before.count = omega arith in
    let was = c.requires.before several in
    let old = c.args.marks.now in
    let new = c.unmark_gone.new.marks in
    let kept = subst (λ (index : ℕ). IsTrue before.marked → (xs : List Entry) → have_index xs index ≡ false → HaveMarks xs old → HaveMarks xs new) (sym was.1) c.unmark_gone.ensures in
    others_counted was.0 (peers c.args.entries.now) before.count before.marked old was.2 (before.count - 1) new (omega arith) kept

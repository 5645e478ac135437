-- No child is a peer.
use Rattle.std.proofs.Common.{not, ap, ◌∙◌}
use Rattle.sl_prio.proofs.Seen.{seen_alone}
use Rattle.sl_prio.proofs.peers.is_alone.Goals as goal

pub returns-then-is_none : goal.returns-then-is_none
returns-then-is_none c = λ both.
    seen_alone c.args.entries.now c.requires.kept.heap c.args.top.now c.requires.first c.requires.kept c.peer_at.result c.peer_at-then-is_none.result c.peer_at.ensures
    c.peer_at-then-is_none.ensures (c.is_none.ensures ∙ ap not c.if-is_none.true) (c.is_none-then-is_none.ensures ∙ ap not both)

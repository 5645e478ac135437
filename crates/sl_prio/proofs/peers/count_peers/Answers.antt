use Rattle.std.proofs.Common.{sym, ◌∙◌}
use Rattle.sl_prio.proofs.Seen.{seen_length}
use Rattle.sl_prio.proofs.peers.count_peers.Goals as goal

pub returns-in-Some-2 : goal.returns-in-Some-2
returns-in-Some-2 c = c.count_under.ensures ∙ seen_length c.args.entries.now c.requires.kept.heap c.in-Some.top.now (sym c.in-Some.ensures.value)

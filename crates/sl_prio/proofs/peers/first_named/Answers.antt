use Rattle.std.proofs.Common.{Some, get_or, sym, ap, ◌∙◌, subst}
use Rattle.sl_base_quotients.specs.declared.entry.Entry.{Entry}
use Rattle.sl_prio.specs.inner.Heap.{IsAt, is_peer_with, peers_under}
use Rattle.sl_prio.proofs.PassedNames.{first_at, none_left, passed_on}
use Rattle.sl_prio.proofs.PeerMarks.{has_it, its_index}
use Rattle.sl_prio.proofs.peers.first_named.Goals as goal

pub returns-in-Some-clause-peer : goal.returns-in-Some-clause-peer
returns-in-Some-clause-peer c =
    let xs = c.args.entries.now in
    let first = c.args.top.now in
    let lot = c.args.lot.now in
    let name = c.loop-name.name in
    let peer = c.in-Some.peer in
    let found = c.in-Some.ensures in
    let at = λ (d : Entry). its_index xs first (get_or lot name 0) peer found d in record {
      within = found.within;
      named = λ d. first_at lot (peers_under first xs 0) name c.loop-name.invariant c.loop-name-test.true (has_it xs first (get_or lot name 0) peer found d) ∙ ap Some (sym (at d));
      here = λ d. subst (λ n. IsAt (is_peer_with first n) xs peer) (sym (at d)) found;
    }

pub loop-name-preserved : goal.loop-name-preserved
loop-name-preserved c =
    passed_on c.args.lot.now (peers_under c.args.top.now c.args.entries.now 0) c.loop-name.name c.loop-name.invariant c.loop-name-test.true c.in_default.ensures

pub returns-clause-peer : goal.returns-clause-peer
returns-clause-peer c =
    none_left c.args.lot.now (peers_under c.args.top.now c.args.entries.now 0) c.loop-name.name c.loop-name.invariant c.loop-name-test.false

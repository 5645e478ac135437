use Rattle.std.proofs.Common.{◌≡◌, ◌≤◌, [], length, MatchOption, Some, slice_get, sym, ap, subst, ◌∙◌}
use Rattle.std.specs.Option.{is_some}
use Rattle.std.proofs.lemmas.Bool.{ltb-true, ltb-false}
use Rattle.std.proofs.lemmas.Option.{slice_get-get_or}
use Rattle.sl_prio.specs.inner.Heap.{IsPeerAt, peers_under}
use Rattle.sl_prio.proofs.Subtrees.{no_peers_past, no_peers_at, peers_at}
use Rattle.sl_prio.proofs.peers.peer_at.Goals as goal

pub returns-in_err-entry : goal.returns-in_err-entry
returns-in_err-entry c =
    let first = c.args.top.now in
    let xs = c.args.entries.now in
    let p = c.args.place in
    let past : length xs ≤ p = ltb-false p (length xs) (sym c.get.ensures.lookup.0 ∙ ap is_some c.in_err-entry.was) in
    subst (λ o. MatchOption o (peers_under first xs p ≡ []) (IsPeerAt first xs p)) (sym c.from_residual.ensures) (no_peers_past first xs c.requires.kept c.requires.first p past)

pub returns-then-is_peer : goal.returns-then-is_peer
returns-then-is_peer c =
    let xs = c.args.entries.now in
    let p = c.args.place in
    let x = c.in_ok-entry.field-0.now in
    let read = c.in_ok-entry.ensures.lookup in
    let at : slice_get xs p ≡ Some x = slice_get-get_or xs p x (ltb-true p (length xs) (sym read.0)) ∙ ap Some (sym read.1) in
    peers_at c.args.top.now xs c.requires.kept c.requires.first p x at (sym c.is_peer.ensures ∙ c.if-is_peer.true)

pub returns-else-is_peer : goal.returns-else-is_peer
returns-else-is_peer c =
    let xs = c.args.entries.now in
    let p = c.args.place in
    let x = c.in_ok-entry.field-0.now in
    let read = c.in_ok-entry.ensures.lookup in
    let at : slice_get xs p ≡ Some x = slice_get-get_or xs p x (ltb-true p (length xs) (sym read.0)) ∙ ap Some (sym read.1) in
    no_peers_at c.args.top.now xs c.requires.kept c.requires.first p x at (sym c.is_peer.ensures ∙ c.if-is_peer.false)

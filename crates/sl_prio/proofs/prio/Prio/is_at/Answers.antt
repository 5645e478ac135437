use Rattle.std.proofs.Common.{◌≤◌, sym, ◌∙◌, arith}
use Rattle.std.proofs.lemmas.Bool.{leb-true, ltb-true, le-leb, lt-ltb, true≢false}
use Rattle.sl_base_rankings.proofs.Tables.{peers_greater, stands, place_of, place-peer}
use Rattle.sl_prio.proofs.prio.Prio.is_at.Goals as goal
use Rattle.sl_prio.proofs.prio.Prio.is_at.Goals.{then-is_peer, else-is_peer}

pub returns-then-peers_above-i : goal.returns-then-peers_above-i
returns-then-peers_above-i c =
    let entries = c.args.self.now in
    let first = c.args.top.now in
    let low : peers_greater entries first c.args.i c.args.entry.now ≤ c.args.i =
    elim c.if-is_peer.branch [
      | then-is_peer w ↦
          let upto = leb-true w.peers_above.result c.args.i (sym w.value-is ∙ c.if-peers_above-i.true) in
          omega (arith, upto, w.peers_above.ensures)
      | else-is_peer w ↦ absurd (true≢false (sym c.if-peers_above-i.true ∙ w.value-is ∙ w.if-is_peer.false))
    ] in (
      (λ t.
          let high = ltb-true c.args.i c.peers_from.result t in
          stands entries first c.args.i c.args.entry.now low (omega (arith, high, c.peers_from.ensures))),
      (λ h.
          let high = (place_of entries first c.args.i c.args.entry.now h).1 in
          lt-ltb c.args.i c.peers_from.result (omega (arith, high, c.peers_from.ensures))),
    )

pub returns-else-peers_above-i : goal.returns-else-peers_above-i
returns-else-peers_above-i c =
    let entries = c.args.self.now in
    let first = c.args.top.now in (
      (λ t. absurd (true≢false (sym t ∙ c.if-peers_above-i.false))),
      (λ h. elim c.if-is_peer.branch [
        | then-is_peer w ↦
            let low = (place_of entries first c.args.i c.args.entry.now h).0 in
            w.value-is ∙ le-leb w.peers_above.result c.args.i (omega (arith, low, w.peers_above.ensures))
        | else-is_peer w ↦
            let peer = place-peer entries first c.args.i c.args.entry.now h in
            absurd (true≢false (sym peer ∙ sym c.is_peer.ensures ∙ w.if-is_peer.false))
      ]),
    )

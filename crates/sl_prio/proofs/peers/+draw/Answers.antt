use Rattle.std.proofs.Common.{◌≡◌, ◌+◌, ◌*◌, [], ◌∷◌, true, false, sym, ap, subst, ◌∙◌}
use Rattle.std.specs.Ordering.{is_gt}
use Rattle.sl_base_rankings.specs.Lot.{lot_cmp}
use Rattle.sl_prio.specs.inner.Heap.{IsDrawnFrom, peers_under}
use Rattle.sl_prio.proofs.Draws.{drawn_from_none, drawn_from_on, drawn_here, drawn_before}
use Rattle.sl_prio.proofs.peers.+draw.Goals as goal
use Rattle.sl_prio.proofs.peers.+draw.Goals.{then-earlier, else-earlier}

pub returns-in_default : goal.returns-in_default
returns-in_default t c =
    drawn_from_none c.args.lot.now c.args.entries.now (peers_under c.args.top.now c.args.entries.now c.args.place) c.args.best c.requires.within c.in_default.ensures

pub returns : goal.returns
returns t c =
    let lot = c.args.lot.now in
    let first = c.args.top.now in
    let xs = c.args.entries.now in
    let p = c.args.place in
    let best = c.args.best in
    let found = c.in-Some.ensures in
    let peer = c.in-Some.peer in
    let y = c.index-entries-best.result in
    let here = c.if-earlier.here in
    let left = peers_under first xs (2 * p + 1) in
    let right = peers_under first xs (2 * p + 2) in
    let one : IsDrawnFrom lot xs (peer ∷ []) best here = elim c.if-earlier.branch [
      | then-earlier w ↦
          let earlier : is_gt (lot_cmp lot peer y) ≡ true = ap is_gt (sym c.lot_cmp.ensures) ∙ sym c.is_gt-earlier.ensures ∙ w.if-earlier.true in
          subst (λ r. IsDrawnFrom lot xs (peer ∷ []) best r) (sym w.here-is) (drawn_here lot xs p best peer y found.here c.requires.within c.index-entries-best.is earlier)
      | else-earlier w ↦
          let later : is_gt (lot_cmp lot peer y) ≡ false = ap is_gt (sym c.lot_cmp.ensures) ∙ sym c.is_gt-earlier.ensures ∙ w.if-earlier.false in
          subst (λ r. IsDrawnFrom lot xs (peer ∷ []) best r) (sym w.here-is) (drawn_before lot xs p best peer y found.here c.requires.within c.index-entries-best.is later)
    ] in
    let two = drawn_from_on lot xs (peer ∷ []) left best here c.draw-left.result one c.draw-left.ensures in
    let all = drawn_from_on lot xs (peer ∷ left) right best c.draw-left.result c.draw.result two c.draw.ensures in
    subst (λ ys. IsDrawnFrom lot xs ys best c.draw.result) (sym found.peers) all

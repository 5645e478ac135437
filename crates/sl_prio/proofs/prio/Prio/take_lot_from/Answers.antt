use Rattle.std.proofs.Common.{◌≡◌, ◌<◌, ◌≤◌, Bool, List, Some, get_or, length, nat_eq, slice_get, Contains, sym, ap, subst, ◌∙◌, arith}
use Rattle.std.proofs.lemmas.List.Elements.{Contains-get_or}
use Rattle.std.proofs.lemmas.Option.{get_or_from_slice_get}
use Rattle.sl_base_quotients.specs.declared.entry.Entry.{Entry}
use Rattle.sl_base_rankings.specs.Lot.{drawn, place_in_lot}
use Rattle.sl_base_rankings.specs.Peers.{peers}
use Rattle.sl_prio.specs.inner.Heap.{IsDrawnOf, IsDrawnFrom, peers_under}
use Rattle.sl_prio.specs.inner.Marks.{AreApart, HaveMarks, IsPassed}
use Rattle.sl_base_rankings.proofs.Finding.{All-at}
use Rattle.sl_prio.proofs.Heaps.{given_back}
use Rattle.sl_prio.proofs.PeerCounts.{left_peers}
use Rattle.sl_prio.proofs.Seen.{seen_among, seen_counts, seen_drawn, seen_peer, seen_under}
use Rattle.sl_prio.proofs.prio.Prio.take_lot_from.Goals as goal
use Rattle.sl_prio.proofs.prio.Prio.take_lot_from.Goals.{then-self-gt1, else-self-gt1}

pub drawn_at-named-requires-clause-marks : goal.drawn_at-named-requires-clause-marks
drawn_at-named-requires-clause-marks c =
    let held = c.self.inside.entries.items in
    let first = c.in_ok-top.field-0.now in
    let marks = c.marked_again-self-inside.new.marks in
    let before = c.self.inside.marks in
    let here = c.deref-4.ensures.value ∙ given_back before.len before.items marks (omega arith) (omega arith) in
    let at : slice_get held 0 ≡ Some first = sym (ap (λ (xs : List Entry). slice_get xs 0) c.deref.ensures.value) ∙ sym c.in_ok-top.ensures.value in
    let marked = subst (λ (xs : List Entry). HaveMarks (peers xs) marks) c.deref-2.ensures.value c.marked_again-self-inside.ensures.marks in
    subst (λ (ms : List Bool). HaveMarks (peers_under first c.deref-3.result.now 0) ms) (sym here)
    (subst (λ (xs : List Entry). HaveMarks (peers_under first xs 0) marks) (sym c.deref-3.ensures.value) (λ x k. marked x (seen_peer held c.self.invariant.kept.heap first at x k)))

pub drawn_at-named-requires-clause-apart : goal.drawn_at-named-requires-clause-apart
drawn_at-named-requires-clause-apart c = λ distinct.
    let held = c.self.inside.entries.items in
    let first = c.in_ok-top.field-0.now in
    let at : slice_get held 0 ≡ Some first = sym (ap (λ (xs : List Entry). slice_get xs 0) c.deref.ensures.value) ∙ sym c.in_ok-top.ensures.value in
    let apart = subst (λ (xs : List Entry). AreApart (peers xs)) c.deref-2.ensures.value (c.marked_again-self-inside.ensures.counted.apart distinct) in
    subst (λ (xs : List Entry). AreApart (peers_under first xs 0)) (sym c.deref-3.ensures.value) (λ index.
    let most = apart index in
    let same = seen_counts held c.self.invariant.kept.heap first at (λ x. nat_eq x.index index) in
    omega (arith, most, same))

pub drawn_at-named-requires-clause-passed : goal.drawn_at-named-requires-clause-passed
drawn_at-named-requires-clause-passed c =
    let lot = c.args.lot.now in
    let passed = c.args.passed in
    let held = c.self.inside.entries.items in
    let first = c.in_ok-top.field-0.now in
    let at : slice_get held 0 ≡ Some first = sym (ap (λ (xs : List Entry). slice_get xs 0) c.deref.ensures.value) ∙ sym c.in_ok-top.ensures.value in
    let all = subst (λ (xs : List Entry). IsPassed lot passed (peers xs)) (sym c.self.view_is) c.requires in
    subst (λ (xs : List Entry). IsPassed lot passed (peers_under first xs 0)) (sym c.deref-3.ensures.value) (λ k d l.
    let x = get_or (peers_under first held 0) k d in
    All-at (λ (y : Entry). passed ≤ place_in_lot lot y.index) (peers held) x all (seen_peer held c.self.invariant.kept.heap first at x (Contains-get_or (peers_under first held 0) k d l)))

pub remove-entry-requires-clause-peer : goal.remove-entry-requires-clause-peer
remove-entry-requires-clause-peer c = λ d.
    let lot = c.args.lot.now in
    let held = c.self.inside.entries.items in
    let first = c.in_ok-top.field-0.now in
    let place = c.drawn_at-named.result.peer in
    let at : slice_get held 0 ≡ Some first = sym (ap (λ (xs : List Entry). slice_get xs 0) c.deref.ensures.value) ∙ sym c.in_ok-top.ensures.value in
    let from : IsDrawnFrom lot held (peers_under first held 0) 0 place =
    subst (λ (xs : List Entry). IsDrawnFrom lot xs (peers_under first xs 0) 0 place) c.deref-3.ensures.value c.drawn_at-named.ensures.drawn in
    seen_among held c.self.invariant.kept.heap first at lot (get_or held place d)
    (subst (λ (x : Entry). IsDrawnOf lot (peers_under first held 0) x (get_or held place d)) (get_or_from_slice_get held 0 first d at) (from.drawn d))

pub returns-clause-drawn : goal.returns-clause-drawn
returns-clause-drawn c =
    let lot = c.args.lot.now in
    let held = c.self.inside.entries.items in
    let first = c.in_ok-top.field-0.now in
    let taken = c.remove-entry.result in
    let place = c.drawn_at-named.result.peer in
    let at : slice_get held 0 ≡ Some first = sym (ap (λ (xs : List Entry). slice_get xs 0) c.deref.ensures.value) ∙ sym c.in_ok-top.ensures.value in
    let others = peers_under first held 0 in
    let from : IsDrawnFrom lot held others 0 place =
    subst (λ (xs : List Entry). IsDrawnFrom lot xs (peers_under first xs 0) 0 place) c.deref-3.ensures.value c.drawn_at-named.ensures.drawn in
    let of_first = subst (λ (x : Entry). IsDrawnOf lot others x (get_or held place taken)) (get_or_from_slice_get held 0 first taken at) (from.drawn taken) in
    let of_taken = subst (λ (x : Entry). IsDrawnOf lot others first x) (sym c.remove-entry.ensures.value) of_first in
    sym (seen_drawn held c.self.invariant.kept.heap first at lot taken of_taken) ∙ ap (drawn lot) c.self.view_is

-- the peers that are left were peers before, and where there was one alone, no name is passed
pub returns-clause-passed : goal.returns-clause-passed
returns-clause-passed c =
    let lot = c.args.lot.now in
    let held = c.self.inside.entries.items in
    let first = c.in_ok-top.field-0.now in
    let place = c.drawn_at-named.result.peer in
    let name = c.drawn_at-named.result.name in
    let taken = c.remove-entry.result in
    let after = c.remove-entry.new.self in
    let at : slice_get held 0 ≡ Some first = sym (ap (λ (xs : List Entry). slice_get xs 0) c.deref.ensures.value) ∙ sym c.in_ok-top.ensures.value in
    let others = peers_under first held 0 in
    let all : IsPassed lot name others = subst (λ (xs : List Entry). IsPassed lot name (peers_under first xs 0)) c.deref-3.ensures.value c.drawn_at-named.ensures.passed in
    let from : IsDrawnFrom lot held others 0 place =
    subst (λ (xs : List Entry). IsDrawnFrom lot xs (peers_under first xs 0) 0 place) c.deref-3.ensures.value c.drawn_at-named.ensures.drawn in
    let of_first = subst (λ (x : Entry). IsDrawnOf lot others x (get_or held place taken)) (get_or_from_slice_get held 0 first taken at) (from.drawn taken) in
    let of_taken = subst (λ (x : Entry). IsDrawnOf lot others first x) (sym c.remove-entry.ensures.value) of_first in
    let peer : Contains (peers held) taken = seen_among held c.self.invariant.kept.heap first at lot taken of_taken in
    let counted = subst (λ (xs : List Entry). c.marked_again-self-inside.result.count ≡ length (peers xs)) c.deref-2.ensures.value c.marked_again-self-inside.ensures.counted.counted in
    elim c.if-self-gt1.branch [
      | then-self-gt1 w ↦ λ k d l.
          let y = get_or (peers after) k d in
          let several : 1 < length (peers held) = omega (arith, counted, w) in
          let was = left_peers held after taken c.self.invariant.kept.ratios peer c.remove-entry.ensures.rest several y (Contains-get_or (peers after) k d l) in
          let up = All-at (λ (x : Entry). name ≤ place_in_lot lot x.index) others y all (seen_under held c.self.invariant.kept.heap first at y was) in
          omega (arith, up, w)
      | else-self-gt1 w ↦ λ k d l. omega (arith, w)
    ]

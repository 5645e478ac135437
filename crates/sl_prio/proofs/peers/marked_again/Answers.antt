-- At first no index has a mark.
use Rattle.std.proofs.Common.{◌≡◌, ℕ, Bool, false, List, length, nat_eq, replicate, sym, subst, arith}
use Rattle.std.proofs.lemmas.List.{get_or-replicate, length-replicate}
use Rattle.sl_prio.specs.inner.Marks.{AreMarks}
use Rattle.sl_prio.proofs.PeerMarks.{again_marked}
use Rattle.sl_prio.proofs.Seen.{seen_counts}
use Rattle.sl_prio.proofs.peers.marked_again.Goals as goal

none_marked : (old new : List Bool) → new ≡ replicate (length old) false → AreMarks (λ index. false) new
none_marked old new is =
    let long = length-replicate (length old) false in
    subst (λ (marks : List Bool). AreMarks (λ index. false) marks) (sym is) (λ index d l. get_or-replicate (length old) index false d (omega (arith, long, l)))

pub returns-clause-counted : goal.returns-clause-counted
returns-clause-counted c =
    let xs = c.args.entries.now in
    let heap = c.requires.kept.heap in
    let first = c.args.top.now in
    let none : ℕ → Bool = λ index. false in
    let clear = none_marked c.args.marks.now c.fill.new.self (c.fill.ensures.after (λ y e. e)) in
    let found = c.mark_peers.ensures in record {
      counted = c.requires.counted.counted;
      apart = λ t index.
          let most = found.apart t none clear index in
          let same = seen_counts xs heap first c.requires.first (λ x. nat_eq x.index index) in
          omega (arith, most, same);
      indexes = λ t. again_marked xs heap first c.requires.first none c.mark_peers.new.marks (found.marks none clear);
    }

pub returns-clause-marks : goal.returns-clause-marks
returns-clause-marks c =
    let none : ℕ → Bool = λ index. false in
    let clear = none_marked c.args.marks.now c.fill.new.self (c.fill.ensures.after (λ y e. e)) in
    again_marked c.args.entries.now c.requires.kept.heap c.args.top.now c.requires.first none c.mark_peers.new.marks (c.mark_peers.ensures.marks none clear)

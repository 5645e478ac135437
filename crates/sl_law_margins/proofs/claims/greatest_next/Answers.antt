use Rattle.std.proofs.Common.{◌≡◌, ◌+◌, length, get_or, refl, sym, subst, arith}
use Rattle.sl_ratio.proofs.Firsts.{Found}
use Rattle.sl_ratio.proofs.Searches.{next_search, next_more}
use Rattle.sl_law_margins.proofs.Claimants.{next_skipped, greatest_is}
use Rattle.sl_law_margins.proofs.claims.greatest_next.Goals as goal
use Rattle.sl_law_margins.proofs.claims.greatest_next.Goals.{then-weight-gt0, else-weight-gt0}

pub loop-entry-preserved : goal.loop-entry-preserved
loop-entry-preserved c =
    let m = c.args.method in
    let v = c.args.weights.now in
    let s = c.args.seats.now in
    let n = c.loop-entry.entry in
    elim c.if-weight-gt0.branch [
      | then-weight-gt0 w ↦
          subst (Found (next_search m v s) (n + 1)) (sym w.next-is)
          (next_more m v s n (n + 1) (get_or v n 0) (get_or s n 0) c.loop-entry.next w.ratio.result w.greater.result refl refl refl
          w.if-weight-gt0.true w.ratio.ensures w.greater.ensures c.loop-entry.invariant)
      | else-weight-gt0 w ↦
          subst (Found (next_search m v s) (n + 1)) (sym w.next-is)
          (next_skipped m v s n c.loop-entry.next (λ d. let none = w.if-weight-gt0.false in omega (arith, d, none)) c.loop-entry.invariant)
    ]

pub returns : goal.returns
returns c =
    let end : c.loop-entry.entry ≡ length c.args.weights.now = omega (arith, c.loop-entry-test.false, c.loop-entry.auto.entry-end) in
    greatest_is c.args.method c.args.weights.now c.args.seats.now c.loop-entry.next
    (subst (λ k. Found (next_search c.args.method c.args.weights.now c.args.seats.now) k c.loop-entry.next) end c.loop-entry.invariant)

use Rattle.std.proofs.Common.{◌≡◌, ◌+◌, ◌∙◌, Some, ap, length, get_or, refl, sym, subst, arith}
use Rattle.sl_ratio.proofs.Firsts.{Found}
use Rattle.sl_ratio.proofs.Searches.{last_search, last_next}
use Rattle.sl_ratio.specs.inner.Picks.{lesser}
use Rattle.sl_law_margins.proofs.Claimants.{last_skipped, least_is}
use Rattle.sl_law_margins.proofs.claims.least_last.Goals as goal
use Rattle.sl_law_margins.proofs.claims.least_last.Goals.{then-weight-gt0+then-held-gt0, else-weight-gt0, else-weight-gt0-via-then-weight-gt0+else-held-gt0, else-weight-gt0-via-else-weight-gt0}

pub loop-entry-preserved : goal.loop-entry-preserved
loop-entry-preserved c =
    let m = c.args.method in
    let v = c.args.weights.now in
    let s = c.args.seats.now in
    let n = c.loop-entry.entry in
    elim c.if-weight-gt0.branch [
      | then-weight-gt0+then-held-gt0 w ↦
          last_next m v s n (n + 1) (get_or v n 0) (get_or s n 0) c.loop-entry.last _ refl refl refl w.if-weight-gt0.true
          (λ some. w.last-is ∙ ap Some (w.lesser.ensures ∙ ap (lesser c.loop-entry.last) w.ratio.ensures))
          (λ none. let some = w.if-held-gt0.true in absurd (omega (arith, none, some))) c.loop-entry.invariant
      | else-weight-gt0 w ↦
          subst (Found (last_search m v s) (n + 1)) (sym w.last-is)
          (last_skipped m v s n c.loop-entry.last
          (elim w.else-weight-gt0.branch [
            | else-weight-gt0-via-then-weight-gt0+else-held-gt0 w' ↦ (λ d. let a = d.1 in let none = w'.if-held-gt0.false in omega (arith, a, none))
            | else-weight-gt0-via-else-weight-gt0 w' ↦ (λ d. let a = d.0 in let none = w'.if-weight-gt0.false in omega (arith, a, none))
          ]) c.loop-entry.invariant)
    ]

pub returns : goal.returns
returns c =
    let end : c.loop-entry.entry ≡ length c.args.weights.now = omega (arith, c.loop-entry-test.false, c.loop-entry.auto.entry-end) in
    least_is c.args.method c.args.weights.now c.args.seats.now c.loop-entry.last
    (subst (λ k. Found (last_search c.args.method c.args.weights.now c.args.seats.now) k c.loop-entry.last) end c.loop-entry.invariant)

use Rattle.std.proofs.Common.{◌+◌, arith, sym, subst, ◌∙◌}
use Rattle.sl_law_margins.specs.inner.Needed.{IsLeast}
use Rattle.sl_law_margins.specs.inner.Kept.{Holds}
use Rattle.sl_law_margins.proofs.Kept.{kept_none, kept_skipped, kept_more, ord_max_is}
use Rattle.sl_law_margins.proofs.spare.weight_kept.Goals as goal
use Rattle.sl_law_margins.proofs.spare.weight_kept.Goals.{then-rival-entry+then-weight-gt0+in_ok-above, else-rival-entry, else-rival-entry-via-then-rival-entry+else-weight-gt0, else-rival-entry-via-else-rival-entry}

pub loop-rival-init : goal.loop-rival-init
loop-rival-init c = kept_none c.args.method c.args.weights.now c.args.seats.now c.args.entry

pub loop-rival-preserved : goal.loop-rival-preserved
loop-rival-preserved c =
    let v = c.args.weights.now in
    let s = c.args.seats.now in
    let n = c.loop-rival.rival in
    elim c.if-rival-entry.branch [
      | then-rival-entry+then-weight-gt0+in_ok-above w ↦
          subst (IsLeast (Holds c.args.method v s c.args.entry (n + 1))) (sym (w.kept-is ∙ w.max-kept.ensures ∙ ord_max_is c.loop-rival.kept w.in_ok-above.above))
          (kept_more c.args.method v s c.args.entry n c.loop-rival.kept w.in_ok-above.above w.if-rival-entry.true w.if-weight-gt0.true w.in_ok-above.ensures c.loop-rival.invariant)
      | else-rival-entry w ↦
          subst (IsLeast (Holds c.args.method v s c.args.entry (n + 1))) (sym w.kept-is)
          (kept_skipped c.args.method v s c.args.entry n c.loop-rival.kept
          (elim w.else-rival-entry.branch [
            | else-rival-entry-via-then-rival-entry+else-weight-gt0 w' ↦ (λ ne f. let none = w'.if-weight-gt0.false in omega (arith, f, none))
            | else-rival-entry-via-else-rival-entry w' ↦ (λ ne f. ne w'.if-rival-entry.false)
          ]) c.loop-rival.invariant)
    ]

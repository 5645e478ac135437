use Rattle.std.proofs.Common.{◌+◌, arith, sym, subst, ◌∙◌}
use Rattle.sl_law_margins.specs.inner.Needed.{IsRival, IsNeeded}
use Rattle.sl_law_margins.proofs.Missing.{needed_skipped, needed_more}
use Rattle.sl_law_margins.proofs.votes.weight_needed.Goals as goal
use Rattle.sl_law_margins.proofs.votes.weight_needed.Goals.{then-rival-entry+then-held-minimum, else-rival-entry, else-rival-entry-via-then-rival-entry+else-held-minimum, else-rival-entry-via-else-rival-entry}

pub loop-rival-preserved : goal.loop-rival-preserved
loop-rival-preserved c =
    let v = c.args.weights.now in
    let m = c.args.minima.now in
    let s = c.args.seats.now in
    let n = c.loop-rival.rival in
    elim c.if-rival-entry.branch [
      | then-rival-entry+then-held-minimum w ↦
          (let rival : IsRival m s c.args.entry n = record { other = w.if-rival-entry.true; beyond = (let less = w.if-held-minimum.true in let least = w.minimum.ensures in omega (arith, less, least)) } in
          subst (IsNeeded c.args.method v m s c.args.entry (n + 1)) (sym (w.needed-is ∙ w.lesser-needed.ensures))
          (needed_more c.args.method v m s c.args.entry n rival c.loop-rival.needed w.weight_above.result w.weight_above.ensures c.loop-rival.invariant))
      | else-rival-entry w ↦
          subst (IsNeeded c.args.method v m s c.args.entry (n + 1)) (sym w.needed-is)
          (needed_skipped c.args.method v m s c.args.entry n c.loop-rival.needed
          (elim w.else-rival-entry.branch [
            | else-rival-entry-via-then-rival-entry+else-held-minimum w' ↦ (λ r. let beyond = r.beyond in let held = w'.if-held-minimum.false in let least = w'.minimum.ensures in omega (arith, beyond, held, least))
            | else-rival-entry-via-else-rival-entry w' ↦ (λ r. r.other w'.if-rival-entry.false)
          ]) c.loop-rival.invariant)
    ]

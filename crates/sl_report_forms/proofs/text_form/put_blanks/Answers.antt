use Rattle.std.proofs.Common.{◌≡◌, ◌∙◌, ◌+◌, ◌*◌, ◌/◌, ◌++◌, ap, arith, replicate, ℕ}
use Rattle.std.proofs.lemmas.List.{replicate-append-replicate}
use Rattle.sl_report_forms.proofs.ShownSteps.{grow_as, grow_more}
use Rattle.sl_report_forms.proofs.text_form.put_blanks.Goals as goal

abbrev blank : ℕ
blank = 32

more : (n m k : ℕ) → n + m ≡ k → replicate n blank ++ replicate m blank ≡ replicate k blank
more n m k e = replicate-append-replicate n m blank ∙ ap (λ i. replicate i blank) e

pub loop-preserved : goal.loop-preserved
loop-preserved c =
    let n = c.loop.counter in
    grow_as _ _ _ _ (grow_more _ _ _ (replicate (8 * n) blank) (replicate 8 blank) c.loop.invariant c.push_str.ensures) (more (8 * n) 8 (8 * (n + 1)) (omega arith))

pub loop-2-preserved : goal.loop-2-preserved
loop-2-preserved c =
    let n = 8 * (c.args.count / 8) + c.loop-2.counter in
    grow_as _ _ _ _ (grow_more _ _ _ (replicate n blank) (replicate 1 blank) c.loop-2.invariant c.push_str-in-loop-2.ensures) (more n 1 (8 * (c.args.count / 8) + (c.loop-2.counter + 1)) (omega arith))

use Rattle.std.proofs.Common.{◌<◌, length, arith, sym, ap, ◌∙◌}
use Rattle.std.specs.Str.{bytes_eq}
use Rattle.std.proofs.lemmas.List.{get_or_default}
use Rattle.sl_report_results.proofs.columns.number_of.Goals as goal

pub returns-then-eq-clause-first : goal.returns-then-eq-clause-first
returns-then-eq-clause-first c =
    let stages = c.args.stages.now in
    let n = c.loop-number.number in
    let within : n < length stages = omega (arith, c.loop-number-test.true, c.min-number-end.ensures) in
    λ d. (
      sym (
          c.eq.ensures ∙ ap (λ b. bytes_eq b c.as_bytes-in-loop-number.result.now) c.as_bytes.ensures.bytes
          ∙ ap (bytes_eq c.args.name.now) (c.as_bytes-in-loop-number.ensures.bytes ∙ ap (λ s. s.name) (get_or_default stages n c.index-stages-number.result d within)))
          ∙ c.if-eq.true,
      λ k less. c.loop-number.invariant k d less,
    )

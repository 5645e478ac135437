use Rattle.std.proofs.Common.{ap, subst, ◌∙◌}
use Rattle.sl_count_calls.specs.Judged.{IsJudged}
use Rattle.sl_count_calls.proofs.AnyInputs.{answers_count, shown_returns}
use Rattle.sl_count_calls.proofs.texts.answer_of.Goals as goal
use Rattle.sl_count_calls.specs.Views.{stage_of}
use Rattle.sl_count_inputs.specs.Judging.{returns_refusal_of}
use Rattle.sl_count_inputs.specs.Returns.{returns_line}

pub returns-in_ok-line-in-ReturnsRefused-clause-output : goal.returns-in_ok-line-in-ReturnsRefused-clause-output
returns-in_ok-line-in-ReturnsRefused-clause-output c =
    let answer = c.refused-in-ReturnsRefused in
    λ r input returns is.
    let on = subst (λ j. IsJudged r (stage_of c.args.view) input returns j) c.in-ReturnsRefused.is is in
    shown_returns c.args.view input returns answer.result.status answer.result.text.items on.0 on.1 on.2 (returns_refusal_of c.in-ReturnsRefused.returns)
    (answer.ensures.status, ap (λ v. v.items) answer.ensures.text ∙ c.in_ok-line-in-ReturnsRefused.ensures ∙ ap returns_line c.why-in-ReturnsRefused.ensures) on.3.0

pub returns-in-Counted-clause-output : goal.returns-in-Counted-clause-output
returns-in-Counted-clause-output c = answers_count c.args.view c.in-Counted.counting c.args.judged.now c.shown.result c.in-Counted.is c.shown.ensures.output

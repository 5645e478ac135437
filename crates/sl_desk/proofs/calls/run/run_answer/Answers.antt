use Rattle.std.proofs.Common.{ap, subst, ◌∙◌}
use Rattle.sl_desk.proofs.Order.{answers_run, refused_file, refused_returns}
use Rattle.sl_desk.proofs.calls.run.run_answer.Goals as goal
use Rattle.sl_desk.specs.JudgedRuns.{IsJudged}
use Rattle.sl_count_inputs.specs.Judging.{returns_refusal_of}
use Rattle.sl_count_inputs.specs.Returns.{returns_line}

pub returns-in_ok-line-in-CodeRefused-clause-output : goal.returns-in_ok-line-in-CodeRefused-clause-output
returns-in_ok-line-in-CodeRefused-clause-output c =
    λ file returns is.
    refused_file file returns c.refused.result.status c.refused.result.text.items c.in-CodeRefused.code (subst (λ j. IsJudged file returns j) c.in-CodeRefused.is is)
    c.refused.ensures.status (ap (λ v. v.items) c.refused.ensures.text ∙ c.in_ok-line-in-CodeRefused.ensures)

pub returns-in_ok-line-in-ReturnsRefused-clause-output : goal.returns-in_ok-line-in-ReturnsRefused-clause-output
returns-in_ok-line-in-ReturnsRefused-clause-output c =
    let answer = c.refused-in-ReturnsRefused in
    λ file returns is.
    let on = subst (λ j. IsJudged file returns j) c.in-ReturnsRefused.is is in
    refused_returns file returns answer.result.status answer.result.text.items on.0 (returns_refusal_of c.in-ReturnsRefused.returns) on.1 on.2.0 answer.ensures.status
    (ap (λ v. v.items) answer.ensures.text ∙ c.in_ok-line-in-ReturnsRefused.ensures ∙ ap returns_line c.why.ensures)

pub returns-in-Ran-clause-output : goal.returns-in-Ran-clause-output
returns-in-Ran-clause-output c = answers_run c.in-Ran.run' c.args.judged.now c.run_text.result c.in-Ran.is (rw c.code.ensures.code at c.run_text.ensures.output)

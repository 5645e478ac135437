use Rattle.sl_terminal_commands.proofs.Answering.{answers, answers_still, as_before, both, none_lost, said_with_tables}
use Rattle.sl_terminal_commands.proofs.Failing.{code_comes_to, comes_to}
use Rattle.sl_terminal_commands.proofs.commands.Commands.answer.Goals as goal

pub returns-in-Count : goal.returns-in-Count
returns-in-Count g c =
    let done = c.show_count.ensures in
    comes_to _ _ _ _ _ c.show_count.result c.answered.result c.answered.ensures (answers _ _ _ _ _ _ c.in-Count.is c.show_count.result done.output done.said done.done (λ none. absurd cc) (none_lost c.show_count.result))

pub returns-in-Check : goal.returns-in-Check
returns-in-Check g c =
    let done = c.check.ensures in
    comes_to _ _ _ _ _ c.check.result c.answered-in-Check.result c.answered-in-Check.ensures (answers_still _ _ _ _ _ _ c.in-Check.is c.check.result done.output done.said done.done (none_lost c.check.result))

pub returns-in-Run : goal.returns-in-Run
returns-in-Run g c =
    let done = c.run_code.ensures in
    comes_to _ _ _ _ _ c.run_code.result c.answered-in-Run.result c.answered-in-Run.ensures (answers_still _ _ _ _ _ _ c.in-Run.is c.run_code.result done.output done.said done.done (none_lost c.run_code.result))

pub returns-in-Law : goal.returns-in-Law
returns-in-Law g c =
    let done = c.law.ensures in
    comes_to _ _ _ _ _ c.law.result c.answered-in-Law.result c.answered-in-Law.ensures (answers_still _ _ _ _ _ _ c.in-Law.is c.law.result done.output done.said done.done (none_lost c.law.result))

pub returns-in-Code : goal.returns-in-Code
returns-in-Code g c =
    let done = c.code.ensures in
    code_comes_to _ _ _ _ _ _ c.in-Code.is c.code.result done.output done.said done.done done.lost done.spared

pub returns-in-Report : goal.returns-in-Report
returns-in-Report g c =
    let done = c.report.ensures in
    comes_to _ _ _ _ _ c.report.result c.answered-in-Report.result c.answered-in-Report.ensures (answers _ _ _ _ _ _ c.in-Report.is c.report.result done.output (said_with_tables c.report.result) done.done done.still (none_lost c.report.result))

pub returns-in-Explain : goal.returns-in-Explain
returns-in-Explain g c =
    let done = c.explain.ensures in
    comes_to _ _ _ _ _ c.explain.result c.answered-in-Explain.result c.answered-in-Explain.ensures
    (answers_still _ _ _ _ _ _ c.in-Explain.is c.explain.result (both c.explain.result _ _ done.status done.text) done.said (as_before c.explain.result _ _ done.said) (none_lost c.explain.result))

use Rattle.std.proofs.Common.{ap, is_err, subst, ◌||◌, ◌∙◌}
use Rattle.std.proofs.lemmas.Result.{IfOk-weaker}
use Rattle.sl_report_tables.specs.Earlier.{is_refused_in}
use Rattle.sl_terminal_commands.proofs.Reported.{told_in}
use Rattle.sl_terminal_commands.proofs.reports.report_beside.Goals as goal
use Rattle.sl_terminal_commands.specs.inner.Reports.{IsReportAnswer}

pub returns-in-Ok : goal.returns-in-Ok
returns-in-Ok g c =
    let text = g.F.Forms.is_text c.args.forms.now in
    let read = c.args.read.now in
    let word = c.args.paths.book.now in
    let table = c.args.table.now in
    let shown = c.slice_of.result in
    let first = c.first_refusal-names in
    let refused = first.ensures.which ∙ ap (λ b. is_err c.args.names || b) c.in-Ok.ensures.which in
    let told = told_in table c.in-Ok.earlier first.result.1 shown c.in-Ok.ensures.which c.in-Ok.ensures.told first.ensures.earlier c.slice_of.ensures in
    IfOk-weaker c.report_with.result _ _
    (
    λ a h. (
      shown,
      told,
      subst (λ s. IsReportAnswer text s (is_err c.args.names || is_refused_in table) word read c.args.style a) c.beside-show.ensures
          (subst (λ b. IsReportAnswer text c.beside-show.result b word read c.args.style a) refused h),
    )
    )
    c.report_with.ensures

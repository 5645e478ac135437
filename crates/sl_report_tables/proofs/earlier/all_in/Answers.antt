use Rattle.std.proofs.Common.{ap, map, refl, ◌-◌, ◌∙◌}
use Rattle.sl_report_parties.specs.Earlier.{all_before}
use Rattle.sl_report_tables.specs.Earlier.{total_told}
use Rattle.sl_report_tables.proofs.EarlierSteps.{all_told}
use Rattle.sl_report_tables.proofs.earlier.all_in.Goals as goal

pub returns : goal.returns
returns c =
    let texts = map (λ l. l.now) c.args.lines.now in
    let found = c.in_ok-found.found.items in
    all_told c.args.lines.now found c.push.new.self.items _ c.in_ok-found.ensures refl
    (c.saturating_sub-seats.ensures ∙ ap (λ n. n - c.all_before.result) c.first_total.ensures ∙ ap (λ n. total_told texts - n) (c.all_before.ensures ∙ ap all_before c.as_slice.ensures.value))
    c.in_ok-push.ensures.items

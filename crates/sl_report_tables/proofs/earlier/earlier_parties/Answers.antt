use Rattle.std.proofs.Common.{ap, map, rules, ◌≡◌, ◌∙◌}
use Rattle.std.specs.Str.Lines.{lines}
use Rattle.std.proofs.lemmas.Iterator.Consumers.{map_from_collect}
use Rattle.std.proofs.lemmas.Iterator.Splits.{YieldsList-from_lines}
use Rattle.std.proofs.lemmas.Result.{IfOk-at_ok}
use Rattle.sl_report_tables.specs.Earlier.{with_others}
use Rattle.sl_report_tables.proofs.EarlierSteps.{table_is}
use Rattle.sl_report_tables.proofs.earlier.earlier_parties.Goals as goal

pub returns-in-Some-clause-refused : goal.returns-in-Some-clause-refused
returns-in-Some-clause-refused c =
    let are = IfOk-at_ok (λ v. map (λ l. l.now) v.items ≡ lines c.args.text.now) c.in_ok-lines.was
    (map_from_collect c.collect.result c.collect.ensures.ran (YieldsList-from_lines c.args.text.now c.lines.ensures.rest)) in
    table_is c.args.text.now c.in_ok-lines.lines.items are ∙ search rules

pub returns-clause-told : goal.returns-clause-told
returns-clause-told c =
    let are = IfOk-at_ok (λ v. map (λ l. l.now) v.items ≡ lines c.args.text.now) c.in_ok-lines.was
    (map_from_collect c.collect.result c.collect.ensures.ran (YieldsList-from_lines c.args.text.now c.lines.ensures.rest)) in
    let all = c.in_ok-lines.lines.items in
    (table_is c.args.text.now all are ∙ search rules, search rules ∙ ap with_others are)

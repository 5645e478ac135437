use Rattle.std.proofs.Common.{◌≡◌, ap, count_by, length, rules, ◌∙◌}
use Rattle.sl_report_parties.proofs.WinnerPlaces.{how_many}
use Rattle.sl_report_parties.specs.Cells.{is_won}
use Rattle.sl_report_parties.proofs.facts.Setting.list_cell.Goals as goal

pub returns-in-Winners : goal.returns-in-Winners
returns-in-Winners c =
    let e = c.args.self.now.returns.now in
    let won = is_won c.args.land c.args.party in
    let counted : length c.winners_on.result.now ≡ count_by won e.wins = ap length c.winners_on.ensures ∙ how_many won e.wins in
    counted ∙ search rules

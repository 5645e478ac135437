use Rattle.std.proofs.Common.{ap, length, ◌∙◌}
use Rattle.sl_report_parties.proofs.WinnerPlaces.{how_many}
use Rattle.sl_report_parties.specs.Cells.{is_won}
use Rattle.sl_report_parties.proofs.winner_counts.WinnerCounts.at.Goals as goal

pub returns : goal.returns
returns c = ap length c.winners_on.ensures ∙ how_many (is_won c.args.land c.args.party) c.args.self.now.returns.now.wins

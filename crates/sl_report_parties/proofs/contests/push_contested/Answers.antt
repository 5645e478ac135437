use Rattle.std.proofs.Common.{◌++◌, ap, inr, subst, sym, ◌∙◌}
use Rattle.sl_report_parties.proofs.WinnerPlaces.{ranked_alone}
use Rattle.sl_report_parties.specs.Ranks.{AreByRank}
use Rattle.sl_report_parties.proofs.contests.push_contested.Goals as goal

pub returns-in_ok-extend_from_slice : goal.returns-in_ok-extend_from_slice
returns-in_ok-extend_from_slice c =
    let ws = c.in_ok-ranked.ranked.items in
    let winners = ranked_alone c.args.table.now c.args.setting.now.returns.now c.args.list c.in-Some.own.now c.in-Some.ensures.own in
    inr (sym c.in-Some.ensures.contested, ws, subst (λ xs. AreByRank xs ws) winners c.in_ok-ranked.ensures, c.in_ok-extend_from_slice.ensures.items ∙ ap (λ xs. c.args.winners.now.items ++ xs) c.as_slice.ensures.value)

use Rattle.std.proofs.Common.{arith, length, sym, ◌∙◌}
use Rattle.std.proofs.lemmas.Bool.{le-ltb, lt-ltb}
use Rattle.sl_report_parties.proofs.WinnerPlaces.{contested_by}
use Rattle.sl_report_parties.proofs.contests.contested_on.Goals as goal

pub returns-then-list-own-clause-contested : goal.returns-then-list-own-clause-contested
returns-then-list-own-clause-contested c =
    let l = c.args.list in
    let s = c.args.setting.now in
    let own = c.winners_on-own.result.now in
    sym (lt-ltb l.seats (length own) c.if-list-own.true)
    ∙ contested_by s.book.now.eligible.items s.returns.now l own c.winners_on-own.ensures (omega (arith, c.if-list-parties.false, c.parties.ensures.number))
    (sym c.takes_part.ensures ∙ c.if-not-takes_part.false)

pub returns-else-list-own-clause-contested : goal.returns-else-list-own-clause-contested
returns-else-list-own-clause-contested c =
    let l = c.args.list in
    let s = c.args.setting.now in
    let own = c.winners_on-own.result.now in
    sym (le-ltb l.seats (length own) c.if-list-own.false)
    ∙ contested_by s.book.now.eligible.items s.returns.now l own c.winners_on-own.ensures (omega (arith, c.if-list-parties.false, c.parties.ensures.number))
    (sym c.takes_part.ensures ∙ c.if-not-takes_part.false)

use Rattle.std.proofs.Common.{Some, ap, arith, subst, sym, ◌<◌, ◌∙◌}
use Rattle.std.specs.Prelude.{IfSome, option_map}
use Rattle.sl_report_tables.proofs.SeatedBooks.{seats_there, within_seats}
use Rattle.sl_report_tables.specs.Compare.{seats_in}
use Rattle.sl_report_tables.specs.inner.SeatsBy.{seats_by}
use Rattle.sl_law_meaning.specs.returns.Election.{parties_of}
use Rattle.sl_report_tables.proofs.seated.seats_in.Goals as goal

pub index-requires : goal.index-requires
index-requires c =
    let e = c.args.returns.now in
    let within = within_seats e c.in-Some-Some.field-0-0.table c.args.book.now.seats.items (c.requires.book ∙ ap (λ o. seats_by e (option_map (λ k. k.table) o)) c.in-Some-Some.is-0)
    c.in-Some-Some.party (subst (λ o. IfSome o (λ n. n < parties_of e)) c.in-Some-Some.is-1 c.requires.party) in
    omega (arith, within, c.args.book.now.seats.ok.0)

pub returns-in-Some-Some : goal.returns-in-Some-Some
returns-in-Some-Some c =
    let e = c.args.returns.now in
    let within : c.in-Some-Some.party < parties_of e = subst (λ o. IfSome o (λ n. n < parties_of e)) c.in-Some-Some.is-1 c.requires.party in
    let there = seats_there e c.in-Some-Some.field-0-0.table c.args.book.now.seats.items (c.requires.book ∙ ap (λ o. seats_by e (option_map (λ k. k.table) o)) c.in-Some-Some.is-0)
    c.in-Some-Some.party within c.index.result.now in
    ap (λ s. Some s.seats) (c.index.ensures ∙ there) ∙ sym (
    ap (λ p. option_map (seats_in e p) c.args.book.now.judged.now.counted) c.in-Some-Some.is-1 ∙ ap (option_map (seats_in e (Some c.in-Some-Some.party))) c.in-Some-Some.is-0)

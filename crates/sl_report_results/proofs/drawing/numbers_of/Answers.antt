use Rattle.std.proofs.Common.{sym, subst}
use Rattle.std.proofs.lemmas.Result.{IfOk-weaker}
use Rattle.sl_report_results.proofs.OwnPlaces.{numbered, places_below}
use Rattle.sl_report_results.specs.inner.Tables.{AreFirst, AreNumbers}
use Rattle.sl_report_results.proofs.drawing.numbers_of.Goals as goal

pub first_places-requires : goal.first_places-requires
first_places-requires c =
    rw (c.as_slice.ensures.value, c.in_ok-places.ensures, c.size_in.ensures, c.requires.items) (places_below c.args.returns.now c.args.votes c.args.scope c.requires.scope)

pub returns : goal.returns
returns c =
    let e = c.args.returns.now in
    let votes = c.args.votes in
    let s = c.args.scope in
    IfOk-weaker c.first_places.result (λ numbers. AreFirst c.as_slice.result.now c.size_in.result numbers.items) (λ numbers. AreNumbers e votes s c.args.items.now numbers.items)
    (λ numbers first. subst (λ items. AreNumbers e votes s items numbers.items) (sym c.requires.items)
    (numbered e votes s numbers.items c.requires.scope (rw (← c.requires.items, ← c.in_ok-places.ensures, ← c.as_slice.ensures.value, ← c.size_in.ensures) first))) c.first_places.ensures

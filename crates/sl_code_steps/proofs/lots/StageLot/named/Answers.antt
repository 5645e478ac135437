-- Each lot is one of the returns', and adds what it gives.
use Rattle.std.proofs.Common.{◌≡◌, ◌<◌, ℕ, List, All, length, get_or, sym, ap, subst, ◌∙◌}
use Rattle.std.proofs.lemmas.List.Elements.{All-get_or}
use Rattle.std.specs.Prelude.{if◌then◌else◌}
use Rattle.std.specs.Str.{bytes_eq}
use Rattle.sl_law_meaning.specs.declared.election.Lot.{Lot}
use Rattle.sl_law_meaning.specs.returns.Election.{IsLot, lands_of, parties_of, wins_of}
use Rattle.sl_code_steps.specs.inner.Lots.{StageLots, with_lot}
use Rattle.sl_code_steps.proofs.drawing.LotLists.{lots_next}
use Rattle.sl_code_steps.proofs.lots.StageLot.named.Goals as goal

pub add_named-requires-clause-lot : goal.add_named-requires-clause-lot
add_named-requires-clause-lot c =
    let e = c.args.returns.now in
    let kept = c.lots-lot-items.ensures.kept in
    let seen = c.lots-lot-items.ensures.lots in
    let i = c.loop-lot.lot-index in
    let item = c.lot-item.result in
    let is : item ≡ get_or e.lots i item = c.lot-item.is ∙ ap (λ (ls : List Lot). get_or ls i item) seen in
    let there : i < length e.lots = subst (λ (ls : List Lot). i < length ls) seen c.loop-lot-test.true in
    let P : Lot → Type 0 = IsLot (lands_of e) (parties_of e) (wins_of e) in
    let all : All P e.lots = subst (λ (n : ℕ). All (IsLot (lands_of e) (parties_of e) n) e.lots) kept.wins kept.lots in
    subst P (sym is) (All-get_or P e.lots i item there all)

pub loop-lot-preserved : goal.loop-lot-preserved
loop-lot-preserved c =
    let e = c.args.returns.now in
    let name = c.args.name.now in
    let seen = c.lots-lot-items.ensures.lots in
    let i = c.loop-lot.lot-index in
    let item = c.lot-item.result in
    let is : item ≡ get_or e.lots i item = c.lot-item.is ∙ ap (λ (ls : List Lot). get_or ls i item) seen in
    let there : i < length e.lots = subst (λ (ls : List Lot). i < length ls) seen c.loop-lot-test.true in
    c.in_ok-add_named.ensures
    ∙ ap (λ (s : StageLots). if bytes_eq name item.stage then with_lot e item s else s) c.loop-lot.invariant
    ∙ sym (lots_next e name e.lots i item there is)

use Rattle.std.proofs.Common.{rules, ◌≡◌, nat_eq, length, unwrap_or, ap, ◌∙◌}
use Rattle.std.specs.List.{position}
use Rattle.std.proofs.lemmas.Iterator.{YieldsList-from_slice}
use Rattle.std.proofs.lemmas.Iterator.Search.{position_from_yields_List}
use borrow.Author.Tests.{tests}
use Rattle.sl_prio.proofs.lot.place_in_lot.Goals as goal

pub returns : goal.returns
returns c =
    let at : c.position.result ≡ position (λ named. nat_eq named c.args.index) c.args.lot.now =
    position_from_yields_List (λ named. nat_eq named c.args.index) _ _ c.position.result c.position.ensures.ran (YieldsList-from_slice c.args.lot.now (cc)) (λ x b q k. search (rules, tests)) in
    c.unwrap_or.ensures ∙ ap (λ o. unwrap_or o (length c.args.lot.now)) at

use Rattle.std.proofs.Common.{◌<◌, ◌++◌, ◌∷◌, [], length, map, get_or, set, arith, sym, ap, subst, ◌∙◌}
use Rattle.std.specs.Prelude.{IfSome, if◌then◌else◌}
use Rattle.std.proofs.lemmas.List.{get_or-map, length-map, map-set}
use Rattle.sl_report_parties.proofs.WinnerPlaces.{added_at}
use Rattle.sl_report_parties.specs.inner.Winners.{is_at}
use Rattle.sl_report_parties.proofs.winners.push_at.Goals as goal

pub returns-in_ok-push-clause-pushed : goal.returns-in_ok-push-clause-pushed
returns-in_ok-push-clause-pushed c = λ n.
    let all = c.args.all.now.items in
    let rows = map (λ own. own.items) all in
    let place = c.in-Some.place in
    let one = c.args.winner in
    let within : place < length all = subst (λ o. IfSome o (λ n. n < length all)) c.in-Some.is c.requires in
    let before = ap (λ own. own.items) c.index_mut.ensures.value ∙ sym (get_or-map (λ own. own.items) all place c.index_mut.result.now [] within) in
    ap (λ xs. get_or xs n []) (map-set (λ own. own.items) all place c.push.new.self ∙ ap (set rows place) (c.in_ok-push.ensures.items ∙ ap (λ xs. xs ++ one ∷ []) before))
    ∙ added_at rows place n one (omega (arith, within, length-map all (λ own. own.items)))
    ∙ ap (λ o. get_or rows n [] ++ (if is_at n o then one ∷ [] else [])) (sym c.in-Some.is)

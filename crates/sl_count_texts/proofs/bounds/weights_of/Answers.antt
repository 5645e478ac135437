use Rattle.std.proofs.Common.{◌≡◌, map, sym, rules, ◌∙◌}
use Rattle.std.proofs.lemmas.Iterator.{YieldsList-from_slice, YieldsList-from_map, items_from_collect}
use Rattle.std.proofs.lemmas.Iterator.Consumers.{YieldsList-at}
use Rattle.std.proofs.lemmas.Result.{IfOk-at_ok}
use Rattle.std.proofs.lemmas.Simd.{map-map}
use Rattle.sl_count_texts.proofs.bounds.weights_of.Goals as goal

pub returns : goal.returns
returns c =
    let numbers = map (λ w. w.now.weight) c.args.scope.now in
    IfOk-at_ok (λ v. v.items ≡ numbers) c.in_ok-weights.was
    (items_from_collect c.collect.result c.collect.ensures.ran
    (YieldsList-from_map _ (λ w. w.now.weight) (YieldsList-at c.map.ensures.source (YieldsList-from_slice c.args.scope.now c.iter.ensures.rest)) c.map.ensures.closure (λ x r q k. search rules)))
    ∙ sym (map-map (λ w. w.weight) (λ w. w.now) c.args.scope.now)

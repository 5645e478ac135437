use Rattle.std.proofs.Common.{◌≡◌, map, rules, ◌∙◌}
use Rattle.std.proofs.lemmas.Iterator.{YieldsList-from_slice}
use Rattle.std.proofs.lemmas.Iterator.Consumers.{map_from_collect}
use Rattle.std.proofs.lemmas.Result.{IfOk-at_ok}
use Rattle.sl_count_texts.specs.Orders.{step_key}
use Rattle.sl_count_texts.proofs.KeyOrder.{references_in_order}
use Rattle.sl_count_texts.proofs.orders.steps_in_order.Goals as goal

pub returns : goal.returns
returns c =
    let steps = c.args.table.now.steps in
    references_in_order step_key steps c.in_ok-steps.steps.items _
    (IfOk-at_ok (λ v. map (λ s. s.now) v.items ≡ steps) c.in_ok-steps.was (map_from_collect c.collect.result c.collect.ensures.ran (YieldsList-from_slice steps (c.iter.ensures.rest ∙ c.steps.ensures))))
    c.in_ok-sort_by_key.ensures.sorted c.in_ok-sort_by_key.ensures.stable (λ f a r g h. search rules)

use Rattle.std.proofs.Common.{◌≡◌, [], map, ap, subst, ◌∙◌}
use Rattle.std.specs.List.{count_by}
use Rattle.std.proofs.lemmas.List.{get_or-map, take_all}
use Rattle.sl_law_meaning.specs.declared.table.Weight.{Weight}
use Rattle.sl_count_texts.specs.Bounds.{is_one_scope, groups, scope_weights, is_of_entry, seats_of, AreScopeBounds}
use Rattle.sl_count_texts.specs.inner.Counts.{counted_seats}
use Rattle.sl_count_texts.proofs.FoundBounds.{bounds_more}
use Rattle.sl_count_texts.proofs.Lists.{mapped_within, mapped_past}
use Rattle.sl_count_texts.proofs.bounds.bounds_in_order.Goals as goal

pub loop-scope-preserved : goal.loop-scope-preserved
loop-scope-preserved c =
    let scopes = c.deref-scope-items.result.now in
    let i = c.loop-scope.scope-index in
    bounds_more (counted_seats c.in_ok-counts.counts) (map (λ s. map (λ w. w.now) s.now) scopes) i _ [] _ _
    (mapped_within (λ s. map (λ w. w.now) s.now) scopes i c.loop-scope-test.true) (get_or-map (λ s. map (λ w. w.now) s.now) scopes i _ [] c.loop-scope-test.true) c.loop-scope.invariant c.in_ok-add_bounds.ensures

pub returns : goal.returns
returns c =
    let t = c.args.table.now in
    let scopes = map (λ s. map (λ w. w.now) s.now) c.deref-scope-items.result.now in
    let scopes_are : scopes ≡ scope_weights t =
    ap (map (λ s. map (λ w. w.now) s.now)) c.deref-scope-items.ensures.value ∙ c.in_ok-scopes.ensures ∙ ap (λ ws. groups is_one_scope (map (λ w. w.now) ws)) c.deref.ensures.value ∙ ap (groups is_one_scope) c.in_ok-weights.ensures in
    let counted : (w : Weight) → counted_seats c.in_ok-counts.counts w ≡ seats_of t w = λ w. c.in_ok-counts.ensures w ∙ ap (count_by (is_of_entry w)) c.steps.ensures in
    let all = take_all c.loop-scope.scope-index scopes (mapped_past (λ s. map (λ w. w.now) s.now) c.deref-scope-items.result.now c.loop-scope.scope-index c.loop-scope-test.false) in
    subst (λ seats. AreScopeBounds seats (scope_weights t) c.loop-scope.found.items) (λ i w. counted w i)
    (subst (λ ws. AreScopeBounds (counted_seats c.in_ok-counts.counts) ws c.loop-scope.found.items) (all ∙ scopes_are) c.loop-scope.invariant)

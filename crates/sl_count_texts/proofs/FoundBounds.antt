-- The bounds of scopes, found one after another.
use Rattle.std.proofs.Common.{◌≡◌, ℕ, ◌+◌, ◌<◌, List, [], ◌∷◌, ◌++◌, Option, Some, None, length, map, take, get_or, refl, sym, ap, subst, ◌∙◌, append_assoc}
use Rattle.std.specs.Prelude.{slice_get}
use Rattle.std.specs.Borrow.{Bor}
use Rattle.std.specs.List.{All}
use Rattle.std.proofs.lemmas.List.{append-nil, take_more}
use Rattle.std.proofs.lemmas.List.Elements.{All-nil, All-cons, All-head, All-tail, All-append}
use Rattle.std.proofs.lemmas.Simd.{map-map}
use Rattle.sl_base_quotients.specs.Quotient.{Quotient}
use Rattle.sl_code_semantics.specs.Fits.{HasScope, FitsWeight}
use Rattle.sl_law_meaning.specs.declared.table.Weight.{Weight}
use Rattle.sl_law_meaning.specs.meaning.Tables.{SeatTable}
use Rattle.sl_law_meaning.specs.returns.Election.{Election}
use Rattle.sl_count_texts.specs.Bounds.{is_one_scope, seats_of, scope_weights, IsToldPair, told, IsBoundsOf, AreScopeBounds, AreBoundsOf}
use Rattle.sl_count_texts.specs.Orders.{weight_key, in_order}
use Rattle.sl_count_texts.specs.declared.bounds.ScopeBounds.{ScopeBounds}
use Rattle.sl_count_texts.specs.inner.Counts.{HasMore}
use Rattle.sl_count_texts.proofs.Groups.{All-groups}
use Rattle.sl_count_texts.proofs.KeyOrder.{All-in_order}

module _ (seats : Weight → ℕ) where
  -- the pair that is told of a scope gives its bounds
  pub pair_bounds : (scope : List (Bor Weight)) (first : Bor Weight) (answer pair : Option (Quotient × Quotient)) → slice_get scope 0 ≡ Some first → answer ≡ pair
      → IsToldPair first.now.divisor (map (λ w. w.now) scope) (map (λ w. seats w.now) scope) answer → IsBoundsOf seats (map (λ w. w.now) scope) (told first.now pair)
  pair_bounds [] first answer pair is same_pair is_told = absurd (cc)
  pair_bounds (w ∷ scope) first answer pair is same_pair is_told =
      let same : w ≡ first = cc in (
        answer,
        subst (λ xs. IsToldPair w.now.divisor (map (λ w. w.now) (w ∷ scope)) xs answer) (sym (map-map seats (λ w. w.now) (w ∷ scope)))
            (subst (λ (f : Bor Weight). IsToldPair f.now.divisor (map (λ w. w.now) (w ∷ scope)) (map (λ w. seats w.now) (w ∷ scope)) answer) (sym same) is_told),
        λ i. told (sym same i).now (sym same_pair i),
      )

  -- the bounds of one more scope
  more_bounds : (scopes : List (List Weight)) (ws : List Weight) (found more : List ScopeBounds) → AreScopeBounds seats scopes found → IsBoundsOf seats ws more
      → AreScopeBounds seats (scopes ++ ws ∷ []) (found ++ more)
  more_bounds [] ws found more are is = (more, [], is, refl, ap (λ x. x ++ more) are ∙ sym (append-nil more))
  more_bounds (vs ∷ scopes) ws found more (first, rest, one, others, joined) is =
      (first, rest ++ more, one, more_bounds scopes ws rest more others is, ap (λ x. x ++ more) joined ∙ append_assoc first rest more)

  pub bounds_more : (scopes : List (List Weight)) (i : ℕ) (ws other : List Weight) (before after : List ScopeBounds) → i < length scopes → get_or scopes i other ≡ ws
      → AreScopeBounds seats (take i scopes) before → HasMore before (IsBoundsOf seats ws) after → AreScopeBounds seats (take (i + 1) scopes) after
  bounds_more scopes i ws other before after within here are (more, is, added) =
      subst (AreScopeBounds seats (take (i + 1) scopes)) (sym added)
      (subst (λ some. AreScopeBounds seats some (before ++ more)) (sym (take_more scopes i other within ∙ ap (λ y. take i scopes ++ y ∷ []) here)) (more_bounds (take i scopes) ws before more are is))

-- the scope of found bounds is of the election, where the weights fit it
module _ (stages : ℕ) (e : Election) where
  abbrev HasScopeOf : ScopeBounds → Type 0
  HasScopeOf b = HasScope e b.scope

  module _ (seats : Weight → ℕ) where
    one_fits : (ws : List Weight) (found : List ScopeBounds) → All (FitsWeight stages e) ws → IsBoundsOf seats ws found → All HasScopeOf found
    one_fits [] found all is = subst (All HasScopeOf) (sym is) (All-nil HasScopeOf)
    one_fits (w ∷ ws) found all (Some (last, next), is_told, is) = subst (All HasScopeOf) (sym is) (All-cons HasScopeOf _ [] (All-head (FitsWeight stages e) w ws all).scope (All-nil HasScopeOf))
    one_fits (w ∷ ws) found all (None, is_told, is) = subst (All HasScopeOf) (sym is) (All-nil HasScopeOf)

    all_fit : (scopes : List (List Weight)) (found : List ScopeBounds) → All (All (FitsWeight stages e)) scopes → AreScopeBounds seats scopes found → All HasScopeOf found
    all_fit [] found all is = subst (All HasScopeOf) (sym is) (All-nil HasScopeOf)
    all_fit (ws ∷ scopes) found all (first, rest, is, are, joined) =
        subst (All HasScopeOf) (sym joined)
        (All-append HasScopeOf first rest (one_fits ws first (All-head (All (FitsWeight stages e)) ws scopes all) is) (all_fit scopes rest (All-tail (All (FitsWeight stages e)) ws scopes all) are))

  pub found_fit : (t : SeatTable) (found : List ScopeBounds) → All (FitsWeight stages e) t.weights → AreBoundsOf t found → All HasScopeOf found
  found_fit t found fits are =
      all_fit (seats_of t) (scope_weights t) found (All-groups is_one_scope (FitsWeight stages e) (in_order weight_key t.weights) (All-in_order weight_key (FitsWeight stages e) t.weights fits)) are

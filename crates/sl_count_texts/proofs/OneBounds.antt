-- A scope has one pair of bounds, and a table has one text of its bounds.
use Rattle.std.proofs.Common.{◌≡◌, ℕ, List, [], ◌∷◌, ◌++◌, Option, Some, None, map, flat_map, sym, ap, ◌∙◌, inl, inr, cond}
use Rattle.std.specs.Ordering.{is_le}
use Rattle.std.proofs.lemmas.Bool.{cases_order}
use Rattle.sl_base_quotients.specs.declared.method.Divisor.{Divisor}
use Rattle.sl_base_quotients.specs.Bounds.{IsFirst, AreBounds, last_quotient, next_quotient}
use Rattle.sl_base_quotients.specs.Quotient.{Quotient, compare}
use Rattle.sl_law_meaning.specs.declared.table.Weight.{Weight}
use Rattle.sl_law_meaning.specs.meaning.Tables.{SeatTable}
use Rattle.sl_law_meaning.specs.returns.Election.{Election}
use Rattle.sl_count_texts.specs.Bounds.{scope_weights, seats_of, IsToldPair, told, IsBoundsOf, AreScopeBounds, bounds_line, IsBoundsLines}
use Rattle.sl_count_texts.specs.declared.bounds.ScopeBounds.{ScopeBounds}

one_first : (P : ℕ → Type 0) (i j : ℕ) → IsFirst P i → IsFirst P j → i ≡ j
one_first P i j first other = elim (cases_order i j) [
  | inl same ↦ same
  | inr (inl less) ↦ absurd (other.before i less first.holds)
  | inr (inr greater) ↦ absurd (first.before j greater other.holds)
]

one_pair : (method : Divisor) (v s : List ℕ) (a b : Option (Quotient × Quotient)) → AreBounds method v s a → AreBounds method v s b → a ≡ b
one_pair method v s a b (last, next, (i, i_first, last_is), (j, j_first, next_is), is) (last_too, next_too, (k, k_first, last_too_is), (l, l_first, next_too_is), is_too) =
    let same_last : last ≡ last_too = last_is ∙ ap (last_quotient method v s) (one_first _ i k i_first k_first) ∙ sym last_too_is in
    let same_next : next ≡ next_too = next_is ∙ ap (next_quotient method v s) (one_first _ j l j_first l_first) ∙ sym next_too_is in
    is ∙ (λ d. cond (is_le (compare (same_next d) (same_last d))) (Some (same_last d, same_next d)) None) ∙ sym is_too

one_told : (method : Divisor) (ws : List Weight) (s : List ℕ) (a b : Option (Quotient × Quotient)) → IsToldPair method ws s a → IsToldPair method ws s b → a ≡ b
one_told method ws s a b (inl (tells, are)) (inl (tells_too, are_too)) = one_pair method (map (λ w. w.weight) ws) s a b are are_too
one_told method ws s a b (inl (tells, are)) (inr (silent, none)) = absurd (silent tells)
one_told method ws s a b (inr (silent, none)) (inl (tells, are)) = absurd (silent tells)
one_told method ws s a b (inr (silent, none)) (inr (silent_too, none_too)) = none ∙ sym none_too

module _ (seats : Weight → ℕ) where
  one_bounds : (ws : List Weight) (x y : List ScopeBounds) → IsBoundsOf seats ws x → IsBoundsOf seats ws y → x ≡ y
  one_bounds [] x y is is_too = is ∙ sym is_too
  one_bounds (w ∷ ws) x y (pair, one, is) (pair_too, one_too, is_too) =
      is ∙ ap (told w) (one_told w.divisor (w ∷ ws) (map seats (w ∷ ws)) pair pair_too one one_too) ∙ sym is_too

  all_bounds : (scopes : List (List Weight)) (x y : List ScopeBounds) → AreScopeBounds seats scopes x → AreScopeBounds seats scopes y → x ≡ y
  all_bounds [] x y is is_too = is ∙ sym is_too
  all_bounds (ws ∷ scopes) x y (first, rest, one, more, is) (first_too, rest_too, one_too, more_too, is_too) =
      is ∙ (λ i. one_bounds ws first first_too one one_too i ++ all_bounds scopes rest rest_too more more_too i) ∙ sym is_too

pub one_bounds_lines : (names : List (List ℕ)) (t : SeatTable) (e : Election) (x y : List ℕ) → IsBoundsLines names t e x → IsBoundsLines names t e y → x ≡ y
one_bounds_lines names t e x y (found, are, is) (found_too, are_too, is_too) =
    is ∙ ap (flat_map (bounds_line names e)) (all_bounds (seats_of t) (scope_weights t) found found_too are are_too) ∙ sym is_too

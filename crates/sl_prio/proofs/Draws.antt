-- The one that a lot draws first of several entries, part by part.
use Rattle.std.proofs.Common.{◌≡◌, ℕ, ◌<◌, true, false, List, [], ◌∷◌, ◌++◌, length, get_or, slice_get, Some, Contains, sym, subst, ◌∙◌, inl, inr}
use Rattle.std.proofs.lemmas.List.{get_or_default}
use Rattle.std.proofs.lemmas.Option.{slice_get_within, get_or_from_slice_get}
use Rattle.std.specs.Ordering.{is_gt}
use Rattle.std.proofs.lemmas.List.Elements.{All-append, All-cons, All-head, All-nil, All-tail, All-weaker}
use Rattle.sl_base_quotients.specs.declared.entry.Entry.{Entry}
use Rattle.sl_base_rankings.specs.Lot.{lot_cmp}
use Rattle.sl_prio.specs.inner.Heap.{IsDrawnOf, IsDrawnFrom}
use Rattle.sl_base_rankings.proofs.Finding.{Contains-head, Contains-tail, Contains-cases, Contains-append_left, Contains-append_right}
use Rattle.sl_base_rankings.proofs.Greatest.{AtMost, AtMost-self, AtMost-trans, AtMost-other, le_not_gt}
use Rattle.sl_base_rankings.proofs.Orders.{lot_order}

module _ (lot : List ℕ) where
  abbrev Before : Entry → Entry → Type 0
  Before y x = AtMost (lot_cmp lot) y x

  itself : (x : Entry) → Before x x
  itself x = AtMost-self (lot_cmp lot) (lot_order lot) x

  pub drawn_alone : (x : Entry) → IsDrawnOf lot [] x x
  drawn_alone x = record { among = Contains-head x []; most = All-cons (Before x) x [] (itself x) (All-nil (Before x)) }

  -- of one part, and then of the next
  pub drawn_on : (xs ys : List Entry) (x y z : Entry) → IsDrawnOf lot xs x y → IsDrawnOf lot ys y z → IsDrawnOf lot (xs ++ ys) x z
  drawn_on xs ys x y z h k =
      let later = All-head (Before z) y ys k.most in
      let front = All-weaker (Before y) (Before z) (λ w b. AtMost-trans (lot_cmp lot) (lot_order lot) w y z b later) (x ∷ xs) h.most in record {
        among = elim (Contains-cases y ys z k.among) [
          | inl e ↦ subst (λ (w : Entry). Contains (x ∷ (xs ++ ys)) w) e (Contains-append_left (x ∷ xs) ys y h.among)
          | inr c ↦ Contains-append_right (x ∷ xs) ys z c
        ];
        most = All-append (Before z) (x ∷ xs) ys front (All-tail (Before z) y ys k.most);
      }

  pub drawn_first : (x y : Entry) → is_gt (lot_cmp lot y x) ≡ true → IsDrawnOf lot (y ∷ []) x y
  drawn_first x y g = record {
    among = Contains-tail x (y ∷ []) y (Contains-head y []);
    most = All-cons (Before y) x (y ∷ []) (AtMost-other (lot_cmp lot) (lot_order lot) y x g) (All-cons (Before y) y [] (itself y) (All-nil (Before y)));
  }

  pub drawn_still : (x y : Entry) → is_gt (lot_cmp lot y x) ≡ false → IsDrawnOf lot (y ∷ []) x x
  drawn_still x y g = record {
    among = Contains-head x (y ∷ []);
    most = All-cons (Before x) x (y ∷ []) (itself x) (All-cons (Before x) y [] (le_not_gt (lot_cmp lot y x) g) (All-nil (Before x)));
  }

  module _ (xs : List Entry) where
    pub drawn_from_none : (others : List Entry) (best : ℕ) → best < length xs → others ≡ [] → IsDrawnFrom lot xs others best best
    drawn_from_none others best l none = record { within = l; drawn = λ d. subst (λ ys. IsDrawnOf lot ys (get_or xs best d) (get_or xs best d)) (sym none) (drawn_alone (get_or xs best d)) }

    pub drawn_from_on : (ys zs : List Entry) (a b c : ℕ) → IsDrawnFrom lot xs ys a b → IsDrawnFrom lot xs zs b c → IsDrawnFrom lot xs (ys ++ zs) a c
    drawn_from_on ys zs a b c h k = record { within = k.within; drawn = λ d. drawn_on ys zs (get_or xs a d) (get_or xs b d) (get_or xs c d) (h.drawn d) (k.drawn d) }

    module _ (place best : ℕ) (peer y : Entry) (at : slice_get xs place ≡ Some peer) (within : best < length xs) (before : y ≡ get_or xs best y) where
      best_is : (d : Entry) → y ≡ get_or xs best d
      best_is d = before ∙ get_or_default xs best y d within

      pub drawn_here : is_gt (lot_cmp lot peer y) ≡ true → IsDrawnFrom lot xs (peer ∷ []) best place
      drawn_here g = record {
        within = slice_get_within xs place peer at;
        drawn = λ d.
            let first = subst (λ z. IsDrawnOf lot (peer ∷ []) z peer) (best_is d) (drawn_first y peer g) in
            subst (λ z. IsDrawnOf lot (peer ∷ []) (get_or xs best d) z) (sym (get_or_from_slice_get xs place peer d at)) first;
      }

      pub drawn_before : is_gt (lot_cmp lot peer y) ≡ false → IsDrawnFrom lot xs (peer ∷ []) best best
      drawn_before g = record { within = within; drawn = λ d. subst (λ z. IsDrawnOf lot (peer ∷ []) z z) (best_is d) (drawn_still y peer g) }

-- A concatenation of which one piece changes: what stays, and the piece before and after.
use Rattle.std.proofs.Common.{◌≡◌, ℕ, zero, suc, List, [], ◌∷◌, ◌++◌, Some, get_or, append_assoc, arith, refl, sym, subst}
use Rattle.std.specs.Prelude.{flat_map, slice_get, IsPermutation}
use Rattle.std.proofs.lemmas.Option.{none-some, same_Some, slice_get-get_or}
use Rattle.std.proofs.lemmas.List.Sorted.{IsPermutation-refl, IsPermutation-trans, IsPermutation-append_comm, IsPermutation-append_left, IsPermutation-append_right}
use Rattle.sl_law_meaning.proofs.meaning.EachList.{pieces_agree}

-- the pieces that f and g make of the elements are the same, up to order, but for those of x
pub record ChangesPiece {X Y : Type 0} (f g : X → List Y) (xs : List X) (x : X) : Type 0 where
  pub rest : List Y
  pub before : IsPermutation (flat_map f xs) (f x ++ rest)
  pub after : IsPermutation (flat_map g xs) (g x ++ rest)

exchanged : {Y : Type 0} (xs ys zs : List Y) → IsPermutation (xs ++ (ys ++ zs)) (ys ++ (xs ++ zs))
exchanged xs ys zs =
    subst (λ l. IsPermutation l (ys ++ (xs ++ zs))) (append_assoc xs ys zs)
    (subst (λ r. IsPermutation ((xs ++ ys) ++ zs) r) (append_assoc ys xs zs) (IsPermutation-append_left zs (xs ++ ys) (ys ++ xs) (IsPermutation-append_comm xs ys)))

-- a piece before what stays
after_first : {Y : Type 0} (first all piece rest : List Y) → IsPermutation all (piece ++ rest) → IsPermutation (first ++ all) (piece ++ (first ++ rest))
after_first first all piece rest h =
    IsPermutation-trans (first ++ all) (first ++ (piece ++ rest)) (piece ++ (first ++ rest)) (IsPermutation-append_right first all (piece ++ rest) h) (exchanged first piece rest)

-- f and g make the same pieces of all elements but the one at a place
pub changes_piece : {X Y : Type 0} (f g : X → List Y) (xs : List X) (i : ℕ) (x : X) → slice_get xs i ≡ Some x →
    ((j : ℕ) (y : X) → slice_get xs j ≡ Some y → ¬ (j ≡ i) → f y ≡ g y) → ChangesPiece f g xs x
changes_piece f g [] i x at same = absurd (none-some x at)
changes_piece f g (y ∷ ys) zero x at same =
    let is = same_Some y x at in
    let others = pieces_agree f g ys (λ j d less. same (suc j) (get_or ys j d) (slice_get-get_or ys j d less) (λ h. omega (arith, h))) in
    record {
      rest = flat_map f ys;
      before = subst (λ z. IsPermutation (f y ++ flat_map f ys) (f z ++ flat_map f ys)) is (IsPermutation-refl (f y ++ flat_map f ys));
      after = subst (λ z. IsPermutation (g y ++ flat_map g ys) (g z ++ flat_map f ys)) is
          (subst (λ zs. IsPermutation (g y ++ flat_map g ys) (g y ++ zs)) (sym others) (IsPermutation-refl (g y ++ flat_map g ys)));
    }
changes_piece f g (y ∷ ys) (suc i) x at same =
    let later = changes_piece f g ys i x at (λ j z there other. same (suc j) z there (λ h. other (omega (arith, h)))) in
    let first : f y ≡ g y = same 0 y refl (λ h. omega (arith, h)) in
    record {
      rest = f y ++ later.rest;
      before = after_first (f y) (flat_map f ys) (f x) later.rest later.before;
      after = subst (λ p. IsPermutation (p ++ flat_map g ys) (g x ++ (f y ++ later.rest))) first (after_first (f y) (flat_map g ys) (g x) later.rest later.after);
    }

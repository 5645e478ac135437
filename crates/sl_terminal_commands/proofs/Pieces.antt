-- Lists that are put together of pieces, one piece more.
use Rattle.std.proofs.Common.{◌≡◌, ◌∙◌, ℕ, ◌+◌, List, [], ◌∷◌, ◌++◌, Some, append_assoc, ap, sym, take}
use Rattle.std.proofs.lemmas.List.Concat.{flat_map-append}
use Rattle.std.proofs.lemmas.List.{append-nil, take_more}
use Rattle.std.proofs.lemmas.Option.{get_or_from_slice_get, slice_get_within}
use Rattle.std.specs.List.{flat_map}
use Rattle.std.specs.Prelude.{slice_get}

-- the pieces of one element more, after others
pub pieces_next : {X Y : Type 0} (f : X → List Y) (xs : List X) (i : ℕ) (x : X) (front ys zs : List Y) → slice_get xs i ≡ Some x →
    ys ≡ front ++ flat_map f (take i xs) → zs ≡ ys ++ f x → zs ≡ front ++ flat_map f (take (i + 1) xs)
pieces_next f xs i x front ys zs at so_far more =
    more ∙ ap (λ v. v ++ f x) so_far ∙ append_assoc front (flat_map f (take i xs)) (f x)
    ∙ ap (λ v. front ++ v) (
    ap (λ v. flat_map f (take i xs) ++ v) (sym (append-nil (f x)))
    ∙ sym (flat_map-append f (take i xs) (x ∷ []))
    ∙ ap (flat_map f) (sym (take_more xs i x (slice_get_within xs i x at) ∙ ap (λ y. take i xs ++ y ∷ []) (get_or_from_slice_get xs i x x at))))

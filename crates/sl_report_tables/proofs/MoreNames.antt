-- Names by their numbers, one name more; and what is found of elements, one element more.
use Rattle.std.proofs.Common.{◌≡◌, ◌∙◌, ℕ, ◌+◌, List, [], ◌∷◌, ◌++◌, Option, Some, ap, map, sym, take}
use Rattle.std.proofs.lemmas.List.Elements.{filter_map-append}
use Rattle.std.proofs.lemmas.List.{map_push, take_more}
use Rattle.std.proofs.lemmas.Option.{get_or_from_slice_get, slice_get_within}
use Rattle.std.specs.List.{cons_option, filter_map}
use Rattle.std.specs.Prelude.{slice_get}
use Rattle.sl_report_parties.proofs.Steps.{map_next}

pub names_next : {A B Y : Type 0} (f : A → Y) (g : B → Y) (bs : List B) (i : ℕ) (b : B) (before after : List A) (a : A) → slice_get bs i ≡ Some b →
    map f before ≡ map g (take i bs) → after ≡ before ++ a ∷ [] → f a ≡ g b → map f after ≡ map g (take (i + 1) bs)
names_next f g bs i b before after a at so_far pushed is =
    map_next g bs i b (map f before) (map f after) (f a) at so_far (ap (map f) pushed ∙ map_push f before a) is

-- what is found of one element more
pub found_more : {X Y : Type 0} (h : X → Option Y) (xs : List X) (i : ℕ) (x : X) (o : Option Y) (before after : List Y) → slice_get xs i ≡ Some x → o ≡ h x →
    before ≡ filter_map h (take i xs) → after ≡ before ++ cons_option o [] → after ≡ filter_map h (take (i + 1) xs)
found_more h xs i x o before after at is so_far more =
    more ∙ ap (λ v. v ++ cons_option o []) so_far ∙ ap (λ p. filter_map h (take i xs) ++ cons_option p []) is
    ∙ sym (filter_map-append h (take i xs) (x ∷ []))
    ∙ ap (filter_map h) (sym (take_more xs i x (slice_get_within xs i x at) ∙ ap (λ y. take i xs ++ y ∷ []) (get_or_from_slice_get xs i x x at)))

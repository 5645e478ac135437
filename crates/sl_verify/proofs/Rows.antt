-- What holds of each operand of a kind, over all operands.
use Rattle.std.proofs.Common.{◌≡◌, Bool, true, false, ◌&&◌, List, [], ◌∷◌, ◌++◌, map, Option, Some, None, refl, sym, ap, ◌∙◌}
use Rattle.std.specs.List.{list_all, filter_map, cons_option}
use Rattle.std.specs.Option.{option_map_or}
use Rattle.std.proofs.Math.Bool.{and-true}
use Rattle.sl_code_semantics.specs.Needs.{all_hold}

first_and_rest : (b : Bool) (bs : List Bool) → all_hold (b ∷ bs) ≡ (b && all_hold bs)
first_and_rest b [] = sym (and-true b)
first_and_rest b (c ∷ bs) = refl

and_assoc : (a b c : Bool) → ((a && b) && c) ≡ (a && (b && c))
and_assoc true b c = refl
and_assoc false b c = refl

both_lists : (xs ys : List Bool) → all_hold (xs ++ ys) ≡ (all_hold xs && all_hold ys)
both_lists [] ys = refl
both_lists (x ∷ xs) ys =
    first_and_rest x (xs ++ ys) ∙ ap (λ b. x && b) (both_lists xs ys) ∙ sym (and_assoc x (all_hold xs) (all_hold ys)) ∙ ap (λ b. b && all_hold ys) (sym (first_and_rest x xs))

module _ {X Y : Type 0} (f : X → Option Y) (p : Y → Bool) where
  -- p holds of each that f gives exactly where all of those hold
  pub each_holds : (xs : List X) → list_all (λ x. option_map_or p (f x) true) xs ≡ all_hold (map p (filter_map f xs))
  each_holds [] = refl
  each_holds (x ∷ xs) =
      elim (f x) as (λ o. (option_map_or p o true && list_all (λ x. option_map_or p (f x) true) xs) ≡ all_hold (map p (cons_option o (filter_map f xs))))
      [ None ↦ each_holds xs | Some y ↦ ap (λ b. p y && b) (each_holds xs) ∙ sym (first_and_rest (p y) (map p (filter_map f xs))) ]

both_pairs : (a b c d : Bool) → ((a && b) && (c && d)) ≡ ((a && c) && (b && d))
both_pairs true true c d = refl
both_pairs true false true d = refl
both_pairs true false false d = refl
both_pairs false b c d = refl

both_everywhere : {X : Type 0} (p q : X → Bool) (xs : List X) → list_all (λ x. p x && q x) xs ≡ (list_all p xs && list_all q xs)
both_everywhere p q [] = refl
both_everywhere p q (x ∷ xs) = ap (λ b. (p x && q x) && b) (both_everywhere p q xs) ∙ both_pairs (p x) (q x) (list_all p xs) (list_all q xs)

pub each_of_both : {X Y Z : Type 0} (f : X → Option Y) (g : X → Option Z) (p : Y → Bool) (q : Z → Bool) (xs : List X)
    → list_all (λ x. option_map_or p (f x) true && option_map_or q (g x) true) xs ≡ all_hold (map p (filter_map f xs) ++ map q (filter_map g xs))
each_of_both f g p q xs =
    both_everywhere (λ x. option_map_or p (f x) true) (λ x. option_map_or q (g x) true) xs
    ∙ ap (λ b. b && list_all (λ x. option_map_or q (g x) true) xs) (each_holds f p xs)
    ∙ ap (λ b. all_hold (map p (filter_map f xs)) && b) (each_holds g q xs)
    ∙ sym (both_lists (map p (filter_map f xs)) (map q (filter_map g xs)))

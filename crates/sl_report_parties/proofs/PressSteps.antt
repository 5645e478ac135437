-- The parties of a press report, one party more, and in their order.
use Rattle.std.proofs.Common.{◌≡◌, ℕ, ◌+◌, ◌≤◌, Bool, false, not, List, [], ◌∷◌, ◌++◌, arith, ap, filter, map, sym, ◌∙◌}
use Rattle.std.specs.Borrow.{Bor}
use Rattle.std.specs.Fn.{Called, Mut}
use Rattle.std.specs.List.Sorted.{IsPermutation, IsSortedByClosure, IsStableByClosure, ties}
use Rattle.std.specs.List.{range_with_len}
use Rattle.std.specs.Ordering.{is_lt, nat_cmp}
use Rattle.std.specs.declared.cmp.Ordering.{Ordering}
use Rattle.std.proofs.Math.Bool.{and_comm}
use Rattle.std.proofs.lemmas.Bool.Decides.{nat_tests}
use Rattle.std.proofs.lemmas.Cmp.{nat_cmp_total}
use Rattle.std.proofs.lemmas.List.Elements.{filter-append}
use Rattle.std.proofs.lemmas.List.FromFn.{map-range_with_len_more}
use Rattle.std.proofs.lemmas.List.Sorted.{IsStrictWeakOrder-flip, answers_always, ranks_by}
use Rattle.sl_report_parties.specs.Press.{AreByGreatest}

-- one number more, if it passes
pub kept_number : {X : Type 0} (f : ℕ → X) (p : X → Bool) (n : ℕ) (xs ys : List X) (x : X) → xs ≡ filter p (map f (range_with_len 0 n)) → ys ≡ xs ++ filter p (x ∷ []) → x ≡ f n →
    ys ≡ filter p (map f (range_with_len 0 (n + 1)))
kept_number f p n xs ys x so_far pushed here =
    pushed ∙ ap (λ zs. zs ++ filter p (x ∷ [])) so_far ∙ ap (λ y. filter p (map f (range_with_len 0 n)) ++ filter p (y ∷ [])) here
    ∙ sym (ap (filter p) (map-range_with_len_more f 0 n n (omega arith)) ∙ filter-append p (map f (range_with_len 0 n)) (f n ∷ []))

same_ties : {A : Type 0} (number : A → ℕ) (x : A) → ties (λ x y. is_lt (nat_cmp (number y) (number x))) x ≡ ties (λ x y. is_lt (nat_cmp (number x) (number y))) x
same_ties number x = λ i y. and_comm (not (is_lt (nat_cmp (number y) (number x)))) (not (is_lt (nat_cmp (number x) (number y)))) i

not_less : (a b : ℕ) → is_lt (nat_cmp a b) ≡ false → b ≤ a
not_less a b h = grind (arith, nat_tests)

-- a stable sort by a closure that compares the numbers of two, the second with the first
pub greatest_first : {A F : Type 0} {g : Mut F (Bor A × (Bor A × Unit {0})) Ordering} {f : F} (number : A → ℕ) (before after : List A) → IsPermutation before after →
    IsSortedByClosure g f after → IsStableByClosure g f before after →
    ((f : F) (a : Bor A × (Bor A × Unit {0})) (r : Ordering) (f' : F) → Called g f a r f' → r ≡ nat_cmp (number a.1.0.now) (number a.0.now)) → AreByGreatest number before after
greatest_first {g = g} {f = f} number before after moved down stable compared =
    let order = IsStrictWeakOrder-flip _ (ranks_by nat_cmp_total number) in
    let compares = answers_always g (λ a r. is_lt r ≡ is_lt (nat_cmp (number a.1.0.now) (number a.0.now))) f (λ f a r g h. ap is_lt (compared f a r g h)) in
    record {
      all = moved;
      order = λ k d less. not_less _ _ (down _ order compares k d (omega arith) less);
      ties = λ x. ap (λ p. filter p after) (sym (same_ties number x)) ∙ stable _ order compares x ∙ ap (λ p. filter p before) (same_ties number x);
    }

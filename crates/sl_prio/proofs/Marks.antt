-- Marks of the names of a lot so far, and of the indexes of several entries, which are apart where each was still to be marked.
use Rattle.std.proofs.Common.{◌≡◌, ℕ, ◌+◌, ◌<◌, ◌≤◌, ◌||◌, Bool, true, false, cond, List, ◌∷◌, ◌++◌, nat_eq, length, get_or, take, Some, slice_get, count_by, refl, sym, ap, subst, ◌∙◌, arith}
use Rattle.std.proofs.lemmas.Bool.{eqb-true, false_from_ne_true, true≢false}
use Rattle.std.proofs.lemmas.List.Folds.{list_any_more, list_any-append}
use Rattle.std.proofs.lemmas.List.Sums.{sum_by-append}
use Rattle.std.proofs.lemmas.Option.{get_or_from_slice_get, slice_get_within}
use Rattle.sl_base_quotients.specs.declared.entry.Entry.{Entry}
use Rattle.sl_prio.specs.inner.Marks.{AreApartFrom, AreMarks, names, have_index}
use Rattle.sl_base_rankings.proofs.Finding.{any-at, count_by-cons, count_by-none}

or_assoc : (a b c : Bool) → ((a || b) || c) ≡ (a || (b || c))
or_assoc true b c = refl
or_assoc false b c = refl

-- one more name of a lot is marked
pub one_more_marked : (lot : List ℕ) (marks : List Bool) (k : ℕ) → k < length lot
    → AreMarks (λ index. names (take k lot) index || nat_eq (get_or lot k 0) index) marks → AreMarks (names (take (k + 1) lot)) marks
one_more_marked lot marks k within held index d bound = held index d bound ∙ sym (list_any_more (λ name. nat_eq name index) lot k 0 within)

-- an entry's index is marked, then those of some others, and then those of more
pub all_marked : (before : ℕ → Bool) (x : Entry) (xs ys : List Entry) (marks : List Bool)
    → AreMarks (λ index. ((before index || nat_eq x.index index) || have_index xs index) || have_index ys index) marks → AreMarks (λ index. before index || have_index (x ∷ (xs ++ ys)) index) marks
all_marked before x xs ys marks held index d bound =
    let here = nat_eq x.index index in
    let left = have_index xs index in
    let right = have_index ys index in
    held index d bound ∙ or_assoc (before index || here) left right ∙ or_assoc (before index) here (left || right) ∙
    ap (λ (b : Bool). before index || (here || b)) (sym (list_any-append (λ y. nat_eq y.index index) xs ys))

-- none of some entries has an index, counted
pub none_has : (xs : List Entry) (index : ℕ) → have_index xs index ≡ false → count_by (λ x. nat_eq x.index index) xs ≡ 0
none_has xs index none =
    count_by-none (λ x. nat_eq x.index index) xs (λ y c. false_from_ne_true (nat_eq y.index index) (λ t. true≢false (sym (any-at (λ x. nat_eq x.index index) xs y c t) ∙ none)))

-- an index whose mark is still to be given is none of those that are marked
pub fresh_before : (before : ℕ → Bool) (marks : List Bool) (index : ℕ) → AreMarks before marks → slice_get marks index ≡ Some false → before index ≡ false
fresh_before before marks index held at = sym (held index false (slice_get_within marks index false at)) ∙ get_or_from_slice_get marks index false false at

tally : (a b h : Bool) (m n : ℕ) → (b ≡ true → a ≡ false) → (h ≡ false → m ≡ 0) → cond (a || b) 1 0 + m ≤ 1 → cond ((a || b) || h) 1 0 + n ≤ 1 → cond a 1 0 + (cond b 1 0 + (m + n)) ≤ 1
tally true true h m n clash none left right = absurd (true≢false (clash refl))
tally true false h m n clash none left right = omega arith
tally false true h m n clash none left right = omega arith
tally false false true m n clash none left right = omega arith
tally false false false m n clash none left right = let zero = none refl in omega (arith, zero)

-- an entry is apart from those before, then some others from these, and then more
pub all_apart : (before : ℕ → Bool) (x : Entry) (xs ys : List Entry) → before x.index ≡ false → AreApartFrom (λ index. before index || nat_eq x.index index) xs
    → AreApartFrom (λ index. (before index || nat_eq x.index index) || have_index xs index) ys → AreApartFrom before (x ∷ (xs ++ ys))
all_apart before x xs ys fresh left right = λ index.
    let p = λ (y : Entry). nat_eq y.index index in
    let first = count_by-cons p x (xs ++ ys) in
    let parts = sum_by-append (λ (y : Entry). cond (p y) 1 0) xs ys in
    let sum = tally (before index) (nat_eq x.index index) (have_index xs index) (count_by p xs) (count_by p ys)
    (λ t. subst (λ n. before n ≡ false) (eqb-true x.index index t) fresh) (none_has xs index) (left index) (right index) in
    omega (arith, first, parts, sum)

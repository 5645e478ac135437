-- The greatest of a list of entries by a total order in which none but equal entries tie.
use Rattle.std.proofs.Common.{◌≡◌, true, false, List, [], ◌∷◌, Option, Some, None, All, Contains, IsPermutation, refl, sym, ap, subst, inl, inr}
use Rattle.std.specs.Cmp.{IsTotalOrder}
use Rattle.std.specs.List.{list_all}
use Rattle.std.specs.declared.cmp.Ordering.{Ordering}
use Rattle.std.specs.declared.cmp.Ordering.TheVariants.{Less, Equal, Greater}
use Rattle.std.specs.Ordering.{is_le, is_gt, ordering_reverse}
use Rattle.std.proofs.lemmas.Bool.{cases_Bool}
use Rattle.std.proofs.lemmas.Cmp.{upto, tied_itself}
use Rattle.std.proofs.lemmas.List.Elements.{All-cons, All-nil, All-weaker}
use Rattle.std.proofs.lemmas.List.Sorted.{All-permutation, Contains-permutation, IsPermutation-sym}
use Rattle.std.proofs.lemmas.List.Sums.{AllPass-from_list_all, list_all-from_AllPass}
use Rattle.sl_base_quotients.specs.declared.entry.Entry.{Entry}
use Rattle.sl_base_rankings.specs.Ranking.{greatest}
use Rattle.sl_base_rankings.proofs.Finding.{Contains-head, Contains-tail, Contains-none, All-at, find-Some, find-only}

-- ---- answers of a comparison
pub not_gt : (r : Ordering) → is_le r ≡ true → is_gt r ≡ false
not_gt Less h = refl
not_gt Equal h = refl
not_gt Greater h = cc

pub le_not_gt : (r : Ordering) → is_gt r ≡ false → is_le r ≡ true
le_not_gt Less h = refl
le_not_gt Equal h = refl
le_not_gt Greater h = cc

pub le_reverse : (r s : Ordering) → r ≡ ordering_reverse s → is_gt r ≡ true → is_le s ≡ true
le_reverse Less s e h = cc
le_reverse Equal s e h = cc
le_reverse Greater Less e h = refl
le_reverse Greater Equal e h = cc
le_reverse Greater Greater e h = cc

pub both_le : (r s : Ordering) → r ≡ ordering_reverse s → is_le r ≡ true → is_le s ≡ true → r ≡ Equal
both_le Equal s e h k = refl
both_le Less Less e h k = cc
both_le Less Equal e h k = cc
both_le Less Greater e h k = cc
both_le Greater s e h k = cc

-- an order of entries by which none but equal entries tie
pub record IsEntryOrder (cmp : Entry → Entry → Ordering) : Type 0 where
  pub total : IsTotalOrder cmp
  pub ties : (x y : Entry) → cmp x y ≡ Equal → x ≡ y

-- x is no greater than y
abbrev pub AtMost : (Entry → Entry → Ordering) → Entry → Entry → Type 0
AtMost cmp y x = is_le (cmp x y) ≡ true

module _ (cmp : Entry → Entry → Ordering) (o : IsEntryOrder cmp) where
  pub AtMost-self : (x : Entry) → AtMost cmp x x
  AtMost-self x = ap is_le (tied_itself o.total x)

  pub AtMost-trans : (x y z : Entry) → is_le (cmp x y) ≡ true → is_le (cmp y z) ≡ true → is_le (cmp x z) ≡ true
  AtMost-trans x y z h k = le_not_gt (cmp x z) (upto o.total x y z (not_gt (cmp x y) h) (not_gt (cmp y z) k))

  pub AtMost-both : (x y : Entry) → is_le (cmp x y) ≡ true → is_le (cmp y x) ≡ true → x ≡ y
  AtMost-both x y h k = o.ties x y (both_le (cmp x y) (cmp y x) (o.total.antisymm x y) h k)

  pub AtMost-other : (x y : Entry) → is_gt (cmp x y) ≡ true → is_le (cmp y x) ≡ true
  AtMost-other x y h = le_reverse (cmp x y) (cmp y x) (o.total.antisymm x y) h

  pub greatest-is : (xs : List Entry) (x : Entry) → Contains xs x → All (AtMost cmp x) xs → greatest cmp xs ≡ Some x
  greatest-is xs x here most =
      find-only (λ entry. list_all (λ other. is_le (cmp other entry)) xs) xs x here
      (list_all-from_AllPass (λ other. is_le (cmp other x)) xs most)
      (λ y c t. AtMost-both y x (All-at (AtMost cmp x) xs y most c) (All-at (AtMost cmp y) xs x (AllPass-from_list_all (λ other. is_le (cmp other y)) xs t) here))

  pub greatest-Some : (xs : List Entry) (x : Entry) → greatest cmp xs ≡ Some x → Contains xs x × All (AtMost cmp x) xs
  greatest-Some xs x h =
      let r = find-Some (λ entry. list_all (λ other. is_le (cmp other entry)) xs) xs x h in
      (r.0, AllPass-from_list_all (λ other. is_le (cmp other x)) xs r.1)

  has_greatest : (x : Entry) (xs : List Entry) → (m : Entry) × Contains (x ∷ xs) m × All (AtMost cmp m) (x ∷ xs)
  has_greatest x [] = (x, Contains-head x [], All-cons (AtMost cmp x) x [] (AtMost-self x) (All-nil (AtMost cmp x)))
  has_greatest x (y ∷ ys) =
      let r = has_greatest y ys in
      elim (cases_Bool (is_gt (cmp x r.0))) [
        | inl t ↦
            let below = All-weaker (AtMost cmp r.0) (AtMost cmp x) (λ z h. AtMost-trans z r.0 x h (AtMost-other x r.0 t)) (y ∷ ys) r.2 in
            (x, Contains-head x (y ∷ ys), All-cons (AtMost cmp x) x (y ∷ ys) (AtMost-self x) below)
        | inr f ↦ (r.0, Contains-tail x (y ∷ ys) r.0 r.1, All-cons (AtMost cmp r.0) x (y ∷ ys) (le_not_gt (cmp x r.0) f) r.2)
      ]

  pub greatest-None : (xs : List Entry) → greatest cmp xs ≡ None → xs ≡ []
  greatest-None [] h = refl
  greatest-None (x ∷ xs) h =
      let r = has_greatest x xs in
      let e = greatest-is (x ∷ xs) r.0 r.1 r.2 in
      cc

  alike : (xs ys : List Entry) (r : Option Entry) → greatest cmp xs ≡ r → IsPermutation xs ys → greatest cmp ys ≡ r
  alike xs [] None h p = refl
  alike xs (y ∷ ys) None h p =
      let e : xs ≡ [] = greatest-None xs h in
      let c = Contains-permutation (y ∷ ys) xs y (IsPermutation-sym xs (y ∷ ys) p) (Contains-head y ys) in
      absurd (Contains-none y (subst (λ (zs : List Entry). Contains zs y) e c))
  alike xs ys (Some x) h p =
      let r = greatest-Some xs x h in
      greatest-is ys x (Contains-permutation xs ys x p r.0) (All-permutation (AtMost cmp x) xs ys p r.1)

  pub greatest-permutation : (xs ys : List Entry) → IsPermutation xs ys → greatest cmp xs ≡ greatest cmp ys
  greatest-permutation xs ys p = sym (alike xs ys (greatest cmp xs) refl p)

-- The entries of a table but for the greatest.
use Rattle.std.proofs.Common.{◌≡◌, ℕ, Bool, false, All, set, List, [], ◌∷◌, length, Option, Some, None, IfSome, IfNone, Contains, IsPermutation, refl, sym, ap, subst, ◌∙◌, inl, inr, arith}
use Rattle.std.specs.Option.{option_map_or}
use Rattle.std.proofs.lemmas.Bool.{cases_Bool, true≢false}
use Rattle.std.proofs.lemmas.List.Elements.{All-cons, All-tail}
use Rattle.std.proofs.lemmas.List.Sorted.{IsPermutation-cons, IsPermutation-middle, IsPermutation-refl, IsPermutation-sym, IsPermutation-trans}
use Rattle.sl_base_quotients.specs.declared.entry.Entry.{Entry}
use Rattle.sl_base_quotients.specs.Entry.{entry_cmp}
use Rattle.sl_base_quotients.specs.Quotient.{FitsRatio}
use Rattle.sl_base_rankings.specs.Peers.{top, peers}
use Rattle.sl_base_rankings.specs.Ranking.{same_entry, without}
use Rattle.sl_prio.specs.inner.Heap.{AreCounted, IsHeap, IsKept}
use Rattle.sl_prio.specs.inner.Taken.{without_top}
use Rattle.sl_base_rankings.proofs.Finding.{Contains-cases, Contains-none}
use Rattle.sl_base_rankings.proofs.Greatest.{greatest-None}
use Rattle.sl_prio.proofs.Heaps.{kept_by, top_first}
use Rattle.sl_base_rankings.proofs.LawProofs.{left_alike}
use Rattle.sl_base_rankings.proofs.Orders.{entry_order, same_entry-is}
use Rattle.sl_base_rankings.proofs.RankedEntries.{same_itself}
use Rattle.sl_base_rankings.proofs.Tables.{top-Contains}

-- two entries in front, the other one first
flipped : (x y : Entry) (xs : List Entry) → IsPermutation (y ∷ x ∷ xs) (x ∷ y ∷ xs)
flipped x y xs = IsPermutation-middle (y ∷ []) x xs

-- an entry in front of the others
leaves : (x : Entry) (xs : List Entry) → Contains xs x → IsPermutation xs (x ∷ without x xs)
leaves x [] h = absurd (Contains-none x h)
leaves x (y ∷ ys) h =
    elim (cases_Bool (same_entry x y)) [
      | inl t ↦ rw t (subst (λ (z : Entry). IsPermutation (y ∷ ys) (z ∷ ys)) (sym (same_entry-is x y t)) (IsPermutation-refl (y ∷ ys)))
      | inr f ↦ rw f (elim (Contains-cases y ys x h) [
        | inl e ↦ absurd (true≢false (sym (same_itself x) ∙ ap (same_entry x) (sym e) ∙ f))
        | inr c ↦ IsPermutation-trans (y ∷ ys) (y ∷ x ∷ without x ys) (x ∷ y ∷ without x ys) (IsPermutation-cons y ys (x ∷ without x ys) (leaves x ys c)) (flipped x y (without x ys))
      ])
    ]

-- the top in front of the others
top_leaves : (xs : List Entry) (x : Entry) → top xs ≡ Some x → IsPermutation xs (x ∷ without_top xs)
top_leaves xs x h = subst (λ (o : Option Entry). IsPermutation xs (x ∷ option_map_or (λ first. without first xs) o [])) (sym h) (leaves x xs (top-Contains xs x h))

no_top : (xs : List Entry) → top xs ≡ None → without_top xs ≡ []
no_top xs h = ap (λ (o : Option Entry). option_map_or (λ first. without first xs) o []) h

no_entry : (xs : List Entry) → top xs ≡ None → xs ≡ []
no_entry xs h = greatest-None entry_cmp entry_order xs h

-- a top that is taken leaves the others
pub top_goes : (xs ys : List Entry) (o : Option Entry) → o ≡ top xs → IfSome o (λ x. IsPermutation xs (x ∷ ys)) → IfNone o (ys ≡ xs) → IsPermutation (without_top xs) ys
top_goes xs ys (Some x) is rest none =
    left_alike x (without_top xs) ys (IsPermutation-trans (x ∷ without_top xs) xs (x ∷ ys) (IsPermutation-sym xs (x ∷ without_top xs) (top_leaves xs x (sym is))) rest)
top_goes xs ys None is rest none =
    let same : without_top xs ≡ ys = no_top xs (sym is) ∙ sym (no_entry xs (sym is)) ∙ sym none in
    subst (λ (zs : List Entry). IsPermutation (without_top xs) zs) same (IsPermutation-refl (without_top xs))

-- a top that is taken and stays where it is
pub top_stays : (xs ys : List Entry) (o : Option Entry) → o ≡ top ys → IsPermutation xs ys → IfSome o (λ x. IsPermutation xs (x ∷ without_top ys))
top_stays xs ys (Some x) is same = IsPermutation-trans xs ys (x ∷ without_top ys) same (top_leaves ys x (sym is))
top_stays xs ys None is same = tt

pub none_stays : (xs ys : List Entry) (o : Option Entry) → o ≡ top ys → IsPermutation xs ys → IfNone o (IsPermutation xs (without_top ys))
none_stays xs ys (Some x) is same = tt
none_stays xs ys None is same =
    subst (λ (zs : List Entry). IsPermutation xs zs) (no_entry ys (sym is) ∙ sym (no_top ys (sym is))) same

-- an entry that comes in the place of the top joins the others
pub top_replaced : (xs ys : List Entry) (x : Entry) → IfSome (top xs) (λ first. IsPermutation (x ∷ xs) (first ∷ ys)) → (o : Option Entry) → top xs ≡ o → IfSome o (λ first. IsPermutation (x ∷ without_top xs) ys)
top_replaced xs ys x h None is = tt
top_replaced xs ys x h (Some first) is =
    let others = without_top xs in
    let both : IsPermutation (x ∷ xs) (first ∷ ys) = subst (λ (o : Option Entry). IfSome o (λ first. IsPermutation (x ∷ xs) (first ∷ ys))) is h in
    let apart : IsPermutation (x ∷ xs) (first ∷ x ∷ others) = IsPermutation-trans (x ∷ xs) (x ∷ first ∷ others) (first ∷ x ∷ others) (IsPermutation-cons x xs (first ∷ others) (top_leaves xs first is)) (flipped first x others) in
    left_alike first (x ∷ others) ys (IsPermutation-trans (first ∷ x ∷ others) (x ∷ xs) (first ∷ ys) (IsPermutation-sym (x ∷ xs) (first ∷ x ∷ others) apart) both)

some_peer : (xs : List Entry) → length (peers xs) ≡ 1 → top xs ≡ None → ⊥
some_peer xs one is =
    let none : length (peers xs) ≡ 0 = ap (λ (zs : List Entry). length (peers zs)) (no_entry xs is) in
    omega (arith, one, none)

one_peer : (xs : List Entry) (o : Option Entry) → top xs ≡ o → length (peers xs) ≡ 1 → (Q : Type 0) → IfSome o (λ first. Q) → Q
one_peer xs (Some x) is one Q q = q
one_peer xs None is one Q q = absurd (some_peer xs one is)

pub alone_replaced : (xs ys : List Entry) (x : Entry) → length (peers xs) ≡ 1 → IfSome (top xs) (λ first. IsPermutation (x ∷ xs) (first ∷ ys)) → IsPermutation (x ∷ without_top xs) ys
alone_replaced xs ys x one h = one_peer xs (top xs) refl one (IsPermutation (x ∷ without_top xs) ys) (top_replaced xs ys x h (top xs) refl)

-- ---- what is taken from the same entries

module _ {T : Type 0} (entry_of : T → Entry) (xs ys zs : List Entry) (same : IsPermutation xs ys) where
  pub rest_alike : (o : Option T) → IfSome o (λ t. IsPermutation ys (entry_of t ∷ zs)) → IfSome o (λ t. IsPermutation xs (entry_of t ∷ zs))
  rest_alike (Some t) rest = IsPermutation-trans xs ys (entry_of t ∷ zs) same rest
  rest_alike None rest = tt

  pub none_alike : (o : Option T) → IfNone o (zs ≡ ys) → IfNone o (IsPermutation xs zs)
  none_alike (Some t) none = tt
  none_alike None none = subst (λ (ws : List Entry). IsPermutation xs ws) (sym none) same

-- ---- in a heap, in which the top stands first

pub first_replaced : (xs ys : List Entry) (x : Entry) → IsHeap xs → IsPermutation (set xs 0 x) ys → IfSome (top xs) (λ first. IsPermutation (x ∷ xs) (first ∷ ys))
first_replaced [] ys x heap moved = tt
first_replaced (z ∷ zs) ys x heap moved =
    subst (λ (o : Option Entry). IfSome o (λ first. IsPermutation (x ∷ z ∷ zs) (first ∷ ys))) (sym (top_first (z ∷ zs) heap z (omega arith) refl))
    (IsPermutation-trans (x ∷ z ∷ zs) (z ∷ x ∷ zs) (z ∷ ys) (flipped z x zs) (IsPermutation-cons z (x ∷ zs) ys moved))

pub kept_replaced : (xs ys : List Entry) (x : Entry) → FitsRatio x.ratio → All (λ entry. FitsRatio entry.ratio) xs → IsPermutation (set xs 0 x) ys → IsHeap ys → IsKept ys
kept_replaced [] ys x fits all moved heap = kept_by [] ys moved all heap
kept_replaced (z ∷ zs) ys x fits all moved heap =
    kept_by (x ∷ zs) ys moved (All-cons (λ entry. FitsRatio entry.ratio) x zs fits (All-tail (λ entry. FitsRatio entry.ratio) z zs all)) heap

-- none of them is marked
pub counted_again : (xs : List Entry) (count : ℕ) (marked : Bool) (marks : List Bool) → count ≡ length (peers xs) → marked ≡ false → AreCounted (peers xs) count marked marks
counted_again xs count marked marks n none = record {
  counted = n;
  apart = λ h. absurd (true≢false (sym h ∙ none));
  indexes = λ h. absurd (true≢false (sym h ∙ none));
}

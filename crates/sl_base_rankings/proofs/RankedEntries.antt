-- Rankings of lists into which an entry is put, from which one is taken, and which fall already.
use Rattle.std.proofs.Common.{◌≡◌, ◌+◌, suc, true, false, List, [], ◌∷◌, refl, sym, ap, subst, ◌∙◌, inl, inr, arith}
use Rattle.std.specs.Prelude.{slice_index_or}
use Rattle.std.specs.List.Sorted.{IsSorted}
use Rattle.std.specs.declared.cmp.Ordering.{Ordering}
use Rattle.std.specs.declared.cmp.Ordering.TheVariants.{Less, Equal, Greater}
use Rattle.std.specs.Ordering.{is_lt, is_gt, is_le, flip_args, ordering_reverse}
use Rattle.std.proofs.lemmas.Bool.{cases_Bool, false_from_ne_true, true≢false}
use Rattle.std.proofs.lemmas.Cmp.{tied_itself}
use Rattle.std.proofs.lemmas.List.Elements.{All-cons, All-nil, All-weaker}
use Rattle.sl_base_quotients.specs.declared.entry.Entry.{Entry}
use Rattle.sl_base_quotients.specs.Entry.{entry_cmp}
use Rattle.sl_base_quotients.specs.inner.EntryLaws.{entry_total}
use Rattle.sl_base_rankings.specs.Ranking.{insert_ranked, ranked, same_entry, without}
use Rattle.sl_base_rankings.specs.Laws.{RankedAlike, RankedWithOneMore, RankedWithoutOne, FallingRankings}
use Rattle.sl_base_rankings.proofs.Greatest.{AtMost, AtMost-trans}
use Rattle.sl_base_rankings.proofs.Orders.{entry_order, same_entry-is}
use Rattle.sl_base_rankings.proofs.Rankings.{Falls, counts_alike, ranked-unique}
use Rattle.sl_base_rankings.proofs.Fronts.{ranked-falling}

pub ranked_alike : RankedAlike
ranked_alike xs ys h = ranked-unique entry_order xs ys (counts_alike xs ys h)

pub ranked_with_one_more : RankedWithOneMore
ranked_with_one_more entry xs ys h = sym (ranked_alike (entry ∷ xs) ys h)

-- ---- an entry that is taken out

pub same_itself : (x : Entry) → same_entry x x ≡ true
same_itself x = grind (arith)

not_same : (x y : Entry) → is_gt (entry_cmp y x) ≡ true → same_entry x y ≡ false
not_same x y h = false_from_ne_true _ (λ e.
    let above : is_gt (entry_cmp x x) ≡ true = subst (λ (z : Entry). is_gt (entry_cmp z x) ≡ true) (sym (same_entry-is x y e)) h in
    true≢false (sym above ∙ ap is_gt (tied_itself entry_total x)))

without_inserted : (x : Entry) (ys : List Entry) → without x (insert_ranked x ys) ≡ ys
without_inserted x [] = rw (same_itself x) refl
without_inserted x (y ∷ ys) =
    elim (cases_Bool (is_gt (entry_cmp y x))) [
      | inl t ↦ rw t (rw (not_same x y t) (ap (λ zs. y ∷ zs) (without_inserted x ys)))
      | inr f ↦ rw f (rw (same_itself x) refl)
    ]

pub ranked_without_one : RankedWithoutOne
ranked_without_one entry xs ys h = ap (without entry) (ranked_alike xs (entry ∷ ys) h) ∙ without_inserted entry (ranked ys)

-- ---- lists that fall

at_most : (r s : Ordering) → r ≡ ordering_reverse s → is_lt r ≡ false → is_le s ≡ true
at_most Less s e h = cc
at_most Equal Less e h = cc
at_most Equal Equal e h = refl
at_most Equal Greater e h = cc
at_most Greater Less e h = refl
at_most Greater Equal e h = cc
at_most Greater Greater e h = cc

sorted-falls : (xs : List Entry) → IsSorted (flip_args entry_cmp) xs → Falls xs
sorted-falls [] h = tt
sorted-falls (x ∷ []) h = (All-nil (AtMost entry_cmp x), tt)
sorted-falls (x ∷ y ∷ ys) h =
    let rest = sorted-falls (y ∷ ys) (λ k d low l.
    let e : suc k + 1 ≡ suc (k + 1) = omega arith in
    subst (λ n. is_lt (flip_args entry_cmp (slice_index_or (x ∷ y ∷ ys) n d) (slice_index_or (y ∷ ys) k d)) ≡ false) e (h (suc k) d (omega arith) (omega arith))) in
    let first : is_le (entry_cmp y x) ≡ true = at_most (entry_cmp x y) (entry_cmp y x) (entry_total.antisymm x y) (h 0 x (omega arith) (omega arith)) in
    (All-cons (AtMost entry_cmp x) y ys first (All-weaker (AtMost entry_cmp y) (AtMost entry_cmp x) (λ z k. AtMost-trans entry_cmp entry_order z y x k first) ys rest.0), rest)

pub falling_rankings : FallingRankings
falling_rankings xs h = ranked-falling xs (sorted-falls xs h)

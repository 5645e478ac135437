-- The lot of a stage, one lot more.
use Rattle.std.proofs.Common.{◌≡◌, ℕ, ◌+◌, ◌<◌, Bool, true, false, not, ◌||◌, List, [], ◌∷◌, ◌++◌, Option, Some, None, filter, filter_map, get_or, length, take, refl, sym, ap, subst, ◌∙◌, inl, inr, eqb-true}
use Rattle.std.specs.List.{list_any}
use Rattle.std.specs.Option.{option_to_list}
use Rattle.std.specs.Prelude.{if◌then◌else◌, nat_eq, slice_get}
use Rattle.std.specs.Str.{bytes_eq}
use Rattle.std.proofs.lemmas.Bool.{cases_Bool}
use Rattle.std.proofs.lemmas.List.{append-nil, take_more}
use Rattle.std.proofs.lemmas.List.Elements.{filter-append, filter_map-append}
use Rattle.sl_base_terms.specs.declared.shape.Shape.{Shape}
use Rattle.sl_law_meaning.specs.declared.fault.Item.{Item}
use Rattle.sl_law_meaning.specs.declared.election.Lot.{Lot}
use Rattle.sl_law_meaning.specs.meaning.Lots.{first_mentions, given_entry}
use Rattle.sl_report_parties.proofs.Steps.{filter_next}
use Rattle.sl_report_results.specs.inner.Drawn.{given_by, with_first}

-- ---- numbers where they stand first

-- what is left without a number has another one just as before
any_kept : (x n : ℕ) → nat_eq x n ≡ false → (ms : List ℕ) → list_any (λ m. nat_eq m n) (filter (λ m. not (nat_eq x m)) ms) ≡ list_any (λ m. nat_eq m n) ms
any_kept x n apart [] = refl
any_kept x n apart (m ∷ ms) =
    let rest = any_kept x n apart ms in
    elim (cases_Bool (nat_eq x m)) [
      | inl t ↦
          let off : nat_eq m n ≡ false = subst (λ k. nat_eq k n ≡ false) (eqb-true x m t) apart in
          rw (t, off) rest
      | inr f ↦ rw f (ap (λ b. nat_eq m n || b) rest)
    ]

filter_one : (x n : ℕ) (ms : List ℕ) (b : Bool) → nat_eq x n ≡ true → filter (λ m. not (nat_eq x m)) (if b then ms else ms ++ n ∷ []) ≡ filter (λ m. not (nat_eq x m)) ms
filter_one x n ms true same = refl
filter_one x n ms false same =
    filter-append (λ m. not (nat_eq x m)) ms (n ∷ []) ∙ rw same (append-nil (filter (λ m. not (nat_eq x m)) ms))

filter_both : (x n : ℕ) (ms : List ℕ) (b : Bool) → nat_eq x n ≡ false →
    x ∷ filter (λ m. not (nat_eq x m)) (if b then ms else ms ++ n ∷ []) ≡ (if b then x ∷ filter (λ m. not (nat_eq x m)) ms else (x ∷ filter (λ m. not (nat_eq x m)) ms) ++ n ∷ [])
filter_both x n ms true apart = refl
filter_both x n ms false apart = ap (λ ns. x ∷ ns) (filter-append (λ m. not (nat_eq x m)) ms (n ∷ []) ∙ rw apart refl)

behind_first : (x n : ℕ) (ms : List ℕ) → x ∷ filter (λ m. not (nat_eq x m)) (with_first ms n) ≡ with_first (x ∷ filter (λ m. not (nat_eq x m)) ms) n
behind_first x n ms =
    elim (cases_Bool (nat_eq x n)) [
      | inl t ↦ ap (λ ns. x ∷ ns) (filter_one x n ms (list_any (λ m. nat_eq m n) ms) t) ∙ rw t refl
      | inr f ↦
          let left = filter (λ m. not (nat_eq x m)) ms in
          let has : list_any (λ m. nat_eq m n) (x ∷ left) ≡ list_any (λ m. nat_eq m n) ms = rw f (any_kept x n f ms) in
          filter_both x n ms (list_any (λ m. nat_eq m n) ms) f ∙ ap (λ (b : Bool). if b then x ∷ left else (x ∷ left) ++ n ∷ []) (sym has)
    ]

mentions_more : (xs : List ℕ) (n : ℕ) → first_mentions (xs ++ n ∷ []) ≡ with_first (first_mentions xs) n
mentions_more [] n = refl
mentions_more (x ∷ xs) n = ap (λ ms. x ∷ filter (λ m. not (nat_eq x m)) ms) (mentions_more xs n) ∙ behind_first x n (first_mentions xs)

-- ---- what lots give, one lot more

pub given_more : (name : List ℕ) (votes : Shape) (lots : List Lot) (k : ℕ) (l : Lot) (before after : List Item) → slice_get lots k ≡ Some l → before ≡ given_by name votes (take k lots) → after ≡ before ++ given_by name votes (l ∷ []) →
    after ≡ given_by name votes (take (k + 1) lots)
given_more name votes lots k l before after there so_far pushed =
    pushed ∙ ap (λ gs. gs ++ given_by name votes (l ∷ [])) so_far
    ∙ sym (ap (filter_map (given_entry votes)) (filter_next (λ l. bytes_eq name l.stage) lots k l there)
    ∙ filter_map-append (given_entry votes) (filter (λ l. bytes_eq name l.stage) (take k lots)) (filter (λ l. bytes_eq name l.stage) (l ∷ [])))

-- ---- what is drawn, one entry more

module _ (number : Item → Option ℕ) where
  of_one : (i : Item) (o : Option ℕ) → number i ≡ o → filter_map number (i ∷ []) ≡ option_to_list o
  of_one i None at = rw at refl
  of_one i (Some n) at = rw at refl

  numbers_more : (given : List Item) (k : ℕ) (d : Item) (o : Option ℕ) → k < length given → number (get_or given k d) ≡ o → filter_map number (take (k + 1) given) ≡ filter_map number (take k given) ++ option_to_list o
  numbers_more given k d o less is =
      ap (filter_map number) (take_more given k d less) ∙ filter_map-append number (take k given) (get_or given k d ∷ [])
      ∙ ap (λ ns. filter_map number (take k given) ++ ns) (of_one (get_or given k d) o is)

  -- an entry that has a number, and one that has none
  pub item_more : (given : List Item) (k : ℕ) (d : Item) (n : ℕ) → k < length given → number (get_or given k d) ≡ Some n →
      first_mentions (filter_map number (take (k + 1) given)) ≡ with_first (first_mentions (filter_map number (take k given))) n
  item_more given k d n less is = ap first_mentions (numbers_more given k d (Some n) less is) ∙ mentions_more (filter_map number (take k given)) n

  pub none_more : (given : List Item) (k : ℕ) (d : Item) → k < length given → number (get_or given k d) ≡ None →
      first_mentions (filter_map number (take (k + 1) given)) ≡ first_mentions (filter_map number (take k given))
  none_more given k d less is = ap first_mentions (numbers_more given k d None less is ∙ append-nil (filter_map number (take k given)))

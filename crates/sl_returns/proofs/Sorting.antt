-- Records, sorted by their kinds.
use Rattle.std.proofs.Common.{◌≡◌, ℕ, Bool, true, false, cond, List, [], ◌∷◌, ◌++◌, Some, refl, ap, subst, ◌∙◌}
use Rattle.std.specs.List.{find}
use Rattle.std.specs.Str.{bytes_eq}
use Rattle.std.proofs.lemmas.List.{append-nil}
use Rattle.std.proofs.lemmas.List.Elements.{filter-append}
use Rattle.std.proofs.lemmas.Option.{none-some, same_Some}
use Rattle.std.proofs.lemmas.Slice.Eq.{bytes_eq-Decides}
use Rattle.sl_returns.specs.declared.schema.TheConstants.{KIND}
use Rattle.sl_returns.specs.declared.schema.Kind.{Kind}
use Rattle.sl_returns.specs.declared.schema.Kind.TheVariants as kind
use Rattle.sl_returns.specs.Cells.{Record, cell}
use Rattle.sl_returns.specs.Schema.{word_of, kind_named, kinds}
use Rattle.sl_returns.specs.Records.{of_kind}
use Rattle.sl_returns.proofs.Growing.{Sorted}

-- a word that names a kind is the kind's
found_passes : {X : Type 0} (p : X → Bool) (xs : List X) (x : X) → find p xs ≡ Some x → p x ≡ true
found_passes p [] x h = absurd (none-some x h)
found_passes p (y ∷ xs) x h = go (p y) refl h (found_passes p xs x)
  where
    go : (b : Bool) → p y ≡ b → cond b (Some y) (find p xs) ≡ Some x → (find p xs ≡ Some x → p x ≡ true) → p x ≡ true
    go true e h more = subst (λ z. p z ≡ true) (same_Some y x h) e
    go false e h more = more h

word_is : (word : List ℕ) (k : Kind) → kind_named word ≡ Some k → word ≡ word_of k
word_is word k h = (bytes_eq-Decides word (word_of k)).0 (found_passes (λ k. bytes_eq word (word_of k)) kinds k h)

-- records, sorted
abbrev pub sorted : List Record → Sorted
sorted rs = record {
  houses = of_kind kind.House rs;
  lands = of_kind kind.Land rs;
  parties = of_kind kind.Party rs;
  lists = of_kind kind.List rs;
  winners = of_kind kind.Win rs;
  lots = of_kind kind.Lot rs;
}

-- a record joins those of the kind that its word names
abbrev joined : List ℕ → Kind → List Record → Record → List Record
joined word k rs r = cond (bytes_eq word (word_of k)) (rs ++ r ∷ []) rs

abbrev with_word : List ℕ → Sorted → Record → Sorted
with_word word s r = record {
  houses = joined word kind.House s.houses r;
  lands = joined word kind.Land s.lands r;
  parties = joined word kind.Party s.parties r;
  lists = joined word kind.List s.lists r;
  winners = joined word kind.Win s.winners r;
  lots = joined word kind.Lot s.lots r;
}

of_kind_push : (k : Kind) (rs : List Record) (r : Record) → of_kind k (rs ++ r ∷ []) ≡ joined (cell r KIND) k (of_kind k rs) r
of_kind_push k rs r = filter-append (λ x. bytes_eq (cell x KIND) (word_of k)) rs (r ∷ []) ∙ by (bytes_eq (cell r KIND) (word_of k))
  where
    by : (b : Bool) → of_kind k rs ++ cond b (r ∷ []) [] ≡ cond b (of_kind k rs ++ r ∷ []) (of_kind k rs)
    by true = refl
    by false = append-nil (of_kind k rs)

sorted_push : (rs : List Record) (r : Record) → sorted (rs ++ r ∷ []) ≡ with_word (cell r KIND) (sorted rs) r
sorted_push rs r =
    let a = of_kind_push kind.House rs r in
    let b = of_kind_push kind.Land rs r in
    let c = of_kind_push kind.Party rs r in
    let d = of_kind_push kind.List rs r in
    let f = of_kind_push kind.Win rs r in
    let g = of_kind_push kind.Lot rs r in
    cc

-- sorted records, with a record of a kind more
abbrev pub with_kind : Kind → Sorted → Record → Sorted
with_kind kind.House s r = record s { houses = s.houses ++ r ∷ [] }
with_kind kind.Land s r = record s { lands = s.lands ++ r ∷ [] }
with_kind kind.Party s r = record s { parties = s.parties ++ r ∷ [] }
with_kind kind.List s r = record s { lists = s.lists ++ r ∷ [] }
with_kind kind.Win s r = record s { winners = s.winners ++ r ∷ [] }
with_kind kind.Lot s r = record s { lots = s.lots ++ r ∷ [] }

by_word : (k : Kind) (s : Sorted) (r : Record) → with_word (word_of k) s r ≡ with_kind k s r
by_word kind.House s r = refl
by_word kind.Land s r = refl
by_word kind.Party s r = refl
by_word kind.List s r = refl
by_word kind.Win s r = refl
by_word kind.Lot s r = refl

pub sorted_with : (rs : List Record) (r : Record) (k : Kind) → kind_named (cell r KIND) ≡ Some k → sorted (rs ++ r ∷ []) ≡ with_kind k (sorted rs) r
sorted_with rs r k named = sorted_push rs r ∙ ap (λ word. with_word word (sorted rs) r) (word_is (cell r KIND) k named) ∙ by_word k (sorted rs) r

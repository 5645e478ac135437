-- Elements counted by their keys in a map, one after another.
use Rattle.std.proofs.Common.{◌≡◌, ℕ, ◌+◌, ◌<◌, ◌≤◌, false, List, length, take, get_or, count_by, sym, ap, ◌∙◌, inl, inr, arith}
use Rattle.std.specs.Prelude.{Bool, bytes_eq}
use Rattle.std.specs.HashMap.{HashMap}
use Rattle.std.proofs.lemmas.Bool.{cases_Bool, false_from_ne_true, true≢false}
use Rattle.std.proofs.lemmas.List.{length-take-le}
use Rattle.std.proofs.lemmas.List.Sums.{count_by_more_yes, count_by_more_no, count_by-le-length}
use Rattle.std.proofs.lemmas.Slice.Eq.{bytes_eq-Decides}
use Rattle.sl_count_texts.specs.inner.Counts.{count_of, CountsOne}

-- so many of the first elements have been counted
abbrev pub HasCounted : {X S : Type 0} → (X → List ℕ) → List X → HashMap (List ℕ) ℕ S → ℕ → Type 0
HasCounted key xs counts n = (q : List ℕ) → count_of counts q ≡ count_by (λ x. bytes_eq q (key x)) (take n xs)

module _ {X S : Type 0} (key : X → List ℕ) (xs : List X) (i : ℕ) where
  -- a key has been counted no more often than elements have been
  pub counts_fit : (counts : HashMap (List ℕ) ℕ S) (q : List ℕ) → i < length xs → HasCounted key xs counts i → count_of counts q ≤ i
  counts_fit counts q within counted =
      omega (arith, counted q, count_by-le-length (λ x. bytes_eq q (key x)) (take i xs), length-take-le i xs (omega arith))

  pub one_more : (before after : HashMap (List ℕ) ℕ S) (x : X) → i < length xs → get_or xs i x ≡ x → CountsOne before after (key x) → HasCounted key xs before i → HasCounted key xs after (i + 1)
  one_more before after x within here counts counted q =
      let has : X → Bool = λ y. bytes_eq q (key y) in
      elim (cases_Bool (bytes_eq (key x) q)) [
        | inl same ↦
            let one : key x ≡ q = (bytes_eq-Decides (key x) q).0 same in
            ap (count_of after) (sym one) ∙ counts.this_key ∙ ap (λ a. count_of before a + 1) one ∙ ap (λ a. a + 1) (counted q)
            ∙ sym (count_by_more_yes has xs i x within (ap has here ∙ (bytes_eq-Decides q (key x)).1 (sym one)))
        | inr other ↦
            let apart : has x ≡ false = false_from_ne_true (has x) (λ e. true≢false (sym ((bytes_eq-Decides (key x) q).1 (sym ((bytes_eq-Decides q (key x)).0 e))) ∙ other)) in
            counts.other_keys q other ∙ counted q ∙ sym (count_by_more_no has xs i x within (ap has here ∙ apart))
      ]

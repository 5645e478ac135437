-- Loops that write a line for each number from 0, or for each of those that pass a test.
use Rattle.std.proofs.Common.{◌≡◌, ℕ, ◌+◌, ◌<◌, ◌≤◌, Bool, true, false, List, [], ◌∷◌, ◌++◌, take, zero-add, refl, sym, ap, ◌∙◌, arith}
use Rattle.std.specs.List.{flat_map, filter, range_with_len}
use Rattle.std.proofs.lemmas.List.{map-id, flat_map_more}
use Rattle.std.proofs.lemmas.List.FromFn.{length-range_with_len, get_or-range_with_len}
use Rattle.sl_count_texts.specs.Lines.{Draft, with_lines}
use Rattle.sl_count_texts.proofs.LineLoops.{lines_more, lines_all}
use Rattle.sl_table.proofs.Pieces.{kept_more, kept_same}

module _ (f : ℕ → List ℕ) (d : Draft) where
  -- the lines of one more number
  pub numbers_more : (n i : ℕ) (now next : Draft) → i < n → now ≡ with_lines d (flat_map f (take i (range_with_len 0 n))) → next ≡ with_lines now (f i)
      → next ≡ with_lines d (flat_map f (take (i + 1) (range_with_len 0 n)))
  numbers_more n i now next within so_far written =
      lines_more f d (range_with_len 0 n) i i now next (omega (arith, length-range_with_len 0 n)) (get_or-range_with_len 0 n i i within ∙ zero-add i) so_far written

  -- the lines of all
  pub numbers_all : (n i : ℕ) (now : Draft) → n ≤ i → now ≡ with_lines d (flat_map f (take i (range_with_len 0 n))) → now ≡ with_lines d (flat_map f (range_with_len 0 n))
  numbers_all n i now past so_far = lines_all f d (range_with_len 0 n) i now (omega (arith, length-range_with_len 0 n)) so_far

-- one more number of those that pass a test, and one that does not
module _ (p : ℕ → Bool) (n : ℕ) where
  abbrev passing : List ℕ
  passing = filter p (range_with_len 0 n)

  one_passes : p n ≡ true → filter p (range_with_len 0 (n + 1)) ≡ passing ++ n ∷ []
  one_passes passes =
      sym (map-id (filter p (range_with_len 0 (n + 1))))
      ∙ sym (kept_more (λ k. k) p n [] passing (passing ++ n ∷ []) (sym (map-id passing)) n passes refl refl)

  one_fails : p n ≡ false → filter p (range_with_len 0 (n + 1)) ≡ passing
  one_fails fails =
      sym (map-id (filter p (range_with_len 0 (n + 1))))
      ∙ sym (kept_same (λ k. k) p n [] passing passing (sym (map-id passing)) fails refl)

module _ (f : ℕ → List ℕ) (p : ℕ → Bool) (d : Draft) (n : ℕ) (now next : Draft) (so_far : now ≡ with_lines d (flat_map f (filter p (range_with_len 0 n)))) where
  pub passing_more : p n ≡ true → next ≡ with_lines now (f n) → next ≡ with_lines d (flat_map f (filter p (range_with_len 0 (n + 1))))
  passing_more passes written =
      let joined : with_lines (with_lines d (flat_map f (filter p (range_with_len 0 n)))) (f n) ≡ with_lines d (flat_map f (filter p (range_with_len 0 n) ++ n ∷ [])) =
      ap (λ bytes. record { bytes = bytes; begun = false }) (flat_map_more f d.bytes (filter p (range_with_len 0 n)) n) in
      written ∙ ap (λ t. with_lines t (f n)) so_far ∙ joined ∙ ap (λ ys. with_lines d (flat_map f ys)) (sym (one_passes p n passes))

  pub passing_same : p n ≡ false → next ≡ now → next ≡ with_lines d (flat_map f (filter p (range_with_len 0 (n + 1))))
  passing_same fails same = same ∙ so_far ∙ ap (λ ys. with_lines d (flat_map f ys)) (sym (one_fails p n fails))

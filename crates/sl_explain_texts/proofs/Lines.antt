-- One place more, at which a line ends or does not: how many have ended, and where the last did. And the column of a place.
use Rattle.std.proofs.Common.{◌≡◌, ◌∙◌, ◌++◌, ◌∷◌, [], ℕ, ◌+◌, ◌-◌, Bool, List, None, Option, Some, true, false, cond, count_by, drop, take, arith, add-one, append-nil, refl, suc, sym, ap, unwrap_or}
use Rattle.std.specs.List.{filter, last_or, range_with_len}
use Rattle.std.specs.Option.{option_map}
use Rattle.sl_explain_texts.specs.Lines.{column_of, first_line, line_start, shown_count}
use Rattle.std.proofs.lemmas.List.{map-id}
use Rattle.std.proofs.lemmas.List.FromFn.{filter_of_map_range_with_len_more, sum_by-map-range_with_len_more}
use Rattle.std.proofs.lemmas.List.Sums.{sum-map}

last_of : {A : Type 0} (o : Option A) (xs : List A) (x : A) → last_or o (xs ++ x ∷ []) ≡ Some x
last_of o [] x = refl
last_of o (y ∷ xs) x = last_of (Some y) xs x

-- the place after the last of some places
abbrev after_last : List ℕ → ℕ
after_last places = unwrap_or (option_map suc (last_or None places)) 0

module _ (p : ℕ → Bool) (n : ℕ) where
  counted : count_by p (range_with_len 0 (n + 1)) ≡ count_by p (range_with_len 0 n) + cond {A = ℕ} (p n) 1 0
  counted =
      let one : ℕ → ℕ = λ k. cond (p k) 1 0 in
      sym (sum-map one (range_with_len 0 (n + 1)))
      ∙ sum_by-map-range_with_len_more (λ k. k) one 0 n n (omega arith)
      ∙ ap (λ t. t + one n) (sum-map one (range_with_len 0 n))

  pub counted_there : p n ≡ true → count_by p (range_with_len 0 (n + 1)) ≡ count_by p (range_with_len 0 n) + 1
  counted_there is = counted ∙ ap (λ (b : Bool). count_by p (range_with_len 0 n) + cond {A = ℕ} b 1 0) is

  pub counted_elsewhere : p n ≡ false → count_by p (range_with_len 0 (n + 1)) ≡ count_by p (range_with_len 0 n) + 0
  counted_elsewhere is = counted ∙ ap (λ (b : Bool). count_by p (range_with_len 0 n) + cond {A = ℕ} b 1 0) is

  passed : filter p (range_with_len 0 (n + 1)) ≡ filter p (range_with_len 0 n) ++ cond (p n) (n ∷ []) []
  passed =
      sym (ap (filter p) (map-id (range_with_len 0 (n + 1))))
      ∙ filter_of_map_range_with_len_more p (λ k. k) 0 n n (omega arith)
      ∙ ap (λ ks. filter p ks ++ cond (p n) (n ∷ []) []) (map-id (range_with_len 0 n))

  pub started_there : p n ≡ true → after_last (filter p (range_with_len 0 (n + 1))) ≡ n + 1
  started_there is =
      ap after_last (passed ∙ ap (λ b. filter p (range_with_len 0 n) ++ cond b (n ∷ []) []) is)
      ∙ ap (λ o. unwrap_or (option_map suc o) 0) (last_of None (filter p (range_with_len 0 n)) n)
      ∙ sym (add-one n)

  pub started_elsewhere : p n ≡ false → after_last (filter p (range_with_len 0 (n + 1))) ≡ after_last (filter p (range_with_len 0 n))
  started_elsewhere is = ap after_last (passed ∙ ap (λ b. filter p (range_with_len 0 n) ++ cond b (n ∷ []) []) is ∙ append-nil (filter p (range_with_len 0 n)))

pub column_is : (text rest line before : List ℕ) (at start left count column : ℕ) → start ≡ line_start text at → rest ≡ drop start text → line ≡ first_line rest → left ≡ at - start →
    before ≡ take left rest → count ≡ shown_count line before → column ≡ 1 + count → column ≡ column_of text at
column_is text rest line before at start left count column from cut first few part counted is =
    is
    ∙ ap (λ n. 1 + n) (counted
    ∙ ap (λ l. shown_count l before) (first ∙ ap first_line cut)
    ∙ ap (shown_count (first_line (drop start text))) (part ∙ ap (take left) cut ∙ ap (λ n. take n (drop start text)) few))
    ∙ ap (λ s. 1 + shown_count (first_line (drop s text)) (take (at - s) (drop s text))) from

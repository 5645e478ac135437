-- The first column of a name, among those of the stages before.
use Rattle.std.proofs.Common.{◌≡◌, ℕ, ◌<◌, true, false, List, Some, length, get_or, arith, sym, ap, ◌∙◌, inl, inr, subst}
use Rattle.std.specs.Prelude.{find, option_map, slice_get}
use Rattle.std.specs.List.{zip}
use Rattle.std.specs.Str.{bytes_eq}
use Rattle.std.proofs.lemmas.List.Folds.{find_at}
use Rattle.std.proofs.lemmas.List.Sums.{position_or_len_is}
use Rattle.std.proofs.lemmas.Option.{slice_get-map, slice_get-get_or, get_or_from_slice_get, slice_get_cases, slice_get_within}
use Rattle.sl_law_meaning.specs.declared.book.Stage.{Stage}
use Rattle.sl_law_meaning.specs.meaning.Columns.{NamedColumn, is_column_of}
use Rattle.sl_law_meaning.specs.declared.count.Column.{Column}
use Rattle.sl_report_results.specs.Values.{named_columns}
use Rattle.sl_report_parties.proofs.Steps.{zip_at}

module _ (name : List ℕ) (stages : List Stage) (earlier : List Column) (n : ℕ) (c : Column) where
  at : (s : Stage) (k : ℕ) → k < length stages → k < length earlier → slice_get (named_columns stages earlier) k ≡ Some (record { name = (get_or stages k s).name; values = (get_or earlier k c).cells.items })
  at s k in_stages in_earlier =
      slice_get-map (λ x. record { name = x.0.name; values = x.1.cells.items }) (zip stages earlier) k
      ∙ ap (option_map (λ x. record { name = x.0.name; values = x.1.cells.items }))
      (zip_at stages earlier k (get_or stages k s) (get_or earlier k c) (slice_get-get_or stages k s in_stages) (slice_get-get_or earlier k c in_earlier))

  by_stage : (s : Stage) → n < length stages → n < length earlier →
      ((d : Stage) → (bytes_eq name (get_or stages n d).name ≡ true) × ((k : ℕ) → k < n → bytes_eq name (get_or stages k d).name ≡ false)) →
      option_map (λ s. s.values) (find (is_column_of name) (named_columns stages earlier)) ≡ Some (get_or earlier n c).cells.items
  by_stage s in_stages in_earlier first =
      let xs : List NamedColumn = named_columns stages earlier in
      let d : NamedColumn = record { name = s.name; values = c.cells.items } in
      let long : n < length xs = slice_get_within xs n _ (at s n in_stages in_earlier) in
      let here : is_column_of name (get_or xs n d) ≡ true = ap (is_column_of name) (get_or_from_slice_get xs n _ d (at s n in_stages in_earlier)) ∙ (first s).0 in
      let before : (k : ℕ) → k < n → is_column_of name (get_or xs k d) ≡ false = λ k less.
      ap (is_column_of name) (get_or_from_slice_get xs k _ d (at s k (omega (arith, less, in_stages)) (omega (arith, less, in_earlier)))) ∙ (first s).1 k less in
      ap (option_map (λ s. s.values)) (
      find_at (is_column_of name) xs
      ∙ ap (slice_get xs) (position_or_len_is (is_column_of name) xs n d (omega (arith, long)) before (λ h. here))
      ∙ at s n in_stages in_earlier)

  pub found : (given : List Stage) → given ≡ stages → n < length given → n < length earlier →
      ((d : Stage) → (bytes_eq name (get_or given n d).name ≡ true) × ((k : ℕ) → k < n → bytes_eq name (get_or given k d).name ≡ false)) →
      c ≡ get_or earlier n c →
      option_map (λ s. s.values) (find (is_column_of name) (named_columns stages earlier)) ≡ Some c.cells.items
  found given same in_given in_earlier first is =
      elim (slice_get_cases stages n).1 [
        | inl h ↦ by_stage h.0 h.1 in_earlier (subst (λ ss. (d : Stage) → (bytes_eq name (get_or ss n d).name ≡ true) × ((k : ℕ) → k < n → bytes_eq name (get_or ss k d).name ≡ false)) same first)
            ∙ ap (λ d. Some d.cells.items) (sym is)
        | inr h ↦ absurd (omega (arith, in_given, h.0, ap length same))
      ]

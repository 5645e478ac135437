-- Tables whose rows are related to elements, one row more.
use Rattle.std.proofs.Common.{◌≡◌, ◌∙◌, ℕ, ◌+◌, List, [], ◌∷◌, ◌++◌, Some, ap, subst, sym, take}
use Rattle.std.proofs.lemmas.List.{take_more}
use Rattle.std.proofs.lemmas.Option.{get_or_from_slice_get, slice_get_within}
use Rattle.std.specs.List.{AllZip, range_with_len}
use Rattle.std.specs.Prelude.{slice_get}
use Rattle.sl_report_forms.specs.Cells.{Content}
use Rattle.sl_report_forms.specs.Tables.{Table, with_rows}
use Rattle.sl_report_parties.proofs.Steps.{range_more}
use Rattle.sl_law_meaning.proofs.meaning.Members.{all_and_one}

module _ {X : Type 0} (P : X → List Content → Type 0) where
  -- a table with the key and the columns of a blank one, and a row for each element
  abbrev pub Grows : List X → Table → Table → Type 0
  Grows xs blank t = (t.key ≡ blank.key) × (t.columns ≡ blank.columns) × AllZip P xs t.rows

  -- the table has one row more, for that element
  abbrev pub AddsRow : X → Table → Table → Type 0
  AddsRow x before after = (row : List Content) × P x row × (after ≡ with_rows before (row ∷ []))

  grows : (xs : List X) (x : X) (blank before after : Table) → Grows xs blank before → AddsRow x before after → Grows (xs ++ x ∷ []) blank after
  grows xs x blank before after so_far more = (
    ap (λ (t : Table). t.key) more.2 ∙ so_far.0,
    ap (λ (t : Table). t.columns) more.2 ∙ so_far.1,
    subst (λ rows. AllZip P (xs ++ x ∷ []) rows) (sym (ap (λ (t : Table). t.rows) more.2)) (all_and_one P xs before.rows x more.0 more.1 so_far.2),
  )

  -- one element of a list more
  pub grows_next : (xs : List X) (i : ℕ) (x : X) (blank before after : Table) → slice_get xs i ≡ Some x → Grows (take i xs) blank before → AddsRow x before after →
      Grows (take (i + 1) xs) blank after
  grows_next xs i x blank before after at so_far more =
      subst (λ ys. Grows ys blank after) (sym (take_more xs i x (slice_get_within xs i x at) ∙ ap (λ y. take i xs ++ y ∷ []) (get_or_from_slice_get xs i x x at)))
      (grows (take i xs) x blank before after so_far more)

-- one number more
pub grows_more : (P : ℕ → List Content → Type 0) (n : ℕ) (blank before after : Table) → Grows P (range_with_len 0 n) blank before → AddsRow P n before after →
    Grows P (range_with_len 0 (n + 1)) blank after
grows_more P n blank before after so_far more =
    subst (λ ns. Grows P ns blank after) (sym (range_more n)) (grows P (range_with_len 0 n) n blank before after so_far more)

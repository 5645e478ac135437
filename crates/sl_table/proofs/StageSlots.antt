-- The column of a stage's slot has the cells of the slot's shape.
use Rattle.std.proofs.Common.{◌≡◌, ℕ, ◌<◌, List, Some, length, map, get_or, slice_get, sym, ap, ◌∙◌, arith}
use Rattle.std.proofs.lemmas.List.{get_or-map, length-map}
use Rattle.std.proofs.lemmas.Option.{get_or_from_slice_get, slice_get_within}
use Rattle.sl_base_terms.specs.declared.shape.Shape.{Shape}
use Rattle.sl_base_terms.specs.declared.shape.Shape.TheVariants as shape
use Rattle.sl_law_meaning.specs.returns.Election.{Election}
use Rattle.sl_code_semantics.specs.Places.{cells_of}

pub column_length : (e : Election) (columns : List (List ℕ)) (slots : List Shape) → map length columns ≡ map (cells_of e) slots
    → (slot : ℕ) (column : List ℕ) → slice_get columns slot ≡ Some column → length column ≡ cells_of e (get_or slots slot shape.One)
column_length e columns slots same slot column at =
    let inside : slot < length columns = slice_get_within columns slot column at in
    let many : length columns ≡ length slots = sym (length-map columns length) ∙ ap length same ∙ length-map slots (cells_of e) in
    let in_slots : slot < length slots = omega (arith, inside, many) in
    ap length (sym (get_or_from_slice_get columns slot column column at)) ∙ sym (get_or-map length columns slot column 0 inside)
    ∙ ap (λ xs. get_or xs slot 0) same ∙ get_or-map (cells_of e) slots slot shape.One 0 in_slots

-- Columns of lists, cell by cell: those that plans write, and the lists that stand for them in the end.
use Rattle.std.proofs.Common.{◌≡◌, ◌≢◌, ℕ, ◌+◌, ◌*◌, ◌<◌, List, map, zip, Some, slice_get, slice_index, sym, ap, subst, ◌∙◌, arith}
use Rattle.std.specs.List.{range_with_len}
use Rattle.std.proofs.lemmas.List.FromFn.{length-map-range_with_len, get_or-map-range_with_len}
use Rattle.std.proofs.lemmas.Option.{get_or_from_slice_get}
use Rattle.sl_law_meaning.specs.declared.book.Pairing.{Pairing}
use Rattle.sl_base_terms.specs.declared.shape.Shape.{Shape}
use Rattle.sl_base_terms.specs.declared.shape.Shape.TheVariants as shape
use Rattle.sl_law_meaning.specs.returns.Election.{Election, lands_of, parties_of}
use Rattle.sl_law_meaning.specs.returns.Facts.{list_cell}
use Rattle.sl_law_meaning.specs.meaning.Columns.{paired}
use Rattle.sl_code_instructions.specs.Codes.{CountingCode}
use Rattle.sl_code_semantics.specs.State.{State}
use Rattle.sl_code_semantics.specs.Places.{cells_of}
use Rattle.sl_code_semantics.specs.Memories.{column_of}
use Rattle.sl_code_semantics.proofs.effects.Storing.{width_of, column_at}
use Rattle.sl_compile_plans.specs.Achieves.{Achieves, Never}
use Rattle.sl_compile_plans.proofs.Rules.{achieves_so}
use Rattle.sl_compile_pieces.specs.columns.Columns.{HoldsColumn, ChangesColumn}
use Rattle.sl_compile_pieces.specs.columns.Trees.{pair_tree}
use Rattle.sl_compile_pieces.proofs.columns.Writing.{pairs_are_taken, pair_at}
use Rattle.sl_compile_pieces.proofs.facts.Holding.{place_within}

-- ---- two columns that are joined cell by cell

-- a column holds the list of its own cells
holds_itself : (e : Election) (s : Shape) (column : ℕ → ℕ) → HoldsColumn e s column (map column (range_with_len 0 (cells_of e s)))
holds_itself e s column = record {
  long = length-map-range_with_len column 0 (cells_of e s);
  at = λ q less. sym (get_or-map-range_with_len column 0 (cells_of e s) q q 0 less (omega arith));
}

-- each cell of the column was made of the cells of two columns, and nothing else is changed
pub record IsMade (e : Election) (f : ℕ → ℕ → ℕ) (left right to : ℕ) (before after : State) : Type 0 where
  pub cells : (q : ℕ) → q < lands_of e * parties_of e → after.columns to q ≡ f (before.columns left q) (before.columns right q)
  pub changes : ChangesColumn to before after

module _ (c : CountingCode) (e : Election) (left right to : ℕ) (s : State) (known_left : slice_get c.slots left ≡ Some shape.List)
    (known_right : slice_get c.slots right ≡ Some shape.List) (known_to : slice_get c.slots to ≡ Some shape.List) (apart : right ≢ to) where
  -- how many cells there are, and those of both columns
  abbrev pairs : ℕ
  pairs = lands_of e * parties_of e

  abbrev lefts : List ℕ
  lefts = map (s.columns left) (range_with_len 0 pairs)

  abbrev rights : List ℕ
  rights = map (s.columns right) (range_with_len 0 pairs)

  made : (f : ℕ → ℕ → ℕ) (t : State) → HoldsColumn e shape.List (t.columns to) (map (λ x. f x.0 x.1) (zip lefts rights)) → ChangesColumn to s t → IsMade e f left right to s t
  made f t holds changes =
      let of_left : HoldsColumn e shape.List (s.columns left) lefts = holds_itself e shape.List (s.columns left) in
      let of_right : HoldsColumn e shape.List (s.columns right) rights = holds_itself e shape.List (s.columns right) in
      record {
        cells = λ q less.
            holds.at q less ∙ pair_at f lefts rights pairs of_left.long of_right.long q less
            ∙ ap (λ (m : ℕ). f m (slice_index rights q)) (sym (of_left.at q less)) ∙ ap (f (s.columns left q)) (sym (of_right.at q less));
        changes = changes;
      }

  pub pair_made : (pairing : Pairing) → Achieves c e (pair_tree pairing shape.List left right to) s (IsMade e (paired pairing) left right to s) Never
  pair_made pairing =
      achieves_so
      (pairs_are_taken c e pairing shape.List left right to lefts rights s known_left known_right known_to apart (holds_itself e shape.List (s.columns left)) (holds_itself e shape.List (s.columns right)))
      (λ t h. made (paired pairing) t h.holds h.changes)

-- ---- what is held in the end

-- the number of a list in what is held of a slot is that in the slot
pub list_cell_held : (c : CountingCode) (e : Election) (s : State) (slot land party : ℕ) → slice_get c.slots slot ≡ Some shape.List → land < lands_of e → party < parties_of e →
    list_cell e (column_of c e s slot) land party ≡ s.columns slot (land * parties_of e + party)
list_cell_held c e s slot land party known in_lands in_parties =
    let place : ℕ = land * parties_of e + party in
    let wide : lands_of e * parties_of e ≡ width_of c e slot = ap (cells_of e) (sym (get_or_from_slice_get c.slots slot shape.List shape.One known)) in
    column_at c e s slot place (subst (λ (n : ℕ). place < n) wide (place_within e land party in_parties in_lands))

-- What a state leaves, as the store keeps it.
use Rattle.std.proofs.Common.{◌≡◌, ℕ, ◌<◌, List, [], length, map, get_or, replicate, Some, None, refl, sym, ap, ◌∙◌, arith}
use Rattle.std.specs.List.{range_with_len}
use Rattle.std.proofs.lemmas.List.{length-map, get_or-map}
use Rattle.std.proofs.lemmas.List.FromFn.{fill_by_all}
use Rattle.sl_base_terms.specs.declared.shape.Shape.TheVariants as shape
use Rattle.sl_law_meaning.specs.declared.table.Placed.TheVariants as placed
use Rattle.sl_law_meaning.specs.returns.Election.{Election, wins_of}
use Rattle.sl_code_instructions.specs.Codes.{CountingCode}
use Rattle.sl_code_steps.specs.declared.store.Store.{Store}
use Rattle.sl_code_semantics.specs.Places.{cells_of}
use Rattle.sl_code_steps.specs.inner.Stores.{Sizes, state_of, columns_of, sizes_of, sizes_for}
use Rattle.sl_code_steps.specs.declared.memory.Vacant.TheVariants as vacant
use Rattle.sl_code_semantics.specs.Memories.{column_of, held_of}
use Rattle.sl_code_steps.specs.inner.Leaving.{held_with}

module _ (c : CountingCode) (e : Election) (s : Store) (sizes : sizes_of s ≡ sizes_for c e) where
  widths : map length (columns_of s) ≡ map (cells_of e) c.slots
  widths = ap (λ (z : Sizes). z.columns) sizes

  slots : length (columns_of s) ≡ length c.slots
  slots = sym (length-map (columns_of s) length) ∙ ap length widths ∙ length-map c.slots (cells_of e)

  pub column_is : (k : ℕ) → k < length (columns_of s) → get_or (columns_of s) k [] ≡ column_of c e (state_of s) k
  column_is k h =
      let there : k < length c.slots = omega (arith, slots) in
      let long : length (get_or (columns_of s) k []) ≡ cells_of e (get_or c.slots k shape.One) =
      sym (get_or-map length (columns_of s) k [] 0 h) ∙ ap (λ (ws : List ℕ). get_or ws k 0) widths ∙ get_or-map (cells_of e) c.slots k shape.One 0 there in
      fill_by_all (λ p. get_or (get_or (columns_of s) k []) p 0) (get_or (columns_of s) k []) (cells_of e (get_or c.slots k shape.One)) 0 long (λ p g. refl)

  pub columns_are : columns_of s ≡ map (column_of c e (state_of s)) (range_with_len 0 (length c.slots))
  columns_are = fill_by_all (column_of c e (state_of s)) (columns_of s) (length c.slots) [] slots (λ k h. column_is k (omega (arith, slots)))

  pub placed_are : s.placed.items ≡ map (state_of s).placed (range_with_len 0 (wins_of e))
  placed_are = fill_by_all (state_of s).placed s.placed.items (wins_of e) placed.Unseated (ap (λ (z : Sizes). z.winners) sizes) (λ k h. refl)

  pub held_column : (base slot : ℕ) → base < length (columns_of s) → slot < length (columns_of s) → held_with s base (vacant.Column slot) ≡ held_of c e base (Some slot) (state_of s)
  held_column base slot h g = λ i. record {
    columns = columns_are i;
    base = column_is base h i;
    vacant = column_is slot g i;
    placed = placed_are i;
    steps = s.steps.items;
    weights = s.weights.items;
  }

  pub held_nowhere : (base : ℕ) (zeros : List ℕ) → base < length (columns_of s) → zeros ≡ replicate (length (get_or (columns_of s) base [])) 0
      → held_with s base (vacant.Nowhere zeros) ≡ held_of c e base None (state_of s)
  held_nowhere base zeros h z =
      let none = z ∙ ap (λ (xs : List ℕ). replicate (length xs) 0) (column_is base h) in
      λ i. record {
        columns = columns_are i;
        base = column_is base h i;
        vacant = none i;
        placed = placed_are i;
        steps = s.steps.items;
        weights = s.weights.items;
      }

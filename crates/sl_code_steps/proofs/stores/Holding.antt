-- What is held in a state that halts fits the code and the returns.
use Rattle.std.proofs.Common.{◌≡◌, ℕ, ◌*◌, ◌<◌, length, map, get_or, Option, Some, None, slice_get, refl, sym, ap, ◌∙◌, arith}
use Rattle.std.specs.List.{range_with_len}
use Rattle.std.proofs.lemmas.List.{length-map, get_or-map, length-replicate}
use Rattle.std.proofs.lemmas.List.FromFn.{fill_by_all, length-map-range_with_len, get_or-map-range_with_len}
use Rattle.std.proofs.lemmas.Option.{slice_get_within, slice_get-get_or}
use Rattle.sl_base_terms.specs.declared.shape.Shape.TheVariants as shape
use Rattle.sl_law_meaning.specs.returns.Election.{Election, lands_of, parties_of, wins_of}
use Rattle.sl_code_instructions.specs.Codes.{CountingCode}
use Rattle.sl_code_semantics.specs.State.{State}
use Rattle.sl_code_semantics.specs.Places.{cells_of}
use Rattle.sl_code_semantics.specs.Memories.{column_of, vacant_of, held_of}
use Rattle.sl_code_semantics.specs.Fits.{FitsHalt, FitsMemory}
use Rattle.sl_code_semantics.proofs.effects.Storing.{column_long}

module _ (c : CountingCode) (e : Election) (s : State) where
  pub column_lengths : map length (map (column_of c e s) (range_with_len 0 (length c.slots))) ≡ map (cells_of e) c.slots
  column_lengths =
      let n = length c.slots in
      let columns = map (column_of c e s) (range_with_len 0 n) in
      let many : length columns ≡ n = length-map-range_with_len (column_of c e s) 0 n in
      let cells : ℕ → ℕ = λ k. cells_of e (get_or c.slots k shape.One) in
      let listed = fill_by_all cells (map length columns) n 0 (length-map columns length ∙ many) (λ k h.
      get_or-map length columns k (column_of c e s k) 0 (omega (arith, many))
      ∙ ap length (get_or-map-range_with_len (column_of c e s) 0 n k k (column_of c e s k) h (omega arith)) ∙ column_long c e s k) in
      let asked = fill_by_all cells (map (cells_of e) c.slots) n 0 (length-map c.slots (cells_of e)) (λ k h. get_or-map (cells_of e) c.slots k shape.One 0 h) in
      listed ∙ sym asked

  list_length : (slot : ℕ) → slice_get c.slots slot ≡ Some shape.List → length (column_of c e s slot) ≡ lands_of e * parties_of e
  list_length slot is =
      let there : slot < length c.slots = slice_get_within c.slots slot shape.List is in
      let found : get_or c.slots slot shape.One ≡ shape.List = cc (slice_get-get_or c.slots slot shape.One there) in
      column_long c e s slot ∙ ap (cells_of e) found

  vacant_length : (base : ℕ) (vacant : Option ℕ) → FitsHalt c e base vacant s → length (vacant_of c e s base vacant) ≡ lands_of e * parties_of e
  vacant_length base None h = length-replicate (length (column_of c e s base)) 0 ∙ list_length base h.base
  vacant_length base (Some slot) h = list_length slot (h.vacant slot refl)

  pub held_fits : (base : ℕ) (vacant : Option ℕ) → FitsHalt c e base vacant s → FitsMemory c e (held_of c e base vacant s)
  held_fits base vacant h = record {
    columns = column_lengths;
    base = list_length base h.base;
    vacant = vacant_length base vacant h;
    placed = length-map-range_with_len s.placed 0 (wins_of e);
    records = h.records;
  }

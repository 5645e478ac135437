-- Sums of the cells of columns: by party, by Land, and of all.
use Rattle.std.proofs.Common.{◌≡◌, ◌≢◌, ℕ, ◌+◌, ◌*◌, ◌<◌, ◌≤◌, min, List, [], ◌∷◌, length, map, take, sum, sum_by, All, slice_get, slice_index, Some, None, false, refl, sym, ap, subst, ◌∙◌, take_all, arith}
use Rattle.std.specs.List.{range_with_len}
use Rattle.std.proofs.lemmas.List.Folds.{fold-map}
use Rattle.std.proofs.lemmas.List.FromFn.{length-map-range_with_len, get_or-map-range_with_len}
use Rattle.std.proofs.lemmas.List.Sums.{sum_by_more, sum_by-take-le}
use Rattle.std.proofs.lemmas.Option.{same_Some}
use Rattle.sl_law_meaning.specs.declared.book.Axis.TheVariants as axis
use Rattle.sl_base_terms.specs.declared.shape.Shape.{Shape}
use Rattle.sl_base_terms.specs.declared.shape.Shape.TheVariants as shape
use Rattle.sl_law_meaning.specs.returns.Election.{Election, lands_of, parties_of}
use Rattle.sl_law_meaning.specs.returns.Facts.{list_cell}
use Rattle.sl_law_meaning.specs.meaning.Columns.{sum_over}
use Rattle.sl_code_instructions.specs.declared.instr.Instr.TheVariants.{Add, Get}
use Rattle.sl_code_instructions.specs.Codes.{CountingCode}
use Rattle.sl_code_semantics.specs.State.{State, with_register}
use Rattle.sl_code_semantics.specs.Places.{cells_of, cell_at}
use Rattle.sl_code_semantics.specs.Effects.{most}
use Rattle.sl_code_semantics.proofs.effects.Registers.{get_does, store_does}
use Rattle.sl_code_semantics.proofs.effects.Cursors.{both_are}
use Rattle.sl_code_semantics.proofs.soundness.KeptEntries.{list_below}
use Rattle.sl_compile_plans.specs.declared.plan.Cursor.{Cursor}
use Rattle.sl_compile_plans.specs.declared.plan.Cursor.TheVariants as cursor
use Rattle.sl_compile_plans.specs.Trees.{Tree, Line, Each}
use Rattle.sl_compile_plans.specs.Meaning.{count_of, set_cursor}
use Rattle.sl_compile_plans.specs.Achieves.{Achieves, Never}
use Rattle.sl_compile_plans.specs.Frames.{may_move, KeepsRest}
use Rattle.sl_compile_plans.proofs.Rules.{line_ends, line_goes, then_achieves, ends_in, achieves_so}
use Rattle.sl_compile_plans.proofs.KeepingRules.{each_keeping, achieves_keeping}
use Rattle.sl_compile_pieces.specs.columns.Trees.{total, cell, cells_plan, add_cells, sum_tree}
use Rattle.sl_compile_pieces.specs.columns.Columns.{HoldsColumn, GetsColumn}
use Rattle.sl_compile_pieces.specs.columns.Laws.{SumsAreTaken}
use Rattle.sl_compile_pieces.proofs.columns.Cells.{Suits, SuitsShape, suits_shape, cell_kept, each_cell}
use Rattle.sl_compile_pieces.proofs.columns.Writing.{Written, written_suits, one_more_written, as_before, column_written}

-- the sum of the first ones and the next one, within the sum of all
next_sum : (xs : List ℕ) (i : ℕ) → i < length xs → sum xs ≤ most → min (sum (take i xs) + slice_index xs i) most ≡ sum (take (i + 1) xs)
next_sum xs i less fits = omega (arith, fits, sum_by_more (λ x. x) xs i 0 less, sum_by-take-le (λ x. x) xs (i + 1))

-- the sum is more by the cell at the cursors
abbrev add_cell : (from : ℕ) → Tree
add_cell from = Line (Get cell from ∷ (Add total cell ∷ []))

-- with a register for the sum of the first ones of the numbers that make cell p
module _ (c : CountingCode) (e : Election) (s : Shape) (from to : ℕ) (result : ℕ → ℕ) (before : State) (p : ℕ) (summands : List ℕ) (known_from : slice_get c.slots from ≡ Some s)
    (fits : sum summands ≤ most) where
  abbrev Summed : ℕ → State → Type 0
  Summed n t = record { total_is : t.registers total ≡ sum (take n summands); written : Written to result before p t }

  one_added : (i q : ℕ) (t : State) → i < length summands → cell_at e s t ≡ Some q → t.columns from q ≡ slice_index summands i → Summed i t → Achieves c e (add_cell from) t (Summed (i + 1)) Never
  one_added i q t less at read h =
      let x : ℕ = t.columns from q in
      let is : min (t.registers total + x) most ≡ sum (take (i + 1) summands) = omega (arith, read, next_sum summands i less fits) in
      line_goes (get_does c e t from s known_from cell q at)
      (ends_in refl (record { total_is = is; written = h.written }))

  summed_suits : (over : Cursor) → may_move (add_cell from) over ≡ false → Suits over (add_cell from) Summed
  summed_suits cursor.Party still = record { still = still; moved = λ n o t h. h }
  summed_suits _ still = record { still = still; moved = λ n o t h. h }

  -- a loop adds the cells of a Land, or of a party: On says that the other cursor stands there
  row_added : (over : Cursor) (On : State → Type 0) (place : ℕ → ℕ) → length summands ≡ count_of e over → may_move (add_cell from) over ≡ false
      → ((i : ℕ) (u : State) → On u → On (set_cursor over (Some i) u) × (cell_at e s (set_cursor over (Some i) u) ≡ Some (place i)))
      → ((u : State) → On u → On (set_cursor over None u))
      → ((u v : State) → KeepsRest (add_cell from) u v → On u → On v)
      → ((i : ℕ) (u : State) → i < count_of e over → Written to result before p u → u.columns from (place i) ≡ slice_index summands i)
      → (t : State) → On t → Summed 0 t → Achieves c e (Each over (add_cell from)) t (λ u. Summed (length summands) u × On u) Never
  row_added over On place long still turn end kept read t on first =
      let suits : Suits over (add_cell from) Summed = summed_suits over still in
      each_keeping (λ i u. Summed i u × On u) still (first, on)
      (λ i u less inv.
      let v : State = set_cursor over (Some i) u in
      let h : Summed i v = suits.moved i (Some i) u inv.0 in
      let at : On v × (cell_at e s v ≡ Some (place i)) = turn i u inv.1 in
      achieves_keeping (one_added i (place i) v (omega (arith, long, less)) at.1 (read i v less h.written) h) (λ w k rest. (k, kept v w rest at.0)))
      (λ u inv. (subst (λ (n : ℕ). Summed n (set_cursor over None u)) (sym long) (suits.moved (count_of e over) None u inv.0), end u inv.1))

  -- the sum is made and stored
  one_sum : (over : Tree → Tree) (made : Shape) (t : State) → slice_get c.slots to ≡ Some made → sum summands ≡ result p
      → ((u : State) → cell_at e made u ≡ Some p → Summed 0 u → Achieves c e (over (add_cell from)) u (λ v. Summed (length summands) v × (cell_at e made v ≡ Some p)) Never)
      → cell_at e made t ≡ Some p → Written to result before p t → Achieves c e (add_cells over from to) t (Written to result before (p + 1)) Never
  one_sum over made t known_to is walk at h =
      let all : sum (take (length summands) summands) ≡ sum summands = ap sum (take_all (length summands) summands (omega arith)) in
      then_achieves {Q = λ u. Summed 0 u × (cell_at e made u ≡ Some p)}
      (ends_in refl (record { total_is = refl; written = h }, cell_kept e made (with_register total 0 t).registers t (Some p) at))
      (λ v k.
      then_achieves (walk v k.1 k.0)
      (λ w m. line_goes (store_does c e w to made known_to total p m.1) (line_ends (one_more_written to result before p (w.registers total) w (m.0.total_is ∙ all ∙ is) m.0.written))))

-- ---- rows

-- the sum of a function of so many numbers, as the sum of its values
module _ (f : ℕ → ℕ) (n : ℕ) where
  abbrev values : List ℕ
  values = map f (range_with_len 0 n)

  value_at : (i : ℕ) → i < n → slice_index values i ≡ f i
  value_at i less = get_or-map-range_with_len f 0 n i i 0 less (omega arith)

-- slots of other shapes are others
slots_apart : (c : CountingCode) (from to : ℕ) (made : Shape) → slice_get c.slots from ≡ Some shape.List → slice_get c.slots to ≡ Some made → shape.List ≢ made → from ≢ to
slots_apart c from to made known_from known_to others same = others (same_Some shape.List made (sym known_from ∙ ap (slice_get c.slots) same ∙ known_to))

-- the sums of the rows of a list column, where the loop of an inner cursor goes over a row, and the cursors of another shape stand at it
module _ (c : CountingCode) (e : Election) (from to : ℕ) (state : State) (made : Shape) (inner : Cursor) (f place : ℕ → ℕ → ℕ)
    (known_from : slice_get c.slots from ≡ Some shape.List) (known_to : slice_get c.slots to ≡ Some made) (apart : from ≢ to) (still : may_move (add_cell from) inner ≡ false)
    (turn : (k i : ℕ) (u : State) → cell_at e made u ≡ Some k → (cell_at e made (set_cursor inner (Some i) u) ≡ Some k) × (cell_at e shape.List (set_cursor inner (Some i) u) ≡ Some (place k i)))
    (end : (k : ℕ) (u : State) → cell_at e made u ≡ Some k → cell_at e made (set_cursor inner None u) ≡ Some k)
    (kept : (k : ℕ) (u v : State) → KeepsRest (add_cell from) u v → cell_at e made u ≡ Some k → cell_at e made v ≡ Some k)
    (read : (k i : ℕ) → k < cells_of e made → i < count_of e inner → state.columns from (place k i) ≡ f k i) where
  abbrev sums_of_rows : List ℕ
  sums_of_rows = map (λ k. sum_by (f k) (range_with_len 0 (count_of e inner))) (range_with_len 0 (cells_of e made))

  one_row : (k : ℕ) (t : State) → k < cells_of e made → All (λ n. n ≤ most) sums_of_rows → cell_at e made t ≡ Some k → Written to (slice_index sums_of_rows) state k t
      → Achieves c e (add_cells (Each inner) from to) t (Written to (slice_index sums_of_rows) state (k + 1)) Never
  one_row k t less small at h =
      let m : ℕ = count_of e inner in
      let n : ℕ = cells_of e made in
      let g : ℕ → ℕ = λ l. sum_by (f l) (range_with_len 0 m) in
      let result : ℕ → ℕ = slice_index (map g (range_with_len 0 n)) in
      let is : sum (values (f k) m) ≡ result k = fold-map (λ a x. a + x) (f k) 0 (range_with_len 0 m) ∙ sym (value_at g n k less) in
      let row_fits : result k ≤ most = small k 0 (omega (arith, length-map-range_with_len g 0 n, less)) in
      let fits : sum (values (f k) m) ≤ most = omega (arith, is, row_fits) in
      one_sum c e shape.List from to result state k (values (f k) m) known_from fits (Each inner) made t known_to is
      (row_added c e shape.List from to result state k (values (f k) m) known_from fits inner (λ u. cell_at e made u ≡ Some k) (place k) (length-map-range_with_len (f k) 0 m) still (turn k) (end k) (kept k)
      (λ i u low written. written.changes.columns from (place k i) apart ∙ read k i less low ∙ sym (value_at (f k) m i low)))
      at h

  rows_taken : All (λ n. n ≤ most) sums_of_rows → SuitsShape made (add_cells (Each inner) from to) (Written to (slice_index sums_of_rows) state)
      → Achieves c e (cells_plan made (add_cells (Each inner) from to)) state (GetsColumn e made to sums_of_rows state) Never
  rows_taken small suits =
      column_written c e made to sums_of_rows (add_cells (Each inner) from to) state
      (length-map-range_with_len (λ k. sum_by (f k) (range_with_len 0 (count_of e inner))) 0 (cells_of e made)) suits
      (λ k t less at h. one_row k t less small at h)

-- ---- sums by party, by Land, and of all cells

module _ (c : CountingCode) (e : Election) (from to : ℕ) (xs : List ℕ) (state : State) where
  by_party_taken : slice_get c.slots from ≡ Some shape.List → slice_get c.slots to ≡ Some shape.Party → HoldsColumn e shape.List (state.columns from) xs → All (λ n. n ≤ most) (sum_over e axis.Party xs)
      → Achieves c e (sum_tree axis.Party shape.List from to) state (GetsColumn e shape.Party to (sum_over e axis.Party xs) state) Never
  by_party_taken known_from known_to holds small =
      rows_taken c e from to state shape.Party cursor.Land (λ p l. list_cell e xs l p) (λ p l. l * parties_of e + p) known_from known_to (slots_apart c from to shape.Party known_from known_to (λ same. cc)) refl
      (λ p l u on. (on, both_are (Some l) u.party (λ land party. land * parties_of e + party) l p refl on)) (λ p u on. on) (λ p u v rest on. rest.party refl ∙ on)
      (λ p l hp hl. holds.at (l * parties_of e + p) (list_below l p (lands_of e) (parties_of e) hl hp))
      small (written_suits to (slice_index (sum_over e axis.Party xs)) state cursor.Party (add_cells (Each cursor.Land) from to) refl)

  by_land_taken : slice_get c.slots from ≡ Some shape.List → slice_get c.slots to ≡ Some shape.Land → HoldsColumn e shape.List (state.columns from) xs → All (λ n. n ≤ most) (sum_over e axis.Land xs)
      → Achieves c e (sum_tree axis.Land shape.List from to) state (GetsColumn e shape.Land to (sum_over e axis.Land xs) state) Never
  by_land_taken known_from known_to holds small =
      rows_taken c e from to state shape.Land cursor.Party (list_cell e xs) (λ l p. l * parties_of e + p) known_from known_to (slots_apart c from to shape.Land known_from known_to (λ same. cc)) refl
      (λ l p u on. (on, both_are u.land (Some p) (λ land party. land * parties_of e + party) l p on refl)) (λ l u on. on) (λ l u v rest on. rest.land refl ∙ on)
      (λ l p hl hp. holds.at (l * parties_of e + p) (list_below l p (lands_of e) (parties_of e) hl hp))
      small (written_suits to (slice_index (sum_over e axis.Land xs)) state cursor.Land (add_cells (Each cursor.Party) from to) refl)

  all_taken : (s : Shape) → slice_get c.slots from ≡ Some s → slice_get c.slots to ≡ Some shape.One → HoldsColumn e s (state.columns from) xs → sum xs ≤ most
      → Achieves c e (sum_tree axis.All s from to) state (GetsColumn e shape.One to (sum xs ∷ []) state) Never
  all_taken s known_from known_to holds fits =
      let result : ℕ → ℕ = slice_index (sum xs ∷ []) in
      let Inv : ℕ → State → Type 0 = Summed c e s from to result state 0 xs known_from fits in
      let line : Tree = add_cell from in
      let suits : (over : Cursor) → may_move line over ≡ false → Suits over line Inv = summed_suits c e s from to result state 0 xs known_from fits in
      column_written c e shape.One to (sum xs ∷ []) (add_cells (cells_plan s) from to) state refl tt
      (λ q t hq at h.
      let here : q ≡ 0 = omega (arith, hq) in
      subst (λ (n : ℕ). Achieves c e (add_cells (cells_plan s) from to) t (Written to result state (n + 1)) Never) (sym here)
      (one_sum c e s from to result state 0 xs known_from fits (cells_plan s) shape.One t known_to refl
      (λ u on first. achieves_so
      (each_cell c e s line Inv Never u (suits_shape s line Inv (suits cursor.Party refl) (suits cursor.Land refl))
      (λ i v less spot inv. one_added c e s from to result state 0 xs known_from fits i i v (omega (arith, holds.long, less)) spot
      (as_before to result state from 0 i v (omega arith) inv.written ∙ holds.at i less) inv)
      first)
      (λ v inv. (subst (λ (n : ℕ). Inv n v) (sym holds.long) inv, refl)))
      refl (subst (λ (n : ℕ). Written to result state n t) here h)))

pub sums_are_taken : SumsAreTaken
sums_are_taken c e axis.Party s from to xs state is known_from known_to holds small =
    subst (λ (z : Shape). Achieves c e (sum_tree axis.Party z from to) state (GetsColumn e shape.Party to (sum_over e axis.Party xs) state) Never) (sym is)
    (by_party_taken c e from to xs state (known_from ∙ ap Some is) known_to (subst (λ (z : Shape). HoldsColumn e z (state.columns from) xs) is holds) small)
sums_are_taken c e axis.Land s from to xs state is known_from known_to holds small =
    by_land_taken c e from to xs state (known_from ∙ ap Some is) known_to (subst (λ (z : Shape). HoldsColumn e z (state.columns from) xs) is holds) small
sums_are_taken c e axis.All s from to xs state is known_from known_to holds small = all_taken c e from to xs state s known_from known_to holds (small 0 0 (omega arith))

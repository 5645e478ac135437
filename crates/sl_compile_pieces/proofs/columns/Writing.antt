-- Columns that are written cell by cell: copies and pairs.
use Rattle.std.proofs.Common.{◌≡◌, ℕ, ◌+◌, ◌<◌, ◌≤◌, false, List, [], ◌∷◌, length, map, zip, slice_get, slice_index, Some, refl, sym, ap, ap₂, ◌∙◌, inl, inr, arith}
use Rattle.std.proofs.lemmas.Bool.{cases_eq}
use Rattle.std.proofs.lemmas.List.{length-map, get_or-map}
use Rattle.std.proofs.lemmas.Slice.Zip.{length-zip, get_or-zip}
use Rattle.sl_law_meaning.specs.declared.book.Pairing.{Pairing}
use Rattle.sl_law_meaning.specs.declared.book.Pairing.TheVariants as pairings
use Rattle.sl_base_terms.specs.declared.shape.Shape.{Shape}
use Rattle.sl_law_meaning.specs.returns.Election.{Election}
use Rattle.sl_law_meaning.specs.meaning.Columns.{paired, pair_of}
use Rattle.sl_code_instructions.specs.declared.instr.Instr.{Instr}
use Rattle.sl_code_instructions.specs.declared.instr.Instr.TheVariants.{Get, Store}
use Rattle.sl_code_instructions.specs.Codes.{CountingCode}
use Rattle.sl_code_semantics.specs.State.{State, with_register, with_cell}
use Rattle.sl_code_semantics.specs.Places.{cells_of, cell_at}
use Rattle.sl_code_semantics.specs.Effects.{Goes, effect}
use Rattle.sl_code_semantics.proofs.effects.Registers.{get_does, store_does, max_does, sub_does}
use Rattle.sl_code_semantics.proofs.effects.Storing.{cell_same, cell_other_place, cell_other_slot}
use Rattle.sl_compile_plans.specs.declared.plan.Cursor.{Cursor}
use Rattle.sl_compile_plans.specs.declared.plan.Cursor.TheVariants as cursor
use Rattle.sl_compile_plans.specs.Trees.{Tree, Line}
use Rattle.sl_compile_plans.specs.Achieves.{Achieves, Never}
use Rattle.sl_compile_plans.specs.Frames.{may_move}
use Rattle.sl_compile_plans.proofs.Rules.{line_ends, line_goes, achieves_so}
use Rattle.sl_compile_pieces.specs.columns.Trees.{cell, other, cells_plan, pair_instr}
use Rattle.sl_compile_pieces.specs.columns.Columns.{HoldsColumn, ChangesColumn, GetsColumn}
use Rattle.sl_compile_pieces.specs.columns.Laws.{ColumnsAreCopied, PairsAreTaken}
use Rattle.sl_compile_pieces.proofs.columns.Cells.{Suits, SuitsShape, suits_shape, cell_kept, each_cell}

-- so many cells of a column are written, its others are as they were, and nothing else is changed
abbrev pub Written : ℕ → (ℕ → ℕ) → State → ℕ → State → Type 0
Written slot result before n t = record {
  done : (q : ℕ) → q < n → t.columns slot q ≡ result q;
  rest : (q : ℕ) → n ≤ q → t.columns slot q ≡ before.columns slot q;
  changes : ChangesColumn slot before t;
}

module _ (slot : ℕ) (result : ℕ → ℕ) (before : State) where
  pub none_written : Written slot result before 0 before
  none_written = record {
    done = λ q less. absurd (omega arith);
    rest = λ q high. refl;
    changes = record { columns = λ k q apart. refl; steps = refl; weights = refl; placed = λ w. refl };
  }

  -- registers and cursors are no columns
  pub written_suits : (over : Cursor) (body : Tree) → may_move body over ≡ false → Suits over body (Written slot result before)
  written_suits cursor.Party body still = record { still = still; moved = λ n o t h. h }
  written_suits _ body still = record { still = still; moved = λ n o t h. h }

  pub one_more_written : (n v : ℕ) (t : State) → v ≡ result n → Written slot result before n t → Written slot result before (n + 1) (with_cell slot n v t)
  one_more_written n v t is h = record {
    done = λ q less. elim (cases_eq q n) [
      | inl same ↦ ap ((with_cell slot n v t).columns slot) same ∙ cell_same t slot n v ∙ is ∙ ap result (sym same)
      | inr apart ↦ cell_other_place t slot n v q apart ∙ h.done q (omega (arith, less, apart))
    ];
    rest = λ q high. cell_other_place t slot n v q (λ same. omega (arith, high, same)) ∙ h.rest q (omega (arith, high));
    changes = record {
      columns = λ k q apart. cell_other_slot t slot n v k q apart ∙ h.changes.columns k q apart;
      steps = h.changes.steps;
      weights = h.changes.weights;
      placed = h.changes.placed;
    };
  }

  -- a cell that is not written yet is read as it was, and so is each one of another column
  pub as_before : (k n q : ℕ) (t : State) → n ≤ q → Written slot result before n t → t.columns k q ≡ before.columns k q
  as_before k n q t high h = elim (cases_eq k slot) [
    | inl same ↦ ap (λ (j : ℕ). t.columns j q) same ∙ h.rest q high ∙ ap (λ (j : ℕ). before.columns j q) (sym same)
    | inr apart ↦ h.changes.columns k q apart
  ]

-- a body that writes the cell at the cursors writes the whole column
pub column_written : (c : CountingCode) (e : Election) (s : Shape) (slot : ℕ) (values : List ℕ) (body : Tree) (before : State)
    → length values ≡ cells_of e s → SuitsShape s body (Written slot (slice_index values) before)
    → ((q : ℕ) (t : State) → q < cells_of e s → cell_at e s t ≡ Some q → Written slot (slice_index values) before q t → Achieves c e body t (Written slot (slice_index values) before (q + 1)) Never)
    → Achieves c e (cells_plan s body) before (GetsColumn e s slot values before) Never
column_written c e s slot values body before long suits turn =
    achieves_so (each_cell c e s body (Written slot (slice_index values) before) Never before suits turn (none_written slot (slice_index values) before))
    (λ t h. record { holds = record { long = long; at = h.done }; changes = h.changes })

-- the same of a line that moves no cursor
line_written : (c : CountingCode) (e : Election) (s : Shape) (slot : ℕ) (values : List ℕ) (is : List Instr) (before : State)
    → length values ≡ cells_of e s → may_move (Line is) cursor.Party ≡ false → may_move (Line is) cursor.Land ≡ false
    → ((q : ℕ) (t : State) → q < cells_of e s → cell_at e s t ≡ Some q → Written slot (slice_index values) before q t → Achieves c e (Line is) t (Written slot (slice_index values) before (q + 1)) Never)
    → Achieves c e (cells_plan s (Line is)) before (GetsColumn e s slot values before) Never
line_written c e s slot values is before long party land turn =
    let Inv : ℕ → State → Type 0 = Written slot (slice_index values) before in
    let suits : (over : Cursor) → may_move (Line is) over ≡ false → Suits over (Line is) Inv = λ over still. written_suits slot (slice_index values) before over (Line is) still in
    column_written c e s slot values (Line is) before long (suits_shape s (Line is) Inv (suits cursor.Party party) (suits cursor.Land land)) turn

pub columns_are_copied : ColumnsAreCopied
columns_are_copied c e s from to values state known_from known_to apart holds =
    line_written c e s to values (Get cell from ∷ (Store to cell ∷ [])) state holds.long refl refl
    (λ q t within at h.
    let x : ℕ = t.columns from q in
    let u : State = with_register cell x t in
    let is : x ≡ slice_index values q = as_before to (slice_index values) state from q q t (omega arith) h ∙ holds.at q within in
    line_goes (get_does c e t from s known_from cell q at)
    (line_goes (store_does c e u to s known_to cell q (cell_kept e s u.registers t (Some q) at))
    (line_ends (one_more_written to (slice_index values) state q x u is h))))

-- ---- two columns, cell by cell

-- an instruction that puts a function of both cells into the register of the one
module _ (c : CountingCode) (e : Election) (s : Shape) (left right to : ℕ) (values xs ys : List ℕ) (state : State) (f : ℕ → ℕ → ℕ) (op : Instr)
    (known_left : slice_get c.slots left ≡ Some s) (known_right : slice_get c.slots right ≡ Some s) (known_to : slice_get c.slots to ≡ Some s)
    (holds_left : HoldsColumn e s (state.columns left) xs) (holds_right : HoldsColumn e s (state.columns right) ys)
    (value : (q : ℕ) → q < cells_of e s → slice_index values q ≡ f (slice_index xs q) (slice_index ys q))
    (does_op : (t : State) → effect c e op t ≡ Goes (with_register cell (f (t.registers cell) (t.registers other)) t)) where
  one_taken : (q : ℕ) (t : State) → q < cells_of e s → cell_at e s t ≡ Some q → Written to (slice_index values) state q t
      → Achieves c e (Line (Get cell left ∷ (Get other right ∷ (op ∷ (Store to cell ∷ []))))) t (Written to (slice_index values) state (q + 1)) Never
  one_taken q t within at h =
      let x : ℕ = t.columns left q in
      let y : ℕ = t.columns right q in
      let u : State = with_register cell x t in
      let v : State = with_register other y u in
      let w : State = with_register cell (f x y) v in
      let read_left : x ≡ slice_index xs q = as_before to (slice_index values) state left q q t (omega arith) h ∙ holds_left.at q within in
      let read_right : y ≡ slice_index ys q = as_before to (slice_index values) state right q q t (omega arith) h ∙ holds_right.at q within in
      let is : f x y ≡ slice_index values q = ap₂ f read_left read_right ∙ sym (value q within) in
      line_goes (get_does c e t left s known_left cell q at)
      (line_goes (get_does c e u right s known_right other q (cell_kept e s u.registers t (Some q) at))
      (line_goes (does_op v)
      (line_goes (store_does c e w to s known_to cell q (cell_kept e s w.registers t (Some q) at))
      (line_ends (one_more_written to (slice_index values) state q (f x y) w is h)))))

-- pairs of cells
module _ (f : ℕ → ℕ → ℕ) (xs ys : List ℕ) (n : ℕ) (long : length xs ≡ n) (same : length ys ≡ n) where
  pub pairs_long : length (map (λ x. f x.0 x.1) (zip xs ys)) ≡ n
  pairs_long = length-map (zip xs ys) (λ x. f x.0 x.1) ∙ omega (arith, length-zip xs ys, long, same)

  pub pair_at : (q : ℕ) → q < n → slice_index (map (λ x. f x.0 x.1) (zip xs ys)) q ≡ f (slice_index xs q) (slice_index ys q)
  pair_at q less =
      get_or-map (λ x. f x.0 x.1) (zip xs ys) q (0, 0) 0 (omega (arith, length-zip xs ys, long, same))
      ∙ ap (λ (x : ℕ × ℕ). f x.0 x.1) (get_or-zip xs ys q (0, 0) (omega (arith, long)) (omega (arith, same)))

module _ (pairing : Pairing) (left right to : ℕ) where
  abbrev pair_line : List Instr
  pair_line = Get cell left ∷ (Get other right ∷ (pair_instr pairing ∷ (Store to cell ∷ [])))

-- it moves no cursor of a column
pair_stays : (pairing : Pairing) (left right to : ℕ) → (may_move (Line (pair_line pairing left right to)) cursor.Party ≡ false) × (may_move (Line (pair_line pairing left right to)) cursor.Land ≡ false)
pair_stays pairings.Larger left right to = (refl, refl)
pair_stays pairings.Less left right to = (refl, refl)

pair_does : (c : CountingCode) (e : Election) (pairing : Pairing) (t : State) → effect c e (pair_instr pairing) t ≡ Goes (with_register cell (paired pairing (t.registers cell) (t.registers other)) t)
pair_does c e pairings.Larger t = max_does c e t cell other
pair_does c e pairings.Less t = sub_does c e t cell other

pub pairs_are_taken : PairsAreTaken
pairs_are_taken c e pairing s left right to xs ys state known_left known_right known_to apart holds_left holds_right =
    let n : ℕ = cells_of e s in
    line_written c e s to (pair_of pairing xs ys) (pair_line pairing left right to) state
    (pairs_long (paired pairing) xs ys n holds_left.long holds_right.long) (pair_stays pairing left right to).0 (pair_stays pairing left right to).1
    (one_taken c e s left right to (pair_of pairing xs ys) xs ys state (paired pairing) (pair_instr pairing) known_left known_right known_to holds_left holds_right
    (pair_at (paired pairing) xs ys n holds_left.long holds_right.long) (pair_does c e pairing))

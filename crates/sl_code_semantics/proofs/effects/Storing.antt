-- Registers, cells and columns that were written, as they are read again.
use Rattle.std.proofs.Common.{◌≡◌, ◌≢◌, ℕ, ◌<◌, Bool, List, length, get_or, if◌then◌else◌, refl, ap, arith, eq-eqb, ne_eqb}
use Rattle.std.proofs.lemmas.List.FromFn.{fill_by_all, length-map-range_with_len, get_or-map-range_with_len}
use Rattle.sl_base_terms.specs.declared.shape.Shape.TheVariants as shape
use Rattle.sl_law_meaning.specs.returns.Election.{Election}
use Rattle.sl_code_instructions.specs.Codes.{CountingCode}
use Rattle.sl_code_semantics.specs.State.{State, with_register, with_column, with_cell}
use Rattle.sl_code_semantics.specs.Places.{cells_of}
use Rattle.sl_code_semantics.specs.Memories.{column_of}

module _ (s : State) where
  -- ---- registers
  pub register_same : (r v : ℕ) → (with_register r v s).registers r ≡ v
  register_same r v = ap (λ (b : Bool). if b then v else s.registers r) (eq-eqb r r refl)

  pub register_other : (r v q : ℕ) → q ≢ r → (with_register r v s).registers q ≡ s.registers q
  register_other r v q other = ap (λ (b : Bool). if b then v else s.registers q) (ne_eqb q r other)

  -- ---- cells
  pub cell_same : (k p v : ℕ) → (with_cell k p v s).columns k p ≡ v
  cell_same k p v = rw (eq-eqb k k refl, eq-eqb p p refl) refl

  pub cell_other_place : (k p v q : ℕ) → q ≢ p → (with_cell k p v s).columns k q ≡ s.columns k q
  cell_other_place k p v q other = rw (eq-eqb k k refl, ne_eqb q p other) refl

  pub cell_other_slot : (k p v j q : ℕ) → j ≢ k → (with_cell k p v s).columns j q ≡ s.columns j q
  cell_other_slot k p v j q other = rw (ne_eqb j k other) refl

  pub column_same : (k : ℕ) (f : ℕ → ℕ) → (with_column k f s).columns k ≡ f
  column_same k f = ap (λ (b : Bool). if b then f else s.columns k) (eq-eqb k k refl)

  pub column_other : (k : ℕ) (f : ℕ → ℕ) (j : ℕ) → j ≢ k → (with_column k f s).columns j ≡ s.columns j
  column_other k f j other = ap (λ (b : Bool). if b then f else s.columns j) (ne_eqb j k other)

-- ---- a slot's column as the list of its cells
module _ (c : CountingCode) (e : Election) where
  -- as many as its shape has
  abbrev pub width_of : ℕ → ℕ
  width_of k = cells_of e (get_or c.slots k shape.One)

  module _ (s : State) (k : ℕ) where
    pub column_long : length (column_of c e s k) ≡ width_of k
    column_long = length-map-range_with_len (s.columns k) 0 (width_of k)

    pub column_at : (p : ℕ) → p < width_of k → get_or (column_of c e s k) p 0 ≡ s.columns k p
    column_at p within = get_or-map-range_with_len (s.columns k) 0 (width_of k) p p 0 within (omega arith)

    -- the list of a column is any list of that length with those cells
    pub column_by_cells : (xs : List ℕ) → length xs ≡ width_of k → ((p : ℕ) → p < width_of k → get_or xs p 0 ≡ s.columns k p) → xs ≡ column_of c e s k
    column_by_cells xs long cells = fill_by_all (s.columns k) xs (width_of k) 0 long cells

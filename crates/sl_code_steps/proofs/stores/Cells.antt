-- Columns of cells, and what a write changes.
use Rattle.std.proofs.Common.{◌≡◌, ℕ, ◌<◌, Bool, true, false, ◌==◌, ◌&&◌, List, [], length, map, get_or, slice_get, set, Option, Some, None, if◌then◌else◌, refl, sym, ap, ◌∙◌, arith}
use Rattle.std.specs.Option.{option_and_then}
use Rattle.std.proofs.lemmas.Grind.{common_steps}
use Rattle.std.proofs.lemmas.List.{get_or-map, length-map, map-set, set-get_or}
use Rattle.std.proofs.lemmas.Option.{slice_get_within, get_or_from_slice_get}
use Rattle.sl_code_semantics.specs.State.{State}
use Rattle.sl_code_semantics.specs.Effects.{Effect, given}

-- the cell that is recorded of a place in a slot's column
abbrev pub cell_in : List (List ℕ) → ℕ → ℕ → ℕ
cell_in css k p = get_or (get_or css k []) p 0

width_at : (css : List (List ℕ)) (k : ℕ) → k < length css → length (get_or css k []) ≡ get_or (map length css) k 0
width_at css k h = sym (get_or-map length css k [] 0 h)

-- another column in a slot
column_set : (css : List (List ℕ)) (k : ℕ) (xs : List ℕ) (q p : ℕ) → k < length css
    → cell_in (set css k xs) q p ≡ (if q == k then get_or xs p 0 else cell_in css q p)
column_set css k xs q p h = grind (arith, common_steps)

widths_set : (css : List (List ℕ)) (k : ℕ) (xs : List ℕ) → k < length css → length xs ≡ get_or (map length css) k 0 → map length (set css k xs) ≡ map length css
widths_set css k xs h e =
    map-set length css k xs ∙ ap (λ (n : ℕ). set (map length css) k n) e ∙ set-get_or (map length css) k 0

-- where there is one, what is recorded of none does not matter
same_within : (css : List (List ℕ)) (k : ℕ) (xs ys : List ℕ) → k < length css → get_or css k xs ≡ get_or css k ys
same_within css k xs ys h = grind (arith, common_steps)

-- another number in a cell
cell_set : (css : List (List ℕ)) (k p v : ℕ) (q r : ℕ) → k < length css → p < length (get_or css k [])
    → cell_in (set css k (set (get_or css k []) p v)) q r ≡ (if (q == k) && (r == p) then v else cell_in css q r)
cell_set css k p v q r h g = grind (arith, common_steps)

-- what is found after two options
pub found_behind : {A B : Type 0} (o : Option A) (f : A → Option B) (y : B) (go : B → Effect) → option_and_then f o ≡ Some y → given o (λ x. given (f x) go) ≡ go y
found_behind None f y go h = cc
found_behind (Some x) f y go h = rw h refl

-- states that differ in no cell are the same
pub same_columns : (s : State) (f g : ℕ → ℕ → ℕ) → ((q r : ℕ) → f q r ≡ g q r) → ◌≡◌ {A = State} (record s { columns = f }) (record s { columns = g })
same_columns s f g h = λ i. record s { columns = λ q r. h q r i }

picked : (b : Bool) (xs : List ℕ) (f g : ℕ → ℕ) (r : ℕ) → ((p : ℕ) → get_or xs p 0 ≡ f p) → (if b then get_or xs r 0 else g r) ≡ (if b then f else g) r
picked true xs f g r h = h r
picked false xs f g r h = refl

-- ---- a column of those of a store
module _ (css : List (List ℕ)) (k : ℕ) (xs : List ℕ) (there : k < length css) (is : xs ≡ get_or css k xs) where
  pub column_here : xs ≡ get_or css k []
  column_here = is ∙ same_within css k xs [] there

  pub width_is : length xs ≡ get_or (map length css) k 0
  width_is = ap length column_here ∙ width_at css k there

  pub widths_kept : (ys : List ℕ) → length ys ≡ length xs → map length (set css k ys) ≡ map length css
  widths_kept ys h = widths_set css k ys there (h ∙ width_is)

  pub cells_written : (ys : List ℕ) (p v : ℕ) → ys ≡ set xs p v → p < length xs → (q r : ℕ)
      → cell_in (set css k ys) q r ≡ (if (q == k) && (r == p) then v else cell_in css q r)
  cells_written ys p v h g q r =
      let written = h ∙ ap (λ (zs : List ℕ). set zs p v) column_here in
      let within : p < length (get_or css k []) = omega (arith, g, ap length column_here) in
      ap (λ (zs : List ℕ). cell_in (set css k zs) q r) written ∙ cell_set css k p v q r there within

  pub column_written : (ys : List ℕ) (f : ℕ → ℕ) → ((p : ℕ) → get_or ys p 0 ≡ f p) → (q r : ℕ)
      → cell_in (set css k ys) q r ≡ (if q == k then f else cell_in css q) r
  column_written ys f h q r = column_set css k ys q r there ∙ picked (q == k) ys f (cell_in css q) r h

-- the column of a slot, by the widths of all
module _ (css : List (List ℕ)) {k slot : ℕ} {xs : List ℕ} (at : k ≡ slot) (is : xs ≡ get_or css k xs) where
  column_there : slot < length (map length css) → k < length css
  column_there low = omega (arith, low, at, length-map css length)

  width_there : (there : k < length css) → length xs ≡ get_or (map length css) slot 0
  width_there there = width_is css k xs there is ∙ ap (λ (j : ℕ). get_or (map length css) j 0) at

  pub column_of_width : {n : ℕ} → slice_get (map length css) slot ≡ Some n → (k < length css) × (length xs ≡ n)
  column_of_width {n} width =
      let there = column_there (slice_get_within (map length css) slot n width) in
      (there, width_there there ∙ get_or_from_slice_get (map length css) slot n 0 width)

  pub place_in_column : {ws : List ℕ} {place : ℕ} → map length css ≡ ws → slot < length ws → place < get_or ws slot 0 → (k < length css) × (place < length xs)
  place_in_column {ws} {place} e low within =
      let there = column_there (omega (arith, low, ap length e)) in
      (there, omega (arith, within, width_there there, ap (λ (zs : List ℕ). get_or zs slot 0) e))

-- Tables, one row more, and rows, one part more.
use Rattle.std.proofs.Common.{◌≡◌, ◌∙◌, ◌≤◌, ℕ, ◌+◌, Bool, List, [], ◌∷◌, ◌++◌, None, Option, Some, append_assoc, ap, arith, filter, length, map, refl, sym, take}
use Rattle.std.proofs.lemmas.List.{take_all}
use Rattle.std.proofs.lemmas.Simd.{map-map}
use Rattle.std.proofs.lemmas.Slice.Zip.{length-zip}
use Rattle.std.specs.List.{flat_map, range_with_len, zip}
use Rattle.std.specs.Prelude.{if◌then◌else◌, min, slice_get}
use Rattle.sl_report_forms.specs.Cells.{Content}
use Rattle.sl_report_forms.specs.Tables.{Table, with_rows}
use Rattle.sl_report_parties.proofs.Steps.{filtered_more, kept_more, map_next, mapped_more, pieces_more}

rows_then : (t before after : Table) (xs ys : List (List Content)) → before ≡ with_rows t xs → after ≡ with_rows before ys → after ≡ with_rows t (xs ++ ys)
rows_then t before after xs ys so_far more =
    more ∙ ap (λ b. with_rows b ys) so_far ∙ ap (λ rows. record t { rows = rows }) (append_assoc t.rows xs ys)

-- the row of one number more
pub rows_mapped : (f : ℕ → List Content) (n : ℕ) (t before after : Table) → before ≡ with_rows t (map f (range_with_len 0 n)) → after ≡ with_rows before (f n ∷ []) →
    after ≡ with_rows t (map f (range_with_len 0 (n + 1)))
rows_mapped f n t before after so_far more =
    rows_then t before after (map f (range_with_len 0 n)) (f n ∷ []) so_far more
    ∙ ap (with_rows t) (mapped_more f n (map f (range_with_len 0 n)) (map f (range_with_len 0 n) ++ f n ∷ []) (f n) refl refl refl)

-- the row of all together, and then that of each of them
pub rows_compared : (f : Option ℕ → List Content) (ns : List ℕ) (t first after : Table) → first ≡ with_rows t (f None ∷ []) →
    after ≡ with_rows first (map (λ n. f (Some n)) ns) → after ≡ with_rows t (map f (None ∷ map Some ns))
rows_compared f ns t first after all each =
    rows_then t first after (f None ∷ []) (map (λ n. f (Some n)) ns) all each ∙ ap (λ rows. with_rows t (f None ∷ rows)) (sym (map-map f Some ns))

-- the row of one number more, if it passes a test
pub rows_filtered : (f : ℕ → List Content) (p : ℕ → Bool) (n : ℕ) (t before after : Table) → before ≡ with_rows t (map f (filter p (range_with_len 0 n))) →
    after ≡ with_rows before (if p n then f n ∷ [] else []) → after ≡ with_rows t (map f (filter p (range_with_len 0 (n + 1))))
rows_filtered f p n t before after so_far more =
    rows_then t before after (map f (filter p (range_with_len 0 n))) (if p n then f n ∷ [] else []) so_far more
    ∙ ap (with_rows t) (
    filtered_more f p n (map f (filter p (range_with_len 0 n))) (map f (filter p (range_with_len 0 n)) ++ (if p n then f n ∷ [] else [])) (p n) refl refl refl)

-- the rows of one number more
pub rows_pieces : (f : ℕ → List (List Content)) (n : ℕ) (t before after : Table) → before ≡ with_rows t (flat_map f (range_with_len 0 n)) → after ≡ with_rows before (f n) →
    after ≡ with_rows t (flat_map f (range_with_len 0 (n + 1)))
rows_pieces f n t before after so_far more =
    rows_then t before after (flat_map f (range_with_len 0 n)) (f n) so_far more
    ∙ ap (with_rows t) (pieces_more f n (flat_map f (range_with_len 0 n)) (flat_map f (range_with_len 0 n) ++ f n) refl refl)

-- the row of one element more
pub rows_next : {X : Type 0} (f : X → List Content) (xs : List X) (i : ℕ) (x : X) (t before after : Table) → slice_get xs i ≡ Some x →
    before ≡ with_rows t (map f (take i xs)) → after ≡ with_rows before (f x ∷ []) → after ≡ with_rows t (map f (take (i + 1) xs))
rows_next f xs i x t before after at so_far more =
    rows_then t before after (map f (take i xs)) (f x ∷ []) so_far more
    ∙ ap (with_rows t) (map_next f xs i x (map f (take i xs)) (map f (take i xs) ++ f x ∷ []) (f x) at refl refl refl)

-- the row of one element more, if it passes a test
pub rows_kept : {X : Type 0} (f : X → List Content) (p : X → Bool) (xs : List X) (i : ℕ) (x : X) (t before after : Table) → slice_get xs i ≡ Some x →
    before ≡ with_rows t (map f (filter p (take i xs))) → after ≡ with_rows before (if p x then f x ∷ [] else []) →
    after ≡ with_rows t (map f (filter p (take (i + 1) xs)))
rows_kept f p xs i x t before after at so_far more =
    rows_then t before after (map f (filter p (take i xs))) (if p x then f x ∷ [] else []) so_far more
    ∙ ap (with_rows t) (kept_more f p xs i x (map f (filter p (take i xs))) (map f (filter p (take i xs)) ++ (if p x then f x ∷ [] else [])) at refl refl)

-- all elements of two lists side by side are through, of which the second is another name of a list
pub rows_of_pairs : {A B : Type 0} (f : A × B → List Content) (p : A × B → Bool) (xs : List A) (given ys : List B) (i : ℕ) (t blank after : Table) → given ≡ ys →
    min (length xs) (length given) ≤ i → t ≡ blank → after ≡ with_rows t (map f (filter p (take i (zip xs given)))) → after ≡ with_rows blank (map f (filter p (zip xs ys)))
rows_of_pairs f p xs given ys i t blank after same past is so_far =
    so_far ∙ ap (λ b. with_rows b (map f (filter p (take i (zip xs given))))) is
    ∙ ap (λ zs. with_rows blank (map f (filter p zs))) (take_all i (zip xs given) (omega (arith, past, length-zip xs given)) ∙ ap (zip xs) same)

-- all rows, over a table that is blank
pub rows_end : {X : Type 0} (f : List X → List (List Content)) (xs : List X) (i : ℕ) (t blank after : Table) → length xs ≤ i → t ≡ blank → after ≡ with_rows t (f (take i xs)) → after ≡ with_rows blank (f xs)
rows_end f xs i t blank after past is so_far = so_far ∙ ap (λ ys. with_rows t (f ys)) (take_all i xs past) ∙ ap (λ b. with_rows b (f xs)) is

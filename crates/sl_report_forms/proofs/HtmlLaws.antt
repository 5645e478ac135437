-- Escaped HTML: what is written of a character, that it has no markup, and that it reads back; and rows, one cell more.
use Rattle.std.proofs.Common.{◌≡◌, ◌∙◌, ◌⊎◌, ◌||◌, inl, inr, ◌<◌, ◌≤◌, ℕ, zero, suc, ◌+◌, Bool, true, false, List, [], ◌∷◌, ◌++◌, Option, Some, None, String, add-one, ap, append_assoc, arith, codes, get_or, length, map, refl, string_bytes, subst, sym, take, if◌then◌else◌}
use Rattle.std.specs.Prelude.{◌==◌, option_map, slice_get}
use Rattle.std.specs.Borrow.{Bor}
use Rattle.std.specs.List.{flat_map, list_any, zip}
use Rattle.std.specs.Slice.{IsItemAt}
use Rattle.std.proofs.lemmas.Bool.{cases_eq, ne_eqb}
use Rattle.std.proofs.lemmas.Bool.Decides.{nat_tests}
use Rattle.std.proofs.lemmas.List.{append-nil}
use Rattle.std.proofs.lemmas.List.Concat.{flat_map-append}
use Rattle.std.proofs.lemmas.Option.{slice_get-get_or, slice_get-map}
use Rattle.sl_report_forms.specs.Drafts.{Grows}
use Rattle.sl_report_forms.specs.HtmlForm.{html_byte, html_cell, html_cells, html_escaped, is_markup, read_entities, tag_at}
use Rattle.sl_report_forms.specs.declared.html_form.Tag.{Tag}
use Rattle.sl_report_forms.specs.declared.shown.ShownColumn.{ShownColumn}
use Rattle.sl_report_forms.proofs.ShownSteps.{grow_as, grow_more, item_at}

pub html_plain : (b : ℕ) → 128 ≤ b → html_byte b ≡ b ∷ []
html_plain b high = grind (arith, nat_tests)

-- ---- what is escaped
plain_byte : (c : ℕ) → (c == 38) ≡ false → (c == 60) ≡ false → (c == 62) ≡ false → (c == 34) ≡ false → html_byte c ≡ c ∷ []
plain_byte c e f g h =
    ap (λ t. if t then codes "&amp;" else if c == 60 then codes "&lt;" else if c == 62 then codes "&gt;" else if c == 34 then codes "&quot;" else c ∷ []) e
    ∙ ap (λ t. if t then codes "&lt;" else if c == 62 then codes "&gt;" else if c == 34 then codes "&quot;" else c ∷ []) f
    ∙ ap (λ t. if t then codes "&gt;" else if c == 34 then codes "&quot;" else c ∷ []) g
    ∙ ap (λ t. if t then codes "&quot;" else c ∷ []) h

-- what holds of the four that are escaped, and of each other byte
module _ (P : ℕ → List ℕ → Type 0) (amp : P 38 (codes "&amp;")) (lt : P 60 (codes "&lt;")) (gt : P 62 (codes "&gt;")) (quot : P 34 (codes "&quot;"))
    (other : (c : ℕ) → (c == 38) ≡ false → (c == 60) ≡ false → (c == 62) ≡ false → (c == 34) ≡ false → P c (c ∷ [])) where
  each_byte : (c : ℕ) → P c (html_byte c)
  each_byte c = go (cases_eq c 38) (cases_eq c 60) (cases_eq c 62) (cases_eq c 34) where
    go : (c ≡ 38) ⊎ (c ≡ 38 → ⊥) → (c ≡ 60) ⊎ (c ≡ 60 → ⊥) → (c ≡ 62) ⊎ (c ≡ 62 → ⊥) → (c ≡ 34) ⊎ (c ≡ 34 → ⊥) → P c (html_byte c)
    go (inl e) f g h = subst (λ k. P k (html_byte k)) (sym e) amp
    go (inr e) (inl f) g h = subst (λ k. P k (html_byte k)) (sym f) lt
    go (inr e) (inr f) (inl g) h = subst (λ k. P k (html_byte k)) (sym g) gt
    go (inr e) (inr f) (inr g) (inl h) = subst (λ k. P k (html_byte k)) (sym h) quot
    go (inr e) (inr f) (inr g) (inr h) =
        let a = ne_eqb c 38 e in let b = ne_eqb c 60 f in let d = ne_eqb c 62 g in let k = ne_eqb c 34 h in
        subst (P c) (sym (plain_byte c a b d k)) (other c a b d k)

no_markup_at : (c : ℕ) → list_any is_markup (html_byte c) ≡ false
no_markup_at = each_byte (λ c bytes. list_any is_markup bytes ≡ false) refl refl refl refl (λ c e f g h. ap (λ t. (t || (c == 62 || c == 34)) || false) f ∙ ap (λ t. (t || c == 34) || false) g ∙ ap (λ t. t || false) h)

any-append : (xs ys : List ℕ) → list_any is_markup xs ≡ false → list_any is_markup ys ≡ false → list_any is_markup (xs ++ ys) ≡ false
any-append [] ys p q = q
any-append (x ∷ xs) ys p q = go (is_markup x) p (λ h. any-append xs ys h q) where
  go : (b : Bool) → (b || list_any is_markup xs) ≡ false → (list_any is_markup xs ≡ false → list_any is_markup (xs ++ ys) ≡ false) → (b || list_any is_markup (xs ++ ys)) ≡ false
  go true h rest = h
  go false h rest = rest h

-- what is escaped has no markup, and it reads back
pub no_markup : (text : List ℕ) → list_any is_markup (html_escaped text) ≡ false
no_markup [] = refl
no_markup (c ∷ text) = any-append (html_byte c) (html_escaped text) (no_markup_at c) (no_markup text)

entities_read_at : (rest : List ℕ) (c : ℕ) → read_entities None (html_byte c ++ rest) ≡ c ∷ read_entities None rest
entities_read_at rest =
    each_byte (λ c bytes. read_entities None (bytes ++ rest) ≡ c ∷ read_entities None rest) refl refl refl refl
    (λ c e f g h. ap (λ t. if t then read_entities (Some []) rest else c ∷ read_entities None rest) e)

pub entities_read_back : (text : List ℕ) → read_entities None (html_escaped text) ≡ text
entities_read_back [] = refl
entities_read_back (c ∷ text) = entities_read_at (html_escaped text) c ∙ ap (λ xs. c ∷ xs) (entities_read_back text)

-- ---- rows
pub zip_more : {A B : Type 0} (xs : List A) (ys : List B) (i : ℕ) (x : A) (y : B) → slice_get xs i ≡ Some x → slice_get ys i ≡ Some y →
    zip (take (suc i) xs) ys ≡ zip (take i xs) ys ++ (x, y) ∷ []
zip_more [] ys i x y p q = cc
zip_more (a ∷ xs) [] i x y p q = cc
zip_more (a ∷ xs) (b ∷ ys) zero x y p q = let e : a ≡ x = cc in let f : b ≡ y = cc in ap (λ v. (v, b) ∷ []) e ∙ ap (λ v. (x, v) ∷ []) f
zip_more (a ∷ xs) (b ∷ ys) (suc i) x y p q = ap (λ zs. (a, b) ∷ zs) (zip_more xs ys i x y p q)

pub zip_same : {A B : Type 0} (xs : List A) (ys : List B) (i : ℕ) → slice_get ys i ≡ None → zip (take (suc i) xs) ys ≡ zip (take i xs) ys
zip_same [] ys zero q = refl
zip_same [] ys (suc i) q = refl
zip_same (a ∷ xs) [] zero q = refl
zip_same (a ∷ xs) [] (suc i) q = refl
zip_same (a ∷ xs) (b ∷ ys) zero q = cc
zip_same (a ∷ xs) (b ∷ ys) (suc i) q = ap (λ zs. (a, b) ∷ zs) (zip_same xs ys i q)

cells_more : (t u : Tag) (columns : List ShownColumn) (texts : List (List ℕ)) (i : ℕ) (column : ShownColumn) (text : List ℕ) → slice_get columns i ≡ Some column →
    slice_get texts i ≡ Some text → html_cells t u (zip (take (suc i) columns) texts) ≡ html_cells t u (zip (take i columns) texts) ++ html_cell (tag_at t u i) (column, text)
cells_more t u [] texts i column text p q = cc
cells_more t u (a ∷ columns) [] i column text p q = cc
cells_more t u (a ∷ columns) (b ∷ texts) zero column text p q =
    let e : a ≡ column = cc in let f : b ≡ text = cc in
    append-nil (html_cell t (a, b)) ∙ ap (λ v. html_cell t (v, b)) e ∙ ap (λ v. html_cell t (column, v)) f
cells_more t u (a ∷ columns) (b ∷ texts) (suc i) column text p q =
    let cells = zip (take i columns) texts in
    ap (λ zs. html_cell t (a, b) ++ flat_map (html_cell u) zs) (zip_more columns texts i column text p q)
    ∙ ap (λ zs. html_cell t (a, b) ++ zs) (flat_map-append (html_cell u) cells ((column, text) ∷ []) ∙ ap (λ zs. flat_map (html_cell u) cells ++ zs) (append-nil (html_cell u (column, text))))
    ∙ sym (append_assoc (html_cell t (a, b)) (flat_map (html_cell u) cells) (html_cell u (column, text)))
    ∙ ap (λ k. (html_cell t (a, b) ++ flat_map (html_cell u) cells) ++ html_cell (if k then t else u) (column, text)) (sym (ne_eqb (suc i) 0 (λ e. omega (arith, e))))

-- the bytes of the text at a place, if there is one
pub text_at : {Z : Type 0} (row : List (String Z)) (i : ℕ) (r o : Option (Bor (String Z))) → IsItemAt row i r → r ≡ o →
    slice_get (map string_bytes row) i ≡ option_map string_bytes (option_map (λ x. x.now) o)
text_at row i r o at is = slice_get-map string_bytes row i ∙ ap (option_map string_bytes) (sym (item_at row i r at) ∙ ap (option_map (λ x. x.now)) is)

module _ {Z : Type 0} (t u : Tag) (columns : List ShownColumn) (row : List (String Z)) (i : ℕ) (r : Option (Bor (String Z))) (at : IsItemAt row i r) where
  -- one cell more, and none
  pub row_more : (d : ShownColumn) (x : Bor (String Z)) (a b c : Option (List ℕ)) → i < length columns → r ≡ Some x →
      Grows a b (codes "<tr>" ++ html_cells t u (zip (take i columns) (map string_bytes row))) → Grows b c (html_cell (tag_at t u i) (get_or columns i d, string_bytes x.now)) →
      Grows a c (codes "<tr>" ++ html_cells t u (zip (take (i + 1) columns) (map string_bytes row)))
  row_more d x a b c within is so_far more =
      grow_as a c _ _ (grow_more a b c _ _ so_far more) (
      ap (λ xs. codes "<tr>" ++ xs) (
      sym (ap (λ n. html_cells t u (zip (take n columns) (map string_bytes row))) (add-one i)
      ∙ cells_more t u columns (map string_bytes row) i (get_or columns i d) (string_bytes x.now) (slice_get-get_or columns i d within) (text_at row i r (Some x) at is))))

  pub row_same : (a b : Option (List ℕ)) → r ≡ None → Grows a b (codes "<tr>" ++ html_cells t u (zip (take i columns) (map string_bytes row))) →
      Grows a b (codes "<tr>" ++ html_cells t u (zip (take (i + 1) columns) (map string_bytes row)))
  row_same a b is so_far =
      grow_as a b _ _ so_far (
      ap (λ cells. codes "<tr>" ++ html_cells t u cells) (
      sym (ap (λ n. zip (take n columns) (map string_bytes row)) (add-one i)
      ∙ zip_same columns (map string_bytes row) i (text_at row i r None at is))))

-- Aligned text, one step more: the begin of a text, the texts beside their columns, the widest of them, and the columns.
use Rattle.std.proofs.Common.{◌≡◌, ◌∙◌, ◌<◌, ◌≤◌, ◌+◌, ◌-◌, ◌⊎◌, ℕ, zero, suc, Bool, List, [], ◌∷◌, ◌++◌, Option, Some, None, Result, Ok, IfSome, String, add-one, ap, arith, append-nil, append_assoc, codes, false, get_or, if◌then◌else◌, length, map, inl, inr, refl, string_bytes, subst, sym, take, true}
use Rattle.std.specs.Prelude.{◌&&◌, ◌||◌, nat_lt, not}
use Rattle.std.specs.Borrow.{Bor}
use Rattle.std.specs.Char.{encode_utf8}
use Rattle.std.specs.List.{enumerate_from, flat_map, sum_by, zip}
use Rattle.std.specs.Slice.{IsItemAt}
use Rattle.std.specs.Str.{IsUtf8, chars, encode_utf8_all}
use Rattle.std.proofs.Math.ListN.{length-take}
use Rattle.std.proofs.lemmas.Bool.{cases_lt, le-ltb, lt-ltb}
use Rattle.std.proofs.lemmas.List.{length-append, map_push, take_more}
use Rattle.std.proofs.lemmas.List.Sums.{sum_by-cons}
use Rattle.std.proofs.lemmas.Option.{slice_get-get_or}
use Rattle.std.proofs.lemmas.Str.{cons_from_encodes, encodes-append, encodes-chars, encodes_same}
use Rattle.sl_explain_texts.specs.Gains.{Gains}
use Rattle.sl_report_forms.specs.Drafts.{Grows}
use Rattle.sl_report_forms.specs.Shown.{View}
use Rattle.sl_report_forms.specs.TextForm.{IsLongestBegin, aligned_block, aligned_line, aligned_table, begin_under, char_columns, column_in, columns_of, cut_lines, fits, is_whole, whole_lines}
use Rattle.sl_report_forms.specs.declared.shown.ShownColumn.{ShownColumn}
use Rattle.sl_report_forms.specs.declared.text_form.Column.{Column}
use Rattle.sl_report_forms.proofs.HtmlLaws.{text_at, zip_more, zip_same}
use Rattle.sl_report_forms.proofs.ShownSteps.{bytes_next, enumerate-append, gained, grow_as, grow_more, grow_none}

-- ---- the begin of a text: what is written of it, and what is left, which takes fewer columns than are left
abbrev pub BeginSoFar : ℕ → ℕ → List ℕ → List ℕ → Option (List ℕ) → Option (List ℕ) → Type 0
BeginSoFar most left text rest a b =
    (done cs : List ℕ) × (encode_utf8_all cs ≡ rest) × (begin_under most (chars text) ≡ done ++ begin_under left cs) × Grows a b (encode_utf8_all done)

pub begin_none : (most : ℕ) (text rest : List ℕ) (a : Option (List ℕ)) → IsUtf8 text → rest ≡ text → BeginSoFar most most text rest a a
begin_none most text rest a u e = ([], chars text, encodes-chars text u ∙ sym e, refl, grow_none a)

pub begin_more : (most left c width : ℕ) (text rest next : List ℕ) (a b d : Option (List ℕ)) → BeginSoFar most left text rest a b → rest ≡ encode_utf8 c ++ next →
    width ≡ char_columns c → width < left → Grows b d (encode_utf8 c) → BeginSoFar most (left - width) text next a d
begin_more most left c width text rest next a b d h e is less more =
    let below : nat_lt (char_columns c) left ≡ true = lt-ltb (char_columns c) left (subst (λ n. n < left) is less) in
    let split = cons_from_encodes h.1 next c (h.2 ∙ e) in
    let cs = split.0 in (
      h.0 ++ c ∷ [],
      cs,
      split.2,
      h.3 ∙ ap (λ xs. h.0 ++ begin_under left xs) split.1 ∙ ap (λ t. h.0 ++ (if t then c ∷ begin_under (left - char_columns c) cs else [])) below
          ∙ ap (λ n. h.0 ++ c ∷ begin_under (left - n) cs) (sym is)
          ∙ sym (append_assoc h.0 (c ∷ []) (begin_under (left - width) cs)),
      grow_as a d _ _ (grow_more a b d _ _ h.4 more) (ap (λ xs. encode_utf8_all h.0 ++ xs) (sym (append-nil (encode_utf8 c))) ∙ sym (encodes-append h.0 (c ∷ []))),
    )

begin_whole : (most left : ℕ) (text rest cs done : List ℕ) (a b : Option (List ℕ)) → begin_under most (chars text) ≡ done ++ begin_under left cs → begin_under left cs ≡ [] →
    Grows a b (encode_utf8_all done) → Grows a b (encode_utf8_all (begin_under most (chars text)))
begin_whole most left text rest cs done a b e none g = grow_as a b _ _ g (ap encode_utf8_all (sym (e ∙ ap (λ xs. done ++ xs) none ∙ append-nil done)))

-- where the next character takes too many columns, and where there is none
pub begin_stops : (most left c width : ℕ) (text rest next : List ℕ) (a b : Option (List ℕ)) → BeginSoFar most left text rest a b → rest ≡ encode_utf8 c ++ next →
    width ≡ char_columns c → left ≤ width → Grows a b (encode_utf8_all (begin_under most (chars text)))
begin_stops most left c width text rest next a b h e is more =
    let past : nat_lt (char_columns c) left ≡ false = le-ltb (char_columns c) left (subst (λ n. left ≤ n) is more) in
    let split = cons_from_encodes h.1 next c (h.2 ∙ e) in
    begin_whole most left text rest h.1 h.0 a b h.3
    (ap (begin_under left) split.1 ∙ ap (λ t. if t then c ∷ begin_under (left - char_columns c) split.0 else []) past) h.4

pub begin_ends : (most left : ℕ) (text rest : List ℕ) (a b : Option (List ℕ)) → BeginSoFar most left text rest a b → length rest ≡ 0 →
    Grows a b (encode_utf8_all (begin_under most (chars text)))
begin_ends most left text (x ∷ rest) a b h e = absurd (omega (arith, e))
begin_ends most left text [] a b h e = begin_whole most left text [] h.1 h.0 a b h.3 (ap (begin_under left) (encodes_same h.1 [] h.2)) h.4

-- it is the longest one
begin_cons : (most c : ℕ) (cs begin : List ℕ) → char_columns c < most → IsLongestBegin (most - char_columns c) cs begin → IsLongestBegin most (c ∷ cs) (c ∷ begin)
begin_cons most c cs begin less h = record {
  begins = ap (λ xs. c ∷ xs) h.begins;
  fits = inr (elim h.fits [
    | inl e ↦ subst (λ n. n < most) (sym (sum_by-cons char_columns c begin ∙ ap (λ xs. char_columns c + sum_by char_columns xs) e)) (omega (arith, less))
    | inr low ↦ omega (arith, less, low, sum_by-cons char_columns c begin)
  ]);
  longest = go;
}
  where
    go : (n : ℕ) → length (c ∷ begin) < n → n ≤ length (c ∷ cs) → most ≤ sum_by char_columns (take n (c ∷ cs))
    go zero more within = absurd (omega (arith, more))
    go (suc n) more within = omega (arith, less, h.longest n (omega (arith, more)) (omega (arith, within)), sum_by-cons char_columns c (take n cs))

begin_nil : (most c : ℕ) (cs : List ℕ) → most ≤ char_columns c → IsLongestBegin most (c ∷ cs) []
begin_nil most c cs high = record { begins = refl; fits = inl refl; longest = go } where
  go : (n : ℕ) → 0 < n → n ≤ length (c ∷ cs) → most ≤ sum_by char_columns (take n (c ∷ cs))
  go zero more within = absurd (omega (arith, more))
  go (suc n) more within = omega (arith, high, sum_by-cons char_columns c (take n cs))

pub longest_begin : (most : ℕ) (cs : List ℕ) → IsLongestBegin most cs (begin_under most cs)
longest_begin most [] = record { begins = refl; fits = inl refl; longest = λ n more within. absurd (omega (arith, more, within)) }
longest_begin most (c ∷ cs) = go (cases_lt (char_columns c) most) (longest_begin (most - char_columns c) cs) where
  go : (char_columns c < most) ⊎ (most ≤ char_columns c) → IsLongestBegin (most - char_columns c) cs (begin_under (most - char_columns c) cs) →
      IsLongestBegin most (c ∷ cs) (begin_under most (c ∷ cs))
  go (inl less) rest =
      subst (IsLongestBegin most (c ∷ cs)) (sym (ap (λ t. if t then c ∷ begin_under (most - char_columns c) cs else []) (lt-ltb (char_columns c) most less)))
      (begin_cons most c cs (begin_under (most - char_columns c) cs) less rest)
  go (inr high) rest =
      subst (IsLongestBegin most (c ∷ cs)) (sym (ap (λ t. if t then c ∷ begin_under (most - char_columns c) cs else []) (le-ltb (char_columns c) most high))) (begin_nil most c cs high)

-- ---- the texts of a line beside their columns, one column more
module _ {A Z : Type 0} (columns : List A) (line : List (String Z)) (i : ℕ) (r : Option (Bor (String Z))) (at : IsItemAt line i r) where
  pub beside_more : (d : A) (x : Bor (String Z)) → i < length columns → r ≡ Some x →
      zip (take (i + 1) columns) (map string_bytes line) ≡ zip (take i columns) (map string_bytes line) ++ (get_or columns i d, string_bytes x.now) ∷ []
  beside_more d x within is =
      ap (λ n. zip (take n columns) (map string_bytes line)) (add-one i)
      ∙ zip_more columns (map string_bytes line) i (get_or columns i d) (string_bytes x.now) (slice_get-get_or columns i d within) (text_at line i r (Some x) at is)

  pub beside_same : r ≡ None → zip (take (i + 1) columns) (map string_bytes line) ≡ zip (take i columns) (map string_bytes line)
  beside_same is =
      ap (λ n. zip (take n columns) (map string_bytes line)) (add-one i)
      ∙ zip_same columns (map string_bytes line) i (text_at line i r None at is)

-- the bytes of one item more, after other bytes
pub grow_after : {X Y : Type 0} (g : X → Y) (f : Y → List ℕ) (before : List ℕ) (xs : List X) (i : ℕ) (x : X) (a b c : Option (List ℕ)) → i < length xs → x ≡ get_or xs i x →
    Grows a b (before ++ flat_map f (map g (take i xs))) → Grows b c (f (g x)) → Grows a c (before ++ flat_map f (map g (take (i + 1) xs)))
grow_after g f before xs i x a b c within is so_far more =
    grow_as a c _ _ (grow_more a b c _ _ so_far more)
    (append_assoc before (flat_map f (map g (take i xs))) (f (g x)) ∙ ap (λ ys. before ++ ys) (sym (bytes_next g f xs i x within is)))

-- ---- one column more
pub columns_more : (columns : List ShownColumn) (lines : List (List (List ℕ))) (i : ℕ) (d : ShownColumn) (made : Column) (before after : Option (List Column)) → i < length columns →
    made ≡ column_in lines (i, get_or columns i d) → Gains {E = ℕ} before after (Ok made) → IfSome before (λ cs. cs ≡ columns_of (take i columns) lines) →
    IfSome after (λ cs. cs ≡ columns_of (take (i + 1) columns) lines)
columns_more columns lines i d made before after within is g so_far =
    let x = get_or columns i d in
    let n : 0 + length (take i columns) ≡ i = omega (arith, length-take i columns) in
    let next : columns_of (take (i + 1) columns) lines ≡ columns_of (take i columns) lines ++ column_in lines (i, x) ∷ [] =
    ap (λ cs. columns_of cs lines) (take_more columns i d within)
    ∙ ap (map (column_in lines)) (enumerate-append 0 (take i columns) x ∙ ap (λ m. enumerate_from 0 (take i columns) ++ (m, x) ∷ []) n)
    ∙ map_push (column_in lines) (enumerate_from 0 (take i columns)) (i, x) in
    let r : Result Column ℕ = Ok made in
    gained (λ cs. cs ≡ columns_of (take i columns) lines) (λ cs. cs ≡ columns_of (take (i + 1) columns) lines) before after r g so_far
    (λ y ys e so. let same : made ≡ y = cc in
    ap (λ zs. zs ++ y ∷ []) so ∙ ap (λ z. columns_of (take i columns) lines ++ z ∷ []) (sym same ∙ is) ∙ sym next)

-- ---- which tables are whole
module _ (v : View) where
  abbrev whole : List Column
  whole = columns_of v.columns (whole_lines v)

  abbrev cut : List Column
  cut = columns_of v.columns (cut_lines v)

  pub table_is : (t : Bool) (columns : List Column) (lines : List (List (List ℕ))) → is_whole v ≡ t → columns ≡ columns_of v.columns (if t then whole_lines v else cut_lines v) →
      lines ≡ (if t then whole_lines v else cut_lines v) → flat_map (aligned_line columns) lines ≡ aligned_table v
  table_is t columns lines is e f =
      ap (λ cs. flat_map (aligned_line cs) lines) e ∙ ap (flat_map (aligned_line (columns_of v.columns (if t then whole_lines v else cut_lines v)))) f
      ∙ ap (λ b. let ls = if b then whole_lines v else cut_lines v in flat_map (aligned_line (columns_of v.columns ls)) ls) (sym is)

  pub whole_narrow : fits 80 whole ≡ true → is_whole v ≡ true
  whole_narrow e = ap (λ t. t || (fits 100 whole && not (fits 80 cut))) e

  pub whole_wide : fits 80 whole ≡ false → fits 100 whole ≡ true → fits 80 cut ≡ false → is_whole v ≡ true
  whole_wide e f g = ap (λ t. t || (fits 100 whole && not (fits 80 cut))) e ∙ ap (λ t. t && not (fits 80 cut)) f ∙ ap not g

  pub cut_wide : fits 80 whole ≡ false → fits 100 whole ≡ false → is_whole v ≡ false
  cut_wide e f = ap (λ t. t || (fits 100 whole && not (fits 80 cut))) e ∙ ap (λ t. t && not (fits 80 cut)) f

  pub cut_narrow : fits 80 whole ≡ false → fits 80 cut ≡ true → is_whole v ≡ false
  cut_narrow e f = ap (λ t. t || (fits 100 whole && not (fits 80 cut))) e ∙ ap (λ t. fits 100 whole && not t) f ∙ never (fits 100 whole) where
    never : (b : Bool) → b && false ≡ false
    never true = refl
    never false = refl

pub block_begins : (v : View) → 0 < length (aligned_block v)
block_begins v = subst (λ n. 0 < n) (sym (length-append (v.title ++ codes "\n") (aligned_table v))) (omega (arith, length-append v.title (codes "\n")))

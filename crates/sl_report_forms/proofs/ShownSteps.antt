-- Texts and lists that are being written, one part more.
use Rattle.std.proofs.Common.{◌≡◌, ◌∙◌, ◌⊎◌, ◌<◌, ◌≤◌, ℕ, suc, ◌+◌, Bool, true, false, cond, List, [], ◌∷◌, ◌++◌, Option, Some, None, Result, Ok, Err, String, IfSome, IfOk, length, take, drop, get_or, map, filter, add-zero, append_assoc, ap, arith, refl, sym, subst, inl, inr, string_bytes}
use Rattle.std.specs.Prelude.{◌==◌, not, option_map, option_to_list, slice_get}
use Rattle.std.specs.List.{cons_option, enumerate_from, filter_map, flat_map}
use Rattle.std.specs.Char.{encode_utf8}
use Rattle.std.specs.Io.KnownBytes.{append_known}
use Rattle.std.specs.Borrow.{Bor}
use Rattle.std.specs.Slice.{IsItemAt}
use Rattle.std.proofs.lemmas.Bool.{cases_lt, ltb-false, ltb-true}
use Rattle.std.proofs.lemmas.List.{append-nil, take-append-drop, map_push, take_more}
use Rattle.std.proofs.Math.ListN.{length-take}
use Rattle.std.proofs.lemmas.List.Concat.{flat_map-append}
use Rattle.std.proofs.lemmas.List.Elements.{filter-append, filter_map-append}
use Rattle.std.proofs.lemmas.Option.{get_or_from_slice_get, slice_get-get_or, slice_get_past, slice_get_within}
use Rattle.std.proofs.lemmas.Str.{encode_ascii, inside_one}
use Rattle.sl_explain_texts.specs.Gains.{Gains}
use Rattle.sl_explain_texts.specs.declared.language.Language.{Language}
use Rattle.sl_report_forms.specs.Drafts.{Grows}
use Rattle.sl_report_forms.specs.Shown.{place_of, has_view, in_columns, view_in, view_of, views_of}
use Rattle.sl_report_forms.specs.declared.names.Names.{Names}
use Rattle.sl_report_forms.specs.declared.sheet.Sheet.{Sheet}
use Rattle.sl_report_forms.specs.declared.shown.Shown.{Shown}
use Rattle.sl_report_forms.specs.declared.sheet.Head.{Head}
use Rattle.sl_report_forms.specs.declared.shown.ShownColumn.{ShownColumn}

-- ---- texts
pub grow_more : (a b c : Option (List ℕ)) (x y : List ℕ) → Grows a b x → Grows b c y → Grows a c (x ++ y)
grow_more a b c x y p (inr q) = inr q
grow_more a b c x y (inl p) (inl q) = inl (q ∙ ap (λ o. append_known o y) p ∙ join a) where
  join : (o : Option (List ℕ)) → append_known (append_known o x) y ≡ append_known o (x ++ y)
  join None = refl
  join (Some t) = ap Some (append_assoc t x y)
grow_more a b c x y (inr p) (inl q) = inr (q ∙ ap (λ o. append_known o y) p)

pub grow_none : (a : Option (List ℕ)) → Grows a a []
grow_none None = inl refl
grow_none (Some t) = inl (ap Some (sym (append-nil t)))

pub grow_as : (a b : Option (List ℕ)) (x y : List ℕ) → Grows a b x → x ≡ y → Grows a b y
grow_as a b x y g e = subst (λ z. Grows a b z) e g

take_next : {X : Type 0} (xs : List X) (i : ℕ) (x : X) → slice_get xs i ≡ Some x → take (i + 1) xs ≡ take i xs ++ x ∷ []
take_next xs i x at = take_more xs i x (slice_get_within xs i x at) ∙ ap (λ y. take i xs ++ y ∷ []) (get_or_from_slice_get xs i x x at)

pub flat_map_push : {A : Type 0} (f : A → List ℕ) (xs : List A) (x : A) → flat_map f (xs ++ x ∷ []) ≡ flat_map f xs ++ f x
flat_map_push f xs x = flat_map-append f xs (x ∷ []) ∙ ap (λ ys. flat_map f xs ++ ys) (append-nil (f x))

-- the bytes of one item more
pub bytes_next : {X Y : Type 0} (g : X → Y) (f : Y → List ℕ) (xs : List X) (i : ℕ) (x : X) → i < length xs → x ≡ get_or xs i x →
    flat_map f (map g (take (i + 1) xs)) ≡ flat_map f (map g (take i xs)) ++ f (g x)
bytes_next g f xs i x within is =
    ap (λ ys. flat_map f (map g ys)) (take_more xs i x within ∙ ap (λ y. take i xs ++ y ∷ []) (sym is))
    ∙ ap (flat_map f) (map_push g (take i xs) x) ∙ flat_map_push f (map g (take i xs)) (g x)

pub grow_next : {X Y : Type 0} (g : X → Y) (f : Y → List ℕ) (xs : List X) (i : ℕ) (x : X) (a b c : Option (List ℕ)) → i < length xs → x ≡ get_or xs i x →
    Grows a b (flat_map f (map g (take i xs))) → Grows b c (f (g x)) → Grows a c (flat_map f (map g (take (i + 1) xs)))
grow_next g f xs i x a b c within is so_far more = grow_as a c _ _ (grow_more a b c _ _ so_far more) (sym (bytes_next g f xs i x within is))

-- the text that is given at the end
pub grown_text : {E Z : Type 0} (r : Result (String Z) E) (a b : Option (List ℕ)) (bytes : List ℕ) → a ≡ Some [] → IfOk r (λ t. b ≡ Some (string_bytes t)) → Grows a b bytes →
    IfOk r (λ t. string_bytes t ≡ bytes)
grown_text (Err e) a b bytes begin told g = tt
grown_text (Ok t) a b bytes begin told (inr g) = let e : Some (string_bytes t) ≡ None = sym told ∙ g in cc
grown_text (Ok t) a b bytes begin told (inl g) = let e : Some (string_bytes t) ≡ Some bytes = sym told ∙ g ∙ ap (λ o. append_known o bytes) begin in cc

-- ---- lists
pub gained : {A E : Type 0} (P Q : List A → Type 0) (before after : Option (List A)) (r : Result A E) → Gains before after r → IfSome before P →
    ((x : A) (xs : List A) → r ≡ Ok x → P xs → Q (xs ++ x ∷ [])) → IfSome after Q
gained P Q before after (Err e) g h f = subst (λ o. IfSome o Q) (sym g) tt
gained P Q before after (Ok x) (inr g) h f = subst (λ o. IfSome o Q) (sym g) tt
gained P Q None after (Ok x) (inl g) h f = subst (λ o. IfSome o Q) (sym g) tt
gained P Q (Some xs) after (Ok x) (inl g) h f = subst (λ o. IfSome o Q) (sym g) (f x xs refl h)

-- one item more, as it is read
pub gain_more : {A B E : Type 0} (f : A → B) (ys zs : List B) (y : B) (before after : Option (List A)) (r : Result A E) → Gains before after r → IfOk r (λ x. f x ≡ y) →
    IfSome before (λ xs. map f xs ≡ ys) → zs ≡ ys ++ y ∷ [] → IfSome after (λ xs. map f xs ≡ zs)
gain_more f ys zs y before after r g here so_far e =
    gained (λ xs. map f xs ≡ ys) (λ xs. map f xs ≡ zs) before after r g so_far
    (λ x xs is h. map_push f xs x ∙ ap (λ ws. ws ++ f x ∷ []) h ∙ ap (λ w. ys ++ w ∷ []) (subst (λ s. IfOk s (λ v. f v ≡ y)) is here) ∙ sym e)

pub same_items : {A B : Type 0} (f : A → B) (ys zs : List B) (o : Option (List A)) → IfSome o (λ xs. map f xs ≡ ys) → ys ≡ zs → IfSome o (λ xs. map f xs ≡ zs)
same_items f ys zs o h e = subst (λ ws. IfSome o (λ xs. map f xs ≡ ws)) e h

-- the list that is given at the end
pub filled : {A V E : Type 0} (P : List A → Type 0) (items : V → List A) (o : Option (List A)) (r : Result V E) → IfOk r (λ v. o ≡ Some (items v)) → IfSome o P → IfOk r (λ v. P (items v))
filled P items o (Ok v) is h = subst (λ s. IfSome s P) is h
filled P items o (Err e) is h = tt

only : {B : Type 0} (o : Option B) → cons_option o [] ≡ option_to_list o
only None = refl
only (Some x) = refl

-- the first ones that a function gives, one more
pub filter_map_next : {A B : Type 0} (f : A → Option B) (xs : List A) (i : ℕ) (x : A) → slice_get xs i ≡ Some x → filter_map f (take (i + 1) xs) ≡ filter_map f (take i xs) ++ option_to_list (f x)
filter_map_next f xs i x at = ap (filter_map f) (take_next xs i x at) ∙ filter_map-append f (take i xs) (x ∷ []) ∙ ap (λ ys. filter_map f (take i xs) ++ ys) (only (f x))

pub filter_map-map : {A B C : Type 0} (f : B → Option C) (g : A → B) (xs : List A) → filter_map f (map g xs) ≡ filter_map (λ x. f (g x)) xs
filter_map-map f g [] = refl
filter_map-map f g (x ∷ xs) = ap (cons_option (f (g x))) (filter_map-map f g xs)

pub none_yet : {A B : Type 0} (f : A → Option B) (xs : List A) (i : ℕ) (x : A) → i < length xs → x ≡ get_or xs i x → filter_map f (take i xs) ≡ [] → f x ≡ None →
    filter_map f (take (i + 1) xs) ≡ []
none_yet f xs i x within is before none = filter_map_next f xs i x (slice_get-get_or xs i x within ∙ ap Some (sym is)) ∙ ap (λ ys. ys ++ option_to_list (f x)) before ∙ ap option_to_list none

pub first_found : {A B : Type 0} (f : A → Option B) (xs : List A) (i : ℕ) (x : A) (y : B) → i < length xs → x ≡ get_or xs i x → filter_map f (take i xs) ≡ [] → f x ≡ Some y →
    slice_get (filter_map f xs) 0 ≡ Some y
first_found f xs i x y within is before found =
    let begin : filter_map f (take (i + 1) xs) ≡ y ∷ [] =
    filter_map_next f xs i x (slice_get-get_or xs i x within ∙ ap Some (sym is)) ∙ ap (λ ys. ys ++ option_to_list (f x)) before ∙ ap option_to_list found in
    ap (λ ys. slice_get ys 0) (ap (filter_map f) (sym (take-append-drop (i + 1) xs)) ∙ filter_map-append f (take (i + 1) xs) (drop (i + 1) xs) ∙ ap (λ ys. ys ++ filter_map f (drop (i + 1) xs)) begin)

-- ---- columns
pub item_at : {A : Type 0} (xs : List A) (i : ℕ) (r : Option (Bor A)) → IsItemAt xs i r → option_map (λ x. x.now) r ≡ slice_get xs i
item_at xs i None h = sym (slice_get_past xs i (ltb-false i (length xs) (sym h.0)))
item_at xs i (Some x) h = sym (slice_get-get_or xs i x.now (ltb-true i (length xs) (sym h.0)) ∙ ap Some (sym h.1))

in_columns_next : {A : Type 0} (xs : List A) (columns : List ShownColumn) (i : ℕ) (d : ShownColumn) (r : Option (Bor A)) → i < length columns → IsItemAt xs (get_or columns i d).place r →
    in_columns (take (i + 1) columns) xs ≡ in_columns (take i columns) xs ++ option_to_list (option_map (λ x. x.now) r)
in_columns_next xs columns i d r within h =
    filter_map_next (λ column. slice_get xs column.place) columns i (get_or columns i d) (slice_get-get_or columns i d within)
    ∙ ap (λ o. in_columns (take i columns) xs ++ option_to_list o) (sym (item_at xs (get_or columns i d).place r h))

-- what is read of the item in one column more, if there is one
pub told_more : {A : Type 0} (f : A → List ℕ) (xs : List A) (columns : List ShownColumn) (i : ℕ) (d : ShownColumn) (r : Option (Bor A)) (x : Bor A) → i < length columns →
    IsItemAt xs (get_or columns i d).place r → r ≡ Some x → map f (in_columns (take (i + 1) columns) xs) ≡ map f (in_columns (take i columns) xs) ++ f x.now ∷ []
told_more f xs columns i d r x within h is =
    ap (map f) (in_columns_next xs columns i d r within h ∙ ap (λ o. in_columns (take i columns) xs ++ option_to_list (option_map (λ y. y.now) o)) is)
    ∙ map_push f (in_columns (take i columns) xs) x.now

pub told_same : {A : Type 0} (f : A → List ℕ) (xs : List A) (columns : List ShownColumn) (i : ℕ) (d : ShownColumn) (r : Option (Bor A)) → i < length columns →
    IsItemAt xs (get_or columns i d).place r → r ≡ None → map f (in_columns (take i columns) xs) ≡ map f (in_columns (take (i + 1) columns) xs)
told_same f xs columns i d r within h is =
    ap (map f) (sym (in_columns_next xs columns i d r within h ∙ ap (λ o. in_columns (take i columns) xs ++ option_to_list (option_map (λ y. y.now) o)) is ∙ append-nil (in_columns (take i columns) xs)))

pub enumerate-append : {A : Type 0} (n : ℕ) (xs : List A) (x : A) → enumerate_from n (xs ++ x ∷ []) ≡ enumerate_from n xs ++ (n + length xs, x) ∷ []
enumerate-append n [] x = ap (λ m. (m, x) ∷ []) (sym (add-zero n))
enumerate-append n (y ∷ ys) x =
    let e : n + 1 + length ys ≡ n + suc (length ys) = omega arith in
    ap (λ zs. (n, y) ∷ zs) (enumerate-append (n + 1) ys x ∙ ap (λ m. enumerate_from (n + 1) ys ++ (m, x) ∷ []) e)

-- one column more, if it passes a test
abbrev pub Found : (ShownColumn → Bool) → List Head → Option (List ShownColumn) → Type 0
Found p heads found = IfSome found (λ columns. columns ≡ filter p (map place_of (enumerate_from 0 heads)))

module _ (p : ShownColumn → Bool) (heads : List Head) (i : ℕ) (h : Head) (within : i < length heads) (is : h ≡ get_or heads i h) where
  columns_next : filter p (map place_of (enumerate_from 0 (take (i + 1) heads)))
      ≡ filter p (map place_of (enumerate_from 0 (take i heads))) ++ filter p (place_of (i, h) ∷ [])
  columns_next =
      let n : 0 + length (take i heads) ≡ i = omega (arith, length-take i heads) in
      ap (λ hs. filter p (map place_of (enumerate_from 0 hs))) (take_more heads i h within ∙ ap (λ x. take i heads ++ x ∷ []) (sym is))
      ∙ ap (λ hs. filter p (map place_of hs)) (enumerate-append 0 (take i heads) h ∙ ap (λ m. enumerate_from 0 (take i heads) ++ (m, h) ∷ []) n)
      ∙ ap (filter p) (map_push place_of (enumerate_from 0 (take i heads)) (i, h))
      ∙ filter-append p (map place_of (enumerate_from 0 (take i heads))) (place_of (i, h) ∷ [])

  found_more : (before after : Option (List ShownColumn)) → p (place_of (i, h)) ≡ true → Gains {E = ℕ} before after (Ok (place_of (i, h))) → Found p (take i heads) before →
      Found p (take (i + 1) heads) after
  found_more before after passes g so_far =
      let r : Result ShownColumn ℕ = Ok (place_of (i, h)) in
      gained (λ columns. columns ≡ filter p (map place_of (enumerate_from 0 (take i heads)))) (λ columns. columns ≡ filter p (map place_of (enumerate_from 0 (take (i + 1) heads))))
      before after r g so_far
      (λ x xs e so. let same : place_of (i, h) ≡ x = cc in
      ap (λ ys. ys ++ x ∷ []) so ∙ ap (λ y. filter p (map place_of (enumerate_from 0 (take i heads))) ++ y ∷ []) (sym same)
      ∙ ap (λ b. filter p (map place_of (enumerate_from 0 (take i heads))) ++ cond b (place_of (i, h) ∷ []) []) (sym passes) ∙ sym columns_next)

  -- the same of a column that was made
  module _ (made : ShownColumn) (e : made ≡ place_of (i, h)) where
    pub found_by : (before after : Option (List ShownColumn)) → p made ≡ true → Gains {E = ℕ} before after (Ok made) → Found p (take i heads) before → Found p (take (i + 1) heads) after
    found_by before after passes g = found_more before after (subst (λ x. p x ≡ true) e passes) (subst (λ x. Gains {E = ℕ} before after (Ok x)) e g)

  pub found_same : (before : Option (List ShownColumn)) → p (place_of (i, h)) ≡ false → Found p (take i heads) before → Found p (take (i + 1) heads) before
  found_same before fails so_far =
      subst (λ ys. IfSome before (λ columns. columns ≡ ys)) (sym (
      columns_next ∙ ap (λ b. filter p (map place_of (enumerate_from 0 (take i heads))) ++ cond b (place_of (i, h) ∷ []) []) fails
      ∙ append-nil (filter p (map place_of (enumerate_from 0 (take i heads)))))) so_far

-- ---- sheets
has_view_by : (g : Language) (n : Names) (s : Sheet) (shown : Shown) → view_in shown ≡ view_of g n s → has_view s ≡ not (length shown.columns.items == 0)
has_view_by g n s shown e = ap (λ v. not (length v.columns == 0)) (sym e)

sheets_next : (sheets : List Sheet) (i : ℕ) (s : Sheet) (b : Bool) → i < length sheets → s ≡ get_or sheets i s → has_view s ≡ b →
    filter has_view (take (i + 1) sheets) ≡ filter has_view (take i sheets) ++ cond b (s ∷ []) []
sheets_next sheets i s b within is seen =
    ap (filter has_view) (take_more sheets i s within ∙ ap (λ x. take i sheets ++ x ∷ []) (sym is))
    ∙ filter-append has_view (take i sheets) (s ∷ []) ∙ ap (λ t. filter has_view (take i sheets) ++ cond t (s ∷ []) []) seen

-- one sheet more, if it is shown
module _ (g : Language) (n : Names) (sheets : List Sheet) (i : ℕ) (s : Sheet) (shown : Shown) (within : i < length sheets) (is : s ≡ get_or sheets i s) (made : view_in shown ≡ view_of g n s)
    (views : List Shown) (so_far : map view_in views ≡ views_of g n (take i sheets)) where
  pub views_more : length shown.columns.items == 0 ≡ false → map view_in (views ++ shown ∷ []) ≡ views_of g n (take (i + 1) sheets)
  views_more seen =
      map_push view_in views shown ∙ ap (λ vs. vs ++ view_in shown ∷ []) so_far ∙ ap (λ v. views_of g n (take i sheets) ++ v ∷ []) made
      ∙ sym (ap (map (view_of g n)) (sheets_next sheets i s true within is (has_view_by g n s shown made ∙ ap not seen)) ∙ map_push (view_of g n) (filter has_view (take i sheets)) s)

  pub views_same : length shown.columns.items == 0 ≡ true → map view_in views ≡ views_of g n (take (i + 1) sheets)
  views_same unseen =
      so_far ∙ sym (ap (map (view_of g n)) (sheets_next sheets i s false within is (has_view_by g n s shown made ∙ ap not unseen) ∙ append-nil (filter has_view (take i sheets))))

-- ---- bytes and characters
plain_bytes : (f : ℕ → List ℕ) (bytes : List ℕ) → ((i : ℕ) → i < length bytes → f (get_or bytes i 0) ≡ get_or bytes i 0 ∷ []) → flat_map f bytes ≡ bytes
plain_bytes f [] h = refl
plain_bytes f (b ∷ bs) h =
    ap (λ xs. xs ++ flat_map f bs) (h 0 (omega arith)) ∙ ap (λ xs. b ∷ xs) (plain_bytes f bs (λ i within. h (suc i) (omega arith)))

module _ (f : ℕ → List ℕ) (plain : (b : ℕ) → 128 ≤ b → f b ≡ b ∷ []) where
  -- a character of ASCII, and one that stays as it is
  pub ascii_char : (c : ℕ) → c < 128 → flat_map f (encode_utf8 c) ≡ f c
  ascii_char c low = ap (flat_map f) (encode_ascii c low) ∙ append-nil (f c)

  pub plain_char : (c : ℕ) → f c ≡ c ∷ [] → flat_map f (encode_utf8 c) ≡ encode_utf8 c
  plain_char c stays = go (cases_lt c 128) where
    high : 128 ≤ c → (i : ℕ) → i < length (encode_utf8 c) → (get_or (encode_utf8 c) i 0 < 128) ⊎ (128 ≤ get_or (encode_utf8 c) i 0) → 128 ≤ get_or (encode_utf8 c) i 0
    high above i within (inr h) = h
    high above i within (inl h) = let e : c ≡ get_or (encode_utf8 c) i 0 = inside_one c [] (encode_utf8 c) i (sym (append-nil (encode_utf8 c))) within h in absurd (omega arith)

    go : (c < 128) ⊎ (128 ≤ c) → flat_map f (encode_utf8 c) ≡ encode_utf8 c
    go (inl low) = ascii_char c low ∙ stays ∙ sym (encode_ascii c low)
    go (inr above) = plain_bytes f (encode_utf8 c) (λ i within. plain (get_or (encode_utf8 c) i 0) (high above i within (cases_lt (get_or (encode_utf8 c) i 0) 128)))

-- the text up to here is written, and rest is left of it
abbrev pub SoFar : (ℕ → List ℕ) → List ℕ → List ℕ → Option (List ℕ) → Option (List ℕ) → Type 0
SoFar f text rest a b = (done : List ℕ) × (text ≡ done ++ rest) × Grows a b (flat_map f done)

pub so_far_more : (f : ℕ → List ℕ) (text rest next bytes : List ℕ) (a b c : Option (List ℕ)) → SoFar f text rest a b → rest ≡ bytes ++ next → Grows b c (flat_map f bytes) → SoFar f text next a c
so_far_more f text rest next bytes a b c h e more =
    (h.0 ++ bytes, h.1 ∙ ap (λ xs. h.0 ++ xs) e ∙ sym (append_assoc h.0 bytes next), grow_as a c _ _ (grow_more a b c _ _ h.2 more) (sym (flat_map-append f h.0 bytes)))

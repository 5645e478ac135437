-- Escaped Markdown: what is written of a character, and that what is escaped reads back; and blocks, one more.
use Rattle.std.proofs.Common.{◌≡◌, ◌∙◌, ◌⊎◌, ◌<◌, ◌≤◌, ◌+◌, ℕ, true, false, List, [], ◌∷◌, ◌++◌, Option, Some, None, IfOk, Result, Ok, Err, String, append_assoc, get_or, length, map, string_bytes, take, ap, arith, refl, sym, inl, inr, if◌then◌else◌}
use Rattle.std.specs.Prelude.{◌==◌, option_map}
use Rattle.std.specs.Char.{encode_utf8}
use Rattle.std.specs.Io.KnownBytes.{append_known}
use Rattle.std.specs.List.{flat_map}
use Rattle.std.proofs.lemmas.Bool.{cases_Bool, eqb-true, or_cases}
use Rattle.std.proofs.lemmas.Bool.Decides.{nat_tests}
use Rattle.std.proofs.lemmas.List.{append-nil, length-append, map_push, take_more}
use Rattle.std.proofs.lemmas.List.Concat.{flat_map-append}
use Rattle.std.proofs.lemmas.Str.{encode_ascii}
use Rattle.sl_report_forms.specs.Drafts.{Grows}
use Rattle.sl_report_forms.specs.MarkdownForm.{Becomes, is_line_end, is_mark, joined, markdown_byte, markdown_escaped, on_one_line, parted, read_after, with_blocks}
use Rattle.sl_report_forms.proofs.ShownSteps.{ascii_char, plain_char}

no_mark : (b : ℕ) → 128 ≤ b → is_mark b ≡ false
no_mark b high = grind (arith, nat_tests)

no_end : (b : ℕ) → 128 ≤ b → is_line_end b ≡ false
no_end b high = grind (arith, nat_tests)

pub markdown_plain : (b : ℕ) → 128 ≤ b → markdown_byte b ≡ b ∷ []
markdown_plain b high = ap (λ t. if t then 92 ∷ b ∷ [] else on_one_line b ∷ []) (no_mark b high) ∙ ap (λ t. (if t then 32 else b) ∷ []) (no_end b high)

unmarked : (c : ℕ) → is_mark c ≡ false → markdown_byte c ≡ on_one_line c ∷ []
unmarked c plain = ap (λ t. if t then 92 ∷ c ∷ [] else on_one_line c ∷ []) plain

-- an end of a line is ASCII
low_end : (c : ℕ) → is_line_end c ≡ true → c < 128
low_end c marked = elim (or_cases (c == 10) (c == 13) marked) [ inl h ↦ let e : c ≡ 10 = eqb-true c 10 h in omega arith | inr h ↦ let e : c ≡ 13 = eqb-true c 13 h in omega arith ]

-- what is written of a character that is no mark
pub markdown_character : (c : ℕ) → is_mark c ≡ false → markdown_escaped (encode_utf8 c) ≡ encode_utf8 (on_one_line c)
markdown_character c plain = go (cases_Bool (is_line_end c)) where
  go : (is_line_end c ≡ true) ⊎ (is_line_end c ≡ false) → markdown_escaped (encode_utf8 c) ≡ encode_utf8 (on_one_line c)
  go (inl marked) =
      let e : on_one_line c ≡ 32 = ap (λ t. if t then 32 else c) marked in
      ascii_char markdown_byte markdown_plain c (low_end c marked) ∙ unmarked c plain ∙ ap (λ x. x ∷ []) e ∙ sym (ap encode_utf8 e ∙ encode_ascii 32 (omega arith))
  go (inr other) =
      let e : on_one_line c ≡ c = ap (λ t. if t then 32 else c) other in
      plain_char markdown_byte markdown_plain c (unmarked c plain ∙ ap (λ x. x ∷ []) e) ∙ sym (ap encode_utf8 e)

-- a mark ends no line, and a backslash is a mark
mark_stays : (c : ℕ) → is_mark c ≡ true → on_one_line c ≡ c
mark_stays c marked = elim (cases_Bool (is_line_end c)) [
  | inl h ↦ elim (or_cases (c == 10) (c == 13) h) [
    | inl e ↦ absurd (differ (sym (ap is_mark (eqb-true c 10 e)) ∙ marked))
    | inr e ↦ absurd (differ (sym (ap is_mark (eqb-true c 13 e)) ∙ marked))
  ]
  | inr h ↦ ap (λ t. if t then 32 else c) h
]
  where
    differ : false ≡ true → ⊥
    differ e = cc

no_backslash : (c : ℕ) → is_mark c ≡ false → (92 == on_one_line c) ≡ false
no_backslash c plain = grind (arith, nat_tests)

reads_back_at : (c : ℕ) (rest : List ℕ) → read_after false (markdown_byte c ++ rest) ≡ on_one_line c ∷ read_after false rest
reads_back_at c rest = go (cases_Bool (is_mark c)) where
  go : (is_mark c ≡ true) ⊎ (is_mark c ≡ false) → read_after false (markdown_byte c ++ rest) ≡ on_one_line c ∷ read_after false rest
  go (inl marked) =
      ap (λ t. read_after false ((if t then 92 ∷ c ∷ [] else on_one_line c ∷ []) ++ rest)) marked ∙ ap (λ x. x ∷ read_after false rest) (sym (mark_stays c marked))
  go (inr plain) =
      ap (λ t. read_after false ((if t then 92 ∷ c ∷ [] else on_one_line c ∷ []) ++ rest)) plain
      ∙ ap (λ t. if t then read_after true rest else on_one_line c ∷ read_after false rest) (no_backslash c plain)

-- what is escaped reads back, where the ends of lines are blanks
pub reads_back : (text : List ℕ) → read_after false (markdown_escaped text) ≡ map on_one_line text
reads_back [] = refl
reads_back (c ∷ text) = reads_back_at c (markdown_escaped text) ∙ ap (λ xs. on_one_line c ∷ xs) (reads_back text)

-- ---- blocks
joined_more : (b : List ℕ) (bs : List (List ℕ)) (x : List ℕ) → joined (joined (b ∷ bs) ∷ x ∷ []) ≡ joined (b ∷ (bs ++ x ∷ []))
joined_more b bs x =
    append_assoc b (flat_map (λ y. 10 ∷ y) bs) (flat_map (λ y. 10 ∷ y) (x ∷ []))
    ∙ ap (λ zs. b ++ zs) (sym (flat_map-append (λ y. 10 ∷ y) bs (x ∷ [])))

after_block : (x text : List ℕ) → 0 < length text → with_blocks (x ∷ []) text ≡ joined (text ∷ x ∷ [])
after_block x [] some = absurd (omega (arith, some))
after_block x (c ∷ text) some = refl

blocks_more : {X : Type 0} (block : X → List ℕ) → ((x : X) → 0 < length (block x)) → (xs : List X) (b text : List ℕ) →
    with_blocks (b ∷ []) (with_blocks (map block xs) text) ≡ with_blocks (map block xs ++ b ∷ []) text
blocks_more block begins [] b [] = refl
blocks_more block begins [] b (c ∷ text) = ap (λ t. joined ((c ∷ t) ∷ b ∷ [])) (append-nil text)
blocks_more block begins (x ∷ xs) b [] =
    after_block b (joined (map block (x ∷ xs))) (omega (arith, begins x, length-append (block x) (flat_map (λ y. 10 ∷ y) (map block xs))))
    ∙ joined_more (block x) (map block xs) b
blocks_more block begins (x ∷ xs) b (c ∷ text) = joined_more (c ∷ text) (map block (x ∷ xs)) b

becomes_more : (a b c : Option (List ℕ)) (f g h : List ℕ → List ℕ) → ((text : List ℕ) → g (f text) ≡ h text) → Becomes a b f → Becomes b c g → Becomes a c h
becomes_more a b c f g h same p (inr q) = inr q
becomes_more a b c f g h same (inr p) (inl q) = inr (q ∙ ap (option_map g) p)
becomes_more a b c f g h same (inl p) (inl q) = inl (q ∙ ap (option_map g) p ∙ both a) where
  both : (o : Option (List ℕ)) → option_map g (option_map f o) ≡ option_map h o
  both None = refl
  both (Some text) = ap Some (same text)

-- one block more
pub block_next : {X : Type 0} (block : X → List ℕ) → ((x : X) → 0 < length (block x)) → (xs : List X) (i : ℕ) (x : X) (a b c : Option (List ℕ)) → i < length xs → x ≡ get_or xs i x →
    Becomes a b (with_blocks (map block (take i xs))) → Becomes b c (with_blocks (block x ∷ [])) → Becomes a c (with_blocks (map block (take (i + 1) xs)))
block_next block begins xs i x a b c within is so_far more =
    becomes_more a b c _ _ _
    (λ text. blocks_more block begins (take i xs) (block x) text
    ∙ ap (λ bs. with_blocks bs text) (sym (ap (map block) (take_more xs i x within ∙ ap (λ y. take i xs ++ y ∷ []) (sym is)) ∙ map_push block (take i xs) x)))
    so_far more

-- a block after a text that may be empty
pub block_more : (a b c : Option (List ℕ)) (block : List ℕ) → Becomes a b parted → Grows b c block → Becomes a c (with_blocks (block ∷ []))
block_more a b c block p (inr q) = inr q
block_more a b c block (inr p) (inl q) = inr (q ∙ ap (λ o. append_known o block) p)
block_more a b c block (inl p) (inl q) = inl (q ∙ ap (λ o. append_known o block) p ∙ both a) where
  both : (o : Option (List ℕ)) → append_known (option_map parted o) block ≡ option_map (with_blocks (block ∷ [])) o
  both None = refl
  both (Some []) = ap Some (sym (append-nil block))
  both (Some (c ∷ text)) = ap (λ zs. Some (c ∷ zs)) (append_assoc text (10 ∷ []) block ∙ ap (λ zs. text ++ 10 ∷ zs) (sym (append-nil block)))

-- the text that is given at the end: blocks after a text that may be empty
pub blocks_text : {E Z : Type 0} (r : Result (String Z) E) (a b c : Option (List ℕ)) (text : List ℕ) (blocks : List (List ℕ)) → a ≡ Some [] → Grows a b text → Becomes b c (with_blocks blocks) →
    IfOk r (λ t. c ≡ Some (string_bytes t)) → IfOk r (λ t. string_bytes t ≡ with_blocks blocks text)
blocks_text (Err e) a b c text blocks begin g h told = tt
blocks_text (Ok t) a b c text blocks begin g (inr h) told = let e : Some (string_bytes t) ≡ None = sym told ∙ h in cc
blocks_text (Ok t) a b c text blocks begin (inr g) (inl h) told = let e : Some (string_bytes t) ≡ None = sym told ∙ h ∙ ap (option_map (with_blocks blocks)) g in cc
blocks_text (Ok t) a b c text blocks begin (inl g) (inl h) told =
    let e : Some (string_bytes t) ≡ Some (with_blocks blocks text) = sym told ∙ h ∙ ap (option_map (with_blocks blocks)) (g ∙ ap (λ o. append_known o text) begin) in cc

-- Lines of words, written one after the other.
use Rattle.std.proofs.Common.{◌≡◌, ℕ, ◌+◌, ◌<◌, ◌≤◌, true, false, List, [], ◌∷◌, ◌++◌, length, take, map, get_or, refl, sym, ap, ◌∙◌, append_assoc, if◌then◌else◌}
use Rattle.std.proofs.lemmas.List.{take_all, map_more}
use Rattle.sl_count_texts.specs.Lines.{Draft, line, no_text, with_word, with_words, with_end, with_lines}

-- words after words
pub words_append : (d : Draft) (xs ys : List (List ℕ)) → with_words d (xs ++ ys) ≡ with_words (with_words d xs) ys
words_append d [] ys = refl
words_append d (x ∷ xs) ys = words_append (with_word d x) xs ys

-- the words of one element after another
module _ {X : Type 0} (f : X → List ℕ) (d : Draft) (xs : List X) where
  pub words_more : (i : ℕ) (x : X) (now next : Draft) → i < length xs → get_or xs i x ≡ x → now ≡ with_words d (map f (take i xs)) → next ≡ with_word now (f x)
      → next ≡ with_words d (map f (take (i + 1) xs))
  words_more i x now next within here so_far written =
      let more : map f (take (i + 1) xs) ≡ map f (take i xs) ++ f x ∷ [] = map_more f xs i x within ∙ ap (λ y. map f (take i xs) ++ f y ∷ []) here in
      written ∙ ap (λ t. with_word t (f x)) so_far ∙ sym (words_append d (map f (take i xs)) (f x ∷ [])) ∙ ap (with_words d) (sym more)

  pub words_all : (i : ℕ) (now : Draft) → length xs ≤ i → now ≡ with_words d (map f (take i xs)) → now ≡ with_words d (map f xs)
  words_all i now past so_far = so_far ∙ ap (λ ys. with_words d (map f ys)) (take_all i xs past)

-- a word, a blank and what stands after it
blank_behind : (bytes word rest : List ℕ) → (bytes ++ (word ++ 32 ∷ [])) ++ rest ≡ bytes ++ (word ++ 32 ∷ rest)
blank_behind bytes word rest = append_assoc bytes (word ++ 32 ∷ []) rest ∙ ap (λ bs. bytes ++ bs) (append_assoc word (32 ∷ []) rest)

-- words after a word, and the end of the line
line_from : (bytes word : List ℕ) (words : List (List ℕ)) → with_end (with_words (record { bytes = bytes ++ word; begun = true }) words) ≡ record { bytes = bytes ++ line (word ∷ words); begun = false }
line_from bytes word [] = ap (λ bs. record { bytes = bs; begun = false }) (append_assoc bytes word (10 ∷ []))
line_from bytes word (next ∷ words) =
    let joined : (bytes ++ word) ++ 32 ∷ next ≡ (bytes ++ (word ++ 32 ∷ [])) ++ next = append_assoc bytes word (32 ∷ next) ∙ sym (blank_behind bytes word next) in
    ap (λ bs. with_end (with_words (record { bytes = bs; begun = true }) words)) joined
    ∙ line_from (bytes ++ (word ++ 32 ∷ [])) next words
    ∙ ap (λ bs. record { bytes = bs; begun = false }) (blank_behind bytes word (line (next ∷ words)))

-- a text of one line
pub line_of : (word : List ℕ) (words : List (List ℕ)) → with_end (with_words no_text (word ∷ words)) ≡ record { bytes = line (word ∷ words); begun = false }
line_of word words = line_from [] word words

-- a line that is written in two words and two rows of words
pub one_line : (first second : List ℕ) (xs ys : List (List ℕ)) (t0 t1 t2 t3 t4 t5 : Draft) → t0 ≡ no_text → t1 ≡ with_word t0 first → t2 ≡ with_word t1 second
    → t3 ≡ with_words t2 xs → t4 ≡ with_words t3 ys → t5 ≡ with_end t4 → t5 ≡ record { bytes = line (first ∷ second ∷ xs ++ ys); begun = false }
one_line first second xs ys t0 t1 t2 t3 t4 t5 empty one two three four ended =
    ended ∙ ap with_end four ∙ ap (λ t. with_end (with_words t ys)) three
    ∙ ap (λ t. with_end (with_words (with_words t xs) ys)) (two ∙ ap (λ t. with_word t second) (one ∙ ap (λ t. with_word t first) empty))
    ∙ ap with_end (sym (words_append (with_word (with_word no_text first) second) xs ys))
    ∙ line_of first (second ∷ xs ++ ys)

-- a line after the last one
pub line_behind : (d : Draft) (word : List ℕ) (words : List (List ℕ)) → d.begun ≡ false → with_end (with_words d (word ∷ words)) ≡ with_lines d (line (word ∷ words))
line_behind d word words ended =
    ap (λ b. with_end (with_words (record { bytes = d.bytes ++ (if b then 32 ∷ word else word); begun = true }) words)) ended ∙ line_from d.bytes word words

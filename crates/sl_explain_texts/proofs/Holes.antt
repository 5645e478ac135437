-- The parts of a text that is cut at the braces that open its holes, and the names in them.
use Rattle.std.proofs.Common.{◌≡◌, ◌==◌, [], ◌∷◌, ◌++◌, List, Bool, true, false, ap, append-nil, append_assoc, arith, cond, drop, length, map, not, refl, suc, sym, take, ℕ, ◌+◌, ◌∙◌}
use Rattle.std.proofs.lemmas.List.{map-append}
use Rattle.std.specs.List.{before_first, onto_first, position_or_len, slice_split}
use Rattle.sl_explain_texts.specs.Messages.{holes_from, holes_of, name_in, opened}

-- a text without a brace is one part
pub split_of_one : {X : Type 0} (p : X → Bool) → (xs : List X) → position_or_len p xs ≡ length xs → slice_split p xs ≡ xs ∷ []
split_of_one p [] none = refl
split_of_one p (x ∷ xs) none = by_test (p x) none (split_of_one p xs) where
  by_test : (b : Bool) → cond (not b) (1 + position_or_len p xs) 0 ≡ suc (length xs) → (position_or_len p xs ≡ length xs → slice_split p xs ≡ xs ∷ [])
      → cond b ([] ∷ slice_split p xs) (onto_first x (slice_split p xs)) ≡ (x ∷ xs) ∷ []
  by_test true none rest = absurd (omega (arith, none))
  by_test false none rest = ap (onto_first x) (rest (omega (arith, none)))

-- a list that was mapped, with one element more
pub lent_more : {X Y : Type 0} (f : X → Y) (xs : List X) (x : X) (ys : List Y) → map f xs ≡ ys → map f (xs ++ x ∷ []) ≡ ys ++ f x ∷ []
lent_more f xs x ys so_far = map-append f xs (x ∷ []) ∙ ap (λ zs. zs ++ f x ∷ []) so_far

-- the parts of a text, cut at the braces that open a hole
abbrev parts : List ℕ → List (List ℕ)
parts = slice_split (λ b. b == 123)

-- the names in parts, with what was read before the first
abbrev names_with : List ℕ → List (List ℕ) → List (List ℕ)
names_with read [] = []
names_with read (p ∷ ps) = (read ++ name_in p) ∷ map name_in ps

some_part : (text : List ℕ) → (p : List ℕ) × (ps : List (List ℕ)) × (parts text ≡ p ∷ ps)
some_part [] = ([], [], refl)
some_part (c ∷ text) = by_test (c == 123) (some_part text) where
  by_test : (b : Bool) → (p : List ℕ) × (ps : List (List ℕ)) × (parts text ≡ p ∷ ps)
      → (p : List ℕ) × (ps : List (List ℕ)) × (cond b ([] ∷ parts text) (onto_first c (parts text)) ≡ p ∷ ps)
  by_test true rest = ([], parts text, refl)
  by_test false rest = (c ∷ rest.0, rest.1, ap (onto_first c) rest.2)

name_ends : (c : ℕ) (p : List ℕ) → c == 125 ≡ true → name_in (c ∷ p) ≡ []
name_ends c p ends = ap (λ b. take (cond (not b) (1 + position_or_len (λ x. x == 125) p) 0) (c ∷ p)) ends

one_more : (n : ℕ) → 1 + n ≡ suc n
one_more n = omega (arith)

name_goes : (c : ℕ) (p : List ℕ) → c == 125 ≡ false → name_in (c ∷ p) ≡ c ∷ name_in p
name_goes c p goes = ap (λ b. take (cond (not b) (1 + position_or_len (λ x. x == 125) p) 0) (c ∷ p)) goes ∙ ap (λ k. take k (c ∷ p)) (one_more (position_or_len (λ x. x == 125) p))

-- the names as they are read are those in the parts
named_parts : (text : List ℕ) → ((read : List ℕ) → holes_from read false text ≡ map name_in (drop 1 (parts text))) × ((read : List ℕ) → holes_from read true text ≡ names_with read (parts text))
named_parts [] = (λ read. refl, λ read. ap (λ r. r ∷ []) (sym (append-nil read)))
named_parts (c ∷ text) = (λ read. closed (c == 123) (some_part text) (named_parts text), λ read. opening read (c == 125) (c == 123) refl refl (some_part text) (named_parts text)) where
  Known : Type 0
  Known = ((read : List ℕ) → holes_from read false text ≡ map name_in (drop 1 (parts text))) × ((read : List ℕ) → holes_from read true text ≡ names_with read (parts text))

  Some : Type 0
  Some = (p : List ℕ) × (ps : List (List ℕ)) × (parts text ≡ p ∷ ps)

  closed : (b : Bool) → Some → Known → holes_from [] b text ≡ map name_in (drop 1 (cond b ([] ∷ parts text) (onto_first c (parts text))))
  closed true (p, ps, is) known = known.1 [] ∙ ap (names_with []) is ∙ ap (map name_in) (sym is)
  closed false (p, ps, is) known = known.0 [] ∙ ap (λ xs. map name_in (drop 1 xs)) is ∙ ap (λ xs. map name_in (drop 1 (onto_first c xs))) (sym is)

  opening : (read : List ℕ) (ends begins : Bool) → c == 125 ≡ ends → c == 123 ≡ begins → Some → Known
      → cond ends (read ∷ holes_from [] false text) (cond begins (read ∷ holes_from [] true text) (holes_from (read ++ c ∷ []) true text))
      ≡ names_with read (cond begins ([] ∷ parts text) (onto_first c (parts text)))
  opening read true true ends begins some known = absurd (search (arith, ends, begins))
  opening read true false ends begins (p, ps, is) known =
      ap (λ xs. read ∷ xs) (known.0 [] ∙ ap (λ xs. map name_in (drop 1 xs)) is)
      ∙ ap (λ r. r ∷ map name_in ps) (sym (ap (λ n. read ++ n) (name_ends c p ends) ∙ append-nil read)) ∙ ap (λ xs. names_with read (onto_first c xs)) (sym is)
  opening read false true ends begins (p, ps, is) known =
      ap (λ xs. read ∷ xs) (known.1 [] ∙ ap (names_with []) is)
      ∙ ap (λ r. r ∷ map name_in (p ∷ ps)) (sym (append-nil read)) ∙ ap (λ xs. names_with read ([] ∷ xs)) (sym is)
  opening read false false ends begins (p, ps, is) known =
      known.1 (read ++ c ∷ []) ∙ ap (names_with (read ++ c ∷ [])) is
      ∙ ap (λ r. r ∷ map name_in ps) (append_assoc read (c ∷ []) (name_in p) ∙ ap (λ n. read ++ n) (sym (name_goes c p ends)))
      ∙ ap (λ xs. names_with read (onto_first c xs)) (sym is)

-- the holes of a text are the names in what its braces open
pub holes_opened : (text : List ℕ) → slice_split (λ b. b == 123) text ≡ before_first (λ b. b == 123) text ∷ opened text → holes_of text ≡ map name_in (opened text)
holes_opened text split = (named_parts text).0 [] ∙ ap (λ xs. map name_in (drop 1 xs)) split

-- The text of a name, found among statutes that have the books' names and texts.
use Rattle.std.proofs.Common.{◌≡◌, ◌∙◌, ℕ, Bool, true, false, cond, List, [], ◌∷◌, Option, Some, option_map, map, find, refl, sym, ap}
use Rattle.std.specs.Str.{bytes_eq}
use Rattle.sl_laws.specs.declared.books.Statute.{Statute}
use Rattle.sl_laws.specs.Books.{books, lines, law_text}

-- a name and a text
abbrev pub Named : Type 0
Named = List ℕ × List ℕ

abbrev pub of_statute : Statute → Named
of_statute s = (s.name.now, s.text.now)

abbrev pub of_book : List ℕ × List (List ℕ) → Named
of_book book = (book.0, lines book.1)

found_in : {A : Type 0} (f : A → Named) (p : Named → Bool) (x : A) (xs : List A) (b : Bool) → p (f x) ≡ b
    → option_map (λ t. t.1) (find p (map f xs)) ≡ option_map (λ y. (f y).1) (find (λ y. p (f y)) xs)
    → option_map (λ t. t.1) (cond b (Some (f x)) (find p (map f xs))) ≡ option_map (λ y. (f y).1) (cond b (Some x) (find (λ y. p (f y)) xs))
found_in f p x xs true e later = refl
found_in f p x xs false e later = later

-- to find among values of a list is to find in the list by the values
text_of : {A : Type 0} (f : A → Named) (p : Named → Bool) (xs : List A) → option_map (λ t. t.1) (find p (map f xs)) ≡ option_map (λ x. (f x).1) (find (λ x. p (f x)) xs)
text_of f p [] = refl
text_of f p (x ∷ xs) = found_in f p x xs (p (f x)) refl (text_of f p xs)

module _ (name : List ℕ) where
  abbrev pub has_name : Statute → Bool
  has_name s = bytes_eq name s.name.now

  -- what the rest of the statutes has
  unfoldable pub text_among : List Statute → Option (List ℕ)
  text_among ss = option_map (λ s. s.text.now) (find has_name ss)

  pub text_of_law : (ss : List Statute) → map of_statute ss ≡ map of_book books → law_text name ≡ text_among ss
  unfolding text_among
  text_of_law ss same =
      let p : Named → Bool = λ t. bytes_eq name t.0 in
      sym (text_of of_book p books) ∙ ap (λ ts. option_map (λ t. t.1) (find p ts)) (sym same) ∙ text_of of_statute p ss

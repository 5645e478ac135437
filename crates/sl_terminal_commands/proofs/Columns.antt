-- Rulebooks side by side: their columns, by the words that name them and by other methods.
use Rattle.std.proofs.Common.{All, Any, Bool, Contains, Err, IfOk, List, None, Ok, Option, Result, Some, [], ap, arith, false, inl, inr, map, refl, subst, suc, sym, true, ◌++◌, ◌∙◌, ◌∷◌, ◌≡◌, ◌⊎◌, ℕ}
use Rattle.std.proofs.lemmas.Grind.{flat_map-append}
use Rattle.std.proofs.lemmas.List.{append-nil, map-append}
use Rattle.std.proofs.lemmas.List.Elements.{All-append, filter_map-append}
use Rattle.std.proofs.lemmas.Option.{get_or_from_slice_get, slice_get_within}
use Rattle.std.specs.List.{AllZip, cons_option}
use Rattle.std.specs.Global.{Vec}
use Rattle.std.specs.Prelude.{codes, flat_map, slice_get, string_bytes}
use Rattle.sl_base_quotients.specs.declared.method.Method.{Method}
use Rattle.sl_base_quotients.specs.declared.no_memory.NoMemory.{NoMemory}
use Rattle.sl_count_inputs.specs.Books.{book_line}
use Rattle.sl_count_inputs.specs.Judging.{election_verdict, refusal_of, returns_refusal_of, tree_verdict}
use Rattle.sl_count_inputs.specs.Reading.{ForKnown}
use Rattle.sl_count_inputs.specs.Returns.{returns_line}
use Rattle.sl_count_inputs.specs.declared.refused_book.RefusedBook.{RefusedBook}
use Rattle.sl_count_inputs.specs.declared.status.Input.TheVariants as input
use Rattle.sl_count_inputs.specs.declared.status.Status.TheVariants as status
use Rattle.sl_count_inputs.specs.declared.verdict.Verdict.TheVariants.{Good, Refused}
use Rattle.sl_count_inputs.specs.declared.verdict.Verdict.{Verdict}
use Rattle.sl_explain_calls.specs.Codes.{Subject, book_code, election_code, subject}
use Rattle.sl_explain_texts.specs.declared.language.Language.{Language}
use Rattle.sl_law_meaning.proofs.meaning.Members.{all_and_one}
use Rattle.sl_law_meaning.specs.book.Books.{book_of}
use Rattle.sl_law_meaning.specs.declared.checked.CheckedBook.{CheckedBook}
use Rattle.sl_law_meaning.specs.returns.Election.{Election}
use Rattle.sl_report_commands.specs.Methods.{IsTreeVerdictBy}
use Rattle.sl_report_commands.specs.Written.{IsWritten, json_digests}
use Rattle.sl_report_commands.specs.declared.comparison.Compared.{Compared}
use Rattle.sl_report_commands.specs.declared.written.Style.{Style}
use Rattle.sl_report_forms.specs.declared.heading.Heading.{Heading}
use Rattle.sl_report_tables.specs.Answers.{IsRefusedBy}
use Rattle.sl_report_tables.specs.Words.{method_written}
use Rattle.sl_report_tables.specs.declared.answer.Answer.{Answer}
use Rattle.sl_report_forms.specs.declared.shape.Shape.{Shape}
use Rattle.sl_report_warnings.specs.Warnings.{warnings_of}
use Rattle.sl_terminal_commands.proofs.Digested.{digests_on}
use Rattle.sl_terminal_commands.proofs.Zips.{all_before, all_last, any_left, any_map, any_right, zip_append, zip_map, zip_parts, zip_through}
use Rattle.sl_terminal_commands.specs.Beside.{AreNames}
use Rattle.sl_terminal_commands.specs.Comparisons.{AreRefused, IsColumnOn, IsComparison, IsComparisonOf, IsRefusedOn, ShowsBooks, column_word, columns, compared_digests, compared_words, methods_written, named_inputs, table_said}
use Rattle.sl_terminal_commands.specs.Said.{AreWarnings, IsSaid, Said, fault}
use Rattle.sl_terminal_commands.specs.Sums.{AreJudged, IsVerdictOn}
use Rattle.sl_terminal_commands.specs.declared.answered.Answered.{Answered}
use Rattle.sl_terminal_commands.specs.declared.sums.NamedBook.{NamedBook}
use Rattle.sl_terminal_commands.specs.declared.sums.NamedReturns.{NamedReturns}
use Rattle.sl_terminal_commands.specs.inner.Comparing.{AreGood, AreReadOf, IsBad, IsColumn, IsComparedAnswer, IsGood, IsReadBook, IsSheets, IsVaried, IsVariedOf, ShowsNamed, pairs}
use Rattle.sl_terminal_commands.specs.inner.Digested.{called_digests}

abbrev pub word_of : NamedBook → List ℕ
word_of b = b.word.now

good_not_bad : {A B : Type 0} (v : Verdict A B) → IsGood v → IsBad v → ⊥
good_not_bad v (a, good) (b, bad) = absurd cc

-- an answer with its text, and what is said of it
pub sheets_of : (IsText : Shape → Heading → Answer → List ℕ → Type 0) (style : Style) (digests : List (List ℕ)) (Shows : Answer → Type 0) (what : Said) (r : Result Answered NoMemory)
    (answer : Answer) (said : Vec ℕ) → IfOk r (λ a. a.status ≡ answer.status) → IfOk r (λ a. IsWritten IsText (codes "compare") style digests answer a.text.items)
    → IfOk r (λ a. a.said ≡ said) → Shows answer → IsSaid style.language what said.items → IfOk r (IsSheets IsText style digests Shows what)
sheets_of IsText style digests Shows what (Err e) answer said status written same shows told = tt
sheets_of IsText style digests Shows what (Ok a) answer said status written same shows told =
    record {
      answer = answer;
      status = status;
      shows = shows;
      written = written;
      said = subst (λ t. IsSaid style.language what t.items) (sym same) told;
    }

-- the first of several is one of them
pub contains_first : (books : List NamedBook) (b : NamedBook) → Some b ≡ slice_get books 0 → Contains books b
contains_first books b is = (0, slice_get_within books 0 b (sym is), get_or_from_slice_get books 0 b b (sym is))

-- ---- columns, one more

pub column_next : (books : List NamedBook) (n : NamedBook) (cs all : List Compared) (found : Compared) → IsColumn n found → all ≡ cs ++ found ∷ []
    → (AreGood books → AllZip IsColumn books cs) → AreGood (books ++ n ∷ []) → AllZip IsColumn (books ++ n ∷ []) all
column_next books n cs all found is same so_far good =
    subst (AllZip IsColumn (books ++ n ∷ [])) (sym same) (all_and_one IsColumn books cs n found is (so_far (all_before (λ (b : NamedBook). IsGood b.read.verdict) books n good)))

pub column_none : (books : List NamedBook) (n : NamedBook) (all : List Compared) → IsBad n.read.verdict → AreGood (books ++ n ∷ []) → AllZip IsColumn (books ++ n ∷ []) all
column_none books n all bad good = absurd (good_not_bad n.read.verdict (all_last (λ (b : NamedBook). IsGood b.read.verdict) books n good) bad)

-- ---- other methods

pub methods_next : (words : List (List ℕ)) (word : List ℕ) (before after : List Method) (found : Option Method) → found ≡ method_written word → before ≡ methods_written words
    → after ≡ before ++ cons_option found [] → after ≡ methods_written (words ++ word ∷ [])
methods_next words word before after found is so same =
    same ∙ ap (λ ms. ms ++ cons_option found []) so ∙ ap (λ f. methods_written words ++ cons_option f []) is ∙ sym (filter_map-append method_written words (word ∷ []))

pub by_each : (n : NamedBook) (book : CheckedBook) → n.read.verdict ≡ Good book → (methods : List Method) (found : List NamedBook) → AllZip (IsVaried n book) methods found
    → AllZip IsVariedOf (map (λ (by : Method). (n, by)) methods) found
by_each n book good [] [] all = tt
by_each n book good [] (v ∷ found) all = absurd all
by_each n book good (by ∷ methods) [] all = absurd all
by_each n book good (by ∷ methods) (v ∷ found) all = ((book, good, all.0), by_each n book good methods found all.1)

one_pairs : (books : List NamedBook) (n : NamedBook) (methods : List Method) → pairs (books ++ n ∷ []) methods ≡ pairs books methods ++ map (λ (by : Method). (n, by)) methods
one_pairs books n methods =
    flat_map-append (λ (b : NamedBook). map (λ (by : Method). (b, by)) methods) books (n ∷ [])
    ∙ ap (λ more. pairs books methods ++ more) (append-nil (map (λ (by : Method). (n, by)) methods))

pub varied_next : (books : List NamedBook) (n : NamedBook) (methods : List Method) (before after found : List NamedBook) → AllZip IsVariedOf (map (λ (by : Method). (n, by)) methods) found
    → after ≡ before ++ found → (AreGood books → AllZip IsVariedOf (pairs books methods) before) → AreGood (books ++ n ∷ [])
    → AllZip IsVariedOf (pairs (books ++ n ∷ []) methods) after
varied_next books n methods before after found more same so_far good =
    subst (λ ps. AllZip IsVariedOf ps after) (sym (one_pairs books n methods))
    (
    subst (AllZip IsVariedOf (pairs books methods ++ map (λ (by : Method). (n, by)) methods)) (sym same)
    (
    zip_append IsVariedOf (pairs books methods) (map (λ (by : Method). (n, by)) methods) before found
    (so_far (all_before (λ (b : NamedBook). IsGood b.read.verdict) books n good)) more
    )
    )

pub varied_none : (books : List NamedBook) (n : NamedBook) (methods : List Method) (all : List NamedBook) → IsBad n.read.verdict → AreGood (books ++ n ∷ [])
    → AllZip IsVariedOf (pairs (books ++ n ∷ []) methods) all
varied_none books n methods all bad good = absurd (good_not_bad n.read.verdict (all_last (λ (b : NamedBook). IsGood b.read.verdict) books n good) bad)

-- ---- by the words that name them

abbrev pub plain : List ℕ → List ℕ × Option Method
plain word = (word, None)

abbrev pub changed : NamedBook × Method → List ℕ × Option Method
changed p = (p.0.word.now, Some p.1)

-- the columns of the words of rulebooks are those of the rulebooks
changed_each : (b : NamedBook) (methods : List Method) → map (λ (by : Method). (b.word.now, Some by)) methods ≡ map changed (map (λ (by : Method). (b, by)) methods)
changed_each b [] = refl
changed_each b (by ∷ methods) = ap (λ ps. (b.word.now, Some by) ∷ ps) (changed_each b methods)

changed_all : (books : List NamedBook) (methods : List Method)
    → flat_map (λ (word : List ℕ). map (λ (by : Method). (word, Some by)) methods) (map word_of books) ≡ map changed (pairs books methods)
changed_all [] methods = refl
changed_all (b ∷ books) methods =
    ap (λ ps. ps ++ flat_map (λ (word : List ℕ). map (λ (by : Method). (word, Some by)) methods) (map word_of books)) (changed_each b methods)
    ∙ ap (λ ps. map changed (map (λ (by : Method). (b, by)) methods) ++ ps) (changed_all books methods)
    ∙ sym (map-append changed (map (λ (by : Method). (b, by)) methods) (pairs books methods))

plain_all : (books : List NamedBook) → map plain (map word_of books) ≡ map (λ (b : NamedBook). plain (word_of b)) books
plain_all [] = refl
plain_all (b ∷ books) = ap (λ ps. plain (word_of b) ∷ ps) (plain_all books)

pub columns_all : (books : List NamedBook) (methods : List Method)
    → columns (map word_of books) methods ≡ map (λ (b : NamedBook). plain (word_of b)) books ++ map changed (pairs books methods)
columns_all books methods =
    ap (λ ps. ps ++ flat_map (λ (word : List ℕ). map (λ (by : Method). (word, Some by)) methods) (map word_of books)) (plain_all books)
    ∙ ap (λ ps. map (λ (b : NamedBook). plain (word_of b)) books ++ ps) (changed_all books methods)

module _ (bytes : List ℕ → Option (List ℕ)) where
  plain_column : (b : NamedBook) (c : Compared) → IsReadBook bytes b → IsColumn b c → IsColumnOn bytes (plain (word_of b)) c
  plain_column b c read is =
      record {
        word = subst (λ m. string_bytes c.word ≡ column_word b.word.now m) read.own is.word;
        book = subst (λ v. IsVerdictOn bytes b.word.now (tree_verdict v)) is.book read.verdict;
      }

  changed_column : (p : NamedBook × Method) (c : Compared) → IsReadBook bytes p.0 → ((v : NamedBook) × IsVariedOf p v × IsColumn v c) → IsColumnOn bytes (changed p) c
  changed_column p c read (v, (book, good, by), is) =
      record {
        word = is.word ∙ ap (λ w. column_word w v.method) (ap (λ w. w.now) by.word) ∙ ap (column_word p.0.word.now) by.method;
        book = (book_of book.book, subst (λ v. IsVerdictOn bytes p.0.word.now (tree_verdict v)) good read.verdict, subst (λ v. IsTreeVerdictBy p.1 (book_of book.book) (tree_verdict v)) is.book by.verdict);
      }

  read_each : (b : NamedBook) → IsReadBook bytes b → (methods : List Method) → All (λ (p : NamedBook × Method). IsReadBook bytes p.0) (map (λ (by : Method). (b, by)) methods)
  read_each b read [] = λ k d lt. let no : ⊥ = omega (arith, lt) in absurd no
  read_each b read (by ∷ methods) = grind (arith, read, read_each b read methods)

  read_pairs : (books : List NamedBook) (methods : List Method) → All (IsReadBook bytes) books → All (λ (p : NamedBook × Method). IsReadBook bytes p.0) (pairs books methods)
  read_pairs [] methods all = λ k d lt. let no : ⊥ = omega (arith, lt) in absurd no
  read_pairs (b ∷ books) methods all =
      All-append (λ (p : NamedBook × Method). IsReadBook bytes p.0) (map (λ (by : Method). (b, by)) methods) (pairs books methods) (read_each b (all 0 b (omega arith)) methods)
      (read_pairs books methods (λ k d lt. all (suc k) d (omega (arith, lt))))

  columns_on : (books varied : List NamedBook) (methods : List Method) (cs : List Compared) → All (IsReadBook bytes) books → AllZip IsVariedOf (pairs books methods) varied
      → AllZip IsColumn (books ++ varied) cs → AllZip (IsColumnOn bytes) (columns (map word_of books) methods) cs
  columns_on books varied methods cs read by all =
      let parts = zip_parts IsColumn books varied cs all in
      let one = zip_map (IsReadBook bytes) IsColumn (IsColumnOn bytes) (λ (b : NamedBook). plain (word_of b)) plain_column books parts.0 read parts.3 in
      let through = zip_through IsVariedOf IsColumn (λ (p : NamedBook × Method) (c : Compared). (v : NamedBook) × IsVariedOf p v × IsColumn v c) (λ p v c is column. (v, is, column))
      (pairs books methods) varied parts.1 by parts.4 in
      let other = zip_map (λ (p : NamedBook × Method). IsReadBook bytes p.0) (λ (p : NamedBook × Method) (c : Compared). (v : NamedBook) × IsVariedOf p v × IsColumn v c) (IsColumnOn bytes) changed
      changed_column (pairs books methods) parts.1 (read_pairs books methods read) through in
      subst (λ ps. AllZip (IsColumnOn bytes) ps cs) (sym (columns_all books methods))
      (
      subst (AllZip (IsColumnOn bytes) (map (λ (b : NamedBook). plain (word_of b)) books ++ map changed (pairs books methods))) (sym parts.2)
      (zip_append (IsColumnOn bytes) (map (λ (b : NamedBook). plain (word_of b)) books) (map changed (pairs books methods)) parts.0 parts.1 one other)
      )

  -- a table of rulebooks is one of their columns
  shows_on : (is_refused : Bool) (e : Election) (books varied : List NamedBook) (methods : List Method) (a : Answer) → All (IsReadBook bytes) books
      → AllZip IsVariedOf (pairs books methods) varied → ShowsNamed is_refused e (books ++ varied) a → ShowsBooks bytes (columns (map word_of books) methods) is_refused e a
  shows_on false e books varied methods a read by h = (h.0, h.1, h.2, (h.3.0, columns_on books varied methods h.3.0 read by h.3.1, h.3.2))
  shows_on true e books varied methods a read by h = h

  -- one of the columns is refused
  refused_book : (books : List NamedBook) (methods : List Method) (b : NamedBook) (why : RefusedBook) → All (IsReadBook bytes) books → Contains books b → b.read.verdict ≡ Refused why
      → Any (IsRefusedOn bytes (book_line (refusal_of why)) (subject input.Book (book_code why))) (columns (map word_of books) methods)
  refused_book books methods b why read there is =
      let line = book_line (refusal_of why) in
      let s = subject input.Book (book_code why) in
      let on : IsReadBook bytes b = subst (IsReadBook bytes) there.2 (read there.0 b there.1) in
      subst (Any (IsRefusedOn bytes line s)) (sym (columns_all books methods))
      (
      any_left (IsRefusedOn bytes line s) (map (λ (b : NamedBook). plain (word_of b)) books) (map changed (pairs books methods))
      (
      any_map (IsRefusedOn bytes line s) (λ (b : NamedBook). plain (word_of b)) books b there
      (why, subst (λ v. IsVerdictOn bytes b.word.now (tree_verdict v)) is on.verdict, (refl, refl))
      )
      )

  refused_varied : (books : List NamedBook) (methods : List Method) (p : NamedBook × Method) (v : NamedBook) (why : RefusedBook) → All (IsReadBook bytes) books
      → Contains (pairs books methods) p → IsVariedOf p v → v.read.verdict ≡ Refused why
      → Any (IsRefusedOn bytes (book_line (refusal_of why)) (subject input.Book (book_code why))) (columns (map word_of books) methods)
  refused_varied books methods p v why read there (book, good, by) is =
      let line = book_line (refusal_of why) in
      let s = subject input.Book (book_code why) in
      let on : IsReadBook bytes p.0 = subst (λ (q : NamedBook × Method). IsReadBook bytes q.0) there.2 (read_pairs books methods read there.0 p there.1) in
      subst (Any (IsRefusedOn bytes line s)) (sym (columns_all books methods))
      (
      any_right (IsRefusedOn bytes line s) (map (λ (b : NamedBook). plain (word_of b)) books) (map changed (pairs books methods))
      (
      any_map (IsRefusedOn bytes line s) changed (pairs books methods) p there (
        book_of book.book,
        why,
        subst (λ v. IsVerdictOn bytes p.0.word.now (tree_verdict v)) good on.verdict,
        subst (λ v. IsTreeVerdictBy p.1 (book_of book.book) (tree_verdict v)) is by.verdict,
        (refl, refl),
      )
      )
      )

  -- ---- an answer, by the words and the bytes

  module _ (IsText : Shape → Heading → Answer → List ℕ → Type 0) (style : Style) (returns : List ℕ) (names : Option (List ℕ)) (is_refused : Bool) (are : AreNames bytes names is_refused)
      (words methods : List (List ℕ)) (books : List NamedBook) (r : NamedReturns) (of : map word_of books ≡ compared_words words) (read : All (IsReadBook bytes) books)
      (judged : AreReadOf (bytes returns) r) (a : Answered) where
    abbrev Says : Said → Type 0
    Says s = IsSaid style.language s a.said.items

    abbrev shown : List (List ℕ)
    shown = json_digests style (called_digests books r)

    sheets_on : (Shows : Answer → Type 0) (s : Said) → IsSheets IsText style shown Shows s a
        → ((answer : Answer) → Shows answer → Says s → IsComparison bytes returns (columns (compared_words words) (methods_written methods)) is_refused answer Says)
        → IsComparisonOf IsText bytes returns words methods names style a.status a.text.items Says
    sheets_on Shows s h by =
        record {
          answer = h.answer;
          status = h.status;
          is_refused = is_refused;
          named = are;
          means = by h.answer h.shows h.said;
          digests = called_digests books r;
          digested =
              subst (λ ws. ForKnown (named_inputs bytes ws) (bytes returns) (λ inputs known. called_digests books r ≡ compared_digests inputs known)) of
              (digests_on bytes books r (bytes returns) read judged);
          written = h.written;
        }

    -- a refusal
    refuses_on : (line : List ℕ) (s : Subject) → AreRefused (bytes returns) line s ⊎ Any (IsRefusedOn bytes line s) (columns (map word_of books) (methods_written methods))
        → IsSheets IsText style shown (IsRefusedBy line) (fault s) a → IsComparisonOf IsText bytes returns words methods names style a.status a.text.items Says
    refuses_on line s which sheets =
        sheets_on (IsRefusedBy line) (fault s) sheets
        (
        λ answer refuses says.
        inr (line, s, subst (λ ws. AreRefused (bytes returns) line s ⊎ Any (IsRefusedOn bytes line s) (columns ws (methods_written methods))) of which, refuses, says)
        )

    pub compared_on : IsComparedAnswer IsText style shown is_refused books (methods_written methods) r.read.verdict a
        → IsComparisonOf IsText bytes returns words methods names style a.status a.text.items Says
    compared_on (inl (e, good, all, inl (varied, by, too, sheets))) =
        sheets_on (ShowsNamed is_refused e (books ++ varied)) (table_said is_refused e) sheets
        (
        λ answer shows says.
        inl (
          e,
          subst (λ w. AreJudged (bytes returns) (election_verdict w)) good judged.verdict,
          subst (λ ws. ShowsBooks bytes (columns ws (methods_written methods)) is_refused e answer) of
              (shows_on is_refused e books varied (methods_written methods) answer read by shows),
          says,
        )
        )
    compared_on (inl (e, good, all, inr (p, n, why, there, by, is, sheets))) =
        refuses_on (book_line (refusal_of why)) (subject input.Book (book_code why)) (inr (refused_varied books (methods_written methods) p n why read there by is)) sheets
    compared_on (inr (inl (b, why, there, is, sheets))) =
        refuses_on (book_line (refusal_of why)) (subject input.Book (book_code why)) (inr (refused_book books (methods_written methods) b why read there is)) sheets
    compared_on (inr (inr (why, is, sheets))) =
        refuses_on (returns_line (returns_refusal_of why)) (subject input.Returns (election_code why))
        (inl (why, subst (λ w. AreJudged (bytes returns) (election_verdict w)) is judged.verdict, refl, refl)) sheets

-- ---- what is said of a table

pub comparison_warns : (bytes : List ℕ → Option (List ℕ)) (returns : List ℕ) (all : List (List ℕ × Option Method)) (is_refused : Bool) (a : Answer) (language : Language) (text : List ℕ)
    → IsComparison bytes returns all is_refused a (λ s. IsSaid language s text) → a.status ≡ status.Done → AreWarnings language text
comparison_warns bytes returns all false a language text (inl (e, on, shows, says)) done = (e, warnings_of None e, says)
comparison_warns bytes returns all true a language text (inl (e, on, shows, says)) done = let no : status.Refused ≡ status.Done = sym shows.0 ∙ done in absurd cc
comparison_warns bytes returns all is_refused a language text (inr (line, s, which, refuses, says)) done =
    let no : status.Refused ≡ status.Done = sym refuses.0.0 ∙ done in absurd cc

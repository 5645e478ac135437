-- What `compare` answers: rulebooks side by side, under their words and by other methods (docs/report.md).
use Rattle.std.specs.List.{AllZip}
use Rattle.std.specs.Prelude.{Any, Bool, List, None, Option, Some, [], codes, false, filter_map, flat_map, if◌then◌else◌, map, option_and_then, option_map, string_bytes, true, ◌++◌, ◌∷◌, ◌≡◌, ◌⊎◌, ℕ}
use Rattle.sl_base_quotients.specs.declared.method.Method.{Method}
use Rattle.sl_count_inputs.specs.Books.{BookInput, book_line}
use Rattle.sl_count_inputs.specs.Judging.{refusal_of, returns_refusal_of}
use Rattle.sl_count_inputs.specs.Reading.{ForKnown}
use Rattle.sl_count_inputs.specs.Returns.{returns_line}
use Rattle.sl_count_inputs.specs.declared.refused_book.RefusedBook.{RefusedBook}
use Rattle.sl_count_inputs.specs.declared.refused_election.RefusedElection.{RefusedElection}
use Rattle.sl_count_inputs.specs.declared.status.Input.TheVariants as input
use Rattle.sl_count_inputs.specs.declared.status.Status.{Status}
use Rattle.sl_count_inputs.specs.declared.verdict.Verdict.TheVariants.{Good, Refused}
use Rattle.sl_explain_calls.specs.Codes.{Subject, book_code, election_code, subject}
use Rattle.sl_law_meaning.specs.book.Books.{book_of}
use Rattle.sl_law_meaning.specs.book.Trees.{BookTree}
use Rattle.sl_law_meaning.specs.returns.Election.{Election}
use Rattle.sl_laws.specs.Books.{books as statutes}
use Rattle.sl_lex.specs.Keywords.{spelling}
use Rattle.sl_parse.specs.Words.{method_word}
use Rattle.sl_report_commands.specs.Compared.{ShowsCompared}
use Rattle.sl_report_commands.specs.Methods.{IsTreeVerdictBy}
use Rattle.sl_report_commands.specs.Digests.{book_digest, returns_digest}
use Rattle.sl_report_commands.specs.Written.{IsWritten, json_digests}
use Rattle.sl_report_commands.specs.declared.comparison.Compared.{Compared}
use Rattle.sl_report_commands.specs.declared.written.Style.{Style}
use Rattle.sl_report_forms.specs.declared.heading.Heading.{Heading}
use Rattle.sl_report_tables.specs.Answers.{HasTables, IsRefusal, IsRefusedBy}
use Rattle.sl_report_tables.specs.Words.{method_written}
use Rattle.sl_report_tables.specs.declared.answer.Answer.{Answer}
use Rattle.sl_report_forms.specs.declared.shape.Shape.{Shape}
use Rattle.sl_report_warnings.specs.Warnings.{warnings_of}
use Rattle.sl_terminal_commands.specs.Beside.{AreNames}
use Rattle.sl_terminal_commands.specs.Said.{Said, fault, nothing, warned}
use Rattle.sl_terminal_commands.specs.Sums.{AreJudged, IsVerdictOn}
use Rattle.sl_terminal_outside.specs.Inputs.{named_input}

-- the words that name the statutes of the library: each is `@`, which is 64, and the name
abbrev pub library_words : List (List ℕ)
library_words = map (λ statute. 64 ∷ statute.0) statutes

-- the words of the rulebooks that are put side by side: those that are given, and where there are none those of the library
abbrev pub compared_words : List (List ℕ) → List (List ℕ)
compared_words [] = library_words
compared_words (word ∷ words) = word ∷ words

-- the methods that words name
abbrev pub methods_written : List (List ℕ) → List Method
methods_written words = filter_map method_written words

-- ---- columns

-- each rulebook as it is, and after these each with each of the methods in place of its own
abbrev pub columns : List (List ℕ) → List Method → List (List ℕ × Option Method)
columns words methods = map (λ word. (word, None)) words ++ flat_map (λ word. map (λ by. (word, Some by)) methods) words

-- the word of a column: that of the rulebook, and behind it with a `+` that of the method
abbrev pub column_word : List ℕ → Option Method → List ℕ
column_word word None = word
column_word word (Some by) = word ++ codes "+" ++ spelling (method_word by)

-- the rulebook of a column is good: it is that which its word names, with the method if there is one
abbrev pub IsBookOf : (List ℕ → Option (List ℕ)) → List ℕ × Option Method → BookTree → Type 0
IsBookOf bytes (word, None) tree = IsVerdictOn bytes word (Good tree)
IsBookOf bytes (word, Some by) tree = (own : BookTree) × IsVerdictOn bytes word (Good own) × IsTreeVerdictBy by own (Good tree)

pub record IsColumnOn (bytes : List ℕ → Option (List ℕ)) (column : List ℕ × Option Method) (c : Compared) : Type 0 where
  pub word : string_bytes c.word ≡ column_word column.0 column.1
  pub book : IsBookOf bytes column (book_of c.book.book)

-- a rulebook is refused for a reason: by this line, and this is told
abbrev pub IsBookFault : RefusedBook → (line : List ℕ) → Subject → Type 0
IsBookFault why line s = (line ≡ book_line (refusal_of why)) × (s ≡ subject input.Book (book_code why))

-- that of a column is
abbrev pub IsRefusedOn : (List ℕ → Option (List ℕ)) → (line : List ℕ) → Subject → List ℕ × Option Method → Type 0
IsRefusedOn bytes line s (word, None) = (why : RefusedBook) × IsVerdictOn bytes word (Refused (refusal_of why)) × IsBookFault why line s
IsRefusedOn bytes line s (word, Some by) =
    (own : BookTree) × (why : RefusedBook) × IsVerdictOn bytes word (Good own) × IsTreeVerdictBy by own (Refused (refusal_of why)) × IsBookFault why line s

-- returns are refused
abbrev pub AreRefused : Option (List ℕ) → (line : List ℕ) → Subject → Type 0
AreRefused known line s =
    (why : RefusedElection) × AreJudged known (Refused (returns_refusal_of why)) × (line ≡ returns_line (returns_refusal_of why))
    × (s ≡ subject input.Returns (election_code why))

-- ---- the tables, and what is told

-- what is told of a table: what is likely a mistake in the returns, and nothing where the names are refused
abbrev pub table_said : (is_refused : Bool) → Election → Said
table_said is_refused e = if is_refused then nothing else warned e (warnings_of None e)

-- of good rulebooks on good returns: a table of their columns; or where the names are refused a refusal
abbrev pub ShowsBooks : (List ℕ → Option (List ℕ)) → List (List ℕ × Option Method) → (is_refused : Bool) → Election → Answer → Type 0
ShowsBooks bytes all false e a = HasTables e (λ tables. (cs : List Compared) × AllZip (IsColumnOn bytes) all cs × ShowsCompared e cs tables) a
ShowsBooks bytes all true e a = IsRefusal a

-- a refusal of the returns or of one of the columns, of which just this is told
abbrev pub RefusesOne : (List ℕ → Option (List ℕ)) → (returns : List ℕ) → List (List ℕ × Option Method) → Answer → (Said → Type 0) → Type 0
RefusesOne bytes returns all a Says =
    (line : List ℕ) × (s : Subject) × (AreRefused (bytes returns) line s ⊎ Any (IsRefusedOn bytes line s) all) × IsRefusedBy line a × Says (fault s)

-- the rulebooks of these words by these methods on returns: side by side, or one of these refusals
abbrev pub IsComparison : (List ℕ → Option (List ℕ)) → (returns : List ℕ) → List (List ℕ × Option Method) → (is_refused : Bool) → Answer → (Said → Type 0) → Type 0
IsComparison bytes returns all is_refused a Says =
    ((e : Election) × AreJudged (bytes returns) (Good e) × ShowsBooks bytes all is_refused e a × Says (table_said is_refused e))
    ⊎ RefusesOne bytes returns all a Says

-- ---- the digests

-- the rulebooks that words name, where the bytes of all are known
abbrev pub named_inputs : (List ℕ → Option (List ℕ)) → List (List ℕ) → Option (List BookInput)
named_inputs bytes [] = Some []
named_inputs bytes (word ∷ words) = option_and_then (λ input. option_map (λ inputs. input ∷ inputs) (named_inputs bytes words)) (named_input bytes word)

-- of all rulebooks and of the returns
abbrev pub compared_digests : List BookInput → List ℕ → List (List ℕ)
compared_digests inputs returns = flat_map book_digest inputs ++ returns_digest returns

-- `compare`: with the names of a file, if one is given, and with the text of just this answer, in JSON with the digests of the inputs
pub record IsComparisonOf (IsText : Shape → Heading → Answer → List ℕ → Type 0) (bytes : List ℕ → Option (List ℕ)) (returns : List ℕ) (books methods : List (List ℕ))
    (names : Option (List ℕ)) (style : Style) (ends : Status) (text : List ℕ) (Says : Said → Type 0) : Type 0 where
  pub answer : Answer
  pub status : ends ≡ answer.status
  pub is_refused : Bool
  pub named : AreNames bytes names is_refused
  pub means : IsComparison bytes returns (columns (compared_words books) (methods_written methods)) is_refused answer Says
  pub digests : List (List ℕ)
  pub digested : ForKnown (named_inputs bytes (compared_words books)) (bytes returns) (λ inputs known. digests ≡ compared_digests inputs known)
  pub written : IsWritten IsText (codes "compare") style (json_digests style digests) answer text

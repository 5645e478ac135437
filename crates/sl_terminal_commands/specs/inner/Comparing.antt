-- What putting rulebooks that were read side by side answers, by what they and the returns come to.
use Rattle.std.specs.List.{AllZip}
use Rattle.std.specs.Option.{option_map}
use Rattle.std.specs.Prelude.{All, Bool, Contains, IfSome, List, None, Option, Some, codes, false, flat_map, map, string_bytes, true, ◌++◌, ◌≡◌, ◌⊎◌, ℕ}
use Rattle.sl_base_quotients.specs.declared.method.Method.{Method}
use Rattle.sl_count_inputs.specs.Books.{book_line}
use Rattle.sl_count_inputs.specs.Judging.{election_verdict, refusal_of, returns_refusal_of, tree_verdict}
use Rattle.sl_count_inputs.specs.Returns.{returns_line}
use Rattle.sl_count_inputs.specs.Texts.{IsBookText, IsReadText}
use Rattle.sl_count_inputs.specs.declared.limits.TheConstants.{MAX_RETURNS_BYTES}
use Rattle.sl_count_inputs.specs.declared.refused_book.RefusedBook.{RefusedBook}
use Rattle.sl_count_inputs.specs.declared.refused_election.RefusedElection.{RefusedElection}
use Rattle.sl_count_inputs.specs.declared.status.Input.TheVariants as input
use Rattle.sl_count_inputs.specs.declared.verdict.Verdict.TheVariants.{Good, Refused}
use Rattle.sl_count_inputs.specs.declared.verdict.Verdict.{Verdict}
use Rattle.sl_explain_calls.specs.Codes.{Subject, book_code, election_code, subject}
use Rattle.sl_law_meaning.specs.book.Books.{book_of}
use Rattle.sl_law_meaning.specs.declared.checked.CheckedBook.{CheckedBook}
use Rattle.sl_law_meaning.specs.returns.Election.{Election}
use Rattle.sl_report_commands.specs.Compared.{ShowsCompared}
use Rattle.sl_report_commands.specs.Methods.{IsTreeVerdictBy}
use Rattle.sl_report_commands.specs.Written.{IsWritten, json_digests}
use Rattle.sl_report_commands.specs.declared.comparison.Compared.{Compared}
use Rattle.sl_report_commands.specs.declared.written.Style.{Style}
use Rattle.sl_report_forms.specs.declared.heading.Heading.{Heading}
use Rattle.sl_report_tables.specs.Answers.{HasTables, IsRefusal, IsRefusedBy}
use Rattle.sl_report_tables.specs.declared.answer.Answer.{Answer}
use Rattle.sl_report_forms.specs.declared.shape.Shape.{Shape}
use Rattle.sl_terminal_commands.specs.Comparisons.{column_word, table_said}
use Rattle.sl_terminal_commands.specs.Beside.{AreNames}
use Rattle.sl_terminal_commands.specs.Said.{IsSaid, Said, fault}
use Rattle.sl_terminal_commands.specs.Sums.{AreJudged, IsVerdictOn}
use Rattle.sl_terminal_commands.specs.declared.reports.Writing.{Writing}
use Rattle.sl_terminal_commands.specs.declared.answered.Answered.{Answered}
use Rattle.sl_terminal_commands.specs.declared.sums.NamedBook.{NamedBook}
use Rattle.sl_terminal_commands.specs.declared.sums.NamedReturns.{NamedReturns}
use Rattle.sl_terminal_commands.specs.inner.Digested.{called_digests}
use Rattle.sl_terminal_outside.specs.Inputs.{named_input}

-- a verdict is good, or is not
abbrev pub IsGood : {A B : Type 0} → Verdict A B → Type 0
IsGood {A} v = (a : A) × (v ≡ Good a)

abbrev pub IsBad : {A B : Type 0} → Verdict A B → Type 0
IsBad {A} {B} v = (b : B) × (v ≡ Refused b)

abbrev pub AreGood : List NamedBook → Type 0
AreGood books = All (λ b. IsGood b.read.verdict) books

-- a rulebook that was read by its word, with its own methods
pub record IsReadBook (bytes : List ℕ → Option (List ℕ)) (b : NamedBook) : Type 0 where
  pub own : b.method ≡ None
  pub verdict : IsVerdictOn bytes b.word.now (tree_verdict b.read.verdict)
  pub text : IfSome (named_input bytes b.word.now) (λ input. IsBookText input b.read.text.items)

-- returns that were read of a path
pub record AreReadOf (known : Option (List ℕ)) (r : NamedReturns) : Type 0 where
  pub verdict : AreJudged known (election_verdict r.read.verdict)
  pub text : IfSome known (λ bytes. IsReadText MAX_RETURNS_BYTES bytes r.read.text.items)

-- ---- other methods

-- rulebooks with each of some methods
abbrev pub pairs : List NamedBook → List Method → List (NamedBook × Method)
pairs books methods = flat_map (λ b. map (λ by. (b, by)) methods) books

-- what a good rulebook comes to by a method
pub record IsVaried (n : NamedBook) (book : CheckedBook) (by : Method) (v : NamedBook) : Type 0 where
  pub word : v.word ≡ n.word
  pub method : v.method ≡ Some by
  pub verdict : IsTreeVerdictBy by (book_of book.book) (tree_verdict v.read.verdict)

abbrev pub IsVariedOf : NamedBook × Method → NamedBook → Type 0
IsVariedOf p v = (book : CheckedBook) × (p.0.read.verdict ≡ Good book) × IsVaried p.0 book p.1 v

-- ---- columns

pub record IsColumn (n : NamedBook) (c : Compared) : Type 0 where
  pub word : string_bytes c.word ≡ column_word n.word.now n.method
  pub book : n.read.verdict ≡ Good c.book

abbrev pub IsColumnOf : NamedBook → Option Compared → Type 0
IsColumnOf n None = IsBad n.read.verdict
IsColumnOf n (Some c) = IsColumn n c

-- the columns of rulebooks, where these are good
pub record HasColumns (books : List NamedBook) (cs : List Compared) : Type 0 where
  pub columns : AreGood books → AllZip IsColumn books cs

abbrev pub ShowsNamed : (is_refused : Bool) → Election → List NamedBook → Answer → Type 0
ShowsNamed false e books a = HasTables e (λ tables. (cs : List Compared) × AllZip IsColumn books cs × ShowsCompared e cs tables) a
ShowsNamed true e books a = IsRefusal a

-- ---- answers

-- an answer that shows this, with the text of just this answer and these digests, of which that is said
pub record IsSheets (IsText : Shape → Heading → Answer → List ℕ → Type 0) (style : Style) (digests : List (List ℕ)) (Shows : Answer → Type 0) (what : Said) (a : Answered) : Type 0 where
  pub answer : Answer
  pub status : a.status ≡ answer.status
  pub shows : Shows answer
  pub written : IsWritten IsText (codes "compare") style digests answer a.text.items
  pub said : IsSaid style.language what a.said.items

module _ (IsText : Shape → Heading → Answer → List ℕ → Type 0) (style : Style) (digests : List (List ℕ)) where
  abbrev pub IsNamedAnswer : (is_refused : Bool) → Election → List NamedBook → Answered → Type 0
  IsNamedAnswer is_refused e books a = IsSheets IsText style digests (ShowsNamed is_refused e books) (table_said is_refused e) a

  abbrev pub IsRefusedAnswer : (line : List ℕ) → Subject → Answered → Type 0
  IsRefusedAnswer line s a = IsSheets IsText style digests (IsRefusedBy line) (fault s) a

  abbrev pub IsRefusedBookAnswer : RefusedBook → Answered → Type 0
  IsRefusedBookAnswer why = IsRefusedAnswer (book_line (refusal_of why)) (subject input.Book (book_code why))

  abbrev pub IsRefusedReturnsAnswer : RefusedElection → Answered → Type 0
  IsRefusedReturnsAnswer why = IsRefusedAnswer (returns_line (returns_refusal_of why)) (subject input.Returns (election_code why))

  -- good rulebooks, also by other methods; or a refusal of one by a method
  abbrev pub IsVariedAnswer : (is_refused : Bool) → List NamedBook → List Method → Election → Answered → Type 0
  IsVariedAnswer is_refused books methods e a =
      ((varied : List NamedBook) × AllZip IsVariedOf (pairs books methods) varied × AreGood varied × IsNamedAnswer is_refused e (books ++ varied) a)
      ⊎ ((p : NamedBook × Method) × (v : NamedBook) × (why : RefusedBook) × Contains (pairs books methods) p × IsVariedOf p v × (v.read.verdict ≡ Refused why) × IsRefusedBookAnswer why a)

  -- a refusal of one of several rulebooks, or of the returns
  abbrev pub IsRefusedOne : List NamedBook → Verdict Election RefusedElection → Answered → Type 0
  IsRefusedOne books returns a =
      ((b : NamedBook) × (why : RefusedBook) × Contains books b × (b.read.verdict ≡ Refused why) × IsRefusedBookAnswer why a)
      ⊎ ((why : RefusedElection) × (returns ≡ Refused why) × IsRefusedReturnsAnswer why a)

  abbrev pub IsComparedAnswer : (is_refused : Bool) → List NamedBook → List Method → Verdict Election RefusedElection → Answered → Type 0
  IsComparedAnswer is_refused books methods returns a =
      ((e : Election) × (returns ≡ Good e) × AreGood books × IsVariedAnswer is_refused books methods e a) ⊎ IsRefusedOne books returns a

-- rulebooks that were read by these words, by their own methods
abbrev pub AreRead : (List ℕ → Option (List ℕ)) → List (List ℕ) → List NamedBook → Type 0
AreRead bytes words books = (map (λ b. b.word.now) books ≡ words) × All (IsReadBook bytes) books

-- the same of the rulebooks of words, with the names of a file if one is given
abbrev pub IsComparedOn : (Shape → Heading → Answer → List ℕ → Type 0) → (List ℕ → Option (List ℕ)) → List (List ℕ) → List Method → NamedReturns → Writing → Answered → Type 0
IsComparedOn IsText bytes words methods returns w a =
    (books : List NamedBook) × AreRead bytes words books × ((is_refused : Bool) × AreNames bytes (option_map (λ path. path.now) w.names) is_refused
    × IsComparedAnswer IsText w.style (json_digests w.style (called_digests books returns)) is_refused books methods returns.read.verdict a)

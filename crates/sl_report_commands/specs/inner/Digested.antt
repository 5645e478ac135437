-- The digests of inputs by what was read of them and what this came to.
use Rattle.std.specs.Prelude.{List, None, Option, Some, [], ◌++◌, ◌∷◌, ◌≡◌, ℕ}
use Rattle.sha2.specs.Sha256.{sha256}
use Rattle.sl_count_calls.specs.declared.judged.Judged.TheVariants.{BookRefused, Counted, ReturnsRefused, StageUnknown}
use Rattle.sl_count_calls.specs.declared.judged.Judged.{Judged}
use Rattle.sl_count_inputs.specs.Books.{BookInput, library, text}
use Rattle.sl_count_inputs.specs.Texts.{IsReadText, bytes_of}
use Rattle.sl_count_inputs.specs.declared.limits.TheConstants.{MAX_BOOK_BYTES}
use Rattle.sl_count_inputs.specs.declared.refused_book.RefusedBook.TheVariants as refused
use Rattle.sl_count_inputs.specs.declared.refused_book.RefusedBook.{RefusedBook}
use Rattle.sl_count_inputs.specs.declared.refused_election.RefusedElection.TheVariants as election
use Rattle.sl_count_inputs.specs.declared.refused_election.RefusedElection.{RefusedElection}
use Rattle.sl_count_inputs.specs.declared.status.Input.TheVariants as input
use Rattle.sl_count_inputs.specs.declared.status.Input.{Input}
use Rattle.sl_count_inputs.specs.declared.verdict.Verdict.TheVariants.{Good, Refused}
use Rattle.sl_count_inputs.specs.declared.verdict.Verdict.{Verdict}
use Rattle.sl_law_meaning.specs.declared.checked.CheckedBook.{CheckedBook}
use Rattle.sl_law_meaning.specs.returns.Election.{Election}
use Rattle.sl_report_commands.specs.Written.{IsWritten, command_of, json_digests}
use Rattle.sl_report_commands.specs.declared.written.Style.{Style}
use Rattle.sl_report_forms.specs.declared.heading.DigestedInput.{DigestedInput}
use Rattle.sl_report_forms.specs.declared.heading.Heading.{Heading}
use Rattle.sl_report_tables.specs.declared.answer.Answer.{Answer}
use Rattle.sl_report_forms.specs.declared.shape.Shape.{Shape}
use Rattle.sl_report_tables.specs.declared.counts.Show.{Show}

-- ---- what is handed on

-- the bytes of a rulebook: those of the library's, and of a text what was read of it
abbrev pub IsHanded : BookInput → List ℕ → Type 0
IsHanded (library name) bytes = bytes ≡ bytes_of (library name)
IsHanded (text whole) bytes = IsReadText MAX_BOOK_BYTES whole bytes

-- of the bytes of a rulebook and of returns, those of an input of that kind
abbrev pub text_of : Input → (book returns : List ℕ) → List ℕ
text_of input.Book book returns = book
text_of input.Returns book returns = returns
text_of input.Code book returns = []
text_of input.Names book returns = []
text_of input.Before book returns = []

abbrev pub refusal_of : {T R : Type 0} → Verdict T R → Option R
refusal_of (Good good) = None
refusal_of (Refused why) = Some why

abbrev pub digest_of : Option DigestedInput → List (List ℕ)
digest_of None = []
digest_of (Some d) = d.digest ∷ []

-- ---- an input: its digest, and none where nothing was read of it

abbrev pub book_digested : Option RefusedBook → List ℕ → List (List ℕ)
book_digested (Some refused.TooLong) bytes = []
book_digested (Some (refused.UnknownStatute name)) bytes = []
book_digested (Some (refused.Tokens fault)) bytes = sha256 bytes ∷ []
book_digested (Some (refused.Grammar fault tokens)) bytes = sha256 bytes ∷ []
book_digested (Some (refused.Test fault tree)) bytes = sha256 bytes ∷ []
book_digested None bytes = sha256 bytes ∷ []

abbrev pub returns_digested : Option RefusedElection → List ℕ → List (List ℕ)
returns_digested (Some election.TooLong) bytes = []
returns_digested (Some (election.Records why)) bytes = sha256 bytes ∷ []
returns_digested None bytes = sha256 bytes ∷ []

-- ---- those of a count, and of totals

abbrev pub count_digested : Judged → (book returns : List ℕ) → List (List ℕ)
count_digested (BookRefused why) book returns = book_digested (Some why) book
count_digested (StageUnknown known name) book returns = book_digested None book
count_digested (ReturnsRefused why) book returns = book_digested None book ++ returns_digested (Some why) returns
count_digested (Counted c) book returns = book_digested None book ++ returns_digested None returns

abbrev pub totals_digested : Option (Verdict CheckedBook RefusedBook) → Verdict Election RefusedElection → (book returns : List ℕ) → List (List ℕ)
totals_digested None verdict book returns = returns_digested (refusal_of verdict) returns
totals_digested (Some judged) verdict book returns = book_digested (refusal_of judged) book ++ returns_digested (refusal_of verdict) returns

-- the text of an answer on inputs that come to this
abbrev pub IsCountWritten : (Shape → Heading → Answer → List ℕ → Type 0) → Show → Style → Judged → (book returns : List ℕ) → Answer → List ℕ → Type 0
IsCountWritten IsText show style judged book returns a written = IsWritten IsText (command_of show) style (json_digests style (count_digested judged book returns)) a written

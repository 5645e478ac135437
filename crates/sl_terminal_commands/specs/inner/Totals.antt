-- What totals answer, by what their inputs come to.
use Rattle.std.specs.Prelude.{Bool, List, None, Option, Some, [], codes, option_map, ◌≡◌, ℕ}
use Rattle.sl_count_inputs.specs.declared.refused_book.RefusedBook.{RefusedBook}
use Rattle.sl_count_inputs.specs.declared.verdict.Verdict.{Verdict}
use Rattle.sl_law_meaning.specs.declared.checked.CheckedBook.{CheckedBook}
use Rattle.sl_report_commands.specs.Summaries.{IsTotalsBy}
use Rattle.sl_report_commands.specs.Written.{IsWritten, json_digests, totals_subject}
use Rattle.sl_report_commands.specs.declared.written.Style.{Style}
use Rattle.sl_report_commands.specs.inner.Digested.{totals_digested}
use Rattle.sl_report_forms.specs.declared.heading.Heading.{Heading}
use Rattle.sl_report_tables.specs.declared.answer.Answer.{Answer}
use Rattle.sl_report_forms.specs.declared.shape.Shape.{Shape}
use Rattle.sl_terminal_commands.specs.Said.{IsSaid, said_of}
use Rattle.sl_terminal_commands.specs.declared.answered.Answered.{Answered}
use Rattle.sl_terminal_commands.specs.declared.sums.NamedBook.{NamedBook}
use Rattle.sl_terminal_commands.specs.declared.sums.NamedReturns.{NamedReturns}
use Rattle.sl_terminal_commands.specs.inner.Comparing.{IsReadBook}
use Rattle.sl_terminal_commands.specs.inner.Digested.{word_bytes}

-- what a rulebook that was read comes to, if one was
abbrev pub verdict_in : Option NamedBook → Option (Verdict CheckedBook RefusedBook)
verdict_in book = option_map (λ b. b.read.verdict) book

-- the bytes of a rulebook that was read, if one was
abbrev pub bytes_in : Option NamedBook → List ℕ
bytes_in None = []
bytes_in (Some b) = word_bytes b.word.now b.read.text.items

-- the digests of both
abbrev pub read_totals : Option NamedBook → NamedReturns → List (List ℕ)
read_totals book returns = totals_digested (verdict_in book) returns.read.verdict (bytes_in book) returns.read.text.items

pub record IsTotalsAnswer (IsText : Shape → Heading → Answer → List ℕ → Type 0) (is_refused : Bool) (book : Option NamedBook) (returns : NamedReturns) (style : Style)
    (a : Answered) : Type 0 where
  pub answer : Answer
  pub status : a.status ≡ answer.status
  pub shows : IsTotalsBy is_refused (verdict_in book) returns.read.verdict answer
  pub written : IsWritten IsText (codes "totals") style (json_digests style (read_totals book returns)) answer a.text.items
  pub said : IsSaid style.language (said_of (totals_subject (verdict_in book) returns.read.verdict)) a.said.items

-- the rulebook of a word was read, if one is given
abbrev pub IsReadOf : (List ℕ → Option (List ℕ)) → (word : Option (List ℕ)) → Option NamedBook → Type 0
IsReadOf bytes None None = Unit {0}
IsReadOf bytes (Some word) (Some b) = (b.word.now ≡ word) × IsReadBook bytes b
IsReadOf bytes None (Some b) = ⊥
IsReadOf bytes (Some word) None = ⊥

abbrev pub IsTotalsOn : (Shape → Heading → Answer → List ℕ → Type 0) → (List ℕ → Option (List ℕ)) → (is_refused : Bool) → (word : Option (List ℕ)) → NamedReturns
    → Style → Answered → Type 0
IsTotalsOn IsText bytes is_refused word returns style a =
    (book : Option NamedBook) × IsReadOf bytes word book × IsTotalsAnswer IsText is_refused book returns style a

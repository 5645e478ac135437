-- What is said on standard error (docs/explanations.md, docs/faults.md; of warnings docs/returns.md, section 7).
use Rattle.std.specs.Prelude.{Bool, List, None, Option, Some, [], if◌then◌else◌, ◌≡◌, ℕ}
use Rattle.sl_count_calls.specs.declared.judged.Judged.TheVariants as judged
use Rattle.sl_count_calls.specs.declared.judged.Judged.{Judged}
use Rattle.sl_law_meaning.specs.declared.count.End.TheVariants as ends
use Rattle.sl_law_meaning.specs.declared.count.End.{End}
use Rattle.sl_explain_texts.specs.Pages.{page_of}
use Rattle.sl_explain_texts.specs.declared.explanation.Explanation.{Explanation}
use Rattle.sl_explain_texts.specs.declared.language.Language.{Language}
use Rattle.sl_explain_calls.specs.Codes.{Subject, end_subject, judged_subject}
use Rattle.sl_report_commands.specs.Statuses.{is_stopped}
use Rattle.sl_law_meaning.specs.book.Books.{book_of}
use Rattle.sl_law_meaning.specs.declared.checked.CheckedBook.{CheckedBook}
use Rattle.sl_law_meaning.specs.returns.Election.{Election}
use Rattle.sl_report_warnings.specs.Heads.{warning_lines}
use Rattle.sl_report_warnings.specs.Warnings.{warnings_of}
use Rattle.sl_report_warnings.specs.declared.warning.Warning.{Warning}

-- what is to be said: nothing, what a fault is, or warnings of what was counted
pub data Said : Type 0 where
  nothing : Said
  fault : (s : Subject) → Said
  warned : (e : Election) (ws : List Warning) → Said

-- the page of an explanation of that fault: of some bytes of a file, if it speaks of one
abbrev pub IsPage : Language → Subject → List ℕ → Type 0
IsPage language s text = (path : Option (List ℕ)) × (input : List ℕ) × (x : Explanation) × (x.code ≡ s.code) × (text ≡ page_of language path input x)

-- a text that says it in a language: the page of an explanation, or the warnings as lines, with the names of the returns
abbrev pub IsSaid : Language → Said → List ℕ → Type 0
IsSaid language nothing text = text ≡ []
IsSaid language (fault s) text = IsPage language s text
IsSaid language (warned e ws) text = text ≡ warning_lines language e ws

-- a text of no more than warnings
abbrev pub AreWarnings : Language → List ℕ → Type 0
AreWarnings language text = (e : Election) × (ws : List Warning) × (text ≡ warning_lines language e ws)

-- a fault, where there is one
abbrev pub said_of : Option Subject → Said
said_of None = nothing
said_of (Some s) = fault s

-- of what a rulebook and returns come to: the fault, or where there is a table the warnings of both
abbrev pub end_said : CheckedBook → Election → End → Said
end_said checked e (ends.Counted counted) = warned e (warnings_of (Some (book_of checked.book)) e)
end_said checked e (ends.Fault f) = said_of (end_subject (ends.Fault f))

abbrev pub judged_said : Judged → Said
judged_said (judged.BookRefused refused) = said_of (judged_subject (judged.BookRefused refused))
judged_said (judged.StageUnknown checked name) = said_of (judged_subject (judged.StageUnknown checked name))
judged_said (judged.ReturnsRefused refused) = said_of (judged_subject (judged.ReturnsRefused refused))
judged_said (judged.Counted counting) = end_said counting.book counting.returns counting.outcome.end

-- of a report: the same, but nothing where what is read beside the inputs is refused and stops it
abbrev pub report_said : (is_refused : Bool) → Judged → Said
report_said is_refused j = if is_stopped is_refused j then nothing else judged_said j

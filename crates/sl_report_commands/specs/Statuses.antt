-- The statuses and the lines of `report` and `stages` (docs/report.md).
use Rattle.std.specs.Prelude.{Bool, List, [], false, true, ◌&&◌, ℕ}
use Rattle.sl_count_calls.specs.Showing.{unknown_stage}
use Rattle.sl_count_calls.specs.declared.judged.Judged.TheVariants.{BookRefused, Counted, ReturnsRefused, StageUnknown}
use Rattle.sl_count_calls.specs.declared.judged.Judged.{Judged}
use Rattle.sl_count_inputs.specs.Books.{book_line}
use Rattle.sl_count_inputs.specs.Judging.{refusal_of, returns_refusal_of}
use Rattle.sl_count_inputs.specs.Returns.{returns_line}
use Rattle.sl_count_inputs.specs.StageNames.{names_of}
use Rattle.sl_count_inputs.specs.declared.status.Status.TheVariants as status
use Rattle.sl_count_inputs.specs.declared.status.Status.{Status}
use Rattle.sl_count_texts.specs.Faults.{fault_text}
use Rattle.sl_law_meaning.specs.book.Books.{book_of}
use Rattle.sl_law_meaning.specs.book.Trees.{BookTree}
use Rattle.sl_law_meaning.specs.declared.count.End.TheVariants as ends
use Rattle.sl_law_meaning.specs.declared.count.End.{End}
use Rattle.sl_law_meaning.specs.returns.Election.{Election}
use Rattle.sl_report_tables.specs.Ends.{end_status}

-- the status of what inputs come to: 0 with a table, 3 with a legal fault, 2 where one of them is refused
abbrev pub judged_status : Judged → Status
judged_status (BookRefused book) = status.Refused
judged_status (StageUnknown book name) = status.Refused
judged_status (ReturnsRefused returns) = status.Refused
judged_status (Counted counting) = end_status counting.outcome.end

-- the line of what they come to, as `count` writes it: none of a table, that of a legal fault, or that which refuses one of them
abbrev pub end_line : BookTree → Election → End → List ℕ
end_line tree e (ends.Counted counted) = []
end_line tree e (ends.Fault fault) = fault_text (names_of tree) e fault

abbrev pub judged_line : Judged → List ℕ
judged_line (BookRefused book) = book_line (refusal_of book)
judged_line (StageUnknown book name) = unknown_stage name.now
judged_line (ReturnsRefused returns) = returns_line (returns_refusal_of returns)
judged_line (Counted counting) = end_line (book_of counting.book.book) counting.returns counting.outcome.end

-- inputs come to a count, which is shown with names
abbrev pub is_counted : Judged → Bool
is_counted (BookRefused book) = false
is_counted (StageUnknown book name) = false
is_counted (ReturnsRefused returns) = false
is_counted (Counted counting) = true

-- names stop what would be shown with them: they are refused, and there is a count
abbrev pub is_stopped : (are_refused : Bool) → Judged → Bool
is_stopped are_refused judged = are_refused && is_counted judged

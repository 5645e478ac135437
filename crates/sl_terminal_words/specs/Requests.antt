-- What is asked for by what is given to a command, command by command (docs/output.md, section 2; docs/report.md).
use Rattle.std.specs.Option.{option_map_or}
use Rattle.std.specs.Prelude.{Bool, false, List, [], Option, Some, None, codes, map, if◌then◌else◌, option_and_then, option_map, unwrap_or}
use Rattle.std.specs.Str.{bytes_eq}
use Rattle.clap.specs.Walk.{Row, Text, all_of, first_of, one_of}
use Rattle.sl_explain_texts.specs.Codes.{code_named}
use Rattle.sl_explain_texts.specs.Languages.{language_of}
use Rattle.sl_explain_texts.specs.declared.code.FaultCode.{FaultCode}
use Rattle.sl_report_forms.specs.declared.shape.Shape.{Shape}
use Rattle.sl_report_forms.specs.declared.shape.Shape.TheVariants as form
use Rattle.sl_terminal_words.specs.Commands.{command_named}
use Rattle.sl_terminal_words.specs.declared.command_line.Asked.{Asked}
use Rattle.sl_terminal_words.specs.declared.command_line.Request.{Request}
use Rattle.sl_terminal_words.specs.declared.command_line.Request.TheVariants as request
use Rattle.sl_terminal_words.specs.declared.command_line.Show.{Show}
use Rattle.sl_terminal_words.specs.declared.command_line.Show.TheVariants as show
use Rattle.sl_terminal_words.specs.declared.help.Name.{Name}
use Rattle.sl_terminal_words.specs.declared.help.Name.TheVariants.{Count, Steps, Stage, Check, Code, Run, Law, Explain, Report, Stages, Totals, Compare}
use Rattle.sl_terminal_words.specs.declared.options.Options.{Options}
use Rattle.sl_terminal_words.specs.declared.reports.Report.{Report as Reported}
use Rattle.sl_terminal_words.specs.declared.reports.Report.TheVariants as report

-- ---- what can be asked for, with its words

-- what is shown of an election that is counted: its seats, the step that won each of them, or a stage
pub data View : Type 0 where
  seats : View
  steps : View
  stage : Text → View

-- what is reported
pub data Page : Type 0 where
  -- the seat table of one count, as `count` has it: a rulebook and returns
  seat_table : Text → Text → Page
  -- the step that won each seat, with the seat table, as `steps` has it
  step_table : Text → Text → Page
  -- one count: a rulebook and returns
  count : Text → Text → Page
  -- what the press needs of it, with an earlier seat table if one is given
  short : Text → Text → Option Text → Page
  -- all stages
  stages : Text → Text → Page
  -- the totals of returns, with a rulebook if one is given
  totals : Text → Option Text → Page
  -- returns by several rulebooks, each as it is and with each of the methods
  comparison : Text → List Text → List Text → Page

pub data Wish : Type 0 where
  -- to count: a rulebook and returns
  counted : View → Text → Text → Wish
  -- to check a rulebook
  checked : Text → Wish
  -- to compile a rulebook to a file, whatever lies there
  compiled : Text → Text → Bool → Wish
  -- to run a code file on returns
  run : Text → Text → Wish
  -- to write a rulebook of the library
  law : Text → Wish
  -- to explain the code of a fault
  explained : FaultCode → Wish
  -- to report in a form, with a file of names if one is given
  reported : Page → Shape → Option Text → Wish

-- ---- the same, of the program's own values

abbrev pub view_of : Show → View
view_of show.Seats = seats
view_of show.Steps = steps
view_of (show.Stage name) = stage name.now

abbrev pub page_of : Reported → Page
page_of (report.Seats book returns) = seat_table book.now returns.now
page_of (report.Steps book returns) = step_table book.now returns.now
page_of (report.Count book returns) = count book.now returns.now
page_of (report.Short book returns before) = short book.now returns.now (option_map (λ word. word.now) before)
page_of (report.Stages book returns) = stages book.now returns.now
page_of (report.Totals returns book) = totals returns.now (option_map (λ word. word.now) book)
page_of (report.Compare returns books methods) =
    comparison returns.now (map (λ word. word.now) books.items) (map (λ word. word.now) methods.items)

abbrev pub wish_of : Request → Wish
wish_of (request.Count show book returns) = counted (view_of show) book.now returns.now
wish_of (request.Check book) = checked book.now
wish_of (request.Code book file is_forced) = compiled book.now file.now is_forced
wish_of (request.Run code returns) = run code.now returns.now
wish_of (request.Law name) = law name.now
wish_of (request.Explain code) = explained code
wish_of (request.Report what form names) = reported (page_of what) form (option_map (λ word. word.now) names)

-- ---- what is given to a command

-- the word that is given by a name
abbrev pub word_in : List Row → Text → Option Text
word_in given name = first_of name given

-- all words that are given by a name
abbrev pub words_in : List Row → Text → List Text
words_in given name = unwrap_or (all_of name given) []

-- a flag is given
abbrev pub flag_in : List Row → Text → Bool
flag_in given name = option_map_or (λ text. bytes_eq text (codes "true")) (one_of name given) false

-- ---- what is asked for

-- by two words
abbrev pub of_two : {X : Type 0} → Option Text → Option Text → (Text → Text → Option X) → Option X
of_two one other make = option_and_then (λ a. option_and_then (make a) other) one

abbrev pub counted_by : View → List Row → Option Wish
counted_by view given =
    of_two (word_in given (codes "BOOK")) (word_in given (codes "RETURNS")) (λ book returns. Some (counted view book returns))

abbrev pub staged_by : List Row → Option Wish
staged_by given = option_and_then (λ name. counted_by (stage name) given) (word_in given (codes "NAME"))

abbrev pub checked_by : List Row → Option Wish
checked_by given = option_map (λ book. checked book) (word_in given (codes "BOOK"))

-- nothing is asked for where the code would be written over the rulebook
abbrev pub compiled_by : List Row → Option Wish
compiled_by given = of_two (word_in given (codes "BOOK")) (word_in given (codes "OUT")) (λ book file.
    if bytes_eq book file then None else Some (compiled book file (flag_in given (codes "force"))))

abbrev pub run_by : List Row → Option Wish
run_by given =
    of_two (word_in given (codes "CODE")) (word_in given (codes "RETURNS")) (λ code returns. Some (run code returns))

abbrev pub law_by : List Row → Option Wish
law_by given = option_map (λ name. law name) (word_in given (codes "NAME"))

-- nothing is asked for by a word that is no code
abbrev pub explained_by : List Row → Option Wish
explained_by given = option_map (λ code. explained code) (option_and_then code_named (word_in given (codes "CODE")))

-- what `count` and `steps` report, which is so only where JSON is asked for
abbrev pub table_page : (Text → Text → Page) → List Row → Option Page
table_page table given = if flag_in given (codes "json")
    then of_two (word_in given (codes "BOOK")) (word_in given (codes "RETURNS")) (λ book returns. Some (table book returns)) else None

-- what `report` reports, `stages`, `totals` and `compare`
abbrev pub counted_page : List Row → Option Page
counted_page given = of_two (word_in given (codes "BOOK")) (word_in given (codes "RETURNS")) (λ book returns.
    Some (if flag_in given (codes "short") then short book returns (word_in given (codes "before")) else count book returns))

abbrev pub stages_page : List Row → Option Page
stages_page given =
    of_two (word_in given (codes "BOOK")) (word_in given (codes "RETURNS")) (λ book returns. Some (stages book returns))

abbrev pub totals_page : List Row → Option Page
totals_page given =
    option_map (λ returns. totals returns (word_in given (codes "BOOK"))) (word_in given (codes "RETURNS"))

abbrev pub comparison_page : List Row → Option Page
comparison_page given =
    option_map (λ returns. comparison returns (words_in given (codes "BOOK")) (words_in given (codes "method")))
    (word_in given (codes "RETURNS"))

abbrev pub page_by : Name → List Row → Option Page
page_by Count given = table_page seat_table given
page_by Steps given = table_page step_table given
page_by Report given = counted_page given
page_by Stages given = stages_page given
page_by Totals given = totals_page given
page_by Compare given = comparison_page given
page_by command given = None

abbrev pub form_by : List Row → Shape
form_by given = if flag_in given (codes "markdown") then form.Markdown
    else (if flag_in given (codes "html") then form.Html
    else (if flag_in given (codes "json") then form.Json
    else (if flag_in given (codes "csv") then form.Comma else form.Text)))

abbrev pub reported_by : Name → List Row → Option Wish
reported_by command given =
    option_map (λ page. reported page (form_by given) (word_in given (codes "names"))) (page_by command given)

-- what `count` and `steps` ask for: a report where JSON is asked for, and else to show a view
abbrev pub shown_by : Name → View → List Row → Option Wish
shown_by command view given = if flag_in given (codes "json") then reported_by command given else counted_by view given

abbrev pub wish_by : Name → List Row → Option Wish
wish_by Count given = shown_by Count seats given
wish_by Steps given = shown_by Steps steps given
wish_by Stage given = staged_by given
wish_by Check given = checked_by given
wish_by Code given = compiled_by given
wish_by Run given = run_by given
wish_by Law given = law_by given
wish_by Explain given = explained_by given
wish_by command given = reported_by command given

-- how the command is to speak: without explanations, and in the language of `--lang` if it is given
abbrev pub options_by : List Row → Options
options_by given = record {
  is_quiet = flag_in given (codes "quiet");
  language = option_and_then language_of (word_in given (codes "lang"));
}

-- both, by a command's word and what is given to it
abbrev pub asked_by : Text × List Row → Option (Wish × Options)
asked_by (word, given) =
    option_and_then (λ command. option_map (λ wish. (wish, options_by given)) (wish_by command given)) (command_named word)

abbrev pub asked_of : Asked → Wish × Options
asked_of asked = (wish_of asked.request, asked.options)

-- ---- the command that asks for it

abbrev pub command_of_view : Show → Name
command_of_view show.Seats = Count
command_of_view show.Steps = Steps
command_of_view (show.Stage name) = Stage

abbrev pub command_of_page : Reported → Name
command_of_page (report.Seats book returns) = Count
command_of_page (report.Steps book returns) = Steps
command_of_page (report.Stages book returns) = Stages
command_of_page (report.Totals returns book) = Totals
command_of_page (report.Compare returns books methods) = Compare
command_of_page page = Report

abbrev pub command_of : Request → Name
command_of (request.Count show book returns) = command_of_view show
command_of (request.Check book) = Check
command_of (request.Code book file is_forced) = Code
command_of (request.Run code returns) = Run
command_of (request.Law name) = Law
command_of (request.Explain code) = Explain
command_of (request.Report what form names) = command_of_page what

-- What words come to (docs/output.md, section 3).
use Rattle.std.specs.Option.{option_map}
use Rattle.std.specs.Prelude.{Bool, Err, List, None, Ok, Option, [], if◌then◌else◌, string_bytes, unwrap_or, ◌≡◌, ◌⊎◌, ℕ}
use Rattle.sl_count_inputs.specs.Statuses.{status_number}
use Rattle.sl_explain_texts.specs.declared.code.FaultCode.{FaultCode}
use Rattle.sl_explain_texts.specs.declared.language.Language.{Language}
use Rattle.sl_report_forms.specs.declared.heading.Heading.{Heading}
use Rattle.sl_report_tables.specs.declared.answer.Answer.{Answer as Sheets}
use Rattle.sl_report_forms.specs.declared.shape.Shape.{Shape}
use Rattle.sl_terminal_commands.specs.Files.{Spares, made_at}
use Rattle.sl_terminal_commands.specs.Requests.{IsAnswerTo}
use Rattle.sl_terminal_commands.specs.declared.answered.Answered.{Answered}
use Rattle.sl_terminal_commands.specs.declared.reply.Made.{Made}
use Rattle.sl_terminal_commands.specs.declared.reply.Reply.{Reply}
use Rattle.sl_terminal_commands.specs.declared.telling.Said.TheVariants.{Fixed, OutOfMemory, Text}
use Rattle.sl_terminal_commands.specs.declared.telling.Said.{Said}
use Rattle.sl_terminal_words.specs.Answers.{IsAnswerTo as IsAskedBy}
use Rattle.sl_terminal_words.specs.declared.answers.Answer.TheVariants.{NoMemory, Refused, Shown}
use Rattle.sl_terminal_words.specs.declared.answers.Answer.{Answer}
use Rattle.sl_terminal_words.specs.declared.command_line.Asked.{Asked}
use Rattle.sl_terminal_words.specs.declared.command_line.Request.{Request}

-- what is said has these bytes
abbrev pub Says : Said → List ℕ → Type 0
Says (Text text) bytes = text.items ≡ bytes
Says (Fixed text) bytes = text.now ≡ bytes
Says (OutOfMemory command) bytes = ⊥

-- a file that is made: its path, and its bytes
abbrev pub file_of : Made → List ℕ × List ℕ
file_of m = (string_bytes m.path, m.bytes.items)

-- what is heard of what is said: nothing where explanations are off
abbrev pub heard : (is_quiet : Bool) → List ℕ → List ℕ
heard is_quiet said = if is_quiet then [] else said

-- the reply of an answer, which makes a file at that path if there is one
pub record IsReplied (is_quiet : Bool) (path : Option (List ℕ)) (a : Answered) (r : Reply) : Type 0 where
  pub number : r.number ≡ status_number a.status
  pub out : r.out ≡ a.text
  pub said : Says r.said (heard is_quiet a.said.items)
  pub made : option_map file_of r.made ≡ option_map (λ path. (path, a.made.items)) path

-- the reply where there is no answer: 1 where a file would be lost, 5 after an error; standard output gets nothing, and no file is made
pub record IsStopped (bytes : List ℕ → Option (List ℕ)) (request : Request) (r : Reply) : Type 0 where
  pub number : ((r.number ≡ 1) × Spares bytes request) ⊎ (r.number ≡ 5)
  pub out : r.out.items ≡ []
  pub made : r.made ≡ None

-- the reply to words that ask for no command: a help or the version, with 0; or why they are refused, with 1
abbrev pub IsSaidOf : Answer → Reply → Type 0
IsSaidOf (Shown text) r = (r.number ≡ 0) × (r.out ≡ text) × Says r.said [] × (r.made ≡ None)
IsSaidOf (Refused text) r = (r.number ≡ 1) × (r.out.items ≡ []) × Says r.said text.items × (r.made ≡ None)
IsSaidOf (NoMemory language) r = (r.number ≡ 1) × (r.out.items ≡ []) × (r.made ≡ None)

-- by the texts of answers, those about codes, and what the bytes of files are
module _ (IsText : Shape → Heading → Sheets → List ℕ → Type 0) (IsAbout : Language → FaultCode → List ℕ → Type 0) (language : Language) (bytes : List ℕ → Option (List ℕ)) where
  -- to what is asked for, in the language that is asked for
  abbrev pub IsReplyOf : Asked → Reply → Type 0
  IsReplyOf asked r =
      ((a : Answered) × IsAnswerTo IsText IsAbout (unwrap_or asked.options.language language) bytes asked.request a × IsReplied asked.options.is_quiet (made_at asked.request) a r)
      ⊎ IsStopped bytes asked.request r

  -- to words: to what they ask for, or what is said of them
  abbrev pub IsReplyTo : List (List ℕ) → Reply → Type 0
  IsReplyTo words r =
      ((asked : Asked) × IsAskedBy language words (Ok asked) × IsReplyOf asked r)
      ⊎ ((answer : Answer) × IsAskedBy language words (Err answer) × IsSaidOf answer r)

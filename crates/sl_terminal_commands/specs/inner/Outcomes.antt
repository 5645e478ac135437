-- What a request comes to: an answer, or that it would lose a file.
use Rattle.std.specs.Prelude.{Bool, Err, IfSome, List, None, Ok, Option, Result, Some, [], ◌≡◌, ◌≢◌, ℕ}
use Rattle.sl_count_inputs.specs.declared.input.Bytes.TheVariants.{TooLong, Whole}
use Rattle.sl_count_inputs.specs.declared.input.Bytes.{Bytes}
use Rattle.sl_explain_calls.specs.declared.opening.Lost.TheVariants.{Other, Rulebook}
use Rattle.sl_explain_calls.specs.declared.opening.Lost.{Lost}
use Rattle.sl_explain_texts.specs.declared.code.FaultCode.{FaultCode}
use Rattle.sl_explain_texts.specs.declared.language.Language.{Language}
use Rattle.sl_report_forms.specs.declared.heading.Heading.{Heading}
use Rattle.sl_report_tables.specs.declared.answer.Answer.{Answer}
use Rattle.sl_report_forms.specs.declared.shape.Shape.{Shape}
use Rattle.sl_terminal_commands.specs.Files.{MustStay, Spares}
use Rattle.sl_terminal_commands.specs.Replies.{IsReplied}
use Rattle.sl_terminal_commands.specs.Requests.{IsAnswerTo}
use Rattle.sl_terminal_commands.specs.declared.answered.Answered.{Answered as Answering}
use Rattle.sl_terminal_commands.specs.declared.commands.Outcome.TheVariants.{Answered, Spared}
use Rattle.sl_terminal_commands.specs.declared.commands.Outcome.{Outcome}
use Rattle.sl_terminal_commands.specs.declared.reply.Reply.{Reply}
use Rattle.sl_terminal_words.specs.declared.command_line.Request.{Request}

abbrev pub IfAnswered : Outcome → (Answering → Type 0) → Type 0
IfAnswered (Answered a) Is = Is a
IfAnswered (Spared path lost) Is = Unit {0}

abbrev pub IfSpared : Outcome → Type 0 → Type 0
IfSpared (Answered a) Why = Unit {0}
IfSpared (Spared path lost) Why = Why

-- an answer is an outcome
abbrev pub IsAnswered : {E : Type 0} → Result Answering E → Result Outcome E → Type 0
IsAnswered (Ok a) result = result ≡ Ok (Answered a)
IsAnswered (Err e) result = result ≡ Err e

-- ---- a file that would be written

-- its bytes are those that were read of a rulebook, which are not none
abbrev pub AreOfBook : Bytes → (read : List ℕ) → Type 0
AreOfBook (Whole v) read = (v.items ≡ read) × (read ≢ [])
AreOfBook TooLong read = ⊥

-- it may be lost, or it would be lost for this reason
abbrev pub IsLookedAt : (known : Option (List ℕ)) → (read : List ℕ) → (is_forced : Bool) → Option Lost → Type 0
IsLookedAt known read is_forced None = MustStay known is_forced → ⊥
IsLookedAt known read is_forced (Some Other) = IfSome known (λ file. MustStay (Some file) is_forced)
IsLookedAt known read is_forced (Some Rulebook) = IfSome known (λ file. (file ≡ read) × (read ≢ []))

abbrev pub IsLooked : (known : Option (List ℕ)) → (read : List ℕ) → (is_forced : Bool) → Outcome → Type 0
IsLooked known read is_forced (Answered a) = IsLookedAt known read is_forced None
IsLooked known read is_forced (Spared path lost) = IsLookedAt known read is_forced (Some lost)

-- ---- a request

abbrev pub IsOutcomeOf : (Shape → Heading → Answer → List ℕ → Type 0) → (Language → FaultCode → List ℕ → Type 0) → Language → (List ℕ → Option (List ℕ)) → Request → Outcome → Type 0
IsOutcomeOf IsText IsAbout language bytes request (Answered a) = IsAnswerTo IsText IsAbout language bytes request a
IsOutcomeOf IsText IsAbout language bytes request (Spared path lost) = Spares bytes request

-- the reply: that of the answer, which makes a file at that path if there is one, or 1
abbrev pub RepliesTo : (is_quiet : Bool) → (path : Option (List ℕ)) → Outcome → Reply → Type 0
RepliesTo is_quiet path (Answered a) r = IsReplied is_quiet path a r
RepliesTo is_quiet path (Spared spared lost) r = (r.number ≡ 1) × (r.out.items ≡ []) × (r.made ≡ None)

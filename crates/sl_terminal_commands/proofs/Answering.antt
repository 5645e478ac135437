-- An answer to a request, by what its command ensures.
use Rattle.std.proofs.Common.{Err, IfOk, List, Ok, Option, Result, [], false, subst, sym, ◌≡◌, ℕ}
use Rattle.sl_count_inputs.specs.declared.status.Status.TheVariants as status
use Rattle.sl_explain_texts.specs.declared.code.FaultCode.{FaultCode}
use Rattle.sl_explain_texts.specs.declared.language.Language.{Language}
use Rattle.sl_report_forms.specs.declared.heading.Heading.{Heading}
use Rattle.sl_report_tables.specs.declared.answer.Answer.{Answer}
use Rattle.sl_report_forms.specs.declared.shape.Shape.{Shape}
use Rattle.sl_terminal_commands.proofs.Warned.{nothing_warns}
use Rattle.sl_terminal_commands.specs.Files.{Loses}
use Rattle.sl_terminal_commands.specs.Requests.{IsAnswerTo, IsOutputOf}
use Rattle.sl_terminal_commands.specs.Said.{AreWarnings, IsSaid}
use Rattle.sl_terminal_commands.specs.Tellings.{IsOfFault, warns}
use Rattle.sl_terminal_commands.specs.declared.answered.Answered.{Answered}
use Rattle.sl_terminal_words.specs.declared.command_line.Request.{Request}

module _ {R : Type 0} (IsText : Shape → Heading → Answer → List ℕ → Type 0) (IsAbout : Language → FaultCode → List ℕ → Type 0) (language : Language) (bytes : List ℕ → Option (List ℕ))
    (given request : Request) (is : given ≡ request) (r : Result Answered R)
    (output : IfOk r (λ a. IsOutputOf IsText IsAbout language bytes request a.status a.text.items a.made.items (λ s. IsSaid language s a.said.items)))
    (said : IfOk r (λ a. IsOfFault bytes request (λ s. IsSaid language s a.said.items))) where
  answers_as : IfOk r (IsAnswerTo IsText IsAbout language bytes request) → IfOk r (IsAnswerTo IsText IsAbout language bytes given)
  answers_as all = subst (λ q. IfOk r (IsAnswerTo IsText IsAbout language bytes q)) (sym is) all

  -- a command that may warn
  pub answers : IfOk r (λ a. a.status ≡ status.Done → AreWarnings language a.said.items) → (warns request ≡ false → IfOk r (λ a. a.status ≡ status.Done → a.said.items ≡ []))
      → IfOk r (λ a. Loses bytes request → ⊥) → IfOk r (IsAnswerTo IsText IsAbout language bytes given)
  answers done still lost = answers_as (go r output said done still lost)
    where
      go : (r : Result Answered R) → IfOk r (λ a. IsOutputOf IsText IsAbout language bytes request a.status a.text.items a.made.items (λ s. IsSaid language s a.said.items))
          → IfOk r (λ a. IsOfFault bytes request (λ s. IsSaid language s a.said.items)) → IfOk r (λ a. a.status ≡ status.Done → AreWarnings language a.said.items)
          → (warns request ≡ false → IfOk r (λ a. a.status ≡ status.Done → a.said.items ≡ [])) → IfOk r (λ a. Loses bytes request → ⊥)
          → IfOk r (IsAnswerTo IsText IsAbout language bytes request)
      go (Ok a) output said done still lost = record { output = output; said = said; done = done; still = still; lost = lost }
      go (Err f) output said done still lost = tt

  -- a command that says nothing where it was done
  pub answers_still : IfOk r (λ a. a.status ≡ status.Done → a.said.items ≡ []) → IfOk r (λ a. Loses bytes request → ⊥) → IfOk r (IsAnswerTo IsText IsAbout language bytes given)
  answers_still done lost = answers (quiet r done) (λ none. done) lost
    where
      quiet : (r : Result Answered R) → IfOk r (λ a. a.status ≡ status.Done → a.said.items ≡ []) → IfOk r (λ a. a.status ≡ status.Done → AreWarnings language a.said.items)
      quiet (Ok a) done = λ is. nothing_warns language a.said.items (done is)
      quiet (Err f) done = tt

-- what a request does not do that makes no file
pub none_lost : {R : Type 0} (r : Result Answered R) → IfOk r (λ a. ⊥ → ⊥)
none_lost (Ok a) = λ lost. lost
none_lost (Err f) = tt

-- what is said goes with the tables
pub said_with_tables : {R : Type 0} (r : Result Answered R) → IfOk r (λ a. Unit {0})
said_with_tables (Ok a) = tt
said_with_tables (Err f) = tt

-- of an answer hold both
pub both : {R : Type 0} (r : Result Answered R) (P Q : Answered → Type 0) → IfOk r P → IfOk r Q → IfOk r (λ a. P a × Q a)
both (Ok a) P Q p q = (p, q)
both (Err f) P Q p q = tt

-- what holds of an answer holds whatever holds before
pub as_before : {R : Type 0} (r : Result Answered R) (P Q : Answered → Type 0) → IfOk r Q → IfOk r (λ a. P a → Q a)
as_before (Ok a) P Q q = λ p. q
as_before (Err f) P Q q = tt

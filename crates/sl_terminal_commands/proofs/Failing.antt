-- Files that are not written to, and the reply.
use Rattle.std.proofs.Common.{Bool, Err, IfOk, IfSome, List, None, Ok, Option, Result, Some, [], cond, inl, inr, subst, sym, ◌∙◌, ◌≡◌, ◌≢◌, ◌⊎◌, ℕ, true, false}
use Rattle.std.specs.Prelude.{length, nat_le}
use Rattle.sl_count_inputs.specs.Books.{BookInput, library, text}
use Rattle.sl_count_inputs.specs.Texts.{IsBookText, bytes_of}
use Rattle.sl_count_inputs.specs.declared.limits.TheConstants.{MAX_BOOK_BYTES}
use Rattle.sl_count_inputs.specs.declared.status.Status.TheVariants as status
use Rattle.sl_explain_calls.specs.declared.opening.Lost.TheVariants.{Other, Rulebook}
use Rattle.sl_explain_texts.specs.declared.code.FaultCode.{FaultCode}
use Rattle.sl_explain_texts.specs.declared.language.Language.{Language}
use Rattle.sl_report_forms.specs.declared.heading.Heading.{Heading}
use Rattle.sl_report_tables.specs.declared.answer.Answer.{Answer}
use Rattle.sl_report_forms.specs.declared.shape.Shape.{Shape}
use Rattle.sl_terminal_commands.proofs.Warned.{nothing_warns}
use Rattle.sl_terminal_commands.specs.Files.{IsSpared, Loses, MustStay, Spares}
use Rattle.sl_terminal_commands.specs.Replies.{IsReplied, IsStopped}
use Rattle.sl_terminal_commands.specs.Requests.{IsAnswerTo, IsOutputOf}
use Rattle.sl_terminal_commands.specs.Said.{IsSaid}
use Rattle.sl_terminal_commands.specs.Tellings.{IsOfFault}
use Rattle.sl_terminal_commands.specs.declared.answered.Answered.{Answered as Answering}
use Rattle.sl_terminal_commands.specs.declared.commands.Outcome.TheVariants.{Answered, Spared}
use Rattle.sl_terminal_commands.specs.declared.commands.Outcome.{Outcome}
use Rattle.sl_terminal_commands.specs.declared.reply.Reply.{Reply}
use Rattle.sl_terminal_commands.specs.inner.Outcomes.{IfAnswered, IfSpared, IsAnswered, IsLooked, IsOutcomeOf, RepliesTo}
use Rattle.sl_terminal_words.specs.declared.command_line.Request.{Request}

-- bytes that were read of a rulebook are its own, if there are any
read_of : (i : BookInput) (read : List ℕ) → IsBookText i read → read ≢ [] → read ≡ bytes_of i
read_of (library name) read is some = absurd (some is)
read_of (text b) read is some = go (nat_le (length b) MAX_BOOK_BYTES) is
  where
    go : (fits : Bool) → read ≡ cond fits b [] → read ≡ b
    go true is = is
    go false is = absurd (some is)

spared_file : (i : Option BookInput) (read file : List ℕ) → IfSome i (λ i. IsBookText i read) → (file ≡ read) × (read ≢ []) → IfSome i (λ i. file ≡ bytes_of i)
spared_file None read file of_book same = tt
spared_file (Some i) read file of_book same = same.0 ∙ read_of i read of_book same.1

pub spared_by : (known : Option (List ℕ)) (i : Option BookInput) (read : List ℕ) (is_forced : Bool) (o : Outcome) → IfSome i (λ i. IsBookText i read)
    → IsLooked known read is_forced o → IfSpared o (IsSpared known i is_forced)
spared_by known i read is_forced (Answered a) of_book is = tt
spared_by None i read is_forced (Spared path lost) of_book is = tt
spared_by (Some file) i read is_forced (Spared path Other) of_book is = inl is
spared_by (Some file) i read is_forced (Spared path Rulebook) of_book is = inr (spared_file i read file of_book is)

pub answered_as : (Is Also : Answering → Type 0) (o : Outcome) → ((a : Answering) → Is a → Also a) → IfAnswered o Is → IfAnswered o Also
answered_as Is Also (Answered a) more is = more a is
answered_as Is Also (Spared path lost) more is = tt

pub stays_by : (known : Option (List ℕ)) (read : List ℕ) (is_forced : Bool) (o : Outcome) → IsLooked known read is_forced o → IfAnswered o (λ a. MustStay known is_forced → ⊥)
stays_by known read is_forced (Answered a) is = is
stays_by known read is_forced (Spared path lost) is = tt

module _ (IsText : Shape → Heading → Answer → List ℕ → Type 0) (IsAbout : Language → FaultCode → List ℕ → Type 0) (language : Language) (bytes : List ℕ → Option (List ℕ))
    (request : Request) where
  -- the reply to what a request comes to
  pub replies_by : (is_quiet : Bool) (path : Option (List ℕ)) (o : Outcome) (r : Reply) → IsOutcomeOf IsText IsAbout language bytes request o → RepliesTo is_quiet path o r
      → ((a : Answering) × IsAnswerTo IsText IsAbout language bytes request a × IsReplied is_quiet path a r) ⊎ IsStopped bytes request r
  replies_by is_quiet path (Answered a) r is replied = inl (a, is, replied)
  replies_by is_quiet path (Spared spared lost) r is replied = inr record { number = inl (replied.0, is); out = replied.1; made = replied.2 }

  -- an answer is what it comes to
  pub comes_to : {E : Type 0} (r : Result Answering E) (o : Result Outcome E) → IsAnswered r o → IfOk r (IsAnswerTo IsText IsAbout language bytes request)
      → IfOk o (IsOutcomeOf IsText IsAbout language bytes request)
  comes_to (Ok a) o same is = subst (λ o. IfOk o (IsOutcomeOf IsText IsAbout language bytes request)) (sym same) is
  comes_to (Err e) o same is = subst (λ o. IfOk o (IsOutcomeOf IsText IsAbout language bytes request)) (sym same) tt

  -- `code`, which may spare a file
  pub code_comes_to : {E : Type 0} (given : Request) → given ≡ request → (o : Result Outcome E)
      → IfOk o (λ o. IfAnswered o (λ a. IsOutputOf IsText IsAbout language bytes request a.status a.text.items a.made.items (λ s. IsSaid language s a.said.items)))
      → IfOk o (λ o. IfAnswered o (λ a. IsOfFault bytes request (λ s. IsSaid language s a.said.items))) → IfOk o (λ o. IfAnswered o (λ a. a.status ≡ status.Done → a.said.items ≡ []))
      → IfOk o (λ o. IfAnswered o (λ a. Loses bytes request → ⊥)) → IfOk o (λ o. IfSpared o (Spares bytes request)) → IfOk o (IsOutcomeOf IsText IsAbout language bytes given)
  code_comes_to given is (Err e) output said done lost spared = tt
  code_comes_to given is (Ok (Answered a)) output said done lost spared =
      subst (λ q. IsAnswerTo IsText IsAbout language bytes q a) (sym is)
      record { output = output; said = said; done = λ h. nothing_warns language a.said.items (done h); still = λ none. done; lost = lost }
  code_comes_to given is (Ok (Spared path why)) output said done lost spared = subst (λ q. Spares bytes q) (sym is) spared

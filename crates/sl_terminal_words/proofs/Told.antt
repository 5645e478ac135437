-- What is answered, from what `clap` gives of the words.
use Rattle.std.proofs.Common.{◌≡◌, ◌∙◌, List, [], ap, false, inl, inr, subst, sym, true}
use Rattle.std.specs.Prelude.{Ok, Err, Result, option_and_then}
use Rattle.clap.specs.Faults.{fault_of, is_simple_and_free}
use Rattle.clap.specs.Kinds.{HasKind, Kinds}
use Rattle.clap.specs.Simple.{App, HasMatchesOf, subcommand_of, subcommand_rows_of}
use Rattle.clap.specs.Values.{kind_of}
use Rattle.clap.specs.Walk.{Text}
use Rattle.clap.specs.declared.error.Error.{Error}
use Rattle.clap.specs.declared.parser.matches.ArgMatches.{ArgMatches}
use Rattle.sl_explain_texts.specs.declared.language.Language.{Language}
use Rattle.sl_terminal_words.proofs.Places.{subcommand_of-same}
use Rattle.sl_terminal_words.proofs.PlacesFaults.{fault_of-same}
use Rattle.sl_terminal_words.proofs.Simple.{ours_is_free, ours_is_simple}
use Rattle.sl_terminal_words.specs.Answers.{Answers, asked_in, faults_in, is_known}
use Rattle.sl_terminal_words.specs.Commands.{program_for}
use Rattle.sl_terminal_words.specs.Requests.{asked_by}
use Rattle.sl_terminal_words.specs.declared.answers.Answer.{Answer}
use Rattle.sl_terminal_words.specs.declared.answers.Answer.TheVariants.{Shown, Refused, NoMemory}
use Rattle.sl_terminal_words.specs.declared.command_line.Asked.{Asked}
use Rattle.sl_terminal_words.specs.inner.Rules.{plain}
use Rattle.sl_terminal_words.specs.inner.Replies.{Replies, Tells}

-- of the table as of the program that stands in memory
same_faults : (a : App) (words : List Text) → plain a ≡ program_for words → faults_in words ≡ fault_of a words
unfolding faults_in
same_faults a words is = ap (λ (b : App). fault_of b words) (sym is) ∙ fault_of-same a words

asked_by_matches : (a : App) (words : List Text) (m : ArgMatches) → plain a ≡ program_for words → HasMatchesOf a words m
    → asked_in words ≡ option_and_then asked_by (subcommand_rows_of m)
unfolding asked_in
asked_by_matches a words m is has = ap (option_and_then asked_by)
    (ap (λ (b : App). subcommand_of b words) (sym is) ∙ subcommand_of-same a words ∙ sym (has (ours_is_simple a words is)).1)

-- where it gives matches
pub answers_by_matches : (language : Language) (a : App) (words : List Text) (m : ArgMatches) → plain a ≡ program_for words → HasMatchesOf a words m
    → (is_simple_and_free a ≡ true → fault_of a words ≡ []) → (answer : Result Asked Answer)
    → Replies (option_and_then asked_by (subcommand_rows_of m)) answer → Answers language words answer
answers_by_matches language a words m is has none (Ok asked) h =
    (asked_by_matches a words m is has ∙ h, λ known. same_faults a words is ∙ none (ours_is_free a words is known))
answers_by_matches language a words m is has none (Err (Refused text)) h = inr (asked_by_matches a words m is has ∙ h.0)
answers_by_matches language a words m is has none (Err (Shown text)) h = absurd h.1
answers_by_matches language a words m is has none (Err (NoMemory other)) h = absurd h.1

-- where it stops
pub answers_by_error : (language : Language) (a : App) (words : List Text) (e : Error) → plain a ≡ program_for words
    → (is_simple_and_free a ≡ true → HasKind (fault_of a words) e) → (answer : Answer) → Tells (kind_of e) answer → Answers language words (Err answer)
answers_by_error language a words e is has answer tells = go answer tells
  where
    among : is_known words ≡ true → HasKind (faults_in words) e
    among known = subst (λ (faults : Kinds). HasKind faults e) (sym (same_faults a words is)) (has (ours_is_free a words is known))

    go : (reply : Answer) → Tells (kind_of e) reply → Answers language words (Err reply)
    go (Shown text) call = λ known. elim (among known) [
      | inl none ↦
          let bad : false ≡ true = rw none at call in
          cc
      | inr fault ↦ (kind_of e, fault, call)
    ]
    go (Refused text) fails = inl (λ known. elim (among known) [
      | inl none ↦ absurd (fails.1 none)
      | inr fault ↦ (kind_of e, fault, fails.0)
    ])
    go (NoMemory other) never = absurd never

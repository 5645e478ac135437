-- The text of a book, and the bytes of returns, yield exactly one verdict, by the laws of the layers below.
use Rattle.std.proofs.Common.{◌≡◌, ℕ, ◌<◌, ◌≤◌, List, length, ◌⊎◌, inl, inr, Option, Some, None, Ok, Err, Result, refl}
use Rattle.std.proofs.lemmas.Bool.{cases_lt}
use Rattle.sl_lex.specs.declared.token.Token.{Token}
use Rattle.sl_lex.specs.Tokens as lex
use Rattle.sl_parse.specs.declared.fault.ParseFault.TheVariants as faults
use Rattle.sl_parse.specs.declared.fault.Cause.{Cause}
use Rattle.sl_parse.specs.declared.fault.Cause.TheVariants.{Expected, TooDeep, TooManyStages, After}
use Rattle.sl_parse.specs.Faults.{IsFault}
use Rattle.sl_parse.specs.Parsing as parse
use Rattle.sl_parse.specs.Parsing.{limits, offset}
use Rattle.sl_returns.specs.Returns.{records_in, returns_of}
use Rattle.sl_returns.specs.declared.fault.ReturnsFault.{ReturnsFault}
use Rattle.sl_law_meaning.specs.declared.check_fault.CheckFault.{CheckFault}
use Rattle.sl_law_meaning.specs.book.Trees.{BookTree}
use Rattle.sl_law_meaning.specs.book.Typing.{check_fault}
use Rattle.sl_law_meaning.specs.returns.Election.{Election}
use Rattle.sl_count_inputs.specs.declared.limits.TheConstants.{MAX_BOOK_BYTES, MAX_RETURNS_BYTES}
use Rattle.sl_count_inputs.specs.declared.refusal.BookRefusal.{BookRefusal}
use Rattle.sl_count_inputs.specs.declared.refusal.BookRefusal.TheVariants.{TooLong, Tokens, Grammar, Test}
use Rattle.sl_count_inputs.specs.declared.refusal.ReturnsRefusal.{ReturnsRefusal}
use Rattle.sl_count_inputs.specs.declared.refusal.ReturnsRefusal.TheVariants as returns
use Rattle.sl_count_inputs.specs.declared.verdict.Verdict.{Verdict}
use Rattle.sl_count_inputs.specs.declared.verdict.Verdict.TheVariants.{Good, Refused}
use Rattle.sl_count_inputs.specs.Books.{HasTokens, HasTree, IsTextVerdict}
use Rattle.sl_count_inputs.specs.Returns.{IsReturnsVerdict}
use Rattle.sl_desk.specs.Laws.{OneBookVerdict, OneReturnsVerdict}
use Rattle.sl_desk.proofs.OneOutput.{LowerLaws, one_text_verdict, one_returns_verdict}

-- what the layers below say besides that: nothing is left out
pub record WholeLaws : Type 0 where
  pub tokens_or_fault : (source : List ℕ) → lex.HasTokens source ⊎ lex.HasFault source
  pub book_or_fault : (source : List ℕ) (tokens : List Token) → parse.HasBook source tokens ⊎ parse.HasFault source tokens

abbrev TextVerdict : List ℕ → Type 0
TextVerdict source = (v : Verdict BookTree BookRefusal) × IsTextVerdict source v

-- the fault of a cause
grammar_fault : (source : List ℕ) (tokens : List Token) (cause : Cause) (rest : List Token) → HasTokens source tokens → IsFault source limits tokens cause rest
    → TextVerdict source
grammar_fault source tokens Expected rest lexed h = (Refused (Grammar (faults.Expected (offset (length source) rest))), (tokens, lexed, (rest, h, refl), λ e. cc))
grammar_fault source tokens TooDeep rest lexed h = (Refused (Grammar (faults.TooDeep (offset (length source) rest))), (tokens, lexed, (rest, h, refl), λ e. cc))
grammar_fault source tokens TooManyStages rest lexed h = (Refused (Grammar (faults.TooManyStages (offset (length source) rest))), (tokens, lexed, (rest, h, refl), λ e. cc))
grammar_fault source tokens After rest lexed h = (Refused (Grammar (faults.After (offset (length source) rest))), (tokens, lexed, (rest, h, refl), λ e. cc))

-- a tree that is tested
tested : (source : List ℕ) (tree : BookTree) (o : Option CheckFault) → HasTree source tree → check_fault tree ≡ o → TextVerdict source
tested source tree None h e = (Good tree, (h, e))
tested source tree (Some fault) h e = (Refused (Test fault), (tree, h, e))

parsed : (source : List ℕ) (tokens : List Token) → HasTokens source tokens → parse.HasBook source tokens ⊎ parse.HasFault source tokens → TextVerdict source
parsed source tokens lexed (inl (tree, is, within)) =
    tested source tree (check_fault tree) (record { tokens = tokens; lexed = lexed; parsed = is; within = within }) refl
parsed source tokens lexed (inr (cause, rest, is)) = grammar_fault source tokens cause rest lexed is

lexed : WholeLaws → (source : List ℕ) → length source ≤ MAX_BOOK_BYTES → lex.HasTokens source ⊎ lex.HasFault source → TextVerdict source
lexed laws source fits (inl (tokens, are)) = parsed source tokens (record { fits = fits; lexed = are }) (laws.book_or_fault source tokens)
lexed laws source fits (inr (fault, is)) = (Refused (Tokens fault), (fits, is))

judged : WholeLaws → (source : List ℕ) → (MAX_BOOK_BYTES < length source) ⊎ (length source ≤ MAX_BOOK_BYTES) → TextVerdict source
judged laws source (inl long) = (Refused TooLong, long)
judged laws source (inr fits) = lexed laws source fits (laws.tokens_or_fault source)

-- ---- exactly one

pub one_book_verdict : LowerLaws → WholeLaws → OneBookVerdict
one_book_verdict lower laws source =
    let v = judged laws source (cases_lt MAX_BOOK_BYTES (length source)) in
    record { one = v.0; is = v.1; only = λ w h. one_text_verdict lower source w v.0 h v.1 }

abbrev ReturnsVerdict : List ℕ → Type 0
ReturnsVerdict bytes = (v : Verdict Election ReturnsRefusal) × IsReturnsVerdict bytes v

recorded : (bytes : List ℕ) (r : Result Election ReturnsFault) → length bytes ≤ MAX_RETURNS_BYTES → returns_of (records_in bytes) ≡ r → ReturnsVerdict bytes
recorded bytes (Ok e) fits same = (Good e, (fits, same))
recorded bytes (Err fault) fits same = (Refused (returns.Records fault), (fits, same))

judged_returns : (bytes : List ℕ) → (MAX_RETURNS_BYTES < length bytes) ⊎ (length bytes ≤ MAX_RETURNS_BYTES) → ReturnsVerdict bytes
judged_returns bytes (inl long) = (Refused returns.TooLong, long)
judged_returns bytes (inr fits) = recorded bytes (returns_of (records_in bytes)) fits refl

pub one_returns : OneReturnsVerdict
one_returns bytes =
    let v = judged_returns bytes (cases_lt MAX_RETURNS_BYTES (length bytes)) in
    record { one = v.0; is = v.1; only = λ w h. one_returns_verdict bytes w v.0 h v.1 }

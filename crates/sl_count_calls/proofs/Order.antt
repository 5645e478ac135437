-- The book is judged before the returns are read.
use Rattle.std.proofs.Common.{◌≡◌, ◌≢◌, ℕ, ◌+◌, ◌-◌, ◌^◌, min, List, Option, Some, None, IfSome, IfOk, Result, Ok, Err, refl, sym, ap, subst, arith}
use Rattle.sl_count_calls.specs.Judged.{IsJudged, IsJudgedOn, unknown_in}
use Rattle.sl_count_calls.specs.Reading.{HasTexts, IsNoGoodBook, IsReturnsText, ReadsAfter}
use Rattle.sl_count_calls.specs.declared.judged.Judged.TheVariants.{BookRefused, Counted, ReturnsRefused, StageUnknown}
use Rattle.sl_count_calls.specs.declared.judged.Judged.{Judged}
use Rattle.sl_count_calls.specs.declared.reading.Read.{Read}
use Rattle.sl_law_meaning.specs.declared.count.Records.{Records}
use Rattle.sl_count_inputs.specs.Books.{BookInput, IsBookVerdict}
use Rattle.sl_count_inputs.specs.Failures.{Counts, counts, counts_after}
use Rattle.sl_count_inputs.specs.Holding.{HoldsBook}
use Rattle.sl_count_inputs.specs.Judging.{refusal_of}
use Rattle.sl_count_inputs.specs.Reading.{ForKnown, ReadsBehind, TakesAtMost}
use Rattle.sl_count_inputs.specs.Texts.{IsBookText, bytes_of}
use Rattle.sl_count_inputs.specs.declared.limits.TheConstants.{MAX_RETURNS_BYTES}
use Rattle.sl_count_inputs.specs.declared.refused_book.RefusedBook.{RefusedBook}
use Rattle.sl_count_inputs.specs.declared.status.DeskError.TheVariants as fault
use Rattle.sl_count_inputs.specs.declared.status.DeskError.{DeskError}
use Rattle.sl_count_inputs.specs.declared.status.Input.TheVariants.{Before, Book, Code, Names, Returns}
use Rattle.sl_count_inputs.specs.declared.status.Input.{Input}
use Rattle.sl_count_inputs.specs.declared.verdict.Verdict.TheVariants.{Good, Refused}
use Rattle.sl_law_meaning.specs.book.Trees.{BookTree}

-- ---- returns that are read after a good input

not_bad : {A : Type 0} (Z : Type 0) (IsBad : A → Type 0) (known : Option A) → IfSome known (λ a. IsBad a → ⊥) → IfSome known (λ a. IsBad a → Z)
not_bad Z IsBad None good = tt
not_bad Z IsBad (Some a) good = λ bad. absurd (good bad)

-- a reader of returns is not that of another input
not_first : {X : Type 0} (first : Input) (n n' : ℕ) (r : Result X DeskError) → first ≢ Returns → counts 0 n' 0 0 ≡ counts_after (counts 0 n 0 0) r → r ≡ Err (fault.Read first) → ⊥
not_first first n n' (Ok x) other h e = absurd cc
not_first Returns n n' (Err x) other h e = absurd (other refl)
not_first Book n n' (Err x) other h e =
    let same : x ≡ fault.Read Book = cc in
    let raised : 0 ≡ min (0 + 1) (2 ^ 64 - 1) = ap (λ (c : Counts). c.book) (rw same at h) in
    absurd (omega arith)
not_first Code n n' (Err x) other h e =
    let same : x ≡ fault.Read Code = cc in
    let raised : 0 ≡ min (0 + 1) (2 ^ 64 - 1) = ap (λ (c : Counts). c.code) (rw same at h) in
    absurd (omega arith)
not_first Names n n' (Err x) other h e =
    let same : x ≡ fault.Read Names = cc in
    let raised : 0 ≡ min (0 + 1) (2 ^ 64 - 1) = ap (λ (c : Counts). c.names) (rw same at h) in
    absurd (omega arith)
not_first Before n n' (Err x) other h e =
    let same : x ≡ fault.Read Before = cc in
    let raised : 0 ≡ min (0 + 1) (2 ^ 64 - 1) = ap (λ (c : Counts). c.before) (rw same at h) in
    absurd (omega arith)

module _ {R A X : Type 0} (remaining : R → Option (List ℕ)) (old new : R) (n n' : ℕ) (r : Result X DeskError) where
  pub reads_after : (first : Input) (known : Option A) (IsBad : A → Type 0) → first ≢ Returns → IfSome known (λ a. IsBad a → ⊥)
      → TakesAtMost (MAX_RETURNS_BYTES + 1) (remaining old) (remaining new) → counts 0 n' 0 0 ≡ counts_after (counts 0 n 0 0) r
      → ReadsBehind remaining first known IsBad old new r
  reads_after first known IsBad other good limited counted = record {
    limited = limited;
    untouched = not_bad _ IsBad known good;
    unread = not_bad _ IsBad known good;
    second = λ e. absurd (not_first first n n' r other counted e);
  }

module _ (asked : Option (List ℕ)) (tree : BookTree) (there : unknown_in asked tree ≡ None) where
  good_book : (known : Option BookInput) → IfSome known (λ i. IsBookVerdict i (Good tree)) → IfSome known (λ i. IsNoGoodBook asked i → ⊥)
  good_book None good = tt
  good_book (Some i) good = λ none. none tree good there

  pub reads_after_good : {R X : Type 0} (remaining : R → Option (List ℕ)) (known : Option BookInput) (old new : R) (n n' : ℕ) (r : Result X DeskError)
      → IfSome known (λ i. IsBookVerdict i (Good tree)) → TakesAtMost (MAX_RETURNS_BYTES + 1) (remaining old) (remaining new)
      → counts 0 n' 0 0 ≡ counts_after (counts 0 n 0 0) r → ReadsAfter asked remaining known old new r
  reads_after_good remaining known old new n n' r good limited counted =
      reads_after remaining old new n n' r Book known (IsNoGoodBook asked) (λ e. cc) (good_book known good) limited counted

  -- ---- what both come to

  judged_on : (r : Records) (input : BookInput) (bytes : List ℕ) (judged : Judged) → IsBookVerdict input (Good tree) → IsJudgedOn r tree bytes judged → IsJudged r asked input bytes judged
  judged_on r input bytes (BookRefused book) good on = absurd on
  judged_on r input bytes (StageUnknown book name) good on = absurd on
  judged_on r input bytes (ReturnsRefused why) good on = (tree, good, there, on)
  judged_on r input bytes (Counted c) good on = (tree, good, there, on)

  pub judged_known : (r : Records) (book : Option BookInput) (returns : Option (List ℕ)) (result : Result Read DeskError) → IfSome book (λ i. IsBookVerdict i (Good tree))
      → IfOk result (λ read. IfSome returns (λ bytes. IsJudgedOn r tree bytes read.judged))
      → IfOk result (λ read. ForKnown book returns (λ input bytes. IsJudged r asked input bytes read.judged))
  judged_known r book returns (Err e) good on = tt
  judged_known r None returns (Ok read) good on = tt
  judged_known r (Some input) None (Ok read) good on = tt
  judged_known r (Some input) (Some bytes) (Ok read) good on = judged_on r input bytes read.judged good on

-- a refused book, with what was read of it
pub refused_known : (r : Records) (asked : Option (List ℕ)) (book : Option BookInput) (returns : Option (List ℕ)) (judged : Judged) (refused : RefusedBook) → judged ≡ BookRefused refused
    → IfSome book (λ i. IsBookVerdict i (Refused (refusal_of refused))) → IfSome book (λ i. HoldsBook (bytes_of i) refused)
    → ForKnown book returns (λ input bytes. IsJudged r asked input bytes judged)
refused_known r asked None returns judged refused same verdict holds = tt
refused_known r asked (Some input) None judged refused same verdict holds = tt
refused_known r asked (Some input) (Some bytes) judged refused same verdict holds = subst (λ (j : Judged). IsJudged r asked input bytes j) (sym same) (verdict, holds)

-- the texts of both
pub has_texts : {E : Type 0} (book : Option BookInput) (returns : Option (List ℕ)) (text : List ℕ) (result : Result Read E) → IfSome book (λ input. IsBookText input text)
    → IfOk result (λ read. read.book.items ≡ text) → IfOk result (λ read. IsReturnsText read.judged returns read.returns.items) → IfOk result (HasTexts book returns)
has_texts book returns text (Err e) of_book same of_returns = tt
has_texts book returns text (Ok read) of_book same of_returns = record {
  book = subst (λ (t : List ℕ). IfSome book (λ input. IsBookText input t)) (sym same) of_book;
  returns = of_returns;
}

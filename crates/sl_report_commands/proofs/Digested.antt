-- The digests of what was read are those of the inputs.
use Rattle.std.proofs.Common.{Bool, List, None, Option, Some, [], ap, cond, length, refl, subst, sym, unwrap_or, ◌++◌, ◌<◌, ◌∙◌, ◌∷◌, ◌≡◌, ◌≤◌, ℕ}
use Rattle.std.proofs.lemmas.Bool.{le-leb, lt-leb}
use Rattle.std.specs.Option.{option_map_or}
use Rattle.sha2.specs.Sha256.{sha256}
use Rattle.sl_count_calls.specs.Judged.{IsJudged}
use Rattle.sl_count_calls.specs.Reading.{IsReturnsText}
use Rattle.sl_count_calls.specs.declared.judged.Judged.TheVariants.{BookRefused, Counted, ReturnsRefused, StageUnknown}
use Rattle.sl_count_calls.specs.declared.judged.Judged.{Judged}
use Rattle.sl_count_inputs.specs.Books.{BookInput, IsBookVerdict, IsLawVerdict, IsTextVerdict, library, text}
use Rattle.sl_count_inputs.specs.Judging.{election_verdict, refusal_of as why_of, returns_refusal_of, tree_verdict}
use Rattle.sl_count_inputs.specs.Returns.{IsReturnsVerdict}
use Rattle.sl_count_inputs.specs.Texts.{IsReadText}
use Rattle.sl_count_inputs.specs.declared.limits.TheConstants.{MAX_BOOK_BYTES, MAX_RETURNS_BYTES}
use Rattle.sl_count_inputs.specs.declared.refused_book.RefusedBook.TheVariants as refused
use Rattle.sl_count_inputs.specs.declared.refused_book.RefusedBook.{RefusedBook}
use Rattle.sl_count_inputs.specs.declared.refused_election.RefusedElection.TheVariants as election
use Rattle.sl_count_inputs.specs.declared.refused_election.RefusedElection.{RefusedElection}
use Rattle.sl_count_inputs.specs.declared.verdict.Verdict.TheVariants.{Good, Refused}
use Rattle.sl_count_inputs.specs.declared.verdict.Verdict.{Verdict}
use Rattle.sl_law_meaning.specs.book.Books.{book_of}
use Rattle.sl_law_meaning.specs.book.Trees.{BookTree}
use Rattle.sl_law_meaning.specs.declared.checked.CheckedBook.{CheckedBook}
use Rattle.sl_law_meaning.specs.declared.count.Records.{Records}
use Rattle.sl_law_meaning.specs.returns.Election.{Election}
use Rattle.sl_laws.specs.Books.{law_text}
use Rattle.sl_report_commands.specs.Digests.{book_digest, count_digests, returns_digest, totals_digests, whole_digest}
use Rattle.sl_report_commands.specs.inner.Digested.{IsHanded, book_digested, count_digested, refusal_of, returns_digested, totals_digested}

-- ---- bytes

within : (limit : ℕ) (bytes read : List ℕ) → length bytes ≤ limit → read ≡ bytes → sha256 read ∷ [] ≡ whole_digest limit bytes
within limit bytes read le same =
    ap (λ (b : List ℕ). sha256 b ∷ []) same ∙ sym (ap (λ (is : Bool). cond is (sha256 bytes ∷ []) []) (le-leb (length bytes) limit le))

over : (limit : ℕ) (bytes : List ℕ) → limit < length bytes → [] ≡ whole_digest limit bytes
over limit bytes lt = sym (ap (λ (is : Bool). cond is (sha256 bytes ∷ []) []) (lt-leb (length bytes) limit lt))

read_whole : (limit : ℕ) (bytes read : List ℕ) → length bytes ≤ limit → IsReadText limit bytes read → read ≡ bytes
read_whole limit bytes read le is = subst (λ (fits : Bool). read ≡ cond fits bytes []) (le-leb (length bytes) limit le) is

-- ---- a rulebook

good_text : (bytes read : List ℕ) (tree : BookTree) → IsTextVerdict bytes (Good tree) → (length bytes ≤ MAX_BOOK_BYTES → read ≡ bytes) → book_digested None read ≡ whole_digest MAX_BOOK_BYTES bytes
good_text bytes read tree is same = within MAX_BOOK_BYTES bytes read is.0.lexed.fits (same is.0.lexed.fits)

refused_text : (bytes read : List ℕ) (why : RefusedBook) → IsTextVerdict bytes (Refused (why_of why)) → (length bytes ≤ MAX_BOOK_BYTES → read ≡ bytes)
    → book_digested (Some why) read ≡ whole_digest MAX_BOOK_BYTES bytes
refused_text bytes read (refused.UnknownStatute name) is same = absurd is
refused_text bytes read refused.TooLong is same = over MAX_BOOK_BYTES bytes is
refused_text bytes read (refused.Tokens fault) is same = within MAX_BOOK_BYTES bytes read is.0 (same is.0)
refused_text bytes read (refused.Grammar fault tokens) is same = within MAX_BOOK_BYTES bytes read is.1.fits (same is.1.fits)
refused_text bytes read (refused.Test fault tree) is same = within MAX_BOOK_BYTES bytes read is.1.lexed.fits (same is.1.lexed.fits)

refused_law : (name read : List ℕ) (why : RefusedBook) (source : Option (List ℕ)) → IsLawVerdict name source (Refused (why_of why)) → read ≡ unwrap_or source []
    → book_digested (Some why) read ≡ option_map_or (whole_digest MAX_BOOK_BYTES) source []
refused_law name read why (Some source) is same = refused_text source read why is (λ le. same)
refused_law name read (refused.UnknownStatute unknown) None is same = refl
refused_law name read refused.TooLong None is same = absurd is
refused_law name read (refused.Tokens fault) None is same = absurd is
refused_law name read (refused.Grammar fault tokens) None is same = absurd is
refused_law name read (refused.Test fault tree) None is same = absurd is

good_law : (name read : List ℕ) (tree : BookTree) (source : Option (List ℕ)) → IsLawVerdict name source (Good tree) → read ≡ unwrap_or source []
    → book_digested None read ≡ option_map_or (whole_digest MAX_BOOK_BYTES) source []
good_law name read tree (Some source) is same = good_text source read tree is (λ le. same)
good_law name read tree None is same = absurd is

good_book : (input : BookInput) (tree : BookTree) (read : List ℕ) → IsBookVerdict input (Good tree) → IsHanded input read → book_digested None read ≡ book_digest input
good_book (text bytes) tree read is handed = good_text bytes read tree is (λ le. read_whole MAX_BOOK_BYTES bytes read le handed)
good_book (library name) tree read is handed = good_law name read tree (law_text name) is handed

refused_book : (input : BookInput) (why : RefusedBook) (read : List ℕ) → IsBookVerdict input (Refused (why_of why)) → IsHanded input read → book_digested (Some why) read ≡ book_digest input
refused_book (text bytes) why read is handed = refused_text bytes read why is (λ le. read_whole MAX_BOOK_BYTES bytes read le handed)
refused_book (library name) why read is handed = refused_law name read why (law_text name) is handed

pub judged_book : (input : BookInput) (verdict : Verdict CheckedBook RefusedBook) (read : List ℕ) → IsBookVerdict input (tree_verdict verdict) → IsHanded input read
    → book_digested (refusal_of verdict) read ≡ book_digest input
judged_book input (Good checked) read is handed = good_book input (book_of checked.book) read is handed
judged_book input (Refused why) read is handed = refused_book input why read is handed

-- ---- returns

good_returns : (returns read : List ℕ) (e : Election) → IsReturnsVerdict returns (Good e) → IsReadText MAX_RETURNS_BYTES returns read → returns_digested None read ≡ returns_digest returns
good_returns returns read e is handed = within MAX_RETURNS_BYTES returns read is.0 (read_whole MAX_RETURNS_BYTES returns read is.0 handed)

refused_returns : (returns read : List ℕ) (why : RefusedElection) → IsReturnsVerdict returns (Refused (returns_refusal_of why)) → IsReadText MAX_RETURNS_BYTES returns read
    → returns_digested (Some why) read ≡ returns_digest returns
refused_returns returns read election.TooLong is handed = over MAX_RETURNS_BYTES returns is
refused_returns returns read (election.Records why) is handed = within MAX_RETURNS_BYTES returns read is.0 (read_whole MAX_RETURNS_BYTES returns read is.0 handed)

pub judged_returns : (returns : List ℕ) (verdict : Verdict Election RefusedElection) (read : List ℕ) → IsReturnsVerdict returns (election_verdict verdict)
    → IsReadText MAX_RETURNS_BYTES returns read → returns_digested (refusal_of verdict) read ≡ returns_digest returns
judged_returns returns (Good e) read is handed = good_returns returns read e is handed
judged_returns returns (Refused why) read is handed = refused_returns returns read why is handed

-- ---- both

pub judged_count : (r : Records) (judged : Judged) (input : BookInput) (returns book read : List ℕ) → IsJudged r None input returns judged → IsHanded input book
    → IsReturnsText judged (Some returns) read → count_digested judged book read ≡ count_digests judged input returns
judged_count r (BookRefused why) input returns book read is handed of_returns = refused_book input why book is.0 handed
judged_count r (StageUnknown known name) input returns book read is handed of_returns = absurd cc
judged_count r (ReturnsRefused why) input returns book read is handed of_returns =
    ap (λ one. one ++ returns_digested (Some why) read) (good_book input is.0 book is.1 handed)
    ∙ ap (λ other. book_digest input ++ other) (refused_returns returns read why is.3.0 of_returns)
judged_count r (Counted c) input returns book read is handed of_returns =
    ap (λ one. one ++ returns_digested None read) (good_book input is.0 book is.1 handed)
    ∙ ap (λ other. book_digest input ++ other) (good_returns returns read is.3.0 is.3.1 of_returns)

-- with what was handed on of a rulebook, if one is given
pub judged_totals : (input : BookInput) (judged : Verdict CheckedBook RefusedBook) (verdict : Verdict Election RefusedElection) (returns book read : List ℕ)
    → IsBookVerdict input (tree_verdict judged) → IsHanded input book → IsReturnsVerdict returns (election_verdict verdict) → IsReadText MAX_RETURNS_BYTES returns read
    → totals_digested (Some judged) verdict book read ≡ totals_digests (Some input) returns
judged_totals input judged verdict returns book read by handed is of_returns =
    ap (λ one. one ++ returns_digested (refusal_of verdict) read) (judged_book input judged book by handed)
    ∙ ap (λ other. book_digest input ++ other) (judged_returns returns verdict read is of_returns)

-- What reports answer, by what their inputs come to.
use Rattle.std.proofs.Common.{Bool, Bor, Err, IfOk, IfSome, List, None, Ok, Option, Result, Some, [], ap, if◌then◌else◌, inl, inr, is_err, length, map, option_map, refl, subst, sym, false, ◌≡◌, ◌||◌, ◌∙◌, ℕ}
use Rattle.std.proofs.lemmas.Bool.{false≢true, le-ltb, lt-ltb}
use Rattle.std.specs.Global.{Vec}
use Rattle.std.specs.Prelude.{codes, nat_lt, unwrap_or}
use Rattle.sl_count_calls.specs.Judged.{IsJudged}
use Rattle.sl_count_calls.specs.Reading.{HasTexts, IsReturnsText}
use Rattle.sl_count_calls.specs.declared.judged.Judged.{Judged}
use Rattle.sl_count_calls.specs.declared.judged.Judged.TheVariants.{BookRefused, Counted, ReturnsRefused, StageUnknown}
use Rattle.sl_count_calls.specs.declared.reading.Read.{Read}
use Rattle.sl_count_inputs.specs.Books.{BookInput, IsBookVerdict}
use Rattle.sl_count_inputs.specs.Inputs.{Holds}
use Rattle.sl_count_inputs.specs.Judging.{tree_verdict}
use Rattle.sl_count_inputs.specs.Reading.{ForKnown}
use Rattle.sl_count_inputs.specs.declared.input.Bytes.TheVariants.{TooLong, Whole}
use Rattle.sl_count_inputs.specs.declared.input.Bytes.{Bytes}
use Rattle.sl_count_inputs.specs.declared.refused_book.RefusedBook.{RefusedBook}
use Rattle.sl_count_inputs.specs.declared.refused_election.RefusedElection.{RefusedElection}
use Rattle.sl_count_inputs.specs.declared.status.Status.TheVariants as status
use Rattle.sl_count_inputs.specs.declared.verdict.Verdict.TheVariants.{Good, Refused}
use Rattle.sl_count_inputs.specs.declared.verdict.Verdict.{Verdict}
use Rattle.sl_explain_texts.specs.declared.language.Language.{Language}
use Rattle.sl_law_meaning.specs.declared.checked.CheckedBook.{CheckedBook}
use Rattle.sl_law_meaning.specs.declared.count.End.TheVariants as ends
use Rattle.sl_law_meaning.specs.declared.count.End.{End}
use Rattle.sl_report_tables.specs.Ends.{end_status}
use Rattle.sl_report_commands.specs.Written.{IsWritten, command_of, json_digests, totals_subject}
use Rattle.sl_report_commands.specs.declared.written.Written.{Written}
use Rattle.sl_law_meaning.specs.declared.count.Records.TheVariants.{Kept}
use Rattle.sl_law_meaning.specs.returns.Election.{Election}
use Rattle.sl_report_commands.proofs.Digested.{judged_count, judged_returns, judged_totals}
use Rattle.sl_report_commands.specs.Digests.{count_digests, totals_digests}
use Rattle.sl_report_commands.specs.Reports.{IsShown}
use Rattle.sl_report_commands.specs.Summaries.{IsTotalsBy}
use Rattle.sl_report_commands.specs.declared.written.Style.{Style}
use Rattle.sl_report_commands.specs.inner.Digested.{IsCountWritten, IsHanded, count_digested}
use Rattle.sl_report_forms.specs.declared.heading.Heading.{Heading}
use Rattle.sl_report_parties.specs.declared.earlier.EarlierParty.{EarlierParty}
use Rattle.sl_report_tables.specs.Earlier.{IsEarlierIn, is_no_table, is_refused_in, party_told, table_parties}
use Rattle.sl_report_tables.specs.Reports.{beside}
use Rattle.sl_report_tables.specs.declared.answer.Answer.{Answer}
use Rattle.sl_report_forms.specs.declared.shape.Shape.{Shape}
use Rattle.sl_report_tables.specs.declared.cases.TheConstants.{MAX_BEFORE_BYTES}
use Rattle.sl_report_tables.specs.declared.counts.Show.{Show}
use Rattle.sl_report_warnings.specs.Warnings.{warnings_of}
use Rattle.sl_terminal_commands.proofs.Digested.{handed_word}
use Rattle.sl_terminal_commands.specs.Beside.{AreNames, IsEarlier}
use Rattle.sl_terminal_commands.specs.Requests.{AreEarlier, AreTold, IsReportOf, IsTotalsOf}
use Rattle.sl_terminal_commands.specs.Said.{AreWarnings, IsSaid, end_said, judged_said, nothing, report_said, said_of}
use Rattle.sl_terminal_commands.specs.Sums.{IsGivenVerdict, IsVerdictOn, given_input}
use Rattle.sl_terminal_commands.specs.declared.answered.Answered.{Answered}
use Rattle.sl_terminal_commands.specs.declared.reports.Paths.{Paths}
use Rattle.sl_terminal_commands.specs.declared.sums.NamedBook.{NamedBook}
use Rattle.sl_terminal_commands.specs.declared.sums.NamedReturns.{NamedReturns}
use Rattle.sl_terminal_commands.specs.inner.Comparing.{AreReadOf}
use Rattle.sl_terminal_commands.specs.inner.Digested.{read_digests, word_bytes}
use Rattle.sl_terminal_commands.specs.inner.Reports.{AreBesideIn, AreToldIn, IsReadFrom, IsReportAnswer, IsReportBeside}
use Rattle.sl_terminal_commands.specs.declared.reports.Writing.{Writing}
use Rattle.sl_terminal_commands.specs.inner.Totals.{IsReadOf, IsTotalsAnswer, IsTotalsOn, bytes_in, read_totals, verdict_in}
use Rattle.sl_terminal_outside.specs.Inputs.{named_input}
use Rattle.sl_law_meaning.specs.book.Books.{book_of}

-- ---- an earlier table

-- whether it is refused, as it was read of a file
pub table_at : (bytes : List ℕ → Option (List ℕ)) (path : Option (List ℕ)) (read : Option Bytes) (is : Bool) → IsReadFrom bytes path MAX_BEFORE_BYTES read
    → is ≡ is_refused_in read → IsEarlier bytes path is
table_at bytes None read is from same = same ∙ ap is_refused_in from
table_at bytes (Some path) None is from same = absurd from
table_at bytes (Some path) (Some read) is from same = go (bytes path) read from same
  where
    go : (known : Option (List ℕ)) (read : Bytes) → IfSome known (Holds MAX_BEFORE_BYTES read) → is ≡ is_refused_in (Some read)
        → IfSome known (λ text. is ≡ (nat_lt MAX_BEFORE_BYTES (length text) || is_no_table text))
    go None read from same = tt
    go (Some text) (Whole v) from same =
        same ∙ ap is_no_table from.0 ∙ sym (ap (λ b. b || is_no_table text) (le-ltb MAX_BEFORE_BYTES (length text) from.1))
    go (Some text) TooLong from same = same ∙ sym (ap (λ b. b || is_no_table text) (lt-ltb MAX_BEFORE_BYTES (length text) from))

-- its parties
pub earlier_at : (bytes : List ℕ → Option (List ℕ)) (path : Option (List ℕ)) (read : Option Bytes) (found : Option (Bor (List EarlierParty))) → IsReadFrom bytes path MAX_BEFORE_BYTES read
    → AreToldIn read found → AreEarlier bytes path found
earlier_at bytes None read found from told = subst (λ r. AreToldIn r found) from told
earlier_at bytes (Some path) None found from told = absurd from
earlier_at bytes (Some path) (Some read) found from told = go (bytes path) read from told
  where
    go : (known : Option (List ℕ)) (read : Bytes) → IfSome known (Holds MAX_BEFORE_BYTES read) → AreToldIn (Some read) found
        → IfSome known (λ text. (nat_lt MAX_BEFORE_BYTES (length text) || is_no_table text) ≡ false → AreTold found text)
    go None read from told = tt
    go (Some text) (Whole v) from told = λ good.
        subst (AreTold found) from.0
        (told (ap is_no_table from.0 ∙ sym (ap (λ b. b || is_no_table text) (le-ltb MAX_BEFORE_BYTES (length text) from.1)) ∙ good))
    go (Some text) TooLong from told = λ good.
        absurd (false≢true (sym good ∙ ap (λ b. b || is_no_table text) (lt-ltb MAX_BEFORE_BYTES (length text) from)))

none_seen : {A B : Type 0} (f : A → B) (x : Option A) → option_map f x ≡ None → x ≡ None
none_seen f None same = refl
none_seen f (Some a) same = absurd cc

-- the parties that were read are those that are shown
pub told_in : (table : Option Bytes) (r : Result (Option (Vec EarlierParty)) Answer) (found : Option (Vec EarlierParty)) (shown : Option (Bor (List EarlierParty)))
    → is_err r ≡ is_refused_in table → IfOk r (λ f. IsEarlierIn table f) → IfOk r (λ f. found ≡ f)
    → option_map (λ (all : Bor (List EarlierParty)). all.now) shown ≡ option_map (λ (all : Vec EarlierParty). all.items) found → AreToldIn table shown
told_in None (Ok None) found shown which told same by =
    none_seen (λ (all : Bor (List EarlierParty)). all.now) shown (by ∙ ap (option_map (λ (all : Vec EarlierParty). all.items)) same)
told_in None (Ok (Some f)) found shown which told same by = absurd told
told_in None (Err a) found shown which told same by = absurd cc
told_in (Some TooLong) r found shown which told same by = tt
told_in (Some (Whole v)) (Ok None) found shown which told same by = absurd told
told_in (Some (Whole v)) (Ok (Some f)) found None which told same by = λ good. absurd cc
told_in (Some (Whole v)) (Ok (Some f)) found (Some all) which told same by = λ good.
    let e : all.now ≡ f.items = ap (λ o. unwrap_or o all.now) (by ∙ ap (option_map (λ (all : Vec EarlierParty). all.items)) same) in
    subst (λ l. map party_told l ≡ table_parties v.items) (sym e) told.1
told_in (Some (Whole v)) (Err a) found shown which told same by = λ good. absurd cc

-- ---- a report of one count

end_done : (checked : CheckedBook) (e : Election) (end : End) (language : Language) (text : List ℕ) → end_status end ≡ status.Done → IsSaid language (end_said checked e end) text
    → AreWarnings language text
end_done checked e (ends.Counted counted) language text done said = (e, warnings_of (Some (book_of checked.book)) e, said)
end_done checked e (ends.Fault f) language text done said = absurd cc

pub report_done : (show : Show) (is_refused : Bool) (judged : Judged) (a : Answer) (language : Language) (text : List ℕ) → IsShown show is_refused judged a → a.status ≡ status.Done
    → IsSaid language (report_said is_refused judged) text → AreWarnings language text
report_done show is_refused judged a language text (inr h) done said = let no : status.Refused ≡ status.Done = sym h.1.0 ∙ done in absurd cc
report_done show is_refused (BookRefused why) a language text (inl h) done said = let no : status.Refused ≡ status.Done = sym h.1.status ∙ done in absurd cc
report_done show is_refused (StageUnknown book name) a language text (inl h) done said = let no : status.Refused ≡ status.Done = sym h.1.status ∙ done in absurd cc
report_done show is_refused (ReturnsRefused why) a language text (inl h) done said = let no : status.Refused ≡ status.Done = sym h.1.status ∙ done in absurd cc
report_done show is_refused (Counted c) a language text (inl h) done said =
    end_done c.book c.returns c.outcome.end language text (sym h.1.status ∙ done)
    (subst (λ b. IsSaid language (if b then nothing else judged_said (Counted c)) text) h.0 said)

known_count : (read : Read) (book : List ℕ) (given : Option BookInput) (known : Option (List ℕ)) → ForKnown given known (λ i k. IsJudged Kept None i k read.judged)
    → IfSome given (λ i. IsHanded i book) → IsReturnsText read.judged known read.returns.items
    → ForKnown given known (λ i k. IsJudged Kept None i k read.judged × (count_digested read.judged book read.returns.items ≡ count_digests read.judged i k))
known_count read book None known is handed text = tt
known_count read book (Some i) None is handed text = tt
known_count read book (Some i) (Some k) is handed text = (is, judged_count Kept read.judged i k book read.returns.items is handed text)

module _ (IsText : Shape → Heading → Answer → List ℕ → Type 0) (bytes : List ℕ → Option (List ℕ)) where
  -- with what is read beside the inputs
  pub besides : (w : Writing) (show : Show) (n : Bool) (table : Option Bytes) (word : List ℕ) (read : Read) (a : Answered)
      → AreNames bytes (option_map (λ (path : Bor (List ℕ)). path.now) w.names) n → IsReadFrom bytes (option_map (λ (path : Bor (List ℕ)). path.now) w.before) MAX_BEFORE_BYTES table
      → IsReportBeside IsText show n table word read w.style a
      → (is_refused : Bool) × (found : Option (Bor (List EarlierParty))) × AreBesideIn bytes w is_refused found × IsReportAnswer IsText (beside found show) is_refused word read w.style a
  besides w show n table word read a names from h =
      let before = option_map (λ (path : Bor (List ℕ)). path.now) w.before in (
        n || is_refused_in table,
        h.0,
        ((n, is_refused_in table, names, table_at bytes before table (is_refused_in table) from refl, refl), earlier_at bytes before table h.0 from h.1),
        h.2,
      )

  -- by the paths
  pub report_of : (w : Writing) (show : Show) (is_refused : Bool) (found : Option (Bor (List EarlierParty))) (paths : Paths) (read : Read) (a : Answered)
      → ForKnown (named_input bytes paths.book.now) (bytes paths.returns.now) (λ input known. IsJudged Kept None input known read.judged)
      → HasTexts (named_input bytes paths.book.now) (bytes paths.returns.now) read → AreBesideIn bytes w is_refused found
      → IsReportAnswer IsText (beside found show) is_refused paths.book.now read w.style a
      → IsReportOf IsText bytes show paths.book.now paths.returns.now (option_map (λ (path : Bor (List ℕ)). path.now) w.names)
      (option_map (λ (path : Bor (List ℕ)). path.now) w.before) w.style a.status a.text.items (λ s. IsSaid w.style.language s a.said.items)
  report_of w show is_refused found paths read a is texts by h =
      let word = paths.book.now in
      record {
        answer = h.answer;
        status = h.status;
        is_refused = is_refused;
        files = by.0;
        found = found;
        told = by.1;
        judged = read.judged;
        digests = read_digests word read;
        means =
            known_count read (word_bytes word read.book.items) (named_input bytes word) (bytes paths.returns.now) is
            (handed_word bytes word read.book.items texts.book) texts.returns;
        shows = h.shows;
        written = h.written;
        said = h.said;
      }

-- ---- totals

pub totals_done : (is_refused : Bool) (book : Option (Verdict CheckedBook RefusedBook)) (v : Verdict Election RefusedElection) (a : Answer) (language : Language) (text : List ℕ)
    → IsTotalsBy is_refused book v a → a.status ≡ status.Done → IsSaid language (said_of (totals_subject book v)) text → text ≡ []
totals_done is_refused None (Good e) a language text h done said = said
totals_done is_refused None (Refused why) a language text h done said = let no : status.Refused ≡ status.Done = sym h.0.0 ∙ done in absurd cc
totals_done is_refused (Some (Good b)) (Good e) a language text h done said = said
totals_done is_refused (Some (Good b)) (Refused why) a language text h done said = let no : status.Refused ≡ status.Done = sym h.0.0 ∙ done in absurd cc
totals_done is_refused (Some (Refused why)) v a language text h done said = let no : status.Refused ≡ status.Done = sym h.0.0 ∙ done in absurd cc

module _ (bytes : List ℕ → Option (List ℕ)) where
  -- what a rulebook comes to that was read, if one is given
  given_verdict : (word : Option (List ℕ)) (book : Option NamedBook) → IsReadOf bytes word book → IsGivenVerdict bytes word (verdict_in book)
  given_verdict None None read = tt
  given_verdict None (Some b) read = absurd read
  given_verdict (Some w) None read = absurd read
  given_verdict (Some w) (Some b) read = subst (λ w. IsVerdictOn bytes w (tree_verdict b.read.verdict)) read.0 read.1.verdict

  digests_at : (word : Option (List ℕ)) (book : Option NamedBook) (r : NamedReturns) (known : Option (List ℕ)) → IsReadOf bytes word book → AreReadOf known r
      → ForKnown (given_input bytes word) known (λ input k. read_totals book r ≡ totals_digests input k)
  digests_at None None r None read are = tt
  digests_at None None r (Some k) read are = judged_returns k r.read.verdict r.read.text.items are.verdict are.text
  digests_at None (Some b) r known read are = absurd read
  digests_at (Some w) None r known read are = absurd read
  digests_at (Some w) (Some b) r known read are =
      subst (λ w. ForKnown (given_input bytes (Some w)) known (λ input k. read_totals (Some b) r ≡ totals_digests input k)) read.0
      (go (named_input bytes b.word.now) known read.1.verdict (handed_word bytes b.word.now b.read.text.items read.1.text) are)
    where
      go : (i : Option BookInput) (known : Option (List ℕ)) → IfSome i (λ input. IsBookVerdict input (tree_verdict b.read.verdict)) → IfSome i (λ input. IsHanded input (bytes_in (Some b)))
          → AreReadOf known r → ForKnown (option_map (λ (input : BookInput). Some input) i) known (λ input k. read_totals (Some b) r ≡ totals_digests input k)
      go None known on handed are = tt
      go (Some i) None on handed are = tt
      go (Some i) (Some k) on handed are = judged_totals i b.read.verdict r.read.verdict k (bytes_in (Some b)) r.read.text.items on handed are.verdict are.text

  pub totals_of_words : (IsText : Shape → Heading → Answer → List ℕ → Type 0) (returns : List ℕ) (word names : Option (List ℕ)) (is_refused : Bool) (style : Style) (r : NamedReturns)
      (a : Answered) → AreNames bytes names is_refused → AreReadOf (bytes returns) r → IsTotalsOn IsText bytes is_refused word r style a
      → IsTotalsOf IsText bytes returns word names style a.status a.text.items (λ s. IsSaid style.language s a.said.items)
  totals_of_words IsText returns word names is_refused style r a named are (book, read, h) =
      record {
        answer = h.answer;
        status = h.status;
        is_refused = is_refused;
        named = named;
        book = verdict_in book;
        given = given_verdict word book read;
        verdict = r.read.verdict;
        judged = are.verdict;
        shows = h.shows;
        digests = read_totals book r;
        digested = digests_at word book r (bytes returns) read are;
        written = h.written;
        said = h.said;
      }

-- ---- answers, by what their parts are

pub report_answer : (IsText : Shape → Heading → Answer → List ℕ → Type 0) (show : Show) (is_refused : Bool) (word : List ℕ) (read : Read) (style : Style) (a : Answered) (w : Written)
    (said : Vec ℕ) → a.status ≡ w.answer.status → a.text ≡ w.text → a.said ≡ said → IsShown show is_refused read.judged w.answer
    → IsCountWritten IsText show style read.judged (word_bytes word read.book.items) read.returns.items w.answer w.text.items
    → IsSaid style.language (report_said is_refused read.judged) said.items → IsReportAnswer IsText show is_refused word read style a
report_answer IsText show is_refused word read style a w said status text same shown written told =
    record {
      answer = w.answer;
      status = status;
      shows = shown;
      written = subst (λ t. IsWritten IsText (command_of show) style (json_digests style (read_digests word read)) w.answer t.items) (sym text) written;
      said = subst (λ t. IsSaid style.language (report_said is_refused read.judged) t.items) (sym same) told;
    }

pub totals_answer : (IsText : Shape → Heading → Answer → List ℕ → Type 0) (is_refused : Bool) (book : Option NamedBook) (r : NamedReturns) (style : Style) (a : Answered) (w : Written)
    (said : Vec ℕ) → a.status ≡ w.answer.status → a.text ≡ w.text → a.said ≡ said → IsTotalsBy is_refused (verdict_in book) r.read.verdict w.answer
    → IsWritten IsText (codes "totals") style (json_digests style (read_totals book r)) w.answer w.text.items
    → IsSaid style.language (said_of (totals_subject (verdict_in book) r.read.verdict)) said.items → IsTotalsAnswer IsText is_refused book r style a
totals_answer IsText is_refused book r style a w said status text same totals written told =
    record {
      answer = w.answer;
      status = status;
      shows = totals;
      written =
          subst
          (λ t. IsWritten IsText (codes "totals") style (json_digests style (read_totals book r)) w.answer t.items)
          (sym text) written;
      said = subst (λ t. IsSaid style.language (said_of (totals_subject (verdict_in book) r.read.verdict)) t.items) (sym same) told;
    }

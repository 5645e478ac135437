-- What is shown of what inputs come to is what is shown of the inputs.
use Rattle.std.proofs.Common.{◌≡◌, ◌⊎◌, ℕ, Err, IfErr, IfOk, IfSome, List, None, Ok, Option, Result, Some, if◌then◌else◌, inl, inr, is_some, refl, sym, ap, subst, ◌∙◌}
use Rattle.sl_count_calls.specs.Fitting.{FitsJudged}
use Rattle.sl_count_calls.specs.Judged.{IsCounting, IsJudged, unknown_in}
use Rattle.sl_count_calls.specs.Reading.{IsNoGoodBook as IsNone, ReadsAfter}
use Rattle.sl_count_calls.specs.declared.counting.Counting.{Counting}
use Rattle.sl_count_calls.specs.declared.judged.Judged.TheVariants as judged
use Rattle.sl_count_calls.specs.declared.judged.Judged.{Judged}
use Rattle.sl_law_meaning.specs.declared.count.Records.{Records}
use Rattle.sl_count_calls.specs.Counting.{IsNoGoodBook}
use Rattle.sl_law_meaning.specs.meaning.Counts.{IsMeantEnd}
use Rattle.sl_count_calls.specs.Showing.{IsNoBookWith, IsNumbered, unknown_stage}
use Rattle.sl_count_calls.specs.declared.answer.Answer.{Answer}
use Rattle.sl_count_calls.specs.Shows.{IsShownOutput, ReadsBehindShown}
use Rattle.sl_count_calls.specs.Suiting.{IsFor, Suits}
use Rattle.sl_count_calls.specs.Views.{IsAnswerOf, IsNumberedOn, IsShownOn, records_for, stage_of}
use Rattle.sl_count_calls.specs.declared.view.View.TheVariants.{Seats, Stage, Steps}
use Rattle.sl_count_calls.specs.declared.view.View.{View}
use Rattle.sl_count_calls.specs.inner.Texts.{IsMeant}
use Rattle.sl_count_inputs.specs.Books.{BookInput, IsBookVerdict}
use Rattle.sl_count_inputs.specs.Reading.{ForKnown, ReadsBehind}
use Rattle.sl_count_inputs.specs.Returns.{IsReturnsVerdict, returns_line}
use Rattle.sl_count_inputs.specs.StageNames.{stage_number}
use Rattle.sl_count_inputs.specs.Writing.{Delivers}
use Rattle.sl_count_inputs.specs.declared.refusal.ReturnsRefusal.{ReturnsRefusal}
use Rattle.sl_count_inputs.specs.declared.status.DeskError.TheVariants as fault
use Rattle.sl_count_inputs.specs.declared.status.DeskError.{DeskError}
use Rattle.sl_count_inputs.specs.declared.status.Input.{Input}
use Rattle.sl_count_inputs.specs.declared.status.Input.TheVariants as input
use Rattle.sl_count_inputs.specs.declared.status.Status.TheVariants as status
use Rattle.sl_count_inputs.specs.declared.status.Status.{Status}
use Rattle.sl_count_inputs.specs.declared.verdict.Verdict.TheVariants.{Good, Refused}
use Rattle.sl_law_meaning.specs.book.Books.{book_of}
use Rattle.sl_law_meaning.specs.book.Trees.{BookTree}
use Rattle.sl_law_meaning.specs.returns.Election.{Election}

-- ---- a stage by its name

-- where it is not unknown, it has a number
numbered : (number : Option ℕ) (name : List ℕ) → (if is_some number then None else Some name) ≡ None → (n : ℕ) × (number ≡ Some n)
numbered None name there = absurd cc
numbered (Some n) name there = (n, refl)

unnumbered : (number : Option ℕ) (name other : List ℕ) → (if is_some number then None else Some name) ≡ Some other → (number ≡ None) × (name ≡ other)
unnumbered None name other there = (refl, cc)
unnumbered (Some n) name other there = absurd cc

-- ---- the texts

module _ (view : View) (i : BookInput) (returns : List ℕ) (ends : Status) (output : List ℕ) where
  -- a name without a stage
  pub shown_unknown : (tree : BookTree) (name : List ℕ) → (ends ≡ status.Refused) × (output ≡ unknown_stage name) → IsBookVerdict i (Good tree)
      → unknown_in (stage_of view) tree ≡ Some name → IsShownOutput view i returns ends output
  shown_unknown tree name text good there = go view there
    where
      go : (view : View) → unknown_in (stage_of view) tree ≡ Some name → IsShownOutput view i returns ends output
      go Seats there = absurd cc
      go Steps there = absurd cc
      go (Stage asked) there =
          let none = unnumbered (stage_number asked.now tree) asked.now name there in
          (Good tree, good, subst (λ (o : Option ℕ). IsNumbered asked.now tree o returns ends output) (sym none.0) (text.0, text.1 ∙ ap unknown_stage (sym none.1)))

  module _ (tree : BookTree) (good : IsBookVerdict i (Good tree)) (there : unknown_in (stage_of view) tree ≡ None) where
    -- refused returns
    pub shown_returns : (why : ReturnsRefusal) → (ends ≡ status.Refused) × (output ≡ returns_line why) → IsReturnsVerdict returns (Refused why)
        → IsShownOutput view i returns ends output
    shown_returns why text bad = go view there
      where
        go : (view : View) → unknown_in (stage_of view) tree ≡ None → IsShownOutput view i returns ends output
        go Seats there = (Good tree, good, (Refused why, bad, text))
        go Steps there = (Good tree, good, (Refused why, bad, text))
        go (Stage asked) there =
            let n = numbered (stage_number asked.now tree) asked.now there in
            (Good tree, good, subst (λ (o : Option ℕ). IsNumbered asked.now tree o returns ends output) (sym n.1) (Refused why, bad, text))

    -- a count
    pub shown_count : (e : Election) → IsReturnsVerdict returns (Good e) → IsShownOn view tree e ends output → IsShownOutput view i returns ends output
    shown_count e judged shown = go view there shown
      where
        go : (view : View) → unknown_in (stage_of view) tree ≡ None → IsShownOn view tree e ends output → IsShownOutput view i returns ends output
        go Seats there shown = (Good tree, good, (Good e, judged, shown))
        go Steps there shown = (Good tree, good, (Good e, judged, shown))
        go (Stage asked) there shown =
            let n = numbered (stage_number asked.now tree) asked.now there in (
              Good tree,
              good,
              subst (λ (o : Option ℕ). IsNumbered asked.now tree o returns ends output) (sym n.1)
                  (Good e, judged, subst (λ (o : Option ℕ). IsNumberedOn asked.now tree o e ends output) n.1 shown),
            )

-- whatever inputs came to a count
pub answers_count : {E : Type 0} (view : View) (c : Counting) (j : Judged) (result : Result Answer E) → j ≡ judged.Counted c
    → IfOk result (λ a. IsMeant c → IsShownOn view (book_of c.book.book) c.returns a.status a.text.items) → IfOk result (λ a. IsAnswerOf view j a.status a.text.items)
answers_count view c j (Err error) same shown = tt
answers_count view c j (Ok a) same shown = λ r i returns is. go r i returns (subst (λ (k : Judged). IsJudged r (stage_of view) i returns k) same is)
  where
    go : (r : Records) (i : BookInput) (returns : List ℕ) → IsJudged r (stage_of view) i returns (judged.Counted c) → IsShownOutput view i returns a.status a.text.items
    go r i returns is =
        let tree = is.0 in
        let e = is.3.0 in
        let counting : IsCounting r tree e c = is.3.2 in
        let meant : IsMeant c =
        subst (λ (k : Records). IsMeantEnd k (book_of c.book.book) c.returns c.outcome.end) (sym counting.records)
        (subst (λ (b : BookTree). IsMeantEnd r b c.returns c.outcome.end) (sym counting.by)
        (subst (λ (x : Election). IsMeantEnd r tree x c.outcome.end) (sym counting.on) counting.meant)) in
        shown_count view i returns a.status a.text.items tree is.1 is.2 e is.3.1
        (subst (λ (x : Election). IsShownOn view tree x a.status a.text.items) counting.on
        (subst (λ (b : BookTree). IsShownOn view b c.returns a.status a.text.items) counting.by (shown meant)))

-- ---- what is delivered

-- a text of one relation is one of another
pub delivers_as : (Is Also : Status → List ℕ → Type 0) → ((ends : Status) (text : List ℕ) → Is ends text → Also ends text) → (old new : Option (List ℕ)) (r : Result Status DeskError)
    → Delivers Is old new r → Delivers Also old new r
delivers_as Is Also more old new (Ok ends) d = (d.0, more ends d.0 d.1, d.2)
delivers_as Is Also more old new (Err fault.Write) d = (d.0, d.1, more d.0 d.1 d.2, d.3)
delivers_as Is Also more old new (Err (fault.Read i)) d = d
delivers_as Is Also more old new (Err fault.NoMemory) d = d

-- what is shown of the value is shown of the inputs that came to it
pub known_shown : (view : View) (j : Judged) (book : Option BookInput) (returns : Option (List ℕ)) (ends : Status) (text : List ℕ)
    → ForKnown book returns (λ i bytes. IsJudged (records_for view) (stage_of view) i bytes j) → IsAnswerOf view j ends text
    → ForKnown book returns (λ i bytes. IsShownOutput view i bytes ends text)
known_shown view j None returns ends text is shown = tt
known_shown view j (Some i) None ends text is shown = tt
known_shown view j (Some i) (Some bytes) ends text is shown = shown (records_for view) i bytes is

-- the records that are shown do for it
pub is_for : (view : View) (j : Judged) → FitsJudged (records_for view) j → IsFor view j
is_for view j fits = (records_for view, go view, fits)
  where
    go : (view : View) → Suits view (records_for view)
    go Seats = tt
    go Steps = refl
    go (Stage name) = tt

-- ---- what is read

more_some : {A : Type 0} (P Q : A → Type 0) (known : Option A) → ((a : A) → P a → Q a) → IfSome known P → IfSome known Q
more_some P Q None more h = tt
more_some P Q (Some a) more h = more a h

module _ {R X Y : Type 0} (remaining : R → Option (List ℕ)) (book : Option BookInput) (old new : R) (r : Result X DeskError) (s : Result Y DeskError)
    (same : (i : Input) → s ≡ Err (fault.Read i) → r ≡ Err (fault.Read i))
  where
    -- a later failure to write, or for lack of memory, changes nothing of what was read
    behind_as : (IsBad IsWorse : BookInput → Type 0) → ((i : BookInput) → IsWorse i → IsBad i) → ReadsBehind remaining input.Book book IsBad old new r
        → ReadsBehind remaining input.Book book IsWorse old new s
    behind_as IsBad IsWorse worse h = record {
      limited = h.limited;
      untouched = more_some _ _ book (λ i keeps bad. keeps (worse i bad)) h.untouched;
      unread = more_some _ _ book (λ i unread bad read. unread (worse i bad) (same input.Returns read)) h.unread;
      second = λ e. h.second (same input.Book e);
    }

    pub shown_reads : (view : View) → ReadsAfter (stage_of view) remaining book old new r → ReadsBehindShown view remaining book old new s
    shown_reads Seats h = behind_as (IsNone None) IsNoGoodBook (λ i bad. λ tree good there. bad tree good) h
    shown_reads Steps h = behind_as (IsNone None) IsNoGoodBook (λ i bad. λ tree good there. bad tree good) h
    shown_reads (Stage name) h =
        behind_as (IsNone (Some name.now)) (IsNoBookWith name.now)
        (λ i bad. λ tree good there. let n = numbered (stage_number name.now tree) name.now there in bad tree n.0 good n.1) h

-- a call that goes on has read what was read to show it, whatever it answers
module _ {R X Y : Type 0} (remaining : R → Option (List ℕ)) (book : Option BookInput) (old new : R) (r : Result X DeskError) (y : Y) where
  goes_on : (IsBad : BookInput → Type 0) → ReadsBehind remaining input.Book book IsBad old new r → ReadsBehind remaining input.Book book IsBad old new (Ok y)
  goes_on IsBad h = behind_as remaining book old new r (Ok y) (λ i read. absurd cc) IsBad IsBad (λ i bad. bad) h

  pub still_shown : (view : View) → ReadsBehindShown view remaining book old new r → ReadsBehindShown view remaining book old new (Ok y)
  still_shown Seats h = goes_on IsNoGoodBook h
  still_shown Steps h = goes_on IsNoGoodBook h
  still_shown (Stage name) h = goes_on (IsNoBookWith name.now) h

pub same_error : {X Y : Type 0} (e : DeskError) (r : Result X DeskError) (s : Result Y DeskError) → r ≡ Err e → s ≡ Err e → (i : Input) → s ≡ Err (fault.Read i) → r ≡ Err (fault.Read i)
same_error e r s first second i read = let this : e ≡ fault.Read i = cc in first ∙ ap (λ (x : DeskError). Err x) this

pub no_read : {X Y : Type 0} (r : Result X DeskError) (s : Result Y DeskError) → IfErr s (λ e. (e ≡ fault.NoMemory) ⊎ (e ≡ fault.Write)) → (i : Input) → s ≡ Err (fault.Read i)
    → r ≡ Err (fault.Read i)
no_read r (Ok y) other i read = absurd cc
no_read r (Err fault.NoMemory) other i read = absurd cc
no_read r (Err fault.Write) other i read = absurd cc
no_read r (Err (fault.Read j)) (inl full) i read = absurd cc
no_read r (Err (fault.Read j)) (inr full) i read = absurd cc

-- What is shown of what inputs come to, by what is asked for (docs/output.md).
use Rattle.std.specs.Prelude.{List, None, Option, Some, ◌≡◌, ℕ}
use Rattle.sl_count_calls.specs.Judged.{IsJudged}
use Rattle.sl_count_calls.specs.declared.judged.Judged.TheVariants.{Counted}
use Rattle.sl_count_calls.specs.declared.judged.Judged.{Judged}
use Rattle.sl_law_meaning.specs.declared.count.End.TheVariants as ends
use Rattle.sl_law_meaning.specs.declared.count.End.{End}
use Rattle.sl_law_meaning.specs.declared.count.Records.TheVariants.{Dropped, Kept}
use Rattle.sl_law_meaning.specs.declared.count.Records.{Records}
use Rattle.sl_count_calls.specs.Counting.{IsTreeOutput, ShowsSeats}
use Rattle.sl_count_calls.specs.Showing.{ShowsColumn, unknown_stage}
use Rattle.sl_count_calls.specs.Shows.{IsShownOutput}
use Rattle.sl_count_calls.specs.Steps.{ShowsSteps}
use Rattle.sl_count_calls.specs.declared.view.View.TheVariants.{Seats, Stage, Steps}
use Rattle.sl_count_calls.specs.declared.view.View.{View}
use Rattle.sl_count_inputs.specs.Books.{BookInput}
use Rattle.sl_count_inputs.specs.StageNames.{stage_number}
use Rattle.sl_count_inputs.specs.declared.status.Status.TheVariants as status
use Rattle.sl_count_inputs.specs.declared.status.Status.{Status}
use Rattle.sl_count_inputs.specs.declared.verdict.Verdict.TheVariants.{Good}
use Rattle.sl_law_meaning.specs.book.Trees.{BookTree}
use Rattle.sl_law_meaning.specs.returns.Election.{Election}

-- the records that it needs
abbrev pub records_for : View → Records
records_for Steps = Kept
records_for _ = Dropped

-- the name of the stage that it asks for
abbrev pub stage_of : View → Option (List ℕ)
stage_of (Stage name) = Some name.now
stage_of _ = None

-- ---- a good book on good returns

abbrev pub IsNumberedOn : List ℕ → BookTree → Option ℕ → Election → Status → List ℕ → Type 0
IsNumberedOn name tree None e ends output = (ends ≡ status.Refused) × (output ≡ unknown_stage name)
IsNumberedOn name tree (Some n) e ends output = IsTreeOutput (ShowsColumn n) tree (Good e) ends output

abbrev pub IsShownOn : View → BookTree → Election → Status → List ℕ → Type 0
IsShownOn Seats tree e = IsTreeOutput ShowsSeats tree (Good e)
IsShownOn Steps tree e = IsTreeOutput ShowsSteps tree (Good e)
IsShownOn (Stage name) tree e = IsNumberedOn name.now tree (stage_number name.now tree) e

-- ---- any inputs

-- whatever two inputs came to it, this is what the command writes of them
abbrev pub IsAnswerOf : View → Judged → Status → List ℕ → Type 0
IsAnswerOf view judged ends output =
    (r : Records) (input : BookInput) (returns : List ℕ) → IsJudged r (stage_of view) input returns judged → IsShownOutput view input returns ends output

-- ---- a table

-- a count has a table, and no legal fault
abbrev pub IsTableEnd : End → Type 0
IsTableEnd (ends.Counted counted) = Unit {0}
IsTableEnd (ends.Fault fault) = ⊥

-- what inputs come to is one
abbrev pub IsTable : Judged → Type 0
IsTable (Counted c) = IsTableEnd c.outcome.end
IsTable _ = ⊥

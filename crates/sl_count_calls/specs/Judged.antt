-- What two inputs come to (docs/desk.md, section 4).
use Rattle.std.specs.Prelude.{List, None, Option, Some, if◌then◌else◌, is_some, ◌≡◌, ℕ}
use Rattle.sl_count_calls.specs.declared.counting.Counting.{Counting}
use Rattle.sl_count_calls.specs.declared.judged.Judged.TheVariants.{BookRefused, Counted, ReturnsRefused, StageUnknown}
use Rattle.sl_count_calls.specs.declared.judged.Judged.{Judged}
use Rattle.sl_law_meaning.specs.meaning.Counts.{IsMeantEnd}
use Rattle.sl_law_meaning.specs.declared.count.Records.{Records}
use Rattle.sl_count_inputs.specs.Books.{BookInput, IsBookVerdict}
use Rattle.sl_count_inputs.specs.Holding.{HoldsBook, HoldsReturns}
use Rattle.sl_count_inputs.specs.Judging.{refusal_of, returns_refusal_of}
use Rattle.sl_count_inputs.specs.Returns.{IsReturnsVerdict}
use Rattle.sl_count_inputs.specs.StageNames.{stage_number}
use Rattle.sl_count_inputs.specs.Texts.{bytes_of}
use Rattle.sl_count_inputs.specs.declared.verdict.Verdict.TheVariants.{Good, Refused}
use Rattle.sl_law_meaning.specs.book.Books.{book_of}
use Rattle.sl_law_meaning.specs.book.Trees.{BookTree}
use Rattle.sl_law_meaning.specs.returns.Election.{Election}

-- the name that is asked for, if there is one and no stage of the book has it
abbrev pub unknown_in : Option (List ℕ) → BookTree → Option (List ℕ)
unknown_in None tree = None
unknown_in (Some name) tree = if is_some (stage_number name tree) then None else Some name

-- the count by a book of that tree on those returns: what the book means on them
pub record IsCounting (r : Records) (tree : BookTree) (e : Election) (c : Counting) : Type 0 where
  pub by : book_of c.book.book ≡ tree
  pub on : c.returns ≡ e
  pub records : c.records ≡ r
  pub meant : IsMeantEnd r tree e c.outcome.end

-- a good book that has what is asked for: the returns are refused, with what was read of them until then, or it is counted
abbrev pub IsJudgedOn : Records → BookTree → List ℕ → Judged → Type 0
IsJudgedOn r tree returns (ReturnsRefused refused) = IsReturnsVerdict returns (Refused (returns_refusal_of refused)) × HoldsReturns returns refused
IsJudgedOn r tree returns (Counted c) = (e : Election) × IsReturnsVerdict returns (Good e) × IsCounting r tree e c
IsJudgedOn r tree returns _ = ⊥

-- the book is refused, with what was read of it until then; or it is good and has no stage of the name that is asked for; or it has it, and is judged on
-- the returns
abbrev pub IsJudged : Records → Option (List ℕ) → BookInput → List ℕ → Judged → Type 0
IsJudged r asked input returns (BookRefused book) = IsBookVerdict input (Refused (refusal_of book)) × HoldsBook (bytes_of input) book
IsJudged r asked input returns (StageUnknown book name) = IsBookVerdict input (Good (book_of book.book)) × (unknown_in asked (book_of book.book) ≡ Some name.now)
IsJudged r asked input returns judged =
    (tree : BookTree) × IsBookVerdict input (Good tree) × (unknown_in asked tree ≡ None) × IsJudgedOn r tree returns judged

-- What inputs come to, whatever they are: what is there fits together.
use Rattle.std.specs.Prelude.{◌≡◌}
use Rattle.sl_count_calls.specs.Outcomes.{FitsOutcome}
use Rattle.sl_count_calls.specs.declared.judged.Judged.TheVariants.{Counted}
use Rattle.sl_count_calls.specs.declared.judged.Judged.{Judged}
use Rattle.sl_law_meaning.specs.book.Books.{book_of}
use Rattle.sl_law_meaning.specs.declared.count.Records.{Records}
use Rattle.sl_law_meaning.specs.meaning.Counts.{IsMeantEnd}

-- whatever inputs came to it: it has these records, and its outcome fits its book and its returns, and is what the one means on the other
abbrev pub FitsJudged : Records → Judged → Type 0
FitsJudged r (Counted c) =
    (c.records ≡ r) × FitsOutcome (book_of c.book.book) c.returns c.outcome × IsMeantEnd r (book_of c.book.book) c.returns c.outcome.end
FitsJudged r _ = Unit {0}

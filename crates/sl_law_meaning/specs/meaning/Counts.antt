-- The table and the columns that a rulebook means on returns, and the legal fault that it means (docs/meaning.md, section 9).
use Rattle.std.specs.Prelude.{List, [], map, ◌≡◌}
use Rattle.sl_law_meaning.specs.declared.count.Column.{Column}
use Rattle.sl_law_meaning.specs.declared.count.End.TheVariants.{Counted, Fault}
use Rattle.sl_law_meaning.specs.declared.count.End.{End}
use Rattle.sl_law_meaning.specs.declared.count.Records.TheVariants.{Dropped, Kept}
use Rattle.sl_law_meaning.specs.declared.count.Records.{Records}
use Rattle.sl_law_meaning.specs.book.Trees.{BookTree}
use Rattle.sl_law_meaning.specs.book.Typing.{columns_of}
use Rattle.sl_law_meaning.specs.declared.table.Outcome.TheVariants as outcome
use Rattle.sl_law_meaning.specs.meaning.Means.{Known, Means, StagesMean, Through, nothing_known}
use Rattle.sl_law_meaning.specs.meaning.Tables.{SeatTable}
use Rattle.sl_law_meaning.specs.returns.Election.{Election}

-- a table with its steps and weights, or without them
abbrev pub kept_table : Records → SeatTable → SeatTable
kept_table Kept t = t
kept_table Dropped t = record t { steps = []; weights = [] }

-- the table that a book means on returns, with its steps and weights or without them
abbrev pub IsMeantTable : Records → BookTree → Election → SeatTable → Type 0
IsMeantTable r tree e kept = (t : SeatTable) × Means tree e (outcome.Table t) × (kept ≡ kept_table r t)

-- the columns are those to which the stages of the book come, in order, each of the shape of its stage
pub record HoldsStages (tree : BookTree) (e : Election) (columns : List Column) : Type 0 where
  pub known : Known
  pub means : StagesMean tree e nothing_known tree.stages (Through known)
  pub cells : map (λ c. c.cells.items) columns ≡ map (λ c. c.values) known.columns
  pub shapes : map (λ c. c.shape) columns ≡ map (λ t. t.type.shape) (columns_of [] tree.stages)

-- the table and the columns that the book means on the returns; or the legal fault that it means
abbrev pub IsMeantEnd : Records → BookTree → Election → End → Type 0
IsMeantEnd r tree e (Counted c) = IsMeantTable r tree e c.table × HoldsStages tree e c.columns.items
IsMeantEnd r tree e (Fault f) = Means tree e (outcome.Fault f)

-- A rulebook's tree.
use Rattle.std.specs.Prelude.{map}
use Rattle.sl_law_meaning.specs.declared.book.Book.{Book}
use Rattle.sl_law_meaning.specs.book.Trees.{BookTree, stage_of}

abbrev pub book_of : Book → BookTree
book_of b = record { version = b.version; law = b.law.items; house = b.house; eligible = b.eligible.items; stages = map stage_of b.stages.items; last = b.last }

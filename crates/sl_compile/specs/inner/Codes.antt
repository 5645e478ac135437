-- The code of a book, as the compiler makes it.
use Rattle.std.specs.Prelude.{◌≡◌, List}
use Rattle.sl_law_meaning.specs.declared.book.Cond.{Cond}
use Rattle.sl_law_meaning.specs.book.Trees.{BookTree}
use Rattle.sl_code_instructions.specs.declared.instr.Instr.{Instr}
use Rattle.sl_code_instructions.specs.Codes.{CountingCode}
use Rattle.sl_compile.specs.Conditions.{SayTheSame}
use Rattle.sl_compile.specs.Codes.{book_code, AreBookInstrs}

-- it is the book's for a few conditions that say what all of the book's say
pub record IsCodeOf (b : BookTree) (c : CountingCode) : Type 0 where
  pub few : List Cond
  pub same : SayTheSame few b.eligible
  pub instrs : List Instr
  pub are : AreBookInstrs few b instrs
  pub is : c ≡ book_code b instrs

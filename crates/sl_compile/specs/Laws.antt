-- The laws of compiled rulebooks: each is the contract of a function of `laws` (docs/compiler.md, section 8).
use Rattle.std.specs.Prelude.{◌≡◌, ◌≤◌, true, List, length}
use Rattle.sl_code_instructions.specs.declared.instr.Instr.{Instr}
use Rattle.sl_law_meaning.specs.declared.book.Cond.{Cond}
use Rattle.sl_law_meaning.specs.book.Trees.{BookTree}
use Rattle.sl_law_meaning.specs.book.Typing.{is_typed}
use Rattle.sl_law_meaning.specs.book.Limits.{is_within_limits}
use Rattle.sl_code_semantics.specs.WellKinded.{IsWellKinded}
use Rattle.sl_compile.specs.Conditions.{SayTheSame}
use Rattle.sl_compile.specs.Codes.{book_code, AreBookInstrs}
use Rattle.sl_compile.specs.Compiled.{IsCompiled}

-- a typed book within the limits, and a few conditions that say what its own say
pub record CanCompile (few : List Cond) (b : BookTree) : Type 0 where
  pub typed : is_typed b ≡ true
  pub limits : is_within_limits b.stages ≡ true
  pub same : SayTheSame few b.eligible

abbrev pub BooksAreCompiled : Type 0
BooksAreCompiled = (few : List Cond) (b : BookTree) (instrs : List Instr) → CanCompile few b → AreBookInstrs few b instrs → IsCompiled b (book_code b instrs)

-- the verifier accepts the code
abbrev pub BooksAreKinded : Type 0
BooksAreKinded = (few : List Cond) (b : BookTree) (instrs : List Instr) → CanCompile few b → AreBookInstrs few b instrs → IsWellKinded (book_code b instrs)

abbrev pub BooksAreShort : Type 0
BooksAreShort = (few : List Cond) (b : BookTree) (instrs : List Instr) → CanCompile few b → AreBookInstrs few b instrs → length instrs ≤ 50000

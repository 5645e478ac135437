-- A statute of the library that was judged by its name.
use Rattle.std.specs.Prelude.{List, None, [], ◌∷◌, ◌≡◌, ℕ}
use Rattle.sl_count_inputs.specs.Books.{IsBookVerdict, library}
use Rattle.sl_count_inputs.specs.Judging.{tree_verdict}
use Rattle.sl_terminal_commands.specs.declared.sums.NamedBook.{NamedBook}

-- with its own methods; its verdict is that of the name that stands after `@`, which is 64, in its word; nothing was read of a file
pub record IsJudgedStatute (b : NamedBook) : Type 0 where
  pub own : b.method ≡ None
  pub verdict : (name : List ℕ) → b.word.now ≡ 64 ∷ name → IsBookVerdict (library name) (tree_verdict b.read.verdict)
  pub text : b.read.text.items ≡ []

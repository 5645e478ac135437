-- Files in memory (docs/library.md).
use Rattle.std.specs.Option.{option_map}
use Rattle.std.specs.Prelude.{List, Option, bytes_eq, find, ℕ}
use Rattle.sl_terminal_outside.specs.declared.shelf.File.{File}

-- the bytes of the first file of a name
abbrev pub bytes_at : List File → List ℕ → Option (List ℕ)
bytes_at files name = option_map (λ f. f.bytes.now) (find (λ f. bytes_eq f.name.now name) files)

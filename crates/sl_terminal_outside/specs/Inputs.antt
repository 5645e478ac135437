-- What words name of the files outside, and inputs that could not be opened (docs/desk.md).
use Rattle.std.specs.Option.{option_map}
use Rattle.std.specs.Prelude.{List, Option, Some, if◌then◌else◌, ◌∷◌, ◌==◌, ◌≡◌, ◌⊎◌, ℕ, []}
use Rattle.sl_count_inputs.specs.Books.{BookInput, library, text}
use Rattle.sl_count_inputs.specs.declared.status.DeskError.TheVariants as fault
use Rattle.sl_count_inputs.specs.declared.status.DeskError.{DeskError}
use Rattle.sl_count_inputs.specs.declared.status.Input.TheVariants as input
use Rattle.sl_count_inputs.specs.declared.status.Input.{Input}

-- a word that begins with `@`, which is 64, names a statute of the library, and any other is a path
abbrev pub named_input : (List ℕ → Option (List ℕ)) → List ℕ → Option BookInput
named_input bytes [] = option_map text (bytes [])
named_input bytes (first ∷ rest) = if first == 64 then Some (library rest) else option_map text (bytes (first ∷ rest))

-- a rulebook could not be opened: its word is a path, at which there is no file
abbrev pub IsBookUnopened : (List ℕ → Type 0) → List ℕ → Input → Type 0
IsBookUnopened Lacks word unopened = (unopened ≡ input.Book) × Lacks word

-- the book could not be opened, or the returns could not, and the error is of that one
abbrev pub IsUnopened : (List ℕ → Type 0) → List ℕ → List ℕ → DeskError → Type 0
IsUnopened Lacks book returns e =
    ((which : Input) × (e ≡ fault.Read which) × IsBookUnopened Lacks book which) ⊎ ((e ≡ fault.Read input.Returns) × Lacks returns)

-- A word that does not begin with `@` is a path.
use Rattle.std.proofs.Common.{List, Option, ℕ, [], ◌∷◌, ◌≡◌, ◌≢◌, arith, refl}
use Rattle.sl_terminal_outside.specs.Inputs.{named_input}
use Rattle.sl_count_inputs.specs.Books.{text}
use Rattle.std.specs.Option.{option_map}

pub path_named : (bytes : List ℕ → Option (List ℕ)) (word : List ℕ) → ((rest : List ℕ) → word ≢ 64 ∷ rest) → option_map text (bytes word) ≡ named_input bytes word
path_named bytes [] differs = refl
path_named bytes (first ∷ rest) differs = let other = differs rest in grind arith

-- A word that names no statute.
use Rattle.std.proofs.Common.{List, [], arith, refl, ◌∷◌, ◌≡◌, ◌≢◌, ℕ}
use Rattle.sl_terminal_commands.specs.inner.Digested.{word_bytes}

pub path_bytes : (word read : List ℕ) → ((rest : List ℕ) → word ≢ 64 ∷ rest) → read ≡ word_bytes word read
path_bytes [] read differs = refl
path_bytes (first ∷ rest) read differs = let other = differs rest in grind arith

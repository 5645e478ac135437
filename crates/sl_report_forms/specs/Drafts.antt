-- Texts that are being written: the bytes so far, or nothing once a part found no memory.
use Rattle.std.specs.Prelude.{◌≡◌, ◌⊎◌, ℕ, List, Option, None}
use Rattle.std.specs.Io.KnownBytes.{append_known}

-- the text has these bytes more, or memory has run out
abbrev pub Grows : Option (List ℕ) → Option (List ℕ) → List ℕ → Type 0
Grows before after more = (after ≡ append_known before more) ⊎ (after ≡ None)

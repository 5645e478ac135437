-- The character with which a text begins (docs/explanations.md).
use Rattle.std.specs.Prelude.{ℕ, Bool, ◌&&◌, List, [], ◌∷◌, find, length, nat_le, take, unwrap_or}
use Rattle.std.specs.Str.{is_utf8}

-- so many first bytes are UTF-8
abbrev pub is_front : List ℕ → ℕ → Bool
is_front text n = nat_le n (length text) && is_utf8 (take n text)

-- how many bytes that character has: the fewest of one to four that are UTF-8, and one where none are
abbrev pub character_len : List ℕ → ℕ
character_len text = unwrap_or (find (is_front text) (1 ∷ 2 ∷ 3 ∷ 4 ∷ [])) 1

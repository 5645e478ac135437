-- Words: the names of stages (docs/language.md, section 1).
use Rattle.std.specs.Prelude.{ℕ, Bool, false, ◌&&◌, ◌||◌, List, [], ◌∷◌, length, nat_eq, nat_le}
use Rattle.std.specs.List.{list_all}
use Rattle.sl_base_quotients.specs.declared.spelling.TheConstants.{MAX_NAME_BYTES}

abbrev pub is_letter : ℕ → Bool
is_letter b = (nat_le 65 b && nat_le b 90) || (nat_le 97 b && nat_le b 122)

abbrev pub is_digit : ℕ → Bool
is_digit b = nat_le 48 b && nat_le b 57

-- a letter, and then letters, digits and underscores, within the limit
abbrev pub is_word : List ℕ → Bool
is_word [] = false
is_word (b ∷ bytes) = is_letter b && list_all (λ c. is_letter c || is_digit c || nat_eq c 95) bytes && nat_le (length (b ∷ bytes)) MAX_NAME_BYTES

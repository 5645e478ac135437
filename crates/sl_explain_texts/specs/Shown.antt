-- Bytes of an input as a person sees them (docs/explanations.md).
use Rattle.std.specs.List.{position_or_len}
use Rattle.std.specs.Prelude.{Bool, List, codes, drop, if◌then◌else◌, length, map, nat_eq, nat_le, not, take, ◌&&◌, ◌+◌, ◌++◌, ◌||◌, ℕ}
use Rattle.std.specs.Str.{chars, encode_utf8_all, is_utf8}

-- a number stands from one to another
abbrev pub is_from : ℕ → ℕ → ℕ → Bool
is_from first last n = nat_le first n && nat_le n last

-- a character that turns the direction of what stands after it
abbrev pub turns_text : ℕ → Bool
turns_text c = nat_eq c 1564 || is_from 8206 8207 c || is_from 8234 8238 c || is_from 8294 8297 c

-- a control character
abbrev pub is_control : ℕ → Bool
is_control c = nat_le c 31 || is_from 127 159 c

-- a character as it is shown: a blank for a tab, U+FFFD for any other control character and for what turns a text
abbrev pub shown_character : ℕ → ℕ
shown_character c = if nat_eq c 9 then 32 else (if is_control c || turns_text c then 65533 else c)

-- the character that is shown for a byte of a text that is not UTF-8
abbrev pub character_of : ℕ → ℕ
character_of byte = if nat_le 128 byte then 63 else byte

-- bytes of an input as they are shown
abbrev pub shown : List ℕ → List ℕ
shown bytes = encode_utf8_all (map shown_character (if is_utf8 bytes then chars bytes else map character_of bytes))

-- a byte that begins a character of UTF-8: none from 128 to 191
abbrev pub begins_character : ℕ → Bool
begins_character byte = not (is_from 128 191 byte)

-- the bytes of a text that a sentence repeats: the first 40, up to the next character
abbrev pub repeated_bytes : List ℕ → List ℕ
repeated_bytes text = take (40 + position_or_len begins_character (drop 40 text)) text

-- bytes of an input as a sentence repeats them: the first as they are shown, and dots where there are more
abbrev pub repeated : List ℕ → List ℕ
repeated text = shown (repeated_bytes text) ++ (if nat_eq (length (repeated_bytes text)) (length text) then codes "" else codes "...")

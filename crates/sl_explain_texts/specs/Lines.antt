-- The lines of a text, as an editor counts them (docs/explanations.md).
use Rattle.std.specs.List.{before_first, last_or, range_with_len}
use Rattle.std.specs.Option.{option_map}
use Rattle.std.specs.Prelude.{ℕ, ◌+◌, ◌-◌, Bool, ◌&&◌, ◌||◌, not, List, None, count_by, drop, filter, if◌then◌else◌, length, min, nat_eq, slice_get, suc, take, unwrap_or}
use Rattle.std.specs.Str.{is_utf8}
use Rattle.sl_explain_texts.specs.Shown.{begins_character}

-- the byte at an offset, 0 past the end
abbrev pub byte_at : List ℕ → ℕ → ℕ
byte_at text at = unwrap_or (slice_get text at) 0

-- a line ends at LF, and at a CR that no LF follows
abbrev pub ends_line : List ℕ → ℕ → Bool
ends_line text at = nat_eq (byte_at text at) 10 || nat_eq (byte_at text at) 13 && not (nat_eq (byte_at text (at + 1)) 10)

-- the number of the line in which the byte at an offset stands: one more than lines end before it; an offset past the text stands at its end
abbrev pub line_number : List ℕ → ℕ → ℕ
line_number text at = 1 + count_by (ends_line text) (range_with_len 0 (min at (length text)))

-- the offset of the first byte of that line: behind the last end of a line before it
abbrev pub line_start : List ℕ → ℕ → ℕ
line_start text at = unwrap_or (option_map suc (last_or None (filter (ends_line text) (range_with_len 0 (min at (length text)))))) 0

-- the bytes up to the first end of a line
abbrev pub first_line : List ℕ → List ℕ
first_line text = before_first (λ b. nat_eq b 10 || nat_eq b 13) text

-- that line, without its end
abbrev pub line_text : List ℕ → ℕ → List ℕ
line_text text at = first_line (drop (line_start text at) text)

-- how many characters are shown of a part of a line: those of UTF-8, and else the bytes
abbrev pub shown_count : List ℕ → List ℕ → ℕ
shown_count line part = if is_utf8 line then count_by begins_character part else length part

-- the column of the byte at an offset, in characters from 1
abbrev pub column_of : List ℕ → ℕ → ℕ
column_of text at = 1 + shown_count (line_text text at) (take (at - line_start text at) (drop (line_start text at) text))

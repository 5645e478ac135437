-- The bytes of inputs, and which of them are handed on where an input is read.
use Rattle.std.specs.Prelude.{List, [], if◌then◌else◌, length, nat_le, unwrap_or, ◌≡◌, ℕ}
use Rattle.sl_count_inputs.specs.Books.{BookInput, library, text}
use Rattle.sl_count_inputs.specs.declared.limits.TheConstants.{MAX_BOOK_BYTES}
use Rattle.sl_laws.specs.Books.{law_text}

-- the bytes of a rulebook: none of a name that the library does not have
abbrev pub bytes_of : BookInput → List ℕ
bytes_of (library name) = unwrap_or (law_text name) []
bytes_of (text bytes) = bytes

-- the text that is read of an input of those bytes: they, and none where they are over the limit
abbrev pub IsReadText : ℕ → List ℕ → List ℕ → Type 0
IsReadText limit bytes read = read ≡ (if nat_le (length bytes) limit then bytes else [])

-- that of a rulebook: none of one of the library, which has no reader
abbrev pub IsBookText : BookInput → List ℕ → Type 0
IsBookText (library name) read = read ≡ []
IsBookText (text bytes) read = IsReadText MAX_BOOK_BYTES bytes read

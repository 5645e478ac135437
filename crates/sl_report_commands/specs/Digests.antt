-- The digests that JSON shows: the SHA-256 of the bytes of each input that is read whole (docs/report.md).
use Rattle.std.specs.Option.{option_map_or}
use Rattle.std.specs.Prelude.{Bool, List, Option, None, Some, [], if◌then◌else◌, length, map, nat_le, true, false, ◌++◌, ◌∷◌, ℕ}
use Rattle.sha2.specs.Sha256.{sha256}
use Rattle.sl_count_calls.specs.declared.judged.Judged.TheVariants.{BookRefused, StageUnknown}
use Rattle.sl_count_calls.specs.declared.judged.Judged.{Judged}
use Rattle.sl_count_inputs.specs.Books.{BookInput, library, text}
use Rattle.sl_count_inputs.specs.declared.limits.TheConstants.{MAX_BOOK_BYTES, MAX_RETURNS_BYTES}
use Rattle.sl_laws.specs.Books.{law_text}
use Rattle.sl_report_forms.specs.declared.heading.DigestedInput.{DigestedInput}
use Rattle.sl_report_forms.specs.declared.shape.Shape.TheVariants as shape
use Rattle.sl_report_forms.specs.declared.shape.Shape.{Shape}

-- of bytes within a limit, and none of more
abbrev pub whole_digest : ℕ → List ℕ → List (List ℕ)
whole_digest limit bytes = if nat_le (length bytes) limit then sha256 bytes ∷ [] else []

-- of a rulebook: none of a name that the library does not have
abbrev pub book_digest : BookInput → List (List ℕ)
book_digest (library name) = option_map_or (whole_digest MAX_BOOK_BYTES) (law_text name) []
book_digest (text bytes) = whole_digest MAX_BOOK_BYTES bytes

abbrev pub returns_digest : List ℕ → List (List ℕ)
returns_digest returns = whole_digest MAX_RETURNS_BYTES returns

-- of a rulebook and returns that come to this: after a refused rulebook no returns are read
abbrev pub count_digests : Judged → BookInput → List ℕ → List (List ℕ)
count_digests (BookRefused why) input returns = book_digest input
count_digests (StageUnknown book name) input returns = book_digest input
count_digests judged input returns = book_digest input ++ returns_digest returns

-- of the inputs of totals: a rulebook, if one is given, and returns
abbrev pub totals_digests : Option BookInput → List ℕ → List (List ℕ)
totals_digests None returns = returns_digest returns
totals_digests (Some input) returns = book_digest input ++ returns_digest returns

-- ---- what is shown

-- JSON alone has digests
abbrev pub is_json : Shape → Bool
is_json shape.Json = true
is_json shape.Text = false
is_json shape.Markdown = false
is_json shape.Html = false
is_json shape.Comma = false

abbrev pub digests : List DigestedInput → List (List ℕ)
digests inputs = map (λ d. d.digest) inputs

-- What the text of a law of the library is, and the line of a name without one (docs/output.md).
use Rattle.std.specs.Prelude.{List, None, Option, Some, codes, ◌∷◌, ◌≡◌, ℕ, []}
use Rattle.sl_count_inputs.specs.Refusals.{refused}
use Rattle.sl_count_inputs.specs.declared.status.Status.TheVariants as status
use Rattle.sl_count_inputs.specs.declared.status.Status.{Status}
use Rattle.sl_laws.specs.Books.{law_text}

abbrev pub unknown_law : List ℕ → List ℕ
unknown_law name = refused (codes "law" ∷ name ∷ [])

-- the text after a name, or the line that refuses a name without one
abbrev pub IsLawText : List ℕ → Option (List ℕ) → Status → List ℕ → Type 0
IsLawText name (Some source) ends output = (ends ≡ status.Done) × (output ≡ source)
IsLawText name None ends output = (ends ≡ status.Refused) × (output ≡ unknown_law name)

abbrev pub IsLawOutput : List ℕ → Status → List ℕ → Type 0
IsLawOutput name ends output = IsLawText name (law_text name) ends output

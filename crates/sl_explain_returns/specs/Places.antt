-- Where an explanation of refused returns points: at a cell of the record that is refused (docs/explanations.md, section 3).
use Rattle.std.specs.List.{list_any}
use Rattle.std.specs.Prelude.{Bool, IfSome, List, Option, length, nat_eq, true, ◌||◌, ◌≡◌, ℕ}
use Rattle.sl_explain_returns.specs.declared.case.Case.{Case}
use Rattle.sl_explain_texts.specs.declared.code.FaultCode.{FaultCode}
use Rattle.sl_explain_texts.specs.declared.explainer.Explainer.{Explainer}
use Rattle.sl_explain_texts.specs.declared.explanation.Span.{Span}
use Rattle.sl_returns_places.specs.Places.{located_in, row_of}

-- at that byte a cell of the record of a row begins; or it is the beginning or the end of the text
unfoldable pub begins_cell : List ℕ → ℕ → ℕ → Bool
begins_cell text row at = list_any (λ c. nat_eq at c.start) (row_of (located_in text) row) || (nat_eq at 0 || nat_eq at (length text))

-- a place, if there is one, begins so
abbrev pub IsInRecord : List ℕ → ℕ → Option Span → Type 0
IsInRecord text row span = IfSome span (λ s. begins_cell text row s.start ≡ true)

-- an explanation of a refused record has that code and such a place
abbrev pub Explains : Case → Option FaultCode → Explainer → Type 0
Explains case code x = (x.code ≡ code) × IsInRecord case.bytes.now case.refused.fault.row x.span

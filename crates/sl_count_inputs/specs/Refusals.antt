-- The lines of refusals: what all of them have (docs/output.md, section 2).
use Rattle.std.specs.Fmt.{decimal}
use Rattle.std.specs.Prelude.{List, codes, ◌++◌, ◌∷◌, ℕ, []}
use Rattle.sl_count_inputs.specs.declared.refusal.Numbered.{Numbered}
use Rattle.sl_count_texts.specs.Lines.{line}

-- a fault by its number, and where it shows
abbrev pub numbered : ℕ → ℕ → Numbered
numbered number at = record { number = number; at = at }

abbrev pub refused : List (List ℕ) → List ℕ
refused words = line (codes "refused" ∷ words)

-- a refusal with the number of its fault, and where it shows
abbrev pub refused_at : List (List ℕ) → Numbered → List ℕ
refused_at words fault = refused (words ++ decimal fault.number ∷ decimal fault.at ∷ [])

-- an input of too many bytes
abbrev pub too_long : List ℕ → List ℕ
too_long input = refused (input ∷ codes "toolong" ∷ [])

-- The text of the seat steps of a table, with the bounds of its scopes (docs/output.md, section 1).
use Rattle.std.specs.Prelude.{◌≡◌, ℕ, List, [], ◌∷◌, ◌++◌, flat_map, codes}
use Rattle.std.specs.Fmt.{decimal}
use Rattle.sl_law_meaning.specs.declared.table.Mark.{Mark}
use Rattle.sl_law_meaning.specs.declared.table.Mark.TheVariants as mark
use Rattle.sl_law_meaning.specs.declared.table.SeatStep.{SeatStep}
use Rattle.sl_law_meaning.specs.returns.Election.{Election}
use Rattle.sl_law_meaning.specs.meaning.Tables.{SeatTable}
use Rattle.sl_count_texts.specs.Bounds.{IsBoundsLines}
use Rattle.sl_count_texts.specs.Faults.{stage_word, scope_words, item_word}
use Rattle.sl_count_texts.specs.Lines.{line, ratio_word}
use Rattle.sl_count_texts.specs.Orders.{step_key, in_order}
use Rattle.sl_count_texts.specs.Short.{short_text}

abbrev pub mark_words : Mark → List (List ℕ)
mark_words mark.Given = codes "-" ∷ []
mark_words (mark.Quotient q) = ratio_word q ∷ []
mark_words (mark.Rest rest) = codes "rest" ∷ decimal rest ∷ []
mark_words mark.Lead = codes "lead" ∷ []

module _ (names : List (List ℕ)) (e : Election) where
  -- a seat: its stage, its scope, its entry, its number in the entry, its step, and what won it
  abbrev pub step_line : SeatStep → List ℕ
  step_line x = line (codes "seat" ∷ stage_word names x.stage ∷ scope_words e x.scope ++ (item_word e x.entry ∷ decimal x.n ∷ decimal x.step ∷ mark_words x.mark))

-- the lines of all seat steps, in order, where the stages have those names
abbrev pub steps_lines : List (List ℕ) → SeatTable → Election → List ℕ
steps_lines names t e = flat_map (step_line names e) (in_order step_key t.steps)

-- the lines of the seat steps, those of the bounds, and the short text
abbrev pub IsStepsText : List (List ℕ) → SeatTable → Election → List ℕ → Type 0
IsStepsText names t e text =
    (bounds : List ℕ) × IsBoundsLines names t e bounds × (text ≡ steps_lines names t e ++ (bounds ++ short_text t e))

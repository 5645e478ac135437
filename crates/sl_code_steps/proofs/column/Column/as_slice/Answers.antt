-- Where there are no cells, zeros are seen.
use Rattle.std.proofs.Common.{◌≡◌, ◌≤◌, ℕ, List, [], ◌∷◌, length, replicate, take, sym, ◌∙◌, arith}
use Rattle.std.proofs.lemmas.Bool.{eqb-true}
use Rattle.std.proofs.lemmas.List.{take-replicate}
use Rattle.sl_code_steps.specs.declared.column.TheConstants.{MOST_CELLS}
use Rattle.sl_code_steps.specs.inner.Columns.{zeros_or}
use Rattle.sl_code_steps.proofs.column.Column.as_slice.Goals as goal

zeros_seen : (most n : ℕ) (xs : List ℕ) → n ≤ most → length xs ≡ 0 → take n (replicate most 0) ≡ zeros_or n xs
zeros_seen most n [] few none = take-replicate n most 0 few
zeros_seen most n (x ∷ xs) few none = absurd (omega (arith, none))

pub returns-then-is_empty : goal.returns-then-is_empty
returns-then-is_empty c =
    let cells = c.self.inside.cells in
    let none : cells.len ≡ 0 = eqb-true cells.len 0 (sym c.is_empty.ensures ∙ c.if-is_empty.true) in
    zeros_seen MOST_CELLS c.self.inside.length cells.items c.self.invariant.few (omega (arith, none)) ∙ c.self.view_is

use Rattle.std.proofs.Common.{◌≡◌, ℕ, List, filter, map, take}
use Rattle.sl_law_meaning.specs.declared.table.SeatStep.{SeatStep}
use Rattle.sl_report_results.specs.Scopes.{entry_of, is_shown}
use Rattle.sl_report_results.specs.inner.Tables.{AreTold}
use Rattle.sl_report_results.proofs.scopes.shown_entries.Given as goal

abbrev pub invariant-loop-number : goal.invariant-loop-number
invariant-loop-number l =
    (stage : ℕ) → (steps : List SeatStep) → (lot : List ℕ) → AreTold l.returns stage steps lot l.won.cells.items l.places l.items →
    l.entries.items ≡ filter is_shown (map (entry_of l.returns stage l.what steps lot l.items) (take l.number l.items))

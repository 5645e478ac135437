-- The cells before the place are the column's, and the list is that of the place.
use Rattle.std.proofs.Common.{◌≡◌, ℕ, ◌<◌, ◌≤◌, get_or}
use Rattle.sl_law_meaning.specs.returns.Election.{parties_of}
use Rattle.sl_code_semantics.specs.Effects.{input_of}
use Rattle.sl_code_steps.specs.inner.Columns.{IsListAt}
use Rattle.sl_code_steps.proofs.columns.read_input.Given as goal

abbrev pub invariant-loop-place : goal.invariant-loop-place
invariant-loop-place l = record {
  read : (k : ℕ) → k < l.place → get_or l.column k 0 ≡ input_of l.returns l.input k;
  list : IsListAt (parties_of l.returns) l.place l.list;
  land : l.list.land ≤ l.place;
  party : l.list.party ≤ l.place;
}

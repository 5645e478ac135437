-- What more than half of the votes gives (Balinski and Young, Fair Representation, appendix A).
-- Each law is the contract of a function of `laws`.
use Rattle.std.specs.Prelude.{ℕ, ◌*◌, ◌<◌, ◌≤◌, true, List, sum, slice_index}
use Rattle.sl_base_quotients.specs.declared.method.Divisor.TheVariants.{Jefferson}
use Rattle.sl_law_meaning.specs.methods.Field.{no_minima}
use Rattle.sl_law_meaning.specs.methods.Allocations.{IsDivisorAllocation}
use Rattle.sl_law_meaning.specs.methods.Hamilton.{IsHamiltonAllocation}

-- more than half of the votes has at least half of the seats, so more than half of an odd house
abbrev pub JeffersonMajority : Type 0
JeffersonMajority =
    (v : List ℕ) (seats : ℕ) (s : List ℕ) → IsDivisorAllocation Jefferson v (no_minima v) seats s →
    (i : ℕ) → sum v < 2 * slice_index v i → seats ≤ 2 * slice_index s i

-- under Hamilton with preference it has more than half of the seats, where there are any
abbrev pub HamiltonMajority : Type 0
HamiltonMajority =
    (v : List ℕ) (seats : ℕ) (s : List ℕ) → IsHamiltonAllocation true v seats s →
    (i : ℕ) → sum v < 2 * slice_index v i → 0 < seats → seats < 2 * slice_index s i

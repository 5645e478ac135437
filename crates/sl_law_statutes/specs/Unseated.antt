-- Who stays without a seat by the statutes of 2023, whatever the offsets in their texts. The law is the contract of a function of `laws`.
use Rattle.std.specs.Prelude.{◌≡◌, ℕ, ◌+◌, ◌-◌, Bool, true, false, List, count_by}
use Rattle.sl_law_meaning.specs.declared.table.Outcome.TheVariants as outcome
use Rattle.sl_law_meaning.specs.declared.table.Placed.{Placed}
use Rattle.sl_law_meaning.specs.declared.table.Placed.TheVariants as placed
use Rattle.sl_law_meaning.specs.book.Trees.{BookTree}
use Rattle.sl_law_meaning.specs.returns.Election.{Election, IsElection}
use Rattle.sl_law_meaning.specs.meaning.Tables.{SeatTable}
use Rattle.sl_law_meaning.specs.meaning.Means.{Means}
use Rattle.sl_law_fairness.specs.Winners.{IsBase, overhang, outside, independents}
use Rattle.sl_law_statutes.specs.Trees.{law_of_2023, law_of_2023_order}

abbrev pub is_unseated : Placed → Bool
is_unseated placed.Unseated = true
is_unseated placed.Single = false
is_unseated placed.OnList = false

-- the winners without a seat are as many as the seats of overhang would be that the same base gave if all winners sat, and with them those who
-- have a party but no eligible list
abbrev pub LeavesTheOverhang : BookTree → Type 0
LeavesTheOverhang b =
    (e : Election) (t : SeatTable) (base : List ℕ) → IsElection e → IsBase b e base → Means b e (outcome.Table t) →
    count_by is_unseated t.placed ≡ overhang b e base + (outside b e - independents e)

abbrev pub UnseatedOf2023 : Type 0
UnseatedOf2023 = (at : ℕ → ℕ) → LeavesTheOverhang (law_of_2023 at) × LeavesTheOverhang (law_of_2023_order at)

-- How a value of `PriorityTable` keeps the priority table.
use Rattle.std.specs.Prelude.{◌≤◌, ◌^◌, Option, All, slice_get}
use Rattle.std.specs.Option.{option_map, ForSome}
use Rattle.sl_base_quotients.specs.Quotient.{Quotient}
use Rattle.sl_code_instructions.specs.declared.operand.Ranking.{Ranking}
use Rattle.sl_code_instructions.specs.declared.operand.Ranking.TheVariants as ranking
use Rattle.sl_base_rankings.specs.Peers.{peers}
use Rattle.sl_base_rankings.specs.Ranking.{ranked}
use Rattle.sl_prio.specs.inner.Marks.{IsPassed}
use Rattle.sl_code_steps.specs.declared.priority.PriorityTable.TheInside.{Inside}
use Rattle.sl_code_semantics.specs.State.{PriorityTable}
use Rattle.sl_code_steps.specs.inner.Lots.{lot_in}

abbrev pub table_in : Inside → Option PriorityTable
table_in t = option_map (λ kind. record { entries = kind.entries; ranking = kind.ranking; contents = ranked t.prio }) t.kind

-- a remainder is at most the greatest number of a register
abbrev pub FitsMark : Ranking → Quotient → Type 0
FitsMark ranking.Quotients q = Unit {0}
FitsMark ranking.Remainders q = q.num ≤ 2 ^ 64

-- so are all of them
abbrev pub HasMarks : Inside → Type 0
HasMarks t = ForSome t.kind (λ kind. All (λ x. FitsMark kind.ranking x.ratio) t.prio)

-- the lot that drew last names none of the peers before the place up to which it was gone through
abbrev pub HasPassed : Inside → Type 0
HasPassed t = ForSome t.kind (λ kind. ForSome (option_map (lot_in kind.entries) (slice_get t.lots t.draws.stage)) (λ lot. IsPassed lot t.draws.passed (peers t.prio)))

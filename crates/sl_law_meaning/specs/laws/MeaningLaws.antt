-- The laws of the meaning (docs/meaning.md, section 10). Each is the contract of a function of `laws::meaning`.
use Rattle.std.specs.Prelude.{◌≡◌, ◌↔◌, ℕ, ◌<◌, Bool, true, false, ◌&&◌, List, nat_eq, min}
use Rattle.std.specs.List.{IsDistinct}
use Rattle.sl_law_meaning.specs.declared.fault.Scope.{Scope}
use Rattle.sl_law_meaning.specs.declared.fault.Scope.TheVariants as scope
use Rattle.sl_law_meaning.specs.declared.table.SeatStep.{SeatStep}
use Rattle.sl_law_meaning.specs.declared.table.Weight.{Weight}
use Rattle.sl_law_meaning.specs.declared.table.Outcome.{Outcome}
use Rattle.sl_law_meaning.specs.declared.table.Outcome.TheVariants as outcome
use Rattle.sl_law_meaning.specs.meaning.Tables.{SeatTable}
use Rattle.sl_law_meaning.specs.book.Trees.{BookTree}
use Rattle.sl_law_meaning.specs.returns.Election.{Election, IsElection, lands_of, parties_of, has_list}
use Rattle.sl_law_meaning.specs.returns.Facts.{list_cell, list_winners}
use Rattle.sl_law_meaning.specs.book.Typing.{is_typed}
use Rattle.sl_law_meaning.specs.meaning.PlainBooks.{ComesTo, is_plain}
use Rattle.sl_law_meaning.specs.meaning.Scopes.{same_item}
use Rattle.sl_law_meaning.specs.meaning.Records.{Records}
use Rattle.sl_law_meaning.specs.meaning.Seating.{placed_on, keep_table}
use Rattle.sl_law_meaning.specs.meaning.Means.{IsCovered, SameTable, SameOutcome, Means}

-- a typed book means some outcome on every election
abbrev pub SomeOutcome : Type 0
SomeOutcome = (b : BookTree) (e : Election) → is_typed b ≡ true → IsElection e → (o : Outcome) × Means b e o

-- and no two, up to the order of a table's steps and weights
abbrev pub AtMostOneOutcome : Type 0
AtMostOneOutcome =
    (b : BookTree) (e : Election) → is_typed b ≡ true → IsElection e → (o p : Outcome) → Means b e o → Means b e p → SameOutcome o p

-- a table's steps and weights may stand in any order
abbrev pub AnyOrder : Type 0
AnyOrder = (b : BookTree) (e : Election) (t u : SeatTable) → Means b e (outcome.Table t) → SameTable u t → Means b e (outcome.Table u)

-- ---- no record comes twice

abbrev pub same_scope : Scope → Scope → Bool
same_scope scope.All scope.All = true
same_scope (scope.Land l) (scope.Land k) = nat_eq l k
same_scope (scope.Party p) (scope.Party q) = nat_eq p q
same_scope (scope.List l p) (scope.List k q) = nat_eq l k && nat_eq p q
same_scope _ _ = false

-- the same seat: of one stage, scope and entry, and of one number
abbrev pub same_seat : SeatStep → SeatStep → Bool
same_seat x y = (nat_eq x.stage y.stage && same_scope x.scope y.scope) && (same_item x.entry y.entry && nat_eq x.n y.n)

abbrev pub same_entry : Weight → Weight → Bool
same_entry x y = (nat_eq x.stage y.stage && same_scope x.scope y.scope) && same_item x.entry y.entry

pub record RecordsComeOnce (t : SeatTable) : Type 0 where
  pub steps : IsDistinct same_seat t.steps
  pub weights : IsDistinct same_entry t.weights

abbrev pub RecordsOnce : Type 0
RecordsOnce = (b : BookTree) (e : Election) (t : SeatTable) → is_typed b ≡ true → Means b e (outcome.Table t) → RecordsComeOnce t

-- ---- how many winners sit on a list

pub record IsListOf (e : Election) (land party : ℕ) : Type 0 where
  pub in_lands : land < lands_of e
  pub in_parties : party < parties_of e
  pub has : has_list e land party ≡ true

-- where winners are kept, all of the list's winners
abbrev pub KeptWinners : Type 0
KeptWinners =
    (b : BookTree) (e : Election) (base : List ℕ) (records : Records) (land party : ℕ) → IsListOf e land party →
    placed_on e (keep_table b e base records).placed land party ≡ list_cell e (list_winners b.eligible e) land party

-- where they are covered, as many as the list has seats, at most all
abbrev pub CoveredWinners : Type 0
CoveredWinners =
    (b : BookTree) (e : Election) (base : List ℕ) (records : Records) (t : SeatTable) → IsElection e →
    IsCovered b e base records (outcome.Table t) → (land party : ℕ) → IsListOf e land party →
    placed_on e t.placed land party ≡ min (list_cell e base land party) (list_cell e (list_winners b.eligible e) land party)

-- ---- a plain book means the table that it yields, and nothing else

abbrev pub PlainOutcomes : Type 0
PlainOutcomes =
    (b : BookTree) (e : Election) (o : Outcome) → is_plain b ≡ true →
    Means b e o ↔ ((t : SeatTable) × ComesTo b e t × (o ≡ outcome.Table t))

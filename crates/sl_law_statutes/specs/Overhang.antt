-- Overhang by party by the statutes up to 2008, whatever the offsets in their texts. The law is the contract of a function of `laws`.
use Rattle.std.specs.Prelude.{◌≡◌, ℕ, ◌+◌, ◌-◌, ◌<◌, List, filter, sum_by}
use Rattle.sl_base_quotients.specs.declared.method.Divisor.TheVariants.{Jefferson, Webster}
use Rattle.sl_base_quotients.specs.declared.method.Method.{Method}
use Rattle.sl_base_quotients.specs.declared.method.Method.TheVariants as by
use Rattle.sl_law_meaning.specs.declared.book.Majority.{Majority}
use Rattle.sl_law_meaning.specs.declared.book.Majority.TheVariants as majority
use Rattle.sl_law_meaning.specs.declared.table.Outcome.TheVariants as outcome
use Rattle.sl_law_meaning.specs.book.Trees.{BookTree}
use Rattle.sl_law_meaning.specs.returns.Election.{Election, IsElection, parties_of, has_list}
use Rattle.sl_law_meaning.specs.returns.Facts.{by_party, lands}
use Rattle.sl_law_meaning.specs.methods.Field.{no_minima}
use Rattle.sl_law_meaning.specs.meaning.Splits.{IsAllocation}
use Rattle.sl_law_meaning.specs.meaning.Tables.{SeatTable}
use Rattle.sl_law_meaning.specs.meaning.Means.{Means}
use Rattle.sl_law_fairness.specs.Winners.{IsBase, base_seats, winners_on, outside}
use Rattle.sl_law_statutes.specs.Trees.{law_of_1956, law_of_1985, law_of_2008}
use Rattle.sl_law_statutes.specs.Houses.{house_of}
use Rattle.sl_law_statutes.specs.Parties.{party_column, party_seats, base_of_party}

-- the seats by which the winners of a party's lists exceed the base of these
abbrev pub overhang_of : BookTree → Election → List ℕ → ℕ → ℕ
overhang_of b e base party = sum_by (λ land. winners_on b e (land, party) - base_seats e base (land, party)) (filter (λ land. has_list e land party) (lands e))

-- in the base the parties have an allocation, by the method, of the house without the winners outside; in the table each has its overhang
-- beside it, so who has overhang stands above the allocation
pub record StandAbove (method : Method) (m : Majority) (b : BookTree) (e : Election) (t : SeatTable) : Type 0 where
  pub base : List ℕ
  pub is_base : IsBase b e base
  pub allocation : IsAllocation method m (party_column b e) (no_minima (party_column b e)) (house_of b e - outside b e) (by_party e (base_of_party e base))
  pub above : (party : ℕ) → party < parties_of e → party_seats t party ≡ base_of_party e base party + overhang_of b e base party

abbrev pub AlwaysStandAbove : Method → Majority → BookTree → Type 0
AlwaysStandAbove method m b = (e : Election) (t : SeatTable) → IsElection e → Means b e (outcome.Table t) → StandAbove method m b e t

abbrev pub PartiesBefore2013 : Type 0
PartiesBefore2013 =
    (at : ℕ → ℕ) →
    AlwaysStandAbove (by.Divisor Jefferson) majority.Free (law_of_1956 at)
    × AlwaysStandAbove by.Hamilton majority.Prefer (law_of_1985 at)
    × AlwaysStandAbove (by.Divisor Webster) majority.Refuse (law_of_2008 at)

-- How large the house becomes by five statutes, whatever the offsets in their texts. Each law is the contract of a function of `laws`.
use Rattle.std.specs.Prelude.{◌≡◌, ℕ, ◌+◌, ◌-◌, List, max, sum, unwrap_or}
use Rattle.sl_law_meaning.specs.declared.table.Outcome.TheVariants as outcome
use Rattle.sl_law_meaning.specs.book.Trees.{BookTree}
use Rattle.sl_law_meaning.specs.returns.Election.{Election, IsElection}
use Rattle.sl_law_meaning.specs.meaning.Tables.{SeatTable}
use Rattle.sl_law_meaning.specs.meaning.Means.{Means}
use Rattle.sl_law_fairness.specs.Winners.{IsBase, overhang, outside, independents, total_seats}
use Rattle.sl_law_statutes.specs.Trees.{law_of_1956, law_of_1985, law_of_2008, law_of_2023, law_of_2023_order}

-- the seats of the house: those of the returns, else those of the book
abbrev pub house_of : BookTree → Election → ℕ
house_of b e = unwrap_or e.house b.house.value

-- the lists share the house without so many seats
pub record Shares (b : BookTree) (e : Election) (taken : ℕ) (base : List ℕ) : Type 0 where
  pub is_base : IsBase b e base
  pub amount : sum base ≡ house_of b e - taken

-- the lists share the house without the winners outside. The total is what they share, with the overhang and the winners outside; so it is
-- the house with the overhang, as long as no more winners are outside than the house has seats
pub record GrowsByOverhang (b : BookTree) (e : Election) (t : SeatTable) : Type 0 where
  pub base : List ℕ
  pub shares : Shares b e (outside b e) base
  pub total : total_seats t ≡ sum base + overhang b e base + outside b e
  pub house : total_seats t ≡ max (house_of b e) (outside b e) + overhang b e base

-- the lists share the house without the independents. The total is what they share with the independents; so it is the house, as long as
-- there are no more independents than seats
pub record KeepsItsSize (b : BookTree) (e : Election) (t : SeatTable) : Type 0 where
  pub base : List ℕ
  pub shares : Shares b e (independents e) base
  pub total : total_seats t ≡ sum base + independents e
  pub house : total_seats t ≡ max (house_of b e) (independents e)

-- so it is for each table of the book
abbrev pub AlwaysGrowsByOverhang : BookTree → Type 0
AlwaysGrowsByOverhang b = (e : Election) (t : SeatTable) → IsElection e → Means b e (outcome.Table t) → GrowsByOverhang b e t

abbrev pub AlwaysKeepsItsSize : BookTree → Type 0
AlwaysKeepsItsSize b = (e : Election) (t : SeatTable) → IsElection e → Means b e (outcome.Table t) → KeepsItsSize b e t

-- ---- the laws

abbrev pub OverhangOf1956 : Type 0
OverhangOf1956 = (at : ℕ → ℕ) → AlwaysGrowsByOverhang (law_of_1956 at)

abbrev pub OverhangOf1985 : Type 0
OverhangOf1985 = (at : ℕ → ℕ) → AlwaysGrowsByOverhang (law_of_1985 at)

abbrev pub OverhangOf2008 : Type 0
OverhangOf2008 = (at : ℕ → ℕ) → AlwaysGrowsByOverhang (law_of_2008 at)

abbrev pub TotalOf2023 : Type 0
TotalOf2023 = (at : ℕ → ℕ) → AlwaysKeepsItsSize (law_of_2023 at)

abbrev pub TotalOf2023Order : Type 0
TotalOf2023Order = (at : ℕ → ℕ) → AlwaysKeepsItsSize (law_of_2023_order at)

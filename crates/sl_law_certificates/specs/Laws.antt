-- What is shown is meant, and what is meant is shown (docs/certificate.md, section 3). Each law is the contract of a function of `laws`.
use Rattle.std.specs.Prelude.{◌≡◌, ◌↔◌, ℕ, ◌-◌, ◌<◌, Bool, true, List, Some, length, sum, slice_index}
use Rattle.sl_base_quotients.specs.Quotient.{Quotient, AtMost}
use Rattle.sl_base_quotients.specs.declared.method.Divisor.{Divisor}
use Rattle.sl_base_quotients.specs.declared.method.Method.{Method}
use Rattle.sl_law_meaning.specs.declared.book.Majority.{Majority}
use Rattle.sl_law_meaning.specs.declared.count.Records.TheVariants.{Dropped}
use Rattle.sl_law_meaning.specs.declared.fault.Item.{Item}
use Rattle.sl_law_meaning.specs.declared.table.Outcome.{Outcome}
use Rattle.sl_law_meaning.specs.book.Trees.{BookTree}
use Rattle.sl_law_meaning.specs.book.Typing.{is_typed}
use Rattle.sl_law_meaning.specs.returns.Election.{Election, IsElection}
use Rattle.sl_law_meaning.specs.methods.Field.{no_minima}
use Rattle.sl_law_meaning.specs.methods.Allocations.{IsDivisorAllocation}
use Rattle.sl_law_meaning.specs.methods.Hamilton.{IsHamiltonAllocation}
use Rattle.sl_law_meaning.specs.methods.Ties.{Distinct, Choice, IsChoice}
use Rattle.sl_law_meaning.specs.meaning.Splits.{Award, IsSplitAward, IsGrowthAward}
use Rattle.sl_law_meaning.specs.meaning.Counts.{IsMeantTable}
use Rattle.sl_law_meaning.specs.meaning.Means.{SameOutcome, Means}
use Rattle.sl_law_meaning.specs.meaning.Tables.{SeatTable}
use Rattle.sl_law_meaning.specs.laws.Ladders.{Ladders, Has, AreFalling, IsOn, IsTop, hamilton_ladders}
use Rattle.sl_law_meaning.specs.laws.Awards.{free_ladders}
use Rattle.sl_law_margins.specs.Divisors.{as_quotient, Separates}
use Rattle.sl_law_certificates.specs.Cuts.{Told, is_cut, is_clear, shown_choice}
use Rattle.sl_law_certificates.specs.Awards.{shown_split, shown_growth}
use Rattle.sl_law_certificates.specs.Outcomes.{Certificate, shown, shown_table}

-- every seat that was won ranks at the cut or above it, and every claim that waits at the cut or below it
pub record IsCut (l : Ladders) (t : Told) : Type 0 where
  pub on : IsOn l t.seats
  pub positive : 0 < t.cut.num
  pub won : (i : ℕ) → slice_index l.base i < slice_index t.seats i → AtMost t.cut (l.rank i (slice_index t.seats i - 1))
  pub waits : (j : ℕ) → Has l j (slice_index t.seats j) → AtMost (l.rank j (slice_index t.seats j)) t.cut

-- just this is tested
abbrev pub CutIsTested : Type 0
CutIsTested = (l : Ladders) → AreFalling l → (t : Told) → (is_cut l t ≡ true) ↔ IsCut l t

-- seats are a top of the ladders exactly where they have a cut
abbrev pub TopsHaveCuts : Type 0
TopsHaveCuts =
    (l : Ladders) → AreFalling l → (s : List ℕ) →
    IsTop l (sum s) s ↔ ((c : Quotient) × IsCut l (record { seats = s; cut = c }))

-- it does not matter which cut is told
abbrev pub AnyCutServes : Type 0
AnyCutServes =
    (l : Ladders) → AreFalling l → (lot : List ℕ) → Distinct lot → (t u : Told) → t.seats ≡ u.seats → IsCut l t → IsCut l u →
    shown_choice l t lot ≡ shown_choice l u lot

-- without a tie on the cut they are the only top
abbrev pub ClearIsOnly : Type 0
ClearIsOnly =
    (l : Ladders) → AreFalling l → (t : Told) → IsCut l t → is_clear l t ≡ true → (s : List ℕ) → IsTop l (sum t.seats) s ↔ (s ≡ t.seats)

-- so by largest remainders they are the only allocation
abbrev pub HamiltonIsOnly : Type 0
HamiltonIsOnly =
    (prefer : Bool) (v : List ℕ) (seats : ℕ) (t : Told) → sum t.seats ≡ seats →
    IsCut (hamilton_ladders prefer v seats) t → is_clear (hamilton_ladders prefer v seats) t ≡ true →
    (s : List ℕ) → IsHamiltonAllocation prefer v seats s ↔ (s ≡ t.seats)

-- a divisor that separates the claims of an allocation, as the call `divisor` of sl_law_margins answers one, is a cut of it
abbrev pub DivisorIsCut : Type 0
DivisorIsCut =
    (method : Divisor) (v s : List ℕ) (d : Quotient) → 0 < sum v →
    IsDivisorAllocation method v (no_minima v) (sum s) s → Separates method v s d →
    IsCut (free_ladders method v) (record { seats = s; cut = as_quotient method d })

-- ---- scopes: what is shown of one is what it comes to, and something told shows it

-- the choice that a lot makes among the tops
abbrev pub ChoicesAreShown : Type 0
ChoicesAreShown =
    (l : Ladders) → AreFalling l → (seats : ℕ) (lot : List ℕ) → Distinct lot → (c : Choice) →
    IsChoice (IsTop l seats) lot c ↔ ((t : Told) × (sum t.seats ≡ seats) × (shown_choice l t lot ≡ Some c))

-- the award of a split
abbrev pub SplitsAreShown : Type 0
SplitsAreShown =
    (method : Method) (majority : Majority) (items : List Item) (lot v m : List ℕ) (seats : ℕ) (a : Award) →
    Distinct lot → length m ≡ length v →
    IsSplitAward method majority items lot v m seats a ↔ ((t : Told) × (shown_split method majority items lot v m seats t ≡ Some a))

-- the award of a growth
abbrev pub GrowthsAreShown : Type 0
GrowthsAreShown =
    (d : Divisor) (majority : Majority) (items : List Item) (lot v m : List ℕ) (seats cap : ℕ) (a : Award) →
    Distinct lot → length m ≡ length v →
    IsGrowthAward d majority items lot v m seats cap a ↔ ((t : Told) × (shown_growth d majority items lot v m seats cap t ≡ Some a))

-- ---- counts

-- the outcome that a certificate shows is the one that the book means
abbrev pub ShownIsMeant : Type 0
ShownIsMeant = (b : BookTree) (e : Election) (c : Certificate) (o : Outcome) → IsElection e → shown b e c ≡ Some o → Means b e o

-- a table that it shows is the book's, without its steps and weights
abbrev pub AcceptedIsMeant : Type 0
AcceptedIsMeant =
    (b : BookTree) (e : Election) (c : Certificate) (t : SeatTable) → IsElection e → shown_table b e c ≡ Some t → IsMeantTable Dropped b e t

-- each outcome that a book means has a certificate which shows it, up to the order of a table's steps and weights
abbrev pub MeantIsShown : Type 0
MeantIsShown =
    (b : BookTree) (e : Election) (o : Outcome) → is_typed b ≡ true → IsElection e → Means b e o →
    (c : Certificate) × (p : Outcome) × (shown b e c ≡ Some p) × SameOutcome o p

-- so two certificates show the same
abbrev pub ShownIsOne : Type 0
ShownIsOne =
    (b : BookTree) (e : Election) (c k : Certificate) (o p : Outcome) → is_typed b ≡ true → IsElection e →
    shown b e c ≡ Some o → shown b e k ≡ Some p → SameOutcome o p

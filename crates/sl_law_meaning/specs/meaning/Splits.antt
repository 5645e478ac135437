-- What a split and a growth come to in one scope: seats for its entries, or a fault (docs/meaning.md, section 6).
use Rattle.std.specs.Prelude.{◌≡◌, ℕ, ◌*◌, Bool, true, false, ◌&&◌, List, [], Option, Some, None, sum, filter_map, slice_get, MatchOption, nat_lt, nat_le, nat_eq, if◌then◌else◌}
use Rattle.std.specs.List.{zip, list_any}
use Rattle.sl_base_quotients.specs.declared.method.Divisor.{Divisor}
use Rattle.sl_base_quotients.specs.declared.method.Method.{Method}
use Rattle.sl_base_quotients.specs.declared.method.Method.TheVariants as by
use Rattle.sl_law_meaning.specs.declared.book.Majority.{Majority}
use Rattle.sl_law_meaning.specs.declared.book.Majority.TheVariants as majority
use Rattle.sl_law_meaning.specs.declared.fault.Item.{Item}
use Rattle.sl_law_meaning.specs.declared.fault.FaultKind.{FaultKind}
use Rattle.sl_law_meaning.specs.declared.fault.FaultKind.TheVariants as fault
use Rattle.sl_law_meaning.specs.book.Typing.{is_prefer}
use Rattle.sl_law_meaning.specs.methods.Allocations.{IsDivisorAllocation}
use Rattle.sl_law_meaning.specs.methods.Hamilton.{IsHamiltonAllocation}
use Rattle.sl_law_meaning.specs.methods.Ties.{Choice, Decided, Tied, IsChoice}
use Rattle.sl_law_meaning.specs.methods.LeastHouse.{Growth, GrownTo, EmptyField, AboveCap, IsGrowth, IsGrownAllocation}

-- what a scope comes to: a number of seats for each of its entries, or a fault
pub data Award : Type 0 where
  Seats : (seats : List ℕ) → Award
  Refused : (kind : FaultKind) → Award

-- the seats, none after a fault
abbrev pub awarded : Award → List ℕ
awarded (Seats s) = s
awarded (Refused kind) = []

-- the entries with these numbers
abbrev pub entries_at : List Item → List ℕ → List Item
entries_at entries numbers = filter_map (slice_get entries) numbers

-- ---- the majority clause

-- an entry has more than half of the weights and no more than half of the seats
abbrev pub is_deprived : List ℕ → ℕ → List ℕ → Bool
is_deprived v seats s = list_any (λ x. nat_lt (sum v) (2 * x.0) && nat_le (2 * x.1) seats) (zip v s)

abbrev pub is_refuse : Majority → Bool
is_refuse majority.Refuse = true
is_refuse _ = false

-- where there are seats, `majority refuse` refuses to deprive an entry
abbrev pub is_refused : Majority → List ℕ → ℕ → List ℕ → Bool
is_refused m v seats s = is_refuse m && nat_le 1 seats && is_deprived v seats s

-- ---- from a choice to an award: a tie is a fault, and what was chosen stands unless the majority clause refuses it

abbrev pub award_of : List Item → Majority → List ℕ → ℕ → Choice → Award
award_of entries m v seats (Decided s) = if is_refused m v seats s then Refused fault.Majority else Seats s
award_of entries m v seats (Tied k tied) = Refused (fault.Tie k (entries_at entries tied))

-- the award is that of the choice that the lot makes in X
pub record IsChosen (X : List ℕ → Type 0) (lot : List ℕ) (entries : List Item) (m : Majority) (v : List ℕ) (seats : ℕ) (a : Award) : Type 0 where
  pub choice : Choice
  pub chosen : IsChoice X lot choice
  pub is : a ≡ award_of entries m v seats choice

-- ---- a split of seats among entries of weights v, with minima m (0 where none are written)

-- what refuses the seats before any is distributed: the minima need more of them; or the field is empty, and there are more than the
-- minima need
abbrev pub refusal : List ℕ → List ℕ → ℕ → Option FaultKind
refusal v m seats =
    if nat_lt seats (sum m) then Some fault.Short
    else if nat_eq (sum v) 0 && nat_lt (sum m) seats then Some fault.NoList
    else None

-- the allocations of a method
abbrev pub IsAllocation : Method → Majority → List ℕ → List ℕ → ℕ → List ℕ → Type 0
IsAllocation (by.Divisor d) majority v m seats s = IsDivisorAllocation d v m seats s
IsAllocation by.Hamilton majority v m seats s = IsHamiltonAllocation (is_prefer majority) v seats s

-- the split yields that award: the refusal, if there is one, and else what is chosen among the allocations
abbrev pub IsSplitAward : Method → Majority → List Item → List ℕ → List ℕ → List ℕ → ℕ → Award → Type 0
IsSplitAward method majority entries lot v m seats a =
    MatchOption (refusal v m seats)
    (IsChosen (IsAllocation method majority v m seats) lot entries majority v seats a)
    (λ kind. a ≡ Refused kind)

-- ---- a growth from so many seats up to a cap

-- what follows from the least house: a fault if there is none, and else what is chosen among the house's allocations
abbrev pub IsHouseAward : Divisor → Majority → List Item → List ℕ → List ℕ → List ℕ → Growth → Award → Type 0
IsHouseAward d majority entries lot v m EmptyField a = a ≡ Refused fault.NoList
IsHouseAward d majority entries lot v m AboveCap a = a ≡ Refused fault.Cap
IsHouseAward d majority entries lot v m (GrownTo house) a = IsChosen (IsGrownAllocation d v m house) lot entries majority v house a

pub record IsGrowthAward (d : Divisor) (majority : Majority) (entries : List Item) (lot v m : List ℕ) (seats cap : ℕ) (a : Award) : Type 0 where
  pub growth : Growth
  pub least : IsGrowth d v m seats cap growth
  pub comes : IsHouseAward d majority entries lot v m growth a

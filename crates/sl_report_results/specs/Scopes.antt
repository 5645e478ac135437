-- The scopes of a stage, as a report shows them: their entries, and the divisor or the quota with what follows from it.
use Rattle.std.specs.Prelude.{◌≡◌, ◌⊎◌, ℕ, ◌*◌, ◌^◌, ◌<◌, ◌≤◌, Bool, true, false, not, ◌&&◌, ◌||◌, List, [], Option, Some, None, is_some, length, map, filter, All, sum, sum_by, nat_lt, option_map, unwrap_or, slice_index, slice_index_or}
use Rattle.std.specs.List.{AllZip, zip}
use Rattle.sl_law_margins.specs.Divisors.{IsShortDivisor}
use Rattle.sl_law_margins.specs.MissingVotes.{AreMissing, IsAllocation}
use Rattle.sl_law_margins.specs.declared.decimal.Decimal.{Decimal}
use Rattle.sl_base_quotients.specs.Bounds.{IsLast, IsNext}
use Rattle.sl_base_quotients.specs.declared.limits.TheConstants.{MAX_SEATS, MAX_WEIGHT}
use Rattle.sl_base_quotients.specs.declared.method.Divisor.{Divisor}
use Rattle.sl_base_quotients.specs.declared.method.Method.TheVariants as by
use Rattle.sl_base_quotients.specs.declared.method.Method.{Method}
use Rattle.sl_base_quotients.specs.Quotient.{Quotient}
use Rattle.sl_report_results.specs.Lots.{AreLots, lot_place}
use Rattle.sl_report_results.specs.Places.{seats_of}
use Rattle.sl_report_parties.specs.Sums.{capped}
use Rattle.sl_report_results.specs.declared.columns.Distribution.{Distribution}
use Rattle.sl_report_results.specs.declared.fraction.Fraction.{Fraction}
use Rattle.sl_report_results.specs.declared.scopes.Entry.{Entry}
use Rattle.sl_report_results.specs.declared.scopes.Scoped.{Scoped}
use Rattle.sl_law_meaning.specs.declared.fault.Item.{Item}
use Rattle.sl_law_meaning.specs.declared.fault.Scope.{Scope}
use Rattle.sl_law_meaning.specs.declared.table.SeatStep.{SeatStep}
use Rattle.sl_law_meaning.specs.meaning.Lots.{stage_lot}
use Rattle.sl_law_meaning.specs.meaning.Scopes.{Group, place, scopes}
use Rattle.sl_law_meaning.specs.methods.Ties.{Lists}
use Rattle.sl_law_meaning.specs.returns.Election.{Election}

-- ---- entries

-- an entry by what is distributed, by the steps that won the seats of its stage, and by a lot among the items of its scope; without a quotient, votes
-- missing and a mark
abbrev pub entry_of : Election → ℕ → Distribution → List SeatStep → (lot : List ℕ) → (items : List Item) → Item → Entry
entry_of e stage d steps lot items i = record {
  item = i;
  weight = slice_index d.votes.cells.items (place e i);
  seats = seats_of stage steps i;
  minimum = unwrap_or (option_map (λ m. slice_index m.cells.items (place e i)) d.minima) 0;
  quotient = None;
  missing = None;
  lot = None;
  place = lot_place lot items i;
}

-- an entry has a weight, seats or a minimum
abbrev pub is_shown : Entry → Bool
is_shown x = nat_lt 0 x.weight || (nat_lt 0 x.seats || nat_lt 0 x.minimum)

abbrev pub shown_entries : Election → ℕ → Distribution → List SeatStep → (lot : List ℕ) → List Item → List Entry
shown_entries e stage d steps lot items = filter is_shown (map (entry_of e stage d steps lot items) items)

-- those of a stage of that name, by the lot that the returns give for it among the items of the scope
abbrev pub scope_entries : Election → List ℕ → ℕ → Distribution → List SeatStep → List Item → List Entry
scope_entries e name stage d steps items = shown_entries e stage d steps (stage_lot e name d.votes.shape items) items

-- ---- what follows from a divisor

abbrev pub weights_of : List Entry → List ℕ
weights_of xs = map (λ x. x.weight) xs

abbrev pub held_of : List Entry → List ℕ
held_of xs = map (λ x. x.seats) xs

abbrev pub IsFew : Entry → Type 0
IsFew x = (x.weight ≤ MAX_WEIGHT) × (x.seats ≤ MAX_SEATS)

-- all numbers are within the limits, somebody has votes, and the seats are an allocation without minima
pub record IsAllocated (method : Divisor) (xs : List Entry) : Type 0 where
  pub few : All IsFew xs
  pub field : 0 < sum (weights_of xs)
  pub allocation : IsAllocation method (weights_of xs) (held_of xs)

abbrev pub quotient_of : ℕ → Decimal → Fraction
quotient_of weight divisor = record { num = weight * 10 ^ divisor.places; den = divisor.digits }

abbrev pub quotient_by : ℕ → Quotient → Fraction
quotient_by weight claim = record { num = weight * claim.den; den = claim.num }

-- the quotient by the divisor, or else by that on the border of equal claims
abbrev pub margin_quotient : ℕ → Option Decimal → Option Quotient → Option Fraction
margin_quotient weight (Some divisor) border = Some (quotient_of weight divisor)
margin_quotient weight None border = option_map (quotient_by weight) border

-- an entry with its quotient, with the votes that it lacks, and with what a lot did for it
abbrev pub with_margins : Option Decimal → Option Quotient → Entry → Option ℕ → Option Bool → Entry
with_margins divisor border x missing lot = record {
  item = x.item;
  weight = x.weight;
  seats = x.seats;
  minimum = x.minimum;
  quotient = margin_quotient x.weight divisor border;
  missing = missing;
  lot = lot;
  place = x.place;
}

-- the votes that each entry lacks, and nothing where there are minima
abbrev pub AreLacking : Bool → Divisor → List ℕ → List ℕ → List (Option ℕ) → Type 0
AreLacking true method v s lacking = (k : ℕ) → slice_index_or lacking k None ≡ None
AreLacking false method v s lacking = (k : ℕ) → k < length v → AreMissing method v s k (slice_index_or lacking k None)

-- a divisor, who won the last seat, who has the next claim, and the votes missing
pub record AreMargins (method : Divisor) (minima : Bool) (v s : List ℕ) (divisor : Option Decimal) (last next : List ℕ) (lacking : List (Option ℕ)) : Type 0 where
  pub divides : IsShortDivisor method v s divisor
  pub won : Lists (IsLast method v s) last
  pub claims : Lists (IsNext method v s) next
  pub long : length lacking ≡ length v
  pub missing : AreLacking minima method v s lacking

-- the margins, and what is told of a lot: a split with minima may have given seats, and a growth has given none to an entry with votes
pub record HasMargins (method : Divisor) (minima : Bool) (xs : List Entry) (s : Scoped) : Type 0 where
  pub allocated : IsAllocated method xs
  pub quota : s.quota ≡ None
  pub lacking : List (Option ℕ)
  pub marks : List (Option Bool)
  pub margins : AreMargins method minima (weights_of xs) (held_of xs) s.divisor s.last.items s.next.items lacking
  pub lots : AreLots (minima && not s.grows) method (weights_of xs) (held_of xs) s.last.items s.next.items s.drawn s.border marks
  pub entries : s.entries.items ≡ map (λ x. with_margins s.divisor s.border x.0 x.1.0 x.1.1) (zip xs (zip lacking marks))

-- nothing follows from a divisor or a quota, and of a lot nothing is known
pub record HasNone (xs : List Entry) (s : Scoped) : Type 0 where
  pub quota : s.quota ≡ None
  pub divisor : s.divisor ≡ None
  pub border : s.border ≡ None
  pub last : s.last.items ≡ []
  pub next : s.next.items ≡ []
  pub drawn : s.drawn ≡ None
  pub entries : s.entries.items ≡ xs

-- ---- what follows from a quota

-- the weight for each seat; an entry's quotient by it is its share of the seats
abbrev pub quota_entry : (seats weight : ℕ) → Entry → Entry
quota_entry seats weight x = record {
  item = x.item;
  weight = x.weight;
  seats = x.seats;
  minimum = x.minimum;
  quotient = Some (record { num = x.weight * seats; den = weight });
  missing = x.missing;
  lot = x.lot;
  place = x.place;
}

pub record HasQuota (xs : List Entry) (s : Scoped) : Type 0 where
  pub seats : 0 < s.seats
  pub weight : 0 < s.weight
  pub divisor : s.divisor ≡ None
  pub border : s.border ≡ None
  pub quota : s.quota ≡ Some (record { num = s.weight; den = s.seats })
  pub last : s.last.items ≡ []
  pub next : s.next.items ≡ []
  pub drawn : s.drawn ≡ None
  pub entries : s.entries.items ≡ map (quota_entry s.seats s.weight) xs

-- of a divisor method: the margins exactly where the seats are allocated so; of largest remainders: the quota exactly where there are seats and votes
abbrev pub Follows : Method → Bool → List Entry → Scoped → Type 0
Follows (by.Divisor method) minima xs s = HasMargins method minima xs s ⊎ ((¬ IsAllocated method xs) × HasNone xs s)
Follows by.Hamilton minima xs s = HasQuota xs s ⊎ (((s.seats ≡ 0) ⊎ (s.weight ≡ 0)) × HasNone xs s)

-- ---- scopes

-- what is the same of a scope by every method: where it stands, what it distributes, and the sums of its entries
pub record IsHead (number : ℕ) (d : Distribution) (in_scope : Scope) (xs : List Entry) (s : Scoped) : Type 0 where
  pub stage : s.stage ≡ number
  pub scope : s.scope ≡ in_scope
  pub method : s.method ≡ d.method
  pub grows : s.grows ≡ d.grows
  pub minima : s.has_minima ≡ is_some d.minima
  pub seats : s.seats ≡ capped (sum_by (λ x. x.seats) xs)
  pub weight : s.weight ≡ capped (sum_by (λ x. x.weight) xs)

-- a scope of these entries of a stage that distributes d
pub record IsScoped (number : ℕ) (d : Distribution) (in_scope : Scope) (xs : List Entry) (s : Scoped) : Type 0 where
  pub head : IsHead number d in_scope xs s
  pub follows : Follows d.method (is_some d.minima) xs s

module _ (e : Election) (name : List ℕ) (stage : ℕ) (d : Distribution) (steps : List SeatStep) where
  -- a scope with an entry
  abbrev pub has_entry : List Item → Bool
  has_entry items = nat_lt 0 (length (scope_entries e name stage d steps items))

  abbrev pub IsScopeOf : Group → Scoped → Type 0
  IsScopeOf g s = IsScoped stage d g.scope (scope_entries e name stage d steps g.entries) s

  -- the scopes in which a stage distributes its seats, in order, those without an entry left out
  abbrev pub AreScopes : List Scoped → Type 0
  AreScopes found = AllZip IsScopeOf (filter (λ g. has_entry g.entries) (scopes e d.seats.shape d.votes.shape)) found

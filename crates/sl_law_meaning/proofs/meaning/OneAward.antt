-- A split and a growth yield exactly one award in each scope.
use Rattle.std.proofs.Common.{◌≡◌, ℕ, ◌≤◌, ◌&&◌, Bool, true, false, not, List, [], ◌∷◌, Some, None, length, sum, nat_lt, nat_eq, arith, refl, ap, subst, ◌∙◌, inl, inr}
use Rattle.std.specs.Prelude.{if◌then◌else◌}
use Rattle.std.proofs.lemmas.Bool.{ltb-false, and_cases, eq-eqb, eqb-false, both_ways, not-true}
use Rattle.sl_base_quotients.specs.declared.method.Divisor.{Divisor}
use Rattle.sl_base_quotients.specs.declared.method.Method.{Method}
use Rattle.sl_base_quotients.specs.declared.method.Method.TheVariants as by
use Rattle.sl_law_meaning.specs.declared.book.Majority.{Majority}
use Rattle.sl_law_meaning.specs.declared.fault.Item.{Item}
use Rattle.sl_law_meaning.specs.declared.fault.FaultKind.TheVariants as fault
use Rattle.sl_law_meaning.specs.book.Typing.{is_prefer}
use Rattle.sl_law_meaning.specs.methods.Field.{IsEmptyField}
use Rattle.sl_law_meaning.specs.methods.Ties.{Distinct, IsWellDefined}
use Rattle.sl_law_meaning.specs.methods.LeastHouse.{Growth, GrownTo, EmptyField, AboveCap, IsGrowth, IsGrownAllocation, outside_minima}
use Rattle.sl_law_meaning.specs.meaning.Lots.{first_mentions}
use Rattle.sl_law_meaning.specs.meaning.Splits.{Refused, refusal, award_of, IsChosen, IsAllocation, IsSplitAward, IsHouseAward, IsGrowthAward}
use Rattle.sl_law_meaning.specs.laws.OneLaws.{ExactlyOne}
use Rattle.sl_law_meaning.proofs.methods.ListedEntries.{filter_only, filter_distinct}
use Rattle.sl_law_meaning.proofs.methods.DivisorProofs.{empty_fields, divisor_allocations}
use Rattle.sl_law_meaning.proofs.methods.HamiltonProofs.{hamilton_allocations}
use Rattle.sl_law_meaning.proofs.methods.HouseProofs.{growths, growing}
use Rattle.sl_law_meaning.proofs.meaning.ExactlyOne.{one_equal, one_matched}

-- ---- lots

pub mentions_distinct : (ns : List ℕ) → Distinct (first_mentions ns)
mentions_distinct [] = tt
mentions_distinct (n ∷ ns) = (
  λ c. let kept = (filter_only (λ m. not (nat_eq n m)) (first_mentions ns) n c).1 in both_ways (nat_eq n n) (not-true (nat_eq n n) kept) (eq-eqb n n refl),
  filter_distinct (λ m. not (nat_eq n m)) (first_mentions ns) (mentions_distinct ns),
)

-- ---- choices

one_choice : (X : List ℕ → Type 0) (lot : List ℕ) (entries : List Item) (m : Majority) (v : List ℕ) (seats : ℕ) → IsWellDefined X → Distinct lot → ExactlyOne (IsChosen X lot entries m v seats)
one_choice X lot entries m v seats defined d =
    let chosen = defined.one_choice lot d in
    record {
      one = award_of entries m v seats chosen.0;
      is = record { choice = chosen.0; chosen = chosen.1; is = refl };
      only = λ a h. h.is ∙ ap (award_of entries m v seats) (chosen.2 h.choice h.chosen);
    }

-- ---- splits

-- where nothing refuses the seats, the minima leave room, and an empty field gets no more than they need
pub record HasNone (v m : List ℕ) (seats : ℕ) : Type 0 where
  pub room : sum m ≤ seats
  pub empty : IsEmptyField v → sum m ≡ seats

both_false : {K : Type 0} (a b : Bool) (x y : K) → (if a then Some x else if b then Some y else None) ≡ None → (a ≡ false) × (b ≡ false)
both_false true b x y h = cc
both_false false true x y h = cc
both_false false false x y h = (refl, refl)

pub none_refused : (v m : List ℕ) (seats : ℕ) → refusal v m seats ≡ None → HasNone v m seats
none_refused v m seats none =
    let tests = both_false (nat_lt seats (sum m)) (nat_eq (sum v) 0 && nat_lt (sum m) seats) fault.Short fault.NoList none in
    let room : sum m ≤ seats = ltb-false seats (sum m) tests.0 in
    record {
      room = room;
      empty = λ empty. elim (and_cases (nat_eq (sum v) 0) (nat_lt (sum m) seats) tests.1) [
        | inl some ↦ absurd (eqb-false (sum v) 0 some ((empty_fields v).0 empty))
        | inr full ↦ (let le = ltb-false (sum m) seats full in omega (arith, le))
      ];
    }

-- a method with these minima: Hamilton's takes none
abbrev pub TakesMinima : Method → List ℕ → Type 0
TakesMinima (by.Divisor d) m = Unit {0}
TakesMinima by.Hamilton m = sum m ≡ 0

well_defined : (method : Method) (majority : Majority) (v m : List ℕ) (seats : ℕ) → length m ≡ length v → TakesMinima method m → HasNone v m seats → IsWellDefined (IsAllocation method majority v m seats)
well_defined (by.Divisor d) majority v m seats long takes none = (divisor_allocations d v m seats long).1 (none.room, none.empty)
well_defined by.Hamilton majority v m seats long takes none = (hamilton_allocations (is_prefer majority) v seats).1 (λ empty. let all = none.empty empty in omega (arith, all, takes))

pub one_split : (method : Method) (majority : Majority) (entries : List Item) (lot v m : List ℕ) (seats : ℕ) → Distinct lot → length m ≡ length v → TakesMinima method m →
    ExactlyOne (IsSplitAward method majority entries lot v m seats)
one_split method majority entries lot v m seats d long takes =
    one_matched (refusal v m seats) (IsChosen (IsAllocation method majority v m seats) lot entries majority v seats) (λ kind a. a ≡ Refused kind)
    (λ none. one_choice (IsAllocation method majority v m seats) lot entries majority v seats (well_defined method majority v m seats long takes (none_refused v m seats none)) d)
    (λ kind. one_equal (Refused kind))

-- ---- growths

house_award : (d : Divisor) (majority : Majority) (entries : List Item) (lot v m : List ℕ) (seats cap : ℕ) → Distinct lot → length m ≡ length v →
    (g : Growth) → IsGrowth d v m seats cap g → ExactlyOne (IsHouseAward d majority entries lot v m g)
house_award d majority entries lot v m seats cap distinct long EmptyField least = one_equal (Refused fault.NoList)
house_award d majority entries lot v m seats cap distinct long AboveCap least = one_equal (Refused fault.Cap)
house_award d majority entries lot v m seats cap distinct long (GrownTo house) least =
    one_choice (IsGrownAllocation d v m house) lot entries majority v house
    ((divisor_allocations d v (outside_minima v m) house (growing d v m long).one_each).1 (least.1.outside, λ empty. absurd (least.0 empty))) distinct

pub one_growth : (d : Divisor) (majority : Majority) (entries : List Item) (lot v m : List ℕ) (seats cap : ℕ) → Distinct lot → length m ≡ length v →
    ExactlyOne (IsGrowthAward d majority entries lot v m seats cap)
one_growth d majority entries lot v m seats cap distinct long =
    let grown = growths d v m seats cap in
    let end = house_award d majority entries lot v m seats cap distinct long grown.0 grown.1 in
    record {
      one = end.one;
      is = record { growth = grown.0; least = grown.1; comes = end.is };
      only = λ a h. end.only a (subst (λ g. IsHouseAward d majority entries lot v m g a) (grown.2 h.growth h.least) h.comes);
    }

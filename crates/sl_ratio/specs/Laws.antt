-- The laws of the definitions, each of them the contract of a function of `laws`.
use Rattle.std.specs.Prelude.{◌≡◌, ℕ, ◌^◌, ◌<◌, List, nat_eq, if◌then◌else◌}
use Rattle.std.specs.declared.cmp.Ordering.TheVariants.{Equal, Greater}
use Rattle.std.specs.Ordering.{nat_cmp, ordering_then}
use Rattle.sl_base_quotients.specs.declared.entry.Entry.{Entry}
use Rattle.sl_base_quotients.specs.declared.limits.TheConstants.{MAX_NUMBER, MAX_SEATS, MAX_WEIGHT}
use Rattle.sl_base_quotients.specs.declared.method.Divisor.{Divisor}
use Rattle.sl_base_quotients.specs.declared.spelling.TheConstants.{MAX_NAME_BYTES}
use Rattle.sl_base_quotients.specs.declared.ratio.TheConstants.{MAX_NUMERATOR, MAX_DENOMINATOR}
use Rattle.sl_base_quotients.specs.Bounds.{Rounds}
use Rattle.sl_base_quotients.specs.Entry.{entry_cmp}
use Rattle.sl_base_quotients.specs.Quotient.{Quotient, FitsRatio, AtMost, compare, quotient}
use Rattle.sl_base_quotients.specs.Signpost.{IsSignpost}

-- each of the five methods is a divisor method
abbrev pub FiveMethods : Type 0
FiveMethods = (method : Divisor) → IsSignpost (quotient method)

-- an infinite quotient is equal to another one, and greater than any other
abbrev pub InfiniteQuotients : Type 0
InfiniteQuotients = (x y : Quotient) → FitsRatio x → x.den ≡ 0 → FitsRatio y → compare x y ≡ (if nat_eq y.den 0 then Equal else Greater)

-- the comparison of quotients is transitive, the infinite ones included
abbrev pub QuotientsChain : Type 0
QuotientsChain = (x y z : Quotient) → FitsRatio y → AtMost x y → AtMost y z → AtMost x z

-- entries are ordered by quotient, then the smaller index as the greater, then by numerator and denominator
abbrev pub EntryOrder : Type 0
EntryOrder =
    (x y : Entry) → FitsRatio x.ratio → FitsRatio y.ratio →
    entry_cmp x y ≡ ordering_then (compare x.ratio y.ratio) (
    ordering_then (nat_cmp y.index x.index) (
    ordering_then (nat_cmp x.ratio.num y.ratio.num) (
    nat_cmp x.ratio.den y.ratio.den)))

-- every divisor strictly between the bounds rounds each weight to its seats
abbrev pub EveryDivisorBetween : Type 0
EveryDivisorBetween = (v s : List ℕ) (d : Quotient) → 0 < d.num → Rounds v s d

-- the limits as numbers
pub record AreLimits : Type 0 where
  pub seats : MAX_SEATS ≡ 4000
  pub weight : MAX_WEIGHT ≡ 1638400000000
  pub number : MAX_NUMBER ≡ 999999999
  pub name_bytes : MAX_NAME_BYTES ≡ 12
  pub numerator : MAX_NUMERATOR ≡ 10 ^ 25
  pub denominator : MAX_DENOMINATOR ≡ 10 ^ 12

abbrev pub Limits : Type 0
Limits = AreLimits

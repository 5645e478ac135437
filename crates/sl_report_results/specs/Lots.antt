-- What is told of a lot in an allocation without minima, and of the lot that the returns give for a stage (docs/report.md). A scope is given by the
-- weights v and the seats s of its entries, in entry order.
use Rattle.std.specs.Prelude.{◌≡◌, ◌≢◌, ◌↔◌, ℕ, ◌<◌, Bool, true, false, IsTrue, List, Option, Some, None, Contains, MatchOption, length, nat_eq, option_and_then, option_map, position, slice_index, slice_index_or, unwrap_or, ◌+◌}
use Rattle.sl_base_quotients.specs.Bounds.{HasWeight, IsLast, IsNext, last_quotient, next_quotient}
use Rattle.sl_base_quotients.specs.Quotient.{AtMost, Quotient, SameQuotient}
use Rattle.sl_base_quotients.specs.declared.method.Divisor.TheVariants.{Hill}
use Rattle.sl_base_quotients.specs.declared.method.Divisor.{Divisor}
use Rattle.sl_law_meaning.specs.declared.fault.Item.{Item}
use Rattle.sl_law_meaning.specs.meaning.Scopes.{same_item}

-- a lot decided: the last seat was won by a quotient that a next claim equals
pub record IsDrawn (method : Divisor) (v s : List ℕ) : Type 0 where
  pub last : ℕ
  pub next : ℕ
  pub won : IsLast method v s last
  pub claims : IsNext method v s next
  pub equal : SameQuotient (last_quotient method v s last) (next_quotient method v s next)

-- a divisor on the border of equal claims: no next claim is above it, and none of a last seat below. It rounds each weight to the seats of its
-- entry, where the equal claims may be rounded either way
pub record IsOnBorder (method : Divisor) (v s : List ℕ) (d : Quotient) : Type 0 where
  pub drawn : IsDrawn method v s
  pub plain : method ≢ Hill
  pub finite : 0 < d.den
  pub positive : 0 < d.num
  pub above_next : (i : ℕ) → HasWeight v i → AtMost (next_quotient method v s i) d
  pub below_last : (i : ℕ) → HasWeight v i → 0 < slice_index s i → AtMost d (last_quotient method v s i)

-- such a divisor, or nothing where there is none: where no claims are equal, where they are infinite, and by Hill, whose quotients are squares
abbrev pub IsBorder : Divisor → List ℕ → List ℕ → Option Quotient → Type 0
IsBorder method v s border = MatchOption border ((d : Quotient) → ¬ IsOnBorder method v s d) (IsOnBorder method v s)

-- whether a lot decided; nothing where seats may have been given as minima, and so without a claim
abbrev pub TellsLot : Bool → Divisor → List ℕ → List ℕ → Option Bool → Type 0
TellsLot true method v s drawn = drawn ≡ None
TellsLot false method v s drawn = MatchOption drawn ⊥ (λ b. IsTrue b ↔ IsDrawn method v s)

-- what the lot did for entry k, where one decided: it gave a last seat, or not; nothing for an entry of other claims
abbrev pub IsMark : Bool → (last next : List ℕ) → ℕ → Option Bool → Type 0
IsMark true last next k (Some true) = Contains last k
IsMark true last next k (Some false) = Contains next k × ¬ Contains last k
IsMark true last next k None = ¬ Contains last k × ¬ Contains next k
IsMark false last next k mark = mark ≡ None

-- of a scope with these entries that won the last seat, and these that have the next claim
pub record AreLots (given : Bool) (method : Divisor) (v s last next : List ℕ) (drawn : Option Bool) (border : Option Quotient) (marks : List (Option Bool)) : Type 0 where
  pub tells : TellsLot given method v s drawn
  pub on_border : IsBorder method v s border
  pub long : length marks ≡ length v
  pub marked : (k : ℕ) → k < length v → IsMark (unwrap_or drawn false) last next k (slice_index_or marks k None)

-- the place of an item in the lot of a stage among the items of a scope, from 1, where the lot names it. The lot is of their numbers
abbrev pub lot_place : (lot : List ℕ) → (items : List Item) → Item → Option ℕ
lot_place lot items i = option_and_then (λ n. option_map (λ k. k + 1) (position (nat_eq n) lot)) (position (same_item i) items)

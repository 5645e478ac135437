-- What the plans of sums and of the majority clause achieve (docs/blocks.md, section 3).
use Rattle.std.specs.Prelude.{◌≡◌, ℕ, true, false, List, Some, None, min, sum}
use Rattle.sl_law_meaning.specs.declared.book.Majority.{Majority}
use Rattle.sl_law_meaning.specs.declared.fault.FaultKind.{FaultKind}
use Rattle.sl_law_meaning.specs.declared.fault.FaultKind.TheVariants as fault
use Rattle.sl_law_meaning.specs.declared.table.Weight.{Weight}
use Rattle.sl_law_meaning.specs.returns.Election.{Election}
use Rattle.sl_law_meaning.specs.meaning.Scopes.{Group}
use Rattle.sl_law_meaning.specs.meaning.Splits.{refusal, is_refused}
use Rattle.sl_law_meaning.specs.meaning.Results.{fault_at}
use Rattle.sl_code_semantics.specs.State.{State, End, Faulted}
use Rattle.sl_code_semantics.specs.Effects.{most}
use Rattle.sl_compile_pieces.specs.scopes.Forms.{OnScope}
use Rattle.sl_compile_pieces.specs.arenas.Arenas.{Arena}
use Rattle.sl_compile_pieces.specs.declared.registers.TheConstants as reg
use Rattle.sl_compile_pieces.specs.seats.Slots.{Slots, IsUnchanged}
use Rattle.sl_compile_pieces.specs.inner.seats.Seated.{IsSeated}

-- ---- sums

-- the sums are in their registers, or the most that a register holds, and all else is as it was
pub record AreSummed (g : Group) (v m : List ℕ) (before after : State) : Type 0 where
  pub on : OnScope g.scope after
  pub amount : after.registers reg.AMOUNT ≡ before.registers reg.AMOUNT
  pub total : after.registers reg.TOTAL ≡ min (sum v) most
  pub needed : after.registers reg.NEEDED ≡ min (sum m) most
  pub unchanged : IsUnchanged before after

-- ---- what refuses the seats before any is distributed

-- the state is the same, and nothing refuses the seats
pub record GoesOn (g : Group) (v m : List ℕ) (seats : ℕ) (before after : State) : Type 0 where
  pub same : before ≡ after
  pub no_refusal : refusal v m seats ≡ None

-- it ends with what refuses them
pub record EndsRefused (x : Slots) (g : Group) (v m : List ℕ) (seats : ℕ) (end : End) : Type 0 where
  pub kind : FaultKind
  pub refused : refusal v m seats ≡ Some kind
  pub is : end ≡ Faulted (fault_at x.stage g.scope kind)

-- ---- the majority clause

-- the seats stand, and the clause doesn't refuse them
pub record StandsBy (e : Election) (x : Slots) (g : Group) (a : Arena) (v : List ℕ) (seats : ℕ) (told : List Weight) (majority : Majority) (before : State)
    (s : List ℕ) (after : State) : Type 0 where
  pub seated : IsSeated e x g a v seats told before s after
  pub allowed : is_refused majority v seats s ≡ false

pub record EndsDeprived (x : Slots) (g : Group) (v : List ℕ) (seats : ℕ) (majority : Majority) (s : List ℕ) (end : End) : Type 0 where
  pub refused : is_refused majority v seats s ≡ true
  pub is : end ≡ Faulted (fault_at x.stage g.scope fault.Majority)

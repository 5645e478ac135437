-- What the plan achieves that is run for each seat awarded: the entry's cell, its record, and its next seat in the table
-- (docs/blocks.md, section 3).
use Rattle.std.specs.Prelude.{◌≡◌, ℕ, List}
use Rattle.sl_base_quotients.specs.declared.limits.TheConstants.{MAX_SEATS}
use Rattle.sl_base_quotients.specs.declared.method.Method.{Method}
use Rattle.sl_law_meaning.specs.declared.fault.FaultKind.TheVariants as fault
use Rattle.sl_law_meaning.specs.declared.table.Weight.{Weight}
use Rattle.sl_law_meaning.specs.returns.Election.{Election}
use Rattle.sl_law_meaning.specs.methods.Ties.{Tied, IsChoice}
use Rattle.sl_law_meaning.specs.meaning.Scopes.{Group}
use Rattle.sl_law_meaning.specs.meaning.Splits.{entries_at}
use Rattle.sl_law_meaning.specs.meaning.Results.{fault_at}
use Rattle.sl_law_meaning.specs.laws.Ladders.{IsTop}
use Rattle.sl_code_instructions.specs.Codes.{CountingCode}
use Rattle.sl_code_semantics.specs.State.{State, End, Faulted}
use Rattle.sl_compile_pieces.specs.arenas.Arenas.{Arena}
use Rattle.sl_compile_pieces.specs.inner.awards.Batches.{GivesSeats}
use Rattle.sl_compile_pieces.specs.inner.awards.Awards.{IsCounted, EndsTied, FitsAwards}
use Rattle.sl_compile_pieces.specs.seats.Slots.{Slots}
use Rattle.sl_compile_pieces.specs.seats.Trees.{again_of, seat, tied}
use Rattle.sl_compile_pieces.specs.inner.seats.Seated.{IsSeated}
use Rattle.sl_compile_pieces.specs.scopes.Forms.{Form}

-- it ends with a tie between these entries, as the lot leaves it
pub record EndsInTie (x : Slots) (g : Group) (a : Arena) (seats : ℕ) (meant : List ℕ) (end : End) : Type 0 where
  pub number : ℕ
  pub among : List ℕ
  pub choice : IsChoice (IsTop a.ladders seats) meant (Tied number among)
  pub is : end ≡ Faulted (fault_at x.stage g.scope (fault.Tie number (entries_at g.entries among)))

-- the plans of a seat and of a tie do what awards ask, in an arena of the scope
pub record AwardsSeats (c : CountingCode) (e : Election) (f : Form) (x : Slots) (g : Group) (a : Arena) (v : List ℕ) (seats : ℕ) (told : List Weight)
    (meant : List ℕ) (before : State) (method : Method) : Type 0 where
  pub gives : GivesSeats c e a MAX_SEATS (IsCounted a seats) (IsSeated e x g a v seats told before) (seat f x (again_of x method))
  pub fits : FitsAwards (IsSeated e x g a v seats told before) (seat f x (again_of x method))
  pub ends : EndsTied c e a seats meant (IsSeated e x g a v seats told before) (EndsInTie x g a seats meant) (tied f x)

-- The plans of a seat and of a tie do what awards ask, in a split and in a growth.
use Rattle.std.proofs.Common.{◌≡◌, ℕ, Bool, List, length, map, refl}
use Rattle.sl_base_quotients.specs.declared.limits.TheConstants.{MAX_SEATS}
use Rattle.sl_base_quotients.specs.declared.method.Divisor.{Divisor}
use Rattle.sl_base_quotients.specs.declared.method.Method.TheVariants as by
use Rattle.sl_law_meaning.specs.returns.Election.{Election}
use Rattle.sl_law_meaning.specs.book.Typing.{is_prefer}
use Rattle.sl_law_meaning.specs.methods.LeastHouse.{outside_minima}
use Rattle.sl_law_meaning.specs.meaning.Scopes.{Group, place}
use Rattle.sl_code_instructions.specs.Codes.{CountingCode}
use Rattle.sl_code_semantics.specs.State.{State}
use Rattle.sl_compile_pieces.specs.scopes.Forms.{Form, table_of}
use Rattle.sl_compile_pieces.specs.scopes.Scopes.{IsScope}
use Rattle.sl_compile_pieces.proofs.scopes.Scopes.{scopes_hold}
use Rattle.sl_compile_pieces.specs.arenas.Arenas.{AreWeighed, divisor_arena, hamilton_arena}
use Rattle.sl_compile_pieces.specs.arenas.Laws.{DivisorArena}
use Rattle.sl_compile_pieces.proofs.arenas.MethodArenas.{divisor_arenas, hamilton_arenas}
use Rattle.sl_compile_pieces.specs.seats.Slots.{Slots}
use Rattle.sl_compile_pieces.specs.seats.Trees.{nothing, enter_again}
use Rattle.sl_compile_pieces.specs.inner.seats.Filling.{IsReady, grown_arena, split_arena}
use Rattle.sl_compile_pieces.specs.inner.seats.Seating.{AwardsSeats}
use Rattle.sl_compile_pieces.proofs.seats.SeatingArenas.{OfScope, scope_weighed}
use Rattle.sl_compile_pieces.proofs.seats.Minima.{minima_long}
use Rattle.sl_compile_pieces.proofs.seats.Seat.{seats_are_given, seats_fit}
use Rattle.sl_compile_pieces.proofs.seats.Again.{quotients_again, remainders_again}
use Rattle.sl_compile_pieces.proofs.seats.Tying.{ties_end}
use Rattle.sl_law_meaning.specs.declared.book.Majority.{Majority}
use Rattle.sl_base_quotients.specs.declared.method.Method.{Method}
use Rattle.sl_law_meaning.specs.declared.table.Weight.{Weight}

module _ (c : CountingCode) (e : Election) (f : Form) (x : Slots) (name : List ℕ) (k : ℕ) (g : Group) (v m : List ℕ) (seats : ℕ) (before : State)
    (ready : IsReady c e f x name k g v m seats before) where
  scope : IsScope e f g
  scope = scopes_hold e f k g ready.group

  are_weighed : AreWeighed v (map (place e) g.entries)
  are_weighed = scope_weighed e f g (before.columns x.votes) v scope ready.votes ready.weights

  one_each : length m ≡ length v
  one_each = minima_long e g.entries v m x.minima before ready.votes.one_each ready.minima

  of_divisor : (d : Divisor) → DivisorArena d v (table_of f) (map (place e) g.entries)
  of_divisor d = divisor_arenas d v (table_of f) (map (place e) g.entries) are_weighed

  divisor_of_scope : (d : Divisor) → OfScope e f g (divisor_arena d v m (table_of f) (map (place e) g.entries))
  divisor_of_scope d = record { arena = (of_divisor d).with_minima m one_each; entries = refl; places = refl; scope = scope }

  grown_of_scope : (d : Divisor) → OfScope e f g (grown_arena e f g d v m)
  grown_of_scope d = record { arena = (of_divisor d).grown m one_each; entries = refl; places = refl; scope = scope }

  hamilton_of_scope : (prefer : Bool) → OfScope e f g (hamilton_arena prefer v seats (table_of f) (map (place e) g.entries))
  hamilton_of_scope prefer = record {
    arena = hamilton_arenas prefer v seats (table_of f) (map (place e) g.entries) are_weighed ready.few MAX_SEATS;
    entries = refl;
    places = refl;
    scope = scope;
  }

-- in a split
pub splits_award_seats : (c : CountingCode) (e : Election) (f : Form) (x : Slots) (name : List ℕ) (k : ℕ) (g : Group) (method : Method) (majority : Majority) (v m : List ℕ)
    (seats : ℕ) (told : List Weight) (meant : List ℕ) (before : State) → IsReady c e f x name k g v m seats before →
    AwardsSeats c e f x g (split_arena e f g method majority v m seats) v seats told meant before method
splits_award_seats c e f x name k g (by.Divisor d) majority v m seats told meant before ready =
    let a = divisor_arena d v m (table_of f) (map (place e) g.entries) in
    let of : OfScope e f g a = divisor_of_scope c e f x name k g v m seats before ready d in
    let re = quotients_again c e f x name g d v m ready.slots ready.weights of in
    record {
      gives = seats_are_given c e f x name g a v seats told before ready.slots of (enter_again x d) re ready.votes;
      fits = seats_fit c e f x name g a v seats told before ready.slots of (enter_again x d) re ready.votes;
      ends = ties_end c e f x name g a v seats told meant before ready.slots of ready.few;
    }
splits_award_seats c e f x name k g by.Hamilton majority v m seats told meant before ready =
    let a = hamilton_arena (is_prefer majority) v seats (table_of f) (map (place e) g.entries) in
    let of : OfScope e f g a = hamilton_of_scope c e f x name k g v m seats before ready (is_prefer majority) in
    let re = remainders_again c e f x g (is_prefer majority) v seats in
    record {
      gives = seats_are_given c e f x name g a v seats told before ready.slots of nothing re ready.votes;
      fits = seats_fit c e f x name g a v seats told before ready.slots of nothing re ready.votes;
      ends = ties_end c e f x name g a v seats told meant before ready.slots of ready.few;
    }

-- and in a growth
pub growths_award_seats : (c : CountingCode) (e : Election) (f : Form) (x : Slots) (name : List ℕ) (k : ℕ) (g : Group) (d : Divisor) (v m : List ℕ)
    (seats : ℕ) (told : List Weight) (meant : List ℕ) (before : State) → IsReady c e f x name k g v m seats before →
    AwardsSeats c e f x g (grown_arena e f g d v m) v seats told meant before (by.Divisor d)
growths_award_seats c e f x name k g d v m seats told meant before ready =
    let a = grown_arena e f g d v m in
    let of : OfScope e f g a = grown_of_scope c e f x name k g v m seats before ready d in
    let re = quotients_again c e f x name g d v (outside_minima v m) ready.slots ready.weights of in
    record {
      gives = seats_are_given c e f x name g a v seats told before ready.slots of (enter_again x d) re ready.votes;
      fits = seats_fit c e f x name g a v seats told before ready.slots of (enter_again x d) re ready.votes;
      ends = ties_end c e f x name g a v seats told meant before ready.slots of ready.few;
    }

-- What the search of a growth stands on: its scope as it is before, and the arena in which no entry holds a seat.
use Rattle.std.proofs.Common.{◌≡◌, ℕ, ◌≤◌, List, length, map, sum, Some, refl, sym, ◌∙◌}
use Rattle.sl_base_quotients.specs.declared.limits.TheConstants.{MAX_SEATS}
use Rattle.sl_base_quotients.specs.declared.method.Divisor.{Divisor}
use Rattle.sl_law_meaning.specs.returns.Election.{Election}
use Rattle.sl_law_meaning.specs.methods.Field.{no_minima}
use Rattle.sl_law_meaning.specs.meaning.Scopes.{Group, place}
use Rattle.sl_law_meaning.proofs.methods.SeatSums.{length_zeros}
use Rattle.sl_code_instructions.specs.declared.operand.Ranking.TheVariants as ranking
use Rattle.sl_code_instructions.specs.Codes.{CountingCode}
use Rattle.sl_code_semantics.specs.State.{State}
use Rattle.sl_compile_pieces.specs.scopes.Forms.{Form, table_of}
use Rattle.sl_compile_pieces.specs.scopes.Scopes.{IsScope}
use Rattle.sl_compile_pieces.proofs.scopes.Scopes.{scopes_hold}
use Rattle.sl_compile_pieces.specs.arenas.Arenas.{Arena, divisor_arena}
use Rattle.sl_compile_pieces.proofs.arenas.MethodArenas.{divisor_arenas}
use Rattle.sl_compile_pieces.specs.seats.Slots.{Slots}
use Rattle.sl_compile_pieces.specs.inner.seats.Filling.{IsOfScope, IsReady}
use Rattle.sl_compile_pieces.proofs.seats.SeatingArenas.{OfScope, scope_weighed}

-- the slots where the minima are in that one
abbrev pub with_minima : Slots → ℕ → Slots
with_minima x slot = record x { minima = Some slot }

abbrev pub search_arena : Election → Form → Group → Divisor → List ℕ → Arena
search_arena e f g d v = divisor_arena d v (no_minima v) (table_of f) (map (place e) g.entries)

pub record CanSearch (c : CountingCode) (e : Election) (f : Form) (x : Slots) (name : List ℕ) (slot k : ℕ) (g : Group) (d : Divisor) (v m : List ℕ) (seats cap : ℕ) (before : State) : Type 0 where
  pub ready : IsReady c e f (with_minima x slot) name k g v m seats before
  pub enough : sum m ≤ cap
  pub few : cap ≤ MAX_SEATS

module _ {c : CountingCode} {e : Election} {f : Form} {x : Slots} {name : List ℕ} {slot k : ℕ} {g : Group} {d : Divisor} {v m : List ℕ} {seats cap : ℕ} {before : State}
    (can : CanSearch c e f x name slot k g d v m seats cap before) where
  pub scope_is : IsScope e f g
  scope_is = scopes_hold e f k g can.ready.group

  pub weight_each : length v ≡ length g.entries
  weight_each = can.ready.votes.one_each

  pub minimum_each : length m ≡ length v
  minimum_each = can.ready.minima.one_each ∙ sym can.ready.votes.one_each

  pub arena_of : OfScope e f g (search_arena e f g d v)
  arena_of = record {
    arena = (divisor_arenas d v (table_of f) (map (place e) g.entries) (scope_weighed e f g (before.columns x.votes) v scope_is can.ready.votes can.ready.weights)).search;
    entries = refl;
    places = refl;
    scope = scope_is;
  }

  pub entries_wait : IsOfScope e f g ranking.Quotients v (search_arena e f g d v)
  entries_wait = record { entries = refl; ranking = refl; places = refl; one_each = length_zeros (length v) ∙ weight_each; next = λ j below. refl }

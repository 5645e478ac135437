-- The next seat of an entry waits again, or there is none any more.
use Rattle.std.proofs.Common.{◌≡◌, ℕ, ◌<◌, ◌≤◌, ◌&&◌, Bool, true, List, map, All, Some, slice_get, refl, arith}
use Rattle.std.specs.Prelude.{slice_index, nat_lt, nat_le}
use Rattle.std.proofs.lemmas.Bool.{ltb-true, leb-true, and_parts}
use Rattle.sl_base_quotients.specs.declared.limits.TheConstants.{MAX_WEIGHT, MAX_SEATS}
use Rattle.sl_base_quotients.specs.declared.method.Divisor.{Divisor}
use Rattle.sl_law_meaning.specs.declared.fault.Item.{Item}
use Rattle.sl_law_meaning.specs.returns.Election.{Election}
use Rattle.sl_law_meaning.specs.methods.Hamilton.{whole}
use Rattle.sl_law_meaning.specs.meaning.Scopes.{Group, place}
use Rattle.sl_law_meaning.specs.laws.Ladders.{Has}
use Rattle.sl_law_meaning.proofs.methods.HamiltonProofs.{hamilton_ladders_law}
use Rattle.sl_code_instructions.specs.Codes.{CountingCode}
use Rattle.sl_code_semantics.specs.State.{State, with_register}
use Rattle.sl_code_semantics.proofs.effects.Registers.{get_does}
use Rattle.sl_compile_plans.specs.Achieves.{Achieves, Never}
use Rattle.sl_compile_plans.proofs.Rules.{line_ends, line_goes, if_zero, line_first, line_over}
use Rattle.sl_compile_pieces.specs.scopes.Forms.{Form, votes_of, table_of, OnItem}
use Rattle.sl_compile_pieces.specs.arenas.Arenas.{Arena, HasWaiting, divisor_arena, hamilton_arena, table_of as table_with}
use Rattle.sl_compile_pieces.specs.arenas.Laws.{SeatTaken}
use Rattle.sl_compile_pieces.proofs.arenas.TableEffects.{waiting_again}
use Rattle.sl_compile_pieces.specs.declared.registers.TheConstants as reg
use Rattle.sl_compile_pieces.specs.seats.Slots.{Slots, HasSlots}
use Rattle.sl_compile_pieces.specs.seats.Trees.{enter_again, nothing}
use Rattle.sl_compile_pieces.proofs.seats.SeatingArenas.{OfScope}
use Rattle.sl_compile_pieces.proofs.seats.Quotients.{seat_enters}
use Rattle.sl_compile_pieces.proofs.seats.Seat.{ReEnters}

-- ---- by a divisor method

module _ (c : CountingCode) (e : Election) (f : Form) (x : Slots) (name : List ℕ) (g : Group) (d : Divisor) (v m : List ℕ) (slots : HasSlots c f x name)
    (light : All (λ weight. weight ≤ MAX_WEIGHT) v) where
  abbrev divided : Arena
  divided = divisor_arena d v m (table_of f) (map (place e) g.entries)

  module _ (of : OfScope e f g divided) (t u : List ℕ) (j : ℕ) (i : Item) (s : State) (taken : SeatTaken divided j t u) (at : slice_get g.entries j ≡ Some i)
      (has : Has divided.ladders j (slice_index t j)) (high : slice_index u j ≤ MAX_SEATS) (on : OnItem i s) (held : s.registers reg.HELD ≡ slice_index u j)
      (votes : s.columns x.votes (place e i) ≡ slice_index v j) (table : s.table ≡ Some (table_with divided taken.others)) where
    abbrev weighed : State
    weighed = with_register reg.WEIGHT (s.columns x.votes (place e i)) s

    some_weight : 0 < slice_index v j
    some_weight = ltb-true 0 (slice_index v j) has

    enters_quotient : Achieves c e (enter_again x d) s (HasWaiting divided u) Never
    enters_quotient =
        line_first (get_does c e s x.votes (votes_of f) slots.votes reg.WEIGHT (place e i) ((of.scope.entry j i at).cell s on))
        (line_over (if_zero (λ none. absurd (omega (arith, some_weight, votes, none))) (λ w some.
        line_goes
        (seat_enters c e f g of.scope d v m light j (slice_index u j) i weighed taken.others reg.HELD at on votes some_weight held high table)
        (line_ends ((waiting_again divided j t u weighed taken table).entered has)))))

  pub quotients_again : OfScope e f g divided → ReEnters c e x g divided v (enter_again x d)
  quotients_again of = record {
    enters = λ t u j i s taken at has low more high on held votes table. enters_quotient of t u j i s taken at has high on held (votes.at j i at) table;
    leaves = record { registers = refl; columns = λ slot. refl; party = refl; land = refl; win = refl; placed = refl; steps = refl };
    weights = refl;
  }

-- ---- by largest remainders there is none any more

no_remainder : (prefer : Bool) (v : List ℕ) (seats j held : ℕ) → whole v seats j < held → ¬ ((nat_lt 0 (slice_index v j) && nat_le held (whole v seats j)) ≡ true)
no_remainder prefer v seats j held high has =
    let low = leb-true held (whole v seats j) (and_parts (nat_lt 0 (slice_index v j)) (nat_le held (whole v seats j)) has).1 in
    omega (arith, low, high)

pub remainders_again : (c : CountingCode) (e : Election) (f : Form) (x : Slots) (g : Group) (prefer : Bool) (v : List ℕ) (seats : ℕ) →
    ReEnters c e x g (hamilton_arena prefer v seats (table_of f) (map (place e) g.entries)) v nothing
remainders_again c e f x g prefer v seats =
    let a : Arena = hamilton_arena prefer v seats (table_of f) (map (place e) g.entries) in
    record {
      enters = λ t u j i s taken at has low more high on held votes table.
          let base = (hamilton_ladders_law prefer v seats).wholes j in
          line_ends ((waiting_again a j t u s taken table).ended (no_remainder prefer v seats j (slice_index u j) (omega (arith, base, low, more))));
      leaves = record { registers = refl; columns = λ slot. refl; party = refl; land = refl; win = refl; placed = refl; steps = refl };
      weights = refl;
    }

-- By a divisor method the seat of an entry with weight enters the table with its quotient.
use Rattle.std.proofs.Common.{◌≡◌, ℕ, suc, ◌-◌, ◌<◌, ◌≤◌, List, map, All, Some, min, slice_get, refl, sym, ap, ◌∙◌, arith}
use Rattle.std.specs.Prelude.{slice_index}
use Rattle.sl_base_quotients.specs.declared.entry.Entry.{Entry}
use Rattle.sl_base_quotients.specs.declared.limits.TheConstants.{MAX_WEIGHT, MAX_SEATS}
use Rattle.sl_base_quotients.specs.declared.method.Divisor.{Divisor}
use Rattle.sl_base_quotients.specs.Quotient.{quotient}
use Rattle.sl_law_meaning.specs.declared.fault.Item.{Item}
use Rattle.sl_law_meaning.specs.returns.Election.{Election}
use Rattle.sl_law_meaning.specs.meaning.Scopes.{Group, place}
use Rattle.sl_code_instructions.specs.declared.instr.Instr.TheVariants.{Prio}
use Rattle.sl_code_instructions.specs.Codes.{CountingCode}
use Rattle.sl_code_semantics.specs.State.{State}
use Rattle.sl_code_semantics.specs.Effects.{Goes, effect, with_table, with_entry}
use Rattle.sl_code_semantics.proofs.effects.Table.{prio_does}
use Rattle.sl_compile_pieces.specs.scopes.Forms.{Form, table_of, OnItem}
use Rattle.sl_compile_pieces.specs.scopes.Scopes.{IsScope}
use Rattle.sl_compile_pieces.specs.arenas.Arenas as arenas
use Rattle.sl_compile_pieces.specs.arenas.Arenas.{Arena, seat_of, divisor_arena}
use Rattle.sl_compile_pieces.specs.declared.registers.TheConstants as reg
use Rattle.sl_compile_pieces.proofs.seats.Lists.{mapped_at, number_within}

module _ (c : CountingCode) (e : Election) (f : Form) (g : Group) (scope : IsScope e f g) (d : Divisor) (v b : List ℕ) (light : All (λ weight. weight ≤ MAX_WEIGHT) v) where
  abbrev divided : Arena
  divided = divisor_arena d v b (table_of f) (map (place e) g.entries)

  -- the register says how many seats the entry holds
  pub seat_enters : (j n : ℕ) (i : Item) (s : State) (others : List Entry) (r : ℕ) → slice_get g.entries j ≡ Some i → OnItem i s → s.registers reg.WEIGHT ≡ slice_index v j → 0 < slice_index v j
      → s.registers r ≡ n → n ≤ MAX_SEATS → s.table ≡ Some (arenas.table_of divided others)
      → effect c e (Prio d reg.WEIGHT r) s ≡ Goes (with_table (with_entry (seat_of divided j n) (arenas.table_of divided others)) s)
  seat_enters j n i s others r at on weight positive held few table =
      let low : slice_index v j ≤ MAX_WEIGHT = number_within MAX_WEIGHT v j light in
      let first : min (s.registers reg.WEIGHT) MAX_WEIGHT ≡ slice_index v j = omega (arith, weight, low) in
      let second : min (s.registers r) MAX_SEATS ≡ n = omega (arith, held, few) in
      let one_less : s.registers reg.WEIGHT ≡ suc (s.registers reg.WEIGHT - 1) = omega (arith, weight, positive) in
      let seat : ℕ → ℕ → ℕ → Entry = λ w m p. record { ratio = quotient d w m; index = p } in
      let is_seat : seat (min (s.registers reg.WEIGHT) MAX_WEIGHT) (min (s.registers r) MAX_SEATS) (place e i) ≡ seat_of divided j n =
      λ z. seat (first z) (second z) (sym (mapped_at (place e) g.entries j i at) z) in
      prio_does c e s (arenas.table_of divided others) table (place e i) ((scope.entry j i at).index s on) d reg.WEIGHT r (s.registers reg.WEIGHT - 1) one_less refl
      ∙ ap (λ y. Goes (with_table (with_entry y (arenas.table_of divided others)) s)) is_seat

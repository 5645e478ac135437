-- The plans by which an entry with weight enters the table put its next seat among those that wait.
use Rattle.std.proofs.Common.{◌≡◌, ℕ, suc, ◌+◌, ◌*◌, ◌-◌, ◌<◌, ◌≤◌, ◌&&◌, Bool, true, false, List, [], ◌∷◌, ◌++◌, map, All, Option, Some, None, min, sum, slice_get, refl, sym, ap, ◌∙◌, arith}
use Rattle.std.specs.Prelude.{is_none, is_some, option_map, unwrap_or, nat_lt, nat_le, slice_index, if◌then◌else◌}
use Rattle.std.proofs.lemmas.Bool.{lt-ltb, le-ltb, le-leb, lt-leb, and_left, and_right, and_from}
use Rattle.std.proofs.lemmas.List.{append-nil}
use Rattle.sl_base_quotients.specs.declared.entry.Entry.{Entry}
use Rattle.sl_base_quotients.specs.declared.limits.TheConstants.{MAX_WEIGHT, MAX_SEATS}
use Rattle.sl_base_quotients.specs.declared.method.Divisor.{Divisor}
use Rattle.sl_base_quotients.specs.declared.method.Divisor.TheVariants as divisor
use Rattle.sl_base_quotients.specs.Quotient.{Quotient}
use Rattle.sl_law_meaning.specs.declared.fault.Item.{Item}
use Rattle.sl_law_meaning.specs.declared.table.Weight.{Weight}
use Rattle.sl_law_meaning.specs.returns.Election.{Election}
use Rattle.sl_law_meaning.specs.methods.Hamilton.{whole, whole_parts, remainder, remainder_rank, is_leading}
use Rattle.sl_law_meaning.specs.meaning.Records.{tells_weights}
use Rattle.sl_law_meaning.specs.meaning.Scopes.{Group, place}
use Rattle.sl_law_meaning.proofs.methods.HamiltonProofs.{at_wholes}
use Rattle.sl_code_instructions.specs.declared.instr.Instr.TheVariants.{Prio, Lead, Weigh}
use Rattle.sl_code_instructions.specs.declared.operand.Rounding.{Rounding}
use Rattle.sl_code_instructions.specs.declared.operand.Rounding.TheVariants as rounding
use Rattle.sl_code_instructions.specs.Codes.{CountingCode}
use Rattle.sl_code_instructions.specs.Numbers.{divisor_of, rounding_of}
use Rattle.sl_code_semantics.specs.State.{State, with_register}
use Rattle.sl_code_semantics.specs.Places.{item_of}
use Rattle.sl_code_semantics.specs.Effects.{Goes, most, stage_of, with_entry, with_weight}
use Rattle.sl_code_semantics.proofs.effects.Records.{weigh_does}
use Rattle.sl_code_semantics.proofs.effects.Table.{rest_does, lead_does}
use Rattle.sl_compile_plans.specs.Trees.{Line}
use Rattle.sl_compile_plans.specs.Achieves.{Achieves, Never}
use Rattle.sl_compile_plans.proofs.Rules.{line_ends, line_goes, if_less, goes_as, achieves_so}
use Rattle.sl_compile_pieces.specs.scopes.Forms.{Form, table_of, kind_of, OnItem}
use Rattle.sl_compile_pieces.specs.scopes.Scopes.{IsScope}
use Rattle.sl_compile_pieces.specs.arenas.Arenas as arenas
use Rattle.sl_compile_pieces.specs.arenas.Arenas.{Arena, seat_of, divisor_arena, hamilton_arena}
use Rattle.sl_compile_pieces.specs.declared.registers.TheConstants as reg
use Rattle.sl_compile_pieces.specs.seats.Slots.{Slots}
use Rattle.sl_compile_pieces.specs.seats.Trees.{weigh, enter_quotient, enter_remainder, enter_preferred}
use Rattle.sl_compile_pieces.specs.inner.seats.Filling.{AtEntry, EntersNext}
use Rattle.sl_compile_pieces.proofs.seats.Bases.{Remains}
use Rattle.sl_compile_pieces.proofs.seats.Lists.{mapped_at, number_within}
use Rattle.sl_compile_pieces.proofs.seats.Quotients.{seat_enters}

-- ---- an entry of the table

-- the entry with the rank and the number of a next seat is that seat
module _ (a : Arena) (others : List Entry) (j held : ℕ) where
  abbrev EntersSeat : State → State → Type 0
  EntersSeat s t = (t.table ≡ Some (arenas.table_of a (seat_of a j held ∷ others))) × (t.weights ≡ s.weights)

  with_seat : (q : Quotient) (index : ℕ) → q ≡ a.ladders.rank j held → index ≡ slice_index a.places j
      → Some (with_entry (record { ratio = q; index = index }) (arenas.table_of a others)) ≡ Some (arenas.table_of a (seat_of a j held ∷ others))
  with_seat q index ranks stands =
      ap (λ (r : Quotient). Some (with_entry (record { ratio = r; index = index }) (arenas.table_of a others))) ranks
      ∙ ap (λ (n : ℕ). Some (with_entry (record { ratio = a.ladders.rank j held; index = n }) (arenas.table_of a others))) stands

module _ (c : CountingCode) (e : Election) (f : Form) (g : Group) (scope : IsScope e f g) (v : List ℕ) (seats : ℕ) (weights : All (λ weight. weight ≤ MAX_WEIGHT) v) (few : seats ≤ MAX_SEATS) where
  -- ---- quotients

  module _ (x : Slots) (b : List ℕ) where
    abbrev arena_of : Divisor → Arena
    arena_of d = divisor_arena d v b (table_of f) (map (place e) g.entries)

    prio_enters : (d : Divisor) (j : ℕ) (i : Item) (s : State) (others : List Entry) → slice_get g.entries j ≡ Some i → OnItem i s → s.registers reg.WEIGHT ≡ slice_index v j → 0 < slice_index v j
        → s.registers reg.BASE ≡ slice_index b j → slice_index b j ≤ seats → s.table ≡ Some (arenas.table_of (arena_of d) others)
        → Achieves c e (Line (Prio d reg.WEIGHT reg.BASE ∷ [])) s (EntersSeat (arena_of d) others j (slice_index b j) s) Never
    prio_enters d j i s others at on weight positive base within table =
        line_goes (seat_enters c e f g scope d v b weights j (slice_index b j) i s others reg.BASE at on weight positive base (omega (arith, within, few)) table) (line_ends (refl, refl))

    abbrev Any : ℕ → ℕ → Type 0
    Any j n = Unit {0}

    plain_enters : (d : Divisor) → EntersNext c e g (arena_of d) v seats Any (λ j i. []) (Line (Prio d reg.WEIGHT reg.BASE ∷ []))
    plain_enters d = record {
      enters = λ j i s others at here positive base within rest table.
          achieves_so (prio_enters d j i s others at here.on_item here.weight positive base within table) (λ t h. (h.0, h.1 ∙ sym (append-nil s.weights)));
      leaves = record { registers = refl; columns = λ slot. refl; party = refl; land = refl; win = refl; placed = refl; steps = refl };
    }

    -- the weight of an entry, as it is recorded
    abbrev pub weight_of : Divisor → ℕ → Item → Weight
    weight_of d j i = record { stage = x.stage; scope = g.scope; entry = i; divisor = d; weight = slice_index v j }

    -- it is recorded, or nothing is
    abbrev pub told_where : Bool → Divisor → ℕ → Item → List Weight
    told_where told d j i = if told then weight_of d j i ∷ [] else []

    told_as : (d : Divisor) (n j : ℕ) (i k : Item) (s : State) → k ≡ i → n ≡ slice_index v j
        → Goes (with_weight (record { stage = x.stage; scope = g.scope; entry = k; divisor = d; weight = n }) s) ≡ Goes (with_weight (weight_of d j i) s)
    told_as d n j i k s entry all =
        ap (λ (y : Item). Goes (with_weight (record { stage = x.stage; scope = g.scope; entry = y; divisor = d; weight = n }) s)) entry
        ∙ ap (λ (w : ℕ). Goes (with_weight (record { stage = x.stage; scope = g.scope; entry = i; divisor = d; weight = w }) s)) all

    module _ (stage : stage_of c.stages x.stage ≡ Some x.stage) where
      weighed_enters : (by : Rounding) → EntersNext c e g (arena_of (divisor_of by)) v seats Any (λ j i. weight_of (divisor_of by) j i ∷ [])
          (Line (Weigh x.stage (kind_of f) by reg.WEIGHT ∷ (Prio (divisor_of by) reg.WEIGHT reg.BASE ∷ [])))
      weighed_enters by = record {
        enters = λ j i s others at here positive base within rest table.
            let low : slice_index v j ≤ MAX_WEIGHT = number_within MAX_WEIGHT v j weights in
            let all : min (s.registers reg.WEIGHT) MAX_WEIGHT ≡ slice_index v j = omega (arith, here.weight, low) in
            let one_less : s.registers reg.WEIGHT ≡ suc (s.registers reg.WEIGHT - 1) = omega (arith, here.weight, positive) in
            let is : Weight = weight_of (divisor_of by) j i in
            let tells = weigh_does c e s x.stage (kind_of f) x.stage g.scope stage (scope.kind s here.on_scope) (arenas.table_of (arena_of (divisor_of by)) others) (place e i) table
            ((scope.entry j i at).index s here.on_item) by reg.WEIGHT (s.registers reg.WEIGHT - 1) one_less in
            line_goes (tells ∙ told_as (divisor_of by) (min (s.registers reg.WEIGHT) MAX_WEIGHT) j i (item_of e (table_of f) (place e i)) s (scope.entry j i at).item all)
            (prio_enters (divisor_of by) j i (with_weight is s) others at here.on_item here.weight positive base within table);
        leaves = record { registers = refl; columns = λ slot. refl; party = refl; land = refl; win = refl; placed = refl; steps = refl };
      }

      -- the weights of a method that rounds are recorded where no minima are written
      entered : (o : Option Rounding) (d : Divisor) → let by : Divisor = unwrap_or (option_map divisor_of o) d in
          EntersNext c e g (arena_of by) v seats Any (told_where (is_some o) by) (Line (weigh f x o ++ Prio by reg.WEIGHT reg.BASE ∷ []))
      entered None d = plain_enters d
      entered (Some by) d = weighed_enters by

      enters_by : (o : Option ℕ) (d : Divisor) → EntersNext c e g (arena_of d) v seats Any (told_where (is_none o && tells_weights d) d)
          (Line ((if is_none o then weigh f x (rounding_of d) else []) ++ Prio d reg.WEIGHT reg.BASE ∷ []))
      enters_by None divisor.Adams = entered (Some rounding.Adams) divisor.Adams
      enters_by None d = entered (rounding_of d) d
      enters_by (Some slot) d = plain_enters d

      pub quotients_enter : (d : Divisor) → EntersNext c e g (divisor_arena d v b (table_of f) (map (place e) g.entries)) v seats (λ j n. Unit {0}) (told_where (is_none x.minima && tells_weights d) d)
          (enter_quotient f x d)
      quotients_enter d = enters_by x.minima d

  -- ---- remainders

  module _ (prefer : Bool) where
    abbrev arena : Arena
    arena = hamilton_arena prefer v seats (table_of f) (map (place e) g.entries)

    module _ (j held : ℕ) (i : Item) (s : State) (others : List Entry) (at : slice_get g.entries j ≡ Some i) (on : OnItem i s) (table : s.table ≡ Some (arenas.table_of arena others)) where
      rest_enters : s.registers reg.STEP ≡ remainder v seats j → (prefer && is_leading v seats j) ≡ false → Achieves c e enter_remainder s (EntersSeat arena others j held s) Never
      rest_enters step behind =
          let q : Quotient = record { num = s.registers reg.STEP + 1; den = 1 } in
          let ranks : q ≡ remainder_rank prefer v seats j = rw behind (ap (λ (n : ℕ). record { num = n + 1; den = 1 }) step) in
          line_goes (rest_does c e s (arenas.table_of arena others) table (place e i) ((scope.entry j i at).index s on) reg.STEP refl)
          (line_ends (with_seat arena others j held q (place e i) ranks (sym (mapped_at (place e) g.entries j i at)), refl))

      lead_enters : (prefer && is_leading v seats j) ≡ true → Achieves c e (Line (Lead ∷ [])) s (EntersSeat arena others j held s) Never
      lead_enters ahead =
          let q : Quotient = record { num = 1; den = 0 } in
          let ranks : q ≡ remainder_rank prefer v seats j = rw ahead refl in
          line_goes (lead_does c e s (arenas.table_of arena others) table (place e i) ((scope.entry j i at).index s on) refl)
          (line_ends (with_seat arena others j held q (place e i) ranks (sym (mapped_at (place e) g.entries j i at)), refl))

  -- whether an entry leads, as its weight and its whole part in two registers tell
  leads : (j twice_weight twice_whole : ℕ) → twice_weight ≡ 2 * slice_index v j → twice_whole ≡ 2 * whole v seats j → sum v < twice_weight → twice_whole ≤ seats → is_leading v seats j ≡ true
  leads j a b weight part over under =
      let over_half : sum v < 2 * slice_index v j = omega (arith, over, weight) in
      let under_half : 2 * whole v seats j ≤ seats = omega (arith, under, part) in
      and_from (nat_lt (sum v) (2 * slice_index v j)) (nat_le (2 * whole v seats j) seats) (lt-ltb (sum v) (2 * slice_index v j) over_half) (le-leb (2 * whole v seats j) seats under_half)

  light : (j twice_weight : ℕ) → twice_weight ≡ 2 * slice_index v j → twice_weight ≤ sum v → is_leading v seats j ≡ false
  light j a weight under =
      let under_half : 2 * slice_index v j ≤ sum v = omega (arith, under, weight) in
      and_left (nat_lt (sum v) (2 * slice_index v j)) (nat_le (2 * whole v seats j) seats) (le-ltb (sum v) (2 * slice_index v j) under_half)

  served : (j twice_whole : ℕ) → twice_whole ≡ 2 * whole v seats j → seats < twice_whole → is_leading v seats j ≡ false
  served j b part over =
      let over_half : seats < 2 * whole v seats j = omega (arith, over, part) in
      and_right (nat_lt (sum v) (2 * slice_index v j)) (nat_le (2 * whole v seats j) seats) (lt-leb (2 * whole v seats j) seats over_half)

  preferred_enters : (j held : ℕ) (i : Item) (s : State) (others : List Entry) → slice_get g.entries j ≡ Some i → AtEntry g v seats j i s → held ≡ whole v seats j
      → s.registers reg.BASE ≡ held → held ≤ seats → s.registers reg.STEP ≡ remainder v seats j → s.table ≡ Some (arenas.table_of (arena true) others)
      → Achieves c e enter_preferred s (EntersSeat (arena true) others j held s) Never
  preferred_enters j held i s others at here part base within step table =
      let weight : ℕ = min (s.registers reg.WEIGHT + s.registers reg.WEIGHT) most in
      let seats_held : ℕ = min (s.registers reg.BASE + s.registers reg.BASE) most in
      let u : State = with_register reg.FIRST_PASSING weight (with_register reg.FIRST_PASSING (s.registers reg.WEIGHT) s) in
      let last : State = with_register reg.SECOND_PASSING seats_held (with_register reg.SECOND_PASSING (s.registers reg.BASE) u) in
      let twice_weight : weight ≡ 2 * slice_index v j = omega (arith, here.weight, number_within MAX_WEIGHT v j weights) in
      let twice_whole : seats_held ≡ 2 * whole v seats j = omega (arith, base, part, within, few) in
      goes_as {t = last}
      (if_less {r = reg.TOTAL} {q = reg.FIRST_PASSING}
      (λ over.
      let most_votes : sum v < weight = omega (arith, over, here.total) in
      if_less {r = reg.AMOUNT} {q = reg.SECOND_PASSING}
      (λ above.
      let many : seats < seats_held = omega (arith, above, here.amount) in
      rest_enters true j held i last others at here.on_item table step (served j seats_held twice_whole many))
      (λ below.
      let few_seats : seats_held ≤ seats = omega (arith, below, here.amount) in
      lead_enters true j held i last others at here.on_item table (leads j weight seats_held twice_weight twice_whole most_votes few_seats)))
      (λ under.
      let votes : weight ≤ sum v = omega (arith, under, here.total) in
      rest_enters true j held i last others at here.on_item table step (light j weight twice_weight votes)))
      refl

  pub remainders_enter : (x : Slots) (m : List ℕ) (prefer : Bool)
      → EntersNext c e g (hamilton_arena prefer v seats (table_of f) (map (place e) g.entries)) v seats (Remains c e x g v m seats) (λ j i. []) (if prefer then enter_preferred else enter_remainder)
  remainders_enter x m false = record {
    enters = λ j i s others at here positive base within rest table.
        achieves_so (rest_enters false j (slice_index (whole_parts v seats) j) i s others at here.on_item table (rest positive) refl) (λ t h. (h.0, h.1 ∙ sym (append-nil s.weights)));
    leaves = record { registers = refl; columns = λ slot. refl; party = refl; land = refl; win = refl; placed = refl; steps = refl };
  }
  remainders_enter x m true = record {
    enters = λ j i s others at here positive base within rest table.
        achieves_so (preferred_enters j (slice_index (whole_parts v seats) j) i s others at here (at_wholes true v seats j) base within (rest positive) table)
        (λ t h. (h.0, h.1 ∙ sym (append-nil s.weights)));
    leaves = record { registers = refl; columns = λ slot. refl; party = refl; land = refl; win = refl; placed = refl; steps = refl };
  }

-- A seat of the search: its entry holds one more, what is missing is counted, and the entry waits for its next seat.
use Rattle.std.proofs.Common.{◌≡◌, ◌≢◌, ℕ, ◌+◌, ◌≤◌, min, false, List, [], ◌∷◌, length, sum, Some, slice_get, refl, sym, ap, ◌∙◌, inl, inr, arith, ne_eqb}
use Rattle.std.specs.Prelude.{slice_index}
use Rattle.std.proofs.lemmas.Bool.{cases_eq}
use Rattle.std.proofs.lemmas.Option.{same_Some}
use Rattle.sl_base_quotients.specs.declared.limits.TheConstants.{MAX_SEATS}
use Rattle.sl_base_quotients.specs.declared.method.Divisor.{Divisor}
use Rattle.sl_law_meaning.specs.declared.fault.Item.{Item}
use Rattle.sl_law_meaning.specs.declared.table.Mark.{Mark}
use Rattle.sl_law_meaning.specs.declared.table.Placed.{Placed}
use Rattle.sl_law_meaning.specs.returns.Election.{Election}
use Rattle.sl_law_meaning.specs.methods.Field.{InField, no_minima}
use Rattle.sl_law_meaning.specs.methods.LeastHouse.{outside_sum}
use Rattle.sl_law_meaning.specs.meaning.Scopes.{Group, place}
use Rattle.sl_law_meaning.specs.laws.Awards.{free_ladders}
use Rattle.sl_law_meaning.specs.laws.Ladders.{Has, AreFalling, IsSettled, RaisesEach}
use Rattle.sl_law_meaning.specs.laws.Walks.{MidBatch}
use Rattle.sl_law_meaning.proofs.methods.DivisorProofs.{field_of, has_of, in_range}
use Rattle.sl_law_meaning.proofs.methods.RaisedSeats.{Contains-head}
use Rattle.sl_law_meaning.proofs.methods.SeatSums.{none_needed, length_zeros}
use Rattle.sl_law_meaning.proofs.methods.WalkProofs.{walks}
use Rattle.sl_code_instructions.specs.declared.instr.Instr.TheVariants.{Add, Store, Sub}
use Rattle.sl_code_instructions.specs.Codes.{CountingCode}
use Rattle.sl_code_semantics.specs.State.{State, PriorityTable, with_register, with_cell}
use Rattle.sl_code_semantics.specs.Effects.{most}
use Rattle.sl_code_semantics.proofs.effects.Registers.{get_does, store_does}
use Rattle.sl_code_semantics.proofs.effects.Storing.{cell_same, cell_other_place, cell_other_slot}
use Rattle.sl_compile_plans.specs.declared.plan.Test.TheVariants as test
use Rattle.sl_compile_plans.specs.Trees.{Line, Then, If, ones}
use Rattle.sl_compile_plans.specs.Achieves.{Achieves, Never}
use Rattle.sl_compile_plans.specs.Frames.{may_write_slot, KeepsRest}
use Rattle.sl_compile_plans.proofs.Rules.{line_ends, then_achieves, if_less, goes_as, ends_in, line_first, line_over}
use Rattle.sl_compile_plans.proofs.KeepingRules.{achieves_keeping}
use Rattle.sl_compile_pieces.specs.scopes.Forms.{Form, votes_of, table_of, OnScope, OnItem}
use Rattle.sl_compile_pieces.specs.scopes.Scopes.{IsEntry}
use Rattle.sl_compile_pieces.proofs.scopes.Staying.{item_stays}
use Rattle.sl_compile_pieces.specs.arenas.Arenas as arenas
use Rattle.sl_compile_pieces.specs.arenas.Arenas.{Arena, HasWaiting, seat_taken}
use Rattle.sl_compile_pieces.specs.arenas.Laws.{SeatTaken}
use Rattle.sl_compile_pieces.specs.declared.registers.TheConstants as reg
use Rattle.sl_compile_pieces.specs.inner.awards.Batches.{GivesSeats}
use Rattle.sl_compile_pieces.specs.seats.Slots.{Slots, HasCells}
use Rattle.sl_compile_pieces.specs.seats.Trees.{nothing, enter_again}
use Rattle.sl_compile_pieces.proofs.seats.Again.{quotients_again}
use Rattle.sl_compile_pieces.proofs.seats.Seat.{ReEnters, IsTaken, seat_is_taken}
use Rattle.sl_compile_pieces.proofs.seats.SeatingArenas.{places_differ, entry_there}
use Rattle.sl_compile_pieces.proofs.arenas.Pieces.{not_it}
use Rattle.sl_compile_pieces.specs.nodes.Trees.{search_seat}
use Rattle.sl_compile_pieces.proofs.nodes.Meeting.{missing, sum_one_more, one_less_missing, as_much_missing}
use Rattle.sl_compile_pieces.proofs.nodes.Found.{IsShort, IsLeast, least_after}
use Rattle.sl_compile_pieces.proofs.nodes.SearchScope.{with_minima, search_arena, CanSearch, scope_is, weight_each, minimum_each, arena_of}
use Rattle.sl_compile_pieces.specs.inner.nodes.Houses.{KeepsOthers}

-- the entries of the scope hold t in the search, and all else is as it was before
abbrev pub IsSearched : Election → Slots → Group → Divisor → List ℕ → List ℕ → ℕ → State → List ℕ → State → Type 0
IsSearched e x g d v m seats before t s = record {
  on : OnScope g.scope s;
  amount : s.registers reg.AMOUNT ≡ seats;
  total : s.registers reg.TOTAL ≡ sum v;
  number : s.registers reg.NUMBER ≡ outside_sum v m;
  all_left : s.registers reg.ALL_LEFT ≡ min (sum t) most;
  turns : s.registers reg.TURNS ≡ missing v m t;
  cells : HasCells e g.entries (s.columns x.result) t;
  kept : KeepsOthers e x g before s;
  least : IsSettled (free_ladders d v) t → missing v m t ≡ 0 → IsLeast d v m t;
}

-- what is known of a batch that has begun
abbrev pub BatchBegun : List ℕ → List ℕ → List ℕ → ℕ → Type 0
BatchBegun v m s step = IsShort v m s

-- ---- the plan of a seat

module _ {c : CountingCode} {e : Election} {f : Form} {x : Slots} {name : List ℕ} {slot k : ℕ} {g : Group} {d : Divisor} {v m : List ℕ} {seats cap : ℕ} {before : State}
    (can : CanSearch c e f x name slot k g d v m seats cap before) where
  abbrev arena : Arena
  arena = search_arena e f g d v

  module _ (j : ℕ) (i : Item) (t u : List ℕ) (at : slice_get g.entries j ≡ Some i) (field : InField v j) (long : length t ≡ length v) (raised : RaisesEach (j ∷ []) t u)
      (few : slice_index u j ≤ MAX_SEATS) (taken : SeatTaken (search_arena e f g d v) j t u) where
    entry : IsEntry e (table_of f) (votes_of f) g.scope i
    entry = (scope_is can).entry j i at

    next : slice_index u j ≡ slice_index t j + 1
    next = raised.raised j (Contains-head j [])

    one_seat_more : sum u ≡ sum t + 1
    one_seat_more = sum_one_more t u j (omega (arith, in_range v j field, long)) raised.same_length next (λ k other. raised.others k (not_it j k other))

    -- before the entry holds its seat: what is missing is counted
    record IsCounted (s w : State) : Type 0 where
      on_item : OnItem i w
      held : w.registers reg.HELD ≡ slice_index t j
      turns : w.registers reg.TURNS ≡ missing v m u
      all_left : w.registers reg.ALL_LEFT ≡ min (sum t) most
      one : w.registers ones ≡ 1
      columns : w.columns ≡ s.columns
      table : w.table ≡ Some (arenas.table_of arena taken.others)

    -- after it
    pub record IsGiven (s w : State) : Type 0 where
      on_item : OnItem i w
      cell : w.columns x.result (place e i) ≡ slice_index u j
      elsewhere : (q : ℕ) → q ≢ place e i → w.columns x.result q ≡ s.columns x.result q
      turns : w.registers reg.TURNS ≡ missing v m u
      all_left : w.registers reg.ALL_LEFT ≡ min (sum u) most

    given_still : (s w y : State) → KeepsRest (enter_again (with_minima x slot) d) w y → IsGiven s w → IsGiven s y
    given_still s w y kept h = record {
      on_item = item_stays i w y (kept.party refl) (kept.land refl) (kept.win refl) h.on_item;
      cell = kept.columns x.result refl (place e i) ∙ h.cell;
      elsewhere = λ q other. kept.columns x.result refl q ∙ h.elsewhere q other;
      turns = kept.registers reg.TURNS refl ∙ h.turns;
      all_left = kept.registers reg.ALL_LEFT refl ∙ h.all_left;
    }

    counts : (s w : State) → OnItem i w → w.registers reg.HELD ≡ slice_index t j → w.registers reg.BASE ≡ slice_index m j → w.registers reg.TURNS ≡ missing v m t
        → w.registers reg.ALL_LEFT ≡ min (sum t) most → w.registers ones ≡ 1 → w.columns ≡ s.columns → w.table ≡ Some (arenas.table_of arena taken.others)
        → Achieves c e (If (test.Less reg.HELD reg.BASE) (Line (Sub reg.TURNS ones ∷ [])) nothing) w (IsCounted s) Never
    counts s w on held base turns all_left one columns table =
        if_less
        (λ less.
        let fewer : missing v m t ≡ missing v m u + 1 = one_less_missing v m (minimum_each can) t u j long raised field (omega (arith, less, held, base)) in
        ends_in refl (record { on_item = on; held = held; turns = omega (arith, turns, fewer, one); all_left = all_left; one = one; columns = columns; table = table }))
        (λ met.
        let same : missing v m u ≡ missing v m t = as_much_missing v m (minimum_each can) t u j long raised field (omega (arith, met, held, base)) in
        line_ends (record { on_item = on; held = held; turns = turns ∙ sym same; all_left = all_left; one = one; columns = columns; table = table }))

    holds : (s w : State) → HasCells e g.entries (s.columns x.votes) v → IsCounted s w
        → Achieves c e (Then (Line (Add reg.HELD ones ∷ (Store x.result reg.HELD ∷ (Add reg.ALL_LEFT ones ∷ [])))) (enter_again (with_minima x slot) d)) w
        (λ y. HasWaiting arena u y × IsGiven s y) Never
    holds s w votes h =
        let p : ℕ = place e i in
        let more : ℕ = min (w.registers reg.HELD + w.registers ones) most in
        let w2 : State = with_register reg.HELD more w in
        let w5 : State = with_register reg.ALL_LEFT (min (w.registers reg.ALL_LEFT + w.registers ones) most) (with_cell x.result p more w2) in
        let holds_more : more ≡ slice_index u j = omega (arith, h.held, next, few, h.one) in
        let given : IsGiven s w5 = record {
          on_item = h.on_item;
          cell = cell_same w2 x.result p more ∙ holds_more;
          elsewhere = λ q other. cell_other_place w2 x.result p more q other ∙ ap (λ (y : ℕ → ℕ → ℕ). y x.result q) h.columns;
          turns = h.turns;
          all_left = omega (arith, h.all_left, one_seat_more, h.one);
        } in
        let same_votes : HasCells e g.entries (w5.columns x.votes) v = record {
          one_each = votes.one_each;
          at = λ q y there. cell_other_slot w2 x.result p more x.votes (place e y) can.ready.slots.not_votes ∙ ap (λ (z : ℕ → ℕ → ℕ). z x.votes (place e y)) h.columns
              ∙ votes.at q y there;
        } in
        let again : ReEnters c e (with_minima x slot) g arena v (enter_again (with_minima x slot) d) =
        quotients_again c e f (with_minima x slot) name g d v (no_minima v) can.ready.slots can.ready.weights (arena_of can) in
        let has : (held : ℕ) → Has arena.ladders j held = λ held. has_of d v (no_minima v) j held field in
        let low : slice_index (no_minima v) j ≤ slice_index t j = omega (arith, none_needed (length v) j) in
        line_first refl
        (line_first (store_does c e w2 x.result (votes_of f) can.ready.slots.result reg.HELD p (entry.cell w2 h.on_item))
        (goes_as
        (achieves_keeping (again.enters t u j i w5 taken at (has (slice_index t j)) low next few h.on_item holds_more same_votes h.table)
        (λ z r kept. (r, given_still s w5 z kept given)))
        refl))

    seat_is_given : (s : State) → OnItem i s → s.columns x.result (place e i) ≡ slice_index t j → s.columns slot (place e i) ≡ slice_index m j → HasCells e g.entries (s.columns x.votes) v
        → s.registers reg.TURNS ≡ missing v m t → s.registers reg.ALL_LEFT ≡ min (sum t) most → s.registers ones ≡ 1 → s.table ≡ Some (arenas.table_of arena taken.others)
        → Achieves c e (search_seat (with_minima x slot) d) s (λ y. HasWaiting arena u y × IsGiven s y) Never
    seat_is_given s on cell minimum votes turns all_left one table =
        let first : State = with_register reg.HELD (s.columns x.result (place e i)) s in
        let two : State = with_register reg.BASE (s.columns slot (place e i)) first in
        line_first (get_does c e s x.result (votes_of f) can.ready.slots.result reg.HELD (place e i) (entry.cell s on)) (line_over
        (line_first (get_does c e first slot (votes_of f) (can.ready.slots.minima slot refl) reg.BASE (place e i) (entry.cell first on)) (line_over
        (then_achieves {Q = IsCounted s} (counts s two on cell minimum turns all_left one refl table) (λ z h. holds s z votes h)))))

    -- what stands with t before the seat stands with u after it
    searched_next : (tab : PriorityTable) (mark : Mark) (state now after : State) → IsTaken i tab mark state now → IsGiven now after → KeepsRest (search_seat (with_minima x slot) d) now after
        → IsSearched e x g d v m seats before t state → (IsSettled (free_ladders d v) u → missing v m u ≡ 0 → IsLeast d v m u) → IsSearched e x g d v m seats before u after
    searched_next tab mark state now after taken_now given kept h least =
        let register : (r : ℕ) → now.registers r ≡ state.registers r = λ r. ap (λ (k : ℕ → ℕ). k r) taken_now.registers in
        let column : (k q : ℕ) → now.columns k q ≡ state.columns k q = λ k q. ap (λ (y : ℕ → ℕ → ℕ). y k q) taken_now.columns in
        record {
          on = entry.scope after given.on_item;
          amount = kept.registers reg.AMOUNT refl ∙ register reg.AMOUNT ∙ h.amount;
          total = kept.registers reg.TOTAL refl ∙ register reg.TOTAL ∙ h.total;
          number = kept.registers reg.NUMBER refl ∙ register reg.NUMBER ∙ h.number;
          all_left = given.all_left;
          turns = given.turns;
          cells = record {
            one_each = raised.same_length ∙ h.cells.one_each;
            at = λ q y there.
                elim (cases_eq q j) [
                  | inl same ↦
                      let is : y ≡ i = same_Some y i (sym there ∙ ap (slice_get g.entries) same ∙ at) in
                      ap (λ z. after.columns x.result (place e z)) is ∙ given.cell ∙ ap (slice_index u) (sym same)
                  | inr other ↦
                      given.elsewhere (place e y) (places_differ e g f (scope_is can) q j y i there at other) ∙ column x.result (place e y) ∙ h.cells.at q y there
                      ∙ sym (raised.others q (not_it j q other))
                ];
          };
          kept = record {
            elsewhere = λ q none. given.elsewhere q (λ same. none j i at (sym same)) ∙ column x.result q ∙ h.kept.elsewhere q none;
            columns = λ y q other.
                let free : may_write_slot (search_seat (with_minima x slot) d) y ≡ false = rw (ne_eqb y x.result other) refl in
                kept.columns y free q ∙ column y q ∙ h.kept.columns y q other;
            steps = kept.steps_kept refl ∙ taken_now.steps ∙ h.kept.steps;
            weights = kept.weights_kept refl ∙ taken_now.weights ∙ h.kept.weights;
            placed = λ winner. kept.placed refl winner ∙ ap (λ (y : ℕ → Placed). y winner) taken_now.placed ∙ h.kept.placed winner;
          };
          least = least;
        }

  pub search_gives : GivesSeats c e (search_arena e f g d v) MAX_SEATS (BatchBegun v m) (IsSearched e x g d v m seats before) (search_seat (with_minima x slot) d)
  search_gives = record {
    gives = λ s peers given t u j state gets few short one waits h.
        let field : InField v j = field_of d v (no_minima v) j (slice_index t j) gets.has in
        let there : (i : Item) × (slice_get g.entries j ≡ Some i) = entry_there e f g arena (arena_of can) j (slice_index t j) gets.has in
        let i : Item = there.0 in
        let at : slice_get g.entries j ≡ Some i = there.1 in
        let long : length t ≡ length v = gets.batch.raised.same_length ∙ gets.batch.settled.on.same_length ∙ length_zeros (length v) in
        let law : AreFalling (free_ladders d v) = (arena_of can).arena.falling in
        let mid : MidBatch (free_ladders d v) s peers (j ∷ given) u = (((walks (free_ladders d v) law).within s peers given t gets.batch).next j u gets.one_of gets.left gets.raised).0 in
        let tab : PriorityTable = arenas.table_of arena gets.taken.others in
        let now : State = seat_taken e arena j (slice_index t j) gets.taken.others state in
        let taken_now : IsTaken i tab (arena.won j (slice_index t j)) state now = seat_is_taken e f g arena j (slice_index t j) i gets.taken.others state (arena_of can) at in
        let register : (r : ℕ) → now.registers r ≡ state.registers r = λ r. ap (λ (y : ℕ → ℕ). y r) taken_now.registers in
        let column : (y q : ℕ) → now.columns y q ≡ state.columns y q = λ y q. ap (λ (z : ℕ → ℕ → ℕ). z y q) taken_now.columns in
        let votes : HasCells e g.entries (now.columns x.votes) v = record {
          one_each = weight_each can;
          at = λ q y in_it. column x.votes (place e y) ∙ h.kept.columns x.votes (place e y) can.ready.slots.not_votes ∙ can.ready.votes.at q y in_it;
        } in
        let least : IsSettled (free_ladders d v) u → missing v m u ≡ 0 → IsLeast d v m u = least_after d v m (minimum_each can) s peers (j ∷ given) u mid short in
        achieves_keeping
        (seat_is_given j i t u at field long gets.raised (few j) gets.taken now taken_now.on_item (column x.result (place e i) ∙ h.cells.at j i at)
        (column slot (place e i) ∙ h.kept.columns slot (place e i) (can.ready.slots.not_minima slot refl) ∙ can.ready.minima.at j i at) votes
        (register reg.TURNS ∙ h.turns) (register reg.ALL_LEFT ∙ h.all_left) (register ones ∙ one) taken_now.table)
        (λ after r kept. (r.0, searched_next j i t u at field long gets.raised (few j) gets.taken tab (arena.won j (slice_index t j)) state now after taken_now r.1 kept h least));
  }

-- The search of a growth: the entries of its scope are read, and then batches of peers get seats until the minima of the field are met.
use Rattle.std.proofs.Common.{◌≡◌, ℕ, ◌+◌, ◌<◌, ◌≤◌, min, List, [], ◌∷◌, length, take, sum, Option, Some, slice_get, refl, sym, ap, ◌∙◌, inl, inr, arith}
use Rattle.std.specs.Prelude.{slice_index}
use Rattle.std.proofs.lemmas.Bool.{cases_eq}
use Rattle.std.proofs.lemmas.Option.{same_Some, slice_get_within}
use Rattle.std.specs.List.{range_with_len}
use Rattle.std.proofs.lemmas.List.{length-map}
use Rattle.std.proofs.lemmas.List.FromFn.{length-range_with_len}
use Rattle.sl_base_quotients.specs.declared.entry.Entry.{Entry}
use Rattle.sl_base_quotients.specs.declared.limits.TheConstants.{MAX_SEATS}
use Rattle.sl_base_quotients.specs.declared.method.Divisor.{Divisor}
use Rattle.sl_law_meaning.specs.declared.fault.Item.{Item}
use Rattle.sl_law_meaning.specs.returns.Election.{Election}
use Rattle.sl_law_meaning.specs.methods.Field.{InField, no_minima}
use Rattle.sl_law_meaning.specs.methods.LeastHouse.{outside_minima}
use Rattle.sl_law_meaning.specs.meaning.Scopes.{Group, place}
use Rattle.sl_law_meaning.proofs.methods.HouseProofs.{length-outside, outside_at, outside_in}
use Rattle.sl_law_meaning.proofs.methods.SeatSums.{sum_mono, none_needed, length_zeros, sum_zeros}
use Rattle.sl_law_meaning.specs.methods.Ties.{Lists}
use Rattle.sl_law_meaning.specs.laws.Awards.{LadderLaws, free_ladders}
use Rattle.sl_law_meaning.specs.laws.Ladders.{IsPeer}
use Rattle.sl_law_meaning.proofs.methods.LadderProofs as ladders
use Rattle.sl_code_instructions.specs.declared.instr.Instr.TheVariants.{Set, Add, Store, Prio}
use Rattle.sl_code_instructions.specs.Codes.{CountingCode}
use Rattle.sl_code_semantics.specs.State.{State, PriorityTable, with_register, with_cell}
use Rattle.sl_code_semantics.specs.Effects.{most}
use Rattle.sl_code_semantics.proofs.effects.Registers.{get_does, store_does}
use Rattle.sl_code_semantics.proofs.effects.Storing.{cell_same, cell_other_place, cell_other_slot}
use Rattle.sl_compile_plans.specs.declared.plan.Test.TheVariants as test
use Rattle.sl_compile_plans.specs.Trees.{Line, Then, If, ones}
use Rattle.sl_compile_plans.specs.Achieves.{Achieves, Never}
use Rattle.sl_compile_plans.proofs.Rules.{line_ends, line_goes, then_achieves, if_zero, ends_in, line_first, line_over, if_empty, goes_as}
use Rattle.sl_compile_plans.specs.declared.plan.Bound.TheVariants as bound
use Rattle.sl_compile_plans.proofs.KeepingRules.{each_of}
use Rattle.sl_compile_pieces.specs.scopes.Forms.{Form, votes_of, table_of, OnItem, OnScope}
use Rattle.sl_compile_pieces.specs.scopes.Scopes.{IsEntry}
use Rattle.sl_compile_pieces.specs.inner.scopes.Walks.{bare}
use Rattle.sl_compile_pieces.proofs.scopes.Staying.{entries_visited}
use Rattle.sl_compile_pieces.specs.arenas.Arenas as arenas
use Rattle.sl_compile_pieces.specs.arenas.Arenas.{Arena, seat_of, next_seat, waiting}
use Rattle.sl_compile_pieces.specs.declared.registers.TheConstants as reg
use Rattle.sl_compile_pieces.specs.seats.Slots.{Slots}
use Rattle.sl_compile_pieces.specs.seats.Trees.{nothing, most_seats}
use Rattle.sl_compile_pieces.proofs.seats.FilledEntries.{first_waiting, waiting_more, waiting_same}
use Rattle.sl_compile_pieces.proofs.seats.Lists.{sum_so_far, sum_of_all, pieces_all}
use Rattle.sl_compile_pieces.proofs.seats.Quotients.{seat_enters}
use Rattle.sl_compile_pieces.proofs.seats.SeatingArenas.{places_differ}
use Rattle.sl_compile_pieces.specs.nodes.Trees.{search_entry, search_batch, search_seat, search}
use Rattle.sl_compile_pieces.proofs.nodes.Meeting.{lacking, lacking_at, lacking_in, length-lacking, lacking_low, outside_low, first_missing}
use Rattle.sl_compile_pieces.proofs.nodes.SearchScope.{with_minima, search_arena, CanSearch, scope_is, weight_each, minimum_each, entries_wait, arena_of}
use Rattle.sl_compile_pieces.specs.inner.nodes.Houses.{KeepsOthers}
use Rattle.sl_compile_pieces.proofs.scopes.Forms.{each_entry}
use Rattle.sl_compile_pieces.specs.arenas.Laws.{PeersWait}
use Rattle.sl_compile_pieces.proofs.arenas.Peers.{waiting_peers}
use Rattle.sl_compile_pieces.specs.awards.Trees.{batches}
use Rattle.sl_compile_pieces.specs.inner.awards.Batches.{IsBlind, NoBatch, OneBegan, BeginsBatches, FitsLoop, AfterBatches}
use Rattle.sl_compile_pieces.proofs.awards.Turns.{holds_at_most}
use Rattle.sl_compile_pieces.proofs.awards.Batches.{batches_achieve}
use Rattle.sl_compile_pieces.proofs.nodes.Found.{IsShort, IsFound, is_short, peers_there, least_at_first}
use Rattle.sl_compile_pieces.proofs.nodes.SearchSeats.{IsSearched, BatchBegun, search_gives}

-- ---- the entries are read

-- the first k entries of the search hold no seats and wait
abbrev pub FirstHeld : Election → Form → Slots → Group → Divisor → List ℕ → ℕ → State → ℕ → State → Type 0
FirstHeld e f x g d v seats before k s = record {
  amount : s.registers reg.AMOUNT ≡ seats;
  total : s.registers reg.TOTAL ≡ sum v;
  cells : (q : ℕ) (i : Item) → q < k → slice_get g.entries q ≡ Some i → s.columns x.result (place e i) ≡ 0;
  kept : KeepsOthers e x g before s;
  table : s.table ≡ Some (arenas.table_of (search_arena e f g d v) (first_waiting (search_arena e f g d v) k));
}

-- and the minima of the first n entries are summed
pub record FirstSearched (e : Election) (f : Form) (x : Slots) (g : Group) (d : Divisor) (v m : List ℕ) (seats : ℕ) (before : State) (n k : ℕ) (s : State) : Type 0 where
  pub number : s.registers reg.NUMBER ≡ sum (take n (outside_minima v m))
  pub turns : s.registers reg.TURNS ≡ sum (take n (lacking v m (no_minima v)))
  pub held : FirstHeld e f x g d v seats before k s

-- the minima of one entry more are summed
pub record OneMore (v m : List ℕ) (j : ℕ) : Type 0 where
  pub number : sum (take (j + 1) (outside_minima v m)) ≤ most
  pub turns : sum (take (j + 1) (lacking v m (no_minima v))) ≤ most
  pub outside : slice_index v j ≡ 0 → (sum (take (j + 1) (outside_minima v m)) ≡ sum (take j (outside_minima v m)) + slice_index m j)
      × (sum (take (j + 1) (lacking v m (no_minima v))) ≡ sum (take j (lacking v m (no_minima v))))
  pub inside : InField v j → (sum (take (j + 1) (outside_minima v m)) ≡ sum (take j (outside_minima v m)))
      × (sum (take (j + 1) (lacking v m (no_minima v))) ≡ sum (take j (lacking v m (no_minima v))) + slice_index m j)

one_more : (v m : List ℕ) (cap j : ℕ) → length m ≡ length v → sum m ≤ cap → cap ≤ MAX_SEATS → j < length v → OneMore v m j
one_more v m cap j long enough few less =
    let none : List ℕ = no_minima v in
    let zeros : length none ≡ length v = length_zeros (length v) in
    let outside : List ℕ = outside_minima v m in
    let first : (sum (take (j + 1) outside) ≡ sum (take j outside) + slice_index outside j) × (sum (take (j + 1) outside) ≤ sum outside) =
    sum_so_far outside j (omega (arith, less, length-outside v m long)) in
    let lack : List ℕ = lacking v m none in
    let second : (sum (take (j + 1) lack) ≡ sum (take j lack) + slice_index lack j) × (sum (take (j + 1) lack) ≤ sum lack) =
    sum_so_far lack j (omega (arith, less, length-lacking v m none long zeros)) in
    record {
      number = omega (arith, first.1, sum_mono (outside_minima v m) m (outside_low v m long), enough, few);
      turns = omega (arith, second.1, sum_mono (lacking v m none) m (lacking_low v m none long zeros), enough, few);
      outside = λ z. (omega (arith, first.0, outside_at v m j long z), omega (arith, second.0, lacking_at v m none j z));
      inside = λ f. (omega (arith, first.0, outside_in v m j f), omega (arith, second.0, lacking_in v m none j long zeros f, none_needed (length v) j));
    }

module _ {c : CountingCode} {e : Election} {f : Form} {x : Slots} {name : List ℕ} {slot k : ℕ} {g : Group} {d : Divisor} {v m : List ℕ} {seats cap : ℕ} {before : State}
    (can : CanSearch c e f x name slot k g d v m seats cap before) where
  abbrev arena : Arena
  arena = search_arena e f g d v

  -- so many minima are summed, and so many entries wait
  abbrev pub Searched : ℕ → ℕ → State → Type 0
  Searched = FirstSearched e f x g d v m seats before

  module _ (j : ℕ) (i : Item) (at : slice_get g.entries j ≡ Some i) where
    entry : IsEntry e (table_of f) (votes_of f) g.scope i
    entry = (scope_is can).entry j i at

    within : j < length g.entries
    within = slice_get_within g.entries j i at

    -- the entry holds no seat, and it may wait
    stored : (s : State) (registers : ℕ → ℕ) (table : Option PriorityTable) → FirstHeld e f x g d v seats before j s → registers reg.AMOUNT ≡ s.registers reg.AMOUNT
        → registers reg.TOTAL ≡ s.registers reg.TOTAL → table ≡ Some (arenas.table_of arena (first_waiting arena (j + 1)))
        → FirstHeld e f x g d v seats before (j + 1) (record (with_cell x.result (place e i) 0 s) { registers = registers; table = table })
    stored s registers table h amount total waits = record {
      amount = amount ∙ h.amount;
      total = total ∙ h.total;
      cells = λ q y less there.
          elim (cases_eq q j) [
            | inl same ↦
                let is : y ≡ i = same_Some y i (sym there ∙ ap (slice_get g.entries) same ∙ at) in
                ap (λ h. (with_cell x.result (place e i) 0 s).columns x.result (place e h)) is ∙ cell_same s x.result (place e i) 0
            | inr other ↦
                cell_other_place s x.result (place e i) 0 (place e y) (places_differ e g f (scope_is can) q j y i there at other) ∙ h.cells q y (omega (arith, less, other)) there
          ];
      kept = record {
        elsewhere = λ q none. cell_other_place s x.result (place e i) 0 q (λ same. none j i at (sym same)) ∙ h.kept.elsewhere q none;
        columns = λ y q other. cell_other_slot s x.result (place e i) 0 y q other ∙ h.kept.columns y q other;
        steps = h.kept.steps;
        weights = h.kept.weights;
        placed = h.kept.placed;
      };
      table = waits;
    }

    -- the last part of the plan: the cell, and the table
    enters : (s : State) → OnItem i s → s.registers reg.WEIGHT ≡ slice_index v j → Searched (j + 1) j (bare s)
        → Achieves c e (Then (Line (Set reg.HELD 0 ∷ (Store x.result reg.HELD ∷ []))) (If (test.Zero reg.WEIGHT) nothing (Line (Prio d reg.WEIGHT reg.HELD ∷ [])))) s
        (λ t. Searched (j + 1) (j + 1) (bare t)) Never
    enters s on weight h =
        let none : List ℕ = no_minima v in
        let zero_held : State = with_register reg.HELD 0 s in
        let here : State = with_cell x.result (place e i) 0 zero_held in
        let others : List Entry = first_waiting arena j in
        let seat : Entry = seat_of arena j (slice_index none j) in
        line_first refl
        (line_first (store_does c e zero_held x.result (votes_of f) can.ready.slots.result reg.HELD (place e i) (entry.cell zero_held on))
        (line_over (if_zero
        (λ no_weight.
        let empty : slice_index v j ≡ 0 = omega (arith, weight, no_weight) in
        line_ends (record { number = h.number; turns = h.turns; held = stored (bare s) here.registers s.table h.held refl refl (h.held.table ∙ ap Some (waiting_same g j i at (entries_wait can) empty)) }))
        (λ w some.
        let field : InField v j = omega (arith, weight, some) in
        line_goes
        (seat_enters c e f g (scope_is can) d v none can.ready.weights j (slice_index none j) i here others reg.HELD at on weight field
        (sym (none_needed (length v) j)) (omega (arith, none_needed (length v) j)) h.held.table)
        (line_ends (assumption
        (stored (bare s) here.registers (Some (arenas.table_of arena (seat ∷ others))) h.held refl refl (ap Some (waiting_more g j i at (entries_wait can) field)))))))))

    -- the sums
    sums : (s : State) → OnItem i s → s.registers reg.WEIGHT ≡ slice_index v j → s.registers reg.BASE ≡ slice_index m j → Searched j j (bare s)
        → Achieves c e (If (test.Zero reg.WEIGHT) (Line (Add reg.NUMBER reg.BASE ∷ [])) (Line (Add reg.TURNS reg.BASE ∷ []))) s
        (λ t. OnItem i t × (t.registers reg.WEIGHT ≡ slice_index v j) × Searched (j + 1) j (bare t)) Never
    sums s on weight base h =
        let more : OneMore v m j = one_more v m cap j (minimum_each can) can.enough can.few (omega (arith, within, weight_each can)) in
        if_zero
        (λ no_weight.
        let empty : slice_index v j ≡ 0 = omega (arith, weight, no_weight) in
        let number : min (s.registers reg.NUMBER + s.registers reg.BASE) most ≡ sum (take (j + 1) (outside_minima v m)) = omega (arith, h.number, base, more.number, (more.outside empty).0) in
        ends_in refl (on, weight, record { number = number; turns = h.turns ∙ sym (more.outside empty).1; held = h.held }))
        (λ w some.
        let field : InField v j = omega (arith, weight, some) in
        let turns : min (s.registers reg.TURNS + s.registers reg.BASE) most ≡ sum (take (j + 1) (lacking v m (no_minima v))) = omega (arith, h.turns, base, more.turns, (more.inside field).1) in
        ends_in refl (on, weight, record { number = h.number ∙ sym (more.inside field).0; turns = turns; held = h.held }))

    searches_entry : (s : State) → OnItem i s → Searched j j (bare s) → Achieves c e (search_entry f (with_minima x slot) d) s (λ t. Searched (j + 1) (j + 1) (bare t)) Never
    searches_entry s on h =
        let one : State = with_register reg.WEIGHT (s.columns x.votes (place e i)) s in
        let two : State = with_register reg.BASE (s.columns slot (place e i)) one in
        let weight : s.columns x.votes (place e i) ≡ slice_index v j = h.held.kept.columns x.votes (place e i) can.ready.slots.not_votes ∙ can.ready.votes.at j i at in
        let minimum : s.columns slot (place e i) ≡ slice_index m j = h.held.kept.columns slot (place e i) (can.ready.slots.not_minima slot refl) ∙ can.ready.minima.at j i at in
        line_first (get_does c e s x.votes (votes_of f) can.ready.slots.votes reg.WEIGHT (place e i) (entry.cell s on)) (line_over
        (line_first (get_does c e one slot (votes_of f) (can.ready.slots.minima slot refl) reg.BASE (place e i) (entry.cell one on)) (line_over
        (then_achieves {Q = λ w. OnItem i w × (w.registers reg.WEIGHT ≡ slice_index v j) × Searched (j + 1) j (bare w)}
        (sums two on weight minimum (record { number = h.number; turns = h.turns; held = h.held })) (λ w r. enters w r.0 r.1 r.2)))))

  -- ---- batches

  abbrev Held : List ℕ → State → Type 0
  Held = IsSearched e x g d v m seats before

  -- where the batches end
  abbrev pub HasEnded : State → Type 0
  HasEnded = AfterBatches (search_arena e f g d v) cap (BatchBegun v m) (IsFound d v m) (IsSearched e x g d v m seats before)

  laws : LadderLaws (free_ladders d v)
  laws = ladders.batches (free_ladders d v) (arena_of can).arena.falling

  begins_batches : BeginsBatches c e (search_arena e f g d v) cap reg.LEFT (BatchBegun v m) (IsFound d v m) Held search_batch
  begins_batches = record {
    begins = λ t state settled waits h none room.
        if_zero
        (λ no. ends_in refl (waits, h, NoBatch none (omega arith) (record { none_missing = sym h.turns ∙ no; least = h.least settled (sym h.turns ∙ no) })))
        (λ w some.
        let long : length t ≡ length v = settled.on.same_length ∙ length_zeros (length v) in
        let short : IsShort v m t = is_short d v m (minimum_each can) t long (omega (arith, some, h.turns)) in
        let next : (peers : List ℕ) × Lists (IsPeer (free_ladders d v) t) peers = laws.peers t in
        let there : 0 < length next.0 = peers_there d v m (minimum_each can) t next.0 settled next.1 short in
        let few : (i : ℕ) → slice_index t i ≤ MAX_SEATS = holds_at_most MAX_SEATS cap t (omega (arith, room)) can.few in
        let wait : PeersWait arena t next.0 = waiting_peers MAX_SEATS arena t next.0 (arena_of can).arena few next.1 in
        if_empty {t = arenas.table_of arena (waiting arena t)} waits
        (λ nobody. absurd (omega (arith, there, nobody, wait.number)))
        (λ n many.
        ends_in refl (
          waits,
          h,
          OneBegan next.0 next.1 there (sym many ∙ wait.number) refl short,
        )));
    rests = λ t state settled waits h none found.
        if_zero (λ no. ends_in refl (waits, h, none, omega arith)) (λ w some. absurd (omega (arith, some, h.turns, found.none_missing)));
    keeps = refl;
  }

  fits_loop : FitsLoop Held reg.LEFT (search_seat (with_minima x slot) d)
  fits_loop = record {
    apart = refl;
    own = λ t value s h. h;
    blind = each_of (IsBlind Held) (ones ∷ reg.PEERS ∷ reg.IN_BATCH ∷ []) (λ t value s h. h, (λ t value s h. h, (λ t value s h. h, tt)));
    on_keeps = refl;
    keeps = refl;
  }

  -- ---- the whole search

  -- when all entries are read, they hold no seats
  first_held : (s : State) → OnScope g.scope s → FirstSearched e f x g d v m seats before (length g.entries) (length g.entries) (bare s) → s.registers reg.ALL_LEFT ≡ 0 → Held (no_minima v) s
  first_held s on h none_left =
      let n : ℕ = length g.entries in
      let zeros : length (no_minima v) ≡ length v = length_zeros (length v) in
      let given : 0 ≡ min (sum (no_minima v)) most = omega (arith, sum_zeros (length v)) in
      record {
        on = on;
        amount = h.held.amount;
        total = h.held.total;
        number = h.number ∙ sum_of_all (outside_minima v m) n (length-outside v m (minimum_each can) ∙ weight_each can);
        all_left = none_left ∙ given;
        turns = h.turns ∙ first_missing v m (no_minima v) n (length-lacking v m (no_minima v) (minimum_each can) zeros ∙ weight_each can);
        cells = record { one_each = zeros ∙ weight_each can; at = λ j i at. h.held.cells j i (slice_get_within g.entries j i at) at ∙ sym (none_needed (length v) j) };
        kept = h.held.kept;
        least = λ settled none. least_at_first d v m (minimum_each can) none;
      }

  -- the batches, when all entries are read
  batches_from : (s : State) → OnScope g.scope s → FirstSearched e f x g d v m seats before (length g.entries) (length g.entries) (bare s) → s.registers reg.ALL_LEFT ≡ 0
      → s.registers reg.LEFT ≡ cap → Achieves c e (batches reg.LEFT (bound.AtMost most_seats) search_batch (search_seat (with_minima x slot) d)) s HasEnded Never
  batches_from s on h none_left left =
      let few : cap ≤ MAX_SEATS = can.few in
      let n : ℕ = length arena.places in
      let long : length (range_with_len 0 n) ≡ length g.entries = length-range_with_len 0 n ∙ length-map g.entries (place e) in
      let all : first_waiting arena (length g.entries) ≡ waiting arena (no_minima v) = pieces_all (next_seat arena (no_minima v)) (range_with_len 0 n) (length g.entries) long in
      batches_achieve c e arena MAX_SEATS cap reg.LEFT (bound.AtMost most_seats) search_batch (search_seat (with_minima x slot) d) (BatchBegun v m) (IsFound d v m) Held (no_minima v) s
      (arena_of can).arena few (search_gives can) begins_batches fits_loop laws.begin
      (h.held.table ∙ ap (λ xs. Some (arenas.table_of arena xs)) all) (first_held s on h none_left)
      (omega (arith, left, sum_zeros (length v))) (omega (arith, left, few))

  pub search_achieves : Achieves c e (search f (with_minima x slot) d cap) before HasEnded Never
  search_achieves =
      let Inv : ℕ → State → Type 0 = λ n s. FirstSearched e f x g d v m seats before n n s in
      then_achieves {Q = λ s. OnScope g.scope s × Inv 0 (bare s)}
      (ends_in refl (
        can.ready.on,
        record {
          number = refl;
          turns = refl;
          held = record {
            amount = can.ready.amount;
            total = can.ready.total;
            cells = λ q i less at. absurd (omega (arith, less));
            kept = record { elsewhere = λ q none. refl; columns = λ y q other. refl; steps = refl; weights = refl; placed = λ winner. refl };
            table = refl;
          };
        },
      ))
      (λ s h.
      then_achieves {Q = λ t. OnScope g.scope t × Inv (length g.entries) (bare t)}
      (each_entry c e f k g (search_entry f (with_minima x slot) d) Inv Never s can.ready.group
      (entries_visited (record { party = refl; land = refl; win = refl }) (λ j i s at on h. searches_entry j i at s on h)) h.0 h.1)
      (λ t r.
      let last : State = with_register reg.LEFT cap (with_register reg.ALL_LEFT 0 t) in
      goes_as (batches_from last r.0 (record { number = r.1.number; turns = r.1.turns; held = r.1.held }) refl refl) refl))

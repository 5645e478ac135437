-- Whole batches of peers, while there are seats for all of them, and the registers that count the seats.
use Rattle.std.proofs.Common.{◌≡◌, ℕ, suc, ◌+◌, ◌-◌, ◌<◌, ◌≤◌, min, List, [], ◌∷◌, length, sum, refl, ap, arith, le_refl, Bool, false, ◌==◌, if◌then◌else◌, sym, ◌∙◌, true}
use Rattle.std.specs.Prelude.{Contains, slice_index, nat_eq}
use Rattle.std.specs.List.{list_any}
use Rattle.sl_law_meaning.specs.returns.Election.{Election}
use Rattle.sl_law_meaning.specs.methods.Ties.{Lists}
use Rattle.sl_law_meaning.specs.laws.Ladders.{Ladders, AreFalling, IsSettled, IsPeer, RaisesEach, Has, HasRoom}
use Rattle.sl_law_meaning.specs.laws.Walks.{MidBatch}
use Rattle.sl_law_meaning.proofs.methods.DrawnLots.{fits_in, same_entries}
use Rattle.sl_law_meaning.proofs.methods.RaisedSeats.{increasing_distinct}
use Rattle.sl_law_meaning.proofs.methods.SeatSums.{sum_mono}
use Rattle.sl_law_meaning.proofs.methods.WalkProofs.{walks}
use Rattle.sl_law_meaning.proofs.methods.LadderProofs.{batches}
use Rattle.sl_code_instructions.specs.declared.operand.Entries.{Entries}
use Rattle.sl_code_instructions.specs.declared.operand.Entries.TheVariants as entries
use Rattle.sl_code_instructions.specs.Codes.{CountingCode}
use Rattle.sl_base_rankings.specs.Ranking.{ranked}
use Rattle.sl_base_rankings.specs.Peers.{peers}
use Rattle.sl_code_semantics.specs.State.{State, End, with_register}
use Rattle.sl_code_semantics.specs.Places.{at_entry}
use Rattle.sl_code_semantics.specs.Effects as machine
use Rattle.sl_compile_plans.specs.Trees.{Line, ones, Tree}
use Rattle.sl_compile_plans.specs.Achieves.{Achieves, Never}
use Rattle.sl_compile_plans.proofs.Rules.{ends_in, line_ends, line_goes, if_empty, if_less, then_at}
use Rattle.sl_compile_plans.specs.Frames.{KeepsRest, may_write_register}
use Rattle.sl_compile_plans.proofs.KeepingRules.{achieves_keeping, free_of, each_of}
use Rattle.sl_compile_pieces.specs.declared.registers.TheConstants as reg
use Rattle.sl_compile_pieces.specs.awards.Trees.{count_step, whole_batch, counted_seat}
use Rattle.sl_compile_pieces.specs.arenas.Arenas.{Arena, IsArena, HasWaiting, waiting, seat_taken}
use Rattle.sl_compile_pieces.proofs.arenas.Peers.{waiting_peers}
use Rattle.sl_compile_pieces.specs.inner.awards.Batches.{Gets, GivesSeats, IsBlind, HasBegun, NoBatch, OneBegan, BeginsBatches, FitsLoop}
use Rattle.sl_compile_pieces.specs.inner.awards.Awards.{IsCounted, FitsAwards, award_registers}
use Rattle.sl_compile_pieces.proofs.awards.Turns.{holds_at_most, same_registers}

-- ---- states

-- the state with one seat less to give
abbrev pub lessened : State → State
lessened s = with_register reg.LEFT (s.registers reg.LEFT - s.registers ones) s

module _ (e : Election) where
  -- the seat may be counted once an entry is taken, or before
  pub lessened_before : (k : Entries) (index : ℕ) (s : State) → lessened (at_entry e k index s) ≡ at_entry e k index (lessened s)
  lessened_before entries.Party index s = refl
  lessened_before _ index s = refl

-- the state with the step of the batch that begins in a turn
abbrev pub beginning : State → State
beginning s = with_register reg.STEP (s.registers reg.ALL_LEFT - s.registers reg.TURNS) (with_register reg.STEP (s.registers reg.ALL_LEFT) s)

-- the state with the step of the last batch
abbrev pub stepping : State → State
stepping s =
    with_register reg.STEP (min (s.registers reg.ALL_LEFT - s.registers reg.LEFT + 1) machine.most)
    (with_register ones 1
    (with_register reg.STEP (s.registers reg.ALL_LEFT - s.registers reg.LEFT)
    (with_register reg.STEP (s.registers reg.ALL_LEFT) s)))

pub step_counted : {c : CountingCode} {e : Election} {s : State} {Q : State → Type 0} {E : End → Type 0} → Q (stepping s) → Achieves c e (Line count_step) s Q E
step_counted {c = c} {e = e} {s = s} h =
    ends_in refl h

-- the step is one more than the seats awarded before
pub step_is : (base awarded seats all_left left most : ℕ) → all_left + base ≡ seats → left + awarded ≡ seats → base ≤ awarded → awarded < seats → seats ≤ most
    → min (all_left - left + 1) most ≡ 1 + (awarded - base)
step_is base awarded seats all_left left most all now low less few = omega arith

-- ---- vectors

module _ (l : Ladders) where
  pub base_within : (s : List ℕ) → IsSettled l s → sum l.base ≤ sum s
  base_within s settled = sum_mono l.base s settled.on.above

  -- all lists of the peers are one
  pub as_many : (s peers tied : List ℕ) → Lists (IsPeer l s) peers → Lists (IsPeer l s) tied → length peers ≡ length tied
  as_many s peers tied listed also = ap (λ (xs : List ℕ). length xs) (same_entries (IsPeer l s) (IsPeer l s) peers tied (λ i h. h) (λ i h. h) listed also)

-- the numbers of seats before and after a turn of a batch
pub record TurnSums (s peers given t u : List ℕ) : Type 0 where
  pub before : sum t ≡ sum s + length given
  pub after : sum u ≡ sum t + 1
  pub within : length given < length peers

pub turn_sums : (l : Ladders) → AreFalling l → (s peers given t u : List ℕ) (entry : ℕ) → MidBatch l s peers given t → Contains peers entry → ¬ Contains given entry
    → RaisesEach (entry ∷ []) t u → TurnSums s peers given t u
turn_sums l law s peers given t u entry mid one_of left raised =
    let walk = (walks l law).within s peers given t mid in
    let next : MidBatch l s peers (entry ∷ given) u = (walk.next entry u one_of left raised).0 in
    let now : sum t ≡ sum s + length given = walk.total in
    let later : sum u ≡ sum s + suc (length given) = ((walks l law).within s peers (entry ∷ given) u next).total in
    let fits : suc (length given) ≤ length peers = fits_in (entry ∷ given) peers next.distinct (increasing_distinct peers mid.listed.in_order) next.some in
    record { before = now; after = omega (arith, now, later); within = omega (arith, fits) }

-- ---- whole batches

-- what holds of a state while whole batches are awarded: the registers count the seats still to give
pub record Counts (a : Arena) (seats : ℕ) (Held : List ℕ → State → Type 0) (t : List ℕ) (state : State) : Type 0 where
  pub held : Held t state
  pub left : state.registers reg.LEFT + sum t ≡ seats
  pub all_left : state.registers reg.ALL_LEFT + sum a.ladders.base ≡ seats

-- a batch that has begun: there are seats for all peers
pub record IsWhole (a : Arena) (seats : ℕ) (s : List ℕ) (step : ℕ) : Type 0 where
  pub counted : IsCounted a seats s step
  pub enough : (tied : List ℕ) → Lists (IsPeer a.ladders s) tied → sum s + length tied ≤ seats

-- the batch from t on is the last: there are fewer seats than peers
pub record IsLast (a : Arena) (seats : ℕ) (t : List ℕ) : Type 0 where
  pub scarce : (tied : List ℕ) → Lists (IsPeer a.ladders t) tied → seats < sum t + length tied

module _ (c : CountingCode) (e : Election) (a : Arena) (most seats : ℕ) (on : Tree) (Held : List ℕ → State → Type 0) (fits : FitsAwards Held on) where
  keeps : (r : ℕ) → list_any (nat_eq r) award_registers ≡ true → may_write_register on r ≡ false
  keeps = free_of (may_write_register on) award_registers fits.keeps

  pub counts_blind : (r : ℕ) → (reg.LEFT == r) ≡ false → (reg.ALL_LEFT == r) ≡ false → list_any (nat_eq r) (ones ∷ reg.PEERS ∷ award_registers) ≡ true → IsBlind (Counts a seats Held) r
  counts_blind r not_left not_all of t value state h = record {
    held = fits.blind r of t value state h.held;
    left = ap (λ (b : Bool). (if b then value else state.registers reg.LEFT) + sum t) not_left ∙ h.left;
    all_left = ap (λ (b : Bool). (if b then value else state.registers reg.ALL_LEFT) + sum a.ladders.base) not_all ∙ h.all_left;
  }

  -- ---- a seat

  held_less : (t : List ℕ) (state : State) → Held t state → Held t (lessened state)
  held_less t state h = fits.blind reg.LEFT refl t (state.registers reg.LEFT - state.registers ones) state h

  module _ (arena : IsArena most a) (gives : GivesSeats c e a most (IsCounted a seats) Held on) (s tied given t u : List ℕ) (entry : ℕ) (state : State)
      (gets : Gets a s tied given t u entry) (one : state.registers ones ≡ 1) where
    -- the state of the machine where the plan for the seat begins
    at_seat : State
    at_seat = seat_taken e a entry (slice_index t entry) gets.taken.others (lessened state)

    taken_first : lessened (seat_taken e a entry (slice_index t entry) gets.taken.others state) ≡ at_seat
    unfolding at_seat
    taken_first = lessened_before e a.entries (slice_index a.places entry) _

    at_seat_registers : (r : ℕ) → at_seat.registers r ≡ (lessened state).registers r
    unfolding at_seat
    at_seat_registers r = ap (λ (f : ℕ → ℕ). f r) (same_registers e a.entries (slice_index a.places entry) _)

    count_seat : (after : State) → IsWhole a seats s (state.registers reg.STEP) → Counts a seats Held t state → Held u after → KeepsRest on at_seat after → Counts a seats Held u after
    count_seat after begun counts held kept =
        let sums : TurnSums s tied given t u = turn_sums a.ladders arena.falling s tied given t u entry gets.batch gets.one_of gets.left gets.raised in
        let left : after.registers reg.LEFT ≡ state.registers reg.LEFT - state.registers ones = kept.registers reg.LEFT (keeps reg.LEFT refl) ∙ at_seat_registers reg.LEFT in
        let all : after.registers reg.ALL_LEFT ≡ state.registers reg.ALL_LEFT = kept.registers reg.ALL_LEFT (keeps reg.ALL_LEFT refl) ∙ at_seat_registers reg.ALL_LEFT in
        search arith

    seat_counted : ((i : ℕ) → slice_index u i ≤ most) → IsWhole a seats s (state.registers reg.STEP) → HasWaiting a t state → Counts a seats Held t state
        → Achieves c e (counted_seat on) (seat_taken e a entry (slice_index t entry) gets.taken.others state) (λ after. HasWaiting a u after × Counts a seats Held u after) Never
    unfolding at_seat
    seat_counted few begun waits counts =
        then_at {w = at_seat} (ends_in refl taken_first)
        (achieves_keeping (gives.gives s tied given t u entry (lessened state) gets few begun.counted one waits (held_less t state counts.held))
        (λ after h kept. (h.0, count_seat after begun counts h.1 kept)))

  pub gives_counted : IsArena most a → GivesSeats c e a most (IsCounted a seats) Held on → GivesSeats c e a most (IsWhole a seats) (Counts a seats Held) (counted_seat on)
  gives_counted arena gives = record {
    gives = λ s tied given t u entry state gets few begun one waits counts. seat_counted arena gives s tied given t u entry state gets one few begun waits counts;
  }

  -- ---- a batch

  -- the plan that begins a batch goes one of three ways: there are no peers, too few seats for them, or a batch begins
  module _ (t tied : List ℕ) (state : State) (Q : State → Type 0) (arena : IsArena most a) (few : (i : ℕ) → slice_index t i ≤ most) (listed : Lists (IsPeer a.ladders t) tied)
      (waits : HasWaiting a t state) where
    many : length (peers (ranked (waiting a t))) ≡ length tied
    many = (waiting_peers most a t tied arena few listed).number

    whole_batch_ways : (length tied ≡ 0 → Q state)
        → ((n : ℕ) → length tied ≡ suc n → state.registers reg.LEFT < suc n → Q (with_register reg.PEERS (suc n) state))
        → ((n : ℕ) → length tied ≡ suc n → suc n ≤ state.registers reg.LEFT → Q (beginning (with_register reg.IN_BATCH (suc n) (with_register reg.PEERS (suc n) state))))
        → Achieves c e whole_batch state Q Never
    whole_batch_ways none scarce enough =
        if_empty waits (λ is. line_ends (none (sym many ∙ is))) (λ n is.
        if_less (λ less. line_ends (scarce n (sym many ∙ is) less)) (λ rest. line_goes refl (ends_in refl (enough n (sym many ∙ is) rest))))

  -- what holds does not depend on the registers of a batch,
  pub counts_peers : (t : List ℕ) (n : ℕ) (state : State) → Counts a seats Held t state → Counts a seats Held t (with_register reg.PEERS n state)
  counts_peers t n state h = counts_blind reg.PEERS refl refl refl t n state h

  counts_beginning : (t : List ℕ) (state : State) → Counts a seats Held t state → Counts a seats Held t (beginning state)
  counts_beginning t state h =
      let first : State = with_register reg.STEP (state.registers reg.ALL_LEFT) state in
      let step : IsBlind Held reg.STEP = fits.blind reg.STEP refl in
      record { held = step t _ first (step t _ state h.held); left = h.left; all_left = h.all_left }

  held_stepping : (t : List ℕ) (state : State) → Held t state → Held t (stepping state)
  held_stepping t state h =
      let first : State = with_register reg.STEP (state.registers reg.ALL_LEFT) state in
      let second : State = with_register reg.STEP (state.registers reg.ALL_LEFT - state.registers reg.LEFT) first in
      let step : IsBlind Held reg.STEP = fits.blind reg.STEP refl in
      step t _ (with_register ones 1 second) (fits.blind ones refl t 1 second (step t _ first (step t _ state h)))

  pub counts_stepping : (t : List ℕ) (state : State) → Counts a seats Held t state → Counts a seats Held t (stepping state)
  counts_stepping t state h = record { held = held_stepping t state h.held; left = h.left; all_left = h.all_left }

  -- and the register of steps holds the step
  pub counted_step : (t : List ℕ) (state : State) → IsSettled a.ladders t → sum t < seats → seats ≤ machine.most → Counts a seats Held t state
      → IsCounted a seats t ((stepping state).registers reg.STEP)
  counted_step t state settled less few h = record {
    left = less;
    counted = step_is (sum a.ladders.base) (sum t) seats (state.registers reg.ALL_LEFT) (state.registers reg.LEFT) machine.most h.all_left h.left (base_within a.ladders t settled) less few;
  }

  begun_step : (t : List ℕ) (state : State) → IsSettled a.ladders t → sum t + 1 + state.registers reg.TURNS ≡ seats → Counts a seats Held t state
      → IsCounted a seats t ((beginning state).registers reg.STEP)
  begun_step t state settled turns h = record {
    left = omega (arith, turns);
    counted = omega (arith, turns, h.all_left, base_within a.ladders t settled);
  }

  module _ (arena : IsArena most a) (room : HasRoom a.ladders seats) (few : seats ≤ most) (t : List ℕ) (state : State) (settled : IsSettled a.ladders t)
      (waits : HasWaiting a t state) (counts : Counts a seats Held t state) (between : state.registers reg.IN_BATCH ≡ 0) where
    -- what holds once a batch has begun or there is none any more, and what holds from then on
    abbrev Begun : State → Type 0
    Begun after = HasWaiting a t after × Counts a seats Held t after × HasBegun a reg.TURNS (state.registers reg.TURNS) (IsWhole a seats) (IsLast a seats) t after

    abbrev AtRest : State → Type 0
    AtRest after = HasWaiting a t after × Counts a seats Held t after × (after.registers reg.IN_BATCH ≡ 0) × (after.registers reg.TURNS ≤ state.registers reg.TURNS)

    tied : List ℕ
    tied = ((batches a.ladders arena.falling).peers t).0

    listed : Lists (IsPeer a.ladders t) tied
    unfolding tied
    listed = ((batches a.ladders arena.falling).peers t).1

    few_now : (i : ℕ) → slice_index t i ≤ most
    few_now = holds_at_most most seats t (omega (arith, counts.left)) few

    begin_batch : sum t + 1 + state.registers reg.TURNS ≡ seats → Achieves c e whole_batch state Begun Never
    begin_batch turns =
        let next : (i : ℕ) × Has a.ladders i (slice_index t i) = room t settled.on (omega (arith, turns)) in
        let some : 0 < length tied = ((batches a.ladders arena.falling).batch t tied settled listed).more next.0 next.1 in
        whole_batch_ways t tied state Begun arena few_now listed waits
        (λ none. absurd (omega (arith, some, none)))
        (λ n is scarce. (
          waits,
          counts_peers t (suc n) state counts,
          NoBatch between (le_refl (state.registers reg.TURNS)) (record { scarce = λ also h. omega (arith, is, scarce, counts.left, as_many a.ladders t tied also listed h) }),
        ))
        (λ n is enough.
        let begun : State = with_register reg.IN_BATCH (suc n) (with_register reg.PEERS (suc n) state) in
        let now : Counts a seats Held t begun = counts_blind reg.IN_BATCH refl refl refl t (suc n) (with_register reg.PEERS (suc n) state) (counts_peers t (suc n) state counts) in (
          waits,
          counts_beginning t begun now,
          OneBegan tied listed some (sym is) refl (record {
            counted = begun_step t begun settled turns now;
            enough = λ also h. omega (arith, is, enough, counts.left, as_many a.ladders t tied also listed h);
          }),
        ))

    rest_batch : IsLast a seats t → Achieves c e whole_batch state AtRest Never
    rest_batch last =
        whole_batch_ways t tied state AtRest arena few_now listed waits
        (λ none. (waits, counts, between, le_refl (state.registers reg.TURNS)))
        (λ n is scarce. (waits, counts_peers t (suc n) state counts, between, le_refl (state.registers reg.TURNS)))
        (λ n is enough. absurd (let more : seats < sum t + length tied = last.scarce tied listed in omega (arith, is, enough, counts.left, more)))

  pub begins_whole : IsArena most a → HasRoom a.ladders seats → seats ≤ most
      → BeginsBatches c e a seats reg.TURNS (IsWhole a seats) (IsLast a seats) (Counts a seats Held) whole_batch
  begins_whole arena room few = record {
    begins = λ t state settled waits counts between turns. begin_batch arena room few t state settled waits counts between turns;
    rests = λ t state settled waits counts between last. rest_batch arena room few t state settled waits counts between last;
    keeps = refl;
  }

  pub fits_whole : FitsLoop (Counts a seats Held) reg.TURNS (counted_seat on)
  fits_whole = record {
    apart = refl;
    own = counts_blind reg.TURNS refl refl refl;
    blind = each_of (IsBlind (Counts a seats Held)) (ones ∷ reg.PEERS ∷ reg.IN_BATCH ∷ [])
        (counts_blind ones refl refl refl, (counts_blind reg.PEERS refl refl refl, (counts_blind reg.IN_BATCH refl refl refl, tt)));
    on_keeps = keeps reg.TURNS refl;
    keeps = rw (keeps reg.IN_BATCH refl, keeps reg.STEP refl) refl;
  }

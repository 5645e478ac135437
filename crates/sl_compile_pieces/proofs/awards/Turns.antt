-- A seat of a batch: one of its peers gets it, and one seat less is to be given.
use Rattle.std.proofs.Common.{◌≡◌, ℕ, suc, ◌+◌, ◌-◌, ◌<◌, ◌≤◌, List, [], ◌∷◌, length, sum, Some, refl, ap, subst, ◌∙◌, inl, inr, arith}
use Rattle.std.specs.Prelude.{slice_index}
use Rattle.sl_base_quotients.specs.declared.entry.Entry.{Entry}
use Rattle.sl_law_meaning.specs.returns.Election.{Election}
use Rattle.sl_law_meaning.specs.laws.Ladders.{Ladders, RaisesEach}
use Rattle.sl_law_meaning.specs.laws.Walks.{MidBatch, WalkLaws}
use Rattle.sl_law_meaning.proofs.methods.RaisedSeats.{raise, Contains-cases, Contains-none}
use Rattle.sl_law_meaning.proofs.methods.LadderProofs.{raise_each}
use Rattle.sl_law_meaning.proofs.methods.SeatSums.{entry_le_sum}
use Rattle.sl_law_meaning.proofs.methods.WalkProofs.{walks}
use Rattle.sl_code_instructions.specs.declared.instr.Instr.TheVariants.{Sub, Take}
use Rattle.sl_code_instructions.specs.declared.operand.Entries.{Entries}
use Rattle.sl_code_instructions.specs.declared.operand.Entries.TheVariants as entries
use Rattle.sl_code_instructions.specs.Codes.{CountingCode}
use Rattle.sl_base_rankings.specs.Ranking.{ranked}
use Rattle.sl_base_rankings.specs.Peers.{top}
use Rattle.sl_code_semantics.specs.State.{State, with_register}
use Rattle.sl_code_semantics.specs.Places.{at_entry}
use Rattle.sl_code_semantics.specs.Effects.{Goes, effect}
use Rattle.sl_compile_plans.specs.Trees.{Tree, Line, Then, ones}
use Rattle.sl_compile_plans.specs.Achieves.{Achieves, Never}
use Rattle.sl_compile_plans.specs.Frames.{KeepsRest, may_write_register}
use Rattle.sl_compile_plans.proofs.Rules.{if_empty, line_first, line_over, achieves_so}
use Rattle.sl_compile_plans.proofs.KeepingRules.{achieves_keeping, free_of}
use Rattle.sl_compile_pieces.specs.arenas.Arenas.{Arena, IsArena, HasWaiting, seat_of, table_of, waiting, seat_taken}
use Rattle.sl_compile_pieces.specs.arenas.Laws.{SeatTaken, Turn}
use Rattle.sl_compile_pieces.specs.arenas.Effects.{IsWaiting}
use Rattle.sl_compile_pieces.proofs.arenas.TableEffects.{waiting_effects}
use Rattle.sl_compile_pieces.proofs.arenas.Turns.{waiting_turns}
use Rattle.sl_compile_pieces.specs.declared.registers.TheConstants as reg
use Rattle.sl_compile_pieces.specs.awards.Trees.{one_seat}
use Rattle.sl_compile_pieces.specs.inner.awards.Batches.{Gets, GivesSeats, FitsLoop}

-- ---- vectors

-- there is a vector with one more seat for the entry
pub raised_once : (t : List ℕ) (entry : ℕ) → entry < length t → RaisesEach (entry ∷ []) t (raise t (entry ∷ []))
raised_once t entry within =
    raise_each t (entry ∷ []) (Contains-none entry, tt)
    (λ i c. elim (Contains-cases entry [] i c) [ inl same ↦ subst (λ (n : ℕ). n < length t) same within | inr none ↦ absurd (Contains-none i none) ])

-- no entry of a vector of no more seats than that holds more
pub holds_at_most : (most seats : ℕ) (t : List ℕ) → sum t ≤ seats → seats ≤ most → (i : ℕ) → slice_index t i ≤ most
holds_at_most most seats t few within i = omega (arith, few, within, entry_le_sum t i)

-- ---- states

-- where the cursors move to an entry, nothing else changes
pub moved : (e : Election) (k : Entries) (index : ℕ) (s : State)
    → at_entry e k index s ≡ record s { party = (at_entry e k index s).party; land = (at_entry e k index s).land; win = (at_entry e k index s).win }
moved e entries.Party index s = refl
moved e _ index s = refl

pub same_registers : (e : Election) (k : Entries) (index : ℕ) (s : State) → (at_entry e k index s).registers ≡ s.registers
same_registers e k index s = ap (λ (u : State). u.registers) (moved e k index s)

-- so a seat that is taken leaves the registers
pub taken_registers : (e : Election) (a : Arena) (entry held : ℕ) (others : List Entry) (s : State) → (seat_taken e a entry held others s).registers ≡ s.registers
taken_registers e a entry held others s = same_registers e a.entries (slice_index a.places entry) (record s { table = Some (table_of a others); mark = a.won entry held })

-- after a seat of a batch the entries hold u, and n seats of the batch are left, with that step
pub record AfterSeat (a : Arena) (Held : List ℕ → State → Type 0) (u : List ℕ) (n number : ℕ) (state : State) : Type 0 where
  pub waits : HasWaiting a u state
  pub held : Held u state
  pub left : state.registers reg.IN_BATCH ≡ n
  pub step : state.registers reg.STEP ≡ number

-- a seat of a batch is given, when these of its peers had theirs and the entries held t: after it n are left
pub record SeatGiven (a : Arena) (Held : List ℕ → State → Type 0) (s peers given t : List ℕ) (n number : ℕ) (state : State) : Type 0 where
  pub entry : ℕ
  pub u : List ℕ
  pub mid : MidBatch a.ladders s peers (entry ∷ given) u
  pub total : sum u ≡ sum t + 1
  pub after : AfterSeat a Held u n number state

module _ (c : CountingCode) (e : Election) (a : Arena) (Held : List ℕ → State → Type 0) (r : ℕ) (on : Tree) (fits : FitsLoop Held r on) where
  -- what is done with a seat leaves the registers of the batch
  keeps_batch : (u : List ℕ) (n number : ℕ) (state after : State) → state.registers reg.IN_BATCH ≡ n → state.registers reg.STEP ≡ number
      → HasWaiting a u after → Held u after → KeepsRest on state after → AfterSeat a Held u n number after
  keeps_batch u n number state after left step waits held kept = assumption (
    kept.registers reg.IN_BATCH (free_of (may_write_register on) (reg.IN_BATCH ∷ reg.STEP ∷ []) fits.keeps reg.IN_BATCH refl) ∙ left,
    kept.registers reg.STEP (free_of (may_write_register on) (reg.IN_BATCH ∷ reg.STEP ∷ []) fits.keeps reg.STEP refl) ∙ step,
  )

  module _ (most : ℕ) (Begun : List ℕ → ℕ → Type 0) (arena : IsArena most a) (gives : GivesSeats c e a most Begun Held on) where
    -- the seat on top of the table is counted, taken and given
    takes_seat : (s peers given t u : List ℕ) (entry n : ℕ) (state : State) (gets : Gets a s peers given t u entry) → ((i : ℕ) → slice_index t i ≤ most)
        → ((i : ℕ) → slice_index u i ≤ most) → top (ranked (waiting a t)) ≡ Some (seat_of a entry (slice_index t entry)) → Begun s (state.registers reg.STEP)
        → state.registers ones ≡ 1 → HasWaiting a t state → Held t state → state.registers reg.IN_BATCH ≡ suc n
        → Achieves c e (Then (Line (Sub reg.IN_BATCH ones ∷ (Take ∷ []))) on) state (AfterSeat a Held u n (state.registers reg.STEP)) Never
    takes_seat s peers given t u entry n state gets few few_after first begun one waits held left =
        let others : List Entry = gets.taken.others in
        let counted : State = with_register reg.IN_BATCH (state.registers reg.IN_BATCH - state.registers ones) state in
        let less : state.registers reg.IN_BATCH - state.registers ones ≡ n = omega (arith, left, one) in
        let taken : State = seat_taken e a entry (slice_index t entry) others counted in
        let same : taken.registers ≡ counted.registers = taken_registers e a entry (slice_index t entry) others counted in
        let is_waiting : IsWaiting a t entry others = record { has = gets.has; seats = gets.taken.before } in
        let takes : effect c e Take counted ≡ Goes taken = (waiting_effects c e most a t counted arena few waits).takes entry others is_waiting first in
        line_first refl (line_first takes
        (line_over (achieves_keeping (gives.gives s peers given t u entry counted gets few_after begun one waits (fits.blind reg.IN_BATCH refl t _ state held))
        (λ v h kept. keeps_batch u n (state.registers reg.STEP) taken v (ap (λ f. f reg.IN_BATCH) same ∙ less) (ap (λ f. f reg.STEP) same) h.0 h.1 kept))))

    -- the plan of a seat, within a batch of which seats are left
    pub gives_seat : (seats n : ℕ) (s peers given t : List ℕ) (state : State) → seats ≤ most → sum t < seats
        → MidBatch a.ladders s peers given t → length given + suc n ≡ length peers
        → Begun s (state.registers reg.STEP) → state.registers ones ≡ 1 → HasWaiting a t state → Held t state → state.registers reg.IN_BATCH ≡ suc n
        → Achieves c e (one_seat on) state (SeatGiven a Held s peers given t n (state.registers reg.STEP)) Never
    gives_seat seats n s peers given t state within room mid many begun one waits held left =
        let l : Ladders = a.ladders in
        let few : (i : ℕ) → slice_index t i ≤ most = holds_at_most most seats t (omega (arith, room)) within in
        let turn : Turn a s peers given t = waiting_turns most a s peers given t arena few mid (omega (arith, many)) in
        let entry : ℕ = turn.entry in
        let there : entry < length t = omega (arith, arena.falling.within entry (slice_index t entry) turn.has, mid.settled.on.same_length, mid.raised.same_length) in
        let u : List ℕ = raise t (entry ∷ []) in
        let raised : RaisesEach (entry ∷ []) t u = raised_once t entry there in
        let goes : MidBatch l s peers (entry ∷ given) u × SeatTaken a entry t u = turn.goes u raised in
        let walk : WalkLaws l = walks l arena.falling in
        let after : sum u ≡ sum s + suc (length given) = (walk.within s peers (entry ∷ given) u goes.0).total in
        let total : sum u ≡ sum t + 1 = omega (arith, (walk.within s peers given t mid).total, after) in
        let few_after : (i : ℕ) → slice_index u i ≤ most = holds_at_most most seats u (omega (arith, total, room)) within in
        let gets : Gets a s peers given t u entry = assumption in
        if_empty {t = table_of a (waiting a t)} waits
        (λ none. let some = turn.some in absurd (omega (arith, some, none)))
        (λ m is.
        let counted : State = with_register reg.PEERS (suc m) state in
        achieves_so (takes_seat s peers given t u entry n counted gets few few_after turn.first begun one waits (fits.blind reg.PEERS refl t (suc m) state held) left)
        (λ v h. record { u = u; entry = entry; mid = goes.0; total = total; after = h }))

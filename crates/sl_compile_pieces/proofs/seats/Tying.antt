-- A lot that leaves a tie ends the run with it.
use Rattle.std.proofs.Common.{◌≡◌, ℕ, ◌-◌, ◌<◌, ◌≤◌, List, [], ◌∷◌, map, sum, length, Some, slice_get, Contains, refl, ap, ◌∙◌, arith}
use Rattle.std.specs.Prelude.{slice_index}
use Rattle.std.specs.Option.{option_map}
use Rattle.sl_base_quotients.specs.declared.entry.Entry.{Entry}
use Rattle.sl_base_quotients.specs.declared.limits.TheConstants.{MAX_SEATS}
use Rattle.sl_law_meaning.specs.declared.fault.Item.{Item}
use Rattle.sl_law_meaning.specs.declared.fault.FaultKind.TheVariants as fault
use Rattle.sl_law_meaning.specs.declared.table.Weight.{Weight}
use Rattle.sl_law_meaning.specs.returns.Election.{Election}
use Rattle.sl_law_meaning.specs.methods.Ties.{AreTied, NamesAll}
use Rattle.sl_law_meaning.specs.meaning.Scopes.{Group}
use Rattle.sl_law_meaning.specs.meaning.Splits.{entries_at}
use Rattle.sl_law_meaning.specs.meaning.Results.{fault_at}
use Rattle.sl_law_meaning.specs.laws.Ladders.{IsPeer, IsTop}
use Rattle.sl_law_meaning.proofs.methods.RaisedSeats.{Contains-none, Contains-head, Contains-tail}
use Rattle.sl_law_meaning.proofs.methods.SeatSums.{entry_le_sum}
use Rattle.sl_code_instructions.specs.Codes.{CountingCode}
use Rattle.sl_base_rankings.specs.Ranking.{ranked}
use Rattle.sl_base_rankings.specs.Peers.{top, peers}
use Rattle.sl_code_semantics.specs.State.{State, Faulted}
use Rattle.sl_code_semantics.specs.Places.{item_of}
use Rattle.sl_code_semantics.proofs.effects.Records.{tie_ends}
use Rattle.sl_compile_plans.proofs.Rules.{stop_achieves}
use Rattle.sl_compile_pieces.specs.scopes.Forms.{Form, kind_of}
use Rattle.sl_compile_pieces.specs.arenas.Arenas.{Arena, seat_of, waiting, table_of}
use Rattle.sl_compile_pieces.specs.arenas.Laws.{PeersWait}
use Rattle.sl_compile_pieces.proofs.arenas.Peers.{waiting_peers}
use Rattle.sl_compile_pieces.specs.declared.registers.TheConstants as reg
use Rattle.sl_compile_pieces.specs.inner.awards.Awards.{EndsTied}
use Rattle.sl_compile_pieces.specs.seats.Slots.{Slots, HasSlots}
use Rattle.sl_compile_pieces.specs.seats.Trees.{tied}
use Rattle.sl_compile_pieces.specs.inner.seats.Seated.{IsSeated}
use Rattle.sl_compile_pieces.specs.inner.seats.Seating.{EndsInTie}
use Rattle.sl_compile_pieces.proofs.seats.SeatingArenas.{OfScope, place_is, entry_there}

-- ---- what a tie says

some_there : (xs : List ℕ) (i : ℕ) → Contains xs i → 0 < length xs
some_there [] i c = absurd (Contains-none i c)
some_there (x ∷ xs) i c = omega arith

-- some entry is tied, so that some seat is
pub first_tied : (lot among : List ℕ) → ¬ NamesAll lot among → (i : ℕ) × (slice_get among 0 ≡ Some i) × Contains among i
first_tied lot [] missing = absurd (missing (λ i c. absurd (Contains-none i c)))
first_tied lot (i ∷ is) missing = (i, refl, Contains-head i is)

some_seat : (X : List ℕ → Type 0) (among : List ℕ) (k i : ℕ) → AreTied X among k → Contains among i → 0 < k
some_seat X among k i are there =
    let tie = are.entries.has_only i there in
    let raised = are.number tie.0 tie.1 in
    omega (arith, some_there raised.0 i (raised.1.has i tie.2), raised.2)

-- ---- the entries that are tied

module _ (e : Election) (f : Form) (g : Group) (a : Arena) (of : OfScope e f g a) (s : List ℕ) where
  -- the items of their next seats are those of the entries
  items_are : (js : List ℕ) → ((j : ℕ) → Contains js j → IsPeer a.ladders s j) →
      map (λ (y : Entry). item_of e a.entries y.index) (map (λ j. seat_of a j (slice_index s j)) js) ≡ entries_at g.entries js
  items_are [] each = refl
  items_are (j ∷ js) each =
      let found : (i : Item) × (slice_get g.entries j ≡ Some i) = entry_there e f g a of j (slice_index s j) (each j (Contains-head j js)).next in
      let i : Item = found.0 in
      let here : item_of e a.entries (slice_index a.places j) ≡ i = (λ z. item_of e (of.entries z) (place_is e f g a of j i found.1 z)) ∙ (of.scope.entry j i found.1).item in
      rw found.1 ((λ z. here z ∷ items_are js (λ k c. each k (Contains-tail j js k c)) z))

module _ (c : CountingCode) (e : Election) (f : Form) (x : Slots) (name : List ℕ) (g : Group) (a : Arena) (v : List ℕ) (seats : ℕ) (told : List Weight) (meant : List ℕ) (before : State)
    (slots : HasSlots c f x name) (of : OfScope e f g a) (few : seats ≤ MAX_SEATS) where
  pub ties_end : EndsTied c e a seats meant (IsSeated e x g a v seats told before) (EndsInTie x g a seats meant) (tied f x)
  ties_end = record {
    ends = λ s among state settled listed waits seated left choice.
        let some : (i : ℕ) × (slice_get among 0 ≡ Some i) × Contains among i = first_tied meant among choice.1 in
        let more : 0 < seats - sum s = some_seat (IsTop a.ladders seats) among (seats - sum s) some.0 choice.0 some.2 in
        let low : (i : ℕ) → slice_index s i ≤ MAX_SEATS = λ i. let all = entry_le_sum s i in omega (arith, all, more, few) in
        let next : Entry = seat_of a some.0 (slice_index s some.0) in
        let peer : PeersWait a s among = waiting_peers MAX_SEATS a s among of.arena low listed in
        let first : top (ranked (waiting a s)) ≡ Some next = peer.first ∙ ap (option_map (λ i. seat_of a i (slice_index s i))) some.1 in
        let items : map (λ (y : Entry). item_of e a.entries y.index) (peers (ranked (waiting a s))) ≡ entries_at g.entries among =
        ap (map (λ (y : Entry). item_of e a.entries y.index)) peer.seats ∙ items_are e f g a of s among listed.has_only in
        stop_achieves (tie_ends c e state x.stage (kind_of f) x.stage g.scope slots.stage (of.scope.kind state seated.on) reg.LEFT (table_of a (waiting a s)) next waits first)
        (record { number = seats - sum s; among = among; choice = choice; is = λ z. Faulted (fault_at x.stage g.scope (fault.Tie (left z) (items z))) });
  }

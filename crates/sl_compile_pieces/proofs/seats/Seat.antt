-- The entry of a seat gets it: its cell is one more, the record is kept, its next seat waits again; and what stands in the scope still stands.
use Rattle.std.proofs.Common.{◌≡◌, ◌≢◌, ℕ, ◌+◌, ◌≤◌, min, List, [], ◌∷◌, ◌++◌, Some, slice_get, refl, sym, ap, subst, ◌∙◌, arith, false, inl, inr}
use Rattle.std.specs.Prelude.{slice_index}
use Rattle.std.proofs.lemmas.Bool.{cases_eq, or_parts}
use Rattle.std.proofs.lemmas.Option.{same_Some}
use Rattle.sl_base_quotients.specs.declared.entry.Entry.{Entry}
use Rattle.sl_base_quotients.specs.declared.limits.TheConstants.{MAX_SEATS}
use Rattle.sl_law_meaning.specs.declared.fault.Item.{Item}
use Rattle.sl_law_meaning.specs.declared.table.Mark.{Mark}
use Rattle.sl_law_meaning.specs.declared.table.SeatStep.{SeatStep}
use Rattle.sl_law_meaning.specs.returns.Election.{Election}
use Rattle.sl_law_meaning.specs.meaning.Scopes.{Group, place}
use Rattle.sl_law_meaning.specs.declared.table.Weight.{Weight}
use Rattle.sl_law_meaning.specs.laws.Ladders.{Has}
use Rattle.sl_code_instructions.specs.declared.instr.Instr.TheVariants.{Get, Store, Emit, Add}
use Rattle.sl_code_instructions.specs.declared.operand.Entries.{Entries}
use Rattle.sl_code_instructions.specs.Codes.{CountingCode}
use Rattle.sl_code_semantics.specs.State.{State, PriorityTable, with_register, with_cell}
use Rattle.sl_code_semantics.specs.Places.{index_at, item_of, at_entry}
use Rattle.sl_code_semantics.specs.Effects.{most, with_step}
use Rattle.sl_code_semantics.proofs.effects.Registers.{get_does, store_does}
use Rattle.sl_code_semantics.proofs.effects.Records.{emit_does}
use Rattle.sl_code_semantics.proofs.effects.Storing.{cell_same, cell_other_place, cell_other_slot}
use Rattle.sl_compile_plans.specs.Trees.{Line, ones, Tree}
use Rattle.sl_compile_plans.specs.Achieves.{Achieves, Never}
use Rattle.sl_compile_plans.proofs.Rules.{line_ends, line_goes, then_achieves}
use Rattle.sl_compile_plans.specs.Frames.{may_write_register, may_record_weight, KeepsRest}
use Rattle.sl_compile_plans.proofs.KeepingRules.{achieves_keeping, each_of}
use Rattle.sl_compile_pieces.specs.scopes.Forms.{Form, votes_of, table_of, kind_of, OnItem}
use Rattle.sl_compile_pieces.specs.scopes.Scopes.{IsEntry}
use Rattle.sl_compile_pieces.specs.arenas.Arenas.{Arena, table_of as table_with, seat_taken, HasWaiting}
use Rattle.sl_compile_pieces.specs.declared.registers.TheConstants as reg
use Rattle.sl_compile_pieces.proofs.awards.Turns.{moved}
use Rattle.sl_compile_pieces.specs.seats.Slots.{Slots, HasSlots, HasCells}
use Rattle.sl_compile_pieces.proofs.seats.Steps.{awarded_step, one_more, others_same, above_base, steps_grow}
use Rattle.sl_compile_pieces.proofs.seats.SeatingArenas.{OfScope, place_is, places_differ, entry_there}
use Rattle.sl_compile_pieces.proofs.scopes.Staying.{scope_stays}
use Rattle.sl_compile_pieces.specs.arenas.Laws.{SeatTaken}
use Rattle.sl_compile_pieces.specs.inner.awards.Batches.{Gets, GivesSeats, IsBlind}
use Rattle.sl_compile_pieces.specs.inner.awards.Awards.{IsCounted, FitsAwards, award_registers}
use Rattle.sl_compile_pieces.specs.seats.Trees.{seat}
use Rattle.sl_compile_pieces.specs.inner.seats.Seated.{IsSeated}
use Rattle.sl_compile_pieces.proofs.seats.Unchanged.{unchanged, seated_unchanged, register_kept}
use Rattle.sl_compile_pieces.specs.inner.seats.Filling.{Leaves}

-- ---- the state after the seat was taken

-- the cursors stand at the entry, the table holds the others, and the mark is that of the seat
pub record IsTaken (i : Item) (t : PriorityTable) (m : Mark) (before after : State) : Type 0 where
  pub on_item : OnItem i after
  pub registers : after.registers ≡ before.registers
  pub columns : after.columns ≡ before.columns
  pub table : after.table ≡ Some t
  pub mark : after.mark ≡ m
  pub steps : after.steps ≡ before.steps
  pub weights : after.weights ≡ before.weights
  pub placed : after.placed ≡ before.placed

pub seat_is_taken : (e : Election) (f : Form) (g : Group) (a : Arena) (j held : ℕ) (i : Item) (others : List Entry) (s : State) → OfScope e f g a → slice_get g.entries j ≡ Some i →
    IsTaken i (table_with a others) (a.won j held) s (seat_taken e a j held others s)
seat_is_taken e f g a j held i others s of at =
    let before : State = record s { table = Some (table_with a others); mark = a.won j held } in
    let same : at_entry e (table_of f) (place e i) before ≡ seat_taken e a j held others s = λ z. at_entry e (sym of.entries z) (sym (place_is e f g a of j i at) z) before in
    let move = moved e a.entries (slice_index a.places j) before in
    record {
      on_item = subst (λ (u : State). OnItem i u) same ((of.scope.entry j i at).set before);
      registers = ap (λ (u : State). u.registers) move;
      columns = ap (λ (u : State). u.columns) move;
      table = ap (λ (u : State). u.table) move;
      mark = ap (λ (u : State). u.mark) move;
      steps = ap (λ (u : State). u.steps) move;
      weights = ap (λ (u : State). u.weights) move;
      placed = ap (λ (u : State). u.placed) move;
    }

-- ---- the line of a seat

-- the entry at that place holds one seat more than n, with this record
pub record IsGiven (x : Slots) (p n : ℕ) (i : Item) (r : SeatStep) (before after : State) : Type 0 where
  pub on_item : OnItem i after
  pub held : after.registers reg.HELD ≡ n + 1
  pub amount : after.registers reg.AMOUNT ≡ before.registers reg.AMOUNT
  pub total : after.registers reg.TOTAL ≡ before.registers reg.TOTAL
  pub cell : after.columns x.result p ≡ n + 1
  pub elsewhere : (q : ℕ) → q ≢ p → after.columns x.result q ≡ before.columns x.result q
  pub columns : (slot q : ℕ) → slot ≢ x.result → after.columns slot q ≡ before.columns slot q
  pub table : after.table ≡ before.table
  pub steps : after.steps ≡ before.steps ++ r ∷ []
  pub weights : after.weights ≡ before.weights
  pub placed : after.placed ≡ before.placed

module _ (c : CountingCode) (e : Election) (f : Form) (x : Slots) (name : List ℕ) (g : Group) (a : Arena) (j n : ℕ) (i : Item) (slots : HasSlots c f x name) (of : OfScope e f g a)
    (at : slice_get g.entries j ≡ Some i) where
  entry : IsEntry e (table_of f) (votes_of f) g.scope i
  entry = of.scope.entry j i at

  -- the record that is kept where the cursors stand at the entry, and the register holds that number
  module _ (t : PriorityTable) (kind : t.entries ≡ table_of f) (s : State) (on : OnItem i s) (table : s.table ≡ Some t) (held : s.registers reg.HELD ≡ n + 1) where
    emits : {Q : State → Type 0} →
        Q (with_step (awarded_step x.stage g.scope i n (s.registers reg.STEP) s.mark) s) →
        Achieves c e (Line (Emit x.stage (kind_of f) reg.HELD reg.STEP ∷ [])) s Q Never
    emits {Q = Q} h =
        let index : index_at e t.entries s ≡ Some (place e i) = ap (λ (k : Entries). index_at e k s) kind ∙ entry.index s on in
        let item : item_of e t.entries (place e i) ≡ i = ap (λ (k : Entries). item_of e k (place e i)) kind ∙ entry.item in
        let told : SeatStep = record { stage = x.stage; scope = g.scope; entry = item_of e t.entries (place e i); n = s.registers reg.HELD; step = s.registers reg.STEP; mark = s.mark } in
        let is : awarded_step x.stage g.scope i n (s.registers reg.STEP) s.mark ≡ told =
        λ z. record { stage = x.stage; scope = g.scope; entry = sym item z; n = sym held z; step = s.registers reg.STEP; mark = s.mark } in
        line_goes (emit_does c e s x.stage (kind_of f) x.stage g.scope slots.stage (of.scope.kind s (entry.scope s on)) t (place e i) table index reg.HELD reg.STEP)
        (line_ends (subst (λ (r : SeatStep). Q (with_step r s)) is h))

  module _ (s : State) (on : OnItem i s) where
    abbrev p : ℕ
    p = place e i

    abbrev read : State
    read = with_register reg.HELD (s.columns x.result p) s

    abbrev counted : State
    counted = with_register reg.HELD (min (s.columns x.result p + s.registers ones) most) read

    abbrev stored : State
    stored = with_cell x.result p (min (s.columns x.result p + s.registers ones) most) counted

    module _ (t : PriorityTable) (kind : t.entries ≡ table_of f) (table : s.table ≡ Some t) (had : s.columns x.result p ≡ n) (few : n + 1 ≤ MAX_SEATS)
        (one : s.registers ones ≡ 1) where
      next : min (s.columns x.result p + s.registers ones) most ≡ n + 1
      next = omega (arith, had, few, one)

      given_here : IsGiven x p n i (awarded_step x.stage g.scope i n (s.registers reg.STEP) s.mark) s (with_step (awarded_step x.stage g.scope i n (s.registers reg.STEP) s.mark) stored)
      given_here = record {
        on_item = on;
        held = next;
        amount = refl;
        total = refl;
        cell = cell_same counted x.result p (min (s.columns x.result p + s.registers ones) most) ∙ next;
        elsewhere = λ q other. cell_other_place counted x.result p (min (s.columns x.result p + s.registers ones) most) q other;
        columns = λ slot q other. cell_other_slot counted x.result p (min (s.columns x.result p + s.registers ones) most) slot q other;
        table = refl;
        steps = refl;
        weights = refl;
        placed = refl;
      }

      pub seat_is_given : Achieves c e (Line (Get reg.HELD x.result ∷ (Add reg.HELD ones ∷ (Store x.result reg.HELD ∷ (Emit x.stage (kind_of f) reg.HELD reg.STEP ∷ []))))) s
          (IsGiven x p n i (awarded_step x.stage g.scope i n (s.registers reg.STEP) s.mark) s) Never
      seat_is_given =
          line_goes (get_does c e s x.result (votes_of f) slots.result reg.HELD p (entry.cell s on))
          (line_goes refl
          (line_goes (store_does c e counted x.result (votes_of f) slots.result reg.HELD p (entry.cell counted on))
          (emits t kind stored on table next given_here)))

-- ---- the entry's next seat, and the scope

-- what is asked of the plan by which an entry's next seat waits again: it writes nothing that stands while seats are distributed, and no register
-- of the awards
pub record ReEnters (c : CountingCode) (e : Election) (x : Slots) (g : Group) (a : Arena) (v : List ℕ) (again : Tree) : Type 0 where
  pub enters : (t u : List ℕ) (j : ℕ) (i : Item) (s : State) (taken : SeatTaken a j t u) → slice_get g.entries j ≡ Some i → Has a.ladders j (slice_index t j) →
      slice_index a.ladders.base j ≤ slice_index t j → slice_index u j ≡ slice_index t j + 1 → slice_index u j ≤ MAX_SEATS → OnItem i s →
      s.registers reg.HELD ≡ slice_index u j → HasCells e g.entries (s.columns x.votes) v → s.table ≡ Some (table_with a taken.others) →
      Achieves c e again s (HasWaiting a u) Never
  pub leaves : Leaves (reg.AMOUNT ∷ reg.TOTAL ∷ award_registers) again
  pub weights : may_record_weight again ≡ false

module _ (c : CountingCode) (e : Election) (f : Form) (x : Slots) (name : List ℕ) (g : Group) (a : Arena) (v : List ℕ) (seats : ℕ) (told : List Weight) (before : State)
    (slots : HasSlots c f x name) (of : OfScope e f g a) where
  -- a plan that writes none of it
  seated_still : (again : Tree) (re : ReEnters c e x g a v again) (u : List ℕ) (s t : State) → KeepsRest again s t →
      IsSeated e x g a v seats told before u s → IsSeated e x g a v seats told before u t
  seated_still again re u s t kept seated =
      let leaves = re.leaves in
      seated_unchanged e x g a v seats told before u s t seated (unchanged again s t (record { columns = leaves.columns; steps = leaves.steps; weights = re.weights; placed = leaves.placed }) kept)
      (scope_stays g.scope s t (kept.party leaves.party) (kept.land leaves.land) seated.on) (register_kept leaves kept reg.AMOUNT refl) (register_kept leaves kept reg.TOTAL refl)

  -- ---- a seat more

  module _ (s peers given t u : List ℕ) (j : ℕ) (i : Item) (gets : Gets a s peers given t u j) (at : slice_get g.entries j ≡ Some i) (tab : PriorityTable) (m : Mark) (r : SeatStep)
      (state now next : State) (taken : IsTaken i tab m state now) (got : IsGiven x (place e i) (slice_index t j) i r now next) (seated : IsSeated e x g a v seats told before t state) where
    cell_next : (k : ℕ) (h : Item) → slice_get g.entries k ≡ Some h → next.columns x.result (place e h) ≡ slice_index u k
    cell_next k h there =
        elim (cases_eq k j) [
          | inl same ↦
              let is : h ≡ i = same_Some h i (sym there ∙ ap (slice_get g.entries) same ∙ at) in
              ap (λ y. next.columns x.result (place e y)) is ∙ got.cell ∙ sym (one_more gets) ∙ ap (slice_index u) (sym same)
          | inr other ↦
              got.elsewhere (place e h) (places_differ e g f of.scope k j h i there at other)
              ∙ ap (λ (y : ℕ → ℕ → ℕ). y x.result (place e h)) taken.columns
              ∙ seated.cells.at k h there
              ∙ sym (others_same gets k other)
        ]

    seated_next : (step : ℕ) (begun : IsCounted a seats s step) → r ≡ awarded_step x.stage g.scope i (slice_index t j) step (a.won j (slice_index t j)) →
        IsSeated e x g a v seats told before u next
    seated_next step begun is = record {
      on = (of.scope.entry j i at).scope next got.on_item;
      amount = got.amount ∙ ap (λ (y : ℕ → ℕ). y reg.AMOUNT) taken.registers ∙ seated.amount;
      total = got.total ∙ ap (λ (y : ℕ → ℕ). y reg.TOTAL) taken.registers ∙ seated.total;
      cells = record { one_each = gets.raised.same_length ∙ seated.cells.one_each; at = cell_next };
      elsewhere = λ q none. got.elsewhere q (λ same. none j i at (sym same)) ∙ ap (λ (y : ℕ → ℕ → ℕ). y x.result q) taken.columns ∙ seated.elsewhere q none;
      columns = λ slot q other. got.columns slot q other ∙ ap (λ (y : ℕ → ℕ → ℕ). y slot q) taken.columns ∙ seated.columns slot q other;
      steps = steps_grow gets of.arena.falling begun x g i before.steps state.steps next.steps at seated.steps
          (got.steps ∙ (λ z. taken.steps z ++ is z ∷ []));
      weights = got.weights ∙ taken.weights ∙ seated.weights;
      placed = λ w. ap (λ y. y w) (got.placed ∙ taken.placed) ∙ seated.placed w;
    }

  -- ---- the plan

  module _ (again : Tree) (re : ReEnters c e x g a v again) (votes : HasCells e g.entries (before.columns x.votes) v) where
    pub seats_are_given : GivesSeats c e a MAX_SEATS (IsCounted a seats) (IsSeated e x g a v seats told before) (seat f x again)
    seats_are_given = record {
      gives = λ s peers given t u j state gets few begun one waits seated.
          let entry : (i : Item) × (slice_get g.entries j ≡ Some i) = entry_there e f g a of j (slice_index t j) gets.has in
          let i : Item = entry.0 in
          let at : slice_get g.entries j ≡ Some i = entry.1 in
          let held : ℕ = slice_index t j in
          let now : State = seat_taken e a j held gets.taken.others state in
          let taken : IsTaken i (table_with a gets.taken.others) (a.won j held) state now = seat_is_taken e f g a j held i gets.taken.others state of at in
          let more : slice_index u j ≡ held + 1 = one_more gets in
          let low : slice_index a.ladders.base j ≤ held = above_base gets in
          let high : slice_index u j ≤ MAX_SEATS = few j in
          let step : ℕ = now.registers reg.STEP in
          let counted : IsCounted a seats s step = subst (λ (y : ℕ → ℕ). IsCounted a seats s (y reg.STEP)) (sym taken.registers) begun in
          let mine : SeatStep = awarded_step x.stage g.scope i held step now.mark in
          let is : mine ≡ awarded_step x.stage g.scope i held step (a.won j held) = ap (awarded_step x.stage g.scope i held step) taken.mark in
          let had : now.columns x.result (place e i) ≡ held = ap (λ (y : ℕ → ℕ → ℕ). y x.result (place e i)) taken.columns ∙ seated.cells.at j i at in
          then_achieves {Q = IsGiven x (place e i) held i mine now}
          (seat_is_given c e f x name g a j held i slots of at now taken.on_item (table_with a gets.taken.others) of.entries taken.table had (omega (arith, more, high))
          (ap (λ (y : ℕ → ℕ). y ones) taken.registers ∙ one))
          (λ next got.
          let after : IsSeated e x g a v seats told before u next =
          seated_next s peers given t u j i gets at (table_with a gets.taken.others) (a.won j held) mine state now next taken got seated step counted is in
          let still : HasCells e g.entries (next.columns x.votes) v =
          record { one_each = votes.one_each; at = λ k h there. after.columns x.votes (place e h) slots.not_votes ∙ votes.at k h there } in
          achieves_keeping
          (re.enters t u j i next gets.taken at gets.has low more high got.on_item (got.held ∙ sym more) still (got.table ∙ taken.table))
          (λ end r kept. (r, seated_still again re u next end kept after)));
    }

    pub seats_fit : FitsAwards (IsSeated e x g a v seats told before) (seat f x again)
    seats_fit = record {
      keeps = (or_parts (may_write_register again reg.TOTAL) _ (or_parts (may_write_register again reg.AMOUNT) _ re.leaves.registers).1).1;
      blind = each_of (IsBlind (IsSeated e x g a v seats told before)) (ones ∷ reg.PEERS ∷ award_registers)
          (λ t n s h. h, (λ t n s h. h, (λ t n s h. h, (λ t n s h. h, (λ t n s h. h, (λ t n s h. h, (λ t n s h. h, tt)))))));
    }

-- The entries of a scope get their first seats one after another, and their next ones enter the table.
use Rattle.std.proofs.Common.{◌≡◌, ◌≢◌, ℕ, ◌+◌, ◌-◌, ◌<◌, Bool, true, false, nat_lt, if◌then◌else◌, List, [], ◌∷◌, ◌++◌, length, map, take, Some, sum, refl, sym, ap, ◌∙◌, append-nil, lt-ltb, le-ltb, arith, ◌≤◌, subst, inl, inr}
use Rattle.std.specs.Prelude.{flat_map, slice_get, slice_index}
use Rattle.std.specs.List.{range_with_len, enumerate_from}
use Rattle.std.proofs.lemmas.List.{length-map}
use Rattle.std.proofs.lemmas.List.Sorted.{IsPermutation-append_comm}
use Rattle.std.proofs.lemmas.Option.{slice_get_within, same_Some}
use Rattle.std.proofs.lemmas.Bool.{cases_lt}
use Rattle.sl_base_quotients.specs.declared.entry.Entry.{Entry}
use Rattle.sl_base_quotients.specs.declared.limits.TheConstants.{MAX_SEATS}
use Rattle.sl_law_meaning.specs.declared.fault.Item.{Item}
use Rattle.sl_law_meaning.specs.declared.table.SeatStep.{SeatStep}
use Rattle.sl_law_meaning.specs.declared.table.Weight.{Weight}
use Rattle.sl_law_meaning.specs.returns.Election.{Election}
use Rattle.sl_law_meaning.specs.meaning.Scopes.{Group, place}
use Rattle.sl_law_meaning.proofs.methods.SeatSums.{entry_le_sum}
use Rattle.sl_code_instructions.specs.declared.operand.Ranking.{Ranking}
use Rattle.sl_code_instructions.specs.declared.instr.Instr.TheVariants.{Set, Mov, Sub, Get, Store}
use Rattle.sl_code_instructions.specs.Codes.{CountingCode}
use Rattle.sl_base_rankings.specs.Ranking.{ranked}
use Rattle.sl_base_rankings.proofs.RankedEntries.{ranked_alike}
use Rattle.sl_code_semantics.specs.State.{State, with_register, with_cell}
use Rattle.sl_code_semantics.specs.Places.{index_at, item_of}
use Rattle.sl_code_semantics.proofs.effects.Registers.{get_does, store_does}
use Rattle.sl_code_semantics.proofs.effects.Storing.{cell_same, cell_other_place, cell_other_slot}
use Rattle.sl_compile_plans.specs.Frames.{KeepsRest}
use Rattle.sl_compile_plans.specs.Trees.{Tree, Line}
use Rattle.sl_compile_plans.specs.Achieves.{Achieves, Never}
use Rattle.sl_compile_plans.proofs.Rules.{line_ends, line_goes, then_achieves, then_at, if_zero, achieves_so}
use Rattle.sl_compile_plans.proofs.KeepingRules.{achieves_keeping}
use Rattle.sl_compile_pieces.specs.scopes.Forms.{Form, votes_of, table_of, kind_of, OnItem}
use Rattle.sl_compile_pieces.specs.arenas.Arenas as arenas
use Rattle.sl_compile_pieces.specs.arenas.Arenas.{Arena, seat_of, next_seat}
use Rattle.sl_compile_pieces.specs.declared.registers.TheConstants as reg
use Rattle.sl_compile_pieces.specs.seats.Slots.{Slots, HasSlots, HasCells, HasMinima}
use Rattle.sl_compile_pieces.specs.inner.seats.Filling.{IsOfScope, told_of, Leaves, AtEntry, FindsBase, EntersNext}
use Rattle.sl_compile_pieces.proofs.seats.Lists.{pieces_more, number_at, numbered_at, row_more, sum_so_far, rises_far}
use Rattle.sl_compile_pieces.proofs.seats.GivenSeats.{given_seat, records_all, seats_recorded}
use Rattle.sl_compile_pieces.proofs.seats.Unchanged.{register_kept}
use Rattle.sl_compile_pieces.specs.scopes.Scopes.{IsEntry, IsScope}
use Rattle.sl_compile_pieces.specs.inner.scopes.Walks.{bare}
use Rattle.sl_compile_pieces.proofs.scopes.Staying.{item_stays}
use Rattle.sl_compile_pieces.specs.seats.Trees.{give_seats, fill_entry}
use Rattle.sl_compile_pieces.proofs.seats.Minima.{minima_kept}

-- ---- of the first entries: their next seats, the records of their first ones, and their weights that are recorded

abbrev pub first_waiting : Arena → ℕ → List Entry
first_waiting a j = flat_map (next_seat a a.ladders.base) (take j (range_with_len 0 (length a.places)))

abbrev pub given_to : ℕ → Group → Arena → ℕ × Item → List SeatStep
given_to stage g a y = map (given_seat stage g.scope y.1) (range_with_len 0 (slice_index a.ladders.base y.0))

abbrev pub first_given : ℕ → Group → Arena → ℕ → List SeatStep
first_given stage g a j = flat_map (given_to stage g a) (take j (enumerate_from 0 g.entries))

abbrev pub first_told : Group → List ℕ → (ℕ → Item → List Weight) → ℕ → List Weight
first_told g v told j = flat_map (λ y. told_of told v y.0 y.1) (take j (enumerate_from 0 g.entries))

-- ---- one entry more

module _ (g : Group) (j : ℕ) (i : Item) (at : slice_get g.entries j ≡ Some i) where
  entry_at : slice_get (enumerate_from 0 g.entries) j ≡ Some (j, i)
  entry_at = numbered_at g.entries j i at

  pub given_more : (stage : ℕ) (a : Arena) → first_given stage g a (j + 1) ≡ first_given stage g a j ++ map (given_seat stage g.scope i) (range_with_len 0 (slice_index a.ladders.base j))
  given_more stage a = pieces_more (given_to stage g a) (enumerate_from 0 g.entries) j (j, i) entry_at

  module _ (v : List ℕ) (told : ℕ → Item → List Weight) where
    told_at : (b : Bool) → nat_lt 0 (slice_index v j) ≡ b → first_told g v told (j + 1) ≡ first_told g v told j ++ (if b then told j i else [])
    told_at b is = pieces_more (λ y. told_of told v y.0 y.1) (enumerate_from 0 g.entries) j (j, i) entry_at ∙ ap (λ t. first_told g v told j ++ (if t then told j i else [])) is

    pub told_more : 0 < slice_index v j → first_told g v told (j + 1) ≡ first_told g v told j ++ told j i
    told_more some = told_at true (lt-ltb 0 (slice_index v j) some)

    pub told_same : slice_index v j ≡ 0 → first_told g v told (j + 1) ≡ first_told g v told j
    told_same none = told_at false (le-ltb 0 (slice_index v j) (omega (arith, none))) ∙ append-nil (first_told g v told j)

  module _ {e : Election} {f : Form} {by : Ranking} {v : List ℕ} {a : Arena} (of : IsOfScope e f g by v a) where
    waiting_at : (b : Bool) → nat_lt 0 (slice_index v j) ≡ b → first_waiting a (j + 1) ≡ first_waiting a j ++ (if b then seat_of a j (slice_index a.ladders.base j) ∷ [] else [])
    waiting_at b is =
        let within : j < length g.entries = slice_get_within g.entries j i at in
        let long : length a.places ≡ length g.entries = ap (λ places. length places) of.places ∙ length-map g.entries (place e) in
        let number : slice_get (range_with_len 0 (length a.places)) j ≡ Some j = number_at (length a.places) j (omega (arith, within, long)) in
        pieces_more (next_seat a a.ladders.base) (range_with_len 0 (length a.places)) j j number
        ∙ ap (λ t. first_waiting a j ++ (if t then seat_of a j (slice_index a.ladders.base j) ∷ [] else [])) (of.next j within ∙ is)

    -- it waits beside those before it
    pub waiting_more : 0 < slice_index v j → arenas.table_of a (seat_of a j (slice_index a.ladders.base j) ∷ first_waiting a j) ≡ arenas.table_of a (first_waiting a (j + 1))
    waiting_more some =
        let x : Entry = seat_of a j (slice_index a.ladders.base j) in
        let more : first_waiting a (j + 1) ≡ first_waiting a j ++ x ∷ [] = waiting_at true (lt-ltb 0 (slice_index v j) some) in
        ap (λ contents. record { entries = a.entries; ranking = a.ranking; contents = contents })
        (ranked_alike (x ∷ first_waiting a j) (first_waiting a j ++ x ∷ []) (IsPermutation-append_comm (x ∷ []) (first_waiting a j)) ∙ ap ranked (sym more))

    pub waiting_same : slice_index v j ≡ 0 → arenas.table_of a (first_waiting a j) ≡ arenas.table_of a (first_waiting a (j + 1))
    waiting_same none = ap (arenas.table_of a) (sym (waiting_at false (le-ltb 0 (slice_index v j) (omega (arith, none))) ∙ append-nil (first_waiting a j)))

-- ---- states

-- the first n entries have their seats, the first k have records of them, and the first m have entered the table
pub record FirstFilled (e : Election) (x : Slots) (g : Group) (a : Arena) (v : List ℕ) (seats : ℕ) (told : ℕ → Item → List Weight) (before : State) (n k m : ℕ)
    (s : State) : Type 0 where
  pub amount : s.registers reg.AMOUNT ≡ seats
  pub total : s.registers reg.TOTAL ≡ sum v
  pub left : s.registers reg.LEFT ≡ seats - sum (take n a.ladders.base)
  pub cells : (q : ℕ) (i : Item) → q < n → slice_get g.entries q ≡ Some i → s.columns x.result (place e i) ≡ slice_index a.ladders.base q
  pub elsewhere : (q : ℕ) → ((j : ℕ) (i : Item) → slice_get g.entries j ≡ Some i → place e i ≢ q) → s.columns x.result q ≡ before.columns x.result q
  pub columns : (slot q : ℕ) → slot ≢ x.result → s.columns slot q ≡ before.columns slot q
  pub placed : (winner : ℕ) → s.placed winner ≡ before.placed winner
  pub table : s.table ≡ Some (arenas.table_of a (first_waiting a m))
  pub steps : s.steps ≡ before.steps ++ first_given x.stage g a k
  pub weights : s.weights ≡ before.weights ++ first_told g v told m

-- the second state has the seats of the first
abbrev pub SameSeats : State → State → Type 0
SameSeats s t = record {
  amount : t.registers reg.AMOUNT ≡ s.registers reg.AMOUNT;
  total : t.registers reg.TOTAL ≡ s.registers reg.TOTAL;
  left : t.registers reg.LEFT ≡ s.registers reg.LEFT;
  columns : (slot q : ℕ) → t.columns slot q ≡ s.columns slot q;
  placed : (winner : ℕ) → t.placed winner ≡ s.placed winner;
}

-- after a plan that leaves them
pub same_seats : {more : List ℕ} {tree : Tree} {s t : State} → Leaves (reg.AMOUNT ∷ reg.TOTAL ∷ reg.LEFT ∷ more) tree → KeepsRest tree s t → SameSeats s t
same_seats leaves kept = record {
  amount = register_kept leaves kept reg.AMOUNT refl;
  total = register_kept leaves kept reg.TOTAL refl;
  left = register_kept leaves kept reg.LEFT refl;
  columns = λ slot q. kept.columns slot (leaves.columns slot) q;
  placed = kept.placed leaves.placed;
}

pub filled_as : {e : Election} {x : Slots} {g : Group} {a : Arena} {v : List ℕ} {seats : ℕ} {told : ℕ → Item → List Weight} {before : State} {n k m : ℕ} {s : State} (p q : ℕ) (t : State)
    → FirstFilled e x g a v seats told before n k m s → SameSeats s t → t.table ≡ Some (arenas.table_of a (first_waiting a q)) → t.steps ≡ before.steps ++ first_given x.stage g a p
    → t.weights ≡ before.weights ++ first_told g v told q → FirstFilled e x g a v seats told before n p q t
filled_as {e = e} {x = x} p q t h same table steps weights = record {
  amount = same.amount ∙ h.amount;
  total = same.total ∙ h.total;
  left = same.left ∙ h.left;
  cells = λ r i less at. same.columns x.result (place e i) ∙ h.cells r i less at;
  elsewhere = λ r none. same.columns x.result r ∙ h.elsewhere r none;
  columns = λ slot r other. same.columns slot r ∙ h.columns slot r other;
  placed = λ winner. same.placed winner ∙ h.placed winner;
  table = table;
  steps = steps;
  weights = weights;
}

-- ---- an entry

-- what is given of a scope that is filled, from the state before on
pub record Fills (c : CountingCode) (e : Election) (f : Form) (x : Slots) (name : List ℕ) (g : Group) (a : Arena) (by : Ranking) (v m : List ℕ) (seats : ℕ) (Rest : ℕ → ℕ → Type 0)
    (told : ℕ → Item → List Weight) (base enter : Tree) (before : State) : Type 0 where
  pub scope : IsScope e f g
  pub slots : HasSlots c f x name
  pub arena : IsOfScope e f g by v a
  pub finds : FindsBase c e x g v m seats a.ladders.base Rest base
  pub enters : EntersNext c e g a v seats Rest told enter
  pub fits : sum a.ladders.base ≤ seats
  pub few : seats ≤ MAX_SEATS
  pub votes : HasCells e g.entries (before.columns x.votes) v
  pub minima : HasMinima e g.entries v x.minima before m

module _ {c : CountingCode} {e : Election} {f : Form} {x : Slots} {name : List ℕ} {g : Group} {a : Arena} {by : Ranking} {v m : List ℕ} {seats : ℕ} {Rest : ℕ → ℕ → Type 0}
    {told : ℕ → Item → List Weight} {base enter : Tree} {before : State} (given : Fills c e f x name g a by v m seats Rest told base enter before)
    (j : ℕ) (i : Item) (at : slice_get g.entries j ≡ Some i) where
  -- ---- the entry

  entry : IsEntry e (table_of f) (votes_of f) g.scope i
  entry = given.scope.entry j i at

  seats_within : slice_index a.ladders.base j ≤ seats
  seats_within = let fits : sum a.ladders.base ≤ seats = given.fits in omega (arith, entry_le_sum a.ladders.base j, fits)

  base_within : j < length a.ladders.base
  base_within = let long : length a.ladders.base ≡ length g.entries = given.arena.one_each in omega (arith, long, slice_get_within g.entries j i at)

  -- ---- at the entry

  -- its registers, and what stands
  record Stands (n k l : ℕ) (s : State) : Type 0 where
    at_entry : AtEntry g v seats j i s
    filled : FirstFilled e x g a v seats told before n k l s
    base_is : s.registers reg.BASE ≡ slice_index a.ladders.base j
    rest : Rest j (s.registers reg.STEP)

  at_entry_as : (s t : State) → AtEntry g v seats j i s → OnItem i t → t.registers reg.AMOUNT ≡ s.registers reg.AMOUNT → t.registers reg.TOTAL ≡ s.registers reg.TOTAL
      → t.registers reg.WEIGHT ≡ s.registers reg.WEIGHT → AtEntry g v seats j i t
  at_entry_as s t h on amount total weight = assumption (entry.scope t on, amount ∙ h.amount, total ∙ h.total, weight ∙ h.weight)

  -- its votes
  weighed : (s : State) → OnItem i s → FirstFilled e x g a v seats told before j j j (bare s)
      → Achieves c e (Line (Get reg.WEIGHT x.votes ∷ [])) s (λ t. AtEntry g v seats j i t × FirstFilled e x g a v seats told before j j j t) Never
  weighed s on h =
      let p : ℕ = place e i in
      let t : State = with_register reg.WEIGHT (s.columns x.votes p) s in
      line_goes (get_does c e s x.votes (votes_of f) given.slots.votes reg.WEIGHT p (entry.cell s on))
      (line_ends (
        record { on_item = on; on_scope = entry.scope t on; amount = h.amount; total = h.total; weight = h.columns x.votes p given.slots.not_votes ∙ given.votes.at j i at },
        filled_as j j t h (record { amount = refl; total = refl; left = refl; columns = λ slot q. refl; placed = λ winner. refl }) h.table h.steps h.weights,
      ))

  -- its first seats
  based : (s : State) → AtEntry g v seats j i s → FirstFilled e x g a v seats told before j j j s → Achieves c e base s (Stands j j j) Never
  based s here h =
      let finds : FindsBase c e x g v m seats a.ladders.base Rest base = given.finds in
      let minima : HasMinima e g.entries v x.minima s m = minima_kept e g.entries v m before s x.minima (λ slot is q. h.columns slot q (given.slots.not_minima slot is)) given.minima in
      achieves_keeping (finds.finds j i s at here minima)
      (λ t r kept.
      let same : SameSeats s t = same_seats finds.leaves kept in
      let on : OnItem i t = item_stays i s t (kept.party finds.leaves.party) (kept.land finds.leaves.land) (kept.win finds.leaves.win) here.on_item in
      assumption (
        at_entry_as s t here on same.amount same.total (register_kept finds.leaves kept reg.WEIGHT refl),
        filled_as j j t h same (kept.table finds.table ∙ h.table) (kept.steps_kept finds.leaves.steps ∙ h.steps) (kept.weights_kept finds.weights ∙ h.weights),
      ))

  -- they are written down
  stored_cells : (s : State) → ((q : ℕ) (y : Item) → q < j → slice_get g.entries q ≡ Some y → s.columns x.result (place e y) ≡ slice_index a.ladders.base q)
      → s.registers reg.BASE ≡ slice_index a.ladders.base j → (q : ℕ) (y : Item) → q < j + 1 → slice_get g.entries q ≡ Some y
      → (with_cell x.result (place e i) (s.registers reg.BASE) s).columns x.result (place e y) ≡ slice_index a.ladders.base q
  stored_cells s before_it is q y less there =
      let u : State = with_cell x.result (place e i) (s.registers reg.BASE) s in
      elim (cases_lt q j) [
        | inl earlier ↦
            let rises : place e y < place e i = rises_far (place e) g.entries given.scope.increasing q j y i there at earlier in
            cell_other_place s x.result (place e i) (s.registers reg.BASE) (place e y) (λ same. omega (arith, rises, same)) ∙ before_it q y earlier there
        | inr late ↦
            let now : q ≡ j = omega (arith, less, late) in
            let same : y ≡ i = same_Some y i (sym there ∙ ap (λ r. slice_get g.entries r) now ∙ at) in
            ap (λ z. u.columns x.result (place e z)) same ∙ cell_same s x.result (place e i) (s.registers reg.BASE) ∙ is ∙ ap (slice_index a.ladders.base) (sym now)
      ]

  abbrev with_base : State → State
  with_base s = with_cell x.result (place e i) (s.registers reg.BASE) s

  written : (s : State) → Stands j j j s → Achieves c e (Line (Store x.result reg.BASE ∷ [])) s (λ t. t ≡ with_base s) Never
  written s h = line_goes (store_does c e s x.result (votes_of f) given.slots.result reg.BASE (place e i) (entry.cell s h.at_entry.on_item)) (line_ends refl)

  -- and are no longer among those that are left
  less_left : (s : State) → Stands j j j s → s.registers reg.LEFT - s.registers reg.BASE ≡ seats - sum (take (j + 1) a.ladders.base)
  less_left s h =
      omega (arith, (sum_so_far a.ladders.base j base_within).0)

  -- so the entry stands, with so many that are recorded
  taken : (s : State) (registers : ℕ → ℕ) (k : ℕ) → Stands j j j s → registers reg.AMOUNT ≡ s.registers reg.AMOUNT → registers reg.TOTAL ≡ s.registers reg.TOTAL
      → registers reg.WEIGHT ≡ s.registers reg.WEIGHT → registers reg.BASE ≡ s.registers reg.BASE → registers reg.STEP ≡ s.registers reg.STEP
      → registers reg.LEFT ≡ s.registers reg.LEFT - s.registers reg.BASE → s.steps ≡ before.steps ++ first_given x.stage g a k → Stands (j + 1) k j (record (with_base s) { registers = registers })
  taken s registers k h amount total weight base step left steps =
      let p : ℕ = place e i in
      let b : ℕ = s.registers reg.BASE in
      let t : State = record (with_base s) { registers = registers } in
      record {
        at_entry = at_entry_as s t h.at_entry h.at_entry.on_item amount total weight;
        filled = record {
          amount = amount ∙ h.filled.amount;
          total = total ∙ h.filled.total;
          left = left ∙ less_left s h;
          cells = stored_cells s h.filled.cells h.base_is;
          elsewhere = λ q none. cell_other_place s x.result p b q (λ same. none j i at (sym same)) ∙ h.filled.elsewhere q none;
          columns = λ slot q other. cell_other_slot s x.result p b slot q other ∙ h.filled.columns slot q other;
          placed = h.filled.placed;
          table = h.filled.table;
          steps = steps;
          weights = h.filled.weights;
        };
        base_is = base ∙ h.base_is;
        rest = subst (Rest j) (sym step) h.rest;
      }

  -- an entry without any has none that are recorded
  none_given : (s : State) → Stands j j j s → s.registers reg.BASE ≡ 0 → Stands (j + 1) (j + 1) j (with_base s)
  none_given s h none =
      let same : first_given x.stage g a (j + 1) ≡ first_given x.stage g a j =
      given_more g j i at x.stage a ∙ ap (λ n. first_given x.stage g a j ++ map (given_seat x.stage g.scope i) (range_with_len 0 n)) (sym h.base_is ∙ none)
      ∙ append-nil (first_given x.stage g a j) in
      taken s s.registers (j + 1) h refl refl refl refl refl (omega (arith, none)) (h.filled.steps ∙ ap (λ rows. before.steps ++ rows) (sym same))

  counted : (s : State) → Stands j j j s
      → Achieves c e (Line (Sub reg.LEFT reg.BASE ∷ (Set reg.NUMBER 0 ∷ (Mov reg.TURNS reg.BASE ∷ [])))) (with_base s)
      (λ t. Stands (j + 1) j j t × (t.registers reg.NUMBER ≡ 0) × (t.registers reg.TURNS ≡ slice_index a.ladders.base j)) Never
  counted s h =
      let b : ℕ = s.registers reg.BASE in
      let last : State = with_register reg.TURNS b (with_register reg.NUMBER 0 (with_register reg.LEFT (s.registers reg.LEFT - b) (with_base s))) in
      line_goes refl (line_goes refl (line_goes refl (line_ends (taken s last.registers j h refl refl refl refl refl refl h.filled.steps, refl, h.base_is))))

  -- each of them is recorded
  listed : (s : State) → Stands (j + 1) j j s → s.registers reg.NUMBER ≡ 0 → s.registers reg.TURNS ≡ slice_index a.ladders.base j
      → Achieves c e (records_all x.stage (kind_of f)) s (Stands (j + 1) (j + 1) j) Never
  listed s h number turns =
      let n : ℕ = slice_index a.ladders.base j in
      let tree : Tree = records_all x.stage (kind_of f) in
      achieves_so
      (seats_recorded c e x.stage (kind_of f) g.scope i (arenas.table_of a (first_waiting a j)) (place e i) given.slots.stage
      (λ u on. given.scope.kind u (entry.scope u on))
      (λ u on. ap (λ k. index_at e k u) given.arena.entries ∙ entry.index u on)
      (ap (λ k. item_of e k (place e i)) given.arena.entries ∙ entry.item)
      n s (omega (arith, seats_within)) turns number h.filled.table h.at_entry.on_item)
      (λ t r.
      let kept : KeepsRest tree s t = r.1 in
      let amount : t.registers reg.AMOUNT ≡ s.registers reg.AMOUNT = kept.registers reg.AMOUNT refl in
      let same : SameSeats s t =
      record { amount = amount; total = kept.registers reg.TOTAL refl; left = kept.registers reg.LEFT refl; columns = λ slot. kept.columns slot refl; placed = kept.placed refl } in
      record {
        at_entry = at_entry_as s t h.at_entry (item_stays i s t (kept.party refl) (kept.land refl) (kept.win refl) h.at_entry.on_item) same.amount same.total (kept.registers reg.WEIGHT refl);
        filled = filled_as (j + 1) j t h.filled same (kept.table refl ∙ h.filled.table)
            (r.0 ∙ row_more before.steps (first_given x.stage g a j) (first_given x.stage g a (j + 1)) (map (given_seat x.stage g.scope i) (range_with_len 0 n)) s.steps h.filled.steps
            (given_more g j i at x.stage a))
            (kept.weights_kept refl ∙ h.filled.weights);
        base_is = kept.registers reg.BASE refl ∙ h.base_is;
        rest = subst (Rest j) (sym (kept.registers reg.STEP refl)) h.rest;
      })

  -- all of them are given
  all_given : (s : State) → Stands j j j s → Achieves c e (give_seats f x) (with_base s) (Stands (j + 1) (j + 1) j) Never
  all_given s h =
      if_zero {r = reg.BASE} (λ none. line_ends (none_given s h none))
      (λ n some. then_achieves (counted s h) (λ t z. listed t z.0 z.1 z.2))

  -- its next one enters the table
  entered : (s : State) → Stands (j + 1) (j + 1) j s → 0 < slice_index v j → Achieves c e enter s (λ t. FirstFilled e x g a v seats told before (j + 1) (j + 1) (j + 1) (bare t)) Never
  entered s h some =
      let enters : EntersNext c e g a v seats Rest told enter = given.enters in
      achieves_keeping (enters.enters j i s (first_waiting a j) at h.at_entry some h.base_is seats_within h.rest h.filled.table)
      (λ t r kept.
      filled_as (j + 1) (j + 1) (bare t) h.filled (same_seats enters.leaves kept)
      (r.0 ∙ ap (λ table. Some table) (waiting_more g j i at given.arena some))
      (kept.steps_kept enters.leaves.steps ∙ h.filled.steps)
      (r.1 ∙ row_more before.weights (first_told g v told j) (first_told g v told (j + 1)) (told j i) s.weights h.filled.weights (told_more g j i at v told some)))

  skipped : (s : State) → Stands (j + 1) (j + 1) j s → slice_index v j ≡ 0 → FirstFilled e x g a v seats told before (j + 1) (j + 1) (j + 1) (bare s)
  skipped s h none =
      filled_as (j + 1) (j + 1) (bare s) h.filled (record { amount = refl; total = refl; left = refl; columns = λ slot q. refl; placed = λ winner. refl })
      (h.filled.table ∙ ap (λ table. Some table) (waiting_same g j i at given.arena none))
      h.filled.steps
      (h.filled.weights ∙ ap (λ xs. before.weights ++ xs) (sym (told_same g j i at v told none)))

  -- all of this
  pub entry_filled : (s : State) → OnItem i s → FirstFilled e x g a v seats told before j j j (bare s)
      → Achieves c e (fill_entry f x base enter) s (λ t. FirstFilled e x g a v seats told before (j + 1) (j + 1) (j + 1) (bare t)) Never
  entry_filled s on h =
      then_achieves (weighed s on h) (λ t w.
      then_achieves (based t w.0 w.1) (λ u b.
      then_at (written u b)
      (then_achieves (all_given u b) (λ last r.
      let weight : last.registers reg.WEIGHT ≡ slice_index v j = r.at_entry.weight in
      if_zero
      (λ zero_is. line_ends (skipped last r (sym weight ∙ zero_is)))
      (λ n is. entered last r (omega (arith, weight, is)))))))

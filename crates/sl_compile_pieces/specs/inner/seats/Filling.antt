-- What the plan achieves that gives each entry of a scope its first seats and enters its next one in the table (docs/blocks.md, section 3).
use Rattle.std.specs.Prelude.{◌≡◌, ℕ, ◌-◌, ◌<◌, ◌≤◌, ◌&&◌, false, List, [], ◌∷◌, ◌++◌, Some, is_none, flat_map, map, nat_lt, sum, All, length, slice_get, slice_index, if◌then◌else◌}
use Rattle.std.specs.List.{enumerate_from, list_any}
use Rattle.sl_base_quotients.specs.declared.entry.Entry.{Entry}
use Rattle.sl_base_quotients.specs.declared.limits.TheConstants.{MAX_WEIGHT, MAX_SEATS}
use Rattle.sl_base_quotients.specs.declared.method.Divisor.{Divisor}
use Rattle.sl_base_quotients.specs.declared.method.Method.{Method}
use Rattle.sl_base_quotients.specs.declared.method.Method.TheVariants as by
use Rattle.sl_law_meaning.specs.declared.book.Majority.{Majority}
use Rattle.sl_law_meaning.specs.declared.fault.Item.{Item}
use Rattle.sl_law_meaning.specs.declared.table.Weight.{Weight}
use Rattle.sl_law_meaning.specs.returns.Election.{Election}
use Rattle.sl_law_meaning.specs.book.Typing.{is_prefer}
use Rattle.sl_law_meaning.specs.methods.LeastHouse.{outside_minima}
use Rattle.sl_law_meaning.specs.meaning.Scopes.{Group, place}
use Rattle.sl_law_meaning.specs.meaning.Records.{field_weights, tells_weights}
use Rattle.sl_code_instructions.specs.declared.operand.Ranking.{Ranking}
use Rattle.sl_code_instructions.specs.Codes.{CountingCode}
use Rattle.sl_code_semantics.specs.State.{State}
use Rattle.sl_compile_plans.specs.declared.plan.Cursor.TheVariants as cursor
use Rattle.sl_compile_plans.specs.Trees.{Tree}
use Rattle.sl_compile_plans.specs.Achieves.{Achieves, Never}
use Rattle.sl_compile_plans.specs.Frames.{may_write_register, may_write_slot, may_move, may_write_table, may_seat, may_record_step, may_record_weight}
use Rattle.sl_compile_pieces.specs.scopes.Forms.{Form, table_of, groups_of, OnScope, OnItem}
use Rattle.sl_compile_pieces.specs.arenas.Arenas as arenas
use Rattle.sl_compile_pieces.specs.arenas.Arenas.{Arena, HasWaiting, seat_of, divisor_arena, hamilton_arena}
use Rattle.sl_compile_pieces.specs.declared.registers.TheConstants as reg
use Rattle.sl_compile_pieces.specs.seats.Slots.{Slots, HasSlots, HasCells, HasMinima}
use Rattle.sl_compile_pieces.specs.seats.Trees.{fill}
use Rattle.sl_compile_pieces.specs.inner.seats.Seated.{IsSeated}

-- ---- what is asked of the plan for an entry's first seats, and of the one by which it enters the table

-- the registers at entry j, before its first seats are found
pub record AtEntry (g : Group) (v : List ℕ) (seats j : ℕ) (i : Item) (s : State) : Type 0 where
  pub on_item : OnItem i s
  pub on_scope : OnScope g.scope s
  pub amount : s.registers reg.AMOUNT ≡ seats
  pub total : s.registers reg.TOTAL ≡ sum v
  pub weight : s.registers reg.WEIGHT ≡ slice_index v j

-- a plan that writes none of these registers and no column, leaves the cursors, seats nobody and tells no step
pub record Leaves (kept : List ℕ) (tree : Tree) : Type 0 where
  pub registers : list_any (may_write_register tree) kept ≡ false
  pub columns : (slot : ℕ) → may_write_slot tree slot ≡ false
  pub party : may_move tree cursor.Party ≡ false
  pub land : may_move tree cursor.Land ≡ false
  pub win : may_move tree cursor.Win ≡ false
  pub placed : may_seat tree ≡ false
  pub steps : may_record_step tree ≡ false

-- it finds them, and leaves what is known of the register of steps; it writes nothing but registers
pub record FindsBase (c : CountingCode) (e : Election) (x : Slots) (g : Group) (v m : List ℕ) (seats : ℕ) (b : List ℕ) (Rest : ℕ → ℕ → Type 0) (tree : Tree) :
    Type 0 where
  pub finds : (j : ℕ) (i : Item) (s : State) → slice_get g.entries j ≡ Some i → AtEntry g v seats j i s → HasMinima e g.entries v x.minima s m →
      Achieves c e tree s (λ after. (after.registers reg.BASE ≡ slice_index b j) × Rest j (after.registers reg.STEP)) Never
  pub leaves : Leaves (reg.AMOUNT ∷ reg.TOTAL ∷ reg.LEFT ∷ reg.WEIGHT ∷ []) tree
  pub table : may_write_table tree ≡ false
  pub weights : may_record_weight tree ≡ false

-- the weight of entry j that is recorded, if it has one
abbrev pub told_of : (ℕ → Item → List Weight) → List ℕ → ℕ → Item → List Weight
told_of told v j i = if nat_lt 0 (slice_index v j) then told j i else []

-- it enters an entry with weight among those that wait; and it writes nothing else but registers and the entry's weight
pub record EntersNext (c : CountingCode) (e : Election) (g : Group) (a : Arena) (v : List ℕ) (seats : ℕ) (Rest : ℕ → ℕ → Type 0)
    (told : ℕ → Item → List Weight) (tree : Tree) : Type 0 where
  pub enters : (j : ℕ) (i : Item) (s : State) (others : List Entry) → slice_get g.entries j ≡ Some i → AtEntry g v seats j i s → 0 < slice_index v j →
      s.registers reg.BASE ≡ slice_index a.ladders.base j → slice_index a.ladders.base j ≤ seats → Rest j (s.registers reg.STEP) →
      s.table ≡ Some (arenas.table_of a others) →
      Achieves c e tree s
      (λ after. (after.table ≡ Some (arenas.table_of a (seat_of a j (slice_index a.ladders.base j) ∷ others))) × (after.weights ≡ s.weights ++ told j i)) Never
  pub leaves : Leaves (reg.AMOUNT ∷ reg.TOTAL ∷ reg.LEFT ∷ []) tree

-- the arena is of the scope's entries, and those with weight have a next seat when they hold their first ones
pub record IsOfScope (e : Election) (f : Form) (g : Group) (by : Ranking) (v : List ℕ) (a : Arena) : Type 0 where
  pub entries : a.entries ≡ table_of f
  pub ranking : a.ranking ≡ by
  pub places : a.places ≡ map (place e) g.entries
  pub one_each : length a.ladders.base ≡ length g.entries
  pub next : (j : ℕ) → j < length g.entries → a.ladders.has j (slice_index a.ladders.base j) ≡ nat_lt 0 (slice_index v j)

-- each entry has its first seats, each with a record as given; the next ones wait; and so many are left
pub record IsFilled (e : Election) (x : Slots) (g : Group) (a : Arena) (v : List ℕ) (seats : ℕ) (told : List Weight) (before after : State) : Type 0 where
  pub seated : IsSeated e x g a v seats told before a.ladders.base after
  pub waiting : HasWaiting a a.ladders.base after
  pub left : after.registers reg.LEFT ≡ seats - sum a.ladders.base

abbrev pub FillsAchieve : Type 1
FillsAchieve =
    (c : CountingCode) (e : Election) (f : Form) (x : Slots) (name : List ℕ) (k : ℕ) (g : Group) (a : Arena) (by : Ranking) (v m : List ℕ) (seats : ℕ)
    (Rest : ℕ → ℕ → Type 0) (told : ℕ → Item → List Weight) (base enter : Tree) (state : State) →
    slice_get (groups_of e f) k ≡ Some g → HasSlots c f x name → IsOfScope e f g by v a → FindsBase c e x g v m seats a.ladders.base Rest base →
    EntersNext c e g a v seats Rest told enter → sum a.ladders.base ≤ seats → seats ≤ MAX_SEATS → OnScope g.scope state →
    state.registers reg.AMOUNT ≡ seats → state.registers reg.TOTAL ≡ sum v → HasCells e g.entries (state.columns x.votes) v →
    HasMinima e g.entries v x.minima state m →
    Achieves c e (fill f x by base enter) state
    (IsFilled e x g a v seats (flat_map (λ y. told_of told v y.0 y.1) (enumerate_from 0 g.entries)) state) Never

-- ---- the arenas of a scope

-- of a split, and of the house that a growth found
abbrev pub split_arena : Election → Form → Group → Method → Majority → List ℕ → List ℕ → ℕ → Arena
split_arena e f g (by.Divisor d) majority v m seats = divisor_arena d v m (table_of f) (map (place e) g.entries)
split_arena e f g by.Hamilton majority v m seats = hamilton_arena (is_prefer majority) v seats (table_of f) (map (place e) g.entries)

abbrev pub grown_arena : Election → Form → Group → Divisor → List ℕ → List ℕ → Arena
grown_arena e f g d v m = divisor_arena d v (outside_minima v m) (table_of f) (map (place e) g.entries)

-- the weights that a split tells
abbrev pub split_weights : Slots → Group → Method → List ℕ → List Weight
split_weights x g (by.Divisor d) v = if is_none x.minima && tells_weights d then field_weights x.stage g.scope g.entries d v else []
split_weights x g by.Hamilton v = []

-- what stands before a scope is filled
abbrev pub IsReady : CountingCode → Election → Form → Slots → List ℕ → ℕ → Group → List ℕ → List ℕ → ℕ → State → Type 0
IsReady c e f x name k g v m seats s = record {
  group : slice_get (groups_of e f) k ≡ Some g;
  slots : HasSlots c f x name;
  few : seats ≤ MAX_SEATS;
  weights : All (λ weight. weight ≤ MAX_WEIGHT) v;
  on : OnScope g.scope s;
  amount : s.registers reg.AMOUNT ≡ seats;
  total : s.registers reg.TOTAL ≡ sum v;
  votes : HasCells e g.entries (s.columns x.votes) v;
  minima : HasMinima e g.entries v x.minima s m;
}

-- The sums of the votes and of the minima of a scope's entries.
use Rattle.std.proofs.Common.{◌≡◌, ℕ, ◌+◌, ◌<◌, false, List, ◌∷◌, length, take, min, Option, Some, None, refl, sym, ap, ◌∙◌, arith}
use Rattle.std.specs.Prelude.{sum, slice_get, slice_index}
use Rattle.std.proofs.lemmas.List.Folds.{sum_by-replicate}
use Rattle.std.proofs.lemmas.List.Sums.{sum_by-take-le}
use Rattle.std.proofs.lemmas.Option.{slice_get_within}
use Rattle.sl_law_meaning.specs.declared.fault.Item.{Item}
use Rattle.sl_law_meaning.specs.methods.Field.{no_minima}
use Rattle.sl_law_meaning.specs.returns.Election.{Election}
use Rattle.sl_law_meaning.specs.meaning.Scopes.{Group, place}
use Rattle.sl_code_instructions.specs.declared.instr.Instr.TheVariants as op
use Rattle.sl_code_instructions.specs.Codes.{CountingCode}
use Rattle.sl_code_semantics.specs.State.{State, with_register}
use Rattle.sl_code_semantics.specs.Effects.{most}
use Rattle.sl_code_semantics.proofs.effects.Registers.{get_does}
use Rattle.sl_compile_plans.specs.Trees.{Tree, Line}
use Rattle.sl_compile_plans.specs.Achieves.{Achieves, Never}
use Rattle.sl_compile_plans.specs.Frames.{may_write_register}
use Rattle.sl_compile_plans.proofs.Rules.{line_ends, line_goes, then_achieves, ends_in}
use Rattle.sl_compile_plans.proofs.KeepingRules.{achieves_keeping}
use Rattle.sl_code_semantics.specs.Frames.{writes_register}
use Rattle.sl_compile_pieces.specs.scopes.Forms.{Form, votes_of, table_of, entries_plan, OnScope, OnItem, groups_of}
use Rattle.sl_compile_pieces.specs.inner.scopes.Walks.{bare, Visits}
use Rattle.sl_compile_pieces.specs.scopes.Scopes.{IsEntry}
use Rattle.sl_compile_pieces.proofs.scopes.Forms.{each_entry}
use Rattle.sl_compile_pieces.proofs.scopes.Scopes.{scopes_hold}
use Rattle.sl_compile_pieces.proofs.scopes.Staying.{entries_visited}
use Rattle.sl_compile_pieces.specs.declared.registers.TheConstants as reg
use Rattle.sl_compile_pieces.specs.seats.Slots.{Slots, HasCells, HasMinima, HasSlots}
use Rattle.sl_compile_pieces.specs.seats.Trees.{add_minimum, sums}
use Rattle.sl_compile_pieces.specs.inner.seats.Summing.{AreSummed}
use Rattle.sl_compile_pieces.proofs.seats.Lists.{sum_of_all, sum_so_far}
use Rattle.sl_compile_pieces.proofs.seats.Minima.{minima_long}
use Rattle.sl_compile_pieces.proofs.seats.Unchanged.{LeavesAll, entries_leave, entries_free, unchanged}

-- ---- sums of the first numbers

first_sum : List ℕ → ℕ → ℕ
first_sum v j = sum (take j v)

first_none : (v : List ℕ) → 0 ≡ min (first_sum v 0) most
unfolding first_sum
first_none v = let none : 0 ≡ min 0 most = omega arith in none

first_more : (v : List ℕ) (j : ℕ) → j < length v → first_sum v (j + 1) ≡ first_sum v j + slice_index v j
unfolding first_sum
first_more v j less = (sum_so_far v j less).0

first_all : (v : List ℕ) (n : ℕ) → length v ≡ n → first_sum v n ≡ sum v
unfolding first_sum
first_all v n long = sum_of_all v n long

first_zero : (v : List ℕ) (j : ℕ) → first_sum (no_minima v) j ≡ 0
unfolding first_sum
first_zero v j =
    omega (arith, sum_by-take-le (λ x. x) (no_minima v) j, sum_by-replicate (λ x. x) (length v) 0)

-- a register that holds the sum of the first numbers holds the next one's, too
next_held : (v : List ℕ) (j a x : ℕ) → j < length v → a ≡ min (first_sum v j) most → x ≡ slice_index v j → min (a + x) most ≡ min (first_sum v (j + 1)) most
next_held v j a x less so_far cell =
    omega (arith, so_far, cell, first_more v j less)

-- ---- the plan

-- what is done for each entry
abbrev body_of : ℕ → Option ℕ → Tree
body_of votes minima = Line (op.Get reg.WEIGHT votes ∷ (op.Add reg.TOTAL reg.WEIGHT ∷ add_minimum minima))

module _ (c : CountingCode) (e : Election) (f : Form) (g : Group) (votes : ℕ) (v m : List ℕ) (before : State)
    (known : slice_get c.slots votes ≡ Some (votes_of f))
    (entry : (j : ℕ) (i : Item) → slice_get g.entries j ≡ Some i → IsEntry e (table_of f) (votes_of f) g.scope i)
    (weights : HasCells e g.entries (before.columns votes) v) where
  -- after j entries
  record Summed (j : ℕ) (t : State) : Type 0 where
    columns : t.columns ≡ before.columns
    total : t.registers reg.TOTAL ≡ min (first_sum v j) most
    needed : t.registers reg.NEEDED ≡ min (first_sum m j) most

  -- the entry's minimum, if any are written, when its votes have been added
  one_minimum : (o : Option ℕ) → ((slot : ℕ) → o ≡ Some slot → slice_get c.slots slot ≡ Some (votes_of f)) → HasMinima e g.entries v o before m
      → (j : ℕ) (i : Item) (u : State) → slice_get g.entries j ≡ Some i → OnItem i u → u.columns ≡ before.columns → u.registers reg.TOTAL ≡ min (first_sum v (j + 1)) most
      → u.registers reg.NEEDED ≡ min (first_sum m j) most → Achieves c e (Line (add_minimum o)) u (λ t. Summed (j + 1) (bare t)) Never
  one_minimum None there none j i u at on columns total needed =
      let zero_by : (n : ℕ) → first_sum m n ≡ 0 = λ n. ap (λ xs. first_sum xs n) none ∙ first_zero v n in
      line_ends (record { columns = columns; total = total; needed = needed ∙ ap (λ n. min n most) (zero_by j ∙ sym (zero_by (j + 1))) })
  one_minimum (Some slot) there minima j i u at on columns total needed =
      let q : ℕ = place e i in
      let x : ℕ = u.columns slot q in
      let read : x ≡ slice_index m j = ap (λ (k : ℕ → ℕ → ℕ). k slot q) columns ∙ minima.at j i at in
      let less : j < length m = omega (arith, slice_get_within g.entries j i at) in
      line_goes (get_does c e u slot (votes_of f) (there slot refl) reg.BASE q ((entry j i at).cell u on))
      (ends_in refl (record { columns = columns; total = total; needed = next_held m j (u.registers reg.NEEDED) x less needed read }))

  one_entry : (o : Option ℕ) → ((slot : ℕ) → o ≡ Some slot → slice_get c.slots slot ≡ Some (votes_of f)) → HasMinima e g.entries v o before m
      → (j : ℕ) (i : Item) (s : State) → slice_get g.entries j ≡ Some i → OnItem i s → Summed j (bare s) → Achieves c e (body_of votes o) s (λ t. Summed (j + 1) (bare t)) Never
  one_entry o there minima j i s at on h =
      let q : ℕ = place e i in
      let x : ℕ = s.columns votes q in
      let u : State = with_register reg.WEIGHT x s in
      let w : State = with_register reg.TOTAL (min (u.registers reg.TOTAL + u.registers reg.WEIGHT) most) u in
      let read : x ≡ slice_index v j = ap (λ (k : ℕ → ℕ → ℕ). k votes q) h.columns ∙ weights.at j i at in
      let less : j < length v = omega (arith, slice_get_within g.entries j i at) in
      line_goes (get_does c e s votes (votes_of f) known reg.WEIGHT q ((entry j i at).cell s on))
      (line_goes refl
      (one_minimum o there minima j i w at on h.columns (next_held v j (s.registers reg.TOTAL) x less h.total read) h.needed))

  visits : (o : Option ℕ) → ((slot : ℕ) → o ≡ Some slot → slice_get c.slots slot ≡ Some (votes_of f)) → HasMinima e g.entries v o before m
      → Visits c e (body_of votes o) g.entries OnItem Summed Never
  visits None there minima = entries_visited (record { party = refl; land = refl; win = refl }) (one_entry None there minima)
  visits (Some slot) there minima = entries_visited (record { party = refl; land = refl; win = refl }) (one_entry (Some slot) there minima)

body_leaves : (votes : ℕ) (o : Option ℕ) → LeavesAll (body_of votes o)
body_leaves votes None = record { columns = λ slot. refl; steps = refl; weights = refl; placed = refl }
body_leaves votes (Some minima) = record { columns = λ slot. refl; steps = refl; weights = refl; placed = refl }

body_keeps_amount : (votes : ℕ) (o : Option ℕ) → may_write_register (body_of votes o) reg.AMOUNT ≡ false
body_keeps_amount votes None = refl
body_keeps_amount votes (Some minima) = refl

sums_leave : (f : Form) (x : Slots) → LeavesAll (sums f x)
sums_leave f x =
    let body : LeavesAll (entries_plan f (body_of x.votes x.minima)) = entries_leave f (body_of x.votes x.minima) (body_leaves x.votes x.minima) in
    record { columns = body.columns; steps = body.steps; weights = body.weights; placed = body.placed }

pub sums_achieve : (c : CountingCode) (e : Election) (f : Form) (x : Slots) (name : List ℕ) (k : ℕ) (g : Group) (v m : List ℕ) (state : State) →
    slice_get (groups_of e f) k ≡ Some g → HasSlots c f x name → OnScope g.scope state → HasCells e g.entries (state.columns x.votes) v →
    HasMinima e g.entries v x.minima state m →
    Achieves c e (sums f x) state (AreSummed g v m state) Never
sums_achieve c e f x name k g v m state at slots on weights minima =
    let entry : (j : ℕ) (i : Item) → slice_get g.entries j ≡ Some i → IsEntry e (table_of f) (votes_of f) g.scope i = (scopes_hold e f k g at).entry in
    let Inv : ℕ → State → Type 0 = Summed c e f g x.votes v m state slots.votes entry weights in
    let long : length m ≡ length g.entries = minima_long e g.entries v m x.minima state weights.one_each minima ∙ weights.one_each in
    let course : Achieves c e (sums f x) state (λ t. OnScope g.scope t × Inv (length g.entries) (bare t)) Never =
    then_achieves {Q = λ t. OnScope g.scope t × Inv 0 (bare t)}
    (ends_in refl (on, record { columns = refl; total = first_none v; needed = first_none m }))
    (λ t h. each_entry c e f k g (body_of x.votes x.minima) Inv Never t at (visits c e f g x.votes v m state slots.votes entry weights x.minima slots.minima minima) h.0 h.1) in
    achieves_keeping course
    (λ t h kept. assumption (
      kept.registers reg.AMOUNT (entries_free (λ i. writes_register i reg.AMOUNT) f (body_of x.votes x.minima) refl refl refl (body_keeps_amount x.votes x.minima)),
      h.1.total ∙ ap (λ n. min n most) (first_all v (length g.entries) weights.one_each),
      h.1.needed ∙ ap (λ n. min n most) (first_all m (length g.entries) long),
      unchanged (sums f x) state t (sums_leave f x) kept,
    ))

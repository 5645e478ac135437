-- The majority clause, when the seats of a scope have been distributed.
use Rattle.std.proofs.Common.{◌≡◌, ℕ, ◌+◌, ◌*◌, ◌<◌, ◌≤◌, ◌&&◌, Bool, true, false, List, [], ◌∷◌, All, length, get_or, take, min, Some, refl, sym, ap, subst, ◌∙◌, inl, inr, arith}
use Rattle.std.specs.Prelude.{sum, slice_get, slice_index, nat_lt, nat_le}
use Rattle.std.specs.List.{zip, list_any}
use Rattle.std.proofs.lemmas.Bool.{cases_Bool, cond-true, cond-false, lt-ltb, le-ltb, le-leb, lt-leb, and_from, and_left, and_right, or_from}
use Rattle.std.proofs.lemmas.List.{take_all}
use Rattle.std.proofs.lemmas.List.Folds.{list_any_more, list_any_at}
use Rattle.std.proofs.lemmas.Option.{slice_get_within}
use Rattle.std.proofs.lemmas.Slice.Zip.{length-zip, get_or-zip}
use Rattle.sl_base_quotients.specs.declared.limits.TheConstants.{MAX_WEIGHT, MAX_SEATS}
use Rattle.sl_law_meaning.specs.declared.book.Majority.{Majority}
use Rattle.sl_law_meaning.specs.declared.fault.Item.{Item}
use Rattle.sl_law_meaning.specs.returns.Election.{Election}
use Rattle.sl_law_meaning.specs.meaning.Scopes.{Group, place}
use Rattle.sl_law_meaning.specs.meaning.Splits.{is_deprived, is_refuse, is_refused}
use Rattle.sl_code_instructions.specs.declared.instr.Instr.TheVariants as op
use Rattle.sl_code_instructions.specs.declared.operand.EndFault.TheVariants as end
use Rattle.sl_code_instructions.specs.Codes.{CountingCode}
use Rattle.sl_code_semantics.specs.State.{State, End, with_register}
use Rattle.sl_code_semantics.specs.Effects.{most}
use Rattle.sl_code_semantics.proofs.effects.Registers.{get_does}
use Rattle.sl_compile_plans.specs.declared.plan.Test.TheVariants as test
use Rattle.sl_compile_plans.specs.Trees.{Tree, Line, Then, If}
use Rattle.sl_compile_plans.specs.Achieves.{Achieves}
use Rattle.sl_compile_plans.proofs.Rules.{line_ends, if_zero, if_less, line_first, line_over}
use Rattle.sl_compile_plans.proofs.KeepingRules.{achieves_keeping}
use Rattle.sl_law_meaning.specs.declared.table.Weight.{Weight}
use Rattle.sl_compile_pieces.specs.inner.seats.Seated.{IsSeated}
use Rattle.sl_compile_pieces.specs.arenas.Arenas.{Arena}
use Rattle.sl_compile_pieces.specs.scopes.Forms.{Form, entries_plan, OnScope, OnItem, groups_of}
use Rattle.sl_compile_pieces.specs.inner.scopes.Walks.{bare, Visits}
use Rattle.sl_compile_pieces.specs.scopes.Scopes.{IsScope}
use Rattle.sl_compile_pieces.proofs.scopes.Forms.{each_entry}
use Rattle.sl_compile_pieces.proofs.scopes.Scopes.{scopes_hold}
use Rattle.sl_compile_pieces.proofs.scopes.Staying.{entries_visited}
use Rattle.sl_compile_pieces.specs.declared.registers.TheConstants as reg
use Rattle.sl_compile_pieces.specs.seats.Slots.{Slots, HasSlots, HasCells}
use Rattle.sl_compile_pieces.specs.seats.Trees.{faulty, nothing, refuse_entry, refuse}
use Rattle.sl_compile_pieces.specs.inner.seats.Summing.{StandsBy, EndsDeprived}
use Rattle.sl_compile_pieces.proofs.seats.Unchanged.{LeavesAll, entries_leave, unchanged, seated_unchanged}
use Rattle.sl_compile_pieces.proofs.seats.Refusing.{faulty_ends}

-- ---- the first entries

module _ (v : List ℕ) (seats : ℕ) (s : List ℕ) where
  -- an entry of that weight and with so many seats has more than half of the weights and no more than half of the seats
  abbrev deprives : ℕ × ℕ → Bool
  deprives y = nat_lt (sum v) (2 * y.0) && nat_le (2 * y.1) seats

  first_deprived : ℕ → Bool
  first_deprived j = list_any deprives (take j (zip v s))

  begins_allowed : first_deprived 0 ≡ false
  unfolding first_deprived
  begins_allowed = refl

  module _ (long : length s ≡ length v) where
    zip_long : length (zip v s) ≡ length v
    zip_long = let both : length (zip v s) ≡ min (length v) (length s) = length-zip v s in omega (arith, long, both)

    all_allowed : (n : ℕ) → length v ≡ n → first_deprived n ≡ false → is_deprived v seats s ≡ false
    unfolding first_deprived
    all_allowed n is none = ap (list_any deprives) (sym (take_all n (zip v s) (omega (arith, is, zip_long)))) ∙ none

    module _ (j : ℕ) (less : j < length v) where
      pair_at : get_or (zip v s) j (0, 0) ≡ (slice_index v j, slice_index s j)
      pair_at = get_or-zip v s j (0, 0) less (omega (arith, less, long))

      next_allowed : first_deprived j ≡ false → deprives (slice_index v j, slice_index s j) ≡ false → first_deprived (j + 1) ≡ false
      unfolding first_deprived
      next_allowed none here =
          list_any_more deprives (zip v s) j (0, 0) (omega (arith, less, zip_long))
          ∙ or_from (first_deprived j) (deprives (get_or (zip v s) j (0, 0))) none (ap deprives pair_at ∙ here)

      one_deprived : deprives (slice_index v j, slice_index s j) ≡ true → is_deprived v seats s ≡ true
      one_deprived here = list_any_at deprives (zip v s) j (0, 0) (omega (arith, less, zip_long)) (ap deprives pair_at ∙ here)

-- ---- the clause

module _ (m : Majority) (v : List ℕ) (seats : ℕ) (s : List ℕ) where
  allowed_none : is_deprived v seats s ≡ false → is_refused m v seats s ≡ false
  allowed_none none = and_right (is_refuse m && nat_le 1 seats) (is_deprived v seats s) none

  allowed_empty : seats ≡ 0 → is_refused m v seats s ≡ false
  allowed_empty zero = and_left (is_refuse m && nat_le 1 seats) (is_deprived v seats s) (and_right (is_refuse m) (nat_le 1 seats) (lt-leb 1 seats (omega (arith, zero))))

  refused_deprived : is_refuse m ≡ true → 1 ≤ seats → is_deprived v seats s ≡ true → is_refused m v seats s ≡ true
  refused_deprived is some one = rw (is, le-leb 1 seats some, one) refl

-- ---- the plan

-- the plan of an entry with more than half of the weights
abbrev held_enough : Form → Slots → Tree
held_enough f x = Then (Line (op.Get reg.HELD x.result ∷ (op.Add reg.HELD reg.HELD ∷ []))) (If (test.Less reg.AMOUNT reg.HELD) nothing (faulty f x end.Majority))

module _ (c : CountingCode) (e : Election) (f : Form) (x : Slots) (name : List ℕ) (g : Group) (v : List ℕ) (seats : ℕ) (m : Majority) (s : List ℕ) (state : State)
    (slots : HasSlots c f x name) (scope : IsScope e f g) (weights : HasCells e g.entries (state.columns x.votes) v) (seated : HasCells e g.entries (state.columns x.result) s)
    (small : All (λ weight. weight ≤ MAX_WEIGHT) v) (all : sum s ≡ seats) (few : seats ≤ MAX_SEATS) (is : is_refuse m ≡ true) (some : 1 ≤ seats) where
  -- none of the first j entries is deprived
  abbrev Allowed : ℕ → State → Type 0
  Allowed j t = (first_deprived v seats s j ≡ false) × record { columns : t.columns ≡ state.columns; amount : t.registers reg.AMOUNT ≡ seats; total : t.registers reg.TOTAL ≡ sum v }

  lengths : length s ≡ length v
  lengths = seated.one_each ∙ sym weights.one_each

  -- of an entry with more than half of the weights
  one_major : (j : ℕ) (i : Item) (t : State) → slice_get g.entries j ≡ Some i → OnItem i t → Allowed j (bare t) → sum v < 2 * slice_index v j
      → Achieves c e (held_enough f x) t (λ u. Allowed (j + 1) (bare u)) (EndsDeprived x g v seats m s)
  one_major j i t at on h major =
      let q : ℕ = place e i in
      let k : ℕ = t.columns x.result q in
      let w : State = with_register reg.HELD (min (k + k) most) (with_register reg.HELD k t) in
      let less : j < length v = omega (arith, slice_get_within g.entries j i at) in
      let held : k ≡ slice_index s j = ap (λ (r : ℕ → ℕ → ℕ). r x.result q) h.1.columns ∙ seated.at j i at in
      let more : nat_lt (sum v) (2 * slice_index v j) ≡ true = lt-ltb (sum v) (2 * slice_index v j) major in
      line_first (get_does c e t x.result _ slots.result reg.HELD q ((scope.entry j i at).cell t on))
      (line_first refl (line_over (if_less
      (λ enough. line_ends (
        next_allowed v seats s lengths j less h.0
            (and_right (nat_lt (sum v) (2 * slice_index v j)) (nat_le (2 * slice_index s j) seats) (lt-leb (2 * slice_index s j) seats (omega (arith, enough, held, few)))),
        h.1,
      ))
      (λ short. faulty_ends slots scope w end.Majority ((scope.entry j i at).scope t on)
      (record {
        refused = refused_deprived m v seats s is some (one_deprived v seats s lengths j less
            (and_from (nat_lt (sum v) (2 * slice_index v j)) (nat_le (2 * slice_index s j) seats) more (le-leb (2 * slice_index s j) seats (omega (arith, short, held, few, all)))));
        is = refl;
      })))))

  one_entry : (j : ℕ) (i : Item) (t : State) → slice_get g.entries j ≡ Some i → OnItem i t → Allowed j (bare t)
      → Achieves c e (refuse_entry f x) t (λ u. Allowed (j + 1) (bare u)) (EndsDeprived x g v seats m s)
  one_entry j i t at on h =
      let q : ℕ = place e i in
      let n : ℕ = t.columns x.votes q in
      let w : State = with_register reg.WEIGHT (min (n + n) most) (with_register reg.WEIGHT n t) in
      let less : j < length v = omega (arith, slice_get_within g.entries j i at) in
      let weight : n ≡ slice_index v j = ap (λ (r : ℕ → ℕ → ℕ). r x.votes q) h.1.columns ∙ weights.at j i at in
      line_first (get_does c e t x.votes _ slots.votes reg.WEIGHT q ((scope.entry j i at).cell t on))
      (line_first refl (line_over (if_less
      (λ major. one_major j i w at on h
      (omega (arith, major, weight)))
      (λ minor. line_ends (
        next_allowed v seats s lengths j less h.0
            (and_left (nat_lt (sum v) (2 * slice_index v j)) (nat_le (2 * slice_index s j) seats) (le-ltb (sum v) (2 * slice_index v j) (omega (arith, minor, weight)))),
        h.1,
      )))))

  visits : Visits c e (refuse_entry f x) g.entries OnItem Allowed (EndsDeprived x g v seats m s)
  visits = entries_visited (record { party = refl; land = refl; win = refl }) one_entry

refuse_leaves : (f : Form) (x : Slots) → LeavesAll (entries_plan f (refuse_entry f x))
refuse_leaves f x = entries_leave f (refuse_entry f x) (record { columns = λ slot. refl; steps = refl; weights = refl; placed = refl })

pub majority_is_kept : (c : CountingCode) (e : Election) (f : Form) (x : Slots) (name : List ℕ) (k : ℕ) (g : Group) (a : Arena) (v : List ℕ) (seats : ℕ) (told : List Weight)
    (majority : Majority) (before : State) (s : List ℕ) (state : State) → slice_get (groups_of e f) k ≡ Some g → HasSlots c f x name →
    HasCells e g.entries (before.columns x.votes) v → All (λ weight. weight ≤ MAX_WEIGHT) v → sum s ≡ seats → seats ≤ MAX_SEATS →
    IsSeated e x g a v seats told before s state →
    Achieves c e (refuse f x majority) state (StandsBy e x g a v seats told majority before s) (EndsDeprived x g v seats majority s)
majority_is_kept c e f x name k g a v seats told majority before s state at slots cells small all few h =
    elim (cases_Bool (is_refuse majority)) [
      | inl is ↦
          subst (λ (tree : Tree). Achieves c e tree state Q E) (sym (cond-true (is_refuse majority) checked nothing is))
          (if_zero
          (λ zero. line_ends (record { seated = h; allowed = allowed_empty majority v seats s (sym h.amount ∙ zero) }))
          (λ w some. let amount : state.registers reg.AMOUNT ≡ seats = h.amount in course is (omega (arith, some, amount))))
      | inr other ↦
          subst (λ (tree : Tree). Achieves c e tree state Q E) (sym (cond-false (is_refuse majority) checked nothing other))
          (line_ends (record { seated = h; allowed = rw other refl }))
    ]
  where
    Q : State → Type 0
    Q = StandsBy e x g a v seats told majority before s

    E : End → Type 0
    E = EndsDeprived x g v seats majority s

    loop : Tree
    loop = entries_plan f (refuse_entry f x)

    checked : Tree
    checked = If (test.Zero reg.AMOUNT) nothing loop

    scope : IsScope e f g
    scope = scopes_hold e f k g at

    weights : HasCells e g.entries (state.columns x.votes) v
    weights = record { one_each = cells.one_each; at = λ j i there. h.columns x.votes (place e i) slots.not_votes ∙ cells.at j i there }

    course : is_refuse majority ≡ true → 1 ≤ seats → Achieves c e loop state Q E
    course is some =
        let Inv : ℕ → State → Type 0 = Allowed c e f x name g v seats majority s state slots scope weights h.cells small all few is some in
        let run : Achieves c e loop state (λ t. OnScope g.scope t × Inv (length g.entries) (bare t)) E =
        each_entry c e f k g (refuse_entry f x) Inv E state at (visits c e f x name g v seats majority s state slots scope weights h.cells small all few is some) h.on
        (begins_allowed v seats s, record { columns = refl; amount = h.amount; total = h.total }) in
        achieves_keeping run
        (λ t r kept. record {
          seated = seated_unchanged e x g a v seats told before s state t h (unchanged loop state t (refuse_leaves f x) kept) r.0 (r.1.1.amount ∙ sym h.amount) (r.1.1.total ∙ sym h.total);
          allowed = allowed_none majority v seats s
              (all_allowed v seats s (lengths c e f x name g v seats majority s state slots scope weights h.cells small all few is some) (length g.entries) weights.one_each r.1.0);
        })

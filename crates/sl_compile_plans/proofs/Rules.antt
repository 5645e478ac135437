-- Rules by which it is shown what plans achieve: one rule for each form, and for the way each test goes.
use Rattle.std.proofs.Common.{◌≡◌, ◌⊎◌, ℕ, zero, suc, ◌+◌, ◌-◌, ◌<◌, ◌≤◌, Bool, true, false, ◌==◌, List, [], ◌∷◌, length, Option, Some, None, if◌then◌else◌, refl, sym, ap, subst, ◌∙◌, inl, inr, arith}
use Rattle.std.specs.List.{range_with_len}
use Rattle.std.proofs.lemmas.Bool.{cases_Bool, cases_lt, eq-eqb}
use Rattle.sl_base_quotients.specs.declared.entry.Entry.{Entry}
use Rattle.sl_law_meaning.specs.declared.election.Win.{Win}
use Rattle.sl_law_meaning.specs.returns.Election.{Election, has_list}
use Rattle.sl_code_instructions.specs.declared.instr.Instr.{Instr}
use Rattle.sl_code_instructions.specs.Codes.{CountingCode}
use Rattle.sl_base_rankings.specs.Peers.{top, peers, is_covered}
use Rattle.sl_code_semantics.specs.State.{State, End, PriorityTable, with_register}
use Rattle.sl_code_semantics.specs.Drawn.{lot_of}
use Rattle.sl_code_semantics.specs.Effects.{Effect, Goes, Jumps, Ends, effect, with_party, winner_at, name_of}
use Rattle.sl_code_semantics.proofs.effects.Registers.{jz_jumps, jz_falls, jlt_jumps, jlt_falls}
use Rattle.sl_code_semantics.proofs.effects.Cursors.{jnl_jumps, jnl_falls, wparty_jumps, wparty_falls}
use Rattle.sl_code_semantics.proofs.effects.Table.{peers_jumps, peers_falls, lot_jumps, lot_falls}
use Rattle.sl_compile_plans.specs.declared.plan.Test.{Test}
use Rattle.sl_compile_plans.specs.declared.plan.Test.TheVariants as test
use Rattle.sl_compile_plans.specs.declared.plan.Cursor.{Cursor}
use Rattle.sl_compile_plans.specs.declared.plan.Bound.{Bound}
use Rattle.sl_compile_plans.specs.Trees.{Tree, Line, Stop, Then, If, Each, Times, jump_of, ones}
use Rattle.sl_compile_plans.specs.Meaning.{Course, Onward, Final, Unsaid, then_do, passes, stops, branches, count_of, cursor_of, set_cursor, held, turn_at, for_each, turns_in, at_zero, turns, counted, does}
use Rattle.sl_compile_plans.specs.Achieves.{Meets, Achieves, Never}

-- ---- courses

meets_then : (o : Course) (next : State → Course) (Q R : State → Type 0) (E : End → Type 0) → Meets o Q E → ((t : State) → Q t → Meets (next t) R E) → Meets (then_do o next) R E
meets_then (Onward t) next Q R E first rest = rest t first
meets_then _ next Q R E first rest = first

meets_more : (o : Course) (Q R : State → Type 0) (E F : End → Type 0) → Meets o Q E → ((t : State) → Q t → R t) → ((x : End) → E x → F x) → Meets o R F
meets_more (Onward t) Q R E F first on over = on t first
meets_more (Final x) Q R E F first on over = over x first
meets_more Unsaid Q R E F first on over = first

meets_is : (o p : Course) (Q : State → Type 0) (E : End → Type 0) → o ≡ p → Meets p Q E → Meets o Q E
meets_is o p Q E is h = subst (λ (x : Course). Meets x Q E) (sym is) h

-- ---- what holds, and what follows from it

pub achieves_more : {c : CountingCode} {e : Election} {tree : Tree} {s : State} {Q R : State → Type 0} {E F : End → Type 0}
    → Achieves c e tree s Q E → ((t : State) → Q t → R t) → ((x : End) → E x → F x) → Achieves c e tree s R F
achieves_more {c = c} {e = e} {tree = tree} {s = s} {Q = Q} {R = R} {E = E} {F = F} h on over = record { meets = meets_more (does c e tree s) Q R E F h.meets on over }

-- where the run ends, it ends as before
pub achieves_so : {c : CountingCode} {e : Election} {tree : Tree} {s : State} {Q R : State → Type 0} {E : End → Type 0} → Achieves c e tree s Q E → ((t : State) → Q t → R t) → Achieves c e tree s R E
achieves_so h on = achieves_more h on (λ x end. end)

-- a plan that never ends the run ends it in no wrong way
pub achieves_never : {c : CountingCode} {e : Election} {tree : Tree} {s : State} {Q : State → Type 0} {E : End → Type 0} → Achieves c e tree s Q Never → Achieves c e tree s Q E
achieves_never h = achieves_more h (λ t q. q) (λ x never. absurd never)

-- the same in a state under another name
pub achieves_from : {c : CountingCode} {e : Election} {tree : Tree} {s t : State} {Q : State → Type 0} {E : End → Type 0} → s ≡ t → Achieves c e tree t Q E → Achieves c e tree s Q E
achieves_from {c = c} {e = e} {tree = tree} {Q = Q} {E = E} is h = subst (λ (u : State). Achieves c e tree u Q E) (sym is) h

-- ---- lines

pub line_ends : {c : CountingCode} {e : Election} {s : State} {Q : State → Type 0} {E : End → Type 0} → Q s → Achieves c e (Line []) s Q E
line_ends h = record { meets = h }

-- an instruction that goes on, and the rest of the line
pub line_goes : {c : CountingCode} {e : Election} {i : Instr} {is : List Instr} {s : State} {Q : State → Type 0} {E : End → Type 0} {t : State}
    → effect c e i s ≡ Goes t → Achieves c e (Line is) t Q E → Achieves c e (Line (i ∷ is)) s Q E
line_goes {c = c} {e = e} {i = i} {is = is} {s = s} {Q = Q} {E = E} {t = t} at rest = record {
  meets = meets_is (does c e (Line (i ∷ is)) s) (does c e (Line is) t) Q E (ap (λ (x : Effect). then_do (passes x) (does c e (Line is))) at) rest.meets;
}

-- ---- lines of which each instruction goes on: what they do is found by evaluation

-- the plan reaches that state
pub ends_in : {c : CountingCode} {e : Election} {a : Tree} {s t : State} {Q : State → Type 0} {E : End → Type 0} → does c e a s ≡ Onward t → Q t → Achieves c e a s Q E
ends_in {c = c} {e = e} {a = a} {s = s} {t = t} {Q = Q} {E = E} at h = record { meets = meets_is (does c e a s) (Onward t) Q E at h }

-- the plan does what another one does in that state
pub goes_as : {c : CountingCode} {e : Election} {a b : Tree} {s t : State} {Q : State → Type 0} {E : End → Type 0} → Achieves c e b t Q E → does c e a s ≡ does c e b t → Achieves c e a s Q E
goes_as {c = c} {e = e} {a = a} {b = b} {s = s} {t = t} {Q = Q} {E = E} h same = record { meets = meets_is (does c e a s) (does c e b t) Q E same h.meets }

-- ---- ends, and one plan after another

pub stop_achieves : {c : CountingCode} {e : Election} {i : Instr} {s : State} {Q : State → Type 0} {E : End → Type 0} {x : End} → effect c e i s ≡ Ends x → E x → Achieves c e (Stop i) s Q E
stop_achieves {c = c} {e = e} {i = i} {s = s} {Q = Q} {E = E} {x = x} at h = record { meets = meets_is (does c e (Stop i) s) (Final x) Q E (ap stops at) h }

pub then_achieves : {c : CountingCode} {e : Election} {a b : Tree} {s : State} {Q R : State → Type 0} {E : End → Type 0}
    → Achieves c e a s Q E → ((t : State) → Q t → Achieves c e b t R E) → Achieves c e (Then a b) s R E
then_achieves {c = c} {e = e} {a = a} {b = b} {s = s} {Q = Q} {R = R} {E = E} first rest = record { meets = meets_then (does c e a s) (does c e b) Q R E first.meets (λ t h. (rest t h).meets) }

-- where the first plan reaches that state
pub then_at : {c : CountingCode} {e : Election} {a b : Tree} {s w : State} {Q : State → Type 0} {E : End → Type 0} → Achieves c e a s (λ t. t ≡ w) E → Achieves c e b w Q E → Achieves c e (Then a b) s Q E
then_at first rest = then_achieves first (λ t is. achieves_from is rest)

-- a line and a plan after it: an instruction that goes on, and the rest of the line
module _ {c : CountingCode} {e : Election} {b : Tree} {s : State} {Q : State → Type 0} {E : End → Type 0} where
  pub line_first : {i : Instr} {is : List Instr} {t : State} → effect c e i s ≡ Goes t → Achieves c e (Then (Line is) b) t Q E → Achieves c e (Then (Line (i ∷ is)) b) s Q E
  line_first {is = is} at rest = record { meets = subst (λ (x : Effect). Meets (then_do (then_do (passes x) (does c e (Line is))) (does c e b)) Q E) (sym at) rest.meets }

  pub line_over : Achieves c e b s Q E → Achieves c e (Then (Line []) b) s Q E
  line_over rest = record { meets = rest.meets }

-- ---- tests

module _ {c : CountingCode} {e : Election} {t : Test} {a b : Tree} {s : State} {Q : State → Type 0} {E : End → Type 0} where
  pub if_jumps : {u : State} → effect c e (jump_of t 0) s ≡ Jumps u → Achieves c e a u Q E → Achieves c e (If t a b) s Q E
  if_jumps {u = u} at h = record { meets = meets_is (does c e (If t a b) s) (does c e a u) Q E (ap (λ (x : Effect). branches x (does c e a) (does c e b)) at) h.meets }

  pub if_falls : {u : State} → effect c e (jump_of t 0) s ≡ Goes u → Achieves c e b u Q E → Achieves c e (If t a b) s Q E
  if_falls {u = u} at h = record { meets = meets_is (does c e (If t a b) s) (does c e b u) Q E (ap (λ (x : Effect). branches x (does c e a) (does c e b)) at) h.meets }

-- a number is 0, or one more than another
zero_or_more : (n : ℕ) → (n ≡ 0) ⊎ ((w : ℕ) × (n ≡ suc w))
zero_or_more zero = inl refl
zero_or_more (suc w) = inr (w, refl)

module _ {c : CountingCode} {e : Election} {a b : Tree} {s : State} {Q : State → Type 0} {E : End → Type 0} where
  pub if_zero : {r : ℕ} → (s.registers r ≡ 0 → Achieves c e a s Q E) → ((w : ℕ) → s.registers r ≡ suc w → Achieves c e b s Q E) → Achieves c e (If (test.Zero r) a b) s Q E
  if_zero {r = r} none some =
      elim (zero_or_more (s.registers r)) [
        | inl is ↦ if_jumps (jz_jumps c e s r 0 is) (none is)
        | inr more ↦ if_falls (jz_falls c e s r 0 more.0 more.1) (some more.0 more.1)
      ]

  pub if_less : {r q : ℕ} → (s.registers r < s.registers q → Achieves c e a s Q E) → (s.registers q ≤ s.registers r → Achieves c e b s Q E) → Achieves c e (If (test.Less r q) a b) s Q E
  if_less {r = r} {q = q} less other =
      elim (cases_lt (s.registers r) (s.registers q)) [
        | inl is ↦ if_jumps (jlt_jumps c e s r q 0 is) (less is)
        | inr is ↦ if_falls (jlt_falls c e s r q 0 is) (other is)
      ]

  pub if_no_list : {l p : ℕ} → s.land ≡ Some l → s.party ≡ Some p → (has_list e l p ≡ false → Achieves c e a s Q E) → (has_list e l p ≡ true → Achieves c e b s Q E) → Achieves c e (If test.NoList a b) s Q E
  if_no_list {l = l} {p = p} land party none some =
      elim (cases_Bool (has_list e l p)) [
        | inl is ↦ if_falls (jnl_falls c e s l p land party 0 is) (some is)
        | inr is ↦ if_jumps (jnl_jumps c e s l p land party 0 is) (none is)
      ]

  pub if_no_party : {w : Win} → winner_at e s ≡ Some w → (w.party ≡ None → Achieves c e a (with_party None s) Q E) → ((p : ℕ) → w.party ≡ Some p → Achieves c e b (with_party (Some p) s) Q E)
      → Achieves c e (If test.NoParty a b) s Q E
  if_no_party {w = w} winner none some = of w.party refl
    where
      of : (o : Option ℕ) → w.party ≡ o → Achieves c e (If test.NoParty a b) s Q E
      of None is = if_jumps (wparty_jumps c e s w winner 0 is) (none is)
      of (Some p) is = if_falls (wparty_falls c e s w winner 0 p is) (some p is)

  module _ {t : PriorityTable} (table : s.table ≡ Some t) where
    pub if_empty : {r : ℕ} → (length (peers t.contents) ≡ 0 → Achieves c e a s Q E) → ((n : ℕ) → length (peers t.contents) ≡ suc n → Achieves c e b (with_register r (suc n) s) Q E)
        → Achieves c e (If (test.Empty r) a b) s Q E
    if_empty {r = r} none some =
        elim (zero_or_more (length (peers t.contents))) [
          | inl is ↦ if_jumps (peers_jumps c e s t table r 0 is) (none is)
          | inr more ↦ if_falls (peers_falls c e s t table r 0 more.0 more.1) (some more.0 more.1)
        ]

    pub if_not_covered : {n : ℕ} {first : Entry} {name : List ℕ} → top t.contents ≡ Some first → name_of c.stages n ≡ Some name
        → (is_covered (lot_of e t.entries name) t.contents ≡ false → Achieves c e a s Q E) → (is_covered (lot_of e t.entries name) t.contents ≡ true → Achieves c e b s Q E)
        → Achieves c e (If (test.NotCovered n) a b) s Q E
    if_not_covered {n = n} {first = first} {name = name} some named open_lot covered =
        elim (cases_Bool (is_covered (lot_of e t.entries name) t.contents)) [
          | inl is ↦ if_falls (lot_falls c e s t table n first name some named 0 is) (covered is)
          | inr is ↦ if_jumps (lot_jumps c e s t table n first name some named 0 is) (open_lot is)
        ]

-- ---- loops over parties, Länder and winners

module _ (over : Cursor) (body : State → Course) (Inv : ℕ → State → Type 0) (E : End → Type 0) where
  meets_held : (o : Option ℕ) (i : ℕ) (t : State) → o ≡ Some i → Inv (i + 1) t → Meets (held o i t) (Inv (i + 1)) E
  meets_held o i t is h =
      let same : held o i t ≡ Onward t = ap (λ (x : Option ℕ). held x i t) is ∙ ap (λ b. if b then Onward t else Unsaid) (eq-eqb i i refl) in
      meets_is (held o i t) (Onward t) (Inv (i + 1)) E same h

  meets_each : (count i : ℕ) → ((j : ℕ) (t : State) → j < i + count → Inv j t → Meets (body (set_cursor over (Some j) t)) (λ u. (cursor_of over u ≡ Some j) × Inv (j + 1) u) E)
      → (s : State) → Inv i s → Meets (for_each (range_with_len i count) (turn_at over body) s) (Inv (i + count)) E
  meets_each zero i turn s h = let same : i ≡ i + 0 = omega arith in subst (λ (n : ℕ). Inv n s) same h
  meets_each (suc count) i turn s h =
      let same : i + 1 + count ≡ i + suc count = omega arith in
      let hold : State → Course = λ t. held (cursor_of over t) i t in
      meets_then (turn_at over body i s) (for_each (range_with_len (i + 1) count) (turn_at over body)) (Inv (i + 1)) (Inv (i + suc count)) E
      (meets_then (body (set_cursor over (Some i) s)) hold (λ u. (cursor_of over u ≡ Some i) × Inv (i + 1) u) (Inv (i + 1)) E (turn i s (omega arith) h) (λ u k. meets_held (cursor_of over u) i u k.0 k.1))
      (λ t k. subst (λ (n : ℕ). Meets (for_each (range_with_len (i + 1) count) (turn_at over body) t) (Inv n) E) same
      (meets_each count (i + 1) (λ j u below inv. turn j u (omega arith) inv) t k))

-- with an invariant over the number of turns that were made
pub each_achieves : (Inv : ℕ → State → Type 0) {c : CountingCode} {e : Election} {over : Cursor} {body : Tree} {s : State} {Q : State → Type 0} {E : End → Type 0}
    → Inv 0 s
    → ((i : ℕ) (t : State) → i < count_of e over → Inv i t → Achieves c e body (set_cursor over (Some i) t) (λ u. (cursor_of over u ≡ Some i) × Inv (i + 1) u) E)
    → ((t : State) → Inv (count_of e over) t → Q (set_cursor over None t))
    → Achieves c e (Each over body) s Q E
each_achieves Inv {c = c} {e = e} {over = over} {body = body} {s = s} {Q = Q} {E = E} first turn last =
    let n : ℕ = count_of e over in
    record {
      meets = meets_then (for_each (range_with_len 0 n) (turn_at over (does c e body)) s) (λ t. Onward (set_cursor over None t)) (Inv (0 + n)) Q E
          (meets_each over (does c e body) Inv E n 0 (λ j t below inv. (turn j t (omega arith) inv).meets) s first)
          (λ t inv. let same : 0 + n ≡ n = omega arith in last t (subst (λ (m : ℕ). Inv m t) same inv));
    }

-- ---- counted loops

-- a counted turn begins with one turn less to come
pub counted_down : (r w : ℕ) (t : State) → (r == ones) ≡ false → t.registers r ≡ suc w
    → with_register r ((with_register ones 1 t).registers r - (with_register ones 1 t).registers ones) (with_register ones 1 t) ≡ with_register r w (with_register ones 1 t)
counted_down r w t other is =
    let kept : (with_register ones 1 t).registers r ≡ suc w = ap (λ (b : Bool). if b then 1 else t.registers r) other ∙ is in
    let less : (with_register ones 1 t).registers r - 1 ≡ w = omega (arith, kept) in
    ap (λ (v : ℕ). with_register r v (with_register ones 1 t)) less

meets_turns : (r : ℕ) (turn : State → Course) (Inv : ℕ → State → Type 0) (E : End → Type 0)
    → ((w : ℕ) (t : State) → t.registers r ≡ suc w → Inv (suc w) t → Meets (turn t) (λ u. (u.registers r ≤ w) × Inv (u.registers r) u) E)
    → (n v : ℕ) (s : State) → s.registers r ≡ v → v ≤ n → Inv v s → Meets (turns r n turn s) (λ u. (u.registers r ≡ 0) × Inv 0 u) E
meets_turns r turn Inv E each zero zero s is within h = meets_is (turns r 0 turn s) (Onward s) _ E (ap (λ (m : ℕ). at_zero m (Onward s) Unsaid) is) (is, h)
meets_turns r turn Inv E each zero (suc v) s is within h = absurd (omega arith)
meets_turns r turn Inv E each (suc n) zero s is within h = meets_is (turns r (suc n) turn s) (Onward s) _ E (ap (λ (m : ℕ). at_zero m (Onward s) (then_do (turn s) (turns r n turn))) is) (is, h)
meets_turns r turn Inv E each (suc n) (suc v) s is within h =
    meets_is (turns r (suc n) turn s) (then_do (turn s) (turns r n turn)) _ E (ap (λ (m : ℕ). at_zero m (Onward s) (then_do (turn s) (turns r n turn))) is)
    (meets_then (turn s) (turns r n turn) (λ u. (u.registers r ≤ v) × Inv (u.registers r) u) (λ u. (u.registers r ≡ 0) × Inv 0 u) E (each v s is h)
    (λ t k. meets_turns r turn Inv E each n (t.registers r) t refl (omega (arith, within, k.0)) k.1))

-- with an invariant over the number of turns still to come, which the plan of a turn may lower
pub times_achieves : (Inv : ℕ → State → Type 0) {c : CountingCode} {e : Election} {r : ℕ} {m : Bound} {body : Tree} {s : State} {Q : State → Type 0} {E : End → Type 0}
    → (r == ones) ≡ false → s.registers r ≤ turns_in e m → Inv (s.registers r) s
    → ((w : ℕ) (t : State) → t.registers r ≡ suc w → Inv (suc w) t → Achieves c e body (with_register r w (with_register ones 1 t)) (λ u. (u.registers r ≤ w) × Inv (u.registers r) u) E)
    → ((t : State) → t.registers r ≡ 0 → Inv 0 t → Q t)
    → Achieves c e (Times r m body) s Q E
times_achieves Inv {c = c} {e = e} {r = r} {m = m} {body = body} {s = s} {Q = Q} {E = E} other within first turn last = record {
  meets = meets_more (does c e (Times r m body) s) (λ u. (u.registers r ≡ 0) × Inv 0 u) Q E E
      (meets_turns r (counted c e r (does c e body)) Inv E
      (λ w t is inv. subst (λ (u : State). Meets (does c e body u) (λ v. (v.registers r ≤ w) × Inv (v.registers r) v) E) (sym (counted_down r w t other is)) (turn w t is inv).meets)
      (turns_in e m) (s.registers r) s refl within first)
      (λ t h. last t h.0 h.1) (λ x h. h);
}

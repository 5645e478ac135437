-- What a plan cannot write stays: once for every part of a state, as a relation of two states.
use Rattle.std.proofs.Common.{◌≡◌, ℕ, zero, suc, Bool, true, false, ◌==◌, ◌||◌, List, [], ◌∷◌, ◌++◌, Option, Some, None, if◌then◌else◌, refl, sym, ap, subst, ◌∙◌, append_assoc}
use Rattle.std.proofs.lemmas.Bool.{or_parts}
use Rattle.std.proofs.lemmas.List.{append-nil}
use Rattle.std.specs.List.{range_with_len, list_any}
use Rattle.sl_law_meaning.specs.declared.table.SeatStep.{SeatStep}
use Rattle.sl_law_meaning.specs.declared.table.Weight.{Weight}
use Rattle.sl_law_meaning.specs.returns.Election.{Election}
use Rattle.sl_code_instructions.specs.declared.instr.Instr.{Instr}
use Rattle.sl_code_instructions.specs.declared.instr.Instr.TheVariants as op
use Rattle.sl_code_instructions.specs.Codes.{CountingCode}
use Rattle.sl_code_semantics.specs.State.{State}
use Rattle.sl_code_semantics.specs.Effects.{Effect, Goes, Jumps, effect}
use Rattle.sl_code_semantics.specs.Frames.{writes_register, writes_slot, writes_cell, writes_place, moves_party, moves_land, moves_win, writes_table, writes_mark, records_step, records_weight, KeepsOthers, Frames}
use Rattle.sl_code_semantics.proofs.effects.Framing.{frames}
use Rattle.sl_compile_plans.specs.declared.plan.Cursor.{Cursor}
use Rattle.sl_compile_plans.specs.declared.plan.Cursor.TheVariants as cursor
use Rattle.sl_compile_plans.specs.Trees.{Tree, Line, Stop, Then, If, Each, Times, jump_of, to_first, count_down}
use Rattle.sl_compile_plans.specs.Meaning.{Course, Onward, Final, Unsaid, then_do, passes, stops, branches, count_of, cursor_of, set_cursor, held, turn_at, for_each, turns_in, at_zero, turns, in_turn, counted, does}
use Rattle.sl_compile_plans.specs.Frames.{has_instr, seats_winner, PlansKeepTheRest}

module _ (c : CountingCode) (e : Election) (writes : Instr → Bool) (Same : State → State → Type 0)
    (itself : (s : State) → Same s s)
    (on : (s t u : State) → Same s t → Same t u → Same s u)
    (by_instr : (i : Instr) (s t : State) → writes i ≡ false → KeepsOthers c e i s t → Same s t)
    (by_cursor : (over : Cursor) (o : Option ℕ) (s : State) → writes (to_first over 0) ≡ false → Same s (set_cursor over o s)) where
  abbrev Stays : State → Course → Type 0
  Stays s (Onward t) = Same s t
  Stays s (Final x) = Unit {0}
  Stays s Unsaid = Unit {0}

  stays_from : (s t : State) (o : Course) → Same s t → Stays t o → Stays s o
  stays_from s t (Onward u) first rest = on s t u first rest
  stays_from s t _ first rest = tt

  stays_then : (s : State) (o : Course) (next : State → Course) → Stays s o → ((t : State) → Stays t (next t)) → Stays s (then_do o next)
  stays_then s (Onward t) next first rest = stays_from s t (next t) first (rest t)
  stays_then s _ next first rest = tt

  -- ---- instructions
  passes_stays : (i : Instr) (s : State) → writes i ≡ false → (x : Effect) → Frames c e i s x → Stays s (passes x)
  passes_stays i s free (Goes t) h = by_instr i s t free h
  passes_stays i s free _ h = tt

  stops_stays : (s : State) (x : Effect) → Stays s (stops x)
  stops_stays s (Goes t) = tt
  stops_stays s _ = tt

  branches_stays : (i : Instr) (s : State) (arm other : State → Course) → writes i ≡ false → ((t : State) → Stays t (arm t)) → ((t : State) → Stays t (other t))
      → (x : Effect) → Frames c e i s x → Stays s (branches x arm other)
  branches_stays i s arm other free in_arm in_other (Goes t) h = stays_from s t (other t) (by_instr i s t free h) (in_other t)
  branches_stays i s arm other free in_arm in_other (Jumps t) h = stays_from s t (arm t) (by_instr i s t free h) (in_arm t)
  branches_stays i s arm other free in_arm in_other _ h = tt

  line_stays : (is : List Instr) → list_any writes is ≡ false → (s : State) → Stays s (in_turn c e is s)
  line_stays [] free s = itself s
  line_stays (i ∷ is) free s =
      let nor = or_parts (writes i) (list_any writes is) free in
      stays_then s (passes (effect c e i s)) (in_turn c e is) (passes_stays i s nor.0 (effect c e i s) (frames c e s i)) (line_stays is nor.1)

  -- ---- loops
  if_stays : (b : Bool) (s : State) → Stays s (if b then Onward s else Unsaid)
  if_stays true s = itself s
  if_stays false s = tt

  held_stays : (o : Option ℕ) (i : ℕ) (s : State) → Stays s (held o i s)
  held_stays None i s = tt
  held_stays (Some p) i s = if_stays (p == i) s

  each_stays : (over : Cursor) (body : State → Course) → writes (to_first over 0) ≡ false → ((t : State) → Stays t (body t)) → (is : List ℕ) (s : State) → Stays s (for_each is (turn_at over body) s)
  each_stays over body free h [] s = itself s
  each_stays over body free h (i ∷ is) s =
      let here : State = set_cursor over (Some i) s in
      let hold : State → Course = λ t. held (cursor_of over t) i t in
      stays_then s (turn_at over body i s) (for_each is (turn_at over body))
      (stays_from s here (turn_at over body i s) (by_cursor over (Some i) s free) (stays_then here (body here) hold (h here) (λ t. held_stays (cursor_of over t) i t)))
      (each_stays over body free h is)

  at_zero_stays : (v : ℕ) (s : State) (o : Course) → Stays s o → Stays s (at_zero v (Onward s) o)
  at_zero_stays zero s o h = itself s
  at_zero_stays (suc v) s o h = h

  turns_stay : (r : ℕ) (turn : State → Course) → ((t : State) → Stays t (turn t)) → (n : ℕ) (s : State) → Stays s (turns r n turn s)
  turns_stay r turn h zero s = at_zero_stays (s.registers r) s Unsaid tt
  turns_stay r turn h (suc n) s = at_zero_stays (s.registers r) s (then_do (turn s) (turns r n turn)) (stays_then s (turn s) (turns r n turn) (h s) (turns_stay r turn h n))

  -- ---- plans
  plan_stays : (tree : Tree) → has_instr writes tree ≡ false → (s : State) → Stays s (does c e tree s)
  plan_stays (Line is) free s = line_stays is free s
  plan_stays (Stop i) free s = stops_stays s (effect c e i s)
  plan_stays (Then a b) free s =
      let nor = or_parts (has_instr writes a) (has_instr writes b) free in
      stays_then s (does c e a s) (does c e b) (plan_stays a nor.0 s) (plan_stays b nor.1)
  plan_stays (If t a b) free s =
      let nor = or_parts (writes (jump_of t 0)) (has_instr writes a || has_instr writes b) free in
      let arms = or_parts (has_instr writes a) (has_instr writes b) nor.1 in
      branches_stays (jump_of t 0) s (does c e a) (does c e b) nor.0 (plan_stays a arms.0) (plan_stays b arms.1) (effect c e (jump_of t 0) s) (frames c e s (jump_of t 0))
  plan_stays (Each over a) free s =
      let nor = or_parts (writes (to_first over 0)) (has_instr writes a) free in
      stays_then s (for_each (range_with_len 0 (count_of e over)) (turn_at over (does c e a)) s) (λ t. Onward (set_cursor over None t))
      (each_stays over (does c e a) nor.0 (plan_stays a nor.1) (range_with_len 0 (count_of e over)) s) (λ t. by_cursor over None t nor.0)
  plan_stays (Times r m a) free s =
      let nor = or_parts (list_any writes (count_down r)) (has_instr writes a) free in
      turns_stay r (counted c e r (does c e a)) (λ t. stays_then t (in_turn c e (count_down r) t) (does c e a) (line_stays (count_down r) nor.0 t) (plan_stays a nor.1)) (turns_in e m) s

  pub same_after : (tree : Tree) (s t : State) → does c e tree s ≡ Onward t → has_instr writes tree ≡ false → Same s t
  same_after tree s t is free = subst (λ (o : Course). Stays s o) is (plan_stays tree free s)

-- ---- the parts of a state

slot_cell : (c : CountingCode) (e : Election) (i : Instr) (s : State) (slot place : ℕ) → writes_slot i slot ≡ false → writes_cell c e s i slot place ≡ false
slot_cell c e (op.Store k r) s slot place h = rw h refl
slot_cell c e i s slot place h = h

seat_place : (i : Instr) (s : State) (w : ℕ) → seats_winner i ≡ false → writes_place s i w ≡ false
seat_place op.Seat s w h = cc
seat_place op.Single s w h = cc
seat_place i s w h = refl

never_of : (is : List Instr) → list_any (λ i. false) is ≡ false
never_of [] = refl
never_of (i ∷ is) = never_of is

-- no plan has an instruction of no kind
has_none : (tree : Tree) → has_instr (λ i. false) tree ≡ false
has_none (Line is) = never_of is
has_none (Stop i) = refl
has_none (Then a b) = rw (has_none a, has_none b) refl
has_none (If t a b) = rw (has_none a, has_none b) refl
has_none (Each over a) = has_none a
has_none (Times r m a) = has_none a

pub plans_keep_the_rest : PlansKeepTheRest
plans_keep_the_rest c e tree s t is =
    let part = same_after c e in
    record {
      registers = λ q. part (λ i. writes_register i q) (λ u v. v.registers q ≡ u.registers q) (λ u. refl) (λ u v w h k. k ∙ h) (λ i u v free h. h.registers q free)
          (λ over o u free z. (cursors_only over o u z).registers q) tree s t is;
      columns = λ slot. part (λ i. writes_slot i slot) (λ u v. (place : ℕ) → v.columns slot place ≡ u.columns slot place) (λ u place. refl) (λ u v w h k place. k place ∙ h place)
          (λ i u v free h place. h.columns slot place (slot_cell c e i u slot place free)) (λ over o u free place z. (cursors_only over o u z).columns slot place) tree s t is;
      party = part moves_party (λ u v. v.party ≡ u.party) (λ u. refl) (λ u v w h k. k ∙ h) (λ i u v free h. h.party free) kept_party tree s t is;
      land = part moves_land (λ u v. v.land ≡ u.land) (λ u. refl) (λ u v w h k. k ∙ h) (λ i u v free h. h.land free) kept_land tree s t is;
      win = part moves_win (λ u v. v.win ≡ u.win) (λ u. refl) (λ u v w h k. k ∙ h) (λ i u v free h. h.win free) kept_win tree s t is;
      table = part writes_table (λ u v. v.table ≡ u.table) (λ u. refl) (λ u v w h k. k ∙ h) (λ i u v free h. h.table free) (λ over o u free z. (cursors_only over o u z).table) tree s t is;
      mark = part writes_mark (λ u v. v.mark ≡ u.mark) (λ u. refl) (λ u v w h k. k ∙ h) (λ i u v free h. h.mark free) (λ over o u free z. (cursors_only over o u z).mark) tree s t is;
      placed = part seats_winner (λ u v. (w : ℕ) → v.placed w ≡ u.placed w) (λ u w. refl) (λ u v x h k w. k w ∙ h w) (λ i u v free h w. h.placed w (seat_place i u w free))
          (λ over o u free w z. (cursors_only over o u z).placed w) tree s t is;
      steps = part (λ i. false) (λ u v. (more : List SeatStep) × (v.steps ≡ u.steps ++ more)) (λ u. ([], sym (append-nil u.steps)))
          (λ u v w h k. (h.0 ++ k.0, k.1 ∙ ap (λ xs. xs ++ k.0) h.1 ∙ append_assoc u.steps h.0 k.0)) (λ i u v free h. h.steps)
          (λ over o u free. ([], (λ z. (cursors_only over o u z).steps) ∙ sym (append-nil u.steps))) tree s t is (has_none tree);
      weights = part (λ i. false) (λ u v. (more : List Weight) × (v.weights ≡ u.weights ++ more)) (λ u. ([], sym (append-nil u.weights)))
          (λ u v w h k. (h.0 ++ k.0, k.1 ∙ ap (λ xs. xs ++ k.0) h.1 ∙ append_assoc u.weights h.0 k.0)) (λ i u v free h. h.weights)
          (λ over o u free. ([], (λ z. (cursors_only over o u z).weights) ∙ sym (append-nil u.weights))) tree s t is (has_none tree);
      steps_kept = part records_step (λ u v. v.steps ≡ u.steps) (λ u. refl) (λ u v w h k. k ∙ h) (λ i u v free h. h.steps_kept free) (λ over o u free z. (cursors_only over o u z).steps) tree s t is;
      weights_kept = part records_weight (λ u v. v.weights ≡ u.weights) (λ u. refl) (λ u v w h k. k ∙ h) (λ i u v free h. h.weights_kept free) (λ over o u free z. (cursors_only over o u z).weights) tree s t is;
    }
  where
    -- a cursor is set, and all else is as it was
    cursors_only : (over : Cursor) (o : Option ℕ) (u : State)
        → set_cursor over o u ≡ record u { party = (set_cursor over o u).party; land = (set_cursor over o u).land; win = (set_cursor over o u).win }
    cursors_only cursor.Party o u = refl
    cursors_only _ o u = refl

    kept_party : (over : Cursor) (o : Option ℕ) (u : State) → moves_party (to_first over 0) ≡ false → (set_cursor over o u).party ≡ u.party
    kept_party cursor.Party o u free = cc
    kept_party _ o u free = refl

    kept_land : (over : Cursor) (o : Option ℕ) (u : State) → moves_land (to_first over 0) ≡ false → (set_cursor over o u).land ≡ u.land
    kept_land cursor.Party o u free = refl
    kept_land cursor.Land o u free = cc
    kept_land cursor.Win o u free = refl

    kept_win : (over : Cursor) (o : Option ℕ) (u : State) → moves_win (to_first over 0) ≡ false → (set_cursor over o u).win ≡ u.win
    kept_win cursor.Party o u free = refl
    kept_win cursor.Land o u free = refl
    kept_win cursor.Win o u free = cc

-- The machine follows a plan.
use Rattle.std.proofs.Common.{◌≡◌, ℕ, ◌+◌, ◌-◌, [], ◌∷◌, Option, Some, None, refl, sym, ap, subst, ◌∙◌, arith, true, false}
use Rattle.std.proofs.lemmas.Bool.{lt-ltb, le-ltb}
use Rattle.sl_law_meaning.specs.returns.Election.{Election}
use Rattle.sl_code_instructions.specs.declared.instr.Instr.TheVariants.{Set, Sub, Jz, At}
use Rattle.sl_code_instructions.specs.declared.kinds.Kinds.{Kinds}
use Rattle.sl_code_instructions.specs.Codes.{CountingCode}
use Rattle.sl_code_instructions.specs.Standing.{HasAt}
use Rattle.sl_code_instructions.proofs.Standing.{first_stands}
use Rattle.sl_code_semantics.specs.State.{State, with_register}
use Rattle.sl_code_semantics.specs.Comes.{Comes}
use Rattle.sl_code_semantics.specs.Effects.{effect, first_of, next_of}
use Rattle.sl_code_semantics.proofs.effects.Cursors.{first_none, first_some, next_is}
use Rattle.sl_code_semantics.proofs.runs.Coming.{goes, jumps, after, comes_at}
use Rattle.sl_code_semantics.proofs.effects.Registers.{jz_jumps, jz_falls}
use Rattle.sl_compile_plans.specs.declared.plan.Test.{Test}
use Rattle.sl_compile_plans.specs.declared.plan.Cursor.{Cursor}
use Rattle.sl_compile_plans.specs.declared.plan.Cursor.TheVariants as cursor
use Rattle.sl_compile_plans.specs.declared.plan.Bound.{Bound}
use Rattle.sl_compile_plans.specs.Trees.{Tree, Line, Stop, Then, If, Each, Times, is_nothing, size_of, flat, jump_of, to_first, to_next, ones, at_join, kinds_after, known_in_arm, known_in_other, known_in_turn, known_after_loop}
use Rattle.sl_compile_plans.specs.Meaning.{Course, count_of, cursor_of, set_cursor, turns_in, counted, does, cost}
use Rattle.sl_compile_plans.specs.Following.{Follows, PlansAreFollowed}
use Rattle.sl_compile_plans.proofs.Arms.{by_arm, nothing_is, size_if}
use Rattle.sl_compile_plans.proofs.Places.{first_plan, second_plan, unless_stands, if_stands, each_stands, times_stands}
use Rattle.sl_compile_plans.proofs.Pieces.{same_jump, jump_target, first_target, next_target, follows_after, follows_wider, follows_at, in_order, and_on, stops_of, branches_of, declares, leaves_for, line_run}
use Rattle.sl_compile_plans.proofs.Loops.{each_runs, turns_run}

-- ---- cursors

first_does : (over : Cursor) (to : ℕ) (c : CountingCode) (e : Election) (s : State) → effect c e (to_first over to) s ≡ first_of (count_of e over) (set_cursor over) s
first_does cursor.Party to c e s = refl
first_does _ to c e s = refl

next_does : (over : Cursor) (to : ℕ) (c : CountingCode) (e : Election) (s : State) → effect c e (to_next over to) s ≡ next_of (count_of e over) (cursor_of over s) (set_cursor over) s
next_does cursor.Party to c e s = refl
next_does _ to c e s = refl

module _ (c : CountingCode) (e : Election) where
  abbrev Runs : Tree → Type 0
  Runs tree = (k : Kinds) (p : ℕ) (s : State) → HasAt c p (flat k p tree) → Follows c e (cost e tree) p s (p + size_of tree) (does c e tree s)

  -- without an arm
  unless_run : (t : Test) (b : Tree) → Runs b → Runs (If t (Line []) b)
  unless_run t b run_b k p s has =
      let end = p + size_of b + 1 in
      let parts = unless_stands c t b k p has in
      let course : Course = does c e (If t (Line []) b) s in
      let n : ℕ = cost e b + 1 in
      let to_end : p + 1 + size_of b ≡ end = omega arith in
      let behind : end + 1 ≡ p + (size_of b + 2) = omega arith in
      let joined : (u : State) → Comes c e 1 end u (end + 1) u = declares c e end (end + 1) (at_join k) refl parts.joined in
      let in_other : (u : State) → Follows c e n (p + 1) u (end + 1) (does c e b u) = λ u.
      and_on c e (cost e b) 1 (p + 1) end (end + 1) u (does c e b u)
      (follows_at c e (cost e b) (p + 1) (p + 1 + size_of b) end u (does c e b u) to_end (run_b (known_in_other k t) (p + 1) u parts.other)) joined in
      let in_arm : (u : State) → Follows c e n end u (end + 1) (does c e (Line []) u) = λ u.
      follows_wider c e 1 n end (end + 1) u (does c e (Line []) u) (omega arith) (joined u) in
      follows_wider c e (1 + n) (cost e (If t (Line []) b)) p (p + (size_of b + 2)) s course (omega arith)
      (follows_at c e (1 + n) p (end + 1) (p + (size_of b + 2)) s course behind
      (branches_of c e p s (jump_of t end) parts.jump end (end + 1) n (does c e (Line [])) (does c e b) (jump_target t end) in_arm in_other (effect c e (jump_of t 0) s) (same_jump t end c e s)))

  -- with one
  if_run : (t : Test) (a b : Tree) → is_nothing a ≡ false → Runs a → Runs b → Runs (If t a b)
  if_run t a b some run_a run_b k p s has =
      let arm = p + size_of b + 2 in
      let end = arm + size_of a + 1 in
      let parts = if_stands c t a b some k p has in
      let course : Course = does c e (If t a b) s in
      let n : ℕ = cost e a + cost e b + 2 in
      let to_end : arm + 1 + size_of a ≡ end = omega arith in
      let behind : end + 1 ≡ p + (size_of a + size_of b + 4) = omega arith in
      let joined : (u : State) → Comes c e 1 end u (end + 1) u = declares c e end (end + 1) (at_join k) refl parts.joined in
      let in_other : (u : State) → Follows c e n (p + 1) u (end + 1) (does c e b u) = λ u.
      follows_wider c e (cost e b + 2) n (p + 1) (end + 1) u (does c e b u) (omega arith)
      (and_on c e (cost e b) 2 (p + 1) (p + 1 + size_of b) (end + 1) u (does c e b u) (run_b (known_in_other k t) (p + 1) u parts.other)
      (λ v. after c e 1 1 (p + 1 + size_of b) end (end + 1) v v v (leaves_for c e (p + 1 + size_of b) end parts.leave v) (joined v))) in
      let in_arm : (u : State) → Follows c e n arm u (end + 1) (does c e a u) = λ u.
      follows_wider c e (1 + (cost e a + 1)) n arm (end + 1) u (does c e a u) (omega arith)
      (follows_after c e 1 (cost e a + 1) arm (arm + 1) (end + 1) u u (does c e a u) (declares c e arm (arm + 1) (known_in_arm k t) refl parts.declared u)
      (and_on c e (cost e a) 1 (arm + 1) end (end + 1) u (does c e a u)
      (follows_at c e (cost e a) (arm + 1) (arm + 1 + size_of a) end u (does c e a u) to_end (run_a (known_in_arm k t) (arm + 1) u parts.arm_plan)) joined)) in
      let size : p + (size_of a + size_of b + 4) ≡ p + size_of (If t a b) = ap (λ (m : ℕ). p + m) (sym (size_if t a b some)) in
      follows_at c e (cost e a + cost e b + 3) p (p + (size_of a + size_of b + 4)) (p + size_of (If t a b)) s course size
      (follows_wider c e (1 + n) (cost e a + cost e b + 3) p (p + (size_of a + size_of b + 4)) s course (omega arith)
      (follows_at c e (1 + n) p (end + 1) (p + (size_of a + size_of b + 4)) s course behind
      (branches_of c e p s (jump_of t arm) parts.jump arm (end + 1) n (does c e a) (does c e b) (jump_target t arm) in_arm in_other (effect c e (jump_of t 0) s) (same_jump t arm c e s))))

  choice_run : (t : Test) (a b : Tree) → Runs a → Runs b → Runs (If t a b)
  choice_run t a b run_a run_b = by_arm a
      (λ none. subst (λ (arm : Tree). Runs (If t arm b)) (sym (nothing_is a none)) (unless_run t b run_b))
      (λ some. if_run t a b some run_a run_b)

  each_loop : (over : Cursor) (a : Tree) → Runs a → Runs (Each over a)
  each_loop over a run_a k p s has =
      let back = p + size_of a + 2 in
      let end = p + size_of a + 3 in
      let size : ℕ = count_of e over in
      let set : Option ℕ → State → State = set_cursor over in
      let parts = each_stands c over a k p has in
      let inside = known_in_turn k over in
      let to_back : p + 2 + size_of a ≡ back = omega arith in
      each_runs c e over size (cost e a) p (p + 1) (p + 2) back end (p + (size_of a + 4)) (does c e a)
      (λ t h. jumps c e p t (to_first over end) parts.start (set None t) end (first_does over end c e t ∙ first_none t size set h) (first_target over end))
      (λ t h. goes c e p t (to_first over end) parts.start (set (Some 0) t) (first_does over end c e t ∙ first_some t size set h))
      (declares c e (p + 1) (p + 2) inside (omega arith) parts.declared)
      (λ t. follows_at c e (cost e a) (p + 2) (p + 2 + size_of a) back t (does c e a t) to_back (run_a inside (p + 2) t parts.body))
      (λ i t at h. jumps c e back t (to_next over (p + 1)) parts.on (set (Some (i + 1)) t) (p + 1) (next_does over (p + 1) c e t ∙ next_is t size set (cursor_of over t) i true at (lt-ltb (i + 1) size h)) (next_target over (p + 1)))
      (λ i t at h. comes_at c e 1 back (back + 1) end t (set None t) (omega arith)
      (goes c e back t (to_next over (p + 1)) parts.on (set None t) (next_does over (p + 1) c e t ∙ next_is t size set (cursor_of over t) i false at (le-ltb (i + 1) size (omega arith)))))
      (declares c e end (p + (size_of a + 4)) (known_after_loop k over) (omega arith) parts.joined)
      s

  times_loop : (r : ℕ) (m : Bound) (a : Tree) → Runs a → Runs (Times r m a)
  times_loop r m a run_a k p s has =
      let back = p + size_of a + 4 in
      let end = p + size_of a + 5 in
      let parts = times_stands c r m a k p has in
      let declared : (t : State) → Comes c e 1 p t (p + 1) t = declares c e p (p + 1) (at_join k) refl parts.declared in
      let to_back : p + 4 + size_of a ≡ back = omega arith in
      let two : p + 1 + 1 ≡ p + 2 = omega arith in
      let three : p + 2 + 1 ≡ p + 3 = omega arith in
      let four : p + 3 + 1 ≡ p + 4 = omega arith in
      let turn : State → Course = counted c e r (does c e a) in
      turns_run c e r (cost e a) p (p + (size_of a + 6)) turn
      (λ t zero_there.
      after c e 1 2 p (p + 1) (p + (size_of a + 6)) t t t (declared t)
      (after c e 1 1 (p + 1) end (p + (size_of a + 6)) t t t (jumps c e (p + 1) t (Jz r end) parts.test t end (jz_jumps c e t r end zero_there) refl)
      (declares c e end (p + (size_of a + 6)) (at_join k) (omega arith) parts.joined t)))
      (λ w t some.
      let with_one : State = with_register ones 1 t in
      let less : State = with_register r (with_one.registers r - with_one.registers ones) with_one in
      follows_wider c e (1 + (1 + (1 + (1 + (cost e a + 1))))) (cost e a + 5) p p t (turn t) (omega arith)
      (follows_after c e 1 (1 + (1 + (1 + (cost e a + 1)))) p (p + 1) p t t (turn t) (declared t)
      (follows_after c e 1 (1 + (1 + (cost e a + 1))) (p + 1) (p + 2) p t t (turn t) (comes_at c e 1 (p + 1) (p + 1 + 1) (p + 2) t t two (goes c e (p + 1) t (Jz r end) parts.test t (jz_falls c e t r end w some)))
      (follows_after c e 1 (1 + (cost e a + 1)) (p + 2) (p + 3) p t with_one (turn t) (comes_at c e 1 (p + 2) (p + 2 + 1) (p + 3) t with_one three (goes c e (p + 2) t (Set ones 1) parts.one with_one refl))
      (follows_after c e 1 (cost e a + 1) (p + 3) (p + 4) p with_one less (turn t) (comes_at c e 1 (p + 3) (p + 3 + 1) (p + 4) with_one less four (goes c e (p + 3) with_one (Sub r ones) parts.less less refl))
      (and_on c e (cost e a) 1 (p + 4) back p less (does c e a less)
      (follows_at c e (cost e a) (p + 4) (p + 4 + size_of a) back less (does c e a less) to_back (run_a (at_join k) (p + 4) less parts.body))
      (leaves_for c e back p parts.again)))))))
      (turns_in e m) s

  follow : (tree : Tree) → Runs tree
  follow (Line is) k p s has = line_run c e is p s has
  follow (Stop i) k p s has = stops_of c e p s i (first_stands c p i (At (at_join k) ∷ []) has) (p + 2) (effect c e i s) refl
  follow (Then a b) k p s has =
      let end : p + size_of a + size_of b ≡ p + (size_of a + size_of b) = omega arith in
      follows_at c e (cost e a + cost e b) p (p + size_of a + size_of b) (p + (size_of a + size_of b)) s (does c e (Then a b) s) end
      (in_order c e (cost e a) (cost e b) p (p + size_of a) (p + size_of a + size_of b) s (does c e a s) (does c e b)
      (follow a k p s (first_plan c a b k p has)) (λ t. follow b (kinds_after k a) (p + size_of a) t (second_plan c a b k p has)))
  follow (If t a b) k p s has = choice_run t a b (follow a) (follow b) k p s has
  follow (Each over a) k p s has = each_loop over a (follow a) k p s has
  follow (Times r m a) k p s has = times_loop r m a (follow a) k p s has

pub plans_are_followed : PlansAreFollowed
plans_are_followed c e k p tree s has = follow c e tree k p s has

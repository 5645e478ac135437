-- The machine in a loop: the places of its instructions are variables, each with what the machine does there.
use Rattle.std.proofs.Common.{◌≡◌, ℕ, zero, suc, ◌+◌, ◌*◌, ◌<◌, ◌≤◌, Bool, true, false, ◌==◌, Option, Some, None, if◌then◌else◌, refl, sym, ap, subst, ◌∙◌, arith}
use Rattle.std.specs.List.{range_with_len}
use Rattle.std.proofs.lemmas.Bool.{eqb-true}
use Rattle.sl_law_meaning.specs.returns.Election.{Election}
use Rattle.sl_code_instructions.specs.Codes.{CountingCode}
use Rattle.sl_code_semantics.specs.State.{State}
use Rattle.sl_code_semantics.specs.Comes.{Comes}
use Rattle.sl_code_semantics.proofs.runs.Coming.{after, wider}
use Rattle.sl_compile_plans.specs.declared.plan.Cursor.{Cursor}
use Rattle.sl_compile_plans.specs.Meaning.{Course, Onward, Unsaid, then_do, cursor_of, set_cursor, held, turn_at, for_each, each_of, at_zero, turns}
use Rattle.sl_compile_plans.specs.Following.{Follows}
use Rattle.sl_compile_plans.proofs.Pieces.{follows_after, follows_wider, in_order, and_on}

then_assoc : (o : Course) (f g : State → Course) → then_do (then_do o f) g ≡ then_do o (λ s. then_do (f s) g)
then_assoc (Onward s) f g = refl
then_assoc _ f g = refl

module _ (c : CountingCode) (e : Election) where
  -- a loop over parties, Länder or winners: p0 has the start, p1 the declaration, p2 the body, p3 the step, p4 what is declared after it
  module _ (over : Cursor) (size b p0 p1 p2 p3 p4 p5 : ℕ) (body : State → Course)
      (none : (s : State) → size ≡ 0 → Comes c e 1 p0 s p4 (set_cursor over None s))
      (some : (s : State) → 0 < size → Comes c e 1 p0 s p1 (set_cursor over (Some 0) s))
      (declared : (s : State) → Comes c e 1 p1 s p2 s)
      (run : (s : State) → Follows c e b p2 s p3 (body s))
      (again : (i : ℕ) (s : State) → cursor_of over s ≡ Some i → i + 1 < size → Comes c e 1 p3 s p1 (set_cursor over (Some (i + 1)) s))
      (done : (i : ℕ) (s : State) → cursor_of over s ≡ Some i → i + 1 ≡ size → Comes c e 1 p3 s p4 (set_cursor over None s))
      (last : (s : State) → Comes c e 1 p4 s p5 s) where
    -- where the cursor is held
    if_same : (t : Bool) (n i j : ℕ) (s : State) (f : State → Course) → (j == i) ≡ t → cursor_of over s ≡ Some j → (cursor_of over s ≡ Some i → Follows c e n p3 s p4 (f s)) → Follows c e n p3 s p4 (then_do (if t then Onward s else Unsaid) f)
    if_same true n i j s f is at next = next (at ∙ ap Some (eqb-true j i is))
    if_same false n i j s f is at next = tt

    if_held : (o : Option ℕ) (n i : ℕ) (s : State) (f : State → Course) → cursor_of over s ≡ o → (cursor_of over s ≡ Some i → Follows c e n p3 s p4 (f s)) → Follows c e n p3 s p4 (then_do (held o i s) f)
    if_held None n i s f at next = tt
    if_held (Some j) n i s f at next = if_same (j == i) n i j s f refl at next

    abbrev unset : State → Course
    unset s = Onward (set_cursor over None s)

    -- the declaration, the body, and what comes from the step on
    turn_run : (n i : ℕ) (s : State) (f : State → Course) → ((t : State) → cursor_of over t ≡ Some i → Follows c e n p3 t p4 (then_do (f t) unset))
        → Follows c e (1 + (b + n)) p1 (set_cursor over (Some i) s) p4 (then_do (then_do (turn_at over body i s) f) unset)
    turn_run n i s f rest =
        let here : State = set_cursor over (Some i) s in
        let hold : State → Course = λ t. held (cursor_of over t) i t in
        let all : State → Course = λ t. then_do (f t) unset in
        let o : Course = body here in
        let same : then_do (then_do (then_do o hold) f) unset ≡ then_do o (λ t. then_do (hold t) all) = then_assoc (then_do o hold) f unset ∙ then_assoc o hold all in
        subst (λ (x : Course). Follows c e (1 + (b + n)) p1 here p4 x) (sym same)
        (follows_after c e 1 (b + n) p1 p2 p4 here here (then_do o (λ t. then_do (hold t) all)) (declared here)
        (in_order c e b n p2 p3 p4 here o (λ t. then_do (hold t) all) (run here) (λ t. if_held (cursor_of over t) n i t all refl (rest t))))

    rounds : (count i : ℕ) (s : State) → i + suc count ≡ size
        → Follows c e (suc count * (b + 2)) p1 (set_cursor over (Some i) s) p4 (then_do (for_each (range_with_len i (suc count)) (turn_at over body) s) unset)
    rounds zero i s size_is =
        let course : Course = then_do (for_each (range_with_len i 1) (turn_at over body) s) unset in
        follows_wider c e (1 + (b + 1)) (suc zero * (b + 2)) p1 p4 (set_cursor over (Some i) s) course (omega arith)
        (turn_run 1 i s (for_each (range_with_len (i + 1) 0) (turn_at over body)) (λ t at. done i t at (omega arith)))
    rounds (suc count) i s size_is =
        let n : ℕ = suc count * (b + 2) in
        let rest : State → Course = for_each (range_with_len (i + 1) (suc count)) (turn_at over body) in
        let course : Course = then_do (then_do (turn_at over body i s) rest) unset in
        follows_wider c e (1 + (b + (1 + n))) (suc (suc count) * (b + 2)) p1 p4 (set_cursor over (Some i) s) course (omega arith)
        (turn_run (1 + n) i s rest (λ t at.
        follows_after c e 1 n p3 p1 p4 t (set_cursor over (Some (i + 1)) t) (then_do (rest t) unset) (again i t at (omega arith)) (rounds count (i + 1) t (omega arith))))

    each_run : (n : ℕ) (s : State) → n ≡ size → Follows c e (n * (b + 2) + 2) p0 s p5 (each_of n over body s)
    each_run zero s is =
        wider c e (1 + 1) (zero * (b + 2) + 2) p0 p5 s (set_cursor over None s) (omega arith)
        (after c e 1 1 p0 p4 p5 s (set_cursor over None s) (set_cursor over None s) (none s (sym is)) (last (set_cursor over None s)))
    each_run (suc count) s is =
        let first : State = set_cursor over (Some 0) s in
        let n : ℕ = suc count * (b + 2) in
        let course : Course = each_of (suc count) over body s in
        follows_wider c e (1 + n + 1) (suc count * (b + 2) + 2) p0 p5 s course (omega arith)
        (and_on c e (1 + n) 1 p0 p4 p5 s course (follows_after c e 1 n p0 p1 p4 s first course (some s (omega arith)) (rounds count 0 s (omega arith))) last)

    pub each_runs : (s : State) → Follows c e (size * (b + 2) + 2) p0 s p5 (each_of size over body s)
    each_runs s = each_run size s refl

  -- a counted loop that begins at p0
  module _ (r b p0 p1 : ℕ) (turn : State → Course)
      (done : (s : State) → s.registers r ≡ 0 → Comes c e 3 p0 s p1 s)
      (run : (w : ℕ) (s : State) → s.registers r ≡ suc w → Follows c e (b + 5) p0 s p0 (turn s)) where
    -- out of the loop at 0, else on
    at_zero_run : (n v : ℕ) (s : State) (o : Course) → s.registers r ≡ v → 3 ≤ n → ((w : ℕ) → s.registers r ≡ suc w → Follows c e n p0 s p1 o) → Follows c e n p0 s p1 (at_zero v (Onward s) o)
    at_zero_run n zero s o is enough on = wider c e 3 n p0 p1 s s enough (done s is)
    at_zero_run n (suc w) s o is enough on = on w is

    pub turns_run : (n : ℕ) (s : State) → Follows c e (n * (b + 5) + 3) p0 s p1 (turns r n turn s)
    turns_run zero s = at_zero_run (zero * (b + 5) + 3) (s.registers r) s Unsaid refl (omega arith) (λ w is. tt)
    turns_run (suc n) s =
        let rest : ℕ = n * (b + 5) + 3 in
        let all : ℕ = suc n * (b + 5) + 3 in
        let course : Course = then_do (turn s) (turns r n turn) in
        at_zero_run all (s.registers r) s course refl (omega arith) (λ w is.
        follows_wider c e (b + 5 + rest) all p0 p1 s course (omega arith)
        (in_order c e (b + 5) rest p0 p0 p1 s (turn s) (turns r n turn) (run w s is) (turns_run n)))

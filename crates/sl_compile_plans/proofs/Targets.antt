-- The jumps of a plan stay within its instructions.
use Rattle.std.proofs.Common.{◌≡◌, ℕ, zero, suc, ◌+◌, ◌<◌, ◌≤◌, Bool, true, false, not, List, [], ◌∷◌, ◌++◌, length, Option, Some, None, slice_get, if◌then◌else◌, refl, sym, ap, ◌∙◌, arith}
use Rattle.std.proofs.lemmas.Bool.{and_parts}
use Rattle.std.specs.Prelude.{is_some, unwrap_or}
use Rattle.std.specs.List.{list_all}
use Rattle.sl_code_instructions.specs.declared.instr.Instr.{Instr}
use Rattle.sl_code_instructions.specs.declared.instr.Instr.TheVariants.{Set, Sub, Jmp, Jz, At}
use Rattle.sl_code_instructions.specs.declared.kinds.Kinds.{Kinds}
use Rattle.sl_code_instructions.specs.Rows.{target_of}
use Rattle.sl_compile_plans.specs.Trees.{Tree, Line, Stop, Then, If, Each, Times, is_nothing, size_of, flat, with_arm, without_arm, jump_of, to_first, to_next, ones, at_join, kinds_after, known_in_arm, known_in_other, known_in_turn, known_after_loop}
use Rattle.sl_compile_plans.specs.Fine.{jumps_nowhere, has_quiet_lines, PlansJumpWithin}
use Rattle.sl_compile_plans.proofs.Places.{length-flat}
use Rattle.sl_compile_plans.proofs.Pieces.{jump_target, first_target, next_target}

-- each target lies from the one place on and before the other
record Targets (lo hi : ℕ) (is : List Instr) : Type 0 where
  each : (n t : ℕ) (i : Instr) → slice_get is n ≡ Some i → target_of i ≡ Some t → (lo ≤ t) × (t < hi)

-- where one instruction leads
record Leads (lo hi : ℕ) (i : Instr) : Type 0 where
  there : (t : ℕ) → target_of i ≡ Some t → (lo ≤ t) × (t < hi)

same_some : (m n : ℕ) → Some m ≡ Some n → m ≡ n
same_some m n h = ap (λ (o : Option ℕ). unwrap_or o 0) h

leads_to : (lo hi to : ℕ) (i : Instr) → target_of i ≡ Some to → lo ≤ to → to < hi → Leads lo hi i
leads_to lo hi to i is low high = record { there = λ t h. let same : to ≡ t = same_some to t (sym is ∙ h) in (omega (arith, low, same), omega (arith, high, same)) }

leads_nowhere : (lo hi : ℕ) (i : Instr) → jumps_nowhere i ≡ true → Leads lo hi i
leads_nowhere lo hi i h = record { there = λ t is. absurd (nowhere (target_of i) t h is) }
  where
    nowhere : (o : Option ℕ) (t : ℕ) → not (is_some o) ≡ true → o ≡ Some t → ⊥
    nowhere None t quiet is = cc
    nowhere (Some m) t quiet is = cc

no_targets : (lo hi : ℕ) → Targets lo hi []
no_targets lo hi = record { each = λ n t i h. cc }

also : (lo hi : ℕ) (i : Instr) (is : List Instr) → Leads lo hi i → Targets lo hi is → Targets lo hi (i ∷ is)
also lo hi i is first rest = record { each = of }
  where
    of : (n t : ℕ) (j : Instr) → slice_get (i ∷ is) n ≡ Some j → target_of j ≡ Some t → (lo ≤ t) × (t < hi)
    of zero t j h is_target = first.there t (ap target_of (same h) ∙ is_target)
      where
        same : Some i ≡ Some j → i ≡ j
        same k = ap (λ (o : Option Instr). unwrap_or o i) k
    of (suc n) t j h is_target = rest.each n t j h is_target

in_row : (lo hi : ℕ) (xs ys : List Instr) → Targets lo hi xs → Targets lo hi ys → Targets lo hi (xs ++ ys)
in_row lo hi [] ys first rest = rest
in_row lo hi (x ∷ xs) ys first rest =
    also lo hi x (xs ++ ys) (record { there = λ t h. first.each 0 t x refl h })
    (in_row lo hi xs ys (record { each = λ n t i at h. first.each (suc n) t i at h }) rest)

wider : (lo hi low high : ℕ) (is : List Instr) → low ≤ lo → hi ≤ high → Targets lo hi is → Targets low high is
wider lo hi low high is below above h = record { each = λ n t i at is_target. let there = h.each n t i at is_target in (omega (arith, there.0, below), omega (arith, there.1, above)) }

line_targets : (lo hi : ℕ) (is : List Instr) → list_all jumps_nowhere is ≡ true → Targets lo hi is
line_targets lo hi [] h = no_targets lo hi
line_targets lo hi (i ∷ is) h =
    let parts = and_parts (jumps_nowhere i) (list_all jumps_nowhere is) h in
    also lo hi i is (leads_nowhere lo hi i parts.0) (line_targets lo hi is parts.1)

plan_targets : (tree : Tree) (k : Kinds) (p : ℕ) → has_quiet_lines tree ≡ true → Targets p (p + size_of tree) (flat k p tree)
plan_targets (Line is) k p h = line_targets p (p + length is) is h
plan_targets (Stop i) k p h = also p (p + 2) i (At (at_join k) ∷ []) (leads_nowhere p (p + 2) i h) (also p (p + 2) (At (at_join k)) [] (leads_nowhere p (p + 2) (At (at_join k)) refl) (no_targets p (p + 2)))
plan_targets (Then a b) k p h =
    let parts = and_parts (has_quiet_lines a) (has_quiet_lines b) h in
    let hi = p + (size_of a + size_of b) in
    let q = p + size_of a in
    in_row p hi (flat k p a) (flat (kinds_after k a) q b) (wider p q p hi (flat k p a) (omega arith) (omega arith) (plan_targets a k p parts.0))
    (wider q (q + size_of b) p hi (flat (kinds_after k a) q b) (omega arith) (omega arith) (plan_targets b (kinds_after k a) q parts.1))
plan_targets (If t a b) k p h =
    let parts = and_parts (has_quiet_lines a) (has_quiet_lines b) h in
    let arm = p + size_of b + 2 in
    let end = arm + size_of a + 1 in
    let hi = p + (size_of a + size_of b + 4) in
    let last = At (at_join k) ∷ [] in
    let fa = flat (known_in_arm k t) (arm + 1) a in
    let fb = flat (known_in_other k t) (p + 1) b in
    let from_arm = At (known_in_arm k t) ∷ (fa ++ last) in
    let leave = p + size_of b + 1 in
    let low = p + (size_of b + 2) in
    let other = plan_targets b (known_in_other k t) (p + 1) parts.1 in
    let none : Targets p low (without_arm k t leave fb) =
    also p low (jump_of t leave) (fb ++ last) (leads_to p low leave (jump_of t leave) (jump_target t leave) (omega arith) (omega arith))
    (in_row p low fb last (wider (p + 1) (p + 1 + size_of b) p low fb (omega arith) (omega arith) other)
    (also p low (At (at_join k)) [] (leads_nowhere p low (At (at_join k)) refl) (no_targets p low))) in
    let some : Targets p hi (with_arm k t arm end fa fb) =
    also p hi (jump_of t arm) (fb ++ (Jmp end ∷ from_arm)) (leads_to p hi arm (jump_of t arm) (jump_target t arm) (omega arith) (omega arith))
    (in_row p hi fb (Jmp end ∷ from_arm) (wider (p + 1) (p + 1 + size_of b) p hi fb (omega arith) (omega arith) other)
    (also p hi (Jmp end) from_arm (leads_to p hi end (Jmp end) refl (omega arith) (omega arith))
    (also p hi (At (known_in_arm k t)) (fa ++ last) (leads_nowhere p hi (At (known_in_arm k t)) refl)
    (in_row p hi fa last (wider (arm + 1) (arm + 1 + size_of a) p hi fa (omega arith) (omega arith) (plan_targets a (known_in_arm k t) (arm + 1) parts.0))
    (also p hi (At (at_join k)) [] (leads_nowhere p hi (At (at_join k)) refl) (no_targets p hi)))))) in
    either (is_nothing a) (without_arm k t leave fb) (with_arm k t arm end fa fb) (size_of b + 2) (size_of a + size_of b + 4) none some
  where
    either : (n : Bool) (xs ys : List Instr) (x y : ℕ) → Targets p (p + x) xs → Targets p (p + y) ys → Targets p (p + (if n then x else y)) (if n then xs else ys)
    either true xs ys x y none some = none
    either false xs ys x y none some = some
plan_targets (Each over a) k p h =
    let end = p + size_of a + 3 in
    let hi = p + (size_of a + 4) in
    let inside = known_in_turn k over in
    let d = known_after_loop k over in
    let fa = flat inside (p + 2) a in
    let from_next = to_next over (p + 1) ∷ (At d ∷ []) in
    also p hi (to_first over end) (At inside ∷ (fa ++ from_next)) (leads_to p hi end (to_first over end) (first_target over end) (omega arith) (omega arith))
    (also p hi (At inside) (fa ++ from_next) (leads_nowhere p hi (At inside) refl)
    (in_row p hi fa from_next (wider (p + 2) (p + 2 + size_of a) p hi fa (omega arith) (omega arith) (plan_targets a inside (p + 2) h))
    (also p hi (to_next over (p + 1)) (At d ∷ []) (leads_to p hi (p + 1) (to_next over (p + 1)) (next_target over (p + 1)) (omega arith) (omega arith))
    (also p hi (At d) [] (leads_nowhere p hi (At d) refl) (no_targets p hi)))))
plan_targets (Times r m a) k p h =
    let end = p + size_of a + 5 in
    let hi = p + (size_of a + 6) in
    let d = at_join k in
    let fa = flat d (p + 4) a in
    let from_jump = Jmp p ∷ (At d ∷ []) in
    let from_less = Sub r ones ∷ (fa ++ from_jump) in
    also p hi (At d) (Jz r end ∷ (Set ones 1 ∷ from_less)) (leads_nowhere p hi (At d) refl)
    (also p hi (Jz r end) (Set ones 1 ∷ from_less) (leads_to p hi end (Jz r end) refl (omega arith) (omega arith))
    (also p hi (Set ones 1) from_less (leads_nowhere p hi (Set ones 1) refl)
    (also p hi (Sub r ones) (fa ++ from_jump) (leads_nowhere p hi (Sub r ones) refl)
    (in_row p hi fa from_jump (wider (p + 4) (p + 4 + size_of a) p hi fa (omega arith) (omega arith) (plan_targets a d (p + 4) h))
    (also p hi (Jmp p) (At d ∷ []) (leads_to p hi p (Jmp p) refl (omega arith) (omega arith))
    (also p hi (At d) [] (leads_nowhere p hi (At d) refl) (no_targets p hi)))))))

pub plans_jump_within : PlansJumpWithin
plans_jump_within k p tree h = record {
  each = λ n t i at is. let there = (plan_targets tree k p h).each n t i at is in (there.0, omega (arith, there.1, length-flat tree k p));
}

-- Plans as they are laid out.
use Rattle.std.proofs.Common.{◌≡◌, ℕ, ◌+◌, ◌<◌, true, false, List, [], ◌∷◌, ◌++◌, length, map, take, get_or, refl, sym, ap, ◌∙◌, append_assoc}
use Rattle.std.proofs.lemmas.List.{take_more, map-append}
use Rattle.sl_code_instructions.specs.declared.instr.Instr.{Instr}
use Rattle.sl_code_instructions.specs.declared.kinds.Kinds.{Kinds}
use Rattle.sl_code_instructions.specs.declared.instr.Instr.TheVariants.{Jmp, At}
use Rattle.sl_code_semantics.specs.Kinds.{start_kinds}
use Rattle.sl_compile_plans.specs.declared.plan.Test.{Test}
use Rattle.sl_compile_plans.specs.declared.plan.Test.TheVariants as test
use Rattle.sl_compile_plans.specs.Trees.{Tree, If, is_nothing, size_of, flat, jump_of, at_join, known_after, known_after_all, known_in_arm, known_in_other}
use Rattle.sl_compile_plans.specs.Laid.{laid}
use Rattle.sl_compile_plans.proofs.Arms.{nothing_is, flat_if}

known_after-append : (k : Kinds) (xs ys : List Instr) → known_after_all k (xs ++ ys) ≡ known_after_all (known_after_all k xs) ys
known_after-append k [] ys = refl
known_after-append k (x ∷ xs) ys = known_after-append (known_after k x) xs ys

-- with one more part of a line
pub known_more : {X : Type 0} (f : X → Instr) (k : Kinds) (xs : List X) (n : ℕ) (d : X) → n < length xs
    → known_after_all k (map f (take (n + 1) xs)) ≡ known_after (known_after_all k (map f (take n xs))) (f (get_or xs n d))
known_more f k xs n d h =
    ap (λ ys. known_after_all k (map f ys)) (take_more xs n d h)
    ∙ ap (known_after_all k) (map-append f (take n xs) (get_or xs n d ∷ []))
    ∙ known_after-append k (map f (take n xs)) (f (get_or xs n d) ∷ [])

pub known_step : {X : Type 0} (f : X → Instr) (k now next : Kinds) (i : Instr) (xs : List X) (n : ℕ) (d : X) → n < length xs
    → now ≡ known_after_all k (map f (take n xs)) → i ≡ f (get_or xs n d) → next ≡ known_after now i → next ≡ known_after_all k (map f (take (n + 1) xs))
known_step f k now next i xs n d h now_is i_is next_is =
    next_is ∙ ap (known_after now) i_is ∙ ap (λ j. known_after j (f (get_or xs n d))) now_is ∙ sym (known_more f k xs n d h)

pub line_more : {X : Type 0} (f : X → Instr) (start now new : List Instr) (i : Instr) (xs : List X) (n : ℕ) (d : X) → n < length xs
    → now ≡ start ++ map f (take n xs) → i ≡ f (get_or xs n d) → new ≡ now ++ i ∷ [] → new ≡ start ++ map f (take (n + 1) xs)
line_more f start now new i xs n d h now_is i_is new_is =
    new_is
    ∙ ap (λ ys. ys ++ i ∷ []) now_is
    ∙ append_assoc start (map f (take n xs)) (i ∷ [])
    ∙ ap (λ j. start ++ (map f (take n xs) ++ j ∷ [])) i_is
    ∙ ap (λ ys. start ++ ys) (sym (map-append f (take n xs) (get_or xs n d ∷ [])))
    ∙ ap (λ ys. start ++ map f ys) (sym (take_more xs n d h))

-- which cursors and table are known after a jump does not depend on its target
other_known : (u : Test) (m : Kinds) (to : ℕ) → known_after m (jump_of u to) ≡ known_in_other m u
other_known (test.Zero r) m to = refl
other_known _ m to = refl

-- the parts of `If` without an arm, one appended after the other
pub unless_laid : (k : Kinds) (p : ℕ) (t : Test) (a b : Tree) → is_nothing a ≡ true → (start one two three : List Instr) (jump : Instr) (in_other joined : Kinds) (target from_other : ℕ)
    → target ≡ p + size_of b + 1 → from_other ≡ p + 1 → jump ≡ jump_of t target → in_other ≡ known_after k jump → joined ≡ at_join k
    → one ≡ start ++ jump ∷ [] → two ≡ one ++ flat in_other from_other b → three ≡ two ++ At joined ∷ []
    → three ≡ start ++ flat k p (If t a b)
unless_laid k p t a b none start one two three jump in_other joined target from_other target_is other_is jump_is in_other_is joined_is h1 h2 h3 =
    let known_other : in_other ≡ known_in_other k t = in_other_is ∙ ap (known_after k) jump_is ∙ other_known t k target in
    let laid : three ≡ start ++ (jump ∷ (flat in_other from_other b ++ (At joined ∷ []))) = rw (h3, h2, h1) (in_one start (flat in_other from_other b) jump (At joined)) in
    laid ∙ rw (known_other, jump_is, joined_is, other_is, target_is, nothing_is a none) refl
  where
    in_one : (s fb : List Instr) (x w : Instr) → (((s ++ x ∷ []) ++ fb) ++ w ∷ []) ≡ s ++ (x ∷ (fb ++ (w ∷ [])))
    in_one s fb x w = simp append_assoc refl

-- the parts of `If` with one
pub if_laid : (k : Kinds) (p : ℕ) (t : Test) (a b : Tree) → is_nothing a ≡ false → (start one two three four five six : List Instr) (jump : Instr) (in_other in_arm joined : Kinds) (target end from_other from_arm : ℕ)
    → target ≡ p + size_of b + 2 → end ≡ target + size_of a + 1 → from_other ≡ p + 1 → from_arm ≡ target + 1
    → jump ≡ jump_of t target → in_other ≡ known_after k jump → in_arm ≡ known_in_arm k t → joined ≡ at_join k
    → one ≡ start ++ jump ∷ [] → two ≡ one ++ flat in_other from_other b → three ≡ two ++ Jmp end ∷ [] → four ≡ three ++ At in_arm ∷ [] → five ≡ four ++ flat in_arm from_arm a → six ≡ five ++ At joined ∷ []
    → six ≡ start ++ flat k p (If t a b)
if_laid k p t a b some start one two three four five six jump in_other in_arm joined target end from_other from_arm target_is end_is other_is arm_is jump_is in_other_is in_arm_is joined_is h1 h2 h3 h4 h5 h6 =
    let known_other : in_other ≡ known_in_other k t = in_other_is ∙ ap (known_after k) jump_is ∙ other_known t k target in
    let laid : six ≡ start ++ (jump ∷ (flat in_other from_other b ++ (Jmp end ∷ (At in_arm ∷ (flat in_arm from_arm a ++ (At joined ∷ [])))))) =
    rw (h6, h5, h4, h3, h2, h1) (in_one start (flat in_other from_other b) (flat in_arm from_arm a) jump (Jmp end) (At in_arm) (At joined)) in
    laid ∙ rw (known_other, jump_is, in_arm_is, joined_is, other_is, arm_is, end_is, target_is) (ap (λ (is : List Instr). start ++ is) (sym (flat_if t a b some k p)))
  where
    in_one : (s fb fa : List Instr) (x y z w : Instr) → ((((((s ++ x ∷ []) ++ fb) ++ y ∷ []) ++ z ∷ []) ++ fa) ++ w ∷ []) ≡ s ++ (x ∷ (fb ++ (y ∷ (z ∷ (fa ++ (w ∷ []))))))
    in_one s fb fa x y z w = simp append_assoc refl

-- a declaration, and after it a plan
pub laid_behind : (t : Tree) (start reserved declared after : List Instr) (p n : ℕ) → reserved ≡ start → declared ≡ reserved ++ At start_kinds ∷ [] → n ≡ p + 1
    → after ≡ declared ++ flat start_kinds n t → after ≡ start ++ laid p t
laid_behind t start reserved declared after p n reserved_is declared_is n_is after_is =
    after_is ∙ rw (declared_is, reserved_is, n_is) (append_assoc start (At start_kinds ∷ []) (flat start_kinds (p + 1) t))

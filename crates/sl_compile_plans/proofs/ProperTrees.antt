-- The operands of a plan's instructions fit their bytes, where its lines neither jump nor declare and set registers to numbers that fit.
use Rattle.std.proofs.Common.{◌≡◌, ℕ, ◌+◌, ◌<◌, ◌≤◌, ◌^◌, Bool, true, false, ◌&&◌, List, [], ◌∷◌, ◌++◌, flat_map, if◌then◌else◌, refl, arith}
use Rattle.std.specs.Prelude.{nat_lt}
use Rattle.std.specs.List.{AllByRecursion, list_all}
use Rattle.std.proofs.lemmas.Bool.{and_parts, and_from, false≢true, lt-ltb, ltb-true}
use Rattle.sl_code_instructions.specs.declared.instr.Instr.{Instr}
use Rattle.sl_code_instructions.specs.declared.instr.Instr.TheVariants as op
use Rattle.sl_code_instructions.specs.declared.kinds.Kinds.{Kinds}
use Rattle.sl_code_instructions.specs.declared.parts.Operand.{Operand}
use Rattle.sl_code_instructions.specs.declared.parts.Operand.TheVariants as o
use Rattle.sl_code_instructions.specs.Rows.{operands_of}
use Rattle.sl_code_instructions.specs.Proper.{FitsBytes, IsInRange}
use Rattle.sl_code_semantics.specs.Kinds.{start_kinds}
use Rattle.sl_compile_plans.specs.declared.plan.Bound.{Bound}
use Rattle.sl_compile_plans.specs.declared.plan.Cursor.{Cursor}
use Rattle.sl_compile_plans.specs.declared.plan.Cursor.TheVariants as cursor
use Rattle.sl_compile_plans.specs.declared.plan.Test.{Test}
use Rattle.sl_compile_plans.specs.declared.plan.Test.TheVariants as test
use Rattle.sl_compile_plans.specs.Trees.{Tree, Line, Stop, Then, If, Each, Times, is_nothing, size_of, flat, with_arm, without_arm, jump_of, to_first, to_next, ones, at_join, known_after_all, known_after, known_in_arm, known_in_other, known_in_turn, known_after_loop, with_cursor_known, kinds_after}
use Rattle.sl_compile_plans.specs.Fine.{is_plain, jumps_nowhere, has_quiet_lines}
use Rattle.sl_compile_plans.specs.Laid.{laid}
use Rattle.sl_compile_plans.proofs.ProperLists.{all_append, all_parts, AllFit, small_fit}

-- ---- what is asked of a plan

-- the numbers that an instruction sets a register to
abbrev pub set_number : Instr → List ℕ
set_number (op.Set r n) = n ∷ []
set_number _ = []

-- those of a plan's lines
abbrev pub set_numbers : Tree → List ℕ
set_numbers (Line is) = flat_map set_number is
set_numbers (Stop i) = set_number i
set_numbers (Then a b) = set_numbers a ++ set_numbers b
set_numbers (If t a b) = set_numbers a ++ set_numbers b
set_numbers (Each over a) = set_numbers a
set_numbers (Times r m a) = set_numbers a

-- no instruction of its lines jumps or declares
abbrev pub has_plain_lines : Tree → Bool
has_plain_lines (Line is) = list_all is_plain is
has_plain_lines (Stop i) = is_plain i
has_plain_lines (Then a b) = has_plain_lines a && has_plain_lines b
has_plain_lines (If t a b) = has_plain_lines a && has_plain_lines b
has_plain_lines (Each over a) = has_plain_lines a
has_plain_lines (Times r m a) = has_plain_lines a

pub record IsRanged (tree : Tree) : Type 0 where
  pub plain : has_plain_lines tree ≡ true
  pub numbers : AllFit (set_numbers tree)

-- so is a plan that sets registers to small numbers alone
abbrev pub is_ranged : Tree → Bool
is_ranged tree = has_plain_lines tree && list_all (λ n. nat_lt n 5000) (set_numbers tree)

pub small_ranged : (tree : Tree) → is_ranged tree ≡ true → IsRanged tree
small_ranged tree h = let parts = and_parts (has_plain_lines tree) _ h in record { plain = parts.0; numbers = small_fit (set_numbers tree) parts.1 }

-- ---- instructions

-- the test of `FitsBytes`
abbrev fits_bytes : Operand → Bool
fits_bytes (o.Target t) = nat_lt t (2 ^ 32)
fits_bytes (o.Value n) = nat_lt n (2 ^ 64)
fits_bytes (o.Positive registers) = nat_lt registers.mask (2 ^ 16)
fits_bytes _ = true

operand_fits : (x : Operand) → fits_bytes x ≡ true → FitsBytes x
operand_fits (o.Target t) h = ltb-true t (2 ^ 32) h
operand_fits (o.Value n) h = ltb-true n (2 ^ 64) h
operand_fits (o.Positive registers) h = ltb-true registers.mask (2 ^ 16) h
operand_fits _ h = tt

operands_fit : (xs : List Operand) → list_all fits_bytes xs ≡ true → AllByRecursion FitsBytes xs
operands_fit [] h = tt
operands_fit (x ∷ xs) h = let parts = and_parts (fits_bytes x) (list_all fits_bytes xs) h in (operand_fits x parts.0, operands_fit xs parts.1)

plain_in_range : (i : Instr) → is_plain i ≡ true → AllFit (set_number i) → IsInRange i
plain_in_range (op.Set r n) plain h = operands_fit (operands_of (op.Set r n)) (and_from (nat_lt n (2 ^ 64)) true (lt-ltb n (2 ^ 64) h.0) refl)
plain_in_range (op.Jmp t) plain h = absurd (false≢true plain)
plain_in_range (op.Jz r t) plain h = absurd (false≢true plain)
plain_in_range (op.Jlt r s t) plain h = absurd (false≢true plain)
plain_in_range (op.Jnl t) plain h = absurd (false≢true plain)
plain_in_range (op.Wparty t) plain h = absurd (false≢true plain)
plain_in_range (op.Fparty t) plain h = absurd (false≢true plain)
plain_in_range (op.Nparty t) plain h = absurd (false≢true plain)
plain_in_range (op.Fland t) plain h = absurd (false≢true plain)
plain_in_range (op.Nland t) plain h = absurd (false≢true plain)
plain_in_range (op.Fwin t) plain h = absurd (false≢true plain)
plain_in_range (op.Nwin t) plain h = absurd (false≢true plain)
plain_in_range (op.Peers r t) plain h = absurd (false≢true plain)
plain_in_range (op.Lot n t) plain h = absurd (false≢true plain)
plain_in_range (op.At k) plain h = absurd (false≢true plain)
plain_in_range i plain h = operands_fit (operands_of i) refl

line_in_range : (is : List Instr) → list_all is_plain is ≡ true → AllFit (flat_map set_number is) → AllByRecursion IsInRange is
line_in_range [] plain h = tt
line_in_range (i ∷ is) plain h =
    let plains = and_parts (is_plain i) (list_all is_plain is) plain in
    let numbers = all_parts _ (set_number i) (flat_map set_number is) h in
    (plain_in_range i plains.0 numbers.0, line_in_range is plains.1 numbers.1)

-- ---- jumps and declarations

-- the mask of a declaration fits its bytes
abbrev HasMask : Kinds → Type 0
HasMask k = k.positive.mask < 2 ^ 16

at_in_range : (k : Kinds) → HasMask k → IsInRange (op.At k)
at_in_range k h = operands_fit (operands_of (op.At k)) (and_from (nat_lt k.positive.mask (2 ^ 16)) true (lt-ltb k.positive.mask (2 ^ 16) h) refl)

to_fits : (to : ℕ) → to < 2 ^ 32 → (nat_lt to (2 ^ 32) && true) ≡ true
to_fits to h = and_from (nat_lt to (2 ^ 32)) true (lt-ltb to (2 ^ 32) h) refl

module _ (to : ℕ) (h : to < 2 ^ 32) where
  jmp_in_range : IsInRange (op.Jmp to)
  jmp_in_range = operands_fit (operands_of (op.Jmp to)) (to_fits to h)

  test_in_range : (t : Test) → IsInRange (jump_of t to)
  test_in_range (test.Zero r) = operands_fit (operands_of (op.Jz r to)) (to_fits to h)
  test_in_range (test.Less r s) = operands_fit (operands_of (op.Jlt r s to)) (to_fits to h)
  test_in_range test.NoList = operands_fit (operands_of (op.Jnl to)) (to_fits to h)
  test_in_range test.NoParty = operands_fit (operands_of (op.Wparty to)) (to_fits to h)
  test_in_range (test.Empty r) = operands_fit (operands_of (op.Peers r to)) (to_fits to h)
  test_in_range (test.NotCovered n) = operands_fit (operands_of (op.Lot n to)) (to_fits to h)

  first_in_range : (over : Cursor) → IsInRange (to_first over to)
  first_in_range cursor.Party = operands_fit (operands_of (op.Fparty to)) (to_fits to h)
  first_in_range cursor.Land = operands_fit (operands_of (op.Fland to)) (to_fits to h)
  first_in_range cursor.Win = operands_fit (operands_of (op.Fwin to)) (to_fits to h)

  next_in_range : (over : Cursor) → IsInRange (to_next over to)
  next_in_range cursor.Party = operands_fit (operands_of (op.Nparty to)) (to_fits to h)
  next_in_range cursor.Land = operands_fit (operands_of (op.Nland to)) (to_fits to h)
  next_in_range cursor.Win = operands_fit (operands_of (op.Nwin to)) (to_fits to h)

-- ---- positive registers: no plan declares others than were known where it began

mask_in_loop : (over : Cursor) (b : Bool) (k : Kinds) → HasMask k → HasMask (with_cursor_known over b (at_join k))
mask_in_loop cursor.Party b k h = h
mask_in_loop _ b k h = h

mask_after_line : (is : List Instr) (k : Kinds) → HasMask k → HasMask (known_after_all k is)
mask_after_line [] k h = h
mask_after_line (i ∷ is) k h = mask_after_line is (known_after k i) h

mask_after : (tree : Tree) (k : Kinds) → HasMask k → HasMask (kinds_after k tree)
mask_after (Line is) k h = mask_after_line is k h
mask_after (Stop i) k h = h
mask_after (Then a b) k h = mask_after b (kinds_after k a) (mask_after a k h)
mask_after (If t a b) k h = h
mask_after (Each over a) k h = mask_in_loop over false k h
mask_after (Times r m a) k h = h

-- ---- plans

-- wherever the plan stands, before the last place that a jump can name
abbrev InRangeFrom : Tree → Type 0
InRangeFrom tree = (k : Kinds) (p : ℕ) → HasMask k → p + size_of tree ≤ 2 ^ 32 → AllByRecursion IsInRange (flat k p tree)

-- the jumps of a form lead to places within it
if_in_range : (t : Test) (a b : Tree) → InRangeFrom a → InRangeFrom b → InRangeFrom (If t a b)
if_in_range t a b in_a in_b k p mask = either (is_nothing a) _ _ (size_of b + 2) (size_of a + size_of b + 4) none some
  where
    fb : List Instr
    fb = flat (known_in_other k t) (p + 1) b

    none : p + (size_of b + 2) ≤ 2 ^ 32 → AllByRecursion IsInRange (without_arm k t (p + size_of b + 1) fb)
    none below =
        let end : ℕ = p + size_of b + 1 in
        let jump : end < 2 ^ 32 = omega (arith, below) in
        let b_below : p + 1 + size_of b ≤ 2 ^ 32 = omega (arith, below) in
        (test_in_range end jump t, all_append IsInRange fb _ (in_b (known_in_other k t) (p + 1) mask b_below) (at_in_range (at_join k) mask, tt))

    some : p + (size_of a + size_of b + 4) ≤ 2 ^ 32
        → AllByRecursion IsInRange (with_arm k t (p + size_of b + 2) (p + size_of b + 2 + size_of a + 1) (flat (known_in_arm k t) (p + size_of b + 2 + 1) a) fb)
    some below =
        let arm : ℕ = p + size_of b + 2 in
        let end : ℕ = arm + size_of a + 1 in
        let jump : arm < 2 ^ 32 = omega (arith, below) in
        let leave : end < 2 ^ 32 = omega (arith, below) in
        let b_below : p + 1 + size_of b ≤ 2 ^ 32 = omega (arith, below) in
        let a_below : arm + 1 + size_of a ≤ 2 ^ 32 = omega (arith, below) in (
          test_in_range arm jump t,
          all_append IsInRange fb _ (in_b (known_in_other k t) (p + 1) mask b_below) (
            jmp_in_range end leave,
            (
              at_in_range (known_in_arm k t) mask,
              all_append IsInRange (flat (known_in_arm k t) (arm + 1) a) _ (in_a (known_in_arm k t) (arm + 1) mask a_below) (at_in_range (at_join k) mask, tt),
            ),
          ),
        )

    either : (n : Bool) (xs ys : List Instr) (x y : ℕ) → (p + x ≤ 2 ^ 32 → AllByRecursion IsInRange xs) → (p + y ≤ 2 ^ 32 → AllByRecursion IsInRange ys)
        → p + (if n then x else y) ≤ 2 ^ 32 → AllByRecursion IsInRange (if n then xs else ys)
    either true xs ys x y without with below = without below
    either false xs ys x y without with below = with below

each_in_range : (over : Cursor) (a : Tree) → InRangeFrom a → InRangeFrom (Each over a)
each_in_range over a in_a k p mask below =
    let end : ℕ = p + size_of a + 3 in
    let out : end < 2 ^ 32 = omega (arith, below) in
    let back : p + 1 < 2 ^ 32 = omega (arith, below) in
    let a_below : p + 2 + size_of a ≤ 2 ^ 32 = omega (arith, below) in
    let inside = known_in_turn k over in (
      first_in_range end out over,
      (
        at_in_range inside (mask_in_loop over true k mask),
        all_append IsInRange (flat inside (p + 2) a) _ (in_a inside (p + 2) (mask_in_loop over true k mask) a_below)
            (next_in_range (p + 1) back over, (at_in_range (known_after_loop k over) (mask_in_loop over false k mask), tt)),
      ),
    )

times_in_range : (r : ℕ) (m : Bound) (a : Tree) → InRangeFrom a → InRangeFrom (Times r m a)
times_in_range r m a in_a k p mask below =
    let end : ℕ = p + size_of a + 5 in
    let out : end < 2 ^ 32 = omega (arith, below) in
    let back : p < 2 ^ 32 = omega (arith, below) in
    let a_below : p + 4 + size_of a ≤ 2 ^ 32 = omega (arith, below) in (
      at_in_range (at_join k) mask,
      (
        test_in_range end out (test.Zero r),
        (
          operands_fit (operands_of (op.Set ones 1)) refl,
          (
            operands_fit (operands_of (op.Sub r ones)) refl,
            all_append IsInRange (flat (at_join k) (p + 4) a) _ (in_a (at_join k) (p + 4) mask a_below) (jmp_in_range p back, (at_in_range (at_join k) mask, tt)),
          ),
        ),
      ),
    )

-- by induction over the plan
plan_in_range : (tree : Tree) → has_plain_lines tree ≡ true → AllFit (set_numbers tree) → InRangeFrom tree
plan_in_range (Line is) plain numbers k p mask below = line_in_range is plain numbers
plan_in_range (Stop i) plain numbers k p mask below = (plain_in_range i plain numbers, (at_in_range (at_join k) mask, tt))
plan_in_range (Then a b) plain numbers k p mask below =
    let plains = and_parts (has_plain_lines a) (has_plain_lines b) plain in
    let parts = all_parts _ (set_numbers a) (set_numbers b) numbers in
    let a_below : p + size_of a ≤ 2 ^ 32 = omega (arith, below) in
    let b_below : p + size_of a + size_of b ≤ 2 ^ 32 = omega (arith, below) in
    all_append IsInRange (flat k p a) _ (plan_in_range a plains.0 parts.0 k p mask a_below) (plan_in_range b plains.1 parts.1 (kinds_after k a) (p + size_of a) (mask_after a k mask) b_below)
plan_in_range (If t a b) plain numbers k p mask below =
    let plains = and_parts (has_plain_lines a) (has_plain_lines b) plain in
    let parts = all_parts _ (set_numbers a) (set_numbers b) numbers in
    if_in_range t a b (plan_in_range a plains.0 parts.0) (plan_in_range b plains.1 parts.1) k p mask below
plan_in_range (Each over a) plain numbers k p mask below = each_in_range over a (plan_in_range a plain numbers) k p mask below
plan_in_range (Times r m a) plain numbers k p mask below = times_in_range r m a (plan_in_range a plain numbers) k p mask below

-- and with the declaration in front of it
pub laid_in_range : (p : ℕ) (t : Tree) → IsRanged t → p + 1 + size_of t ≤ 2 ^ 32 → AllByRecursion IsInRange (laid p t)
laid_in_range p t h below = (at_in_range start_kinds (omega arith), plan_in_range t h.plain h.numbers start_kinds (p + 1) (omega arith) below)

-- ---- no line jumps

line_is_quiet : (is : List Instr) → list_all is_plain is ≡ true → list_all jumps_nowhere is ≡ true
line_is_quiet [] h = refl
line_is_quiet (i ∷ is) h =
    let parts = and_parts (is_plain i) (list_all is_plain is) h in
    and_from (jumps_nowhere i) _ (and_parts (jumps_nowhere i) _ parts.0).0 (line_is_quiet is parts.1)

pub plain_is_quiet : (tree : Tree) → has_plain_lines tree ≡ true → has_quiet_lines tree ≡ true
plain_is_quiet (Line is) h = line_is_quiet is h
plain_is_quiet (Stop i) h = (and_parts (jumps_nowhere i) _ h).0
plain_is_quiet (Then a b) h =
    let parts = and_parts (has_plain_lines a) (has_plain_lines b) h in
    and_from (has_quiet_lines a) (has_quiet_lines b) (plain_is_quiet a parts.0) (plain_is_quiet b parts.1)
plain_is_quiet (If t a b) h =
    let parts = and_parts (has_plain_lines a) (has_plain_lines b) h in
    and_from (has_quiet_lines a) (has_quiet_lines b) (plain_is_quiet a parts.0) (plain_is_quiet b parts.1)
plain_is_quiet (Each over a) h = plain_is_quiet a h
plain_is_quiet (Times r m a) h = plain_is_quiet a h

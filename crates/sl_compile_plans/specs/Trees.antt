-- Plans of counting code without references and blanks, and the instructions that they stand for (docs/plans.md, sections 1 and 2).
use Rattle.std.specs.Prelude.{ℕ, ◌+◌, Bool, true, false, List, [], ◌∷◌, ◌++◌, length, if◌then◌else◌}
use Rattle.sl_code_instructions.specs.declared.instr.Instr.{Instr}
use Rattle.sl_code_instructions.specs.declared.instr.Instr.TheVariants.{Set, Sub, Jmp, Jz, Jlt, Jnl, Wparty, Fparty, Nparty, Fland, Nland, Fwin, Nwin, Peers, Lot, At}
use Rattle.sl_code_instructions.specs.declared.kinds.Kinds.{Kinds}
use Rattle.sl_code_semantics.specs.Leaves.{cursors_behind, cursors_carried, table_behind, with_party, with_land, with_win, with_ready}
use Rattle.sl_compile_plans.specs.declared.plan.TheConstants.{ONES}
use Rattle.sl_compile_plans.specs.declared.plan.Test.{Test}
use Rattle.sl_compile_plans.specs.declared.plan.Test.TheVariants as test
use Rattle.sl_compile_plans.specs.declared.plan.Cursor.{Cursor}
use Rattle.sl_compile_plans.specs.declared.plan.Cursor.TheVariants as cursor
use Rattle.sl_compile_plans.specs.declared.plan.Bound.{Bound}

pub data Tree : Type 0 where
  Line : (instrs : List Instr) → Tree
  Stop : (instr : Instr) → Tree
  Then : (first second : Tree) → Tree
  If : (test : Test) (arm other : Tree) → Tree
  Each : (over : Cursor) (body : Tree) → Tree
  Times : (register : ℕ) (most : Bound) (body : Tree) → Tree

-- whether it is a line without instructions
abbrev pub is_nothing : Tree → Bool
is_nothing (Line []) = true
is_nothing _ = false

-- how many instructions it has
abbrev pub size_of : Tree → ℕ
size_of (Line is) = length is
size_of (Stop i) = 2
size_of (Then a b) = size_of a + size_of b
size_of (If t a b) = if is_nothing a then size_of b + 2 else size_of a + size_of b + 4
size_of (Each over a) = size_of a + 4
size_of (Times r m a) = size_of a + 6

-- ---- jumps, and the count of a turn

-- the jump that asks this
abbrev pub jump_of : Test → ℕ → Instr
jump_of (test.Zero r) to = Jz r to
jump_of (test.Less r s) to = Jlt r s to
jump_of test.NoList to = Jnl to
jump_of test.NoParty to = Wparty to
jump_of (test.Empty r) to = Peers r to
jump_of (test.NotCovered n) to = Lot n to

-- to the first one, and on to the next
abbrev pub to_first : Cursor → ℕ → Instr
to_first cursor.Party to = Fparty to
to_first cursor.Land to = Fland to
to_first cursor.Win to = Fwin to

abbrev pub to_next : Cursor → ℕ → Instr
to_next cursor.Party to = Nparty to
to_next cursor.Land to = Nland to
to_next cursor.Win to = Nwin to

-- the register of the number 1 by which others count
abbrev pub ones : ℕ
ones = ONES

-- the register is one less
abbrev pub count_down : ℕ → List Instr
count_down r = Set ones 1 ∷ (Sub r ones ∷ [])

-- ---- what is known of cursors and table, with no register positive: it is all that a plan declares

-- where a form ends, and at the head of a counted loop: what was known where the form began, but the table may be empty
abbrev pub at_join : Kinds → Kinds
at_join k = record k { table = with_ready false k.table }

-- after an instruction
abbrev pub known_after : Kinds → Instr → Kinds
known_after k i = record k { cursors = cursors_behind k i; table = table_behind k.table i }

abbrev pub known_after_all : Kinds → List Instr → Kinds
known_after_all k [] = k
known_after_all k (i ∷ is) = known_after_all (known_after k i) is

-- where a test jumps to, and where it does not jump
abbrev pub known_in_arm : Kinds → Test → Kinds
known_in_arm k t = record k { cursors = cursors_carried k.cursors (jump_of t 0) }

abbrev pub known_in_other : Kinds → Test → Kinds
known_in_other k t = known_after k (jump_of t 0)

-- in a loop over parties, Länder or winners, and after it
abbrev pub with_cursor_known : Cursor → Bool → Kinds → Kinds
with_cursor_known cursor.Party b k = record k { cursors = with_party b k.cursors }
with_cursor_known cursor.Land b k = record k { cursors = with_land b k.cursors }
with_cursor_known cursor.Win b k = record k { cursors = with_win b k.cursors }

abbrev pub known_in_turn : Kinds → Cursor → Kinds
known_in_turn k over = with_cursor_known over true (at_join k)

abbrev pub known_after_loop : Kinds → Cursor → Kinds
known_after_loop k over = with_cursor_known over false (at_join k)

-- after a plan
abbrev pub kinds_after : Kinds → Tree → Kinds
kinds_after k (Line is) = known_after_all k is
kinds_after k (Stop i) = at_join k
kinds_after k (Then a b) = kinds_after (kinds_after k a) b
kinds_after k (If t a b) = at_join k
kinds_after k (Each over a) = known_after_loop k over
kinds_after k (Times r m a) = at_join k

-- ---- the instructions of a plan whose first one stands at place p, where k is known

-- a choice between two plans: a jump to the declaration of the arm, or over the other plan to the end, where there is no arm
abbrev pub with_arm : Kinds → Test → ℕ → ℕ → List Instr → List Instr → List Instr
with_arm k t arm end in_arm other = jump_of t arm ∷ (other ++ (Jmp end ∷ (At (known_in_arm k t) ∷ (in_arm ++ (At (at_join k) ∷ [])))))

abbrev pub without_arm : Kinds → Test → ℕ → List Instr → List Instr
without_arm k t end other = jump_of t end ∷ (other ++ (At (at_join k) ∷ []))

abbrev pub flat : Kinds → ℕ → Tree → List Instr
flat k p (Line is) = is
flat k p (Stop i) = i ∷ (At (at_join k) ∷ [])
flat k p (Then a b) = flat k p a ++ flat (kinds_after k a) (p + size_of a) b
flat k p (If t a b) =
    let other = flat (known_in_other k t) (p + 1) b in
    let arm = p + size_of b + 2 in
    if is_nothing a then without_arm k t (p + size_of b + 1) other else with_arm k t arm (arm + size_of a + 1) (flat (known_in_arm k t) (arm + 1) a) other
flat k p (Each over a) =
    let end = p + size_of a + 3 in
    to_first over end ∷ (At (known_in_turn k over) ∷ (flat (known_in_turn k over) (p + 2) a ++ (to_next over (p + 1) ∷ (At (known_after_loop k over) ∷ []))))
flat k p (Times r m a) =
    let end = p + size_of a + 5 in
    At (at_join k) ∷ (Jz r end ∷ (Set ones 1 ∷ (Sub r ones ∷ (flat (at_join k) (p + 4) a ++ (Jmp p ∷ (At (at_join k) ∷ []))))))

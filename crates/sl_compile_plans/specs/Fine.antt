-- Which plans the verifier accepts where certain kinds are known (docs/plans.md, section 9).
use Rattle.std.specs.Prelude.{◌≡◌, ◌≤◌, ℕ, Bool, true, not, ◌&&◌, List, [], ◌∷◌, length, Option, Some, None, is_some, slice_get}
use Rattle.std.specs.List.{list_all}
use Rattle.sl_base_terms.specs.declared.shape.Shape.{Shape}
use Rattle.sl_code_instructions.specs.declared.instr.Instr.{Instr}
use Rattle.sl_code_instructions.specs.declared.instr.Instr.TheVariants.{Set, Sub, Jmp, Jz, At}
use Rattle.sl_code_instructions.specs.declared.kinds.Kinds.{Kinds}
use Rattle.sl_code_instructions.specs.Codes.{CountingCode}
use Rattle.sl_code_instructions.specs.Rows.{target_of}
use Rattle.sl_code_instructions.specs.Standing.{HasAt}
use Rattle.sl_code_semantics.specs.Kinds.{implies}
use Rattle.sl_code_semantics.specs.Leaves.{ends, positive_behind, cursors_behind, table_behind, carried}
use Rattle.sl_code_semantics.specs.Needs.{Context, has_needs}
use Rattle.sl_code_semantics.specs.Pieces.{are_passed, comes_after, JumpsWithin}
use Rattle.sl_code_semantics.specs.WellKinded.{declared_by, context_of}
use Rattle.sl_compile_plans.specs.Trees.{Tree, Line, Stop, Then, If, Each, Times, flat, jump_of, to_first, to_next, ones, at_join, known_in_arm, known_in_turn, known_after_loop}

-- the same kinds, but for positive registers
abbrev pub bare : Kinds → Kinds
bare k = record k { positive = record { mask = 0 } }

-- the kinds after an instruction that goes on
abbrev pub kinds_next : Kinds → Instr → Kinds
kinds_next k i = record { positive = positive_behind k.positive i; cursors = cursors_behind k i; table = table_behind k.table i }

-- the kinds in a counted turn, before its plan
abbrev pub kinds_in_turn : Kinds → ℕ → Kinds
kinds_in_turn k r = kinds_next (kinds_next (kinds_next k (Jz r 0)) (Set ones 1)) (Sub r ones)

-- the kinds after a plan, positive registers among them
abbrev pub kinds_along_all : Kinds → List Instr → Kinds
kinds_along_all k [] = k
kinds_along_all k (i ∷ is) = kinds_along_all (kinds_next k i) is

abbrev pub kinds_along : Kinds → Tree → Kinds
kinds_along k (Line is) = kinds_along_all k is
kinds_along k (Stop i) = at_join (bare k)
kinds_along k (Then a b) = kinds_along (kinds_along k a) b
kinds_along k (If t a b) = at_join (bare k)
kinds_along k (Each over a) = known_after_loop (bare k) over
kinds_along k (Times r m a) = at_join (bare k)

-- an instruction that neither jumps nor declares
abbrev pub is_plain : Instr → Bool
is_plain i = not (is_some (target_of i)) && not (is_some (declared_by i))

-- with slots of these shapes, where there are some, and so many stages
abbrev pub judged_by : (ℕ → Option Shape) → ℕ → Context
judged_by slots stages = record { slots = slots; stages = stages; declared = λ place. None }

module _ (x : Context) where
  abbrev pub is_fine_line : Kinds → List Instr → Bool
  is_fine_line k [] = true
  is_fine_line k (i ∷ is) = is_plain i && (not (ends i) && (has_needs x k i && is_fine_line (kinds_next k i) is))

  -- each instruction has what it needs, and what reaches a declaration implies it
  abbrev pub is_fine : Kinds → Tree → Bool
  is_fine k (Line is) = is_fine_line k is
  is_fine k (Stop i) = is_plain i && (ends i && (has_needs x k i && has_needs x (at_join (bare k)) (At (at_join (bare k)))))
  is_fine k (Then a b) = is_fine k a && is_fine (kinds_along k a) b
  is_fine k (If t a b) =
      let joined = at_join (bare k) in
      let in_arm = known_in_arm (bare k) t in
      let in_other = kinds_next k (jump_of t 0) in
      has_needs x k (jump_of t 0) && (implies (carried k (jump_of t 0)) in_arm && (is_fine in_other b && (has_needs x (kinds_along in_other b) (Jmp 0) && (implies (carried (kinds_along in_other b) (Jmp 0)) joined
      && (has_needs x in_arm (At in_arm) && (is_fine in_arm a && (implies (kinds_along in_arm a) joined && has_needs x joined (At joined))))))))
  is_fine k (Each over a) =
      let here = known_in_turn (bare k) over in
      let joined = known_after_loop (bare k) over in
      let last = kinds_along here a in
      has_needs x k (to_first over 0) && (implies (carried k (to_first over 0)) joined && (implies (kinds_next k (to_first over 0)) here && (has_needs x here (At here) && (is_fine here a
      && (has_needs x last (to_next over 0) && (implies (carried last (to_next over 0)) here && (implies (kinds_next last (to_next over 0)) joined && has_needs x joined (At joined))))))))
  is_fine k (Times r m a) =
      let head = at_join (bare k) in
      let tested = kinds_next head (Jz r 0) in
      let last = kinds_along (kinds_in_turn head r) a in
      implies k head && (has_needs x head (At head) && (has_needs x head (Jz r 0) && (implies (carried head (Jz r 0)) head && (has_needs x tested (Set ones 1) && (has_needs x (kinds_next tested (Set ones 1)) (Sub r ones)
      && (is_fine (kinds_in_turn head r) a && (has_needs x last (Jmp 0) && implies (carried last (Jmp 0)) head)))))))

-- the instructions pass where the first kinds reach them, and leave the second ones
pub record ArePassed (x : Context) (comes : Option Kinds) (is : List Instr) (leaves : Option Kinds) : Type 0 where
  pub passed : are_passed x comes is ≡ true
  pub after : comes_after comes is ≡ leaves

-- the instructions of a plan that is fine with some slots and stages pass in each code that has them, wherever they stand, and leave the plan's kinds
abbrev pub FinePlansPass : Type 0
FinePlansPass = (code : CountingCode) (slots : ℕ → Option Shape) (stages : ℕ) (k : Kinds) (p : ℕ) (tree : Tree) → HasAt code p (flat (bare k) p tree)
    → ((n : ℕ) (s : Shape) → slots n ≡ Some s → slice_get code.slots n ≡ Some s) → stages ≤ length code.stages → is_fine (judged_by slots stages) k tree ≡ true
    → ArePassed (context_of code) (Some k) (flat (bare k) p tree) (Some (kinds_along k tree))

-- ---- targets

-- no instruction of a line, and none that ends a run, jumps
abbrev pub jumps_nowhere : Instr → Bool
jumps_nowhere i = not (is_some (target_of i))

abbrev pub has_quiet_lines : Tree → Bool
has_quiet_lines (Line is) = list_all jumps_nowhere is
has_quiet_lines (Stop i) = jumps_nowhere i
has_quiet_lines (Then a b) = has_quiet_lines a && has_quiet_lines b
has_quiet_lines (If t a b) = has_quiet_lines a && has_quiet_lines b
has_quiet_lines (Each over a) = has_quiet_lines a
has_quiet_lines (Times r m a) = has_quiet_lines a

-- the jumps of a plan stay within its instructions
abbrev pub PlansJumpWithin : Type 0
PlansJumpWithin = (k : Kinds) (p : ℕ) (tree : Tree) → has_quiet_lines tree ≡ true → JumpsWithin p (flat k p tree)

-- The kinds that come along a list of instructions, and whether its instructions pass, wherever it stands (docs/verifier.md, section 3).
use Rattle.std.specs.Prelude.{◌≡◌, ℕ, ◌+◌, ◌-◌, ◌<◌, ◌≤◌, Bool, true, false, ◌&&◌, nat_le, List, [], ◌∷◌, length, Option, Some, None, slice_get, option_and_then, if◌then◌else◌}
use Rattle.sl_base_terms.specs.declared.shape.Shape.{Shape}
use Rattle.sl_code_instructions.specs.Rows.{target_of}
use Rattle.sl_code_instructions.specs.declared.instr.Instr.{Instr}
use Rattle.sl_code_instructions.specs.declared.kinds.Kinds.{Kinds}
use Rattle.sl_code_semantics.specs.Kinds.{start_kinds, implies}
use Rattle.sl_code_semantics.specs.Needs.{Context, has_needs}
use Rattle.sl_code_semantics.specs.Leaves.{behind, carried}
use Rattle.sl_code_semantics.specs.WellKinded.{declared_by, leads_well}

-- ---- what comes

-- the kinds at a place to which these come, and where those are declared
abbrev pub kinds_here : Option Kinds → Option Kinds → Kinds
kinds_here comes (Some d) = d
kinds_here (Some c) None = c
kinds_here None None = start_kinds

-- what comes to the place after an instruction to which these kinds come
abbrev pub comes_next : Option Kinds → Instr → Option Kinds
comes_next comes i = behind (kinds_here comes (declared_by i)) i

-- and to the place after a list of them
abbrev pub comes_after : Option Kinds → List Instr → Option Kinds
comes_after comes [] = comes
comes_after comes (i ∷ is) = comes_after (comes_next comes i) is

-- ---- what passes

-- what comes implies what is declared, if anything is; something comes where nothing is declared
abbrev pub meets : Option Kinds → Option Kinds → Bool
meets None None = false
meets None (Some d) = true
meets (Some c) None = true
meets (Some c) (Some d) = implies c d

-- an instruction with these kinds has what it needs, and jumps to what they imply
abbrev pub has_own : Context → Kinds → Instr → Bool
has_own x k i = has_needs x k i && leads_well x (carried k i) (target_of i)

abbrev pub is_passed : Context → Option Kinds → Instr → Bool
is_passed x comes i = meets comes (declared_by i) && has_own x (kinds_here comes (declared_by i)) i

abbrev pub are_passed : Context → Option Kinds → List Instr → Bool
are_passed x comes [] = true
are_passed x comes (i ∷ is) = is_passed x comes i && are_passed x (comes_next comes i) is

-- ---- pieces

-- the kinds that the instructions of a piece declare, where it stands from that place on
abbrev pub declared_in : ℕ → List Instr → ℕ → Option Kinds
declared_in at is t = if nat_le at t then option_and_then declared_by (slice_get is (t - at)) else None

-- what a piece itself has to be judged by, with slots and stages such as these
abbrev pub piece_context : (ℕ → Option Shape) → ℕ → ℕ → List Instr → Context
piece_context slots stages at is = record { slots = slots; stages = stages; declared = declared_in at is }

-- the second context has all that the first one has
pub record IsWithin (x y : Context) : Type 0 where
  pub slots : (k : ℕ) (s : Shape) → x.slots k ≡ Some s → y.slots k ≡ Some s
  pub stages : x.stages ≤ y.stages
  pub declared : (t : ℕ) (d : Kinds) → x.declared t ≡ Some d → y.declared t ≡ Some d

-- the targets of a piece are places of it
pub record JumpsWithin (at : ℕ) (is : List Instr) : Type 0 where
  pub each : (n t : ℕ) (i : Instr) → slice_get is n ≡ Some i → target_of i ≡ Some t → (at ≤ t) × (t < at + length is)

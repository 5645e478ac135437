-- Which codes are well kinded (docs/verifier.md, section 3).
use Rattle.std.specs.Prelude.{◌≡◌, ℕ, zero, suc, Bool, true, false, List, length, Option, Some, None, slice_get, option_and_then, IsTrue}
use Rattle.std.specs.List.{list_all}
use Rattle.std.specs.Option.{option_map_or}
use Rattle.sl_code_instructions.specs.Codes.{CountingCode}
use Rattle.sl_code_instructions.specs.Rows.{target_of}
use Rattle.sl_code_instructions.specs.declared.instr.Instr.{Instr}
use Rattle.sl_code_instructions.specs.declared.instr.Instr.TheVariants as op
use Rattle.sl_code_instructions.specs.declared.kinds.Kinds.{Kinds}
use Rattle.sl_code_semantics.specs.Kinds.{start_kinds, implies}
use Rattle.sl_code_semantics.specs.Needs.{Context, has_slot, has_needs}
use Rattle.sl_code_semantics.specs.Leaves.{behind, carried}

-- the kinds that an `at` declares
abbrev pub declared_by : Instr → Option Kinds
declared_by (op.At k) = Some k
declared_by _ = None

-- those that the `at` at a place declares
abbrev pub declared_at : CountingCode → ℕ → Option Kinds
declared_at code p = option_and_then declared_by (slice_get code.instrs p)

abbrev pub context_of : CountingCode → Context
context_of code = record { slots = slice_get code.slots; stages = length code.stages; declared = declared_at code }

-- a jump with these kinds leads to an `at` that they imply
abbrev pub leads_well : Context → Kinds → Option ℕ → Bool
leads_well x k None = true
leads_well x k (Some t) = option_map_or (implies k) (x.declared t) false

-- each stage's column is in a slot that is there
abbrev pub has_stage_slots : CountingCode → Bool
has_stage_slots code = list_all (λ s. has_slot (context_of code) s.slot) code.stages

-- what comes to a place from the instruction before it, or at the start, where each place has its kinds
abbrev pub coming : List Instr → Option Kinds → (ℕ → Kinds) → ℕ → Option Kinds
coming instrs start kinds zero = start
coming instrs start kinds (suc p) = option_and_then (behind (kinds p)) (slice_get instrs p)

-- a place has the kinds that reach it; an `at` has those that it declares, and what comes implies them
abbrev pub Stands : Option Kinds → Option Kinds → Kinds → Type 0
Stands None None k = ⊥
Stands None (Some d) k = k ≡ d
Stands (Some c) None k = k ≡ c
Stands (Some c) (Some d) k = (k ≡ d) × IsTrue (implies c d)

-- an instruction with these kinds at its place, where those reach it
pub record IsKinded (code : CountingCode) (comes : Option Kinds) (k : Kinds) (i : Instr) : Type 0 where
  pub stands : Stands comes (declared_by i) k
  pub needs : IsTrue (has_needs (context_of code) k i)
  pub leads : IsTrue (leads_well (context_of code) (carried k i) (target_of i))

-- each instruction can be given kinds, and after the last one nothing comes
pub record IsWellKinded (code : CountingCode) : Type 0 where
  pub kinds : ℕ → Kinds
  pub stages : IsTrue (has_stage_slots code)
  pub each : (p : ℕ) (i : Instr) → slice_get code.instrs p ≡ Some i → IsKinded code (coming code.instrs (Some start_kinds) kinds p) (kinds p) i
  pub halts : coming code.instrs (Some start_kinds) kinds (length code.instrs) ≡ None

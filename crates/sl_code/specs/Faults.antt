-- Which fault bytes have that spell no code (docs/code.md, section 1).
use Rattle.std.specs.Prelude.{◌≡◌, ℕ, zero, suc, ◌-◌, ◌<◌, ◌≤◌, ◌^◌, Bool, ◌||◌, ◌&&◌, List, [], ◌∷◌, ◌++◌, length, flat_map, replicate, All, IsTrue, MatchBool, ◌⊎◌, nat_eq, nat_le, nat_lt}
use Rattle.sl_base_quotients.specs.declared.spelling.TheConstants.{MAX_NAME_BYTES}
use Rattle.sl_base_terms.specs.declared.limits.TheConstants.{MAX_STAGES}
use Rattle.sl_base_terms.specs.declared.shape.Shape.{Shape}
use Rattle.sl_base_terms.specs.Words.{is_letter, is_digit}
use Rattle.sl_code_instructions.specs.declared.code.TheConstants.{MAX_SLOTS, MAX_INSTRS}
use Rattle.sl_code_instructions.specs.declared.code.CodeStage.{CodeStage}
use Rattle.sl_code.specs.declared.fault.Cause.{Cause}
use Rattle.sl_code.specs.declared.fault.Cause.TheVariants as causes
use Rattle.sl_code.specs.declared.fault.Stop.{Stop}
use Rattle.sl_code.specs.declared.fault.CodeFault.{CodeFault}
use Rattle.sl_code.specs.declared.fault.CodeFault.TheVariants as faults
use Rattle.sl_code_instructions.specs.declared.instr.Instr.{Instr}
use Rattle.sl_code_instructions.specs.Codes.{CountingCode, IsCode}
use Rattle.sl_code_instructions.specs.Proper.{IsStage}
use Rattle.sl_base_terms.specs.Shapes.{shape_number}
use Rattle.sl_code_instructions.specs.Rows.{opcode_of, operands_of}
use Rattle.sl_code.specs.Operands.{tests_of, four_bytes, is_any, is_shape}
use Rattle.sl_code.specs.Spelling.{instr_bytes, stage_bytes, opening, stages_part, slots_part, spelling_of}

-- the fault stands in front of these bytes
abbrev pub stop_at : Cause → List ℕ → Stop
stop_at cause here = record { cause = cause; left = length here }

-- Bytes against tests, one test for each byte, from the front: the first byte that is missing or does not pass. `wrong` says
-- how it stops in front of a byte that does not pass.
abbrev pub FailsFrom : (List ℕ → Stop) → List (ℕ → Bool) → List ℕ → Stop → Type 0
FailsFrom wrong [] here stop = ⊥
FailsFrom wrong (test ∷ tests) [] stop = stop ≡ stop_at causes.Short []
FailsFrom wrong (test ∷ tests) (b ∷ rest) stop = MatchBool (test b) (FailsFrom wrong tests rest stop) (stop ≡ wrong (b ∷ rest))

pub record FailsTests (wrong : List ℕ → Stop) (tests : List (ℕ → Bool)) (here : List ℕ) (stop : Stop) : Type 0 where
  pub fails : FailsFrom wrong tests here stop

-- ---- the opening

abbrev pub is_byte : ℕ → ℕ → Bool
is_byte n b = nat_eq b n

abbrev pub letters : List ℕ
letters = 0x53 ∷ 0x4c ∷ 0x43 ∷ []

-- a wrong letter is a fault at the file's first byte
abbrev pub FailsOpening : List ℕ → Stop → Type 0
FailsOpening bytes stop =
    FailsTests (λ _. stop_at causes.Magic bytes) (is_byte 0x53 ∷ is_byte 0x4c ∷ is_byte 0x43 ∷ []) bytes stop
    ⊎ ((rest : List ℕ) × (bytes ≡ letters ++ rest) × FailsTests (stop_at causes.Version) (is_byte 1 ∷ []) rest stop)

-- ---- counts

abbrev pub is_at_most : ℕ → ℕ → Bool
is_at_most n b = nat_le b n

-- a count of one byte
abbrev pub FailsCount : ℕ → List ℕ → Stop → Type 0
FailsCount most here stop = FailsTests (stop_at causes.Limit) (is_at_most most ∷ []) here stop

abbrev pub one_byte : ℕ → List ℕ
one_byte n = n ∷ []

-- a count of four bytes
pub data FailsLongCount (most : ℕ) (here : List ℕ) (stop : Stop) : Type 0 where
  cut : length here < 4 → stop ≡ stop_at causes.Short [] → FailsLongCount most here stop
  above : (n : ℕ) (rest : List ℕ) → here ≡ four_bytes n ++ rest → n < 2 ^ 32 → most < n → stop ≡ stop_at causes.Limit here → FailsLongCount most here stop

-- Fewer elements than n stand here, and what stands after them is no element.
pub record FailsElement {X : Type 0} (bytes_of : X → List ℕ) (Is : X → Type 0) (Fails : List ℕ → Stop → Type 0) (n : ℕ) (here : List ℕ) (stop : Stop) : Type 0 where
  pub before : List X
  pub are : All Is before
  pub rest : List ℕ
  pub fewer : length before < n
  pub stand : here ≡ flat_map bytes_of before ++ rest
  pub fails : Fails rest stop

-- a count, and then so many elements
pub data FailsList {X : Type 0} (count_bytes : ℕ → List ℕ) (FailsCounting : ℕ → List ℕ → Stop → Type 0) (most : ℕ)
    (bytes_of : X → List ℕ) (Is : X → Type 0) (Fails : List ℕ → Stop → Type 0) (here : List ℕ) (stop : Stop) : Type 0 where
  in_count : FailsCounting most here stop → FailsList count_bytes FailsCounting most bytes_of Is Fails here stop
  in_element : (n : ℕ) (rest : List ℕ) → here ≡ count_bytes n ++ rest → n ≤ most → FailsElement bytes_of Is Fails n rest stop
      → FailsList count_bytes FailsCounting most bytes_of Is Fails here stop

-- ---- stages

abbrev pub is_name_length : ℕ → Bool
is_name_length n = nat_lt 0 n && nat_le n MAX_NAME_BYTES

abbrev pub is_name_byte : ℕ → Bool
is_name_byte b = is_letter b || is_digit b || nat_eq b 95

-- what may stand in the bytes of a name of that length
abbrev pub name_tests : ℕ → List (ℕ → Bool)
name_tests zero = []
name_tests (suc n) = is_letter ∷ replicate n is_name_byte

pub data FailsStage (here : List ℕ) (stop : Stop) : Type 0 where
  in_length : FailsTests (stop_at causes.Op) (is_name_length ∷ []) here stop → FailsStage here stop
  behind_length : (n : ℕ) (rest : List ℕ) → here ≡ n ∷ rest → IsTrue (is_name_length n) → FailsTests (stop_at causes.Op) (name_tests n ++ is_any ∷ []) rest stop → FailsStage here stop

abbrev pub FailsStages : List ℕ → Stop → Type 0
FailsStages = FailsList one_byte FailsCount MAX_STAGES stage_bytes IsStage FailsStage

-- ---- slots

abbrev pub IsAny : {X : Type 0} → X → Type 0
IsAny x = Unit {0}

abbrev pub shape_bytes : Shape → List ℕ
shape_bytes shape = shape_number shape ∷ []

abbrev pub FailsShape : List ℕ → Stop → Type 0
FailsShape = FailsTests (stop_at causes.Op) (is_shape ∷ [])

abbrev pub FailsSlots : List ℕ → Stop → Type 0
FailsSlots = FailsList one_byte FailsCount MAX_SLOTS shape_bytes IsAny FailsShape

-- ---- instructions

-- what may stand in the operands of an instruction like this one
abbrev pub instr_tests : Instr → List (ℕ → Bool)
instr_tests i = flat_map tests_of (operands_of i)

abbrev pub IsOperation : ℕ → Type 0
IsOperation b = (i : Instr) × (opcode_of i ≡ b)

-- The operands of an instruction of that operation fail.
pub record FailsOperands (op : ℕ) (here : List ℕ) (stop : Stop) : Type 0 where
  pub like : Instr
  pub operation : opcode_of like ≡ op
  pub fails : FailsTests (stop_at causes.Op) (instr_tests like) here stop

pub data FailsInstr (here : List ℕ) (stop : Stop) : Type 0 where
  missing : here ≡ [] → stop ≡ stop_at causes.Short [] → FailsInstr here stop
  meaningless : (b : ℕ) (rest : List ℕ) → here ≡ b ∷ rest → (IsOperation b → ⊥) → stop ≡ stop_at causes.Op here → FailsInstr here stop
  in_operands : (op : ℕ) (rest : List ℕ) → here ≡ op ∷ rest → FailsOperands op rest stop → FailsInstr here stop

abbrev pub FailsInstrs : List ℕ → Stop → Type 0
FailsInstrs = FailsList four_bytes FailsLongCount MAX_INSTRS instr_bytes IsAny FailsInstr

-- ---- files

-- the first fault of the bytes, from front to back
pub data FailsFile (bytes : List ℕ) (stop : Stop) : Type 0 where
  in_opening : FailsOpening bytes stop → FailsFile bytes stop
  in_stages : (rest : List ℕ) → bytes ≡ opening ++ rest → FailsStages rest stop → FailsFile bytes stop
  in_slots : (stages : List CodeStage) (rest : List ℕ) → All IsStage stages → length stages ≤ MAX_STAGES → bytes ≡ opening ++ stages_part stages ++ rest → FailsSlots rest stop → FailsFile bytes stop
  in_instrs : (stages : List CodeStage) (slots : List Shape) (rest : List ℕ) → All IsStage stages → length stages ≤ MAX_STAGES → length slots ≤ MAX_SLOTS
      → bytes ≡ opening ++ stages_part stages ++ slots_part slots ++ rest → FailsInstrs rest stop → FailsFile bytes stop
  behind : (c : CountingCode) (rest : List ℕ) → IsCode c → All IsStage c.stages → bytes ≡ spelling_of c ++ rest → 0 < length rest → stop ≡ stop_at causes.Trailing rest → FailsFile bytes stop

abbrev pub fault_of : ℕ → Cause → ℕ → CodeFault
fault_of total causes.Magic left = faults.Magic (total - left)
fault_of total causes.Version left = faults.Version (total - left)
fault_of total causes.Op left = faults.Op (total - left)
fault_of total causes.Short left = faults.Short (total - left)
fault_of total causes.Trailing left = faults.Trailing (total - left)
fault_of total causes.Limit left = faults.Limit (total - left)

-- the fault of the bytes
abbrev pub IsFault : List ℕ → CodeFault → Type 0
IsFault bytes fault = (stop : Stop) × FailsFile bytes stop × (fault ≡ fault_of (length bytes) stop.cause stop.left)

-- memory ran out, or the bytes have that fault
abbrev pub IsRefusal : List ℕ → CodeFault → Type 0
IsRefusal bytes faults.NoMemory = Unit {0}
IsRefusal bytes fault = IsFault bytes fault

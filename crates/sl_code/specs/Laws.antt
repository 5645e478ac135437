-- What the definitions of code files imply.
use Rattle.std.specs.Prelude.{◌≡◌, ◌≢◌, ℕ, ◌<◌, List, All, Result, Ok, Err, ◌⊎◌}
use Rattle.sl_base_terms.specs.declared.limits.TheConstants.{MAX_STAGES}
use Rattle.sl_code_instructions.specs.declared.code.TheConstants.{MAX_SLOTS, MAX_INSTRS}
use Rattle.sl_code.specs.declared.fault.CodeFault.{CodeFault}
use Rattle.sl_code.specs.declared.fault.CodeFault.TheVariants as faults
use Rattle.sl_code_instructions.specs.Codes.{CountingCode, IsCode}
use Rattle.sl_code.specs.Spelling.{spelling_of}
use Rattle.sl_code_instructions.specs.Proper.{IsStage}
use Rattle.sl_code.specs.Faults.{IsFault}
use Rattle.sl_code_instructions.specs.Proper.{IsProper}
use Rattle.sl_code.specs.Reading.{IsReading}

abbrev pub Limits : Type 0
Limits = (MAX_SLOTS ≡ 200) × (MAX_INSTRS ≡ 200000) × (MAX_STAGES ≡ 32)

abbrev pub OneCode : Type 0
OneCode = (a b : CountingCode) → IsProper a → IsProper b → spelling_of a ≡ spelling_of b → a ≡ b

abbrev pub OneFault : Type 0
OneFault = (bytes : List ℕ) (a b : CodeFault) → IsFault bytes a → IsFault bytes b → a ≡ b

abbrev pub SpellingOrFault : Type 0
SpellingOrFault = (c : CountingCode) (fault : CodeFault) → IsCode c → All IsStage c.stages → IsFault (spelling_of c) fault → ⊥

abbrev pub IsByte : ℕ → Type 0
IsByte b = b < 256

abbrev pub CodeOrFault : Type 0
CodeOrFault = (bytes : List ℕ) → All IsByte bytes
    → ((c : CountingCode) × IsReading bytes (Ok c)) ⊎ ((fault : CodeFault) × IsReading bytes (Err fault) × (fault ≢ faults.NoMemory))

abbrev pub ReadsBack : Type 0
ReadsBack = (c : CountingCode) (answer : Result CountingCode CodeFault) → IsProper c → IsReading (spelling_of c) answer
    → (answer ≡ Ok c) ⊎ (answer ≡ Err faults.NoMemory)

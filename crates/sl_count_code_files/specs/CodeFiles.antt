-- What a code file comes to by its bytes: a good code, or a refusal and its line (docs/output.md, section 2).
use Rattle.std.specs.Prelude.{Err, List, Ok, Some, codes, length, ◌<◌, ◌∷◌, ◌≡◌, ◌≢◌, ◌≤◌, ℕ, []}
use Rattle.sl_code_instructions.specs.Codes.{CountingCode}
use Rattle.sl_code.specs.Reading.{IsReading}
use Rattle.sl_code.specs.declared.fault.CodeFault.TheVariants as file
use Rattle.sl_code.specs.declared.fault.CodeFault.{CodeFault}
use Rattle.sl_count_inputs.specs.Refusals.{numbered, refused_at, too_long}
use Rattle.sl_count_inputs.specs.declared.limits.TheConstants.{MAX_CODE_BYTES}
use Rattle.sl_count_code_files.specs.declared.refusal.CodeRefusal.TheVariants as code
use Rattle.sl_count_code_files.specs.declared.refusal.CodeRefusal.{CodeRefusal}
use Rattle.sl_count_inputs.specs.declared.refusal.Numbered.{Numbered}
use Rattle.sl_count_inputs.specs.declared.verdict.Verdict.TheVariants.{Good, Refused}
use Rattle.sl_count_inputs.specs.declared.verdict.Verdict.{Verdict}
use Rattle.sl_code_semantics.specs.Faults.{verify_fault}
use Rattle.sl_code_semantics.specs.WellKinded.{IsWellKinded}
use Rattle.sl_code_semantics.specs.declared.fault.VerifyFault.TheVariants as verify
use Rattle.sl_code_semantics.specs.declared.fault.VerifyFault.{VerifyFault}

-- the bytes are too long; or they spell no code; or the code fails a test of the verifier; or they spell a well-kinded code
abbrev pub IsCodeVerdict : List ℕ → Verdict CountingCode CodeRefusal → Type 0
IsCodeVerdict bytes (Refused code.TooLong) = MAX_CODE_BYTES < length bytes
IsCodeVerdict bytes (Refused (code.File fault)) = (length bytes ≤ MAX_CODE_BYTES) × IsReading bytes (Err fault) × (fault ≢ file.NoMemory)
IsCodeVerdict bytes (Refused (code.Kinds fault)) = (length bytes ≤ MAX_CODE_BYTES) × ((c : CountingCode) × IsReading bytes (Ok c) × (verify_fault c ≡ Some fault))
IsCodeVerdict bytes (Good c) = (length bytes ≤ MAX_CODE_BYTES) × IsReading bytes (Ok c) × IsWellKinded c

abbrev pub code_fault : CodeFault → Numbered
code_fault (file.Magic at) = numbered 1 at
code_fault (file.Version at) = numbered 2 at
code_fault (file.Op at) = numbered 3 at
code_fault (file.Short at) = numbered 4 at
code_fault (file.Trailing at) = numbered 5 at
code_fault (file.Limit at) = numbered 6 at
code_fault file.NoMemory = numbered 7 0

abbrev pub kinds_fault : VerifyFault → Numbered
kinds_fault (verify.Jump at) = numbered 1 at
kinds_fault (verify.Register at) = numbered 2 at
kinds_fault (verify.Kind at) = numbered 3 at
kinds_fault (verify.Slot at) = numbered 4 at
kinds_fault (verify.TableKind at) = numbered 5 at
kinds_fault (verify.Meet at) = numbered 6 at
kinds_fault (verify.RunsOff at) = numbered 7 at

abbrev pub code_line : CodeRefusal → List ℕ
code_line code.TooLong = too_long (codes "code")
code_line (code.File fault) = refused_at (codes "code" ∷ codes "file" ∷ []) (code_fault fault)
code_line (code.Kinds fault) = refused_at (codes "code" ∷ codes "verify" ∷ []) (kinds_fault fault)

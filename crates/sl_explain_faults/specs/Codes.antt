-- The code of each legal fault, and of each fault of a code file (docs/faults.md). Out of memory is no fault of a file, and has none.
use Rattle.std.specs.Prelude.{Option, Some, None}
use Rattle.sl_explain_texts.specs.declared.code.FaultCode.{FaultCode}
use Rattle.sl_explain_texts.specs.declared.code.FaultCode.TheVariants.{L01, L02, L03, L04, L05, L06, C01, C02, C03, C04, C05, C06, C07, C08, C09, C10, C11, C12, C13}
use Rattle.sl_code.specs.declared.fault.CodeFault.{CodeFault}
use Rattle.sl_code.specs.declared.fault.CodeFault.TheVariants as files
use Rattle.sl_law_meaning.specs.declared.fault.FaultKind.{FaultKind}
use Rattle.sl_law_meaning.specs.declared.fault.FaultKind.TheVariants as legal
use Rattle.sl_law_meaning.specs.declared.fault.LegalFault.{LegalFault}
use Rattle.sl_code_semantics.specs.declared.fault.VerifyFault.{VerifyFault}
use Rattle.sl_code_semantics.specs.declared.fault.VerifyFault.TheVariants as kinds

abbrev pub kind_code : FaultKind → FaultCode
kind_code legal.Limit = L01
kind_code legal.Short = L02
kind_code legal.NoList = L03
kind_code (legal.Tie seats names) = L04
kind_code legal.Majority = L05
kind_code legal.Cap = L06

abbrev pub legal_code : LegalFault → FaultCode
legal_code fault = kind_code fault.kind

-- a file that is no code
abbrev pub file_code : CodeFault → Option FaultCode
file_code (files.Magic at) = Some C01
file_code (files.Version at) = Some C02
file_code (files.Op at) = Some C03
file_code (files.Short at) = Some C04
file_code (files.Trailing at) = Some C05
file_code (files.Limit at) = Some C06
file_code files.NoMemory = None

-- a code that the verifier refuses
abbrev pub verifier_code : VerifyFault → FaultCode
verifier_code (kinds.Jump at) = C07
verifier_code (kinds.Register at) = C08
verifier_code (kinds.Kind at) = C09
verifier_code (kinds.Slot at) = C10
verifier_code (kinds.TableKind at) = C11
verifier_code (kinds.Meet at) = C12
verifier_code (kinds.RunsOff at) = C13

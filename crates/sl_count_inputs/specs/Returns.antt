-- What returns come to by their bytes: an election, or a refusal and its line (docs/output.md, section 2).
use Rattle.std.specs.Prelude.{Err, List, Ok, codes, length, ◌<◌, ◌∷◌, ◌≡◌, ◌≤◌, ℕ, []}
use Rattle.sl_count_inputs.specs.Refusals.{numbered, refused_at, too_long}
use Rattle.sl_count_inputs.specs.declared.limits.TheConstants.{MAX_RETURNS_BYTES}
use Rattle.sl_count_inputs.specs.declared.refusal.ReturnsRefusal.TheVariants as returns
use Rattle.sl_count_inputs.specs.declared.refusal.ReturnsRefusal.{ReturnsRefusal}
use Rattle.sl_count_inputs.specs.declared.verdict.Verdict.TheVariants.{Good, Refused}
use Rattle.sl_count_inputs.specs.declared.verdict.Verdict.{Verdict}
use Rattle.sl_returns.specs.Faults.{fault_number}
use Rattle.sl_returns.specs.Returns.{records_in, returns_of}
use Rattle.sl_law_meaning.specs.returns.Election.{Election}

-- the bytes are too long; or the records have a fault; or they are returns
abbrev pub IsReturnsVerdict : List ℕ → Verdict Election ReturnsRefusal → Type 0
IsReturnsVerdict bytes (Refused returns.TooLong) = MAX_RETURNS_BYTES < length bytes
IsReturnsVerdict bytes (Refused (returns.Records fault)) = (length bytes ≤ MAX_RETURNS_BYTES) × (returns_of (records_in bytes) ≡ Err fault)
IsReturnsVerdict bytes (Good e) = (length bytes ≤ MAX_RETURNS_BYTES) × (returns_of (records_in bytes) ≡ Ok e)

abbrev pub returns_line : ReturnsRefusal → List ℕ
returns_line returns.TooLong = too_long (codes "returns")
returns_line (returns.Records fault) = refused_at (codes "returns" ∷ []) (numbered (fault_number fault.kind) fault.row)

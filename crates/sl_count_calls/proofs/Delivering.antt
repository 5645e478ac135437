-- A text that is delivered.
use Rattle.std.proofs.Common.{◌≡◌, Result, Ok, Err, Option, List, ℕ, sym, subst}
use Rattle.sl_count_inputs.specs.declared.status.Status.{Status}
use Rattle.sl_count_inputs.specs.declared.status.DeskError.{DeskError}
use Rattle.sl_count_inputs.specs.declared.status.DeskError.TheVariants.{Read, Write, NoMemory}
use Rattle.sl_count_inputs.specs.Writing.{Delivers}

-- where the one text that was to be written is of the relation
pub delivers_text : (IsText : Status → List ℕ → Type 0) (s : Status) (t : List ℕ) (old new : Option (List ℕ)) (r : Result Status DeskError)
    → IsText s t → Delivers (λ status text. (status ≡ s) × (text ≡ t)) old new r → Delivers IsText old new r
delivers_text IsText s t old new (Ok status) h d =
    (d.0, subst (λ (x : Status). IsText x d.0) (sym d.1.0) (subst (λ (x : List ℕ). IsText s x) (sym d.1.1) h), d.2)
delivers_text IsText s t old new (Err Write) h d =
    (d.0, d.1, subst (λ (x : Status). IsText x d.1) (sym d.2.0) (subst (λ (x : List ℕ). IsText s x) (sym d.2.1) h), d.3)
delivers_text IsText s t old new (Err (Read input)) h d = d
delivers_text IsText s t old new (Err NoMemory) h d = d

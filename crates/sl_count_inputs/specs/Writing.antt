-- What a call leaves in its writer (docs/output.md, section 3).
use Rattle.std.specs.Prelude.{◌≡◌, ℕ, ◌⊎◌, Option, List, take, Result, Ok, Err}
use Rattle.std.specs.Io.KnownBytes.{Appends, Keeps}
use Rattle.sl_count_inputs.specs.declared.status.Status.{Status}
use Rattle.sl_count_inputs.specs.declared.status.DeskError.{DeskError}
use Rattle.sl_count_inputs.specs.declared.status.DeskError.TheVariants as fault

-- known contents grew by a prefix of the text
abbrev pub AppendsPrefix : Option (List ℕ) → Option (List ℕ) → List ℕ → Type 0
AppendsPrefix old new text = (n : ℕ) × Appends old new (take n text)

-- a text that is to be written: it was appended whole, or after a failure a prefix of it
abbrev pub Writes : {X E : Type 0} → List ℕ → Option (List ℕ) → Option (List ℕ) → Result X E → Type 0
Writes text old new (Ok x) = Appends old new text
Writes text old new (Err e) = AppendsPrefix old new text

-- a call whose texts are those of a relation: its status has a text that was appended whole; after Write a prefix of a text was; after any
-- other error nothing
abbrev pub Delivers : (Status → List ℕ → Type 0) → Option (List ℕ) → Option (List ℕ) → Result Status DeskError → Type 0
Delivers IsText old new (Ok status) = (text : List ℕ) × IsText status text × Appends old new text
Delivers IsText old new (Err fault.Write) = (status : Status) × (text : List ℕ) × IsText status text × AppendsPrefix old new text
Delivers IsText old new (Err (fault.Read input)) = Keeps old new
Delivers IsText old new (Err fault.NoMemory) = Keeps old new

-- a call that writes one text and then another: its status has texts that were appended whole; after Write a prefix of the first was, and nothing of
-- the second, or the first whole, by a writer that did not fail, and a prefix of the second; after any other error nothing
abbrev pub DeliversBoth : (Status → List ℕ → List ℕ → Type 0) → (failed failed' : ℕ) → (first first' second second' : Option (List ℕ)) → Result Status DeskError → Type 0
DeliversBoth AreTexts failed failed' first first' second second' (Ok status) =
    (a b : List ℕ) × AreTexts status a b × Appends first first' a × Appends second second' b
DeliversBoth AreTexts failed failed' first first' second second' (Err fault.Write) =
    (status : Status) × (a b : List ℕ) × AreTexts status a b
    × ((AppendsPrefix first first' a × Keeps second second') ⊎ ((failed' ≡ failed) × Appends first first' a × AppendsPrefix second second' b))
DeliversBoth AreTexts failed failed' first first' second second' (Err (fault.Read input)) = Keeps first first' × Keeps second second'
DeliversBoth AreTexts failed failed' first first' second second' (Err fault.NoMemory) = Keeps first first' × Keeps second second'

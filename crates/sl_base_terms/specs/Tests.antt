-- Tests in their order, and the fault of the first that fails.
use Rattle.std.specs.Prelude.{◌≡◌, Bool, List, [], ◌∷◌, Option, Some, None, Result, Ok, Err, if◌then◌else◌}

-- a test, and the fault of what fails it
pub record Test (F : Type 0) : Type 0 where
  pub holds : Bool
  pub otherwise : F

abbrev pub test : {F : Type 0} → Bool → F → Test F
test b f = record { holds = b; otherwise = f }

-- the fault of the first test that fails
abbrev pub first_failing : {F : Type 0} → List (Test F) → Option F
first_failing [] = None
first_failing (t ∷ ts) = if t.holds then first_failing ts else Some t.otherwise

-- x, where all the tests hold; else the fault of the first that fails
abbrev pub Judges : {A F : Type 0} → Result A F → List (Test F) → A → Type 0
Judges (Ok y) tests x = (first_failing tests ≡ None) × (y ≡ x)
Judges (Err f) tests x = first_failing tests ≡ Some f

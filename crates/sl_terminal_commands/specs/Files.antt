-- What a request does to files (docs/output.md).
use Rattle.std.specs.Str.{bytes_eq}
use Rattle.std.specs.Prelude.{Bool, IfSome, List, None, Option, Some, [], codes, false, length, nat_eq, nat_lt, not, take, true, ⊤, ◌++◌, ◌||◌, ◌∷◌, ◌≡◌, ◌≢◌, ◌⊎◌, ℕ}
use Rattle.sl_count_inputs.specs.Books.{BookInput}
use Rattle.sl_count_inputs.specs.Texts.{bytes_of}
use Rattle.sl_count_inputs.specs.declared.input.Bytes.TheVariants.{TooLong, Whole}
use Rattle.sl_count_inputs.specs.declared.input.Bytes.{Bytes}
use Rattle.sl_count_inputs.specs.declared.limits.TheConstants.{MAX_CODE_BYTES}
use Rattle.sl_terminal_outside.specs.Inputs.{named_input}
use Rattle.sl_terminal_words.specs.declared.command_line.Request.TheVariants.{Code}
use Rattle.sl_terminal_words.specs.declared.command_line.Request.{Request}

-- how each code file begins: the letters SLC, and the number of the format
abbrev pub opening : List ℕ
opening = codes "SLC" ++ 1 ∷ []

-- a file of these bytes may be lost: it is empty, or begins as a code file
abbrev pub may_be_lost : List ℕ → Bool
may_be_lost bytes = nat_eq (length bytes) 0 || bytes_eq opening (take (length opening) bytes)

abbrev pub may_be_lost_in : Bytes → Bool
may_be_lost_in (Whole v) = may_be_lost v.items
may_be_lost_in TooLong = false

-- a file would be missed, and nobody said that it may be written: it is longer than a code file, or may not be lost
abbrev pub MustStay : Option (List ℕ) → (is_forced : Bool) → Type 0
MustStay None is_forced = ⊥
MustStay (Some known) is_forced = (is_forced ≡ false) × ((nat_lt MAX_CODE_BYTES (length known) || not (may_be_lost known)) ≡ true)

-- a request would write such a file
abbrev pub Loses : (List ℕ → Option (List ℕ)) → Request → Type 0
Loses bytes (Code book file is_forced) = MustStay (bytes file.now) is_forced
Loses bytes _ = ⊥

-- why no code is written to a file, where its bytes are known: it must stay, or it has those of the rulebook
abbrev pub IsSpared : (known : Option (List ℕ)) → Option BookInput → (is_forced : Bool) → Type 0
IsSpared known input is_forced = IfSome known (λ file. MustStay (Some file) is_forced ⊎ IfSome input (λ i. file ≡ bytes_of i))

-- a request is not completed, so that such a file is not lost
abbrev pub Spares : (List ℕ → Option (List ℕ)) → Request → Type 0
Spares bytes (Code book file is_forced) = IsSpared (bytes file.now) (named_input bytes book.now) is_forced
Spares bytes _ = ⊥

-- the path that a request makes a file at
abbrev pub made_at : Request → Option (List ℕ)
made_at (Code book file is_forced) = Some file.now
made_at _ = None

-- a path is another one
abbrev pub IsElsewhere : Option (List ℕ) → List ℕ → Type 0
IsElsewhere None other = ⊤
IsElsewhere (Some path) other = other ≢ path

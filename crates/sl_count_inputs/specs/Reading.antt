-- What a call takes from its inputs (docs/output.md, section 3).
use Rattle.std.specs.Io.KnownBytes.{Consumes}
use Rattle.std.specs.Option.{option_map}
use Rattle.std.specs.Prelude.{Err, IfSome, List, None, Option, Result, Some, ⊤, length, ◌+◌, ◌≡◌, ◌≢◌, ◌≤◌, ℕ}
use Rattle.sl_count_inputs.specs.Books.{BookInput, library, text}
use Rattle.sl_count_inputs.specs.declared.limits.TheConstants.{MAX_BOOK_BYTES, MAX_RETURNS_BYTES}
use Rattle.sl_count_inputs.specs.declared.source.BookSource.TheVariants.{Library, Reader}
use Rattle.sl_count_inputs.specs.declared.source.BookSource.{BookSource}
use Rattle.sl_count_inputs.specs.declared.status.DeskError.TheVariants as fault
use Rattle.sl_count_inputs.specs.declared.status.DeskError.{DeskError}
use Rattle.sl_count_inputs.specs.declared.status.Input.TheVariants as input
use Rattle.sl_count_inputs.specs.declared.status.Input.{Input}

-- the book that it gives, if its bytes are known
abbrev pub book_input : {S : Type 0} → (S → Option (List ℕ)) → BookSource S → Option BookInput
book_input remaining (Library name) = Some (library name.now)
book_input remaining (Reader r) = option_map text (remaining r)

-- how many of its calls failed
abbrev pub book_failures : {S : Type 0} → (S → ℕ) → BookSource S → ℕ
book_failures failed (Library name) = 0
book_failures failed (Reader r) = failed r

-- the name of the library's book, where it is one
abbrev pub book_name : {S : Type 0} → BookSource S → Option (List ℕ)
book_name (Library name) = Some name.now
book_name (Reader r) = None

-- the bytes still to come, where there are such and they are known
abbrev pub book_bytes : {S : Type 0} → (S → Option (List ℕ)) → BookSource S → Option (List ℕ)
book_bytes remaining (Library name) = None
book_bytes remaining (Reader r) = remaining r

-- of known bytes at most so many were taken: the rest is a suffix
abbrev pub TakesAtMost : ℕ → Option (List ℕ) → Option (List ℕ) → Type 0
TakesAtMost most old new = (taken : List ℕ) × (length taken ≤ most) × Consumes old new taken

-- a call that reads a book
pub record ReadsBook {S : Type 0} (remaining : S → Option (List ℕ)) (old new : BookSource S) : Type 0 where
  -- a name of the library stays what it was
  pub named : book_name new ≡ book_name old
  -- no more than one byte past the limit is taken
  pub limited : TakesAtMost (MAX_BOOK_BYTES + 1) (book_bytes remaining old) (book_bytes remaining new)

-- a call that reads another input first, of which some are bad, and then returns
pub record ReadsBehind {R A X : Type 0} (remaining : R → Option (List ℕ)) (first : Input) (known : Option A) (IsBad : A → Type 0) (old new : R)
    (result : Result X DeskError) : Type 0 where
  -- no more than one byte past the limit is taken
  pub limited : TakesAtMost (MAX_RETURNS_BYTES + 1) (remaining old) (remaining new)
  -- where the first input is bad, the returns are as they were
  pub untouched : IfSome known (λ a. IsBad a → new ≡ old)
  -- and their reader is not what failed
  pub unread : IfSome known (λ a. IsBad a → result ≢ Err (fault.Read input.Returns))
  -- they are as they were where the first input was not read
  pub second : result ≡ Err (fault.Read first) → new ≡ old

-- both inputs are known, and so it is
abbrev pub ForKnown : {A B : Type 0} → Option A → Option B → (A → B → Type 0) → Type 0
ForKnown None known P = ⊤
ForKnown (Some a) None P = ⊤
ForKnown (Some a) (Some b) P = P a b

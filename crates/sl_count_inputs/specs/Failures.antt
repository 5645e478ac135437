-- Readers and writers that count how often they failed (docs/output.md, section 3).
use Rattle.std.specs.Prelude.{◌≡◌, ℕ, ◌⊎◌, ◌+◌, ◌-◌, ◌^◌, min, Result, Ok, Err}
use Rattle.sl_count_inputs.specs.declared.status.DeskError.{DeskError}
use Rattle.sl_count_inputs.specs.declared.status.DeskError.TheVariants as fault
use Rattle.sl_count_inputs.specs.declared.status.Input.{Input}
use Rattle.sl_count_inputs.specs.declared.status.Input.TheVariants as input

-- one more, but for the greatest number
abbrev pub one_more : ℕ → ℕ
one_more n = min (n + 1) (2 ^ 64 - 1)

-- a call of a reader or a writer that fails is counted, and no other is
abbrev pub failures_after : {X E : Type 0} → ℕ → Result X E → ℕ
failures_after n (Ok x) = n
failures_after n (Err e) = one_more n

-- the failures of each input that is read, and of the writer
pub record Counts : Type 0 where
  pub book : ℕ
  pub returns : ℕ
  pub code : ℕ
  pub names : ℕ
  pub before : ℕ
  pub out : ℕ

-- those of a call of the desk, which reads no names and no earlier table
abbrev pub counts : (book returns code out : ℕ) → Counts
counts book returns code out = record { book = book; returns = returns; code = code; names = 0; before = 0; out = out }

-- those of a call that reads one input and writes nothing
abbrev pub input_counts : Input → ℕ → Counts
input_counts input.Book n = counts n 0 0 0
input_counts input.Returns n = counts 0 n 0 0
input_counts input.Code n = counts 0 0 n 0
input_counts input.Names n = record { book = 0; returns = 0; code = 0; names = n; before = 0; out = 0 }
input_counts input.Before n = record { book = 0; returns = 0; code = 0; names = 0; before = n; out = 0 }

-- after an error: Read is one more failure of that input alone, Write one of the writer alone, and out of memory none
abbrev pub counts_at : Counts → DeskError → Counts
counts_at before (fault.Read input.Book) = record before { book = one_more before.book }
counts_at before (fault.Read input.Returns) = record before { returns = one_more before.returns }
counts_at before (fault.Read input.Code) = record before { code = one_more before.code }
counts_at before (fault.Read input.Names) = record before { names = one_more before.names }
counts_at before (fault.Read input.Before) = record before { before = one_more before.before }
counts_at before fault.Write = record before { out = one_more before.out }
counts_at before fault.NoMemory = before

-- a call that is completed had no failure
abbrev pub counts_after : {X : Type 0} → Counts → Result X DeskError → Counts
counts_after before (Ok x) = before
counts_after before (Err e) = counts_at before e

-- a call that reads one book and has two writers fails as one with either of them alone, and the other had no failure
abbrev pub FailsInOne : {X : Type 0} → (book book' first first' second second' : ℕ) → Result X DeskError → Type 0
FailsInOne book book' first first' second second' result =
    ((counts book' 0 0 first' ≡ counts_after (counts book 0 0 first) result) × (second' ≡ second))
    ⊎ ((counts book' 0 0 second' ≡ counts_after (counts book 0 0 second) result) × (first' ≡ first))

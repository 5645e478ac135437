-- The steps in which a reply is written.
use Rattle.std.specs.Io.KnownBytes.{Appends}
use Rattle.std.specs.Prelude.{Err, List, Ok, Option, Result, ◌≡◌, ℕ}
use Rattle.sl_count_inputs.specs.Failures.{one_more}
use Rattle.sl_count_inputs.specs.Writing.{AppendsPrefix}
use Rattle.sl_terminal_commands.specs.Given.{Wrote}
use Rattle.sl_terminal_commands.specs.Replies.{Says}
use Rattle.sl_terminal_commands.specs.declared.telling.Said.{Said}
use Rattle.sl_terminal_commands.specs.declared.terminal.Terminal.{Terminal}

-- a file is made, and nothing else is changed
pub record OnlyMakes {O W E : Type 0} (old new : Terminal O W E) : Type 0 where
  pub out : new.out ≡ old.out
  pub err : new.err ≡ old.err

-- a text was written whole, or after a failure a prefix of it
abbrev pub IsWritten : {W X E : Type 0} (out : W → Option (List ℕ)) (unwritten : W → ℕ) → List ℕ → (old new : W) → Result X E → Type 0
IsWritten out unwritten text old new (Ok x) = Appends (out old) (out new) text
IsWritten out unwritten text old new (Err e) = (unwritten new ≡ one_more (unwritten old)) × AppendsPrefix (out old) (out new) text

-- it was said, as far as standard error takes it
abbrev pub IsHeard : {E : Type 0} (err : E → Option (List ℕ)) (unsaid : E → ℕ) → Said → (old new : E) → Type 0
IsHeard err unsaid said old new = (told : List ℕ) → Says said told → Wrote (unsaid old) (unsaid new) (err old) (err new) told

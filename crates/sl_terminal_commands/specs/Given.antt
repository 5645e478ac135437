-- How a reply is written (docs/output.md, section 3).
use Rattle.std.specs.Io.KnownBytes.{Appends}
use Rattle.std.specs.Option.{option_map}
use Rattle.std.specs.Prelude.{IfSome, IsSome, List, None, Option, Some, string_bytes, ◌≡◌, ◌⊎◌, ℕ}
use Rattle.sl_count_inputs.specs.Failures.{one_more}
use Rattle.sl_count_inputs.specs.Writing.{AppendsPrefix}
use Rattle.sl_terminal_commands.specs.Files.{IsElsewhere}
use Rattle.sl_terminal_commands.specs.Replies.{Says}
use Rattle.sl_terminal_commands.specs.declared.reply.Made.{Made}
use Rattle.sl_terminal_commands.specs.declared.reply.Reply.{Reply}
use Rattle.sl_terminal_commands.specs.declared.terminal.Terminal.{Terminal}

-- a text was written: whole, and no call failed; or a prefix of it, and one did
abbrev pub Wrote : (failed failed' : ℕ) → (old new : Option (List ℕ)) → List ℕ → Type 0
Wrote failed failed' old new text = ((failed' ≡ failed) × Appends old new text) ⊎ ((failed' ≡ one_more failed) × AppendsPrefix old new text)

-- the path of the file that is made, if one is
abbrev pub path_of : Option Made → Option (List ℕ)
path_of made = option_map (λ m. string_bytes m.path) made

module _ {O W E : Type 0} (bytes : O → List ℕ → Option (List ℕ)) (tells_made : O → Type 0) (out : W → Option (List ℕ)) (unwritten : W → ℕ) (err : E → Option (List ℕ))
    (unsaid : E → ℕ) where
  -- the file, if one is made, has the bytes of the reply
  abbrev pub IsMade : (old new : O) → Option Made → Type 0
  IsMade old new made = tells_made old → IfSome made (λ m. bytes new (string_bytes m.path) ≡ Some m.bytes.items)

  -- no other file is changed, and none where none is made
  pub record IsKept (old new : O) (made : Option Made) : Type 0 where
    pub others : (other : List ℕ) → IsElsewhere (path_of made) other → bytes new other ≡ bytes old other
    pub none : made ≡ None → new ≡ old

  -- its file, its text and what is said are written whole; what is said as far as standard error takes it
  pub record IsWhole (old new : Terminal O W E) (r : Reply) : Type 0 where
    pub file : IsMade old.outside new.outside r.made
    pub text : Appends (out old.out) (out new.out) r.out.items
    pub said : (told : List ℕ) → Says r.said told → Wrote (unsaid old.err) (unsaid new.err) (err old.err) (err new.err) told

  -- a file could not be made, or standard output did not take all: it has a prefix of the text
  pub record IsCutOff (old new : Terminal O W E) (r : Reply) : Type 0 where
    pub why : IsSome r.made ⊎ (unwritten new.out ≡ one_more (unwritten old.out))
    pub text : AppendsPrefix (out old.out) (out new.out) r.out.items

  -- the exit status is that of the reply, which was written; or 5, where it could not be
  pub record IsGiven (r : Reply) (old new : Terminal O W E) (number : ℕ) : Type 0 where
    pub written : ((number ≡ r.number) × IsWhole old new r) ⊎ ((number ≡ 5) × IsCutOff old new r)
    pub kept : IsKept old.outside new.outside r.made

  -- the program: a reply of that relation is written
  abbrev pub IsRun : (Reply → Type 0) → (old new : Terminal O W E) → ℕ → Type 0
  IsRun IsReply old new number = (r : Reply) × IsReply r × IsGiven r old new number

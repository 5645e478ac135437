-- What keeps a step from being stuck (docs/machine.md, section 5).
use Rattle.std.specs.Prelude.{◌≢◌, ℕ, ◌*◌, ◌<◌, IsTrue, All}
use Rattle.std.specs.Option.{ForSome}
use Rattle.sl_law_meaning.specs.returns.Election.{Election, lands_of, parties_of, wins_of}
use Rattle.sl_code_instructions.specs.declared.instr.Instr.{Instr}
use Rattle.sl_code_instructions.specs.declared.operand.Entries.{Entries}
use Rattle.sl_code_instructions.specs.declared.operand.Entries.TheVariants as entries
use Rattle.sl_code_instructions.specs.Codes.{CountingCode}
use Rattle.sl_code_semantics.specs.Needs.{has_registers}
use Rattle.sl_code_semantics.specs.State.{State}
use Rattle.sl_code_semantics.specs.Effects.{NoCase, effect}

-- how many entries of that kind there are
abbrev pub entries_in : Election → Entries → ℕ
entries_in e entries.Party = parties_of e
entries_in e entries.Land = lands_of e
entries_in e entries.List = lands_of e * parties_of e
entries_in e entries.Win = wins_of e

-- the cursors stand at parties, Länder and winners that there are, and so do the table's entries
pub record IsInRange (e : Election) (s : State) : Type 0 where
  pub party : ForSome s.party (λ p. p < parties_of e)
  pub land : ForSome s.land (λ l. l < lands_of e)
  pub win : ForSome s.win (λ w. w < wins_of e)
  pub table : ForSome s.table (λ t. All (λ x. x.index < entries_in e t.entries) t.contents)

-- the instruction has a case in the state: the registers that it names are there, and so is all else that it needs
pub record MayStep (c : CountingCode) (e : Election) (i : Instr) (s : State) : Type 0 where
  pub registers : IsTrue (has_registers i)
  pub case : effect c e i s ≢ NoCase
  pub range : IsInRange e s

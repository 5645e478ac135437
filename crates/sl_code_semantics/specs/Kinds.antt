-- What is known of the machine's state at a place of a code, and what implies what (docs/verifier.md, section 1).
use Rattle.std.specs.Prelude.{ℕ, ◌^◌, Bool, true, false, not, ◌&&◌, ◌||◌, ◌==◌, nat_lt, bit_and, bit_or, Option, Some, None}
use Rattle.std.specs.Int.{w16, bit_at, bit_not}
use Rattle.sl_code_instructions.specs.declared.kinds.Registers.{Registers}
use Rattle.sl_code_instructions.specs.declared.kinds.Cursors.{Cursors}
use Rattle.sl_code_instructions.specs.declared.kinds.TableState.{TableState}
use Rattle.sl_code_instructions.specs.declared.kinds.Kinds.{Kinds}
use Rattle.sl_code_instructions.specs.declared.operand.Entries.{Entries}
use Rattle.sl_code_instructions.specs.declared.operand.Entries.TheVariants as entries
use Rattle.sl_code_instructions.specs.declared.operand.Ranking.{Ranking}
use Rattle.sl_code_instructions.specs.declared.operand.Ranking.TheVariants as ranking
use Rattle.sl_code_semantics.specs.declared.known.TheConstants.{REGISTERS}

-- ---- registers

-- the machine has a register of that number
abbrev pub is_register : ℕ → Bool
is_register r = nat_lt r REGISTERS

-- a register is in the set
abbrev pub contains : Registers → ℕ → Bool
contains rs r = bit_at rs.mask r == 1

-- the set with a register in it, or without it
abbrev pub with_register : Bool → ℕ → Registers → Registers
with_register true r rs = record { mask = bit_or rs.mask (2 ^ r) }
with_register false r rs = record { mask = bit_and rs.mask (bit_not w16 (2 ^ r)) }

-- the first set has each register of the second
abbrev pub includes : Registers → Registers → Bool
includes have need = bit_and have.mask need.mask == need.mask

-- ---- cursors

abbrev pub no_cursors : Cursors
no_cursors = record { party = false; land = false; win = false }

abbrev pub party_cursor : Cursors
party_cursor = record { party = true; land = false; win = false }

abbrev pub land_cursor : Cursors
land_cursor = record { party = false; land = true; win = false }

abbrev pub list_cursors : Cursors
list_cursors = record { party = true; land = true; win = false }

abbrev pub win_cursor : Cursors
win_cursor = record { party = false; land = false; win = true }

-- the cursors of both sets
abbrev pub join : Cursors → Cursors → Cursors
join a b = record { party = a.party || b.party; land = a.land || b.land; win = a.win || b.win }

-- the first set has each cursor of the second
abbrev pub covers : Cursors → Cursors → Bool
covers have need = (have.party || not need.party) && (have.land || not need.land) && (have.win || not need.win)

-- ---- the table

abbrev pub same_entries : Entries → Entries → Bool
same_entries entries.Party entries.Party = true
same_entries entries.Land entries.Land = true
same_entries entries.List entries.List = true
same_entries entries.Win entries.Win = true
same_entries _ _ = false

abbrev pub same_ranking : Ranking → Ranking → Bool
same_ranking ranking.Quotients ranking.Quotients = true
same_ranking ranking.Remainders ranking.Remainders = true
same_ranking _ _ = false

-- a table of which the first is known is one of which the second is; where nothing is asked, any is
abbrev pub fits_table : Option TableState → Option TableState → Bool
fits_table have None = true
fits_table None (Some need) = false
fits_table (Some have) (Some need) =
    same_entries have.entries need.entries && same_ranking have.ranking need.ranking && (have.ready || not need.ready)

-- ---- kinds

-- at the start no register is positive, no cursor set, and the table off
abbrev pub start_kinds : Kinds
start_kinds = record { positive = record { mask = 0 }; cursors = no_cursors; table = None }

-- a state of which the first kinds are known is one of which the second are
abbrev pub implies : Kinds → Kinds → Bool
implies have need = includes have.positive need.positive && covers have.cursors need.cursors && fits_table have.table need.table

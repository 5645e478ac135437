-- The numbers by which operands of a few values are spelled (docs/code.md, section 2).
use Rattle.std.specs.Prelude.{ℕ, ◌+◌, ◌*◌, Bool, true, false, Option, Some, None}
use Rattle.sl_base_quotients.specs.declared.method.Divisor.{Divisor}
use Rattle.sl_base_quotients.specs.declared.method.Divisor.TheVariants as divisors
use Rattle.sl_base_quotients.specs.Quotient.{method_number}
use Rattle.sl_code_instructions.specs.declared.kinds.Cursors.{Cursors}
use Rattle.sl_code_instructions.specs.declared.kinds.TableState.{TableState}
use Rattle.sl_code_instructions.specs.declared.operand.EndFault.{EndFault}
use Rattle.sl_code_instructions.specs.declared.operand.EndFault.TheVariants as faults
use Rattle.sl_code_instructions.specs.declared.operand.Entries.{Entries}
use Rattle.sl_code_instructions.specs.declared.operand.Entries.TheVariants as entries
use Rattle.sl_code_instructions.specs.declared.operand.Input.{Input}
use Rattle.sl_code_instructions.specs.declared.operand.Input.TheVariants as inputs
use Rattle.sl_code_instructions.specs.declared.operand.Ranking.{Ranking}
use Rattle.sl_code_instructions.specs.declared.operand.Ranking.TheVariants as rankings
use Rattle.sl_code_instructions.specs.declared.operand.Rounding.{Rounding}
use Rattle.sl_code_instructions.specs.declared.operand.Rounding.TheVariants as roundings
use Rattle.sl_code_instructions.specs.declared.operand.ScopeKind.{ScopeKind}
use Rattle.sl_code_instructions.specs.declared.operand.ScopeKind.TheVariants as scopes
use Rattle.sl_code_instructions.specs.declared.parts.Operand.{Operand}
use Rattle.sl_code_instructions.specs.declared.parts.Operand.TheVariants as o

abbrev pub scope_number : ScopeKind → ℕ
scope_number scopes.All = 0
scope_number scopes.Land = 1
scope_number scopes.Party = 2
scope_number scopes.List = 3

abbrev pub entries_number : Entries → ℕ
entries_number entries.Party = 0
entries_number entries.Land = 1
entries_number entries.List = 2
entries_number entries.Win = 3

abbrev pub ranking_number : Ranking → ℕ
ranking_number rankings.Quotients = 0
ranking_number rankings.Remainders = 1

abbrev pub input_number : Input → ℕ
input_number inputs.Valid = 0
input_number inputs.Counted = 1
input_number inputs.Minority = 2
input_number inputs.Population = 3
input_number inputs.Names = 4

-- the divisor method that rounds so, and how a method rounds, if it does
abbrev pub divisor_of : Rounding → Divisor
divisor_of roundings.Adams = divisors.Adams
divisor_of roundings.Webster = divisors.Webster
divisor_of roundings.Jefferson = divisors.Jefferson

abbrev pub rounding_of : Divisor → Option Rounding
rounding_of divisors.Adams = Some roundings.Adams
rounding_of divisors.Webster = Some roundings.Webster
rounding_of divisors.Jefferson = Some roundings.Jefferson
rounding_of method = None

-- that of the divisor method
abbrev pub rounding_number : Rounding → ℕ
rounding_number by = method_number (divisor_of by)

-- as the legal fault has it
abbrev pub fault_number : EndFault → ℕ
fault_number faults.Limit = 1
fault_number faults.Short = 2
fault_number faults.NoList = 3
fault_number faults.Majority = 5
fault_number faults.Cap = 6

abbrev pub flag : Bool → ℕ
flag false = 0
flag true = 1

-- a bit for each cursor
abbrev pub cursors_number : Cursors → ℕ
cursors_number c = flag c.party + 2 * flag c.land + 4 * flag c.win

-- 0 for a table that is off
abbrev pub table_number : Option TableState → ℕ
table_number None = 0
table_number (Some t) = 1 + entries_number t.entries + 4 * ranking_number t.ranking + 8 * flag t.ready

-- the number of an operand
abbrev pub value_of : Operand → ℕ
value_of (o.Register r) = r
value_of (o.Slot k) = k
value_of (o.Stage n) = n
value_of (o.Target t) = t
value_of (o.Value x) = x
value_of (o.Scope c) = scope_number c
value_of (o.Entries e) = entries_number e
value_of (o.Ranking ranking) = ranking_number ranking
value_of (o.Input i) = input_number i
value_of (o.Method m) = method_number m
value_of (o.Rounding m) = rounding_number m
value_of (o.Fault f) = fault_number f
value_of (o.Positive registers) = registers.mask
value_of (o.Cursors c) = cursors_number c
value_of (o.Table t) = table_number t

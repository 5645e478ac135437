-- An instruction is known by its operation and the numbers of its operands.
use Rattle.std.proofs.Common.{◌≡◌, ℕ, ◌+◌, ◌*◌, Bool, true, false, List, [], ◌∷◌, map, flat_map, find, get_or, unwrap_or, nat_eq, IsTrue, Option, Some, None, refl, sym, ap, ◌∙◌}
use Rattle.sl_base_quotients.specs.declared.method.TheConstants.{DIVISORS}
use Rattle.sl_base_quotients.specs.declared.method.Divisor.{Divisor}
use Rattle.sl_base_quotients.specs.declared.method.Divisor.TheVariants as divisors
use Rattle.sl_code_instructions.specs.declared.instr.Instr.{Instr}
use Rattle.sl_code_instructions.specs.declared.instr.Instr.TheVariants.{Set, Mov, Add, Sub, Mul, Div, Rem, Max, Jmp, Jz, Jlt, Jnl, Get, Store, Zero, Input, House, Wparty, Wland, Fparty, Nparty, Fland, Nland, Fwin, Nwin, Table, Prio, Rest, Lead, Share, Peers, Take, Lot, Takelot, Emit, Given, Fault, Tie, Seat, Single, Halt, At, Haltv, Weigh}
use Rattle.sl_code_instructions.specs.declared.kinds.Cursors.{Cursors}
use Rattle.sl_code_instructions.specs.declared.kinds.TableState.{TableState}
use Rattle.sl_code_instructions.specs.declared.operand.TheConstants.{ENTRY_KINDS, RANKINGS, SCOPE_KINDS, INPUTS, END_FAULTS, ROUNDINGS}
use Rattle.sl_code_instructions.specs.declared.operand.EndFault.{EndFault}
use Rattle.sl_code_instructions.specs.declared.operand.EndFault.TheVariants as faults
use Rattle.sl_code_instructions.specs.declared.operand.Entries.{Entries}
use Rattle.sl_code_instructions.specs.declared.operand.Entries.TheVariants as entries
use Rattle.sl_code_instructions.specs.declared.operand.Input.{Input as InputColumn}
use Rattle.sl_code_instructions.specs.declared.operand.Input.TheVariants as inputs
use Rattle.sl_code_instructions.specs.declared.operand.Ranking.{Ranking}
use Rattle.sl_code_instructions.specs.declared.operand.Ranking.TheVariants as rankings
use Rattle.sl_code_instructions.specs.declared.operand.Rounding.{Rounding}
use Rattle.sl_code_instructions.specs.declared.operand.Rounding.TheVariants as roundings
use Rattle.sl_code_instructions.specs.declared.operand.ScopeKind.{ScopeKind}
use Rattle.sl_code_instructions.specs.declared.operand.ScopeKind.TheVariants as scopes
use Rattle.sl_base_quotients.specs.Quotient.{method_number}
use Rattle.sl_code_instructions.specs.Numbers.{scope_number, entries_number, ranking_number, input_number, rounding_number, fault_number, cursors_number, table_number, flag}
use Rattle.sl_code_instructions.specs.Rows.{opcode_of, operands_of}
use Rattle.sl_code.specs.Operands.{is_below, is_scope, is_entries, is_ranking, is_input, is_method, is_rounding, is_end_fault}
use Rattle.sl_code_instructions.specs.Numbers.{value_of}

-- ---- the value of a number; its own number passes and gives it back

abbrev pub one_at : {A : Type 0} → (A → ℕ) → List A → A → ℕ → A
one_at number xs other n = unwrap_or (find (λ x. nat_eq (number x) n) xs) other

abbrev pub scope_at : ℕ → ScopeKind
scope_at = one_at scope_number SCOPE_KINDS scopes.All

pub scope_known : (x : ScopeKind) → IsTrue (is_scope (scope_number x)) × (scope_at (scope_number x) ≡ x)
scope_known scopes.All = (refl, refl)
scope_known x = (refl, refl)

abbrev pub entries_at : ℕ → Entries
entries_at = one_at entries_number ENTRY_KINDS entries.Party

pub entries_known : (x : Entries) → IsTrue (is_entries (entries_number x)) × (entries_at (entries_number x) ≡ x)
entries_known entries.Party = (refl, refl)
entries_known x = (refl, refl)

abbrev pub ranking_at : ℕ → Ranking
ranking_at = one_at ranking_number RANKINGS rankings.Quotients

pub ranking_known : (x : Ranking) → IsTrue (is_ranking (ranking_number x)) × (ranking_at (ranking_number x) ≡ x)
ranking_known rankings.Quotients = (refl, refl)
ranking_known x = (refl, refl)

abbrev pub input_at : ℕ → InputColumn
input_at = one_at input_number INPUTS inputs.Valid

pub input_known : (x : InputColumn) → IsTrue (is_input (input_number x)) × (input_at (input_number x) ≡ x)
input_known inputs.Valid = (refl, refl)
input_known x = (refl, refl)

abbrev pub method_at : ℕ → Divisor
method_at = one_at method_number DIVISORS divisors.Adams

pub method_known : (x : Divisor) → IsTrue (is_method (method_number x)) × (method_at (method_number x) ≡ x)
method_known divisors.Adams = (refl, refl)
method_known x = (refl, refl)

abbrev pub rounding_at : ℕ → Rounding
rounding_at = one_at rounding_number ROUNDINGS roundings.Adams

pub rounding_known : (x : Rounding) → IsTrue (is_rounding (rounding_number x)) × (rounding_at (rounding_number x) ≡ x)
rounding_known roundings.Adams = (refl, refl)
rounding_known x = (refl, refl)

abbrev pub fault_at : ℕ → EndFault
fault_at = one_at fault_number END_FAULTS faults.Limit

pub fault_known : (x : EndFault) → IsTrue (is_end_fault (fault_number x)) × (fault_at (fault_number x) ≡ x)
fault_known faults.Limit = (refl, refl)
fault_known x = (refl, refl)

abbrev pub cursors : Bool → Bool → Bool → Cursors
cursors party land win = record { party = party; land = land; win = win }

abbrev pub all_cursors : List Cursors
all_cursors = cursors false false false ∷ cursors true false false ∷ cursors false true false ∷ cursors true true false ∷ cursors false false true ∷ cursors true false true ∷ cursors false true true ∷ cursors true true true ∷ []

abbrev pub cursors_at : ℕ → Cursors
cursors_at n = get_or all_cursors n (cursors false false false)

flags_known : (a b c : Bool) → let n : ℕ = flag a + 2 * flag b + 4 * flag c in IsTrue (is_below 8 n) × (cursors_at n ≡ cursors a b c)
flags_known false false false = (refl, refl)
flags_known a false false = (refl, refl)
flags_known a b false = (refl, refl)
flags_known a b c = (refl, refl)

pub cursors_known : (x : Cursors) → IsTrue (is_below 8 (cursors_number x)) × (cursors_at (cursors_number x) ≡ x)
cursors_known x = flags_known x.party x.land x.win

abbrev state : Entries → Ranking → Bool → Option TableState
state e r ready = Some (record { entries = e; ranking = r; ready = ready })

abbrev pub tables : List (Option TableState)
tables = None ∷ flat_map (λ ready. flat_map (λ r. map (λ e. state e r ready) ENTRY_KINDS) RANKINGS) (false ∷ true ∷ [])

abbrev pub table_at : ℕ → Option TableState
table_at n = get_or tables n None

state_known : (e : Entries) (r : Ranking) (ready : Bool) → let n : ℕ = 1 + entries_number e + 4 * ranking_number r + 8 * flag ready in IsTrue (is_below 17 n) × (table_at n ≡ state e r ready)
state_known entries.Party rankings.Quotients false = (refl, refl)
state_known e rankings.Quotients false = (refl, refl)
state_known e r false = (refl, refl)
state_known e r ready = (refl, refl)

pub table_known : (x : Option TableState) → IsTrue (is_below 17 (table_number x)) × (table_at (table_number x) ≡ x)
table_known None = (refl, refl)
table_known (Some s) = state_known s.entries s.ranking s.ready

-- ---- the instruction of an operation and its operands' numbers

abbrev at : List ℕ → ℕ → ℕ
at values k = get_or values k 0

unfoldable pub builders : List (List ℕ → Instr)
builders =
    (λ v. Wland)
    ∷ (λ v. Set (at v 0) (at v 1))
    ∷ (λ v. Mov (at v 0) (at v 1))
    ∷ (λ v. Add (at v 0) (at v 1))
    ∷ (λ v. Sub (at v 0) (at v 1))
    ∷ (λ v. Mul (at v 0) (at v 1))
    ∷ (λ v. Div (at v 0) (at v 1))
    ∷ (λ v. Rem (at v 0) (at v 1))
    ∷ (λ v. Max (at v 0) (at v 1))
    ∷ (λ v. Jmp (at v 0))
    ∷ (λ v. Jz (at v 0) (at v 1))
    ∷ (λ v. Jlt (at v 0) (at v 1) (at v 2))
    ∷ (λ v. Jnl (at v 0))
    ∷ (λ v. Get (at v 0) (at v 1))
    ∷ (λ v. Store (at v 0) (at v 1))
    ∷ (λ v. Zero (at v 0))
    ∷ (λ v. Input (at v 0) (input_at (at v 1)))
    ∷ (λ v. House (at v 0))
    ∷ (λ v. Wparty (at v 0))
    ∷ (λ v. Wland)
    ∷ (λ v. Fparty (at v 0))
    ∷ (λ v. Nparty (at v 0))
    ∷ (λ v. Fland (at v 0))
    ∷ (λ v. Nland (at v 0))
    ∷ (λ v. Fwin (at v 0))
    ∷ (λ v. Nwin (at v 0))
    ∷ (λ v. Table (entries_at (at v 0)) (ranking_at (at v 1)))
    ∷ (λ v. Prio (method_at (at v 0)) (at v 1) (at v 2))
    ∷ (λ v. Rest (at v 0))
    ∷ (λ v. Lead)
    ∷ (λ v. Share)
    ∷ (λ v. Peers (at v 0) (at v 1))
    ∷ (λ v. Take)
    ∷ (λ v. Lot (at v 0) (at v 1))
    ∷ (λ v. Takelot (at v 0))
    ∷ (λ v. Emit (at v 0) (scope_at (at v 1)) (at v 2) (at v 3))
    ∷ (λ v. Given (at v 0) (scope_at (at v 1)) (at v 2))
    ∷ (λ v. Fault (at v 0) (scope_at (at v 1)) (fault_at (at v 2)))
    ∷ (λ v. Tie (at v 0) (scope_at (at v 1)) (at v 2))
    ∷ (λ v. Seat)
    ∷ (λ v. Single)
    ∷ (λ v. Halt (at v 0))
    ∷ (λ v. At (record { positive = record { mask = at v 0 }; cursors = cursors_at (at v 1); table = table_at (at v 2) }))
    ∷ (λ v. Haltv (at v 0) (at v 1))
    ∷ (λ v. Weigh (at v 0) (scope_at (at v 1)) (rounding_at (at v 2)) (at v 3))
    ∷ []

unfoldable pub instr_at : ℕ → List ℕ → Instr
instr_at op = get_or builders op (λ v. Wland)

instr_back : (i : Instr) → instr_at (opcode_of i) (map value_of (operands_of i)) ≡ i
unfolding builders instr_at
instr_back (Input a b) = ap (λ (x : InputColumn). Input a x) (input_known b).1
instr_back (Table a b) = ap (λ (x : Entries). Table x (ranking_at (ranking_number b))) (entries_known a).1 ∙ ap (λ (x : Ranking). Table a x) (ranking_known b).1
instr_back (Prio a b c) = ap (λ (x : Divisor). Prio x b c) (method_known a).1
instr_back (Emit a b c d) = ap (λ (x : ScopeKind). Emit a x c d) (scope_known b).1
instr_back (Given a b c) = ap (λ (x : ScopeKind). Given a x c) (scope_known b).1
instr_back (Fault a b c) = ap (λ (x : ScopeKind). Fault a x (fault_at (fault_number c))) (scope_known b).1 ∙ ap (λ (x : EndFault). Fault a b x) (fault_known c).1
instr_back (Tie a b c) = ap (λ (x : ScopeKind). Tie a x c) (scope_known b).1
instr_back (At k) =
    ap (λ (x : Cursors). At (record { positive = k.positive; cursors = x; table = table_at (table_number k.table) })) (cursors_known k.cursors).1 ∙ ap (λ (x : Option TableState). At (record { positive = k.positive; cursors = k.cursors; table = x })) (table_known k.table).1
instr_back (Weigh a b c d) = ap (λ (x : ScopeKind). Weigh a x (rounding_at (rounding_number c)) d) (scope_known b).1 ∙ ap (λ (x : Rounding). Weigh a b x d) (rounding_known c).1
instr_back i = refl

pub same_instr : (i j : Instr) → opcode_of i ≡ opcode_of j → map value_of (operands_of i) ≡ map value_of (operands_of j) → i ≡ j
same_instr i j op values =
    sym (instr_back i) ∙ ap (λ n. instr_at n (map value_of (operands_of i))) op ∙ ap (instr_at (opcode_of j)) values ∙ instr_back j

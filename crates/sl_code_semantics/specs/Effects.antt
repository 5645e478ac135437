-- What each instruction does to a state, wherever it stands in the code (docs/machine.md, section 2).
use Rattle.std.specs.Prelude.{ℕ, zero, suc, ◌+◌, ◌-◌, ◌*◌, ◌/◌, ◌%◌, ◌^◌, Bool, true, false, min, max, List, [], ◌∷◌, ◌++◌, Option, Some, None, ◌==◌, nat_lt, codes, length, map, slice_get, slice_index, slice_index_or, if◌then◌else◌}
use Rattle.std.specs.Option.{option_map, option_and_then}
use Rattle.sl_base_quotients.specs.declared.entry.Entry.{Entry}
use Rattle.sl_base_quotients.specs.declared.limits.TheConstants.{MAX_WEIGHT, MAX_SEATS}
use Rattle.sl_base_quotients.specs.Quotient.{Quotient, quotient}
use Rattle.sl_law_meaning.specs.declared.fault.FaultKind.{FaultKind}
use Rattle.sl_law_meaning.specs.declared.fault.FaultKind.TheVariants as fault
use Rattle.sl_law_meaning.specs.declared.fault.Scope.{Scope}
use Rattle.sl_law_meaning.specs.declared.election.ListVotes.{ListVotes}
use Rattle.sl_law_meaning.specs.declared.election.Win.{Win}
use Rattle.sl_law_meaning.specs.declared.table.Mark.{Mark}
use Rattle.sl_law_meaning.specs.declared.table.Mark.TheVariants as mark
use Rattle.sl_law_meaning.specs.declared.table.Placed.TheVariants as placed
use Rattle.sl_law_meaning.specs.declared.table.SeatStep.{SeatStep}
use Rattle.sl_law_meaning.specs.declared.table.Weight.{Weight}
use Rattle.sl_law_meaning.specs.returns.Election.{Election, lands_of, parties_of, wins_of, list_at, has_list}
use Rattle.sl_law_meaning.specs.returns.Votes.{valid_in, counted_in, slate_in}
use Rattle.sl_code_instructions.specs.declared.code.CodeStage.{CodeStage}
use Rattle.sl_code_instructions.specs.declared.instr.Instr.{Instr}
use Rattle.sl_code_instructions.specs.declared.instr.Instr.TheVariants as instr
use Rattle.sl_code_instructions.specs.declared.operand.EndFault.{EndFault}
use Rattle.sl_code_instructions.specs.declared.operand.EndFault.TheVariants as end
use Rattle.sl_code_instructions.specs.declared.operand.Input.{Input}
use Rattle.sl_code_instructions.specs.declared.operand.Input.TheVariants as input
use Rattle.sl_code_instructions.specs.declared.operand.Ranking.{Ranking}
use Rattle.sl_code_instructions.specs.declared.operand.Ranking.TheVariants as ranking
use Rattle.sl_code_instructions.specs.declared.operand.Rounding.{Rounding}
use Rattle.sl_code_instructions.specs.declared.operand.ScopeKind.{ScopeKind}
use Rattle.sl_code_instructions.specs.Codes.{CountingCode}
use Rattle.sl_code_instructions.specs.Numbers.{divisor_of}
use Rattle.sl_code_semantics.specs.declared.known.TheConstants.{LAST_CLAUSE}
use Rattle.sl_code_semantics.specs.Kinds.{same_ranking}
use Rattle.sl_code_semantics.specs.State.{State, PriorityTable, End, Halted, Faulted, with_register, with_column, with_cell, with_place}
use Rattle.sl_code_semantics.specs.Places.{both, cell_at, index_at, item_of, at_entry, scope_at}
use Rattle.sl_base_rankings.specs.Peers.{top, peers, is_covered}
use Rattle.sl_base_rankings.specs.Lot.{drawn}
use Rattle.sl_base_rankings.specs.Ranking.{insert_ranked}
use Rattle.sl_base_rankings.specs.Ranking.{without}
use Rattle.sl_code_semantics.specs.Drawn.{lot_of}

-- the machine goes on after the instruction, or at its target, or the run ends, or no case applies
pub data Effect : Type 0 where
  Goes : State → Effect
  Jumps : State → Effect
  Ends : End → Effect
  NoCase : Effect

-- what there must be
abbrev pub given : {A : Type 0} → Option A → (A → Effect) → Effect
given None go = NoCase
given (Some x) go = go x

abbrev pub where_positive : ℕ → Effect → Effect
where_positive zero effect = NoCase
where_positive (suc n) effect = effect

-- ---- numbers

-- the greatest number of a register
abbrev pub most : ℕ
most = 2 ^ 64 - 1

abbrev pub sets : ℕ → ℕ → State → Effect
sets r value s = Goes (with_register r value s)

-- the register holds the house, if there is one
abbrev pub sets_house : ℕ → Option ℕ → State → Effect
sets_house r None s = Goes s
sets_house r (Some seats) s = sets r seats s

-- ---- columns

-- a number for each cell of a list column, from the cells of the returns; 0 past them
abbrev pub from_lists : Election → (Option ListVotes → ℕ) → ℕ → ℕ
from_lists e f place = if nat_lt place (lands_of e * parties_of e) then f (list_at e (place / parties_of e) (place % parties_of e)) else 0

-- the number of names left on a list, and the greatest number where it is not given
abbrev pub names_or_most : Option ListVotes → ℕ
names_or_most votes = told (slate_in votes) where
  told : Option ℕ → ℕ
  told None = most
  told (Some n) = n

abbrev pub one_if : Bool → ℕ
one_if true = 1
one_if false = 0

-- a column of the returns
abbrev pub input_of : Election → Input → ℕ → ℕ
input_of e input.Valid = from_lists e valid_in
input_of e input.Counted = from_lists e counted_in
input_of e input.Minority = λ party. one_if (slice_index_or e.minorities party false)
input_of e input.Population = λ land. slice_index e.populations land
input_of e input.Names = from_lists e names_or_most

-- ---- winners and cursors

abbrev pub with_party : Option ℕ → State → State
with_party party s = record s { party = party }

abbrev pub with_land : Option ℕ → State → State
with_land land s = record s { land = land }

abbrev pub with_win : Option ℕ → State → State
with_win win s = record s { win = win }

-- the winner at the cursor
abbrev pub winner_at : Election → State → Option Win
winner_at e s = option_and_then (λ w. slice_get e.wins w) s.win

-- the first of so many; none
abbrev pub first_of : ℕ → (Option ℕ → State → State) → State → Effect
first_of zero set s = Jumps (set None s)
first_of (suc n) set s = Goes (set (Some 0) s)

-- the next of so many; after the last one
abbrev pub next_of : ℕ → Option ℕ → (Option ℕ → State → State) → State → Effect
next_of n cursor set s = given cursor (λ i. if nat_lt (i + 1) n then Jumps (set (Some (i + 1)) s) else Goes (set None s))

-- the winner's party; a winner without one jumps
abbrev pub to_party : Option ℕ → State → Effect
to_party None s = Jumps (with_party None s)
to_party (Some p) s = Goes (with_party (Some p) s)

-- the winner of that number is seated on the list of its party, if it has one with a list
abbrev pub seat_winner : ℕ → Option ℕ → (ℕ → Bool) → State → Effect
seat_winner w None listed s = Goes s
seat_winner w (Some p) listed s = if listed p then Goes (with_place w placed.OnList s) else Goes s

-- ---- the priority table

abbrev pub with_table : PriorityTable → State → State
with_table t s = record s { table = Some t }

-- the table with one more entry
abbrev pub with_entry : Entry → PriorityTable → PriorityTable
with_entry x t = record t { contents = insert_ranked x t.contents }

-- enters the cursors' entry in a table with that ranking
abbrev pub enters : Election → Ranking → Quotient → State → Effect
enters e by q s = given s.table (λ t. given (index_at e t.entries s) (λ index.
    if same_ranking by t.ranking then Goes (with_table (with_entry (record { ratio = q; index = index }) t) s) else NoCase))

-- the mark of an entry taken: among remainders one with the denominator 0 is ahead of all, and any other stands for its numerator less 1
abbrev pub mark_of : Ranking → Quotient → Mark
mark_of ranking.Quotients q = mark.Quotient q
mark_of ranking.Remainders q = if q.den == 0 then mark.Lead else mark.Rest (q.num - 1)

-- a register holds that number of peers; jumps where there are none
abbrev pub counts_peers : ℕ → ℕ → State → Effect
counts_peers r zero s = Jumps s
counts_peers r (suc n) s = sets r (suc n) s

-- the table without an entry, and the mark of that
abbrev pub after_take : Entry → PriorityTable → State → State
after_take x t s = record s { table = Some (record t { contents = without x t.contents }); mark = mark_of t.ranking x.ratio }

-- takes an entry out: the cursors and the mark are its
abbrev pub takes : Election → PriorityTable → Option Entry → State → Effect
takes e t entry s = given entry (λ x. Goes (at_entry e t.entries x.index (after_take x t s)))

-- ---- stages, scopes and what is recorded

abbrev pub with_step : SeatStep → State → State
with_step x s = record s { steps = s.steps ++ x ∷ [] }

abbrev pub with_weight : Weight → State → State
with_weight x s = record s { weights = s.weights ++ x ∷ [] }

-- the stage of an operand: its number, or the number of stages for the last clause
abbrev pub stage_of : List CodeStage → ℕ → Option ℕ
stage_of stages n = if n == LAST_CLAUSE then Some (length stages) else option_map (λ stage. n) (slice_get stages n)

-- the name under which lots are drawn for it
abbrev pub name_of : List CodeStage → ℕ → Option (List ℕ)
name_of stages n = if n == LAST_CLAUSE then Some (codes "seats") else option_map (λ stage. stage.name) (slice_get stages n)

abbrev pub kind_of : EndFault → FaultKind
kind_of end.Limit = fault.Limit
kind_of end.Short = fault.Short
kind_of end.NoList = fault.NoList
kind_of end.Majority = fault.Majority
kind_of end.Cap = fault.Cap

module _ (c : CountingCode) (e : Election) where
  -- the stage and the scope of a record or a fault
  abbrev pub at_scope : ℕ → ScopeKind → State → (ℕ → Scope → Effect) → Effect
  at_scope n kind s go = given (stage_of c.stages n) (λ stage. given (scope_at kind s) (λ scope. go stage scope))

  abbrev pub records : ℕ → ScopeKind → ℕ → ℕ → Mark → State → Effect
  records n kind number step mark s = at_scope n kind s (λ stage scope. given s.table (λ t. given (index_at e t.entries s) (λ index.
      Goes (with_step (record { stage = stage; scope = scope; entry = item_of e t.entries index; n = number; step = step; mark = mark }) s))))

  abbrev pub weighs : ℕ → ScopeKind → Rounding → ℕ → State → Effect
  weighs n kind by weight s = at_scope n kind s (λ stage scope. given s.table (λ t. given (index_at e t.entries s) (λ index.
      Goes (with_weight (record { stage = stage; scope = scope; entry = item_of e t.entries index; divisor = divisor_of by; weight = min weight MAX_WEIGHT }) s))))

  abbrev pub faults : ℕ → ScopeKind → FaultKind → State → Effect
  faults n kind why s = at_scope n kind s (λ stage scope. Ends (Faulted (record { stage = stage; scope = scope; kind = why })))

  -- the table and the stage's lot in it
  abbrev pub with_lot : ℕ → State → (PriorityTable → List ℕ → Effect) → Effect
  with_lot n s go = given s.table (λ t. given (top t.contents) (λ first. given (name_of c.stages n) (λ name. go t (lot_of e t.entries name))))

  -- the effect of an instruction
  abbrev pub effect : Instr → State → Effect
  effect (instr.Set r x) s = sets r x s
  effect (instr.Mov r from) s = sets r (s.registers from) s
  effect (instr.Add r by) s = sets r (min (s.registers r + s.registers by) most) s
  effect (instr.Sub r by) s = sets r (s.registers r - s.registers by) s
  effect (instr.Mul r by) s = sets r (min (s.registers r * s.registers by) most) s
  effect (instr.Div r by) s = where_positive (s.registers by) (sets r (s.registers r / s.registers by) s)
  effect (instr.Rem r by) s = where_positive (s.registers by) (sets r (s.registers r % s.registers by) s)
  effect (instr.Max r by) s = sets r (max (s.registers r) (s.registers by)) s
  effect (instr.Jmp t) s = Jumps s
  effect (instr.Jz r t) s = if s.registers r == 0 then Jumps s else Goes s
  effect (instr.Jlt l r t) s = if nat_lt (s.registers l) (s.registers r) then Jumps s else Goes s
  effect (instr.Jnl t) s = given (both s.land s.party (has_list e)) (λ there. if there then Goes s else Jumps s)
  effect (instr.Get r k) s = given (slice_get c.slots k) (λ shape. given (cell_at e shape s) (λ place. sets r (s.columns k place) s))
  effect (instr.Store k r) s = given (slice_get c.slots k) (λ shape. given (cell_at e shape s) (λ place. Goes (with_cell k place (s.registers r) s)))
  effect (instr.Zero k) s = given (slice_get c.slots k) (λ shape. Goes (with_column k (λ place. 0) s))
  effect (instr.Input k i) s = given (slice_get c.slots k) (λ shape. Goes (with_column k (input_of e i) s))
  effect (instr.House r) s = sets_house r e.house s
  effect (instr.Wparty t) s = given (winner_at e s) (λ w. to_party w.party s)
  effect instr.Wland s = given (winner_at e s) (λ w. Goes (with_land (Some w.land) s))
  effect (instr.Fparty t) s = first_of (parties_of e) with_party s
  effect (instr.Nparty t) s = next_of (parties_of e) s.party with_party s
  effect (instr.Fland t) s = first_of (lands_of e) with_land s
  effect (instr.Nland t) s = next_of (lands_of e) s.land with_land s
  effect (instr.Fwin t) s = first_of (wins_of e) with_win s
  effect (instr.Nwin t) s = next_of (wins_of e) s.win with_win s
  effect (instr.Table k by) s = Goes (with_table (record { entries = k; ranking = by; contents = [] }) s)
  effect (instr.Prio m r held) s =
      where_positive (s.registers r) (enters e ranking.Quotients (quotient m (min (s.registers r) MAX_WEIGHT) (min (s.registers held) MAX_SEATS)) s)
  effect (instr.Rest r) s = enters e ranking.Remainders (record { num = s.registers r + 1; den = 1 }) s
  effect instr.Lead s = enters e ranking.Remainders (record { num = 1; den = 0 }) s
  effect instr.Share s = given (winner_at e s) (λ w. enters e ranking.Quotients (record { num = w.first; den = w.valid }) s)
  effect (instr.Peers r t) s = given s.table (λ table. counts_peers r (length (peers table.contents)) s)
  effect instr.Take s = given s.table (λ t. takes e t (top t.contents) s)
  effect (instr.Lot n t) s = with_lot n s (λ table lot. if is_covered lot table.contents then Goes s else Jumps s)
  effect (instr.Takelot n) s = with_lot n s (λ table lot. takes e table (drawn lot table.contents) s)
  effect (instr.Emit n kind number step) s = records n kind (s.registers number) (s.registers step) s.mark s
  effect (instr.Given n kind number) s = records n kind (s.registers number) 0 mark.Given s
  effect (instr.Fault n kind f) s = faults n kind (kind_of f) s
  effect (instr.Tie n kind r) s = given s.table (λ t. given (top t.contents) (λ first.
      faults n kind (fault.Tie (s.registers r) (map (λ x. item_of e t.entries x.index) (peers t.contents))) s))
  effect instr.Seat s = given s.win (λ w. given (slice_get e.wins w) (λ winner. seat_winner w winner.party (has_list e winner.land) s))
  effect instr.Single s = given s.win (λ w. Goes (with_place w placed.Single s))
  effect (instr.Halt k) s = given (slice_get c.slots k) (λ shape. Ends (Halted k None s))
  effect (instr.At kinds) s = Goes s
  effect (instr.Haltv k v) s = given (slice_get c.slots k) (λ base. given (slice_get c.slots v) (λ vacant. Ends (Halted k (Some v) s)))
  effect (instr.Weigh n kind by r) s = where_positive (s.registers r) (weighs n kind by (s.registers r) s)

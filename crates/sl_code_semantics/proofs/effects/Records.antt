-- The instructions that record seats and weights, that seat winners, and that end a run.
use Rattle.std.proofs.Common.{◌≡◌, ℕ, suc, min, Bool, true, map, Option, Some, slice_get, if◌then◌else◌, refl, ap, ◌∙◌}
use Rattle.sl_base_quotients.specs.declared.entry.Entry.{Entry}
use Rattle.sl_base_quotients.specs.declared.limits.TheConstants.{MAX_WEIGHT}
use Rattle.sl_law_meaning.specs.declared.fault.FaultKind.{FaultKind}
use Rattle.sl_law_meaning.specs.declared.fault.FaultKind.TheVariants as fault
use Rattle.sl_law_meaning.specs.declared.fault.Scope.{Scope}
use Rattle.sl_law_meaning.specs.declared.election.Win.{Win}
use Rattle.sl_law_meaning.specs.declared.table.Mark.{Mark}
use Rattle.sl_law_meaning.specs.declared.table.Mark.TheVariants as mark
use Rattle.sl_law_meaning.specs.declared.table.Placed.TheVariants as placed
use Rattle.sl_law_meaning.specs.declared.table.SeatStep.{SeatStep}
use Rattle.sl_law_meaning.specs.declared.table.Weight.{Weight}
use Rattle.sl_law_meaning.specs.returns.Election.{Election, has_list}
use Rattle.sl_code_instructions.specs.declared.instr.Instr.TheVariants as instr
use Rattle.sl_code_instructions.specs.declared.operand.EndFault.{EndFault}
use Rattle.sl_code_instructions.specs.declared.operand.Rounding.{Rounding}
use Rattle.sl_code_instructions.specs.declared.operand.ScopeKind.{ScopeKind}
use Rattle.sl_code_instructions.specs.Codes.{CountingCode}
use Rattle.sl_base_rankings.specs.Peers.{top, peers}
use Rattle.sl_code_semantics.specs.State.{State, PriorityTable, Faulted, with_place}
use Rattle.sl_code_semantics.specs.Places.{index_at, item_of, scope_at}
use Rattle.sl_code_instructions.specs.Numbers.{divisor_of}
use Rattle.sl_code_semantics.specs.Effects.{Effect, Goes, Ends, given, at_scope, records, weighs, faults, seat_winner, stage_of, kind_of, with_step, with_weight, effect}
use Rattle.sl_code_semantics.proofs.effects.Registers.{given_is, positive_is}

module _ (c : CountingCode) (e : Election) (s : State) where
  -- ---- at a stage, in a scope
  module _ (n : ℕ) (k : ScopeKind) (stage : ℕ) (x : Scope) (numbered : stage_of c.stages n ≡ Some stage) (scope : scope_at k s ≡ Some x) where
    at_scope_is : (go : ℕ → Scope → Effect) → at_scope c e n k s go ≡ go stage x
    at_scope_is go = given_is (stage_of c.stages n) stage (λ m. given (scope_at k s) (λ y. go m y)) numbered ∙ given_is (scope_at k s) x (λ y. go stage y) scope

    -- ---- records of the entry at the cursors
    module _ (t : PriorityTable) (index : ℕ) (table : s.table ≡ Some t) (at : index_at e t.entries s ≡ Some index) where
      entry_is : (go : PriorityTable → ℕ → Effect) → given s.table (λ u. given (index_at e u.entries s) (λ i. go u i)) ≡ go t index
      entry_is go = given_is s.table t (λ u. given (index_at e u.entries s) (λ i. go u i)) table ∙ given_is (index_at e t.entries s) index (λ i. go t i) at

      -- the record of a seat, and of a weight
      abbrev pub seat_of : ℕ → ℕ → Mark → SeatStep
      seat_of number step m = record { stage = stage; scope = x; entry = item_of e t.entries index; n = number; step = step; mark = m }

      abbrev pub weight_of : Rounding → ℕ → Weight
      weight_of by w = record { stage = stage; scope = x; entry = item_of e t.entries index; divisor = divisor_of by; weight = min w MAX_WEIGHT }

      records_is : (number step : ℕ) (m : Mark) → records c e n k number step m s ≡ Goes (with_step (seat_of number step m) s)
      records_is number step m = at_scope_is _ ∙ entry_is (λ u i. Goes (with_step (record { stage = stage; scope = x; entry = item_of e u.entries i; n = number; step = step; mark = m }) s))

      pub emit_does : (number step : ℕ) → effect c e (instr.Emit n k number step) s ≡ Goes (with_step (seat_of (s.registers number) (s.registers step) s.mark) s)
      emit_does number step = records_is (s.registers number) (s.registers step) s.mark

      pub given_does : (number : ℕ) → effect c e (instr.Given n k number) s ≡ Goes (with_step (seat_of (s.registers number) 0 mark.Given) s)
      given_does number = records_is (s.registers number) 0 mark.Given

      pub weigh_does : (by : Rounding) (r w : ℕ) → s.registers r ≡ suc w → effect c e (instr.Weigh n k by r) s ≡ Goes (with_weight (weight_of by (s.registers r)) s)
      weigh_does by r w positive =
          positive_is (s.registers r) w (weighs c e n k by (s.registers r) s) positive ∙ at_scope_is _
          ∙ entry_is (λ u i. Goes (with_weight (record { stage = stage; scope = x; entry = item_of e u.entries i; divisor = divisor_of by; weight = min (s.registers r) MAX_WEIGHT }) s))

    -- ---- legal faults
    faults_is : (why : FaultKind) → faults c e n k why s ≡ Ends (Faulted (record { stage = stage; scope = x; kind = why }))
    faults_is why = at_scope_is (λ j y. Ends (Faulted (record { stage = j; scope = y; kind = why })))

    pub fault_ends : (f : EndFault) → effect c e (instr.Fault n k f) s ≡ Ends (Faulted (record { stage = stage; scope = x; kind = kind_of f }))
    fault_ends f = faults_is (kind_of f)

    pub tie_ends : (r : ℕ) (t : PriorityTable) (first : Entry) → s.table ≡ Some t → top t.contents ≡ Some first
        → effect c e (instr.Tie n k r) s ≡ Ends (Faulted (record { stage = stage; scope = x; kind = fault.Tie (s.registers r) (map (λ y. item_of e t.entries y.index) (peers t.contents)) }))
    tie_ends r t first table some =
        given_is s.table t _ table ∙ given_is (top t.contents) first _ some
        ∙ faults_is (fault.Tie (s.registers r) (map (λ y. item_of e t.entries y.index) (peers t.contents)))

  -- ---- winners
  module _ (w : ℕ) (win : s.win ≡ Some w) where
    pub single_does : effect c e instr.Single s ≡ Goes (with_place w placed.Single s)
    single_does = given_is s.win w (λ v. Goes (with_place v placed.Single s)) win

    module _ (winner : Win) (is : slice_get e.wins w ≡ Some winner) where
      seats_is : (party : Option ℕ) → winner.party ≡ party → effect c e instr.Seat s ≡ seat_winner w party (has_list e winner.land) s
      seats_is party of = rw (win, is, of) refl

      -- on the list of a party that has one there
      pub seat_does : (p : ℕ) → winner.party ≡ Some p → has_list e winner.land p ≡ true → effect c e instr.Seat s ≡ Goes (with_place w placed.OnList s)
      seat_does p of listed = seats_is (Some p) of ∙ ap (λ (b : Bool). if b then Goes (with_place w placed.OnList s) else Goes s) listed

-- The records of an entry's first seats.
use Rattle.std.proofs.Common.{◌≡◌, ℕ, suc, ◌+◌, ◌-◌, ◌≤◌, min, List, [], ◌∷◌, ◌++◌, map, Some, refl, sym, ap, subst, ◌∙◌, append-nil, arith}
use Rattle.std.specs.List.{range_with_len}
use Rattle.std.proofs.lemmas.List.FromFn.{map-range_with_len_more}
use Rattle.sl_law_meaning.specs.declared.fault.Scope.{Scope}
use Rattle.sl_law_meaning.specs.declared.fault.Item.{Item}
use Rattle.sl_law_meaning.specs.declared.table.Mark.TheVariants as mark
use Rattle.sl_law_meaning.specs.declared.table.SeatStep.{SeatStep}
use Rattle.sl_law_meaning.specs.returns.Election.{Election}
use Rattle.sl_code_instructions.specs.declared.instr.Instr.TheVariants.{Given}
use Rattle.sl_code_instructions.specs.declared.operand.ScopeKind.{ScopeKind}
use Rattle.sl_code_instructions.specs.Codes.{CountingCode}
use Rattle.sl_code_semantics.specs.State.{State, PriorityTable, with_register}
use Rattle.sl_code_semantics.specs.Places.{scope_at, index_at, item_of}
use Rattle.sl_code_semantics.specs.Effects.{most, stage_of, with_step}
use Rattle.sl_code_semantics.proofs.effects.Records.{given_does}
use Rattle.sl_compile_plans.specs.declared.plan.Bound.TheVariants as bound
use Rattle.sl_compile_plans.specs.Trees.{Tree, Line, Times, ones}
use Rattle.sl_compile_plans.specs.Achieves.{Achieves, Never}
use Rattle.sl_compile_plans.specs.Frames.{KeepsRest}
use Rattle.sl_compile_plans.proofs.Rules.{line_ends, line_goes}
use Rattle.sl_compile_plans.proofs.KeepingRules.{achieves_kept, times_keeping}
use Rattle.sl_compile_pieces.specs.scopes.Forms.{OnItem}
use Rattle.sl_compile_pieces.specs.declared.registers.TheConstants as reg
use Rattle.sl_compile_pieces.specs.awards.Trees.{count_up}
use Rattle.sl_compile_pieces.specs.seats.Trees.{most_seats}
use Rattle.sl_compile_pieces.proofs.seats.Lists.{row_more}

-- the record of the seat that was given to an entry when it held a
abbrev pub given_seat : ℕ → Scope → Item → ℕ → SeatStep
given_seat stage on i a = record { stage = stage; scope = on; entry = i; n = a + 1; step = 0; mark = mark.Given }

-- one more is recorded, and as many as the register of turns says
abbrev pub records_one : ℕ → ScopeKind → Tree
records_one stage k = Line (count_up reg.NUMBER ++ Given stage k reg.NUMBER ∷ [])

abbrev pub records_all : ℕ → ScopeKind → Tree
records_all stage k = Times reg.TURNS (bound.AtMost most_seats) (records_one stage k)

-- with the cursors on an entry of the table, in a scope of a stage
module _ (c : CountingCode) (e : Election) (stage : ℕ) (k : ScopeKind) (on : Scope) (i : Item) (t : PriorityTable) (p : ℕ) (numbered : stage_of c.stages stage ≡ Some stage)
    (scope : (s : State) → OnItem i s → scope_at k s ≡ Some on) (index : (s : State) → OnItem i s → index_at e t.entries s ≡ Some p) (item : item_of e t.entries p ≡ i) where
  -- w of n seats are still to be recorded
  record Recorded (steps : List SeatStep) (n w : ℕ) (s : State) : Type 0 where
    within : w ≤ n
    number : s.registers reg.NUMBER ≡ n - w
    steps_are : s.steps ≡ steps ++ map (given_seat stage on i) (range_with_len 0 (n - w))
    table : s.table ≡ Some t
    on_item : OnItem i s

  one_more : (steps now : List SeatStep) (a number : ℕ) (entry : Item) → entry ≡ i → number ≡ a + 1 → now ≡ steps ++ map (given_seat stage on i) (range_with_len 0 a)
      → now ++ record { stage = stage; scope = on; entry = entry; n = number; step = 0; mark = mark.Given } ∷ [] ≡ steps ++ map (given_seat stage on i) (range_with_len 0 (a + 1))
  one_more steps now a number entry of is so_far =
      let f : ℕ → SeatStep = given_seat stage on i in
      let last : SeatStep = record { stage = stage; scope = on; entry = entry; n = number; step = 0; mark = mark.Given } in
      let same : last ≡ f a = rw (of, is) refl in
      row_more steps (map f (range_with_len 0 a)) (map f (range_with_len 0 (a + 1))) (last ∷ []) now so_far
      (map-range_with_len_more f 0 a a (omega arith) ∙ ap (λ x. map f (range_with_len 0 a) ++ x ∷ []) (sym same))

  one_recorded : (steps : List SeatStep) (n w : ℕ) (s : State) → n ≤ most_seats → Recorded steps n (suc w) s
      → Achieves c e (records_one stage k) (with_register reg.TURNS w (with_register ones 1 s)) (Recorded steps n w) Never
  one_recorded steps n w s few h =
      let x : ℕ = min (s.registers reg.NUMBER + 1) most in
      let third : State = with_register reg.NUMBER x (with_register ones 1 (with_register reg.TURNS w (with_register ones 1 s))) in
      let last : State = with_step (record { stage = stage; scope = on; entry = item_of e t.entries p; n = x; step = 0; mark = mark.Given }) third in
      let within : suc w ≤ n = h.within in
      let next : n - suc w + 1 ≡ n - w = omega (arith, within) in
      let is : x ≡ n - suc w + 1 = omega (arith, within, few) in
      line_goes refl (line_goes refl
      (line_goes (given_does c e third stage k stage on numbered (scope third h.on_item) t p h.table (index third h.on_item) reg.NUMBER)
      (line_ends (search (
        arith,
        is ∙ next,
        one_more steps s.steps (n - suc w) x (item_of e t.entries p) item is h.steps_are ∙ ap (λ m. steps ++ map (given_seat stage on i) (range_with_len 0 m)) next,
      )))))

  pub seats_recorded : (n : ℕ) (s : State) → n ≤ most_seats → s.registers reg.TURNS ≡ n → s.registers reg.NUMBER ≡ 0 → s.table ≡ Some t → OnItem i s
      → Achieves c e (records_all stage k) s (λ u. (u.steps ≡ s.steps ++ map (given_seat stage on i) (range_with_len 0 n)) × KeepsRest (records_all stage k) s u) Never
  seats_recorded n s few turns number table here =
      let none : n - n ≡ 0 = omega arith in
      let all : n - 0 ≡ n = omega arith in
      let begins : Recorded s.steps n n s = search
      (arith, number ∙ sym none, sym (append-nil s.steps) ∙ ap (λ m. s.steps ++ map (given_seat stage on i) (range_with_len 0 m)) (sym none)) in
      achieves_kept (times_keeping (Recorded s.steps n) refl refl (omega (arith, turns, few)) (subst (λ m. Recorded s.steps n m s) (sym turns) begins)
      (λ w u is h. one_recorded s.steps n w u few h)
      (λ u is h. h.steps_are ∙ ap (λ m. s.steps ++ map (given_seat stage on i) (range_with_len 0 m)) all))

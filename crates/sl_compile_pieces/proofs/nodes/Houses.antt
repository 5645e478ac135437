-- The house of a growth is found, or there is none up to the cap.
use Rattle.std.proofs.Common.{◌≡◌, ℕ, ◌+◌, ◌<◌, ◌≤◌, min, max, List, [], ◌∷◌, sum, refl, sym, subst, ◌∙◌, inl, inr, arith}
use Rattle.sl_base_quotients.specs.declared.limits.TheConstants.{MAX_SEATS}
use Rattle.sl_base_quotients.specs.declared.method.Divisor.{Divisor}
use Rattle.sl_law_meaning.specs.returns.Election.{Election, IsElection}
use Rattle.sl_law_meaning.specs.methods.Field.{InField}
use Rattle.sl_law_meaning.specs.methods.LeastHouse.{outside_sum, AboveCap, IsGrowth}
use Rattle.sl_law_meaning.specs.meaning.Scopes.{Group}
use Rattle.sl_law_meaning.proofs.methods.SeatSums.{some_less}
use Rattle.sl_code_instructions.specs.declared.instr.Instr.TheVariants.{Add, Max}
use Rattle.sl_code_instructions.specs.declared.operand.EndFault.TheVariants as end
use Rattle.sl_code_instructions.specs.Codes.{CountingCode}
use Rattle.sl_code_semantics.specs.State.{State, with_register}
use Rattle.sl_code_semantics.specs.Effects.{most}
use Rattle.sl_compile_plans.specs.Trees.{Line, Then}
use Rattle.sl_compile_plans.specs.Achieves.{Achieves}
use Rattle.sl_compile_plans.proofs.Rules.{achieves_from, line_ends, then_achieves, if_zero, goes_as, line_first, line_over, achieves_never}
use Rattle.std.specs.Prelude.{Some}
use Rattle.sl_compile_pieces.specs.scopes.Forms.{Form, OnScope}
use Rattle.sl_compile_pieces.specs.declared.registers.TheConstants as reg
use Rattle.sl_compile_pieces.specs.inner.awards.Batches.{Between, Within, EndOfBatches}
use Rattle.sl_compile_pieces.specs.seats.Slots.{Slots}
use Rattle.sl_compile_pieces.specs.inner.seats.Filling.{IsReady}
use Rattle.sl_compile_pieces.specs.seats.Trees.{faulty, not_over}
use Rattle.sl_compile_pieces.proofs.seats.Refusing.{faulty_ends, not_over_achieves}
use Rattle.sl_compile_pieces.specs.nodes.Trees.{find_house, take_house}
use Rattle.sl_compile_pieces.specs.inner.nodes.Houses.{HasHouse, EndsAboveCap}
use Rattle.sl_compile_pieces.proofs.nodes.Found.{IsLeast, IsFound, grows_to, above_least, above_within, above_between}
use Rattle.sl_compile_pieces.proofs.nodes.SearchScope.{with_minima, search_arena, CanSearch, scope_is, minimum_each}
use Rattle.sl_compile_pieces.proofs.nodes.SearchSeats.{IsSearched, BatchBegun}
use Rattle.sl_compile_pieces.proofs.nodes.Search.{HasEnded, search_achieves}

module _ {c : CountingCode} {e : Election} {f : Form} {x : Slots} {name : List ℕ} {slot k : ℕ} {g : Group} {d : Divisor} {v m : List ℕ} {seats cap : ℕ} {before : State}
    (can : CanSearch c e f x name slot k g d v m seats cap before) (field : (i : ℕ) × InField v i) where
  abbrev Ended : List ℕ → State → Type 0
  Ended = EndOfBatches (search_arena e f g d v) cap (BatchBegun v m) (IsFound d v m)

  ends : {Q : State → Type 0} (s : State) → OnScope g.scope s → IsGrowth d v m seats cap AboveCap → Achieves c e (faulty f (with_minima x slot) end.Cap) s Q (EndsAboveCap x g d v m seats cap)
  ends s on above = faulty_ends can.ready.slots (scope_is can) s end.Cap on (record { above = above; is = refl })

  -- where a batch is under way, or something is missing
  unmet : (t : List ℕ) (s : State) → IsSearched e x g d v m seats before t s → Ended t s → 0 < s.registers reg.IN_BATCH + s.registers reg.TURNS → IsGrowth d v m seats cap AboveCap
  unmet t s h (Between settled none (inl all_given)) some = above_between d v m (minimum_each can) field.0 field.1 seats cap t settled (omega (arith, some, none, h.turns)) all_given
  unmet t s h (Between settled none (inr found)) some = absurd (omega (arith, some, none, h.turns, found.none_missing))
  unmet t s h (Within b peers given mid left more short all_given) some =
      above_within d v m (minimum_each can) field.0 field.1 seats cap b peers given t mid short (omega (arith, left, more)) all_given

  -- where neither is
  is_least : (t : List ℕ) (s : State) → IsSearched e x g d v m seats before t s → Ended t s → s.registers reg.IN_BATCH ≡ 0 → s.registers reg.TURNS ≡ 0 → IsLeast d v m t
  is_least t s h (Between settled none last) no_batch none_missing = h.least settled (sym h.turns ∙ none_missing)
  is_least t s h (Within b peers given mid left more short all_given) no_batch none_missing = absurd (omega (arith, more, no_batch))

  -- the amount grows to the house, if that is not above the cap
  grows : (t : List ℕ) (s : State) → IsSearched e x g d v m seats before t s → IsLeast d v m t
      → Achieves c e (Then (Line (Add reg.ALL_LEFT reg.NUMBER ∷ (Max reg.AMOUNT reg.ALL_LEFT ∷ []))) (not_over f (with_minima x slot) reg.AMOUNT cap end.Cap)) s
      (HasHouse e x g d v m seats cap before) (EndsAboveCap x g d v m seats cap)
  grows t s h least =
      let all : ℕ = min (s.registers reg.ALL_LEFT + s.registers reg.NUMBER) most in
      let house : ℕ = max (s.registers reg.AMOUNT) all in
      let two : State = with_register reg.AMOUNT house (with_register reg.ALL_LEFT all s) in
      goes_as {t = two}
      (not_over_achieves can.ready.slots (scope_is can) two reg.AMOUNT cap end.Cap (λ z. omega (arith, z)) h.on
      (λ over.
      let above : cap < max seats (outside_sum v m + sum t) = omega (arith, over, h.amount, h.all_left, h.number) in
      record { above = above_least d v m (minimum_each can) field.0 field.1 seats cap t least above; is = refl })
      (λ under.
      let is_house : house ≡ max seats (outside_sum v m + sum t) = omega (arith, h.amount, h.all_left, h.number) in
      search (grows_to d v m (minimum_each can) field.0 field.1 seats cap t house least is_house)))
      refl

  takes_house : (s : State) → HasEnded can s → Achieves c e (take_house f (with_minima x slot) cap) s (HasHouse e x g d v m seats cap before) (EndsAboveCap x g d v m seats cap)
  takes_house s after =
      let t : List ℕ = after.t in
      let h : IsSearched e x g d v m seats before t s = after.held in
      let two : State = with_register reg.FIRST_PASSING (min (s.registers reg.IN_BATCH + s.registers reg.TURNS) most) (with_register reg.FIRST_PASSING (s.registers reg.IN_BATCH) s) in
      line_first refl (line_first refl
      (line_over (then_achieves {Q = λ w. (w ≡ two) × (s.registers reg.IN_BATCH ≡ 0) × (s.registers reg.TURNS ≡ 0)}
      (if_zero (λ none. line_ends (refl, omega (arith, none), omega (arith, none))) (λ n some. ends two h.on (unmet t s h after.end (omega (arith, some)))))
      (λ w r. achieves_from r.0 (grows t two h (is_least t s h after.end r.1 r.2))))))

  finds_house : Achieves c e (find_house f (with_minima x slot) d cap) before (HasHouse e x g d v m seats cap before) (EndsAboveCap x g d v m seats cap)
  finds_house = then_achieves {Q = HasEnded can} (achieves_never (search_achieves can)) takes_house

-- where an entry has weight, and the minima sum to no more than the cap
pub houses_are_found : (c : CountingCode) (e : Election) (f : Form) (x : Slots) (name : List ℕ) (slot k : ℕ) (g : Group) (d : Divisor) (v m : List ℕ) (seats cap : ℕ) (state : State) →
    IsElection e → IsReady c e f x name k g v m seats state → x.minima ≡ Some slot → 0 < sum v → sum m ≤ cap → cap ≤ MAX_SEATS →
    Achieves c e (find_house f x d cap) state (HasHouse e x g d v m seats cap state) (EndsAboveCap x g d v m seats cap)
houses_are_found c e f x name slot k g d v m seats cap state election ready minima some enough few =
    let same : x ≡ with_minima x slot = λ z. record x { minima = minima z } in
    let can : CanSearch c e f x name slot k g d v m seats cap state = assumption
    (subst (λ (y : Slots). IsReady c e f y name k g v m seats state) same ready) in
    subst (λ (y : Slots). Achieves c e (find_house f y d cap) state (HasHouse e x g d v m seats cap state) (EndsAboveCap x g d v m seats cap)) (sym same) (finds_house can (some_less [] v some))

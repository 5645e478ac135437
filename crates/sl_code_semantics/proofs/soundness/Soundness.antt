-- No accepted code is ever stuck.
use Rattle.std.proofs.Common.{◌≡◌, ◌≢◌, false, ℕ, zero, suc, ◌+◌, ◌≤◌, IsTrue, IsSome, length, Option, Some, None, IsSomeAnd, slice_get, option_and_then, refl, sym, ap, subst, ◌∙◌, inl, inr, arith, add-one, rules}
use Rattle.std.specs.Bool.{⊤}
use Rattle.std.specs.Option.{option_map_or}
use Rattle.std.proofs.lemmas.Bool.{cases_lt}
use Rattle.std.proofs.lemmas.List.Elements.{All-nil}
use Rattle.std.proofs.lemmas.Option.{slice_get_within, none-some}
use Rattle.sl_law_meaning.specs.returns.Election.{Election, IsElection, lands_of, parties_of, wins_of, has_list}
use Rattle.sl_code_instructions.specs.Codes.{CountingCode}
use Rattle.sl_code_instructions.specs.declared.instr.Instr.{Instr}
use Rattle.sl_code_instructions.specs.declared.instr.Instr.TheVariants as op
use Rattle.sl_code_instructions.specs.declared.kinds.Kinds.{Kinds}
use Rattle.sl_code_instructions.specs.declared.operand.Ranking.TheVariants as ranking
use Rattle.sl_law_meaning.specs.declared.table.Placed.TheVariants as placed
use Rattle.sl_base_rankings.specs.Peers.{top, is_covered}
use Rattle.sl_base_rankings.specs.Lot.{drawn}
use Rattle.sl_code_semantics.specs.Kinds.{start_kinds, implies, party_cursor, land_cursor, win_cursor}
use Rattle.sl_code_instructions.specs.Rows.{target_of}
use Rattle.sl_code_semantics.specs.Leaves.{behind, carried}
use Rattle.sl_code_semantics.specs.WellKinded.{IsWellKinded, Stands, coming, declared_by, leads_well, context_of}
use Rattle.sl_code_semantics.specs.State.{State, start}
use Rattle.sl_code_semantics.specs.Effects.{Effect, Goes, Jumps, Ends, NoCase, effect, winner_at, with_party, with_land, with_win}
use Rattle.sl_code_semantics.specs.Fits.{FitsRecords, FitsStep, FitsWeight}
use Rattle.sl_code_semantics.specs.Runs.{Ending, Stuck, To, Over, Nowhere, Step, run, step, after_step}
use Rattle.sl_code_semantics.specs.Agrees.{Agrees, IsSafe}
use Rattle.sl_code_semantics.specs.Laws.{StartsAreSafe, LandsSafely, StepsSafely, SafeSteps, NeverStuck}
use Rattle.sl_code_semantics.proofs.soundness.Sets.{none_positive, none_set, set_covered}
use Rattle.sl_code_semantics.proofs.soundness.Keeping.{get_some, Keeps, keeps_table, keeps_records, Follows, follows_given, follows_positive, follows_either, agrees_implied, IsSound, need_parts}
use Rattle.sl_code_semantics.proofs.soundness.KeptRegisters.{registers_kept}
use Rattle.sl_code_semantics.proofs.soundness.KeptColumns.{cell_follows, columns_kept}
use Rattle.sl_code_semantics.proofs.soundness.KeptCursors.{none_for, next_follows, winner_here, party_follows, cursors_kept}
use Rattle.sl_code_semantics.proofs.soundness.KeptEntries.{table_there, share_follows}
use Rattle.sl_code_semantics.proofs.soundness.KeptEntries.{entry_follows as enters_follows}
use Rattle.sl_code_semantics.proofs.soundness.KeptTables.{is_ready, peers_follows, top_there, drawn_there, takes_follows, lot_follows}
use Rattle.sl_code_semantics.proofs.soundness.Fitting.{FitsEffect, fits_effect}
use Rattle.sl_code_semantics.proofs.runs.Stepping.{step_goes, step_jumps, step_ends}
use Rattle.sl_code_semantics.proofs.soundness.KeptRecords.{scope_follows, entry_follows, records_follows, win_there, placed_there, seats_follow}

-- ---- one instruction
module _ (c : CountingCode) (e : Election) (k : Kinds) (s : State) (h : Keeps e k s) (election : IsElection e) where
  ruleset following = (rules, registers_kept, columns_kept, cursors_kept, follows_positive, follows_given, follows_either, share_follows, peers_follows, keeps_table, All-nil)

  follows : (i : Instr) → IsSound c e k s i
  follows (op.Get r slot) n = cell_follows c e k s h (op.Get r slot) slot _ n.columns n.cursors (λ p. search following)
  follows (op.Store slot r) n = cell_follows c e k s h (op.Store slot r) slot _ n.columns n.cursors (λ p. search following)
  follows (op.Nparty t) n = next_follows e k s h (op.Nparty t) (parties_of e) s.party with_party ((set_covered k.cursors party_cursor n.cursors h.agrees.cursors).party refl) (λ j below. search following) (search following)
  follows (op.Nland t) n = next_follows e k s h (op.Nland t) (lands_of e) s.land with_land ((set_covered k.cursors land_cursor n.cursors h.agrees.cursors).land refl) (λ j below. search following) (search following)
  follows (op.Nwin t) n = next_follows e k s h (op.Nwin t) (wins_of e) s.win with_win ((set_covered k.cursors win_cursor n.cursors h.agrees.cursors).win refl) (λ j below. search following) (search following)
  follows (op.Wparty t) n = follows_given e k (op.Wparty t) _ (winner_at e s) _ (winner_here e k s h election n.cursors) (λ w is win. party_follows e k s h t w.party win.party)
  follows op.Wland n = follows_given e k op.Wland _ (winner_at e s) _ (winner_here e k s h election n.cursors) (λ w is win. search following)
  follows (op.Prio m r held) n =
      follows_positive e k (op.Prio m r held) (s.registers r) _ (h.agrees.positive r n.positive) (enters_follows c e k s h (op.Prio m r held) ranking.Quotients _ n.table n.cursors (λ u a. a))
  follows (op.Rest r) n = enters_follows c e k s h (op.Rest r) ranking.Remainders _ n.table n.cursors (λ u a. a)
  follows op.Lead n = enters_follows c e k s h op.Lead ranking.Remainders _ n.table n.cursors (λ u a. a)
  follows op.Take n =
      follows_given e k op.Take _ s.table _ (table_there is_ready k.table s.table n.table h.agrees.table) (λ t now_is known.
      takes_follows c e k s h t now_is known op.Take (top t.contents) (top_there c e k s h t now_is known) (λ u a. a))
  follows (op.Lot stage t) n =
      lot_follows c e k s h (op.Lot stage t) stage _ n.columns n.table (λ table now_is known lot.
      follows_either e k (op.Lot stage t) (is_covered lot table.contents) (Goes s) (Jumps s) (λ all. h) (λ some. (refl, h)))
  follows (op.Takelot stage) n =
      lot_follows c e k s h (op.Takelot stage) stage _ n.columns n.table (λ t now_is known lot.
      takes_follows c e k s h t now_is known (op.Takelot stage) (drawn lot t.contents) (drawn_there c e k s h t now_is known lot) (λ u a. a))
  follows (op.Emit stage scope number at) n = records_follows c e k s h (op.Emit stage scope number at) stage scope _ _ _ n.columns n.cursors n.table (λ u a. a)
  follows (op.Given stage scope number) n = records_follows c e k s h (op.Given stage scope number) stage scope _ _ _ n.columns n.cursors n.table (λ u a. a)
  follows (op.Weigh stage scope by r) n =
      follows_positive e k (op.Weigh stage scope by r) (s.registers r) _ (h.agrees.positive r n.positive)
      (scope_follows c e k s h (op.Weigh stage scope by r) stage scope _ n.columns n.cursors (λ at x.
      entry_follows c e k s h (op.Weigh stage scope by r) _ n.table (λ t index. keeps_records e k s h s.columns s.mark s.steps _ s.placed)))
  follows (op.Fault stage scope f) n = scope_follows c e k s h (op.Fault stage scope f) stage scope _ n.columns n.cursors (λ at x. tt)
  follows (op.Tie stage scope r) n =
      follows_given e k (op.Tie stage scope r) _ s.table _ (table_there is_ready k.table s.table n.table h.agrees.table) (λ t now_is known.
      follows_given e k (op.Tie stage scope r) _ (top t.contents) _ (top_there c e k s h t now_is known) (λ first is below.
      scope_follows c e k s h (op.Tie stage scope r) stage scope _ n.columns n.cursors (λ at x. tt)))
  follows op.Single n = follows_given e k op.Single _ s.win _ (win_there c e k s h n.cursors) (λ w is below. placed_there c e k s h w placed.Single)
  follows op.Seat n =
      follows_given e k op.Seat _ s.win _ (win_there c e k s h n.cursors) (λ w is below.
      follows_given e k op.Seat _ (slice_get e.wins w) _ (get_some e.wins w below) (λ winner at any. seats_follow c e k s h w (has_list e winner.land) winner.party))
  follows i n = search following

-- ---- from place to place
there_is : {A : Type 0} (o : Option A) → IsSomeAnd o (λ x. ⊤) → (x : A) × (o ≡ Some x)
there_is None h = absurd h
there_is (Some x) h = (x, refl)

-- where kinds reach a place, a state of which they are known is one of which those of the place are
stood : (s : State) (comes k : Kinds) (declared : Option Kinds) → Stands (Some comes) declared k → Agrees comes s → Agrees k s
stood s comes k None same h = subst (λ (x : Kinds). Agrees x s) (sym same) h
stood s comes k (Some d) both h = subst (λ (x : Kinds). Agrees x s) (sym both.0) (agrees_implied comes d s both.1 h)

-- a place has the kinds that are declared there
declared_is : (comes : Option Kinds) (d k : Kinds) → Stands comes (Some d) k → k ≡ d
declared_is None d k h = h
declared_is (Some x) d k h = h.0

-- where a jump leads
record Leads (k : Kinds) (there : Option Instr) : Type 0 where
  instr : Instr
  is : there ≡ Some instr
  declared : Kinds
  declares : declared_by instr ≡ Some declared
  implied : IsTrue (implies k declared)

leads_to : (k : Kinds) (there : Option Instr) → IsTrue (option_map_or (implies k) (option_and_then declared_by there) false) → Leads k there
leads_to k None h = cc
leads_to k (Some i) h = declared (declared_by i) refl h
  where
    declared : (o : Option Kinds) → declared_by i ≡ o → IsTrue (option_map_or (implies k) o false) → Leads k (Some i)
    declared None e t = cc
    declared (Some d) e t = record { instr = i; is = refl; declared = d; declares = e; implied = t }

module _ (c : CountingCode) (e : Election) (code : IsWellKinded c) (election : IsElection e) where
  -- what comes to a place
  abbrev comes_to : ℕ → Option Kinds
  comes_to = coming c.instrs (Some start_kinds) code.kinds

  came_safe : (p : ℕ) (k : Kinds) (s : State) → p ≤ length c.instrs → comes_to p ≡ Some k → Keeps e k s → FitsRecords (length c.stages) e s.steps s.weights → IsSafe c e p s
  came_safe p k s most comes h records =
      elim (cases_lt p (length c.instrs)) [
        | inl low ↦
            let here = there_is (slice_get c.instrs p) (get_some c.instrs p low) in
            let kinded = code.each p here.0 here.1 in
            let stands = subst (λ (o : Option Kinds). Stands o (declared_by here.0) (code.kinds p)) comes kinded.stands in
            let agrees = stood s k (code.kinds p) (declared_by here.0) stands h.agrees in
            record { code = code; election = election; instr = here.0; stands = here.1; agrees = agrees; range = h.range; records = records }
        | inr high ↦
            let end : length c.instrs ≡ p = omega arith in
            absurd (none-some k (sym (sym comes ∙ ap comes_to (sym end) ∙ code.halts)))
      ]

  module _ (p : ℕ) (i : Instr) (at : slice_get c.instrs p ≡ Some i) where
    next_safe : (s : State) → FitsRecords (length c.stages) e s.steps s.weights → IsSomeAnd (behind (code.kinds p) i) (λ k. Keeps e k s) → IsSafe c e (p + 1) s
    next_safe s records h = go (behind (code.kinds p) i) refl h
      where
        go : (o : Option Kinds) → behind (code.kinds p) i ≡ o → IsSomeAnd o (λ k. Keeps e k s) → IsSafe c e (p + 1) s
        go None same h = absurd h
        go (Some k) same h =
            let low = slice_get_within c.instrs p i at in
            let comes : comes_to (suc p) ≡ Some k = ap (option_and_then (behind (code.kinds p))) at ∙ same in
            rw add-one (came_safe (suc p) k s low comes h records)

    jump_safe : (s : State) → FitsRecords (length c.stages) e s.steps s.weights → IsSome (target_of i) → Keeps e (carried (code.kinds p) i) s → LandsSafely c e i s
    jump_safe s records there h = go (target_of i) refl there (code.each p i at).leads
      where
        k : Kinds
        k = carried (code.kinds p) i

        go : (o : Option ℕ) → target_of i ≡ o → IsSome o → IsTrue (leads_well (context_of c) k o) → LandsSafely c e i s
        go None same some leads = cc
        go (Some q) same some leads =
            let there = leads_to k (slice_get c.instrs q) leads in
            let kinded = code.each q there.instr there.is in
            let stands = subst (λ (o : Option Kinds). Stands (comes_to q) o (code.kinds q)) there.declares kinded.stands in
            let is = declared_is (comes_to q) there.declared (code.kinds q) stands in
            let agrees = subst (λ (x : Kinds). Agrees x s) (sym is) (agrees_implied k there.declared s there.implied h.agrees) in
            record {
              place = q;
              target = same;
              safe = record { code = code; election = election; instr = there.instr; stands = there.is; agrees = agrees; range = h.range; records = records };
            }

pub starts_are_safe : StartsAreSafe
starts_are_safe c e code election =
    came_safe c e code election 0 start_kinds start (omega arith) refl (record {
      agrees = record { positive = none_positive start.registers; cursors = none_set; table = tt };
      range = record { party = none_for _; land = none_for _; win = none_for _; table = none_for _ };
    }) (record { steps = All-nil (FitsStep (length c.stages) e); weights = All-nil (FitsWeight (length c.stages) e) })

-- what is kept, and what fits, where the effect is of one case
in_case : (e : Election) (k : Kinds) (i : Instr) (x y : Effect) → x ≡ y → Follows e k i x → Follows e k i y
in_case e k i x y same h = subst (λ (z : Effect). Follows e k i z) same h

fits_case : (c : CountingCode) (e : Election) (x y : Effect) → x ≡ y → FitsEffect c e x → FitsEffect c e y
fits_case c e x y same h = subst (FitsEffect c e) same h

pub safe_steps : SafeSteps
safe_steps c e p s safe =
    let code = safe.code in
    let k = code.kinds p in
    let i = safe.instr in
    let needs = need_parts c k i (code.each p i safe.stands).needs in
    let keeps : Keeps e k s = record { agrees = safe.agrees; range = safe.range } in
    let all = follows c e k s keeps safe.election i needs in
    let fits = fits_effect c e s safe.range safe.records i needs.columns in
    record {
      instr = i;
      stands = safe.stands;
      columns = needs.columns;
      may = record { registers = needs.registers; case = λ same. in_case e k i (effect c e i s) NoCase same all; range = safe.range };
      goes = λ t same. next_safe c e code safe.election p i safe.stands t (fits_case c e (effect c e i s) (Goes t) same fits) (in_case e k i (effect c e i s) (Goes t) same all);
      jumps = λ t same. let jump = in_case e k i (effect c e i s) (Jumps t) same all in jump_safe c e code safe.election p i safe.stands t (fits_case c e (effect c e i s) (Jumps t) same fits) jump.0 jump.1;
      ends = λ x same. fits_case c e (effect c e i s) (Ends x) same fits;
    }

-- ---- runs
module _ (c : CountingCode) (e : Election) where
  -- a step that reaches a safe place, or ends the run
  abbrev IsSafeStep : Step → Type 0
  IsSafeStep (To q t) = IsSafe c e q t
  IsSafeStep (Over x) = Unit {0}
  IsSafeStep Nowhere = ⊥

  safe_step : (p : ℕ) (s : State) → StepsSafely c e p s → IsSafeStep (step c e p s)
  safe_step p s next = case (effect c e next.instr s) refl
    where
      case : (x : Effect) → effect c e next.instr s ≡ x → IsSafeStep (step c e p s)
      case (Goes t) same = subst IsSafeStep (sym (step_goes c e p s next.instr next.stands t same)) (next.goes t same)
      case (Jumps t) same =
          let land = next.jumps t same in
          subst IsSafeStep (sym (step_jumps c e p s next.instr next.stands t land.place same land.target)) land.safe
      case (Ends x) same = subst IsSafeStep (sym (step_ends c e p s next.instr next.stands x same)) tt
      case NoCase same = absurd (next.may.case same)

  -- a run is not stuck after a safe step, if no run from a safe place is
  not_stuck : (x : Step) (rest : ℕ → State → Ending) → IsSafeStep x → ((q : ℕ) (t : State) → IsSafe c e q t → rest q t ≢ Stuck) → after_step x rest ≢ Stuck
  not_stuck (To q t) rest safe goes_on = goes_on q t safe
  not_stuck (Over x) rest safe goes_on = λ h. cc
  not_stuck Nowhere rest safe goes_on = absurd safe

  run_safe : (budget p : ℕ) (s : State) → IsSafe c e p s → run c e budget p s ≢ Stuck
  run_safe zero p s safe = λ h. cc
  run_safe (suc n) p s safe = not_stuck (step c e p s) (run c e n) (safe_step p s (safe_steps c e p s safe)) (run_safe n)

pub never_stuck : NeverStuck
never_stuck c e code election budget = run_safe c e budget 0 start (starts_are_safe c e code election)

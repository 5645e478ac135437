-- The column of the eligible parties: those that meet one of the conditions.
use Rattle.std.proofs.Common.{◌≡◌, ℕ, Bool, true, false, ◌||◌, [], ◌∷◌, Some, None, nat_le, count_by, refl, sym, ◌∙◌, arith, ◌≢◌, List, All, slice_get, ap}
use Rattle.std.specs.Prelude.{slice_index_or}
use Rattle.std.proofs.lemmas.Bool.{eq-eqb, ne_eqb, le-leb, lt-leb, or_from}
use Rattle.std.specs.List.{list_any}
use Rattle.std.proofs.lemmas.List.Elements.{All-head, All-tail}
use Rattle.sl_law_meaning.specs.declared.book.Cond.TheVariants as condition
use Rattle.sl_base_terms.specs.declared.shape.Shape.TheVariants as shape
use Rattle.sl_law_meaning.specs.returns.Election.{Election, IsElection}
use Rattle.sl_law_meaning.specs.returns.Facts.{is_of, meets, is_eligible}
use Rattle.sl_law_meaning.specs.declared.book.Cond.{Cond}
use Rattle.sl_code_instructions.specs.declared.instr.Instr.TheVariants.{Get}
use Rattle.sl_code_instructions.specs.declared.operand.Input.TheVariants as input
use Rattle.sl_code_instructions.specs.Codes.{CountingCode}
use Rattle.sl_code_semantics.specs.State.{State, with_register, with_column}
use Rattle.sl_code_semantics.specs.Effects.{one_if, input_of, with_party, with_win}
use Rattle.sl_code_semantics.proofs.effects.Registers.{get_does, zero_does, input_does}
use Rattle.sl_code_semantics.proofs.effects.Cursors.{winner_is}
use Rattle.sl_compile_plans.specs.declared.plan.Cursor.TheVariants as cursor
use Rattle.sl_compile_plans.specs.declared.plan.Test.TheVariants as test
use Rattle.sl_compile_plans.specs.Trees.{Tree, Line, Then, If, Each}
use Rattle.sl_compile_plans.specs.Achieves.{Achieves, Never}
use Rattle.sl_compile_plans.proofs.Rules.{then_achieves, if_zero, if_less, if_no_party, line_first, line_over, line_ends, achieves_so}
use Rattle.sl_compile_plans.proofs.KeepingRules.{achieves_kept, achieves_keeping}
use Rattle.sl_compile_plans.specs.Frames.{may_write_slot}
use Rattle.sl_compile_pieces.specs.facts.Trees.{FactSlots, cell, number, nothing, let_in, count_one, condition_tree, conditions_tree, eligible_tree}
use Rattle.sl_compile_pieces.specs.facts.Laws.{HasFactSlots, IsShare, EligibleAreTold}
use Rattle.sl_compile_pieces.proofs.facts.Cells.{LetIn, lets_in, stays_out, cell_written, cell_not_written, counts_at, counts_nowhere}
use Rattle.sl_compile_pieces.proofs.facts.Loops.{Flagged, parties_let_in, winners_counted}
use Rattle.sl_compile_pieces.proofs.facts.Winners.{flag_down, flag_up, party_is}
use Rattle.sl_compile_pieces.proofs.facts.Holding.{IsSilent, holds_parties}
use Rattle.sl_compile_pieces.proofs.facts.Votes.{valid_met}

-- ---- single conditions

module _ (c : CountingCode) (e : Election) (x : FactSlots) (slots : HasFactSlots c x) (so : ℕ → Bool) (s : State) (flagged : Flagged e x so s) where
  pub all_met : Achieves c e (condition_tree x condition.All) s (Flagged e x (λ p. so p || true)) Never
  all_met =
      parties_let_in c e x so (λ p. true) (let_in x) s refl (λ k other. rw (ne_eqb k x.eligible other) refl) flagged
      (λ p t less rest. lets_in c e x slots.eligible p (with_party (Some p) t) refl true refl)

  -- where the column of eligible parties is as it was
  still_flagged : (t : State) → ((q : ℕ) → t.columns x.eligible q ≡ s.columns x.eligible q) → Flagged e x so t
  still_flagged t same p less = same p ∙ flagged p less

  pub minority_met : Achieves c e (condition_tree x condition.Minority) s (Flagged e x (λ p. so p || slice_index_or e.minorities p false)) Never
  minority_met =
      let cells : ℕ → ℕ = input_of e input.Minority in
      let is_minority : ℕ → Bool = λ p. slice_index_or e.minorities p false in
      let s1 : State = with_column x.numbers cells s in
      let body : Tree = Then (Line (Get cell x.numbers ∷ [])) (If (test.Zero cell) nothing (let_in x)) in
      line_first (input_does c e s x.numbers shape.Party slots.numbers input.Minority) (line_over
      (parties_let_in c e x so is_minority body s1 refl (λ k other. rw (ne_eqb k x.eligible other) refl)
      (still_flagged s1 (λ q. cell_not_written s x.numbers cells x.eligible q (λ same. slots.apart (sym same))))
      (λ p u less rest.
      let v : State = with_party (Some p) u in
      let v1 : State = with_register cell (u.columns x.numbers p) v in
      let read : u.columns x.numbers p ≡ one_if (is_minority p) = rest.columns x.numbers p slots.apart ∙ cell_written s x.numbers cells p in
      line_first (get_does c e v x.numbers shape.Party slots.numbers cell p refl) (line_over
      (if_zero
      (λ zero. stays_out c e x slots.eligible p v1 refl (is_minority p) (flag_down (is_minority p) (sym read ∙ zero)))
      (λ n more. lets_in c e x slots.eligible p v1 refl (is_minority p) (flag_up (is_minority p) n (sym read ∙ more))))))))

  -- ---- winners

  module _ (is : IsElection e) (least : ℕ) where
    abbrev has_winners : ℕ → Bool
    has_winners p = nat_le least (count_by (is_of p) e.wins)

    -- of one party, once its winners are counted
    party_judged : (p : ℕ) (u : State) → u.columns x.numbers p ≡ count_by (is_of p) e.wins → u.registers number ≡ least → u.party ≡ Some p
        → Achieves c e (Then (Line (Get cell x.numbers ∷ [])) (If (test.Less cell number) nothing (let_in x))) u (LetIn x p u (has_winners p)) Never
    party_judged p u read bound on =
        let v1 : State = with_register cell (u.columns x.numbers p) u in
        let won : ℕ = count_by (is_of p) e.wins in
        line_first (get_does c e u x.numbers shape.Party slots.numbers cell p on) (line_over
        (if_less
        (λ less. stays_out c e x slots.eligible p v1 on (has_winners p) (lt-leb least won (omega (arith, less, read, bound))))
        (λ other. lets_in c e x slots.eligible p v1 on (has_winners p) (le-leb least won (omega (arith, other, read, bound))))))

    numbers_counted : (t : State) → ((q : ℕ) → t.columns x.numbers q ≡ 0)
        → Achieves c e (Each cursor.Win (If test.NoParty nothing (Line (count_one x.numbers)))) t (λ u. (q : ℕ) → u.columns x.numbers q ≡ count_by (is_of q) e.wins) Never
    numbers_counted t zeros =
        winners_counted c e is x.numbers is_of (If test.NoParty nothing (Line (count_one x.numbers))) t refl (λ k other. rw (ne_eqb k x.numbers other) refl) zeros
        (λ j w u there kept small.
        let u0 : State = with_win (Some j) u in
        if_no_party {w = w} (winner_is e u0 j w refl there)
        (λ none. counts_nowhere c e x.numbers (λ q. is_of q w) u (with_party None u0) refl (λ q. party_is w None q none))
        (λ p of.
        counts_at c e x.numbers (λ q. is_of q w) u (with_party (Some p) u0) refl shape.Party p slots.numbers refl (small p) (party_is w (Some p) p of ∙ eq-eqb p p refl)
        (λ q other. party_is w (Some p) q of ∙ ne_eqb p q (λ same. other (sym same)))))

    pub winners_met : Achieves c e (condition_tree x (condition.Winners least)) s (Flagged e x (λ p. so p || has_winners p)) Never
    winners_met =
        let s1 : State = with_column x.numbers (λ q. 0) s in
        let body : Tree = Then (Line (Get cell x.numbers ∷ [])) (If (test.Less cell number) nothing (let_in x)) in
        line_first (zero_does c e s x.numbers shape.Party slots.numbers) (line_over
        (then_achieves (achieves_kept (numbers_counted s1 (λ q. cell_written s x.numbers (λ q. 0) q))) (λ u h.
        let u1 : State = with_register number least u in
        let same : (q : ℕ) → u.columns x.eligible q ≡ s.columns x.eligible q =
        λ q. h.1.columns x.eligible (rw (ne_eqb x.eligible x.numbers (λ same. slots.apart (sym same))) refl) q ∙ cell_not_written s x.numbers (λ q. 0) x.eligible q (λ same. slots.apart (sym same)) in
        line_first refl (line_over
        (parties_let_in c e x so has_winners body u1 refl (λ k other. rw (ne_eqb k x.eligible other) refl) (still_flagged u1 same)
        (λ p w less rest. party_judged p (with_party (Some p) w) (rest.columns x.numbers p slots.apart ∙ h.0 p) (rest.registers number refl) refl))))))

-- ---- all conditions

-- the parties let in by the conditions after those that were met before
either_one : (so now rest : Bool) → (so || now) || rest ≡ so || (now || rest)
either_one true now rest = refl
either_one false now rest = refl

-- the slots that a plan of conditions may write
module _ (x : FactSlots) (k : ℕ) (eligible : k ≢ x.eligible) (votes : k ≢ x.votes) (numbers : k ≢ x.numbers) where
  condition_keeps : (one : Cond) → may_write_slot (condition_tree x one) k ≡ false
  condition_keeps (condition.Valid share per) = rw (ne_eqb k x.eligible eligible, ne_eqb k x.votes votes) refl
  condition_keeps (condition.Winners least) = rw (ne_eqb k x.eligible eligible, ne_eqb k x.numbers numbers) refl
  condition_keeps condition.Minority = rw (ne_eqb k x.eligible eligible, ne_eqb k x.numbers numbers) refl
  condition_keeps condition.All = rw (ne_eqb k x.eligible eligible) refl

  conditions_keep : (conditions : List Cond) → may_write_slot (conditions_tree x conditions) k ≡ false
  conditions_keep [] = refl
  conditions_keep (one ∷ rest) = rw (condition_keeps one, conditions_keep rest) refl

  eligible_keeps : (conditions : List Cond) → may_write_slot (eligible_tree x conditions) k ≡ false
  eligible_keeps conditions = rw (ne_eqb k x.eligible eligible, conditions_keep conditions) refl

module _ (x : FactSlots) where
  condition_silent : (one : Cond) → IsSilent (condition_tree x one)
  condition_silent (condition.Valid share per) = record { steps = refl; weights = refl; seats = refl }
  condition_silent _ = record { steps = refl; weights = refl; seats = refl }

  conditions_silent : (conditions : List Cond) → IsSilent (conditions_tree x conditions)
  conditions_silent [] = record { steps = refl; weights = refl; seats = refl }
  conditions_silent (one ∷ rest) =
      let first : IsSilent (condition_tree x one) = condition_silent one in
      let others : IsSilent (conditions_tree x rest) = conditions_silent rest in
      record { steps = or_from _ _ first.steps others.steps; weights = or_from _ _ first.weights others.weights; seats = or_from _ _ first.seats others.seats }

module _ (c : CountingCode) (e : Election) (x : FactSlots) (slots : HasFactSlots c x) (is : IsElection e) where
  votes_apart : x.votes ≢ x.eligible
  votes_apart same = let both : Some shape.List ≡ Some shape.Party = sym slots.votes ∙ ap (slice_get c.slots) same ∙ slots.eligible in cc both

  condition_met : (so : ℕ → Bool) (one : Cond) (s : State) → IsShare one → Flagged e x so s → Achieves c e (condition_tree x one) s (Flagged e x (λ p. so p || meets e p one)) Never
  condition_met so (condition.Valid share per) s few flagged = valid_met c e x slots is share per few so s votes_apart flagged
  condition_met so (condition.Winners least) s few flagged = winners_met c e x slots so s flagged is least
  condition_met so condition.Minority s few flagged = minority_met c e x slots so s flagged
  condition_met so condition.All s few flagged = all_met c e x slots so s flagged

  conditions_met : (conditions : List Cond) (so : ℕ → Bool) (s : State) → All IsShare conditions → Flagged e x so s
      → Achieves c e (conditions_tree x conditions) s (Flagged e x (λ p. so p || list_any (meets e p) conditions)) Never
  conditions_met [] so s few flagged = line_ends (λ p less. flagged p less ∙ ap one_if (sym (or_none (so p))))
    where
      or_none : (b : Bool) → b || false ≡ b
      or_none true = refl
      or_none false = refl
  conditions_met (one ∷ rest) so s few flagged =
      then_achieves (condition_met so one s (All-head IsShare one rest few) flagged) (λ t h.
      achieves_so (conditions_met rest (λ p. so p || meets e p one) t (All-tail IsShare one rest few) h)
      (λ u k p less. k p less ∙ ap one_if (either_one (so p) (meets e p one) (list_any (meets e p) rest))))

pub eligible_are_told : EligibleAreTold
eligible_are_told c e x conditions s is slots few =
    let s0 : State = with_column x.eligible (λ q. 0) s in
    let silent : IsSilent (conditions_tree x conditions) = conditions_silent x conditions in
    achieves_keeping
    (line_first (zero_does c e s x.eligible shape.Party slots.eligible) (line_over
    (conditions_met c e x slots is conditions (λ p. false) s0 few (λ p less. cell_written s x.eligible (λ q. 0) p))))
    (λ t h kept. record {
      holds = holds_parties e (t.columns x.eligible) (λ party. one_if (is_eligible conditions e party)) h;
      columns = λ k q eligible votes numbers. kept.columns k (eligible_keeps x k eligible votes numbers conditions) q;
      steps = kept.steps_kept silent.steps;
      weights = kept.weights_kept silent.weights;
      placed = kept.placed silent.seats;
    })

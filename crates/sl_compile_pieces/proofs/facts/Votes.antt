-- The parties with so many of all valid votes.
use Rattle.std.proofs.Common.{◌≡◌, ◌≢◌, ℕ, ◌+◌, ◌*◌, ◌<◌, ◌≤◌, min, Bool, ◌||◌, List, [], ◌∷◌, Option, Some, None, get_or, sum_by, if◌then◌else◌, refl, sym, ap, ◌∙◌, arith}
use Rattle.std.specs.List.{All, range_with_len}
use Rattle.std.proofs.lemmas.Bool.{ne_eqb, le-leb, lt-leb}
use Rattle.std.proofs.Math.Nat.{mul_comm}
use Rattle.std.proofs.lemmas.Nat.{mul-le}
use Rattle.std.proofs.lemmas.List.Elements.{All-nil}
use Rattle.std.proofs.lemmas.Option.{none-some}
use Rattle.sl_base_quotients.specs.declared.limits.TheConstants.{MAX_WEIGHT, MAX_VOTES, MAX_LANDS}
use Rattle.sl_law_meaning.specs.declared.book.Cond.TheVariants as condition
use Rattle.sl_law_meaning.specs.declared.book.Number.{Number}
use Rattle.sl_base_terms.specs.declared.shape.Shape.TheVariants as shape
use Rattle.sl_law_meaning.specs.declared.limits.TheConstants.{MAX_PER}
use Rattle.sl_law_meaning.specs.declared.election.ListVotes.{ListVotes}
use Rattle.sl_law_meaning.specs.returns.Votes.{valid_in}
use Rattle.sl_law_meaning.specs.returns.Election.{Election, IsElection, IsCell, lands_of, parties_of, list_at}
use Rattle.sl_law_meaning.specs.returns.Facts.{valid_votes, all_valid_votes, meets}
use Rattle.sl_code_instructions.specs.declared.instr.Instr.{Instr}
use Rattle.sl_code_instructions.specs.declared.instr.Instr.TheVariants.{Set, Add, Mul, Get}
use Rattle.sl_code_instructions.specs.declared.operand.Input.TheVariants as input
use Rattle.sl_code_instructions.specs.Codes.{CountingCode}
use Rattle.sl_code_semantics.specs.State.{State, with_register, with_column}
use Rattle.sl_code_semantics.specs.Effects.{most, input_of, with_party, with_land}
use Rattle.sl_code_semantics.proofs.effects.Registers.{get_does, input_does}
use Rattle.sl_code_semantics.proofs.effects.Cursors.{both_are}
use Rattle.sl_code_semantics.proofs.effects.Storing.{register_same, register_other}
use Rattle.sl_compile_plans.specs.declared.plan.Cursor.TheVariants as cursor
use Rattle.sl_compile_plans.specs.declared.plan.Test.TheVariants as test
use Rattle.sl_compile_plans.specs.Trees.{Tree, Line, Then, If, Each}
use Rattle.sl_compile_plans.specs.Achieves.{Achieves, Never}
use Rattle.sl_compile_plans.proofs.Rules.{line_ends, line_goes, then_achieves, if_less, line_first, line_over, achieves_so}
use Rattle.sl_compile_plans.proofs.KeepingRules.{achieves_kept, each_keeping, achieves_keeping}
use Rattle.sl_compile_pieces.specs.facts.Trees.{FactSlots, all_votes, own_votes, cell, number, nothing, let_in, condition_tree}
use Rattle.sl_compile_pieces.specs.facts.Laws.{HasFactSlots}
use Rattle.sl_compile_pieces.proofs.facts.Counts.{range_more, range_within, sum_turned, all_read}
use Rattle.sl_compile_pieces.proofs.facts.Holding.{list_told}
use Rattle.sl_compile_pieces.proofs.facts.Cells.{cell_written, cell_not_written, LetIn, lets_in, stays_out}
use Rattle.sl_compile_pieces.proofs.facts.Loops.{Flagged, parties_let_in}

-- ---- bounds

small_cell : (o : Option ListVotes) → IsCell o → valid_in o ≤ MAX_VOTES
small_cell None is = omega arith
small_cell (Some v) is = (is v refl).valid

-- the valid votes of a party in a Land
abbrev votes_in : Election → ℕ → ℕ → ℕ
votes_in e l p = valid_in (list_at e l p)

module _ (e : Election) (is : IsElection e) where
  list_small : (l p : ℕ) → votes_in e l p ≤ MAX_VOTES
  list_small l p = small_cell (list_at e l p) (all_read IsCell (get_or e.cells l []) p None (λ v none. absurd (none-some v none)) (all_read (All IsCell) e.cells l [] (All-nil IsCell) is.votes))

  own_small : (p : ℕ) → valid_votes e p ≤ MAX_LANDS * MAX_VOTES
  own_small p = omega (arith, range_within (λ l. votes_in e l p) MAX_VOTES (lands_of e) (λ l. list_small l p), is.lands)

  all_small : all_valid_votes e ≤ MAX_WEIGHT
  all_small = omega (arith, range_within (valid_votes e) (MAX_LANDS * MAX_VOTES) (parties_of e) own_small, is.parties)

  -- by Land first, and by party first
  all_by_land : sum_by (λ l. sum_by (votes_in e l) (range_with_len 0 (parties_of e))) (range_with_len 0 (lands_of e)) ≡ all_valid_votes e
  all_by_land = sum_turned (votes_in e) (range_with_len 0 (lands_of e)) (range_with_len 0 (parties_of e))

-- ---- sums

module _ (c : CountingCode) (e : Election) (x : FactSlots) (slots : HasFactSlots c x) (is : IsElection e) where
  -- the column of votes
  abbrev HoldsVotes : State → Type 0
  HoldsVotes t = (l p : ℕ) → l < lands_of e → p < parties_of e → t.columns x.votes (l * parties_of e + p) ≡ votes_in e l p

  abbrev add_votes : ℕ → List Instr
  add_votes r = Get cell x.votes ∷ (Add r cell ∷ [])

  -- a register that holds a sum, as far as it holds so much, has the votes of the list added
  votes_added : (r a l p : ℕ) (s : State) → r ≢ cell → l < lands_of e → p < parties_of e → HoldsVotes s → s.land ≡ Some l → s.party ≡ Some p → s.registers r ≡ min a most
      → Achieves c e (Line (add_votes r)) s (λ t. t.registers r ≡ min (a + votes_in e l p) most) Never
  votes_added r a l p s other in_lands less held land party total =
      let place : ℕ = l * parties_of e + p in
      let v : ℕ = s.columns x.votes place in
      let u : State = with_register cell v s in
      let kept : u.registers r ≡ s.registers r = register_other s cell v r other in
      let sum : min (u.registers r + u.registers cell) most ≡ min (a + votes_in e l p) most = omega (arith, kept, total) in
      line_goes (get_does c e s x.votes shape.List slots.votes cell place (both_are s.land s.party (λ l p. l * parties_of e + p) l p land party))
      (line_goes refl (line_ends (register_same u r (min (u.registers r + u.registers cell) most) ∙ sum)))

  own_summed : (p : ℕ) (s : State) → p < parties_of e → HoldsVotes s → s.party ≡ Some p → s.registers own_votes ≡ 0
      → Achieves c e (Each cursor.Land (Line (add_votes own_votes))) s (λ t. t.registers own_votes ≡ min (valid_votes e p) most) Never
  own_summed p s less held on zero =
      let so_far : ℕ → ℕ = λ l. sum_by (λ l. votes_in e l p) (range_with_len 0 l) in
      each_keeping (λ l t. (t.registers own_votes ≡ min (so_far l) most) × HoldsVotes t × (t.party ≡ Some p)) refl
      ((let none : 0 ≡ min 0 most = omega arith in zero ∙ none), held, on)
      (λ l t in_lands inv.
      achieves_keeping (votes_added own_votes (so_far l) l p (with_land (Some l) t) (λ same. absurd (omega (arith, same))) in_lands less inv.1 refl inv.2 inv.0)
      (λ u h kept. (
        h ∙ ap (λ n. min n most) (sym (range_more (λ l. votes_in e l p) l)),
        (λ k q below within. kept.columns x.votes refl (k * parties_of e + q) ∙ inv.1 k q below within),
        kept.party refl ∙ inv.2,
      )))
      (λ t inv. inv.0)

  abbrev row_sum : ℕ → ℕ
  row_sum l = sum_by (votes_in e l) (range_with_len 0 (parties_of e))

  abbrev lands_sum : ℕ → ℕ
  lands_sum l = sum_by row_sum (range_with_len 0 l)

  land_summed : (l : ℕ) (s : State) → l < lands_of e → HoldsVotes s → s.registers all_votes ≡ min (lands_sum l) most
      → Achieves c e (Each cursor.Party (Line (add_votes all_votes))) (with_land (Some l) s) (λ t. t.registers all_votes ≡ min (lands_sum (l + 1)) most) Never
  land_summed l s in_lands held total =
      let so_far : ℕ → ℕ = λ p. lands_sum l + sum_by (votes_in e l) (range_with_len 0 p) in
      each_keeping (λ p t. (t.registers all_votes ≡ min (so_far p) most) × HoldsVotes t × (t.land ≡ Some l)) refl
      ((let none : lands_sum l ≡ lands_sum l + 0 = omega arith in total ∙ ap (λ n. min n most) none), held, refl)
      (λ p t less inv.
      let next : so_far p + votes_in e l p ≡ so_far (p + 1) = omega (arith, range_more (votes_in e l) p) in
      achieves_keeping (votes_added all_votes (so_far p) l p (with_party (Some p) t) (λ same. absurd (omega (arith, same))) in_lands less inv.1 inv.2 refl inv.0)
      (λ u h kept. (h ∙ ap (λ n. min n most) next, (λ k q below within. kept.columns x.votes refl (k * parties_of e + q) ∙ inv.1 k q below within), kept.land refl ∙ inv.2)))
      (λ t inv. inv.0 ∙ ap (λ n. min n most) (sym (range_more row_sum l)))

  all_summed : (s : State) → HoldsVotes s → s.registers all_votes ≡ 0
      → Achieves c e (Each cursor.Land (Each cursor.Party (Line (add_votes all_votes)))) s (λ t. t.registers all_votes ≡ all_valid_votes e) Never
  all_summed s held zero =
      each_keeping (λ l t. (t.registers all_votes ≡ min (lands_sum l) most) × HoldsVotes t) refl
      ((let none : 0 ≡ min 0 most = omega arith in zero ∙ none), held)
      (λ l t in_lands inv.
      achieves_keeping (land_summed l t in_lands inv.1 inv.0)
      (λ u h kept. (h, λ k q below within. kept.columns x.votes refl (k * parties_of e + q) ∙ inv.1 k q below within)))
      (λ t inv. (let all : lands_sum (lands_of e) ≡ all_valid_votes e = all_by_land e is in omega (arith, inv.0, all, all_small e is)))

  -- ---- the plan

  module _ (share : Number) (per : ℕ) (few : (share.value ≤ MAX_PER) × (per ≤ MAX_PER)) where
    abbrev has_share : ℕ → Bool
    has_share p = meets e p (condition.Valid share per)

    abbrev own_times : Tree
    own_times = Line (Set number per ∷ (Mul own_votes number ∷ []))

    -- of one party, once its votes are summed
    party_judged : (p : ℕ) (s : State) → s.party ≡ Some p → s.registers all_votes ≡ all_valid_votes e * share.value → s.registers own_votes ≡ min (valid_votes e p) most
        → Achieves c e (Then own_times (If (test.Less own_votes all_votes) nothing (let_in x))) s (LetIn x p s (has_share p)) Never
    party_judged p s on all own =
        let s2 : State = with_register own_votes (min (s.registers own_votes * per) most) (with_register number per s) in
        let summed : s.registers own_votes ≡ valid_votes e p = omega (arith, own, own_small e is p) in
        let least : ℕ = share.value * all_valid_votes e in
        let has : ℕ = per * valid_votes e p in
        let within : has ≤ MAX_PER * (MAX_LANDS * MAX_VOTES) = mul-le per (valid_votes e p) MAX_PER (MAX_LANDS * MAX_VOTES) few.1 (own_small e is p) in
        let times : s.registers own_votes * per ≡ has = ap (λ n. n * per) summed ∙ mul_comm (valid_votes e p) per in
        line_first refl (line_first refl (line_over
        (if_less
        (λ less. stays_out c e x slots.eligible p s2 on (has_share p) (lt-leb least has (omega (arith, less))))
        (λ other. lets_in c e x slots.eligible p s2 on (has_share p) (le-leb least has (omega (arith, other)))))))

    abbrev one_party : Tree
    one_party = Then (Line (Set own_votes 0 ∷ [])) (Then (Each cursor.Land (Line (add_votes own_votes))) (Then own_times (If (test.Less own_votes all_votes) nothing (let_in x))))

    party_counted : (p : ℕ) (s : State) → p < parties_of e → HoldsVotes s → s.party ≡ Some p → s.registers all_votes ≡ all_valid_votes e * share.value
        → Achieves c e one_party s (LetIn x p s (has_share p)) Never
    party_counted p s less held on all =
        line_first refl (line_over
        (then_achieves (achieves_kept (own_summed p (with_register own_votes 0 s) less held on refl)) (λ u h.
        achieves_so (party_judged p u (h.1.party refl ∙ on) (h.1.registers all_votes refl ∙ all) h.0)
        (λ z put.
        let same : (q : ℕ) → u.columns x.eligible q ≡ s.columns x.eligible q = λ q. h.1.columns x.eligible refl q in
        record { here = put.here ∙ ap (λ n. if has_share p then 1 else n) (same p); others = λ q other. put.others q other ∙ same q }))))

    pub valid_met : (so : ℕ → Bool) (s : State) → x.votes ≢ x.eligible → Flagged e x so s
        → Achieves c e (condition_tree x (condition.Valid share per)) s (Flagged e x (λ p. so p || has_share p)) Never
    valid_met so s apart flagged =
        let cells : ℕ → ℕ = input_of e input.Valid in
        let s2 : State = with_register all_votes 0 (with_column x.votes cells s) in
        let held : HoldsVotes s2 = λ l p in_lands less. cell_written s x.votes cells (l * parties_of e + p) ∙ list_told e l p less valid_in in_lands in
        let still : Flagged e x so s2 = λ p less. cell_not_written s x.votes cells x.eligible p (λ same. apart (sym same)) ∙ flagged p less in
        line_first (input_does c e s x.votes shape.List slots.votes input.Valid) (line_first refl (line_over
        (then_achieves (achieves_kept (all_summed s2 held refl)) (λ u h.
        let product : ℕ = min (u.registers all_votes * share.value) most in
        let u2 : State = with_register all_votes product (with_register number share.value u) in
        let within : all_valid_votes e * share.value ≤ MAX_WEIGHT * MAX_PER = mul-le (all_valid_votes e) share.value MAX_WEIGHT MAX_PER (all_small e is) few.0 in
        let all : product ≡ all_valid_votes e * share.value = omega (arith, ap (λ n. n * share.value) h.0, within) in
        line_first refl (line_first refl (line_over
        (parties_let_in c e x so has_share one_party u2 refl (λ k other. rw (ne_eqb k x.eligible other) refl)
        (λ p less. h.1.columns x.eligible refl p ∙ still p less)
        (λ p w less rest.
        party_counted p (with_party (Some p) w) less
        (λ l q in_lands below. rest.columns x.votes (l * parties_of e + q) apart ∙ h.1.columns x.votes refl (l * parties_of e + q) ∙ held l q in_lands below)
        refl (rest.registers all_votes refl ∙ all)))))))))

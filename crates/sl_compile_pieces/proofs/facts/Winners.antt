-- The columns of winners: on lists, outside them, and without a party.
use Rattle.std.proofs.Common.{◌≡◌, ◌≢◌, ℕ, suc, ◌+◌, ◌*◌, ◌/◌, ◌%◌, ◌<◌, Bool, true, false, not, ◌&&◌, List, [], ◌∷◌, Option, Some, None, is_none, nat_eq, slice_get, count_by, if◌then◌else◌, refl, sym, ap, ◌∙◌, inl, inr, arith}
use Rattle.std.proofs.lemmas.Bool.{cases_Bool, and_parts, and_from, and_left, and_right, eqb-true, eq-eqb, ne_eqb}
use Rattle.std.proofs.lemmas.Nat.{div-add-mod'}
use Rattle.sl_law_meaning.specs.declared.book.Cond.{Cond}
use Rattle.sl_base_terms.specs.declared.shape.Shape.{Shape}
use Rattle.sl_base_terms.specs.declared.shape.Shape.TheVariants as shape
use Rattle.sl_law_meaning.specs.declared.fact.Fact.TheVariants as facts
use Rattle.sl_law_meaning.specs.declared.election.Win.{Win}
use Rattle.sl_law_meaning.specs.returns.Election.{Election, IsElection, parties_of, has_list}
use Rattle.sl_law_meaning.specs.returns.Facts.{is_of, is_in, is_eligible, takes_part, is_on_list, list_winners, outside_winners, independent_winners}
use Rattle.sl_law_meaning.proofs.FactReadings.{lists_are_named}
use Rattle.sl_law_meaning.proofs.meaning.PlacedWinners.{count_if, when_both}
use Rattle.sl_code_instructions.specs.declared.instr.Instr.TheVariants.{Zero, Wland}
use Rattle.sl_code_instructions.specs.Codes.{CountingCode}
use Rattle.sl_code_semantics.specs.State.{State, with_register, with_column}
use Rattle.sl_code_semantics.specs.Effects.{most, one_if, winner_at, with_party, with_land, with_win}
use Rattle.sl_code_semantics.proofs.effects.Registers.{get_does, zero_does}
use Rattle.sl_code_semantics.proofs.effects.Cursors.{both_are, winner_is, wland_does}
use Rattle.sl_compile_plans.specs.declared.plan.Cursor.TheVariants as cursor
use Rattle.sl_compile_plans.specs.declared.plan.Test.TheVariants as test
use Rattle.sl_compile_plans.specs.Trees.{Tree, Line, Then, If, Each}
use Rattle.sl_compile_plans.specs.Frames.{may_move}
use Rattle.sl_compile_plans.specs.Achieves.{Achieves, Never}
use Rattle.sl_compile_plans.proofs.Rules.{if_zero, if_no_list, if_no_party, line_first, line_over, achieves_so}
use Rattle.sl_compile_pieces.proofs.scopes.Scopes.{land_again, party_again}
use Rattle.sl_compile_pieces.specs.columns.Columns.{GetsColumn}
use Rattle.sl_compile_pieces.specs.facts.Trees.{FactSlots, number, count_one, nothing, by_winner, winners_tree, outside_tree, alone_tree}
use Rattle.sl_compile_pieces.specs.facts.Laws.{HasFactSlots}
use Rattle.sl_compile_pieces.proofs.facts.Holding.{holds_lands, holds_lists, WritesOnly, gets_column}
use Rattle.sl_compile_pieces.proofs.facts.Cells.{cell_written, cell_not_written, CountsWhere, counts_at, counts_nowhere}
use Rattle.sl_compile_pieces.proofs.facts.Loops.{Flagged, winners_counted}

pub flag_down : (b : Bool) → one_if b ≡ 0 → b ≡ false
flag_down true h = absurd (omega (arith, h))
flag_down false h = refl

pub flag_up : (b : Bool) (n : ℕ) → one_if b ≡ suc n → b ≡ true
flag_up true n h = refl
flag_up false n h = absurd (omega (arith, h))

-- ---- the winner's party

pub party_is : (w : Win) (o : Option ℕ) (n : ℕ) → w.party ≡ o → is_of n w ≡ is_of n (record w { party = o })
party_is w o n h = ap (λ (p : Option ℕ). is_of n (record w { party = p })) h

pub on_list_is : (conditions : List Cond) (e : Election) (w : Win) (o : Option ℕ) → w.party ≡ o → is_on_list conditions e w ≡ is_on_list conditions e (record w { party = o })
on_list_is conditions e w o h = ap (λ (p : Option ℕ). is_on_list conditions e (record w { party = p })) h

in_land : (w : Win) (b : Bool) → b ≡ true → is_in w.land w && b ≡ true
in_land w b h = and_from (is_in w.land w) b (eq-eqb w.land w.land refl) h

in_no_other : (w : Win) (b : Bool) (land : ℕ) → land ≢ w.land → is_in land w && b ≡ false
in_no_other w b land other = and_left (is_in land w) b (ne_eqb w.land land (λ is. other (sym is)))

other_pair : (parties l p q : ℕ) → q ≢ l * parties + p → nat_eq l (q / parties) && nat_eq p (q % parties) ≡ false
other_pair parties l p q other =
    elim (cases_Bool (nat_eq l (q / parties) && nat_eq p (q % parties))) [
      | inr fails ↦ fails
      | inl holds ↦ (
          let parts = and_parts (nat_eq l (q / parties)) (nat_eq p (q % parties)) holds in
          let same : l * parties + p ≡ q =
          ap (λ n. n * parties + p) (eqb-true l (q / parties) parts.0) ∙ ap (λ n. q / parties * parties + n) (eqb-true p (q % parties) parts.1) ∙ div-add-mod' q parties in
          absurd (other (sym same)))
    ]

-- ---- which winners a cell counts

module _ (conditions : List Cond) (e : Election) where
  abbrev counts_in_list : ℕ → Win → Bool
  counts_in_list q w = takes_part conditions e (q / parties_of e) (q % parties_of e) && (is_in (q / parties_of e) w && is_of (q % parties_of e) w)

  abbrev winners_of : ℕ → ℕ → ℕ
  winners_of land party = if takes_part conditions e land party then count_by (λ w. is_in land w && is_of party w) e.wins else 0

  abbrev counts_outside : ℕ → Win → Bool
  counts_outside land w = is_in land w && not (is_on_list conditions e w)

  abbrev counts_alone : ℕ → Win → Bool
  counts_alone land w = is_in land w && is_none w.party

  module _ (w : Win) (p : ℕ) (of : w.party ≡ Some p) (part : takes_part conditions e w.land p ≡ true) where
    is_listed : is_on_list conditions e w ≡ true
    is_listed = on_list_is conditions e w (Some p) of ∙ part

    listed_not_outside : (land : ℕ) → counts_outside land w ≡ false
    listed_not_outside land = and_right (is_in land w) (not (is_on_list conditions e w)) (ap not is_listed)

    module _ (less : p < parties_of e) where
      listed_there : counts_in_list (w.land * parties_of e + p) w ≡ true
      listed_there =
          let land : (w.land * parties_of e + p) / parties_of e ≡ w.land = land_again e w.land p less in
          ap (λ l. takes_part conditions e l ((w.land * parties_of e + p) % parties_of e) && (is_in l w && is_of ((w.land * parties_of e + p) % parties_of e) w)) land
          ∙ ap (λ n. takes_part conditions e w.land n && (is_in w.land w && is_of n w)) (party_again e w.land p less)
          ∙ and_from (takes_part conditions e w.land p) (is_in w.land w && is_of p w) part (in_land w (is_of p w) (party_is w (Some p) p of ∙ eq-eqb p p refl))

      listed_nowhere_else : (q : ℕ) → q ≢ w.land * parties_of e + p → counts_in_list q w ≡ false
      listed_nowhere_else q other =
          and_right (takes_part conditions e (q / parties_of e) (q % parties_of e)) (is_in (q / parties_of e) w && is_of (q % parties_of e) w)
          (ap (λ b. is_in (q / parties_of e) w && b) (party_is w (Some p) (q % parties_of e) of) ∙ other_pair (parties_of e) w.land p q other)

  -- a winner who is on no list
  unlisted : (w : Win) (o : Option ℕ) → w.party ≡ o → is_on_list conditions e w ≡ false → (q : ℕ) → counts_in_list q w ≡ false
  unlisted w None of off q =
      let l : ℕ = q / parties_of e in
      let n : ℕ = q % parties_of e in
      and_right (takes_part conditions e l n) (is_in l w && is_of n w) (and_right (is_in l w) (is_of n w) (party_is w None n of))
  unlisted w (Some p) of off q =
      let l : ℕ = q / parties_of e in
      let n : ℕ = q % parties_of e in
      ap (λ b. takes_part conditions e l n && (is_in l w && b)) (party_is w (Some p) n of)
      ∙ sym (when_both (is_eligible conditions e) e l n w p)
      ∙ and_right (nat_eq w.land l && nat_eq p n) (takes_part conditions e w.land p) (sym (on_list_is conditions e w (Some p) of) ∙ off)

  counted_there : (land party : ℕ) → party < parties_of e → count_by (counts_in_list (land * parties_of e + party)) e.wins ≡ winners_of land party
  counted_there land party less =
      let q : ℕ = land * parties_of e + party in
      ap (λ l. count_by (λ w. takes_part conditions e l (q % parties_of e) && (is_in l w && is_of (q % parties_of e) w)) e.wins) (land_again e land party less)
      ∙ ap (λ n. count_by (λ w. takes_part conditions e land n && (is_in land w && is_of n w)) e.wins) (party_again e land party less)
      ∙ count_if (takes_part conditions e land party) (λ w. is_in land w && is_of party w) e.wins

  outside_there : (w : Win) → is_on_list conditions e w ≡ false → counts_outside w.land w ≡ true
  outside_there w off = in_land w (not (is_on_list conditions e w)) (ap not off)

-- ---- the plans

module _ (c : CountingCode) (e : Election) (x : FactSlots) (slots : HasFactSlots c x) (conditions : List Cond) (is : IsElection e) where
  part_within : (l p : ℕ) → takes_part conditions e l p ≡ true → p < parties_of e
  part_within l p part = (lists_are_named e l p is (and_parts (is_eligible conditions e p) (has_list e l p) part).1).1

  -- the plan for winners on lists finds the cursors on the list, and the one for others the Land's
  pub by_winner_achieves : {on_list outside : Tree} {Q : State → Type 0} (w : Win) (s : State) → winner_at e s ≡ Some w → Flagged e x (is_eligible conditions e) s
      → ((p : ℕ) (t : State) → w.party ≡ Some p → takes_part conditions e w.land p ≡ true → t.columns ≡ s.columns → t.placed ≡ s.placed → t.win ≡ s.win → t.land ≡ Some w.land
      → t.party ≡ Some p → Achieves c e on_list t Q Never)
      → ((t : State) → is_on_list conditions e w ≡ false → t.columns ≡ s.columns → t.placed ≡ s.placed → t.win ≡ s.win → t.land ≡ Some w.land → Achieves c e outside t Q Never)
      → Achieves c e (by_winner x on_list outside) s Q Never
  by_winner_achieves w s winner flagged on off =
      let u : State = with_land (Some w.land) s in
      line_first (wland_does c e s w winner) (line_over
      (if_no_party {w = w} winner
      (λ none. off (with_party None u) (on_list_is conditions e w None none) refl refl refl refl)
      (λ p of.
      let v : State = with_party (Some p) u in
      if_no_list {l = w.land} {p = p} refl refl
      (λ missing. off v (on_list_is conditions e w (Some p) of ∙ and_right (is_eligible conditions e p) (has_list e w.land p) missing) refl refl refl refl)
      (λ listed.
      let less : p < parties_of e = (lists_are_named e w.land p is listed).1 in
      let flag : s.columns x.eligible p ≡ one_if (is_eligible conditions e p) = flagged p less in
      let v1 : State = with_register number (s.columns x.eligible p) v in
      line_first (get_does c e v x.eligible shape.Party slots.eligible number p refl) (line_over
      (if_zero
      (λ zero. off v1 (on_list_is conditions e w (Some p) of ∙ and_left (is_eligible conditions e p) (has_list e w.land p) (flag_down (is_eligible conditions e p) (sym flag ∙ zero))) refl refl refl refl)
      (λ n more. on p v1 of (and_from (is_eligible conditions e p) (has_list e w.land p) (flag_up (is_eligible conditions e p) n (sym flag ∙ more)) listed) refl refl refl refl refl)))))))

  -- a column of zeros, in which the winners are counted one after another
  counted_winners : (slot : ℕ) (at : Shape) (test : ℕ → Win → Bool) (body : Tree) (s : State) → slice_get c.slots slot ≡ Some at
      → may_move body cursor.Win ≡ false → WritesOnly slot body
      → ((j : ℕ) (w : Win) (t : State) → slice_get e.wins j ≡ Some w → ((k q : ℕ) → k ≢ slot → t.columns k q ≡ s.columns k q) → ((q : ℕ) → t.columns slot q < most)
      → Achieves c e body (with_win (Some j) t) (CountsWhere slot (λ q. test q w) t) Never)
      → Achieves c e (Then (Line (Zero slot ∷ [])) (Each cursor.Win body)) s (λ t. (q : ℕ) → t.columns slot q ≡ count_by (test q) e.wins) Never
  counted_winners slot at test body s known free only turn =
      line_first (zero_does c e s slot at known) (line_over
      (winners_counted c e is slot test body (with_column slot (λ q. 0) s) free only (λ q. cell_written s slot (λ q. 0) q)
      (λ j w u there kept small. turn j w u there (λ k q other. kept k q other ∙ cell_not_written s slot (λ q. 0) k q other) small)))

  module _ (s : State) where
    pub alone_are_told : Achieves c e (alone_tree x) s (GetsColumn e shape.Land (x.of facts.Independents) (independent_winners conditions e) s) Never
    alone_are_told =
        let slot : ℕ = x.of facts.Independents in
        let counts : ℕ → Win → Bool = counts_alone conditions e in
        gets_column shape.Land slot (independent_winners conditions e)
        (achieves_so
        (counted_winners slot shape.Land counts (Then (Line (Wland ∷ [])) (If test.NoParty (Line (count_one slot)) nothing)) s (slots.facts facts.Independents) refl (λ k other. rw (ne_eqb k slot other) refl)
        (λ j w t there kept small.
        let t0 : State = with_win (Some j) t in
        let winner : winner_at e t0 ≡ Some w = winner_is e t0 j w refl there in
        let u : State = with_land (Some w.land) t0 in
        line_first (wland_does c e t0 w winner) (line_over
        (if_no_party {w = w} winner
        (λ none.
        counts_at c e slot (λ q. counts q w) t (with_party None u) refl shape.Land w.land (slots.facts facts.Independents) refl (small w.land)
        (in_land w (is_none w.party) (ap is_none none)) (in_no_other w (is_none w.party)))
        (λ p of. counts_nowhere c e slot (λ q. counts q w) t (with_party (Some p) u) refl (λ q. and_right (is_in q w) (is_none w.party) (ap is_none of)))))))
        (λ t cells. holds_lands e (t.columns slot) (λ land. count_by (counts land) e.wins) (λ q less. cells q)))
        (λ k other. rw (ne_eqb k slot other) refl) (record { steps = refl; weights = refl; seats = refl })

    module _ (flagged : Flagged e x (is_eligible conditions e) s) where
      flagged_in : (slot j : ℕ) (t : State) → slot ≢ x.eligible → ((k q : ℕ) → k ≢ slot → t.columns k q ≡ s.columns k q)
          → Flagged e x (is_eligible conditions e) (with_win (Some j) t)
      flagged_in slot j t apart kept p less = kept x.eligible p (λ is. apart (sym is)) ∙ flagged p less

      pub outside_are_told : (x.of facts.Outside) ≢ x.eligible → Achieves c e (outside_tree x) s (GetsColumn e shape.Land (x.of facts.Outside) (outside_winners conditions e) s) Never
      outside_are_told apart =
          let slot : ℕ = x.of facts.Outside in
          let counts : ℕ → Win → Bool = counts_outside conditions e in
          gets_column shape.Land slot (outside_winners conditions e)
          (achieves_so
          (counted_winners slot shape.Land counts (by_winner x nothing (Line (count_one slot))) s (slots.facts facts.Outside) refl (λ k other. rw (ne_eqb k slot other) refl)
          (λ j w t there kept small.
          let t0 : State = with_win (Some j) t in
          by_winner_achieves w t0 (winner_is e t0 j w refl there) (flagged_in slot j t apart kept)
          (λ p u of part columns placed win land party. counts_nowhere c e slot (λ q. counts q w) t u columns (listed_not_outside conditions e w p of part))
          (λ u off columns placed win land.
          counts_at c e slot (λ q. counts q w) t u columns shape.Land w.land (slots.facts facts.Outside) land (small w.land) (outside_there conditions e w off) (in_no_other w (not (is_on_list conditions e w))))))
          (λ t cells. holds_lands e (t.columns slot) (λ land. count_by (counts land) e.wins) (λ q less. cells q)))
          (λ k other. rw (ne_eqb k slot other) refl) (record { steps = refl; weights = refl; seats = refl })

      pub winners_are_told : (x.of facts.Winners) ≢ x.eligible → Achieves c e (winners_tree x) s (GetsColumn e shape.List (x.of facts.Winners) (list_winners conditions e) s) Never
      winners_are_told apart =
          let slot : ℕ = x.of facts.Winners in
          let counts : ℕ → Win → Bool = counts_in_list conditions e in
          gets_column shape.List slot (list_winners conditions e)
          (achieves_so
          (counted_winners slot shape.List counts (by_winner x (Line (count_one slot)) nothing) s (slots.facts facts.Winners) refl (λ k other. rw (ne_eqb k slot other) refl)
          (λ j w t there kept small.
          let t0 : State = with_win (Some j) t in
          by_winner_achieves w t0 (winner_is e t0 j w refl there) (flagged_in slot j t apart kept)
          (λ p u of part columns placed win land party.
          let place : ℕ = w.land * parties_of e + p in
          let less : p < parties_of e = part_within w.land p part in
          counts_at c e slot (λ q. counts q w) t u columns shape.List place (slots.facts facts.Winners) (both_are u.land u.party (λ l n. l * parties_of e + n) w.land p land party) (small place)
          (listed_there conditions e w p of part less) (listed_nowhere_else conditions e w p of part less))
          (λ u off columns placed win land. counts_nowhere c e slot (λ q. counts q w) t u columns (unlisted conditions e w w.party refl off))))
          (λ t cells. holds_lists e (t.columns slot) (winners_of conditions e)
          (λ land party in_lands in_parties. cells (land * parties_of e + party) ∙ counted_there conditions e land party in_parties)))
          (λ k other. rw (ne_eqb k slot other) refl) (record { steps = refl; weights = refl; seats = refl })

-- All winners are seen: those of the list of the amount's number enter the table.
use Rattle.std.proofs.Common.{◌≡◌, ℕ, ◌+◌, ◌*◌, ◌<◌, ◌≢◌, Bool, false, true, List, [], length, Option, Some, None, slice_get, refl, sym, ap, subst, ◌∙◌, inl, inr, arith}
use Rattle.std.specs.Option.{ForSome}
use Rattle.std.proofs.lemmas.Bool.{false_from_ne_true}
use Rattle.std.proofs.lemmas.Nat.{same_from_place}
use Rattle.std.proofs.lemmas.Option.{same_Some, slice_get_cases}
use Rattle.sl_base_terms.specs.declared.shape.Shape.TheVariants as shape
use Rattle.sl_law_meaning.specs.declared.election.Win.{Win}
use Rattle.sl_law_meaning.specs.returns.Election.{Election, IsElection, lands_of, parties_of, wins_of, has_list}
use Rattle.sl_code_instructions.specs.Codes.{CountingCode}
use Rattle.sl_code_semantics.specs.State.{State, with_register}
use Rattle.sl_code_semantics.specs.Effects.{with_party, with_land, with_win}
use Rattle.sl_code_semantics.proofs.effects.Registers.{get_does}
use Rattle.sl_code_semantics.proofs.effects.Cursors.{winner_is, wland_does}
use Rattle.sl_compile_plans.specs.declared.plan.Cursor.TheVariants as cursor
use Rattle.sl_compile_plans.specs.Trees.{Each}
use Rattle.sl_compile_plans.specs.Achieves.{Achieves, Never}
use Rattle.sl_compile_plans.proofs.Rules.{line_ends, if_less, if_no_party, line_first, line_over}
use Rattle.sl_compile_plans.proofs.KeepingRules.{wins_keeping}
use Rattle.sl_compile_pieces.specs.declared.registers.TheConstants as reg
use Rattle.sl_compile_pieces.specs.covers.Trees.{CoverSlots, see_winner, of_pair, enter_winner}
use Rattle.sl_compile_pieces.specs.covers.Covering.{HasCoverSlots}
use Rattle.sl_compile_pieces.proofs.covers.Pairs.{pair_is}
use Rattle.sl_compile_pieces.proofs.covers.Winners.{of_list, of_list_by, IsWinnerOf, is_winner, each_winner, says_winner, won, front_none, front_all}
use Rattle.sl_compile_pieces.proofs.covers.Seatable.{is_win}
use Rattle.sl_compile_pieces.proofs.covers.Contested.{is_contested, contested_parts, number_of, number_alone}
use Rattle.sl_compile_pieces.proofs.covers.Entering.{AreRead, AreEntered, Entered, table_with, not_entered, enters}
use Rattle.sl_compile_pieces.proofs.facts.Holding.{place_within}

module _ (c : CountingCode) (e : Election) (x : CoverSlots) (eligible : ℕ → Bool) (base : List ℕ) (l : ℕ × ℕ) (is : IsElection e) (slots : HasCoverSlots c x) (in_land : l.0 < lands_of e)
    (in_party : l.1 < parties_of e) (contested : is_contested e eligible base (l.0 * parties_of e + l.1) ≡ true) where
  abbrev says : ℕ × Win → Bool
  says = of_list eligible e l

  abbrev Seen : ℕ → State → Type 0
  Seen = Entered c e x eligible base l

  abbrev place : ℕ
  place = l.0 * parties_of e + l.1

  -- a contested list has a winner, so its party is eligible and has that list
  some_winner : (y : ℕ × Win) × IsWinnerOf eligible e l y
  some_winner =
      elim (slice_get_cases (won eligible e l) 0).1 [
        | inl found ↦ (found.0, each_winner eligible e l 0 found.0 found.2)
        | inr past ↦
            absurd (let none = past.0 in
            let fewer = (contested_parts e eligible base place contested).1 in
            omega (arith, none, fewer, ap (λ pair. length (won eligible e pair)) (pair_is e l.0 l.1 in_party)))
      ]

  module _ (j : ℕ) (w : Win) (at : slice_get e.wins j ≡ Some w) (t : State) (h : Seen j t) where
    -- a winner who is only looked at, and is not of the list
    passed_by : (u : State) → says (j, w) ≡ false → u.columns ≡ t.columns → u.registers reg.AMOUNT ≡ t.registers reg.AMOUNT → u.table ≡ t.table →
        u.registers reg.TOTAL ≡ t.registers reg.TOTAL → u.registers reg.LEFT ≡ t.registers reg.LEFT → Seen (j + 1) u
    passed_by u not = not_entered c e x eligible base l j w at t u h not

    abbrev on_land : State
    on_land = with_land (Some w.land) (with_win (Some j) t)

    module _ (p : ℕ) (some : w.party ≡ Some p) (within : p < parties_of e) where
      abbrev cell : ℕ
      cell = w.land * parties_of e + p

      abbrev at_cell : State
      at_cell = with_party (Some p) on_land

      -- the number of the winner's list
      abbrev number : ℕ
      number = t.columns x.numbers cell

      abbrev looked : State
      looked = with_register reg.WEIGHT number at_cell

      numbered : number ≡ number_of e eligible base cell
      numbered = h.read.numbers cell (place_within e w.land p within (is_win c e x eligible is slots j w at).land)

      -- of the list
      same_pair : number ≡ t.registers reg.AMOUNT → Achieves c e (enter_winner x) looked (Seen (j + 1)) Never
      same_pair same =
          let places : cell ≡ place = number_alone e eligible base place cell contested (sym numbered ∙ same ∙ h.amount) in
          let both : (w.land ≡ l.0) × (p ≡ l.1) = same_from_place w.land p l.0 l.1 (parties_of e) within in_party places in
          let winner = some_winner.1 in
          let may : eligible p ≡ true = ap eligible both.1 ∙ winner.is_eligible in
          let listed : has_list e w.land p ≡ true = (λ z. has_list e (both.0 z) (both.1 z)) ∙ winner.listed in
          enters c e x eligible base l j w at is slots in_land in_party t looked h (says_winner eligible e l j w p some both.1 both.0 may listed) refl refl refl refl (ap Some both.1)
          (ap Some both.0) refl

      -- or of another one
      other_pair : number ≢ t.registers reg.AMOUNT → Seen (j + 1) looked
      other_pair far =
          passed_by looked
          (false_from_ne_true (says (j, w)) (λ yes'.
          let winner = is_winner eligible e l (j, w) at yes' in
          let land : w.land ≡ l.0 = winner.land in
          let party : p ≡ l.1 = same_Some p l.1 (sym some ∙ winner.party) in
          let numbers : number_of e eligible base cell ≡ number_of e eligible base place = (λ z. number_of e eligible base (land z * parties_of e + party z)) in
          far (numbered ∙ numbers ∙ sym h.amount)))
          refl refl refl refl refl

      sees_pair : Achieves c e (of_pair x) at_cell (Seen (j + 1)) Never
      sees_pair =
          line_first (get_does c e at_cell x.numbers shape.List slots.numbers reg.WEIGHT cell refl)
          (line_over (if_less {r = reg.WEIGHT} {q = reg.AMOUNT} (λ less. line_ends (other_pair (λ same. omega (arith, less, same))))
          (λ high. if_less {r = reg.AMOUNT} {q = reg.WEIGHT} (λ more. line_ends (other_pair (λ same. omega (arith, more, same)))) (λ low. same_pair (omega (arith, high, low))))))

    sees : Achieves c e (see_winner x) (with_win (Some j) t) (Seen (j + 1)) Never
    sees =
        line_first (wland_does c e (with_win (Some j) t) w (winner_is e (with_win (Some j) t) j w refl at))
        (line_over (if_no_party (winner_is e on_land j w refl at)
        (λ none. line_ends (passed_by (with_party None on_land) (of_list_by eligible e l j w None none) refl refl refl refl refl))
        (λ p some. sees_pair p some (subst (λ (o : Option ℕ). ForSome o (λ q. q < parties_of e)) some (is_win c e x eligible is slots j w at).party p refl))))

  -- from an empty table on
  pub winners_enter : (t : State) → AreRead e x eligible base t.columns → t.registers reg.AMOUNT ≡ number_of e eligible base (l.0 * parties_of e + l.1) → t.table ≡ Some (table_with []) →
      t.registers reg.TOTAL ≡ 0 → Achieves c e (Each cursor.Win (see_winner x)) t (AreEntered e x eligible base l (wins_of e) (won eligible e l)) Never
  winners_enter t read amount table total =
      let first : AreEntered e x eligible base l 0 [] t =
      record { read = read; amount = amount; table = table; total = total; few = omega arith; left = λ some. absurd (omega (arith, some)) } in
      wins_keeping Seen refl
      (subst (λ ys. AreEntered e x eligible base l 0 ys t) (sym (front_none eligible e l)) first)
      (λ j w u at h. sees j w at u h)
      (λ u h. subst (λ ys. AreEntered e x eligible base l (wins_of e) ys u) (front_all eligible e l) h)

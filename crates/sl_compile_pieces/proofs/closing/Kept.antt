-- Under `keep` every winner is placed, on a list or as a single; a list has the larger of its base and its winners, and all of them sit.
use Rattle.std.proofs.Common.{◌≡◌, ℕ, ◌+◌, Bool, true, [], ◌∷◌, Some, slice_get, if◌then◌else◌, refl, sym, ap, ◌∙◌, arith, ◌-◌, ◌*◌, ◌<◌, ◌≤◌, max, slice_index, map, ap₂, subst}
use Rattle.std.proofs.lemmas.Bool.{and_parts}
use Rattle.std.proofs.lemmas.Option.{slice_get_within, get_or_from_slice_get}
use Rattle.std.proofs.lemmas.List.{length-map, get_or-map}
use Rattle.sl_base_quotients.specs.declared.limits.TheConstants.{MAX_SEATS}
use Rattle.sl_law_meaning.specs.declared.election.Win.{Win}
use Rattle.sl_law_meaning.specs.declared.table.Placed.{Placed}
use Rattle.sl_law_meaning.specs.declared.table.Placed.TheVariants as placed
use Rattle.sl_law_meaning.specs.book.Trees.{BookTree}
use Rattle.sl_law_meaning.specs.returns.Election.{Election, IsElection, has_list, lands_of, parties_of}
use Rattle.sl_law_meaning.specs.returns.Facts.{is_eligible, list_winners}
use Rattle.sl_law_meaning.specs.meaning.Seating.{kept_place, kept_seats, keep_table}
use Rattle.sl_law_meaning.specs.declared.book.Pairing.TheVariants as pairings
use Rattle.sl_law_meaning.specs.declared.fact.Fact.TheVariants as facts
use Rattle.sl_law_meaning.specs.declared.book.Seating.{Seating}
use Rattle.sl_law_meaning.specs.declared.book.Seating.TheVariants as seating
use Rattle.sl_base_terms.specs.declared.shape.Shape.TheVariants as shape
use Rattle.sl_law_meaning.specs.declared.table.Outcome.TheVariants as outcome
use Rattle.sl_law_meaning.specs.meaning.Means.{Known, IsSeated, IsEnd}
use Rattle.sl_law_meaning.proofs.meaning.PlacedWinners.{kept_direct}
use Rattle.sl_law_meaning.proofs.meaning.TypedColumns.{winners_typed}
use Rattle.sl_code_instructions.specs.declared.instr.Instr.TheVariants.{Seat, Single}
use Rattle.sl_code_instructions.specs.Codes.{CountingCode}
use Rattle.sl_code_semantics.specs.State.{State, with_place, End}
use Rattle.sl_code_semantics.specs.Effects.{with_win, one_if}
use Rattle.sl_code_semantics.proofs.effects.Cursors.{winner_is}
use Rattle.sl_code_semantics.proofs.effects.Records.{seat_does, single_does}
use Rattle.sl_compile_plans.specs.Trees.{Line}
use Rattle.sl_compile_plans.specs.Achieves.{Achieves, Never}
use Rattle.sl_compile_plans.proofs.Rules.{line_ends, line_goes}
use Rattle.sl_compile_plans.proofs.KeepingRules.{achieves_keeping, wins_keeping}
use Rattle.sl_compile_pieces.specs.facts.Trees.{by_winner}
use Rattle.sl_compile_pieces.specs.facts.Laws.{HasFactSlots}
use Rattle.sl_compile_pieces.proofs.facts.Loops.{Flagged}
use Rattle.sl_compile_pieces.proofs.facts.Winners.{on_list_is, by_winner_achieves}
use Rattle.sl_compile_pieces.proofs.covers.Singles.{ArePlaced as PlacedSoFar, placed_next}
use Rattle.sl_compile_pieces.specs.exprs.Slots.{fact_slots, winners_slot, HasBookSlots}
use Rattle.sl_compile_pieces.specs.closing.Trees.{place_kept, base_slot, final_seats, seating_pieces}
use Rattle.sl_compile_pieces.proofs.facts.Holding.{place_within, party_held}
use Rattle.sl_compile_pieces.proofs.columns.Cells.{still_holds}
use Rattle.sl_compile_pieces.proofs.exprs.Following.{AllAchieve, all_one}
use Rattle.sl_compile_pieces.specs.closing.Closing.{BeginsClosing}
use Rattle.sl_compile_pieces.proofs.closing.Rules.{all_first, goes_on}
use Rattle.sl_compile_pieces.proofs.closing.Cells.{IsMade, pair_made}
use Rattle.sl_compile_pieces.proofs.closing.Bases.{HasBase, seats_small}
use Rattle.sl_compile_pieces.proofs.closing.Seated.{HasSeated, places_are}

-- ---- the winners

-- all winners have their places, and nothing else is changed but registers and cursors
pub record ArePlaced (b : BookTree) (e : Election) (before after : State) : Type 0 where
  pub places : (n : ℕ) (w : Win) → slice_get e.wins n ≡ Some w → after.placed n ≡ kept_place b e w
  pub columns : (slot q : ℕ) → after.columns slot q ≡ before.columns slot q
  pub steps : after.steps ≡ before.steps
  pub weights : after.weights ≡ before.weights

module _ (c : CountingCode) (b : BookTree) (e : Election) (is : IsElection e) (slots : HasFactSlots c fact_slots) where
  abbrev eligible : ℕ → Bool
  eligible = is_eligible b.eligible e

  -- the first winners have their places, and the eligible parties are still stored
  record FirstPlaced (start : State) (j : ℕ) (t : State) : Type 0 where
    places : PlacedSoFar e (λ y. kept_place b e y.1) (λ y. start.placed y.0) j t
    flagged : Flagged e fact_slots eligible t

  module _ (start : State) (j : ℕ) (w : Win) (at : slice_get e.wins j ≡ Some w) (s : State) (h : FirstPlaced start j s) where
    -- by a plan that places him and leaves the columns
    placed_by : (where_to : Placed) (t : State) → t.columns ≡ s.columns → t.placed ≡ s.placed → where_to ≡ kept_place b e w → FirstPlaced start (j + 1) (with_place j where_to t)
    placed_by where_to t columns same right = record {
      places = placed_next e (λ y. kept_place b e y.1) (λ y. start.placed y.0) j w where_to s t at h.places same right;
      flagged = λ p less. ap (λ (f : ℕ → ℕ → ℕ). f fact_slots.eligible p) columns ∙ h.flagged p less;
    }

    one_placed : Achieves c e (by_winner fact_slots (Line (Seat ∷ [])) (Line (Single ∷ []))) (with_win (Some j) s) (FirstPlaced start (j + 1)) Never
    one_placed =
        by_winner_achieves c e fact_slots slots b.eligible is w (with_win (Some j) s) (winner_is e (with_win (Some j) s) j w refl at) h.flagged
        (λ p t of part columns same win land party.
        let listed : has_list e w.land p ≡ true = (and_parts (eligible p) (has_list e w.land p) part).1 in
        let right : placed.OnList ≡ kept_place b e w = ap (λ (x : Bool). if x then placed.OnList else placed.Single) (sym (on_list_is b.eligible e w (Some p) of ∙ part)) in
        line_goes (seat_does c e t j win w at p of listed) (line_ends (placed_by placed.OnList t columns same right)))
        (λ t off columns same win land.
        line_goes (single_does c e t j win) (line_ends (placed_by placed.Single t columns same (ap (λ (x : Bool). if x then placed.OnList else placed.Single) (sym off)))))

  every_one : (s : State) → Flagged e fact_slots eligible s → Achieves c e place_kept s (λ t. (n : ℕ) (w : Win) → slice_get e.wins n ≡ Some w → t.placed n ≡ kept_place b e w) Never
  every_one s flagged =
      wins_keeping (FirstPlaced s) refl
      (record { places = record { first = λ n w at less. absurd (omega (arith, less)); rest = λ n w at high. refl }; flagged = flagged })
      (λ j w t at h. one_placed s j w at t h)
      (λ t h n w at. h.places.first n w at (slice_get_within e.wins n w at))

  pub winners_placed : (s : State) → Flagged e fact_slots eligible s → Achieves c e place_kept s (ArePlaced b e s) Never
  winners_placed s flagged =
      achieves_keeping (every_one s flagged)
      (λ t h kept. record { places = h; columns = λ slot q. kept.columns slot refl q; steps = kept.steps_kept refl; weights = kept.weights_kept refl })

-- ---- the table

module _ (c : CountingCode) (b : BookTree) (e : Election) (k : Known) (before s : State) (is : IsElection e) (slots : HasBookSlots c k.types)
    (begins : BeginsClosing b e k before s) (h : HasBase c b e k b.last s) (keeps : b.last.seating ≡ seating.Keep) where
  abbrev from : ℕ
  from = base_slot k.types b.last.base

  -- the book means the table of those who are kept
  kept_end : IsEnd b e k (outcome.Table (keep_table b e h.values k.records))
  kept_end = search
      (subst (λ (x : Seating). IsSeated b e x h.values k.records (outcome.Table (keep_table b e h.values k.records))) (sym keeps) refl)

  -- after the larger column, in state t, and the winners, in state u
  kept_seated : (t u : State) → IsMade e max from winners_slot final_seats s t → ArePlaced b e t u → HasSeated b e k s u
  kept_seated t u g p =
      let winners = begins.behind.known.facts facts.Winners in
      record {
        seats = kept_seats b e h.values;
        places = map (kept_place b e) e.wins;
        means = kept_end;
        cells = λ land party in_lands in_parties.
            let place : ℕ = land * parties_of e + party in
            let within : place < lands_of e * parties_of e = place_within e land party in_parties in_lands in
            p.columns final_seats place ∙ g.cells place within ∙ ap₂ max (h.holds.at place within) (winners.at place within);
        placed = places_are e u (map (kept_place b e) e.wins) (length-map e.wins (kept_place b e)) (λ n w at less.
            get_or-map (kept_place b e) e.wins n w placed.Unseated less ∙ ap (kept_place b e) (get_or_from_slice_get e.wins n w w at) ∙ sym (p.places n w at));
        left = λ land party there. ap (λ (m : ℕ). kept_seats b e h.values land party - m) (kept_direct b e land party there.in_lands there.in_parties);
        few = λ land party in_lands in_parties.
            let place : ℕ = land * parties_of e + party in
            let within : place < lands_of e * parties_of e = place_within e land party in_parties in_lands in
            let won_few : slice_index (list_winners b.eligible e) place ≤ MAX_SEATS = seats_small e (list_winners b.eligible e) (winners_typed b.eligible e is) place within in
            omega (arith, won_few);
        winners = still_holds e shape.List (s.columns winners_slot) (u.columns winners_slot) (list_winners b.eligible e)
            (λ q. p.columns winners_slot q ∙ g.changes.columns winners_slot q (λ same. omega (arith, same))) winners;
        steps = p.steps ∙ g.changes.steps;
        weights = p.weights ∙ g.changes.weights;
        columns = λ slot q high. p.columns slot q ∙ g.changes.columns slot q (λ same. omega (arith, high, same));
      }

  -- the eligible parties are stored after the larger column
  flagged_then : (t : State) → IsMade e max from winners_slot final_seats s t → Flagged e fact_slots (is_eligible b.eligible e) t
  flagged_then t g party less =
      g.changes.columns fact_slots.eligible party (λ same. omega (arith, same))
      ∙ party_held e (s.columns fact_slots.eligible) (λ p. one_if (is_eligible b.eligible e p)) begins.flags party less

  pub kept_all : {E : End → Type 0} → AllAchieve c e (seating_pieces from seating.Keep) s (HasSeated b e k s) E
  kept_all =
      all_first
      (goes_on (pair_made c e from winners_slot final_seats s h.slot (slots.facts.facts facts.Winners) (slots.passing_are 0 shape.List (omega arith)) (λ same. omega (arith, same)) pairings.Larger) (λ t g. g))
      (λ t g. all_one (goes_on (winners_placed c b e is slots.facts t (flagged_then t g)) (λ u p. kept_seated t u g p)))

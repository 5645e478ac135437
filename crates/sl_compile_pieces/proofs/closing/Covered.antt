-- Under `cover` a list has its base and a choice of winners for its seats, or the run ends with the first tie.
use Rattle.std.proofs.Common.{◌≡◌, ℕ, ◌+◌, ◌*◌, ◌<◌, ◌≤◌, Bool, min, List, [], length, map, get_or, Option, Some, slice_get, slice_index, sym, ap, subst, ◌∙◌, arith}
use Rattle.std.specs.Prelude.{zip, filter_map, flat_map, option_map, unwrap_or}
use Rattle.std.specs.List.{enumerate_from}
use Rattle.std.proofs.lemmas.List.{length-map, get_or-map}
use Rattle.std.proofs.lemmas.List.FromFn.{length-enumerate_from, get_or-enumerate_from}
use Rattle.std.proofs.lemmas.Option.{get_or_from_slice_get}
use Rattle.sl_base_quotients.specs.declared.limits.TheConstants.{MAX_SEATS}
use Rattle.sl_law_meaning.specs.declared.fact.Fact.TheVariants as facts
use Rattle.sl_law_meaning.specs.declared.book.Seating.{Seating}
use Rattle.sl_law_meaning.specs.declared.book.Seating.TheVariants as seating
use Rattle.sl_base_terms.specs.declared.shape.Shape.TheVariants as shape
use Rattle.sl_law_meaning.specs.declared.fault.LegalFault.{LegalFault}
use Rattle.sl_law_meaning.specs.declared.election.Win.{Win}
use Rattle.sl_law_meaning.specs.declared.table.Outcome.{Outcome}
use Rattle.sl_law_meaning.specs.declared.table.Outcome.TheVariants as outcome
use Rattle.sl_law_meaning.specs.declared.table.Placed.TheVariants as placed
use Rattle.sl_law_meaning.specs.book.Trees.{BookTree}
use Rattle.sl_law_meaning.specs.returns.Election.{Election, IsElection, parties_of}
use Rattle.sl_law_meaning.specs.returns.Facts.{is_eligible, list_cell, list_winners, lists_of}
use Rattle.sl_law_meaning.specs.methods.Ties.{Choice}
use Rattle.sl_law_meaning.specs.meaning.Means.{Known, IsCovered, IsSeated, IsEnd}
use Rattle.sl_law_meaning.specs.meaning.Seating.{placed_on, tie_of, seated_on, cover_place, covered_places, cover_table}
use Rattle.sl_law_meaning.proofs.meaning.CoveredWinners.{covered_winners}
use Rattle.sl_code_instructions.specs.Codes.{CountingCode}
use Rattle.sl_code_semantics.specs.State.{State, End}
use Rattle.sl_code_semantics.specs.Effects.{one_if}
use Rattle.sl_compile_plans.specs.Achieves.{Achieves}
use Rattle.sl_compile_plans.proofs.Rules.{achieves_more}
use Rattle.sl_compile_pieces.specs.columns.Columns.{GetsColumn}
use Rattle.sl_compile_pieces.proofs.columns.Writing.{columns_are_copied}
use Rattle.sl_compile_pieces.proofs.facts.Holding.{place_within, party_held}
use Rattle.sl_compile_pieces.specs.covers.Covering.{AreChoices, AreCovered, EndsInTie}
use Rattle.sl_compile_pieces.specs.covers.Trees.{cover_tree}
use Rattle.sl_compile_pieces.proofs.covers.Covering.{coverings_achieve}
use Rattle.sl_compile_pieces.specs.exprs.Slots.{fact_slots, winners_slot, HasBookSlots}
use Rattle.sl_compile_pieces.proofs.columns.Cells.{still_holds}
use Rattle.sl_compile_pieces.proofs.exprs.Following.{AllAchieve, all_one}
use Rattle.sl_compile_pieces.specs.closing.Trees.{base_slot, final_seats, cover_slots, seating_pieces}
use Rattle.sl_compile_pieces.specs.closing.Closing.{BeginsClosing, EndsInOutcome}
use Rattle.sl_compile_pieces.proofs.closing.Rules.{all_first, goes_on}
use Rattle.sl_compile_pieces.proofs.closing.Bases.{HasBase}
use Rattle.sl_compile_pieces.proofs.closing.Seated.{HasSeated, places_are}

module _ (c : CountingCode) (b : BookTree) (e : Election) (k : Known) (before s : State) (is : IsElection e) (slots : HasBookSlots c k.types)
    (stages : length c.stages ≡ length b.stages) (begins : BeginsClosing b e k before s) (h : HasBase c b e k b.last s) (covers : b.last.seating ≡ seating.Cover) where
  abbrev from : ℕ
  from = base_slot k.types b.last.base

  abbrev eligible : ℕ → Bool
  eligible = is_eligible b.eligible e

  -- the ties of the lists, in list order
  abbrev faults_of : List Choice → List LegalFault
  faults_of choices = filter_map (tie_of eligible e (length b.stages)) (zip (lists_of e) choices)

  -- ---- what it means

  ends_covered : (o : Outcome) → IsCovered b e h.values k.records o → IsEnd b e k o
  ends_covered o covered = record { base = h.values; is_base = h.leaf; seated = subst (λ (x : Seating). IsSeated b e x h.values k.records o) (sym covers) covered }

  module _ (choices : List Choice) (chosen : AreChoices e eligible h.values choices) where
    abbrev table : Outcome
    table = outcome.Table (cover_table b e h.values k.records (zip (lists_of e) choices))

    -- without a tie it is the table
    covered_table : filter_map (tie_of eligible e (length c.stages)) (zip (lists_of e) choices) ≡ [] → IsCovered b e h.values k.records table
    covered_table none =
        let no_fault : faults_of choices ≡ [] = subst (λ (n : ℕ). filter_map (tie_of eligible e n) (zip (lists_of e) choices) ≡ []) stages none in
        search (sym (ap (λ (fs : List LegalFault). unwrap_or (option_map (λ f. outcome.Fault f) (slice_get fs 0)) table) no_fault))

    -- else it is the first tie
    covered_fault : (fault : LegalFault) → slice_get (filter_map (tie_of eligible e (length c.stages)) (zip (lists_of e) choices)) 0 ≡ Some fault →
        IsCovered b e h.values k.records (outcome.Fault fault)
    covered_fault fault first =
        let some : slice_get (faults_of choices) 0 ≡ Some fault = subst (λ (n : ℕ). slice_get (filter_map (tie_of eligible e n) (zip (lists_of e) choices)) 0 ≡ Some fault) stages first in
        search (sym (ap (λ (o : Option LegalFault). unwrap_or (option_map (λ f. outcome.Fault f) o) table) some))

  ends_in_tie : (x : End) → EndsInTie c e eligible h.values x → EndsInOutcome b e k x
  ends_in_tie x tie = search (ends_covered (outcome.Fault tie.fault) (covered_fault tie.choices tie.chosen tie.fault tie.first))

  -- ---- what the plans do: after the copy, in state t, and the covering, in state u

  copied : (t : State) → GetsColumn e shape.List final_seats h.values s t →
      Achieves c e (cover_tree cover_slots) t (AreCovered c e cover_slots eligible h.values t) (EndsInTie c e eligible h.values)
  copied t g =
      coverings_achieve c e cover_slots eligible h.values t is
      (record {
        base = slots.passing_are 0 shape.List (omega arith);
        eligible = slots.facts.eligible;
        numbers = slots.pair_numbers_are;
        apart = λ same. omega (arith, same);
      })
      (record {
        nobody = λ winner. g.changes.placed winner ∙ begins.nobody winner;
        seats = g.holds.at;
        flags = λ party less.
            g.changes.columns fact_slots.eligible party (λ same. omega (arith, same))
            ∙ party_held e (s.columns fact_slots.eligible) (λ p. one_if (eligible p)) begins.flags party less;
      })

  -- a winner's place is that of its number
  place_of : (seated : List ℕ) (n : ℕ) (w : Win) → slice_get e.wins n ≡ Some w → n < length e.wins →
      get_or (map (cover_place seated) (enumerate_from 0 e.wins)) n placed.Unseated ≡ cover_place seated (n, w)
  place_of seated n w at less =
      let same : 0 + n ≡ n = omega arith in
      get_or-map (cover_place seated) (enumerate_from 0 e.wins) n (0, w) placed.Unseated (omega (arith, less, length-enumerate_from 0 e.wins))
      ∙ ap (cover_place seated) (get_or-enumerate_from 0 e.wins n (0, w) less)
      ∙ (λ z. cover_place seated (same z, get_or_from_slice_get e.wins n w w at z))

  covered_seated : (t u : State) → GetsColumn e shape.List final_seats h.values s t → AreCovered c e cover_slots eligible h.values t u → HasSeated b e k s u
  covered_seated t u g a =
      let pairs : List ((ℕ × ℕ) × Choice) = zip (lists_of e) a.choices in
      let covered = covered_table a.choices a.chosen a.no_tie in
      record {
        seats = list_cell e h.values;
        places = covered_places eligible e pairs;
        means = ends_covered (table a.choices a.chosen) covered;
        cells = λ land party in_lands in_parties.
            a.columns final_seats (land * parties_of e + party) (λ same. omega (arith, same)) ∙ g.holds.at (land * parties_of e + party) (place_within e land party in_parties in_lands);
        placed = places_are e u (covered_places eligible e pairs)
            (length-map (enumerate_from 0 e.wins) (cover_place (flat_map (seated_on eligible e) pairs)) ∙ length-enumerate_from 0 e.wins)
            (λ n w at less. place_of (flat_map (seated_on eligible e) pairs) n w at less ∙ sym (a.placed n w at));
        left = λ land party there.
            let direct : placed_on e (covered_places eligible e pairs) land party ≡ min (list_cell e h.values land party) (list_cell e (list_winners b.eligible e) land party) =
            covered_winners b e h.values k.records (cover_table b e h.values k.records pairs) is covered land party there in
            omega (arith, direct);
        few = λ land party in_lands in_parties.
            let small : slice_index h.values (land * parties_of e + party) ≤ MAX_SEATS = h.small (land * parties_of e + party) (place_within e land party in_parties in_lands) in
            omega (arith, small);
        winners = still_holds e shape.List (s.columns winners_slot) (u.columns winners_slot) (list_winners b.eligible e)
            (λ q. a.columns winners_slot q (λ same. omega (arith, same)) ∙ g.changes.columns winners_slot q (λ same. omega (arith, same))) (begins.behind.known.facts facts.Winners);
        steps = a.steps ∙ g.changes.steps;
        weights = a.weights ∙ g.changes.weights;
        columns = λ slot q high. a.columns slot q (λ same. omega (arith, high, same)) ∙ g.changes.columns slot q (λ same. omega (arith, high, same));
      }

  pub covered_all : AllAchieve c e (seating_pieces from seating.Cover) s (HasSeated b e k s) (EndsInOutcome b e k)
  covered_all =
      all_first
      (goes_on (columns_are_copied c e shape.List from final_seats h.values s h.slot (slots.passing_are 0 shape.List (omega arith)) h.apart h.holds) (λ t g. g))
      (λ t g. all_one (achieves_more (copied t g) (λ u a. covered_seated t u g a) ends_in_tie))

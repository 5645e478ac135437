-- What stands after the plans that seat winners: the seats of the lists, and who sits on them.
use Rattle.std.proofs.Common.{◌≡◌, ℕ, ◌+◌, ◌-◌, ◌*◌, ◌<◌, ◌≤◌, List, length, map, get_or, Some, slice_get, sym}
use Rattle.std.specs.List.{range_with_len}
use Rattle.std.proofs.lemmas.List.FromFn.{fill_by_all}
use Rattle.sl_base_terms.specs.declared.shape.Shape.TheVariants as shape
use Rattle.sl_law_meaning.specs.declared.election.Win.{Win}
use Rattle.sl_law_meaning.specs.declared.table.Outcome.TheVariants as outcome
use Rattle.sl_law_meaning.specs.declared.table.Placed.{Placed}
use Rattle.sl_law_meaning.specs.declared.table.Placed.TheVariants as placed
use Rattle.sl_law_meaning.specs.book.Trees.{BookTree}
use Rattle.sl_law_meaning.specs.returns.Election.{Election, lands_of, parties_of, wins_of}
use Rattle.sl_law_meaning.specs.returns.Facts.{list_cell, list_winners}
use Rattle.sl_law_meaning.specs.meaning.Seating.{placed_on, table_of}
use Rattle.sl_law_meaning.specs.meaning.Means.{Known, IsEnd}
use Rattle.sl_law_meaning.specs.laws.MeaningLaws.{IsListOf}
use Rattle.sl_code_semantics.specs.State.{State}
use Rattle.sl_code_semantics.specs.Effects.{most}
use Rattle.sl_compile_pieces.specs.columns.Columns.{HoldsColumn}
use Rattle.sl_compile_pieces.specs.exprs.Slots.{winners_slot, FIRST_STAGE_SLOT}
use Rattle.sl_compile_pieces.specs.closing.Trees.{final_seats}
use Rattle.sl_compile_plans.proofs.KeepingRules.{element_there}

-- the table that the book means has so many seats on each list and these places; the seats and the places are in the state
pub record HasSeated (b : BookTree) (e : Election) (k : Known) (before after : State) : Type 0 where
  pub seats : ℕ → ℕ → ℕ
  pub places : List Placed
  pub means : IsEnd b e k (outcome.Table (table_of b e seats places k.records))
  pub cells : (land party : ℕ) → land < lands_of e → party < parties_of e → after.columns final_seats (land * parties_of e + party) ≡ seats land party
  pub placed : map after.placed (range_with_len 0 (wins_of e)) ≡ places
  -- what the winners on a list leave of its seats is what all of its winners leave
  pub left : (land party : ℕ) → IsListOf e land party → seats land party - placed_on e places land party ≡ seats land party - list_cell e (list_winners b.eligible e) land party
  pub few : (land party : ℕ) → land < lands_of e → party < parties_of e → seats land party ≤ most
  pub winners : HoldsColumn e shape.List (after.columns winners_slot) (list_winners b.eligible e)
  pub steps : after.steps ≡ before.steps
  pub weights : after.weights ≡ before.weights
  pub columns : (slot q : ℕ) → FIRST_STAGE_SLOT ≤ slot → after.columns slot q ≡ before.columns slot q

-- the list of the places, winner by winner
pub places_are : (e : Election) (s : State) (places : List Placed) → length places ≡ wins_of e →
    ((n : ℕ) (w : Win) → slice_get e.wins n ≡ Some w → n < wins_of e → get_or places n placed.Unseated ≡ s.placed n) → map s.placed (range_with_len 0 (wins_of e)) ≡ places
places_are e s places long each =
    sym (fill_by_all s.placed places (wins_of e) placed.Unseated long (λ n less. let there = element_there e.wins n less in each n there.0 there.1 less))

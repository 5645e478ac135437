-- What the plan of a covering achieves (docs/blocks.md, section 6).
use Rattle.std.specs.Prelude.{◌≡◌, ◌≢◌, ℕ, ◌*◌, ◌<◌, Bool, List, [], Some, length, slice_get, slice_index, filter_map, flat_map}
use Rattle.std.specs.List.{zip, AllZip}
use Rattle.sl_base_terms.specs.declared.shape.Shape.TheVariants as shape
use Rattle.sl_law_meaning.specs.declared.fault.LegalFault.{LegalFault}
use Rattle.sl_law_meaning.specs.declared.election.Win.{Win}
use Rattle.sl_law_meaning.specs.declared.table.Placed.TheVariants as placed
use Rattle.sl_law_meaning.specs.returns.Election.{Election, IsElection, lands_of, parties_of}
use Rattle.sl_law_meaning.specs.returns.Facts.{lists_of}
use Rattle.sl_law_meaning.specs.methods.Ties.{Choice}
use Rattle.sl_law_meaning.specs.meaning.Seating.{IsSeating, tie_of, seated_on, cover_place}
use Rattle.sl_code_instructions.specs.Codes.{CountingCode}
use Rattle.sl_code_semantics.specs.State.{State, End, Faulted}
use Rattle.sl_code_semantics.specs.Effects.{one_if}
use Rattle.sl_compile_plans.specs.Achieves.{Achieves}
use Rattle.sl_compile_pieces.specs.covers.Trees.{CoverSlots, cover_tree}

-- the code has these slots, and that of the numbers is not that of the seats
pub record HasCoverSlots (c : CountingCode) (x : CoverSlots) : Type 0 where
  pub base : slice_get c.slots x.base ≡ Some shape.List
  pub eligible : slice_get c.slots x.eligible ≡ Some shape.Party
  pub numbers : slice_get c.slots x.numbers ≡ Some shape.List
  pub apart : x.base ≢ x.numbers

-- no winner is placed, and the slots hold the lists' seats and the parties that are eligible
pub record BeginsCovering (e : Election) (x : CoverSlots) (eligible : ℕ → Bool) (base : List ℕ) (s : State) : Type 0 where
  pub nobody : (winner : ℕ) → s.placed winner ≡ placed.Unseated
  pub seats : (q : ℕ) → q < lands_of e * parties_of e → s.columns x.base q ≡ slice_index base q
  pub flags : (party : ℕ) → party < parties_of e → s.columns x.eligible party ≡ one_if (eligible party)

-- each list yields a choice between its winners
pub record AreChoices (e : Election) (eligible : ℕ → Bool) (base : List ℕ) (choices : List Choice) : Type 0 where
  pub each : AllZip (IsSeating eligible e base) (lists_of e) choices

-- without a tie: the winners are placed as chosen, and all else but the numbers is as it was
pub record AreCovered (c : CountingCode) (e : Election) (x : CoverSlots) (eligible : ℕ → Bool) (base : List ℕ) (before after : State) : Type 0 where
  pub choices : List Choice
  pub chosen : AreChoices e eligible base choices
  pub no_tie : filter_map (tie_of eligible e (length c.stages)) (zip (lists_of e) choices) ≡ []
  pub placed : (winner : ℕ) (w : Win) → slice_get e.wins winner ≡ Some w →
      after.placed winner ≡ cover_place (flat_map (seated_on eligible e) (zip (lists_of e) choices)) (winner, w)
  pub columns : (slot q : ℕ) → slot ≢ x.numbers → after.columns slot q ≡ before.columns slot q
  pub steps : after.steps ≡ before.steps
  pub weights : after.weights ≡ before.weights

-- else the run ends with the first tie
pub record EndsInTie (c : CountingCode) (e : Election) (eligible : ℕ → Bool) (base : List ℕ) (end : End) : Type 0 where
  pub choices : List Choice
  pub chosen : AreChoices e eligible base choices
  pub fault : LegalFault
  pub first : slice_get (filter_map (tie_of eligible e (length c.stages)) (zip (lists_of e) choices)) 0 ≡ Some fault
  pub is : end ≡ Faulted fault

abbrev pub CoveringsAchieve : Type 0
CoveringsAchieve =
    (c : CountingCode) (e : Election) (x : CoverSlots) (eligible : ℕ → Bool) (base : List ℕ) (state : State) → IsElection e → HasCoverSlots c x →
    BeginsCovering e x eligible base state →
    Achieves c e (cover_tree x) state (AreCovered c e x eligible base state) (EndsInTie c e eligible base)

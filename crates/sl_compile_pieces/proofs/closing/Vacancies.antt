-- With `vacate`: the seats that neither winners nor names fill.
use Rattle.std.proofs.Common.{◌≡◌, ◌≢◌, ℕ, ◌-◌, ◌*◌, ◌<◌, List, [], ◌∷◌, Option, None, Some, refl, ap₂, ◌∙◌, arith}
use Rattle.std.proofs.lemmas.Option.{none-some}
use Rattle.sl_law_meaning.specs.declared.book.Pairing.TheVariants as pairings
use Rattle.sl_law_meaning.specs.declared.fact.Fact.TheVariants as facts
use Rattle.sl_base_terms.specs.declared.shape.Shape.TheVariants as shape
use Rattle.sl_law_meaning.specs.returns.Election.{Election, lands_of, parties_of}
use Rattle.sl_law_meaning.specs.book.Typing.{Column}
use Rattle.sl_code_instructions.specs.Codes.{CountingCode}
use Rattle.sl_code_instructions.specs.declared.instr.Instr.TheVariants.{Input}
use Rattle.sl_code_instructions.specs.declared.operand.Input.TheVariants as input
use Rattle.sl_code_semantics.specs.State.{State, End}
use Rattle.sl_code_semantics.specs.Effects.{from_lists, names_or_most, input_of}
use Rattle.sl_code_semantics.proofs.effects.Registers.{input_does}
use Rattle.sl_compile_plans.specs.Trees.{Line}
use Rattle.sl_compile_plans.specs.Achieves.{Achieves, Never}
use Rattle.sl_compile_plans.proofs.Rules.{line_ends, line_goes}
use Rattle.sl_compile_pieces.proofs.facts.Cells.{cell_written, cell_not_written}
use Rattle.sl_compile_pieces.specs.exprs.Slots.{winners_slot, names_left, vacant_seats, HasBookSlots}
use Rattle.sl_compile_pieces.proofs.exprs.Following.{AllAchieve, all_one}
use Rattle.sl_compile_pieces.specs.closing.Trees.{final_seats, vacant_pieces}
use Rattle.sl_compile_pieces.proofs.closing.Rules.{all_first, goes_on}
use Rattle.sl_compile_pieces.proofs.closing.Cells.{IsMade, pair_made}
use Rattle.sl_compile_pieces.specs.columns.Columns.{ChangesColumn}

-- where the book asks for them, the vacant seats are in their slot: those left by the winners and by the names; nothing else is changed but the names
pub record HasVacant (e : Election) (vacate : Option ℕ) (before after : State) : Type 0 where
  pub vacant : (at : ℕ) → vacate ≡ Some at → (q : ℕ) → q < lands_of e * parties_of e →
      after.columns vacant_seats q ≡ before.columns final_seats q - before.columns winners_slot q - from_lists e names_or_most q
  pub columns : (slot q : ℕ) → slot ≢ names_left → slot ≢ vacant_seats → after.columns slot q ≡ before.columns slot q
  pub placed : (winner : ℕ) → after.placed winner ≡ before.placed winner
  pub steps : after.steps ≡ before.steps
  pub weights : after.weights ≡ before.weights

-- the names left are in their slot, and nothing else is changed
record IsNamed (e : Election) (before after : State) : Type 0 where
  names : (q : ℕ) → after.columns names_left q ≡ from_lists e names_or_most q
  changes : ChangesColumn names_left before after

module _ (c : CountingCode) (e : Election) (types : List Column) (slots : HasBookSlots c types) (s : State) where
  names_told : Achieves c e (Line (Input names_left input.Names ∷ [])) s (IsNamed e s) Never
  names_told =
      line_goes (input_does c e s names_left shape.List slots.names_left_are input.Names)
      (line_ends (record {
        names = λ q. cell_written s names_left (input_of e input.Names) q;
        changes = record { columns = λ slot q other. cell_not_written s names_left (input_of e input.Names) slot q other; steps = refl; weights = refl; placed = λ winner. refl };
      }))

  -- after the names, in state t, what the winners leave, in state u, and what the names leave of that, in state v
  vacant_told : (at : ℕ) (t u v : State) → IsNamed e s t → IsMade e (λ a b. a - b) final_seats winners_slot vacant_seats t u →
      IsMade e (λ a b. a - b) vacant_seats names_left vacant_seats u v → HasVacant e (Some at) s v
  vacant_told at t u v named first second = record {
    vacant = λ n is q less.
        second.cells q less
        ∙ ap₂ (λ (m k : ℕ). m - k)
        (first.cells q less ∙ ap₂ (λ (m k : ℕ). m - k) (named.changes.columns final_seats q (λ same. omega (arith, same))) (named.changes.columns winners_slot q (λ same. omega (arith, same))))
        (first.changes.columns names_left q (λ same. omega (arith, same)) ∙ named.names q);
    columns = λ slot q not_names not_vacant. second.changes.columns slot q not_vacant ∙ first.changes.columns slot q not_vacant ∙ named.changes.columns slot q not_names;
    placed = λ winner. second.changes.placed winner ∙ first.changes.placed winner ∙ named.changes.placed winner;
    steps = second.changes.steps ∙ first.changes.steps ∙ named.changes.steps;
    weights = second.changes.weights ∙ first.changes.weights ∙ named.changes.weights;
  }

  pub vacated : {E : End → Type 0} (vacate : Option ℕ) → AllAchieve c e (vacant_pieces vacate) s (HasVacant e vacate s) E
  vacated None = record {
    all = record {
      vacant = λ at is. absurd (none-some at is);
      columns = λ slot q not_names not_vacant. refl;
      placed = λ winner. refl;
      steps = refl;
      weights = refl;
    };
  }
  vacated (Some at) =
      let final_are = slots.passing_are 0 shape.List (omega arith) in
      all_first (goes_on names_told (λ t h. h))
      (λ t named.
      all_first (goes_on (pair_made c e final_seats winners_slot vacant_seats t final_are (slots.facts.facts facts.Winners) slots.vacant_seats_are (λ same. omega (arith, same)) pairings.Less) (λ u h. h))
      (λ u first.
      all_one (goes_on (pair_made c e vacant_seats names_left vacant_seats u slots.vacant_seats_are slots.names_left_are slots.vacant_seats_are (λ same. omega (arith, same)) pairings.Less)
      (λ v second. vacant_told at t u v named first second))))

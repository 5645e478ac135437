-- The run of a book's code ends within the book's budget: at its halt, in a state where all plans are done, or with a fault that the book means.
use Rattle.std.proofs.Common.{◌≡◌, ◌⊎◌, ℕ, ◌+◌, ◌≤◌, List, [], ◌∷◌, ◌++◌, Option, Some, None, length, slice_get, refl, ap, subst, ◌∙◌, inl, inr, arith}
use Rattle.sl_base_terms.specs.declared.shape.Shape.{Shape}
use Rattle.sl_base_terms.specs.declared.shape.Shape.TheVariants as shape
use Rattle.sl_law_meaning.specs.book.Trees.{BookTree}
use Rattle.sl_law_meaning.specs.book.Typing.{Column}
use Rattle.sl_law_meaning.specs.returns.Election.{Election, IsElection}
use Rattle.sl_code_instructions.specs.declared.instr.Instr.{Instr}
use Rattle.sl_code_instructions.specs.Codes.{CountingCode}
use Rattle.sl_code_instructions.specs.Standing.{HasAt}
use Rattle.sl_code_instructions.proofs.Standing.{all_stand, rest_stands, first_stands}
use Rattle.sl_code_semantics.specs.State.{State, End, Halted, start}
use Rattle.sl_code_semantics.specs.Effects.{Ends, given, effect}
use Rattle.sl_code_semantics.specs.Runs.{Ended, ending}
use Rattle.sl_code_semantics.specs.Comes.{Finishes}
use Rattle.sl_code_semantics.proofs.runs.Coming.{ends, ends_after, ends_wider, ended}
use Rattle.sl_compile_plans.specs.Trees.{Tree}
use Rattle.sl_compile_plans.specs.Laid.{cost_all, AchievesAll}
use Rattle.sl_compile_pieces.specs.declared.slots.TheConstants.{VACANT_SEATS as vacant_seats}
use Rattle.sl_compile_pieces.specs.exprs.Slots.{HasBookSlots}
use Rattle.sl_compile_pieces.specs.closing.Trees.{halting, final_seats, vacant_slot}
use Rattle.sl_blocks.specs.PlanBlocks.{AreBlocks}
use Rattle.sl_compile.proofs.rulebooks.Rows.{blocks_run}
use Rattle.sl_compile.proofs.rulebooks.Runs.{IsDone, IsStopped}

-- the two ends of a book's code
abbrev pub IsBookEnd : CountingCode → BookTree → Election → End → Type 0
IsBookEnd c b e x = ((s : State) × (x ≡ Halted final_seats (vacant_slot b.last.vacate) s) × IsDone c b e s) ⊎ IsStopped b e x

module _ (c : CountingCode) (e : Election) (types : List Column) (slots : HasBookSlots c types) where
  -- the halt ends the run with the final seats, and with the vacant ones where the book has such
  pub halts : (vacate : Option ℕ) (s : State) → effect c e (halting vacate) s ≡ Ends (Halted final_seats (vacant_slot vacate) s)
  halts None s = ap (λ (o : Option Shape). given o (λ shape. Ends (Halted final_seats None s))) (slots.passing_are 0 shape.List (omega arith))
  halts (Some at) s =
      let here : slice_get c.slots vacant_seats ≡ Some shape.List = slots.vacant_seats_are in
      ap (λ (o : Option Shape). given o (λ base. given (slice_get c.slots vacant_seats) (λ vacant. Ends (Halted final_seats (Some vacant_seats) s)))) (slots.passing_are 0 shape.List (omega arith))
      ∙ ap (λ (o : Option Shape). given o (λ vacant. Ends (Halted final_seats (Some vacant_seats) s))) here

-- the blocks of some plans and an instruction after them that ends the run, from the first place of a code on
module _ {S : CountingCode → Type 0} {ts : List Tree} {y : List Instr} (blocks : AreBlocks S ts [] y) (c : CountingCode) (i : Instr) (whole : c.instrs ≡ y ++ i ∷ []) (has : S c)
    (e : Election) (is : IsElection e) (of : State → End) (over : (s : State) → effect c e i s ≡ Ends (of s)) (Q : State → Type 0) (E : End → Type 0) (achieves : AchievesAll c e ts start Q E)
  where
    last_there : slice_get c.instrs (length y) ≡ Some i
    last_there =
        let stand : HasAt c 0 (y ++ i ∷ []) = subst (λ (is : List Instr). HasAt c 0 is) whole (all_stand c) in
        let here : 0 + length y ≡ length y = omega arith in
        subst (λ (n : ℕ). slice_get c.instrs n ≡ Some i) here (first_stands c (0 + length y) i [] (rest_stands c 0 y (i ∷ []) stand))

    finishes : (x : End) × Finishes c e (cost_all e ts + 1) 0 start x × (((s : State) × (x ≡ of s) × Q s) ⊎ E x)
    finishes =
        elim (blocks_run blocks c (i ∷ []) whole has e is start Q E achieves) [
          | inl on ↦ (
            of on.0,
            ends_after c e (cost_all e ts) 1 0 (length y) start on.0 (of on.0) on.1 (ends c e (length y) on.0 i last_there (of on.0) (over on.0)),
            inl (on.0, refl, on.2),
          )
          | inr end ↦ (end.0, ends_wider c e (cost_all e ts) (cost_all e ts + 1) 0 start end.0 (omega arith) end.1, inr end.2)
        ]

    pub ends_within : (budget : ℕ) → cost_all e ts + 1 ≤ budget → (x : End) × (ending c e budget ≡ Ended x) × (((s : State) × (x ≡ of s) × Q s) ⊎ E x)
    ends_within budget enough =
        (finishes.0, ended c e (cost_all e ts + 1) budget 0 start finishes.0 finishes.1 enough, finishes.2)

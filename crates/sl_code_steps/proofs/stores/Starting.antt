-- The state at the start.
use Rattle.std.proofs.Common.{◌≡◌, ℕ, zero, suc, List, [], ◌∷◌, length, map, get_or, replicate, Option, None, refl, arith}
use Rattle.std.proofs.lemmas.Grind.{common_steps}
use Rattle.std.proofs.lemmas.List.{length-replicate}
use Rattle.sl_base_terms.specs.declared.shape.Shape.{Shape}
use Rattle.sl_law_meaning.specs.declared.table.Mark.{Mark}
use Rattle.sl_law_meaning.specs.declared.table.Placed.{Placed}
use Rattle.sl_law_meaning.specs.declared.table.SeatStep.{SeatStep}
use Rattle.sl_law_meaning.specs.declared.table.Weight.{Weight}
use Rattle.sl_law_meaning.specs.declared.table.Placed.TheVariants as placed
use Rattle.sl_law_meaning.specs.returns.Election.{Election}
use Rattle.sl_code_semantics.specs.State.{State, PriorityTable, start}
use Rattle.sl_code_semantics.specs.Places.{cells_of}

pub same_at : {A : Type 0} (n : ℕ) (x : A) (p : ℕ) → get_or (replicate n x) p x ≡ x
same_at n x p = grind (arith, common_steps)

module _ (e : Election) where
  abbrev pub blank : Shape → List ℕ
  blank shape = replicate (cells_of e shape) 0

  pub blank_at : (slots : List Shape) (k p : ℕ) → get_or (get_or (map blank slots) k []) p 0 ≡ 0
  blank_at [] k p = grind (arith, common_steps)
  blank_at (shape ∷ slots) zero p = same_at (cells_of e shape) 0 p
  blank_at (shape ∷ slots) (suc k) p = blank_at slots k p

  pub blank_widths : (slots : List Shape) → map length (map blank slots) ≡ map (cells_of e) slots
  blank_widths [] = refl
  blank_widths (shape ∷ slots) = λ i. length-replicate {A = ℕ} (cells_of e shape) 0 i ∷ blank_widths slots i

-- a state with these parts is the start
pub started : (registers : List ℕ) (css : List (List ℕ)) (table : Option PriorityTable) (mark : Mark) (steps : List SeatStep) (weights : List Weight) (seated : List Placed)
    → ((r : ℕ) → get_or registers r 0 ≡ 0) → ((k p : ℕ) → get_or (get_or css k []) p 0 ≡ 0) → table ≡ None → mark ≡ start.mark → steps ≡ [] → weights ≡ []
    → ((w : ℕ) → get_or seated w placed.Unseated ≡ placed.Unseated)
    → ◌≡◌ {A = State} (record start {
      registers = λ r. get_or registers r 0;
      columns = λ k p. get_or (get_or css k []) p 0;
      table = table;
      mark = mark;
      steps = steps;
      weights = weights;
      placed = λ w. get_or seated w placed.Unseated;
    }) start
started registers css table mark steps weights seated r c t m s w p = λ i. record start {
  registers = λ q. r q i;
  columns = λ k q. c k q i;
  table = t i;
  mark = m i;
  steps = s i;
  weights = w i;
  placed = λ q. p q i;
}

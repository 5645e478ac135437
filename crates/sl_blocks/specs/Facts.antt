-- The plans of the facts, and the slots that they work in.
use Rattle.std.specs.Prelude.{ℕ, List, [], ◌∷◌, ◌++◌, map}
use Rattle.sl_law_meaning.specs.declared.fact.TheConstants.{FACTS}
use Rattle.sl_law_meaning.specs.declared.book.Cond.{Cond}
use Rattle.sl_base_terms.specs.declared.shape.Shape.{Shape}
use Rattle.sl_base_terms.specs.declared.shape.Shape.TheVariants as shape
use Rattle.sl_law_meaning.specs.book.Typing.{fact_type}
use Rattle.sl_code_instructions.specs.Codes.{CountingCode}
use Rattle.sl_compile_plans.specs.Trees.{Tree}
use Rattle.sl_compile_pieces.specs.facts.Trees.{eligible_tree, fact_tree}
use Rattle.sl_compile_pieces.specs.exprs.Slots.{fact_slots}
use Rattle.sl_blocks.specs.Blocks.{HasSlotsOf}

-- the eligible parties, facts, and two columns to work in; three columns of lists for the last clause
abbrev pub fact_shapes : List Shape
fact_shapes = shape.Party ∷ (map (λ told. (fact_type told).shape) FACTS ++ (shape.List ∷ (shape.Party ∷ [])))

abbrev pub closing_shapes : List Shape
closing_shapes = shape.List ∷ (shape.List ∷ (shape.List ∷ []))

-- a code has them as its first slots
abbrev pub HasFirstSlots : CountingCode → Type 0
HasFirstSlots code = HasSlotsOf (fact_shapes ++ closing_shapes) code

-- those that come after the eligible parties
abbrev pub other_facts : ℕ → List Tree
other_facts house = map (fact_tree fact_slots house) FACTS

abbrev pub all_facts : List Cond → ℕ → List Tree
all_facts few house = eligible_tree fact_slots few ∷ other_facts house

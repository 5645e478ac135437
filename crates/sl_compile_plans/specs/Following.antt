-- What it is for the machine to do what a plan says (docs/plans.md, section 4).
use Rattle.std.specs.Prelude.{ℕ, ◌+◌}
use Rattle.sl_law_meaning.specs.returns.Election.{Election}
use Rattle.sl_code_instructions.specs.declared.kinds.Kinds.{Kinds}
use Rattle.sl_code_instructions.specs.Codes.{CountingCode}
use Rattle.sl_code_instructions.specs.Standing.{HasAt}
use Rattle.sl_code_semantics.specs.State.{State}
use Rattle.sl_code_semantics.specs.Comes.{Comes, Finishes}
use Rattle.sl_compile_plans.specs.Trees.{Tree, size_of, flat}
use Rattle.sl_compile_plans.specs.Meaning.{Course, Onward, Final, Unsaid, does, cost}

-- from place p and state s the machine comes within so many steps to place q in the state of that course, or to its end
abbrev pub Follows : CountingCode → Election → ℕ → ℕ → State → ℕ → Course → Type 0
Follows c e bound p s q (Onward t) = Comes c e bound p s q t
Follows c e bound p s q (Final x) = Finishes c e bound p s x
Follows c e bound p s q Unsaid = Unit {0}

-- wherever the instructions of a plan stand, the machine does what the plan says, within the plan's cost
abbrev pub PlansAreFollowed : Type 0
PlansAreFollowed =
    (c : CountingCode) (e : Election) (k : Kinds) (p : ℕ) (tree : Tree) (s : State) → HasAt c p (flat k p tree) →
    Follows c e (cost e tree) p s (p + size_of tree) (does c e tree s)

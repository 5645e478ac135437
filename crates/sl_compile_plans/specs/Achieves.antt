-- What is shown of a plan: it goes on in a state of which one thing holds, or ends the run so that another holds (docs/plans.md, section 5).
use Rattle.std.specs.Prelude.{ℕ, ◌⊎◌}
use Rattle.sl_law_meaning.specs.returns.Election.{Election}
use Rattle.sl_code_instructions.specs.Codes.{CountingCode}
use Rattle.sl_code_semantics.specs.State.{State, End}
use Rattle.sl_code_semantics.specs.Comes.{Comes, Finishes}
use Rattle.sl_compile_plans.specs.Trees.{Tree}
use Rattle.sl_compile_plans.specs.Meaning.{Course, Onward, Final, Unsaid, does}

-- a course that goes on meets the one, a course that ends the run meets the other
abbrev pub Meets : Course → (State → Type 0) → (End → Type 0) → Type 0
Meets (Onward s) Q E = Q s
Meets (Final x) Q E = E x
Meets Unsaid Q E = ⊥

pub record Achieves (c : CountingCode) (e : Election) (tree : Tree) (s : State) (Q : State → Type 0) (E : End → Type 0) : Type 0 where
  pub meets : Meets (does c e tree s) Q E

-- a plan that never ends the run
abbrev pub Never : End → Type 0
Never x = ⊥

-- from place p and state s the machine comes within so many steps to place q in such a state, or it ends so
abbrev pub Reaches : CountingCode → Election → ℕ → ℕ → State → ℕ → (State → Type 0) → (End → Type 0) → Type 0
Reaches c e bound p s q Q E = ((t : State) × Comes c e bound p s q t × Q t) ⊎ ((x : End) × Finishes c e bound p s x × E x)

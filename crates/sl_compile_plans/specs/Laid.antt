-- Plans after a declaration, one after the other: what is laid out, and what they achieve together (docs/plans.md, section 10).
use Rattle.std.specs.Prelude.{ℕ, ◌+◌, List, [], ◌∷◌}
use Rattle.sl_law_meaning.specs.returns.Election.{Election}
use Rattle.sl_code_instructions.specs.declared.instr.Instr.{Instr}
use Rattle.sl_code_instructions.specs.declared.instr.Instr.TheVariants.{At}
use Rattle.sl_code_instructions.specs.Codes.{CountingCode}
use Rattle.sl_code_semantics.specs.Kinds.{start_kinds}
use Rattle.sl_code_semantics.specs.State.{State, End}
use Rattle.sl_compile_plans.specs.Trees.{Tree, size_of, flat}
use Rattle.sl_compile_plans.specs.Meaning.{cost}
use Rattle.sl_compile_plans.specs.Achieves.{Achieves}

-- the instructions of a plan whose declaration, that nothing is known, stands at place p
abbrev pub laid : ℕ → Tree → List Instr
laid p tree = At start_kinds ∷ flat start_kinds (p + 1) tree

-- how many instructions some plans are, each after its declaration, and how many steps they take
abbrev pub size_all : List Tree → ℕ
size_all [] = 0
size_all (t ∷ ts) = size_of t + 1 + size_all ts

abbrev pub cost_all : Election → List Tree → ℕ
cost_all e [] = 0
cost_all e (t ∷ ts) = cost e t + 1 + cost_all e ts

-- each plan goes on to the next one, or ends the run so; the last one goes on in a state of which that holds
abbrev pub AchievesAll : CountingCode → Election → List Tree → State → (State → Type 0) → (End → Type 0) → Type 0
AchievesAll c e [] s Q E = Q s
AchievesAll c e (t ∷ ts) s Q E = Achieves c e t s (λ u. AchievesAll c e ts u Q E) E

-- Rules for a plan and those after it.
use Rattle.std.proofs.Common.{List, ◌∷◌}
use Rattle.sl_law_meaning.specs.returns.Election.{Election}
use Rattle.sl_code_instructions.specs.Codes.{CountingCode}
use Rattle.sl_code_semantics.specs.State.{State, End}
use Rattle.sl_compile_plans.specs.Trees.{Tree}
use Rattle.sl_compile_plans.specs.Achieves.{Achieves, Never}
use Rattle.sl_compile_plans.proofs.Rules.{achieves_more, achieves_so}
use Rattle.sl_compile_pieces.proofs.exprs.Following.{AllAchieve}

-- the first plan, and then the others
pub all_first : {c : CountingCode} {e : Election} {t : Tree} {ts : List Tree} {s : State} {Q R : State → Type 0} {E : End → Type 0}
    → Achieves c e t s Q E → ((u : State) → Q u → AllAchieve c e ts u R E) → AllAchieve c e (t ∷ ts) s R E
all_first h rest = record { all = achieves_so h (λ u k. (rest u k).all) }

-- a plan that never ends the run, with what follows from where it goes on
pub goes_on : {c : CountingCode} {e : Election} {t : Tree} {s : State} {Q R : State → Type 0} {E : End → Type 0}
    → Achieves c e t s Q Never → ((u : State) → Q u → R u) → Achieves c e t s R E
goes_on h on = achieves_more h on (λ x never. absurd never)

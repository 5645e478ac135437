-- What a plan achieves the machine does, wherever the plan's instructions stand.
use Rattle.std.proofs.Common.{ℕ, ◌+◌, inl, inr}
use Rattle.sl_law_meaning.specs.returns.Election.{Election}
use Rattle.sl_code_instructions.specs.declared.kinds.Kinds.{Kinds}
use Rattle.sl_code_instructions.specs.Codes.{CountingCode}
use Rattle.sl_code_instructions.specs.Standing.{HasAt}
use Rattle.sl_code_semantics.specs.State.{State, End}
use Rattle.sl_compile_plans.specs.Trees.{Tree, size_of, flat}
use Rattle.sl_compile_plans.specs.Meaning.{Course, Onward, Final, Unsaid, does, cost}
use Rattle.sl_compile_plans.specs.Following.{Follows}
use Rattle.sl_compile_plans.specs.Achieves.{Meets, Achieves, Reaches}
use Rattle.sl_compile_plans.proofs.Following.{plans_are_followed}

pub reaches : (k : Kinds) (p : ℕ) {c : CountingCode} {e : Election} {tree : Tree} {s : State} {Q : State → Type 0} {E : End → Type 0}
    → Achieves c e tree s Q E → HasAt c p (flat k p tree) → Reaches c e (cost e tree) p s (p + size_of tree) Q E
reaches k p {c = c} {e = e} {tree = tree} {s = s} {Q = Q} {E = E} h has = of (does c e tree s) (plans_are_followed c e k p tree s has) h.meets
  where
    of : (o : Course) → Follows c e (cost e tree) p s (p + size_of tree) o → Meets o Q E → Reaches c e (cost e tree) p s (p + size_of tree) Q E
    of (Onward t) run q = inl (t, run, q)
    of (Final x) run q = inr (x, run, q)
    of Unsaid run q = absurd q

-- Rules for plans one after the other.
use Rattle.std.proofs.Common.{List, [], ◌∷◌, ◌++◌}
use Rattle.sl_law_meaning.specs.returns.Election.{Election}
use Rattle.sl_code_instructions.specs.Codes.{CountingCode}
use Rattle.sl_code_semantics.specs.State.{State, End}
use Rattle.sl_compile_plans.specs.Trees.{Tree}
use Rattle.sl_compile_plans.specs.Achieves.{Achieves}
use Rattle.sl_compile_plans.specs.Laid.{AchievesAll}
use Rattle.sl_compile_pieces.proofs.exprs.StageRules as rules

-- plans achieve that, one after the other
pub record AllAchieve (c : CountingCode) (e : Election) (ts : List Tree) (s : State) (Q : State → Type 0) (E : End → Type 0) : Type 0 where
  pub all : AchievesAll c e ts s Q E

pub all_more : {c : CountingCode} {e : Election} {ts : List Tree} {s : State} {Q R : State → Type 0} {E F : End → Type 0}
    → AllAchieve c e ts s Q E → ((t : State) → Q t → R t) → ((x : End) → E x → F x) → AllAchieve c e ts s R F
all_more {c = c} {e = e} {ts = ts} {s = s} {Q = Q} {R = R} {E = E} {F = F} h on over = record { all = rules.all_more c e Q R E F on over ts s h.all }

pub all_then : {c : CountingCode} {e : Election} {xs ys : List Tree} {s : State} {Q R : State → Type 0} {E : End → Type 0}
    → AllAchieve c e xs s Q E → ((t : State) → Q t → AllAchieve c e ys t R E) → AllAchieve c e (xs ++ ys) s R E
all_then {c = c} {e = e} {xs = xs} {ys = ys} {s = s} {Q = Q} {R = R} {E = E} first rest = record {
  all = rules.all_then c e R E ys xs s (rules.all_more c e Q (λ u. AchievesAll c e ys u R E) E E (λ t h. (rest t h).all) (λ x h. h) xs s first.all);
}

pub all_one : {c : CountingCode} {e : Election} {t : Tree} {s : State} {Q : State → Type 0} {E : End → Type 0} → Achieves c e t s Q E → AllAchieve c e (t ∷ []) s Q E
all_one h = record { all = h }

-- A plan after a declaration: the machine follows it.
use Rattle.std.proofs.Common.{◌≡◌, ℕ, suc, ◌+◌, ◌≤◌, refl, subst, inl, inr, arith}
use Rattle.sl_law_meaning.specs.returns.Election.{Election}
use Rattle.sl_code_instructions.specs.declared.instr.Instr.TheVariants.{At}
use Rattle.sl_code_instructions.specs.Codes.{CountingCode}
use Rattle.sl_code_instructions.specs.Standing.{HasAt}
use Rattle.sl_code_instructions.proofs.Standing.{first_stands, next_stand}
use Rattle.sl_code_semantics.specs.Kinds.{start_kinds}
use Rattle.sl_code_semantics.specs.State.{State, End}
use Rattle.sl_code_semantics.specs.Comes.{Comes}
use Rattle.sl_code_semantics.proofs.runs.Coming.{after, ends_after, wider, ends_wider, comes_at}
use Rattle.sl_compile_plans.specs.Trees.{Tree, size_of, flat}
use Rattle.sl_compile_plans.specs.Meaning.{cost}
use Rattle.sl_compile_plans.specs.Achieves.{Achieves, Reaches}
use Rattle.sl_compile_plans.specs.Laid.{laid}
use Rattle.sl_compile_plans.proofs.Pieces.{declares}
use Rattle.sl_compile_plans.proofs.Reaching.{reaches}

-- what stands after the declaration
pub plan_stands : (c : CountingCode) (p : ℕ) (tree : Tree) → HasAt c p (laid p tree) → HasAt c (p + 1) (flat start_kinds (p + 1) tree)
plan_stands c p tree has =
    let next : suc p ≡ p + 1 = omega arith in
    subst (λ (n : ℕ). HasAt c n (flat start_kinds (p + 1) tree)) next (next_stand c p (At start_kinds) (flat start_kinds (p + 1) tree) has)

module _ (c : CountingCode) (e : Election) (Q : State → Type 0) (E : End → Type 0) where
  -- one plan
  pub laid_is_followed : (p : ℕ) (tree : Tree) (s : State) → HasAt c p (laid p tree) → Achieves c e tree s Q E → Reaches c e (cost e tree + 1) p s (p + (size_of tree + 1)) Q E
  laid_is_followed p tree s has h =
      let first : Comes c e 1 p s (p + 1) s = declares c e p (p + 1) start_kinds refl (first_stands c p (At start_kinds) (flat start_kinds (p + 1) tree) has) s in
      let last : p + 1 + size_of tree ≡ p + (size_of tree + 1) = omega arith in
      let fits : 1 + cost e tree ≤ cost e tree + 1 = omega arith in
      elim (reaches start_kinds (p + 1) h (plan_stands c p tree has)) [
        | inl on ↦ inl (
          on.0,
          wider c e (1 + cost e tree) (cost e tree + 1) p (p + (size_of tree + 1)) s on.0 fits
              (comes_at c e (1 + cost e tree) p (p + 1 + size_of tree) (p + (size_of tree + 1)) s on.0 last
              (after c e 1 (cost e tree) p (p + 1) (p + 1 + size_of tree) s s on.0 first on.1)),
          on.2,
        )
        | inr end ↦ inr (
          end.0,
          ends_wider c e (1 + cost e tree) (cost e tree + 1) p s end.0 fits (ends_after c e 1 (cost e tree) p (p + 1) s s end.0 first end.1),
          end.2,
        )
      ]

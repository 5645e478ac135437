-- What the verifier finds in the plan of a covering.
use Rattle.std.proofs.Common.{◌≡◌, ℕ, zero, suc, true, Option, Some, refl, ◌∙◌}
use Rattle.sl_base_terms.specs.declared.shape.Shape.{Shape}
use Rattle.sl_base_terms.specs.declared.shape.Shape.TheVariants as shape
use Rattle.sl_code_semantics.specs.declared.known.TheConstants.{LAST_CLAUSE}
use Rattle.sl_code_semantics.specs.Kinds.{start_kinds}
use Rattle.sl_code_semantics.specs.Needs.{Context}
use Rattle.sl_compile_plans.specs.Fine.{is_fine, judged_by}
use Rattle.sl_compile_pieces.specs.covers.Trees.{CoverSlots, cover_tree}
use Rattle.sl_compile_plans.proofs.Renaming.{Renaming, Renames, renamed_is_fine}

-- the seats of the lists, the eligible parties, the numbers of the lists
abbrev roles : CoverSlots
roles = record { base = 0; eligible = 1; numbers = 2 }

abbrev shape_of_role : ℕ → Option Shape
shape_of_role zero = Some shape.List
shape_of_role (suc zero) = Some shape.Party
shape_of_role (suc (suc k)) = Some shape.List

-- the last clause is a stage wherever so many are
abbrev role_context : Context
role_context = judged_by shape_of_role 0

-- the slots have the shapes of the roles
pub record HasCoverShapes (slots : ℕ → Option Shape) (x : CoverSlots) : Type 0 where
  pub base : slots x.base ≡ Some shape.List
  pub eligible : slots x.eligible ≡ Some shape.Party
  pub numbers : slots x.numbers ≡ Some shape.List

module _ (x : CoverSlots) where
  abbrev slot_of_role : ℕ → ℕ
  slot_of_role zero = x.base
  slot_of_role (suc zero) = x.eligible
  slot_of_role (suc (suc k)) = x.numbers

  abbrev names : Renaming
  names = record { slot = slot_of_role; stage = LAST_CLAUSE; number = λ n. n }

  names_fit : (slots : ℕ → Option Shape) (stages : ℕ) → HasCoverShapes slots x → Renames names role_context (judged_by slots stages)
  names_fit slots stages has = record { slots = of; stage = refl; numbers = λ n. refl }
    where
      of : (k : ℕ) (s : Shape) → shape_of_role k ≡ Some s → slots (slot_of_role k) ≡ Some s
      of zero s h = has.base ∙ h
      of (suc zero) s h = has.eligible ∙ h
      of (suc (suc k)) s h = has.numbers ∙ h

  -- where the slots have their shapes, its instructions have what they need, whatever stages there are
  pub cover_fine : (slots : ℕ → Option Shape) (stages : ℕ) → HasCoverShapes slots x → is_fine (judged_by slots stages) start_kinds (cover_tree x) ≡ true
  cover_fine slots stages has = renamed_is_fine names role_context (judged_by slots stages) (names_fit slots stages has) start_kinds (cover_tree roles) refl

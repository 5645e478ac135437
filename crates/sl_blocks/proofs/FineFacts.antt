-- What the verifier finds in the plans of facts: they are judged by evaluation, with the slots of facts and of the last clause alone.
use Rattle.std.proofs.Common.{◌≡◌, ℕ, zero, suc, ◌≤◌, Bool, true, false, ◌==◌, if◌then◌else◌, List, [], ◌∷◌, ◌++◌, length, Option, slice_get, refl, sym, subst, ap, ◌∙◌, arith}
use Rattle.std.specs.Prelude.{nat_lt}
use Rattle.std.proofs.lemmas.Bool.{eqb-true, lt-ltb}
use Rattle.sl_law_meaning.specs.declared.fact.Fact.{Fact}
use Rattle.sl_law_meaning.specs.declared.fact.Fact.TheVariants as facts
use Rattle.sl_base_terms.specs.declared.shape.Shape.{Shape}
use Rattle.sl_law_meaning.specs.declared.book.Cond.{Cond}
use Rattle.sl_law_meaning.specs.declared.book.Cond.TheVariants as condition
use Rattle.sl_code_instructions.specs.declared.instr.Instr.TheVariants.{Zero}
use Rattle.sl_code_instructions.specs.Codes.{CountingCode}
use Rattle.sl_code_semantics.specs.declared.known.TheConstants.{LAST_CLAUSE}
use Rattle.sl_code_semantics.specs.Kinds.{start_kinds}
use Rattle.sl_code_semantics.specs.Needs.{Context}
use Rattle.sl_code_semantics.proofs.kinds.Passing.{both_hold}
use Rattle.sl_compile_plans.specs.Trees.{Tree, Line}
use Rattle.sl_compile_plans.specs.Fine.{is_fine, judged_by, kinds_along}
use Rattle.sl_compile_pieces.specs.facts.Trees.{conditions_tree, condition_tree, eligible_tree, fact_tree}
use Rattle.sl_compile_pieces.specs.exprs.Slots.{fact_slots}
use Rattle.sl_compile_plans.proofs.Renaming.{Renaming, renamed, Renames, renamed_is_fine}
use Rattle.sl_blocks.specs.Facts.{fact_shapes, closing_shapes, HasFirstSlots}
use Rattle.sl_blocks.proofs.Standing.{IsFineIn}

-- ---- the first slots, whatever the stages are

abbrev pub first_shapes : ℕ → Option Shape
first_shapes k = slice_get (fact_shapes ++ closing_shapes) k

abbrev pub first_context : Context
first_context = judged_by first_shapes 0

-- each slot keeps its name, and other numbers may come
abbrev same_slots : (ℕ → ℕ) → Renaming
same_slots number = record { slot = λ k. k; stage = LAST_CLAUSE; number = number }

-- ---- numbers that are 0 or not: 0 stands for itself, and a mark for all others

abbrev by_mark : ℕ → ℕ → ℕ → ℕ → ℕ
by_mark mark zero k other = other
by_mark mark (suc n) k other = if k == mark then suc n else other

-- a share and what it is a part of, with the marks 2 and 3, which are no other numbers of the plan
abbrev number_of_role : ℕ → ℕ → ℕ → ℕ
number_of_role share per k = by_mark 2 share k (by_mark 3 per k k)

mark_stands : (mark n k other : ℕ) → 1 ≤ mark → nat_lt 0 other ≡ nat_lt 0 k → nat_lt 0 (by_mark mark n k other) ≡ nat_lt 0 k
mark_stands mark zero k other some same = same
mark_stands mark (suc n) k other some same = by_case (k == mark) refl
  where
    by_case : (b : Bool) → (k == mark) ≡ b → nat_lt 0 (if b then suc n else other) ≡ nat_lt 0 k
    by_case true e = lt-ltb 0 (suc n) (omega arith) ∙ sym (lt-ltb 0 k (omega (arith, some, eqb-true k mark e)))
    by_case false e = same

numbers : (share per k : ℕ) → nat_lt 0 (number_of_role share per k) ≡ nat_lt 0 k
numbers share per k = mark_stands 2 share k (by_mark 3 per k k) (omega arith) (mark_stands 3 per k k (omega arith) refl)

-- ---- plans with the first slots alone

module _ (code : CountingCode) (slots : HasFirstSlots code) where
  same_fit : (share per : ℕ) → Renames (same_slots (number_of_role share per)) first_context (judged_by (slice_get code.slots) (length code.stages))
  same_fit share per = record { slots = slots; stage = refl; numbers = numbers share per }

  -- a plan that is, with these two numbers, that of roles
  numbers_fine : (share per : ℕ) (role tree : Tree) → is_fine first_context start_kinds role ≡ true → renamed (same_slots (number_of_role share per)) role ≡ tree → IsFineIn code tree
  numbers_fine share per role tree fine same =
      subst (λ t. is_fine (judged_by (slice_get code.slots) (length code.stages)) start_kinds t ≡ true) same
      (renamed_is_fine (same_slots (number_of_role share per)) first_context (judged_by (slice_get code.slots) (length code.stages)) (same_fit share per) start_kinds role fine)

  -- a plan whose numbers do not matter
  pub first_fine : (tree : Tree) → is_fine first_context start_kinds tree ≡ true → renamed (same_slots (number_of_role 0 0)) tree ≡ tree → IsFineIn code tree
  first_fine tree fine same = numbers_fine 0 0 tree tree fine same

  -- ---- who is eligible

  share_fine : (share per at : ℕ) → IsFineIn code (condition_tree fact_slots (condition.Valid (record { value = share; at = at }) per))
  share_fine zero zero at = numbers_fine zero zero (condition_tree fact_slots (condition.Valid (record { value = 0; at = at }) 0)) _ refl refl
  share_fine zero (suc per) at = numbers_fine zero (suc per) (condition_tree fact_slots (condition.Valid (record { value = 0; at = at }) 3)) _ refl refl
  share_fine (suc share) zero at = numbers_fine (suc share) zero (condition_tree fact_slots (condition.Valid (record { value = 2; at = at }) 0)) _ refl refl
  share_fine (suc share) (suc per) at = numbers_fine (suc share) (suc per) (condition_tree fact_slots (condition.Valid (record { value = 2; at = at }) 3)) _ refl refl

  least_fine : (least : ℕ) → IsFineIn code (condition_tree fact_slots (condition.Winners least))
  least_fine zero = first_fine (condition_tree fact_slots (condition.Winners zero)) refl refl
  least_fine (suc least) = numbers_fine (suc least) zero (condition_tree fact_slots (condition.Winners 2)) (condition_tree fact_slots (condition.Winners (suc least))) refl refl

  condition_fine : (c : Cond) → IsFineIn code (condition_tree fact_slots c)
  condition_fine (condition.Valid share per) = share_fine share.value per share.at
  condition_fine (condition.Winners least) = least_fine least
  condition_fine condition.Minority = first_fine (condition_tree fact_slots condition.Minority) refl refl
  condition_fine condition.All = first_fine (condition_tree fact_slots condition.All) refl refl

  -- after it nothing is known
  nothing_known : (c : Cond) → kinds_along start_kinds (condition_tree fact_slots c) ≡ start_kinds
  nothing_known (condition.Valid share per) = refl
  nothing_known _ = refl

  conditions_fine : (cs : List Cond) → IsFineIn code (conditions_tree fact_slots cs)
  conditions_fine [] = refl
  conditions_fine (c ∷ cs) =
      both_hold (is_fine (judged_by (slice_get code.slots) (length code.stages)) start_kinds (condition_tree fact_slots c)) _ (condition_fine c)
      (ap (λ k. is_fine (judged_by (slice_get code.slots) (length code.stages)) k (conditions_tree fact_slots cs)) (nothing_known c) ∙ conditions_fine cs)

  pub eligible_fine : (cs : List Cond) → IsFineIn code (eligible_tree fact_slots cs)
  eligible_fine cs =
      both_hold (is_fine (judged_by (slice_get code.slots) (length code.stages)) start_kinds (Line (Zero fact_slots.eligible ∷ []))) _
      (first_fine (Line (Zero fact_slots.eligible ∷ [])) refl refl) (conditions_fine cs)

  -- ---- all of them

  pub fact_fine : (house : ℕ) (told : Fact) → IsFineIn code (fact_tree fact_slots house told)
  fact_fine house facts.House = first_fine (fact_tree fact_slots house facts.House) refl refl
  fact_fine house told = first_fine (fact_tree fact_slots house told) refl refl

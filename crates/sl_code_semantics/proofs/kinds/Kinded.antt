-- A code is well kinded exactly where it passes, and passes exactly where it fails no test.
use Rattle.std.proofs.Common.{◌≡◌, ◌↔◌, ℕ, zero, suc, List, [], ◌∷◌, ◌++◌, Option, Some, None, length, refl, ◌∙◌, sym, ap, subst}
use Rattle.std.specs.Prelude.{slice_get, IsTrue}
use Rattle.std.proofs.lemmas.Bool.{and_parts}
use Rattle.sl_code_instructions.specs.Codes.{CountingCode}
use Rattle.sl_code_instructions.specs.Rows.{target_of}
use Rattle.sl_code_instructions.specs.declared.instr.Instr.{Instr}
use Rattle.sl_code_instructions.specs.declared.kinds.Kinds.{Kinds}
use Rattle.sl_code_semantics.specs.declared.fault.VerifyFault.TheVariants as fault
use Rattle.sl_code_semantics.specs.Kinds.{start_kinds}
use Rattle.sl_code_semantics.specs.Needs.{has_registers, has_columns, has_kinds, has_table, has_needs}
use Rattle.sl_code_semantics.specs.Leaves.{behind, carried}
use Rattle.sl_code_semantics.specs.WellKinded.{declared_by, context_of, leads_well, has_stage_slots, coming, IsKinded, IsWellKinded}
use Rattle.sl_code_semantics.specs.Pieces.{kinds_here, comes_next, comes_after, meets, has_own, is_passed, are_passed}
use Rattle.sl_base_terms.specs.Tests.{test, first_failing}
use Rattle.sl_code_semantics.specs.Faults.{coming_tests, need_tests, jump_tests, own_tests, instr_tests, pass_tests, end_tests, verify_fault}
use Rattle.sl_base_terms.proofs.Tests.{pass_parts, pass_join}
use Rattle.sl_code_semantics.proofs.kinds.Passing.{both_hold, one_holds, one_passes, four_hold, four_pass, coming_meets, meets_coming, meets_stands, stands_meets, jump_leads, leads_jump, nothing_comes, nothing_ends}

module _ (code : CountingCode) where
  -- ---- tests

  instr_passed : (p : ℕ) (comes : Option Kinds) (i : Instr) → first_failing (instr_tests code p comes i) ≡ None → IsTrue (is_passed (context_of code) comes i)
  instr_passed p comes i h =
      let k = kinds_here comes (declared_by i) in
      let parts = pass_parts (coming_tests p comes (declared_by i)) (own_tests code p k i) h in
      let own = pass_parts (need_tests code p k i) (jump_tests code p (carried k i) (target_of i)) parts.1 in
      both_hold _ _ (coming_meets p comes (declared_by i) parts.0)
      (both_hold _ _ (four_hold (has_registers i) (has_columns (context_of code) i) (has_kinds (context_of code) k i) (has_table k i) _ _ _ _ own.0)
      (jump_leads code p (carried k i) (target_of i) own.1))

  passed_instr : (p : ℕ) (comes : Option Kinds) (i : Instr) → IsTrue (is_passed (context_of code) comes i) → first_failing (instr_tests code p comes i) ≡ None
  passed_instr p comes i h =
      let k = kinds_here comes (declared_by i) in
      let parts = and_parts (meets comes (declared_by i)) (has_own (context_of code) k i) h in
      let own = and_parts (has_needs (context_of code) k i) (leads_well (context_of code) (carried k i) (target_of i)) parts.1 in
      let needs = four_pass (has_registers i) (has_columns (context_of code) i) (has_kinds (context_of code) k i) (has_table k i)
      (fault.Register p) (fault.Slot p) (fault.Kind p) (fault.TableKind p) own.0 in
      pass_join (coming_tests p comes (declared_by i)) (own_tests code p k i) (meets_coming p comes (declared_by i) parts.0)
      (pass_join (need_tests code p k i) (jump_tests code p (carried k i) (target_of i)) needs (leads_jump code p (carried k i) (target_of i) own.1))

  tests_passed : (p : ℕ) (comes : Option Kinds) (is : List Instr) → first_failing (pass_tests code p comes is) ≡ None → IsTrue (are_passed (context_of code) comes is)
  tests_passed p comes [] h = refl
  tests_passed p comes (i ∷ is) h =
      let parts = pass_parts (instr_tests code p comes i) (pass_tests code (suc p) (comes_next comes i) is) h in
      both_hold _ _ (instr_passed p comes i parts.0) (tests_passed (suc p) (comes_next comes i) is parts.1)

  passed_tests : (p : ℕ) (comes : Option Kinds) (is : List Instr) → IsTrue (are_passed (context_of code) comes is) → first_failing (pass_tests code p comes is) ≡ None
  passed_tests p comes [] h = refl
  passed_tests p comes (i ∷ is) h =
      let parts = and_parts (is_passed (context_of code) comes i) (are_passed (context_of code) (comes_next comes i) is) h in
      pass_join (instr_tests code p comes i) (pass_tests code (suc p) (comes_next comes i) is)
      (passed_instr p comes i parts.0) (passed_tests (suc p) (comes_next comes i) is parts.1)

  pub tests_as_passed : (p : ℕ) (comes : Option Kinds) (is : List Instr) → (first_failing (pass_tests code p comes is) ≡ None) ↔ IsTrue (are_passed (context_of code) comes is)
  tests_as_passed p comes is = (tests_passed p comes is, passed_tests p comes is)

  -- ---- kinds from a pass

  -- the kinds that the pass gives to each place, where these reach the first
  abbrev kinds_along : List Instr → Option Kinds → ℕ → Kinds
  kinds_along [] comes p = start_kinds
  kinds_along (i ∷ is) comes zero = kinds_here comes (declared_by i)
  kinds_along (i ∷ is) comes (suc p) = kinds_along is (comes_next comes i) p

  passed_kinded : (comes : Option Kinds) (i : Instr) → IsTrue (is_passed (context_of code) comes i) → IsKinded code comes (kinds_here comes (declared_by i)) i
  passed_kinded comes i h =
      let k = kinds_here comes (declared_by i) in
      let parts = and_parts (meets comes (declared_by i)) (has_own (context_of code) k i) h in
      let own = and_parts (has_needs (context_of code) k i) (leads_well (context_of code) (carried k i) (target_of i)) parts.1 in
      record { stands = meets_stands comes (declared_by i) parts.0; needs = own.0; leads = own.1 }

  -- what comes to the places after the first instruction
  coming_next : (i : Instr) (is : List Instr) (comes : Option Kinds) (q : ℕ)
      → coming is (comes_next comes i) (kinds_along is (comes_next comes i)) q ≡ coming (i ∷ is) comes (kinds_along (i ∷ is) comes) (suc q)
  coming_next i is comes zero = refl
  coming_next i is comes (suc q) = refl

  each_kinded : (is : List Instr) (comes : Option Kinds) → IsTrue (are_passed (context_of code) comes is)
      → (q : ℕ) (i : Instr) → slice_get is q ≡ Some i → IsKinded code (coming is comes (kinds_along is comes) q) (kinds_along is comes q) i
  each_kinded [] comes h q i e = cc
  each_kinded (x ∷ is) comes h zero i e =
      let same : x ≡ i = cc in
      let parts = and_parts (is_passed (context_of code) comes x) (are_passed (context_of code) (comes_next comes x) is) h in
      subst (λ y. IsKinded code comes (kinds_here comes (declared_by x)) y) same (passed_kinded comes x parts.0)
  each_kinded (x ∷ is) comes h (suc q) i e =
      let next = comes_next comes x in
      let parts = and_parts (is_passed (context_of code) comes x) (are_passed (context_of code) next is) h in
      subst (λ c. IsKinded code c (kinds_along is next q) i) (coming_next x is comes q) (each_kinded is next parts.1 q i e)

  ends_kinded : (is : List Instr) (comes : Option Kinds) → coming is comes (kinds_along is comes) (length is) ≡ comes_after comes is
  ends_kinded [] comes = refl
  ends_kinded (x ∷ is) comes = sym (coming_next x is comes (length is)) ∙ ends_kinded is (comes_next comes x)

  -- ---- a pass from kinds

  kinded_passed : (comes : Option Kinds) (k : Kinds) (i : Instr) → IsKinded code comes k i → IsTrue (is_passed (context_of code) comes i) × (k ≡ kinds_here comes (declared_by i))
  kinded_passed comes k i h =
      let stands = stands_meets comes (declared_by i) k h.stands in
      let kinded : IsKinded code comes (kinds_here comes (declared_by i)) i = subst (λ k. IsKinded code comes k i) stands.1 h in
      (both_hold _ _ stands.0 (both_hold _ _ kinded.needs kinded.leads), stands.1)

  -- what comes to the places after the first instruction, where it leaves next
  coming_rest : (x : Instr) (is : List Instr) (comes next : Option Kinds) (kinds : ℕ → Kinds) (q : ℕ) → behind (kinds zero) x ≡ next
      → coming (x ∷ is) comes kinds (suc q) ≡ coming is next (λ n. kinds (suc n)) q
  coming_rest x is comes next kinds zero e = e
  coming_rest x is comes next kinds (suc q) e = refl

  all_pass : (is : List Instr) (comes : Option Kinds) (kinds : ℕ → Kinds)
      → ((q : ℕ) (i : Instr) → slice_get is q ≡ Some i → IsKinded code (coming is comes kinds q) (kinds q) i)
      → IsTrue (are_passed (context_of code) comes is) × (coming is comes kinds (length is) ≡ comes_after comes is)
  all_pass [] comes kinds each = (refl, refl)
  all_pass (x ∷ is) comes kinds each =
      let here = kinded_passed comes (kinds zero) x (each zero x refl) in
      let next = comes_next comes x in
      let leaves : behind (kinds zero) x ≡ next = ap (λ k. behind k x) here.1 in
      let rest = all_pass is next (λ n. kinds (suc n))
      (λ q i e. subst (λ c. IsKinded code c (kinds (suc q)) i) (coming_rest x is comes next kinds q leaves) (each (suc q) i e)) in
      (both_hold _ _ here.0 rest.0, coming_rest x is comes next kinds (length is) leaves ∙ rest.1)

  -- ---- both

  abbrev Passes : Type 0
  Passes = IsTrue (has_stage_slots code) × IsTrue (are_passed (context_of code) (Some start_kinds) code.instrs) × (comes_after (Some start_kinds) code.instrs ≡ None)

  kinded_passes : IsWellKinded code → Passes
  kinded_passes h =
      let all = all_pass code.instrs (Some start_kinds) h.kinds h.each in
      (h.stages, all.0, sym all.1 ∙ h.halts)

  passes_kinded : Passes → IsWellKinded code
  passes_kinded h = record {
    kinds = kinds_along code.instrs (Some start_kinds);
    stages = h.0;
    each = each_kinded code.instrs (Some start_kinds) h.1;
    halts = ends_kinded code.instrs (Some start_kinds) ∙ h.2;
  }

  pub kinded_as_passed : IsWellKinded code ↔ Passes
  kinded_as_passed = (kinded_passes, passes_kinded)

  -- ---- faults

  pub kinds_have_no_fault : IsWellKinded code → verify_fault code ≡ None
  kinds_have_no_fault kinded =
      let h = kinded_passes kinded in
      let pass = pass_tests code 0 (Some start_kinds) code.instrs in
      let end = end_tests (length code.instrs) (comes_after (Some start_kinds) code.instrs) in
      pass_join (test (has_stage_slots code) (fault.Slot 0) ∷ []) (pass ++ end)
      (one_passes (has_stage_slots code) (fault.Slot 0) h.0)
      (pass_join pass end (passed_tests 0 (Some start_kinds) code.instrs h.1) (nothing_ends (length code.instrs) _ h.2))

  pub no_fault_has_kinds : verify_fault code ≡ None → IsWellKinded code
  no_fault_has_kinds h =
      let pass = pass_tests code 0 (Some start_kinds) code.instrs in
      let end = end_tests (length code.instrs) (comes_after (Some start_kinds) code.instrs) in
      let parts = pass_parts (test (has_stage_slots code) (fault.Slot 0) ∷ []) (pass ++ end) h in
      let rest = pass_parts pass end parts.1 in
      passes_kinded (one_holds (has_stage_slots code) _ parts.0, tests_passed 0 (Some start_kinds) code.instrs rest.0, nothing_comes (length code.instrs) _ rest.1)

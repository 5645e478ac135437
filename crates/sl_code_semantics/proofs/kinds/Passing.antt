-- Tests that hold, as the facts that they say.
use Rattle.std.proofs.Common.{◌≡◌, ℕ, Bool, true, false, ◌&&◌, List, [], ◌∷◌, ◌++◌, Option, Some, None, Result, Ok, Err, refl, ◌∙◌}
use Rattle.std.specs.Prelude.{IsTrue}
use Rattle.std.specs.Option.{option_map_or}
use Rattle.sl_code_instructions.specs.Codes.{CountingCode}
use Rattle.sl_code_instructions.specs.declared.kinds.Kinds.{Kinds}
use Rattle.sl_code_semantics.specs.declared.fault.VerifyFault.{VerifyFault}
use Rattle.sl_code_semantics.specs.Kinds.{implies}
use Rattle.sl_code_semantics.specs.WellKinded.{declared_at, context_of, leads_well, Stands}
use Rattle.sl_code_semantics.specs.Pieces.{kinds_here, meets}
use Rattle.sl_base_terms.specs.Tests.{Test, test, first_failing, Judges}
use Rattle.sl_base_terms.proofs.Tests.{fails_in_row, pass_join}
use Rattle.sl_code_semantics.specs.Faults.{coming_tests, landing_tests, jump_tests, end_tests}

pub both_hold : (a b : Bool) → IsTrue a → IsTrue b → IsTrue (a && b)
both_hold true true h k = refl
both_hold true false h k = cc
both_hold false b h k = cc

-- ---- lists

pub fails_or_passes : (o : Option VerifyFault) (f : VerifyFault) → o ≡ Some f → o ≡ None → ⊥
fails_or_passes None f h p = cc
fails_or_passes (Some g) f h p = cc

-- a list of tests after one whose tests hold
pub judges_behind : (a b : List (Test VerifyFault)) (r : Result (Unit {0}) VerifyFault) → first_failing a ≡ None → Judges r b tt → Judges r (a ++ b) tt
judges_behind a b (Ok x) none judged = (pass_join a b none judged.0, judged.1)
judges_behind a b (Err f) none judged = fails_in_row a b ∙ rw none judged

pub one_holds : (b : Bool) (f : VerifyFault) → first_failing (test b f ∷ []) ≡ None → IsTrue b
one_holds true f h = refl
one_holds false f h = cc

pub one_passes : (b : Bool) (f : VerifyFault) → IsTrue b → first_failing (test b f ∷ []) ≡ None
one_passes b f h = rw h refl

pub four_hold : (a b c d : Bool) (e f g h : VerifyFault)
    → first_failing (test a e ∷ test b f ∷ test c g ∷ test d h ∷ []) ≡ None → IsTrue (a && b && c && d)
four_hold true true true true e f g h p = refl
four_hold true true true false e f g h p = cc
four_hold true true false d e f g h p = cc
four_hold true false c d e f g h p = cc
four_hold false b c d e f g h p = cc

pub four_pass : (a b c d : Bool) (e f g h : VerifyFault)
    → IsTrue (a && b && c && d) → first_failing (test a e ∷ test b f ∷ test c g ∷ test d h ∷ []) ≡ None
four_pass true true true true e f g h p = refl
four_pass true true true false e f g h p = cc
four_pass true true false d e f g h p = cc
four_pass true false c d e f g h p = cc
four_pass false b c d e f g h p = cc

-- ---- the tests of an instruction

pub coming_meets : (p : ℕ) (comes declared : Option Kinds) → first_failing (coming_tests p comes declared) ≡ None → IsTrue (meets comes declared)
coming_meets p None None h = cc
coming_meets p None (Some d) h = refl
coming_meets p (Some c) None h = refl
coming_meets p (Some c) (Some d) h = one_holds (implies c d) _ h

pub meets_coming : (p : ℕ) (comes declared : Option Kinds) → IsTrue (meets comes declared) → first_failing (coming_tests p comes declared) ≡ None
meets_coming p None None h = cc
meets_coming p None (Some d) h = refl
meets_coming p (Some c) None h = refl
meets_coming p (Some c) (Some d) h = one_passes (implies c d) _ h

pub meets_stands : (comes declared : Option Kinds) → IsTrue (meets comes declared) → Stands comes declared (kinds_here comes declared)
meets_stands None None h = cc
meets_stands None (Some d) h = refl
meets_stands (Some c) None h = refl
meets_stands (Some c) (Some d) h = (refl, h)

pub stands_meets : (comes declared : Option Kinds) (k : Kinds) → Stands comes declared k → IsTrue (meets comes declared) × (k ≡ kinds_here comes declared)
stands_meets None None k h = absurd h
stands_meets None (Some d) k h = (refl, h)
stands_meets (Some c) None k h = (refl, h)
stands_meets (Some c) (Some d) k h = (h.1, h.0)

landing_leads : (code : CountingCode) (p : ℕ) (k : Kinds) (t : ℕ) → first_failing (landing_tests p k (declared_at code t)) ≡ None
    → IsTrue (leads_well (context_of code) k (Some t))
landing_leads code p k t = elim (declared_at code t) as (λ o. first_failing (landing_tests p k o) ≡ None → IsTrue (option_map_or (implies k) o false))
    [ None ↦ λ h. cc | Some d ↦ λ h. one_holds (implies k d) _ h ]

pub jump_leads : (code : CountingCode) (p : ℕ) (k : Kinds) (t : Option ℕ) → first_failing (jump_tests code p k t) ≡ None → IsTrue (leads_well (context_of code) k t)
jump_leads code p k None h = refl
jump_leads code p k (Some t) h = landing_leads code p k t h

pub leads_jump : (code : CountingCode) (p : ℕ) (k : Kinds) (t : Option ℕ) → IsTrue (leads_well (context_of code) k t) → first_failing (jump_tests code p k t) ≡ None
leads_jump code p k None h = refl
leads_jump code p k (Some t) h = elim (declared_at code t) as (λ o. IsTrue (option_map_or (implies k) o false) → first_failing (landing_tests p k o) ≡ None)
    [ None ↦ λ h. cc | Some d ↦ λ h. one_passes (implies k d) _ h ] h

-- ---- the end

pub nothing_ends : (p : ℕ) (comes : Option Kinds) → comes ≡ None → first_failing (end_tests p comes) ≡ None
nothing_ends p comes h = rw h refl

pub nothing_comes : (p : ℕ) (comes : Option Kinds) → first_failing (end_tests p comes) ≡ None → comes ≡ None
nothing_comes p None h = refl
nothing_comes p (Some c) h = cc

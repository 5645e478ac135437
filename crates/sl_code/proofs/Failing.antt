-- Bytes that fail the tests of an instruction's operands.
use Rattle.std.proofs.Common.{◌≡◌, ℕ, Bool, List, [], ◌∷◌, ◌++◌, IsTrue, MatchBool, refl, sym, subst}
use Rattle.sl_code.specs.declared.fault.Cause.TheVariants as causes
use Rattle.sl_code.specs.declared.fault.Stop.{Stop}
use Rattle.sl_code_instructions.specs.declared.kinds.Cursors.{Cursors}
use Rattle.sl_code_instructions.specs.declared.operand.ScopeKind.{ScopeKind}
use Rattle.sl_code_instructions.specs.Numbers.{scope_number, cursors_number}
use Rattle.sl_code.specs.Operands.{is_any, is_below, is_scope, two_bytes}
use Rattle.sl_code.specs.Faults.{FailsFrom, FailsTests, stop_at}
use Rattle.sl_code.specs.Reading.{Ends, FailsAhead}
use Rattle.sl_code.proofs.Values.{scope_known, cursors_known}

-- a byte that passes is passed over
pub pass : (wrong : List ℕ → Stop) (test : ℕ → Bool) (tests : List (ℕ → Bool)) (b : ℕ) (old here : List ℕ) (stop : Stop)
    → old ≡ b ∷ here → IsTrue (test b) → FailsTests wrong tests here stop → FailsTests wrong (test ∷ tests) old stop
pass wrong test tests b old here stop old_is passes failing =
    let Fails : Bool → Type 0 = λ v. MatchBool v (FailsFrom wrong tests here stop) (stop ≡ wrong (b ∷ here)) in
    subst (λ (xs : List ℕ). FailsTests wrong (test ∷ tests) xs stop) (sym old_is) (record { fails = subst Fails (sym passes) failing.fails })

-- where no byte is left
pub ends_tests : (wrong : List ℕ → Stop) (test : ℕ → Bool) (tests : List (ℕ → Bool)) (here : List ℕ) (stop : Stop) → Ends here stop → FailsTests wrong (test ∷ tests) here stop
ends_tests wrong test tests here stop ends =
    subst (λ (xs : List ℕ). FailsTests wrong (test ∷ tests) xs stop) (sym ends.none) (record { fails = ends.is })

pub later : (test : ℕ → Bool) (tests : List (ℕ → Bool)) (b : ℕ) (old here : List ℕ) (stop : Stop) → old ≡ b ∷ here → FailsAhead tests here stop → IsTrue (test b) → FailsAhead (test ∷ tests) old stop
later test tests b old here stop old_is failing passes =
    record { fails = λ more. pass (stop_at causes.Op) test (tests ++ more) b old here stop old_is passes (failing.fails more) }

-- two bytes one after another
pub later_two : (test next : ℕ → Bool) (tests : List (ℕ → Bool)) (a b : ℕ) (old here : List ℕ) (stop : Stop) → old ≡ a ∷ b ∷ here → FailsAhead tests here stop → IsTrue (test a) → IsTrue (next b)
    → FailsAhead (test ∷ next ∷ tests) old stop
later_two test next tests a b old here stop old_is failing first second =
    later test (next ∷ tests) a old (b ∷ here) stop old_is (later next tests b (b ∷ here) here stop refl failing second) first

pub later_registers : (tests : List (ℕ → Bool)) (n : ℕ) (old here : List ℕ) (stop : Stop) → old ≡ two_bytes n ++ here → FailsAhead tests here stop → FailsAhead (is_any ∷ is_any ∷ tests) old stop
unfolding two_bytes
later_registers tests n old here stop old_is failing =
    later_two is_any is_any tests _ _ old here stop old_is failing refl refl

-- tests that are failed, with more of them after
pub more_two : (test next : ℕ → Bool) (tests : List (ℕ → Bool)) (here : List ℕ) (stop : Stop) → FailsAhead (test ∷ next ∷ []) here stop → FailsAhead (test ∷ next ∷ tests) here stop
more_two test next tests here stop failing = record { fails = λ more. failing.fails (tests ++ more) }

pub more_one : (test next : ℕ → Bool) (tests : List (ℕ → Bool)) (here : List ℕ) (stop : Stop) → FailsAhead (test ∷ []) here stop → FailsAhead (test ∷ next ∷ tests) here stop
more_one test next tests here stop failing = record { fails = λ more. failing.fails (next ∷ tests ++ more) }

-- the third of four tests or more
pub later_two_more : (test next third fourth : ℕ → Bool) (tests : List (ℕ → Bool)) (a b : ℕ) (old here : List ℕ) (stop : Stop) → old ≡ a ∷ b ∷ here → FailsAhead (third ∷ []) here stop → IsTrue (test a) → IsTrue (next b)
    → FailsAhead (test ∷ next ∷ third ∷ fourth ∷ tests) old stop
later_two_more test next third fourth tests a b old here stop old_is failing =
    later_two test next (third ∷ fourth ∷ tests) a b old here stop old_is (more_one third fourth tests here stop failing)

-- ---- numbers that pass

pub scope_passes : (x : ScopeKind) → IsTrue (is_scope (scope_number x))
scope_passes x = (scope_known x).0

pub cursors_passes : (x : Cursors) → IsTrue (is_below 8 (cursors_number x))
cursors_passes x = (cursors_known x).0

-- Allocations by tests that compute: some, and the only ones.
use Rattle.std.proofs.Common.{◌≡◌, ℕ, Bool, true, false, List, length, sum, refl}
use Rattle.sl_base_quotients.specs.declared.method.Divisor.{Divisor}
use Rattle.sl_law_meaning.specs.methods.Allocations.{IsDivisorAllocation}
use Rattle.sl_law_meaning.specs.methods.Covering.{IsCovering}
use Rattle.sl_law_meaning.specs.methods.Hamilton.{IsHamiltonAllocation}
use Rattle.sl_law_meaning.specs.laws.Ladders.{divisor_ladders, hamilton_ladders, covering_ladders}
use Rattle.sl_law_meaning.specs.laws.MethodLaws.{AllHaveVotes}
use Rattle.sl_law_meaning.proofs.methods.CoveringProofs.{covering_tops}
use Rattle.sl_law_meaning.proofs.methods.LadderProofs.{batches}
use Rattle.sl_law_meaning.proofs.methods.DivisorProofs.{divisor_tops}
use Rattle.sl_law_meaning.proofs.methods.HamiltonProofs.{hamilton_tops}
use Rattle.sl_law_examples.specs.Failures.{IsOnly}
use Rattle.sl_law_examples.proofs.Tested.{settled_test, top_test, settled_by_test, top_by_test}

module _ (method : Divisor) (v m s : List ℕ) (e : length m ≡ length v) (f : length s ≡ length m) where
  pub divisor_some : top_test (divisor_ladders method v m) s ≡ true → IsDivisorAllocation method v m (sum s) s
  divisor_some test =
      let tops = divisor_tops method v m e in
      (tops.tops (sum s) s).1 (top_by_test (divisor_ladders method v m) s tops.falling f test)

  pub divisor_only : settled_test (divisor_ladders method v m) s ≡ true → IsOnly (IsDivisorAllocation method v m (sum s)) s
  divisor_only test =
      let l = divisor_ladders method v m in
      let tops = divisor_tops method v m e in
      let alone = ((batches l tops.falling).settled s (settled_by_test l s tops.falling f test)).alone in
      ((tops.tops (sum s) s).1 ((alone s).1 refl), λ t h. (alone t).0 ((tops.tops (sum s) t).0 h))

pub hamilton_some : (prefer : Bool) (v s : List ℕ) → length s ≡ length (hamilton_ladders prefer v (sum s)).base → top_test (hamilton_ladders prefer v (sum s)) s ≡ true →
    IsHamiltonAllocation prefer v (sum s) s
hamilton_some prefer v s f test =
    let tops = hamilton_tops prefer v (sum s) in
    (tops.tops s).1 (top_by_test (hamilton_ladders prefer v (sum s)) s tops.falling f test)

pub hamilton_only_with : (prefer : Bool) (v s : List ℕ) → length s ≡ length (hamilton_ladders prefer v (sum s)).base → settled_test (hamilton_ladders prefer v (sum s)) s ≡ true →
    IsOnly (IsHamiltonAllocation prefer v (sum s)) s
hamilton_only_with prefer v s f test =
    let l = hamilton_ladders prefer v (sum s) in
    let tops = hamilton_tops prefer v (sum s) in
    let alone = ((batches l tops.falling).settled s (settled_by_test l s tops.falling f test)).alone in
    ((tops.tops s).1 ((alone s).1 refl), λ t h. (alone t).0 ((tops.tops t).0 h))

pub hamilton_only : (v s : List ℕ) → length s ≡ length (hamilton_ladders false v (sum s)).base → settled_test (hamilton_ladders false v (sum s)) s ≡ true →
    IsOnly (IsHamiltonAllocation false v (sum s)) s
hamilton_only v s f test = hamilton_only_with false v s f test

pub covering_only : (first valid s : List ℕ) → AllHaveVotes first → length s ≡ length (covering_ladders first valid).base → settled_test (covering_ladders first valid) s ≡ true →
    IsOnly (IsCovering first valid (sum s)) s
covering_only first valid s some f test =
    let l = covering_ladders first valid in
    let tops = covering_tops first valid some in
    let alone = ((batches l tops.falling).settled s (settled_by_test l s tops.falling f test)).alone in
    ((tops.tops (sum s) s).1 ((alone s).1 refl), λ t h. (alone t).0 ((tops.tops (sum s) t).0 h))

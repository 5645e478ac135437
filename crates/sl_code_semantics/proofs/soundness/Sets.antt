-- Sets of registers and of cursors: what is in a set that is written, joined or implied.
use Rattle.std.proofs.Common.{◌≢◌, ℕ, ◌<◌, ◌^◌, Bool, true, false, not, ◌&&◌, ◌||◌, Option, IsTrue, ◌==◌, if◌then◌else◌, bit_and, bit_or, refl, sym, subst, inl, inr, arith, w16, eqb-true, eq-eqb, ne_eqb, ltb-true}
use Rattle.std.specs.Int.{bit_at, bit_not}
use Rattle.std.proofs.lemmas.Bool.{cases_eq, and_parts, true≢false}
use Rattle.std.proofs.lemmas.Nat.{pow_below}
use Rattle.std.proofs.lemmas.Nat.Bits.{bit_at_and, bit_at_or, bit_at_not, bit_at-lt, bit_at-zero, bit_at-pow_same, bit_at-pow_other}
use Rattle.sl_code_instructions.specs.declared.kinds.Registers.{Registers}
use Rattle.sl_code_instructions.specs.declared.kinds.Cursors.{Cursors}
use Rattle.sl_code_semantics.specs.Kinds.{contains, with_register, includes, is_register, covers, no_cursors}
use Rattle.sl_code_semantics.proofs.kinds.RegisterSets.{includes_each}
use Rattle.sl_code_semantics.specs.Agrees.{ArePositive, AreSet}

-- ---- registers

-- a register of a set with one more is that one or in the set
in_set_with : (r q : ℕ) (set : Registers) → q ≢ r → IsTrue (contains (with_register true r set) q) → IsTrue (contains set q)
in_set_with r q set other h =
    let e = eqb-true (bit_at (bit_or set.mask (2 ^ r)) q) 1 h in
    let either = bit_at_or set.mask (2 ^ r) q in
    let none = bit_at-pow_other r q other in
    eq-eqb (bit_at set.mask q) 1 (omega arith)

-- a register of a set without one is in the set
in_set_without : (r q : ℕ) (set : Registers) → IsTrue (contains (with_register false r set) q) → IsTrue (contains set q)
in_set_without r q set h =
    let e = eqb-true (bit_at (bit_and set.mask (bit_not w16 (2 ^ r))) q) 1 h in
    let both = bit_at_and set.mask (bit_not w16 (2 ^ r)) q in
    let small = bit_at-lt set.mask q in
    eq-eqb (bit_at set.mask q) 1 (omega arith)

-- the register that was taken out is not in the set
not_in_without : (r : ℕ) (set : Registers) → IsTrue (is_register r) → IsTrue (contains (with_register false r set) r) → ⊥
not_in_without r set here h =
    let below : r < 16 = ltb-true r 16 here in
    let e = eqb-true (bit_at (bit_and set.mask (bit_not w16 (2 ^ r))) r) 1 h in
    let both = bit_at_and set.mask (bit_not w16 (2 ^ r)) r in
    let clear = bit_at_not w16 (2 ^ r) r (pow_below r 16 below) below in
    let one = bit_at-pow_same r in
    omega arith

-- writing a register keeps the set, with the register where its value is known to be positive, and without it elsewhere
pub positive_written : (b : Bool) (r value : ℕ) (set : Registers) (registers : ℕ → ℕ) → IsTrue (is_register r) → (IsTrue b → 0 < value)
    → ArePositive set registers → ArePositive (with_register b r set) (λ q. if q == r then value else registers q)
positive_written true r value set registers here known all q h =
    elim (cases_eq q r) [
      | inl e ↦ rw (eq-eqb q r e) (known refl)
      | inr other ↦ rw (ne_eqb q r other) (all q (in_set_with r q set other h))
    ]
positive_written false r value set registers here known all q h =
    elim (cases_eq q r) [
      | inl e ↦ absurd (not_in_without r set here (subst (λ (x : ℕ). IsTrue (contains (with_register false r set) x)) e h))
      | inr other ↦ rw (ne_eqb q r other) (all q (in_set_without r q set h))
    ]

-- writing a positive number keeps the set
pub positive_kept : (r value : ℕ) (set : Registers) (registers : ℕ → ℕ) → 0 < value → ArePositive set registers → ArePositive set (λ q. if q == r then value else registers q)
positive_kept r value set registers known all q h =
    elim (cases_eq q r) [
      | inl e ↦ rw (eq-eqb q r e) known
      | inr other ↦ rw (ne_eqb q r other) (all q h)
    ]

-- a register that is found to be positive comes into the set
pub positive_found : (r : ℕ) (set : Registers) (registers : ℕ → ℕ) → 0 < registers r → ArePositive set registers → ArePositive (with_register true r set) registers
positive_found r set registers known all q h =
    elim (cases_eq q r) [
      | inl e ↦ rw e known
      | inr other ↦ all q (in_set_with r q set other h)
    ]

-- the registers of a set that another one includes
pub positive_included : (have need : Registers) (registers : ℕ → ℕ) → IsTrue (includes have need) → ArePositive have registers → ArePositive need registers
positive_included have need registers h all q c = all q (includes_each have need h q c)

pub none_positive : (registers : ℕ → ℕ) → ArePositive (record { mask = 0 }) registers
none_positive registers q h =
    let one = eqb-true (bit_at 0 q) 1 h in
    let none = bit_at-zero q in
    absurd (omega arith)

-- ---- cursors

-- what is asked where there must be as much as is needed
pub asked : (have need : Bool) → IsTrue (have || not need) → IsTrue need → IsTrue have
asked true need h k = refl
asked false true h k = h
asked false false h k = k

-- the cursors of a set that another one covers
pub set_covered : {p l w : Option ℕ} (have need : Cursors) → IsTrue (covers have need) → AreSet have p l w → AreSet need p l w
set_covered have need h all =
    let all_parts = and_parts ((have.party || not need.party) && (have.land || not need.land)) (have.win || not need.win) h in
    let parts = and_parts (have.party || not need.party) (have.land || not need.land) all_parts.0 in
    record {
      party = λ k. all.party (asked have.party need.party parts.0 k);
      land = λ k. all.land (asked have.land need.land parts.1 k);
      win = λ k. all.win (asked have.win need.win all_parts.1 k);
    }

pub none_set : {p l w : Option ℕ} → AreSet no_cursors p l w
none_set = record { party = λ h. absurd (true≢false (sym h)); land = λ h. absurd (true≢false (sym h)); win = λ h. absurd (true≢false (sym h)) }

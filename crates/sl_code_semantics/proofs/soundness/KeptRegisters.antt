-- The instructions on registers keep what is known.
use Rattle.std.proofs.Common.{◌⊎◌, ℕ, ◌+◌, ◌*◌, ◌<◌, min, max, Bool, false, ◌&&◌, ◌||◌, IsTrue, Option, Some, None, refl, sym, inl, inr, arith, mul-pos}
use Rattle.std.specs.Option.{ForSome}
use Rattle.std.proofs.lemmas.Bool.{and_parts, or_cases, true≢false}
use Rattle.sl_law_meaning.specs.returns.Election.{Election, IsElection}
use Rattle.sl_code_instructions.specs.declared.instr.Instr.TheVariants as op
use Rattle.sl_code_instructions.specs.declared.kinds.Kinds.{Kinds}
use Rattle.sl_code_semantics.specs.Kinds.{contains, is_register, with_register}
use Rattle.sl_code_semantics.specs.State as machine
use Rattle.sl_code_semantics.specs.State.{State}
use Rattle.sl_code_semantics.specs.Effects.{most, sets_house}
use Rattle.sl_code_semantics.proofs.soundness.Sets.{positive_written, positive_kept}
use Rattle.sl_code_semantics.proofs.soundness.Keeping.{Keeps, Follows, keeps_registers}

module _ (e : Election) (k : Kinds) (s : State) (h : Keeps e k s) where
  -- a register is written, and is known to be positive if b says so
  pub written : (b : Bool) (r value : ℕ) → IsTrue (is_register r) → (IsTrue b → 0 < value) → Keeps e (record k { positive = with_register b r k.positive }) (machine.with_register r value s)
  written b r value here known = keeps_registers e k s h _ _ (positive_written b r value k.positive s.registers here known h.agrees.positive)

  -- the first of two registers
  pub first_written : (b : Bool) (r q value : ℕ) → IsTrue (is_register r && is_register q) → (IsTrue b → 0 < value)
      → Keeps e (record k { positive = with_register b r k.positive }) (machine.with_register r value s)
  first_written b r q value here known = written b r value (and_parts (is_register r) (is_register q) here).0 known

  pub known_least : (q : ℕ) → IsTrue (contains k.positive q) → 0 < s.registers q
  known_least q t = h.agrees.positive q t

  pub none_least : (n : ℕ) → IsTrue false → 0 < n
  none_least n t = absurd (true≢false (sym t))

  pub both_least : (r q : ℕ) → IsTrue (contains k.positive r && contains k.positive q) → 0 < min (s.registers r * s.registers q) most
  both_least r q t =
      let both = and_parts (contains k.positive r) (contains k.positive q) t in
      let p = mul-pos (h.agrees.positive r both.0) (h.agrees.positive q both.1) in omega arith

  either : (r q : ℕ) → IsTrue (contains k.positive r || contains k.positive q) → 0 < s.registers r ⊎ 0 < s.registers q
  either r q t = elim (or_cases (contains k.positive r) (contains k.positive q) t) [
    | inl u ↦ inl (h.agrees.positive r u)
    | inr u ↦ inr (h.agrees.positive q u)
  ]

  pub one_least : (r q : ℕ) → IsTrue (contains k.positive r || contains k.positive q) → 0 < min (s.registers r + s.registers q) most
  one_least r q t = let some = either r q t in omega arith

  pub one_greatest : (r q : ℕ) → IsTrue (contains k.positive r || contains k.positive q) → 0 < max (s.registers r) (s.registers q)
  one_greatest r q t = let some = either r q t in omega arith

  -- the house that the returns give is positive, so that the register is known as before
  pub house_set : (r : ℕ) → IsElection e → Follows e k (op.House r) (sets_house r e.house s)
  house_set r election = of e.house (λ x same. (election.house x same).0)
    where
      of : (house : Option ℕ) → ForSome house (λ x. 0 < x) → Follows e k (op.House r) (sets_house r house s)
      of None positive = h
      of (Some x) positive = keeps_registers e k s h _ _ (positive_kept r x k.positive s.registers (positive x refl) h.agrees.positive)

  pub ruleset registers_kept = (written, first_written, known_least, none_least, both_least, one_least, one_greatest, house_set)

-- The instructions on registers and columns, and the jumps that compare registers.
use Rattle.std.proofs.Common.{◌≡◌, ◌≢◌, ℕ, suc, ◌+◌, ◌-◌, ◌/◌, ◌%◌, ◌<◌, ◌≤◌, min, max, ◌==◌, Option, Some, None, slice_get, if◌then◌else◌, refl, ap, arith, ne_eqb}
use Rattle.std.proofs.lemmas.Bool.{lt-ltb, le-ltb}
use Rattle.sl_base_terms.specs.declared.shape.Shape.{Shape}
use Rattle.sl_law_meaning.specs.returns.Election.{Election}
use Rattle.sl_code_instructions.specs.declared.instr.Instr.TheVariants as instr
use Rattle.sl_code_instructions.specs.declared.operand.Input.{Input}
use Rattle.sl_code_instructions.specs.Codes.{CountingCode}
use Rattle.sl_code_semantics.specs.State.{State, with_register, with_column, with_cell}
use Rattle.sl_code_semantics.specs.Places.{cell_at}
use Rattle.sl_code_semantics.specs.Effects.{Effect, Goes, Jumps, most, given, where_positive, sets, sets_house, input_of, effect}

-- what there must be is there
pub given_is : {A : Type 0} (o : Option A) (x : A) (go : A → Effect) → o ≡ Some x → given o go ≡ go x
given_is o x go h = ap (λ p. given p go) h

pub positive_is : (n w : ℕ) (x : Effect) → n ≡ suc w → where_positive n x ≡ x
positive_is n w x h = ap (λ (m : ℕ). where_positive m x) h

module _ (c : CountingCode) (e : Election) (s : State) where
  -- ---- numbers
  pub set_does : (r x : ℕ) → effect c e (instr.Set r x) s ≡ Goes (with_register r x s)
  set_does r x = refl

  pub add_does : (r q : ℕ) → effect c e (instr.Add r q) s ≡ Goes (with_register r (min (s.registers r + s.registers q) most) s)
  add_does r q = refl

  pub sub_does : (r q : ℕ) → effect c e (instr.Sub r q) s ≡ Goes (with_register r (s.registers r - s.registers q) s)
  sub_does r q = refl

  pub max_does : (r q : ℕ) → effect c e (instr.Max r q) s ≡ Goes (with_register r (max (s.registers r) (s.registers q)) s)
  max_does r q = refl

  pub div_does : (r q w : ℕ) → s.registers q ≡ suc w → effect c e (instr.Div r q) s ≡ Goes (with_register r (s.registers r / s.registers q) s)
  div_does r q w h = positive_is (s.registers q) w (sets r (s.registers r / s.registers q) s) h

  pub rem_does : (r q w : ℕ) → s.registers q ≡ suc w → effect c e (instr.Rem r q) s ≡ Goes (with_register r (s.registers r % s.registers q) s)
  rem_does r q w h = positive_is (s.registers q) w (sets r (s.registers r % s.registers q) s) h

  pub house_there : (r h : ℕ) → e.house ≡ Some h → effect c e (instr.House r) s ≡ Goes (with_register r h s)
  house_there r h is = ap (λ (o : Option ℕ). sets_house r o s) is

  pub house_missing : (r : ℕ) → e.house ≡ None → effect c e (instr.House r) s ≡ Goes s
  house_missing r is = ap (λ (o : Option ℕ). sets_house r o s) is

  -- ---- jumps
  pub jz_jumps : (r t : ℕ) → s.registers r ≡ 0 → effect c e (instr.Jz r t) s ≡ Jumps s
  jz_jumps r t h = ap (λ (n : ℕ). if n == 0 then Jumps s else Goes s) h

  pub jz_falls : (r t w : ℕ) → s.registers r ≡ suc w → effect c e (instr.Jz r t) s ≡ Goes s
  jz_falls r t w h =
      let other : s.registers r ≢ 0 = λ z. omega arith in
      ap (λ b. if b then Jumps s else Goes s) (ne_eqb (s.registers r) 0 other)

  pub jlt_jumps : (l r t : ℕ) → s.registers l < s.registers r → effect c e (instr.Jlt l r t) s ≡ Jumps s
  jlt_jumps l r t h = ap (λ b. if b then Jumps s else Goes s) (lt-ltb (s.registers l) (s.registers r) h)

  pub jlt_falls : (l r t : ℕ) → s.registers r ≤ s.registers l → effect c e (instr.Jlt l r t) s ≡ Goes s
  jlt_falls l r t h = ap (λ b. if b then Jumps s else Goes s) (le-ltb (s.registers l) (s.registers r) h)

  -- ---- columns
  module _ (k : ℕ) (shape : Shape) (slot : slice_get c.slots k ≡ Some shape) where
    pub get_does : (r p : ℕ) → cell_at e shape s ≡ Some p → effect c e (instr.Get r k) s ≡ Goes (with_register r (s.columns k p) s)
    get_does r p cell = rw (slot, cell) refl

    pub store_does : (r p : ℕ) → cell_at e shape s ≡ Some p → effect c e (instr.Store k r) s ≡ Goes (with_cell k p (s.registers r) s)
    store_does r p cell = rw (slot, cell) refl

    pub zero_does : effect c e (instr.Zero k) s ≡ Goes (with_column k (λ p. 0) s)
    zero_does = given_is (slice_get c.slots k) shape (λ x. Goes (with_column k (λ p. 0) s)) slot

    pub input_does : (i : Input) → effect c e (instr.Input k i) s ≡ Goes (with_column k (input_of e i) s)
    input_does i = given_is (slice_get c.slots k) shape (λ x. Goes (with_column k (input_of e i) s)) slot

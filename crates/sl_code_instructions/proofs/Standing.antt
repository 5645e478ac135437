-- Instructions that stand in a code: their parts, and one by one.
use Rattle.std.proofs.Common.{◌≡◌, ℕ, zero, suc, ◌+◌, List, [], ◌∷◌, ◌++◌, length, Some, refl, sym, ap, ◌∙◌, arith, append_assoc, length-append}
use Rattle.std.specs.Prelude.{slice_get}
use Rattle.std.proofs.lemmas.List.{append-nil}
use Rattle.sl_code_instructions.specs.declared.instr.Instr.{Instr}
use Rattle.sl_code_instructions.specs.Codes.{CountingCode}
use Rattle.sl_code_instructions.specs.Standing.{HasAt}

-- ---- lists

get_after : {X : Type 0} (before xs : List X) (n : ℕ) → slice_get (before ++ xs) (length before + n) ≡ slice_get xs n
get_after [] xs n = ap (slice_get xs) (omega arith)
get_after (b ∷ before) xs n =
    let next : length (b ∷ before) + n ≡ suc (length before + n) = omega arith in
    ap (slice_get (b ∷ before ++ xs)) next ∙ get_after before xs n

get_before : {X : Type 0} (xs after : List X) (n : ℕ) (x : X) → slice_get xs n ≡ Some x → slice_get (xs ++ after) n ≡ Some x
get_before [] after n x e = cc
get_before (y ∷ xs) after zero x e = e
get_before (y ∷ xs) after (suc n) x e = get_before xs after n x e

-- ---- parts

module _ (c : CountingCode) where
  -- a code's instructions stand at its start
  pub all_stand : HasAt c 0 c.instrs
  all_stand = record { before = []; after = []; placed = refl; whole = sym (append-nil c.instrs) }

  -- a prefix of them, and the rest after it
  pub prefix_stands : (at : ℕ) (xs ys : List Instr) → HasAt c at (xs ++ ys) → HasAt c at xs
  prefix_stands at xs ys h = record { before = h.before; after = ys ++ h.after; placed = h.placed; whole = h.whole ∙ ap (λ is. h.before ++ is) (append_assoc xs ys h.after) }

  pub rest_stands : (at : ℕ) (xs ys : List Instr) → HasAt c at (xs ++ ys) → HasAt c (at + length xs) ys
  rest_stands at xs ys h = record {
    before = h.before ++ xs;
    after = h.after;
    placed = omega (arith, length-append h.before xs, h.placed);
    whole = h.whole ∙ ap (λ is. h.before ++ is) (append_assoc xs ys h.after) ∙ sym (append_assoc h.before xs (ys ++ h.after));
  }

  -- ---- one by one

  pub stands_each : (at : ℕ) (xs : List Instr) (n : ℕ) (i : Instr) → HasAt c at xs → slice_get xs n ≡ Some i → slice_get c.instrs (at + n) ≡ Some i
  stands_each at xs n i h e =
      let there : slice_get c.instrs (length h.before + n) ≡ Some i = ap (λ is. slice_get is (length h.before + n)) h.whole ∙ get_after h.before (xs ++ h.after) n ∙ get_before xs h.after n i e in
      ap (λ p. slice_get c.instrs (p + n)) (sym h.placed) ∙ there

  pub first_stands : (at : ℕ) (i : Instr) (is : List Instr) → HasAt c at (i ∷ is) → slice_get c.instrs at ≡ Some i
  first_stands at i is h = ap (slice_get c.instrs) (omega arith) ∙ stands_each at (i ∷ is) 0 i h refl

  pub next_stand : (at : ℕ) (i : Instr) (is : List Instr) → HasAt c at (i ∷ is) → HasAt c (suc at) is
  next_stand at i is h = rw (suc_is at) (rest_stands at (i ∷ []) is h)
    where
      suc_is : (n : ℕ) → suc n ≡ n + 1
      suc_is n = omega arith

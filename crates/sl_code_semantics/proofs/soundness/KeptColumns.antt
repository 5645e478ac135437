-- The jumps on registers and the instructions on columns keep what is known.
use Rattle.std.proofs.Common.{◌≡◌, ℕ, ◌<◌, true, false, IsTrue, Option, Some, None, IsSome, IsSomeAnd, slice_get, ◌==◌, refl, arith}
use Rattle.std.specs.Bool.{⊤}
use Rattle.std.specs.Option.{option_map_or}
use Rattle.std.proofs.lemmas.Bool.{eqb-false}
use Rattle.sl_base_terms.specs.declared.shape.Shape.{Shape}
use Rattle.sl_base_terms.specs.declared.shape.Shape.TheVariants as shape
use Rattle.sl_law_meaning.specs.returns.Election.{Election, has_list}
use Rattle.sl_base_terms.specs.Shapes.{same_shape}
use Rattle.sl_code_instructions.specs.Codes.{CountingCode}
use Rattle.sl_code_instructions.specs.declared.instr.Instr.{Instr}
use Rattle.sl_code_instructions.specs.declared.instr.Instr.TheVariants as op
use Rattle.sl_code_instructions.specs.declared.kinds.Kinds.{Kinds}
use Rattle.sl_code_semantics.specs.Kinds.{list_cursors, no_cursors, covers, with_register}
use Rattle.sl_code_semantics.specs.Needs.{shape_cursors, slot_cursors}
use Rattle.sl_code_semantics.specs.WellKinded.{context_of}
use Rattle.sl_code_semantics.specs.State.{State}
use Rattle.sl_code_semantics.specs.Places.{both, cell_at}
use Rattle.sl_code_semantics.specs.Effects.{Effect, Goes, Jumps, given}
use Rattle.sl_code_semantics.specs.Agrees.{AreSet}
use Rattle.sl_code_semantics.proofs.soundness.Sets.{positive_found, set_covered}
use Rattle.sl_code_semantics.proofs.soundness.Keeping.{Keeps, keeps_registers, keeps_records, Follows, follows_given, follows_either, IsSound}

-- a cursor that is set
pub set_some : {A : Type 0} (o : Option A) → IsSome o → IsSomeAnd o (λ x. ⊤)
set_some None h = cc
set_some (Some x) h = tt

-- both cursors are set
pub both_set : {A : Type 0} (a b : Option ℕ) (f : ℕ → ℕ → A) → IsSome a → IsSome b → IsSomeAnd (both a b f) (λ x. ⊤)
both_set (Some x) (Some y) f h l = tt
both_set a b f h l = cc

-- the column of a slot that there is, with its cursors
slot_there : (column : Option Shape) (p l w : Option ℕ) → IsSome column → AreSet (option_map_or shape_cursors column no_cursors) p l w
    → IsSomeAnd column (λ x. AreSet (shape_cursors x) p l w)
slot_there None p l w h all = cc
slot_there (Some x) p l w h all = all

pub column_there : (s : Shape) (column : Option Shape) → IsTrue (option_map_or (same_shape s) column false) → IsSomeAnd column (λ x. ⊤)
column_there s None h = cc
column_there s (Some x) h = tt

cell_there : (e : Election) (x : Shape) (s : State) → AreSet (shape_cursors x) s.party s.land s.win → IsSomeAnd (cell_at e x s) (λ p. ⊤)
cell_there e shape.One s h = tt
cell_there e shape.Party s h = set_some s.party (h.party refl)
cell_there e shape.Land s h = set_some s.land (h.land refl)
cell_there e shape.List s h = both_set s.land s.party _ (h.land refl) (h.party refl)

module _ (c : CountingCode) (e : Election) (k : Kinds) (s : State) (h : Keeps e k s) where
  -- a register that holds no 0 is positive from there on
  pub found_positive : (r : ℕ) → (s.registers r == 0) ≡ false → Keeps e (record k { positive = with_register true r k.positive }) s
  found_positive r other =
      let positive : 0 < s.registers r = (let ne = eqb-false (s.registers r) 0 other in omega arith) in
      keeps_registers e k s h _ _ (positive_found r k.positive s.registers positive h.agrees.positive)

  pub jnl_follows : (t : ℕ) → IsSound c e k s (op.Jnl t)
  jnl_follows t n =
      let cursors = set_covered k.cursors list_cursors n.cursors h.agrees.cursors in
      follows_given e k (op.Jnl t) (λ there. ⊤) (both s.land s.party (has_list e)) _ (both_set s.land s.party (has_list e) (cursors.land refl) (cursors.party refl)) (λ there is all.
      follows_either e k (op.Jnl t) there (Goes s) (Jumps s) (λ yes. h) (λ no. (refl, h)))

  -- the cell of a slot at the cursors
  pub cell_follows : (i : Instr) (slot : ℕ) (go : ℕ → Effect) → IsSome (slice_get c.slots slot) → IsTrue (covers k.cursors (slot_cursors (context_of c) slot))
      → ((p : ℕ) → Follows e k i (go p)) → Follows e k i (given (slice_get c.slots slot) (λ x. given (cell_at e x s) go))
  cell_follows i slot go column set f =
      let there = slot_there (slice_get c.slots slot) s.party s.land s.win column (set_covered k.cursors (slot_cursors (context_of c) slot) set h.agrees.cursors) in
      follows_given e k i (λ x. AreSet (shape_cursors x) s.party s.land s.win) (slice_get c.slots slot) _ there (λ x is all.
      follows_given e k i (λ p. ⊤) (cell_at e x s) go (cell_there e x s all) (λ p at any. f p))

  -- the columns change alone
  pub stored : (columns : ℕ → ℕ → ℕ) → Keeps e k (record s { columns = columns })
  stored columns = keeps_records e k s h columns s.mark s.steps s.weights s.placed

  pub ruleset columns_kept = (found_positive, jnl_follows, stored, set_some, column_there)

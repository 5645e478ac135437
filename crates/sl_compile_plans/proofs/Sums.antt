-- The plan that sums a column.
use Rattle.std.proofs.Common.{◌≡◌, ℕ, zero, suc, ◌+◌, ◌-◌, ◌*◌, ◌<◌, ◌≤◌, min, Option, Some, slice_get, true, refl, sym, ap, ◌∙◌, inl, inr, arith}
use Rattle.std.proofs.Math.Nat.{mul-le-mul_left}
use Rattle.std.proofs.lemmas.List.FromFn.{sum_by-map-range_with_len_more}
use Rattle.sl_base_terms.specs.declared.shape.Shape.{Shape}
use Rattle.sl_base_terms.specs.declared.shape.Shape.TheVariants as shape
use Rattle.sl_law_meaning.specs.returns.Election.{Election, lands_of, parties_of}
use Rattle.sl_code_instructions.specs.Codes.{CountingCode}
use Rattle.sl_code_semantics.specs.State.{State, with_register}
use Rattle.sl_code_semantics.specs.Effects.{most, with_party, with_land}
use Rattle.sl_code_semantics.proofs.effects.Registers.{set_does, add_does, get_does}
use Rattle.sl_code_semantics.proofs.effects.Cursors.{both_are}
use Rattle.sl_compile_plans.specs.declared.plan.Cursor.TheVariants as cursor
use Rattle.sl_compile_plans.specs.Trees.{Each}
use Rattle.sl_compile_plans.specs.Achieves.{Achieves, Never}
use Rattle.sl_code_semantics.specs.Kinds.{start_kinds}
use Rattle.sl_compile_plans.specs.Fine.{bare, is_fine, judged_by}
use Rattle.sl_compile_plans.specs.Sums.{add_cell, sum_tree, sum_of_first, ColumnsAreSummed, SumsAreAccepted}
use Rattle.sl_compile_plans.proofs.Rules.{line_ends, line_goes, then_achieves}
use Rattle.sl_compile_plans.proofs.KeepingRules.{each_keeping}
use Rattle.sl_compile_plans.proofs.Reaching.{reaches}
use Rattle.sl_compile_plans.proofs.Kinded.{fine_plans_pass}
use Rattle.sl_compile_plans.proofs.Targets.{plans_jump_within}

sum_more : (cells : ℕ → ℕ) (n : ℕ) → sum_of_first (n + 1) cells ≡ sum_of_first n cells + cells n
sum_more cells n = sum_by-map-range_with_len_more (λ x. x) cells 0 n n (omega arith)

sum_within : (cells : ℕ → ℕ) (n more : ℕ) → sum_of_first n cells ≤ sum_of_first (n + more) cells
sum_within cells n zero = let same : n + 0 ≡ n = omega arith in rw same (omega arith)
sum_within cells n (suc more) =
    let next : n + suc more ≡ n + more + 1 = omega arith in
    rw next (omega (arith, sum_within cells n more, sum_more cells (n + more)))

-- a cell of a Land that there is, and of a party that there is, is a cell of the column
cell_within : (l p lands parties : ℕ) → l < lands → p < parties → l * parties + p + 1 ≤ lands * parties
cell_within l p lands parties hl hp =
    let row : parties * (l + 1) ≤ parties * lands = mul-le-mul_left parties (omega arith) in
    omega (arith, row)

-- the column is as it was, and the register is the sum of its first n cells
record Summed (cells : ℕ → ℕ) (k n : ℕ) (t : State) : Type 0 where
  column : t.columns k ≡ cells
  total : t.registers 1 ≡ sum_of_first n cells

module _ (c : CountingCode) (e : Election) (k : ℕ) (slot : slice_get c.slots k ≡ Some shape.List) (cells : ℕ → ℕ) (small : sum_of_first (lands_of e * parties_of e) cells ≤ most) where
  -- with the cell of a Land and a party
  abbrev InLand : ℕ → ℕ → State → Type 0
  InLand l p t = Summed cells k (l * parties_of e + p) t × (t.land ≡ Some l)

  one_cell : (l p : ℕ) (t : State) → l < lands_of e → p < parties_of e → InLand l p t → Achieves c e (add_cell k) (with_party (Some p) t) (InLand l (p + 1)) Never
  one_cell l p t hl hp h =
      let u : State = with_party (Some p) t in
      let n : ℕ = l * parties_of e + p in
      let x : ℕ = t.columns k n in
      let read : x ≡ cells n = ap (λ (f : ℕ → ℕ). f n) h.0.column in
      let rest : ℕ = lands_of e * parties_of e - (n + 1) in
      let all : n + 1 + rest ≡ lands_of e * parties_of e = omega (arith, cell_within l p (lands_of e) (parties_of e) hl hp) in
      let fits : sum_of_first (n + 1) cells ≤ most = omega (arith, small, sum_within cells (n + 1) rest, ap (λ (m : ℕ). sum_of_first m cells) all) in
      let next : l * parties_of e + (p + 1) ≡ n + 1 = omega arith in
      let sums : min (t.registers 1 + x) most ≡ sum_of_first (n + 1) cells = omega (arith, h.0.total, read, sum_more cells n, fits) in
      line_goes (get_does c e u k shape.List slot 0 n (both_are u.land u.party (λ land party. land * parties_of e + party) l p h.1 refl))
      (line_goes (add_does c e (with_register 0 x u) 1 0)
      (line_ends (record { column = h.0.column; total = sums ∙ ap (λ (m : ℕ). sum_of_first m cells) (sym next) }, h.1)))

  one_land : (l : ℕ) (t : State) → l < lands_of e → Summed cells k (l * parties_of e) t → Achieves c e (Each cursor.Party (add_cell k)) (with_land (Some l) t) (Summed cells k ((l + 1) * parties_of e)) Never
  one_land l t hl h =
      let start : l * parties_of e ≡ l * parties_of e + 0 = omega arith in
      let last : l * parties_of e + parties_of e ≡ (l + 1) * parties_of e = omega arith in
      each_keeping (InLand l) refl
      (record { column = h.column; total = h.total ∙ ap (λ (m : ℕ). sum_of_first m cells) start }, refl)
      (λ p u hp inv. one_cell l p u hl hp inv)
      (λ u inv. record { column = inv.0.column; total = inv.0.total ∙ ap (λ (m : ℕ). sum_of_first m cells) last })

  all_lands : (t : State) → t.columns k ≡ cells → Achieves c e (sum_tree k) t (λ u. u.registers 1 ≡ sum_of_first (lands_of e * parties_of e) cells) Never
  all_lands t is =
      let none : 0 ≡ 0 * parties_of e = omega arith in
      then_achieves {Q = Summed cells k 0} (line_goes (set_does c e t 1 0) (line_ends (record { column = is; total = refl })))
      (λ u h.
      each_keeping (λ l. Summed cells k (l * parties_of e)) refl
      (record { column = h.column; total = h.total ∙ ap (λ (m : ℕ). sum_of_first m cells) none })
      (λ l v hl inv. one_land l v hl inv)
      (λ v inv. inv.total))

pub columns_are_summed : ColumnsAreSummed
columns_are_summed c e k p known s slot small has =
    elim (reaches known p (all_lands c e k slot (s.columns k) small s refl) has) [
      | inl done ↦ done
      | inr never ↦ absurd never.2
    ]

sum_is_fine : (slots : ℕ → Option Shape) (k : ℕ) → slots k ≡ Some shape.List → is_fine (judged_by slots 0) start_kinds (sum_tree k) ≡ true
sum_is_fine slots k h = rw h refl

pub sums_are_accepted : SumsAreAccepted
sums_are_accepted code k p slot has = record {
  passed = fine_plans_pass code (slice_get code.slots) 0 start_kinds p (sum_tree k) has (λ n s h. h) (omega arith) (sum_is_fine (slice_get code.slots) k slot);
  within = plans_jump_within (bare start_kinds) p (sum_tree k) refl;
}

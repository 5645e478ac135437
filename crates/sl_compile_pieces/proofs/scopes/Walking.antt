-- Plans that take the elements of a list in turn: how loops make them of plans that take a piece.
use Rattle.std.proofs.Common.{◌≡◌, ℕ, ◌+◌, ◌<◌, List, [], ◌∷◌, length, map, if◌then◌else◌, Option, None, Some, refl, sym, ap, subst, ◌∙◌, arith}
use Rattle.std.specs.Prelude.{flat_map, slice_get}
use Rattle.std.specs.List.{range_with_len}
use Rattle.std.proofs.lemmas.Bool.{cond-true, cond-false}
use Rattle.std.proofs.lemmas.List.Concat.{flat_map_single}
use Rattle.sl_law_meaning.specs.declared.fault.Item.{Item}
use Rattle.sl_law_meaning.specs.declared.fault.Item.TheVariants as item
use Rattle.sl_law_meaning.specs.returns.Election.{Election, has_list}
use Rattle.sl_code_instructions.specs.Codes.{CountingCode}
use Rattle.sl_code_semantics.specs.State.{State, End}
use Rattle.sl_compile_plans.specs.declared.plan.Cursor.{Cursor}
use Rattle.sl_compile_plans.specs.Trees.{Tree, Each}
use Rattle.sl_compile_plans.specs.Meaning.{count_of, cursor_of, set_cursor}
use Rattle.sl_compile_plans.specs.Achieves.{Achieves}
use Rattle.sl_compile_plans.proofs.Rules.{line_ends, if_no_list, each_achieves, achieves_so}
use Rattle.sl_compile_pieces.specs.scopes.Forms.{on_list, OnItem}
use Rattle.sl_compile_pieces.specs.inner.scopes.Walks.{bare, Visits}
use Rattle.sl_compile_pieces.proofs.scopes.Pieces.{Stands, stands_piece, length_next}

module _ {X : Type 0} (c : CountingCode) (e : Election) (all : List X) (Inv : ℕ → State → Type 0) (E : End → Type 0) where
  -- a plan takes a piece of the list, with cursors as they were
  pub record Walks (tree : Tree) (On : State → Type 0) (piece : List X) : Type 0 where
    pub walk : (j : ℕ) (s : State) → Stands all j piece → On s → Inv j (bare s) → Achieves c e tree s (λ t. On t × Inv (j + length piece) (bare t)) E

  -- a body that visits each element walks over one
  pub walk_one : (body : Tree) (On : X → State → Type 0) (x : X) → Visits c e body all On Inv E → Walks body (On x) (x ∷ [])
  walk_one body On x h = record {
    walk = λ j s stands on inv.
        let here : slice_get all j ≡ Some x = subst (λ (n : ℕ). slice_get all n ≡ Some x) (omega arith) (stands.at 0 x refl) in
        h.visit j x s here on inv;
  }

  pub walk_as : (tree : Tree) (On : State → Type 0) (xs ys : List X) → xs ≡ ys → Walks tree On xs → Walks tree On ys
  walk_as tree On xs ys same h = subst (Walks tree On) same h

  -- how a loop sets and keeps cursors: On is what stands before and after it, At what stands in the turn of a number
  pub record Turns (over : Cursor) (On : State → Type 0) (At : ℕ → State → Type 0) : Type 0 where
    pub hidden : (o : Option ℕ) (s : State) → bare (set_cursor over o s) ≡ bare s
    pub begins : (k : ℕ) (s : State) → On s → At k (set_cursor over (Some k) s)
    pub stays : (k : ℕ) (s : State) → At k s → cursor_of over s ≡ Some k
    pub leaves : (k : ℕ) (s : State) → At k s → On s
    pub ends : (s : State) → On s → On (set_cursor over None s)

  pub walk_each : (over : Cursor) (On : State → Type 0) (At : ℕ → State → Type 0) (f : ℕ → List X) (body : Tree) → Turns over On At
      → ((k : ℕ) → k < count_of e over → Walks body (At k) (f k))
      → Walks (Each over body) On (flat_map f (range_with_len 0 (count_of e over)))
  walk_each over On At f body turns each = record { walk = walked }
    where
      from_zero : (k : ℕ) → 0 + k ≡ k
      from_zero k = omega arith

      walked : (j : ℕ) (s : State) → Stands all j (flat_map f (range_with_len 0 (count_of e over))) → On s → Inv j (bare s)
          → Achieves c e (Each over body) s (λ t. On t × Inv (j + length (flat_map f (range_with_len 0 (count_of e over)))) (bare t)) E
      walked j s stands on inv =
          let n : ℕ = count_of e over in
          let before : ℕ → ℕ = λ k. length (flat_map f (range_with_len 0 k)) in
          each_achieves (λ k t. On t × Inv (j + before k) (bare t))
          (on, subst (λ (m : ℕ). Inv m (bare s)) (omega arith) inv)
          (λ k t less h. achieves_so
          ((each k less).walk (j + before k) (set_cursor over (Some k) t)
          (subst (λ (m : ℕ). Stands all (j + before k) (f m)) (from_zero k) (stands_piece f all 0 n j k less stands)) (turns.begins k t h.0) (subst (λ (u : State). Inv (j + before k) u) (sym (turns.hidden (Some k) t)) h.1))
          (λ u r. let next : before (k + 1) ≡ before k + length (f k) = length_next f 0 k ∙ ap (λ (m : ℕ). before k + length (f m)) (from_zero k) in
          (turns.stays k u r.0, (turns.leaves k u r.0, subst (λ (m : ℕ). Inv m (bare u)) (omega (arith, next)) r.1))))
          (λ t h. (turns.ends t h.0, subst (λ (u : State). Inv (j + before n) u) (sym (turns.hidden None t)) h.1))

  -- a loop over all of one cursor takes the elements of their numbers
  pub walk_singles : (over : Cursor) (make : ℕ → X) (On : X → State → Type 0) (body : Tree) → ((o : Option ℕ) (s : State) → bare (set_cursor over o s) ≡ bare s)
      → ((k : ℕ) (s : State) → On (make k) (set_cursor over (Some k) s)) → ((k : ℕ) (s : State) → On (make k) s → cursor_of over s ≡ Some k)
      → Visits c e body all On Inv E → Walks (Each over body) (λ s. Unit {0}) (map make (range_with_len 0 (count_of e over)))
  walk_singles over make On body hidden begins stays h =
      walk_as (Each over body) (λ s. Unit {0}) _ _ (flat_map_single make (range_with_len 0 (count_of e over)))
      (walk_each over (λ s. Unit {0}) (λ k. On (make k)) (λ k. make k ∷ []) body
      (record { hidden = hidden; begins = λ k s on. begins k s; stays = stays; leaves = λ k s at. tt; ends = λ s on. tt })
      (λ k less. walk_one body On (make k) h))

-- where a Land and a party have a list, the body takes it; else nothing is done, and there is nothing to take
pub walk_list : (c : CountingCode) (e : Election) (all : List Item) (Inv : ℕ → State → Type 0) (E : End → Type 0) (body : Tree) (land party : ℕ) → Visits c e body all OnItem Inv E
    → Walks c e all Inv E (on_list body) (OnItem (item.List land party)) (if has_list e land party then item.List land party ∷ [] else [])
walk_list c e all Inv E body land party h = record {
  walk = λ j s stands on inv.
      let i : Item = item.List land party in
      let Q : List Item → State → Type 0 = λ xs t. (OnItem i) t × Inv (j + length xs) (bare t) in
      if_no_list on.0 on.1
      (λ none. line_ends (on, subst (λ (xs : List Item). Inv (j + length xs) (bare s)) (sym (cond-false (has_list e land party) (i ∷ []) [] none)) (subst (λ (m : ℕ). Inv m (bare s)) (omega arith) inv)))
      (λ some.
      let is : (if has_list e land party then i ∷ [] else []) ≡ i ∷ [] = cond-true (has_list e land party) (i ∷ []) [] some in
      subst (λ (xs : List Item). Achieves c e body s (Q xs) E) (sym is)
      ((walk_one c e all Inv E body OnItem i h).walk j s (subst (λ (xs : List Item). Stands all j xs) is stands) on inv));
}

-- The walk over the cells of a column: a body that leads from so many cells done to one more does all of them.
use Rattle.std.proofs.Common.{◌≡◌, ℕ, ◌+◌, ◌*◌, ◌<◌, false, List, Option, Some, None, refl, subst, ◌∙◌, arith}
use Rattle.sl_base_terms.specs.declared.shape.Shape.{Shape}
use Rattle.sl_base_terms.specs.declared.shape.Shape.TheVariants as shape
use Rattle.sl_law_meaning.specs.returns.Election.{Election, lands_of, parties_of}
use Rattle.sl_code_instructions.specs.Codes.{CountingCode}
use Rattle.sl_code_semantics.specs.State.{State, End}
use Rattle.sl_code_semantics.specs.Places.{cells_of, cell_at}
use Rattle.sl_code_semantics.specs.Effects.{with_party, with_land}
use Rattle.sl_code_semantics.proofs.effects.Cursors.{both_are}
use Rattle.sl_code_semantics.proofs.soundness.KeptEntries.{list_below}
use Rattle.sl_compile_plans.specs.declared.plan.Cursor.{Cursor}
use Rattle.sl_compile_plans.specs.declared.plan.Cursor.TheVariants as cursor
use Rattle.sl_compile_plans.specs.Trees.{Tree, Each}
use Rattle.sl_compile_plans.specs.Meaning.{set_cursor}
use Rattle.sl_compile_plans.specs.Achieves.{Achieves}
use Rattle.sl_compile_plans.specs.Frames.{may_move}
use Rattle.sl_compile_plans.proofs.KeepingRules.{each_keeping, achieves_keeping}
use Rattle.sl_compile_pieces.specs.columns.Columns.{HoldsColumn}
use Rattle.sl_compile_pieces.specs.columns.Trees.{cells_plan}

-- the body does not move the cursor, and what the invariant says holds wherever the cursor stands
pub record Suits (over : Cursor) (body : Tree) (Inv : ℕ → State → Type 0) : Type 0 where
  pub still : may_move body over ≡ false
  pub moved : (n : ℕ) (o : Option ℕ) (t : State) → Inv n t → Inv n (set_cursor over o t)

-- the same of each cursor of a shape
abbrev pub SuitsShape : Shape → Tree → (ℕ → State → Type 0) → Type 0
SuitsShape shape.One body Inv = Unit {0}
SuitsShape shape.Party body Inv = Suits cursor.Party body Inv
SuitsShape shape.Land body Inv = Suits cursor.Land body Inv
SuitsShape shape.List body Inv = Suits cursor.Party body Inv × Suits cursor.Land body Inv

pub suits_shape : (s : Shape) (body : Tree) (Inv : ℕ → State → Type 0) → Suits cursor.Party body Inv → Suits cursor.Land body Inv → SuitsShape s body Inv
suits_shape shape.One body Inv party land = tt
suits_shape shape.Party body Inv party land = party
suits_shape shape.Land body Inv party land = land
suits_shape shape.List body Inv party land = (party, land)

-- a register is no cursor
pub cell_kept : (e : Election) (s : Shape) (f : ℕ → ℕ) (t : State) (o : Option ℕ) → cell_at e s t ≡ o → cell_at e s (record t { registers = f }) ≡ o
cell_kept e shape.One f t o h = h
cell_kept e _ f t o h = h

-- the cells of the Länder, party by party
module _ (c : CountingCode) (e : Election) (body : Tree) (Inv : ℕ → State → Type 0) (E : End → Type 0) (party : Suits cursor.Party body Inv) (land : Suits cursor.Land body Inv)
    (turn : (q : ℕ) (t : State) → q < cells_of e shape.List → cell_at e shape.List t ≡ Some q → Inv q t → Achieves c e body t (Inv (q + 1)) E) where
  abbrev InLand : ℕ → ℕ → State → Type 0
  InLand l p t = Inv (l * parties_of e + p) t × (t.land ≡ Some l)

  one_cell : (l p : ℕ) (t : State) → l < lands_of e → p < parties_of e → InLand l p t → Achieves c e body (with_party (Some p) t) (InLand l (p + 1)) E
  one_cell l p t hl hp h =
      let u : State = with_party (Some p) t in
      let q : ℕ = l * parties_of e + p in
      let next : q + 1 ≡ l * parties_of e + (p + 1) = omega arith in
      let at : cell_at e shape.List u ≡ Some q = both_are u.land u.party (λ land party. land * parties_of e + party) l p h.1 refl in
      achieves_keeping (turn q u (list_below l p (lands_of e) (parties_of e) hl hp) at (party.moved q (Some p) t h.0))
      (λ v k kept. (subst (λ (n : ℕ). Inv n v) next k, kept.land land.still ∙ h.1))

  one_land : (l : ℕ) (t : State) → l < lands_of e → Inv (l * parties_of e) t → Achieves c e (Each cursor.Party body) (with_land (Some l) t) (Inv ((l + 1) * parties_of e)) E
  one_land l t hl h =
      let n : ℕ = l * parties_of e in
      let start : n ≡ n + 0 = omega arith in
      let last : n + parties_of e ≡ (l + 1) * parties_of e = omega arith in
      each_keeping (InLand l) party.still
      (subst (λ (m : ℕ). Inv m (with_land (Some l) t)) start (land.moved n (Some l) t h), refl)
      (λ p u hp inv. one_cell l p u hl hp inv)
      (λ u inv. subst (λ (m : ℕ). Inv m (with_party None u)) last (party.moved (n + parties_of e) None u inv.0))

  each_list : (t : State) → Inv 0 t → Achieves c e (Each cursor.Land (Each cursor.Party body)) t (Inv (lands_of e * parties_of e)) E
  each_list t h =
      let none : 0 ≡ 0 * parties_of e = omega arith in
      each_keeping (λ l. Inv (l * parties_of e)) land.still
      (subst (λ (m : ℕ). Inv m t) none h)
      (λ l u hl inv. one_land l u hl inv)
      (λ u inv. land.moved (lands_of e * parties_of e) None u inv)

-- with an invariant over the number of cells that are done
pub each_cell : (c : CountingCode) (e : Election) (s : Shape) (body : Tree) (Inv : ℕ → State → Type 0) (E : End → Type 0) (t : State) → SuitsShape s body Inv
    → ((q : ℕ) (u : State) → q < cells_of e s → cell_at e s u ≡ Some q → Inv q u → Achieves c e body u (Inv (q + 1)) E)
    → Inv 0 t → Achieves c e (cells_plan s body) t (Inv (cells_of e s)) E
each_cell c e shape.One body Inv E t suits turn h = turn 0 t (omega arith) refl h
each_cell c e shape.Party body Inv E t suits turn h =
    each_keeping Inv suits.still h (λ p u hp inv. turn p (with_party (Some p) u) hp refl (suits.moved p (Some p) u inv)) (λ u inv. suits.moved (parties_of e) None u inv)
each_cell c e shape.Land body Inv E t suits turn h =
    each_keeping Inv suits.still h (λ l u hl inv. turn l (with_land (Some l) u) hl refl (suits.moved l (Some l) u inv)) (λ u inv. suits.moved (lands_of e) None u inv)
each_cell c e shape.List body Inv E t suits turn h = each_list c e body Inv E suits.0 suits.1 turn t h

-- the same cells hold the same values
pub still_holds : (e : Election) (s : Shape) (before after : ℕ → ℕ) (values : List ℕ) → ((q : ℕ) → after q ≡ before q) → HoldsColumn e s before values → HoldsColumn e s after values
still_holds e s before after values same h = record { long = h.long; at = λ q below. same q ∙ h.at q below }

-- Keys are equal where what they are of is the same.
use Rattle.std.proofs.Common.{◌≡◌, ℕ, ◌&&◌, true, nat_eq, List, [], ◌∷◌, ◌++◌, refl, sym, ap, ◌∙◌}
use Rattle.std.specs.Prelude.{bytes_eq}
use Rattle.std.specs.Cmp.Derive.{both_true}
use Rattle.std.proofs.Math.Bool.{and_assoc, and-true}
use Rattle.std.proofs.lemmas.Bool.{and_parts}
use Rattle.std.proofs.lemmas.List.{append-nil}
use Rattle.std.proofs.lemmas.Slice.Eq.{bytes_eq-Decides}
use Rattle.sl_law_meaning.specs.declared.fault.Item.{Item}
use Rattle.sl_law_meaning.specs.declared.fault.Item.TheVariants as item
use Rattle.sl_law_meaning.specs.declared.fault.Scope.{Scope}
use Rattle.sl_law_meaning.specs.declared.fault.Scope.TheVariants as scope
use Rattle.sl_law_meaning.specs.declared.table.SeatStep.{SeatStep}
use Rattle.sl_law_meaning.specs.declared.table.Weight.{Weight}
use Rattle.sl_law_meaning.specs.laws.MeaningLaws.{same_scope, same_seat, same_entry}
use Rattle.sl_law_meaning.specs.meaning.Scopes.{same_item}
use Rattle.sl_count_texts.specs.Bounds.{is_of_entry}
use Rattle.sl_count_texts.specs.Orders.{scope_key, item_key, entry_key, step_key, weight_key}

module _ (r s : List ℕ) where
  scope_keys : (x y : Scope) → bytes_eq (scope_key x ++ r) (scope_key y ++ s) ≡ (same_scope x y && bytes_eq r s)
  scope_keys scope.All scope.All = refl
  scope_keys scope.All (scope.Land k) = refl
  scope_keys scope.All (scope.Party q) = refl
  scope_keys scope.All (scope.List k q) = refl
  scope_keys (scope.Land l) scope.All = refl
  scope_keys (scope.Land l) (scope.Land k) = refl
  scope_keys (scope.Land l) (scope.Party q) = refl
  scope_keys (scope.Land l) (scope.List k q) = refl
  scope_keys (scope.Party p) scope.All = refl
  scope_keys (scope.Party p) (scope.Land k) = refl
  scope_keys (scope.Party p) (scope.Party q) = refl
  scope_keys (scope.Party p) (scope.List k q) = refl
  scope_keys (scope.List l p) scope.All = refl
  scope_keys (scope.List l p) (scope.Land k) = refl
  scope_keys (scope.List l p) (scope.Party q) = refl
  scope_keys (scope.List l p) (scope.List k q) = sym (and_assoc (nat_eq l k) (nat_eq p q) (bytes_eq r s))

  item_keys : (x y : Item) → bytes_eq (item_key x ++ r) (item_key y ++ s) ≡ (same_item x y && bytes_eq r s)
  item_keys (item.Party p) (item.Party q) = refl
  item_keys (item.Party p) (item.Land k) = refl
  item_keys (item.Party p) (item.List k q) = refl
  item_keys (item.Party p) (item.Win w) = refl
  item_keys (item.Land l) (item.Party q) = refl
  item_keys (item.Land l) (item.Land k) = refl
  item_keys (item.Land l) (item.List k q) = refl
  item_keys (item.Land l) (item.Win w) = refl
  item_keys (item.List l p) (item.Party q) = refl
  item_keys (item.List l p) (item.Land k) = refl
  item_keys (item.List l p) (item.List k q) = sym (and_assoc (nat_eq l k) (nat_eq p q) (bytes_eq r s))
  item_keys (item.List l p) (item.Win w) = refl
  item_keys (item.Win v) (item.Party q) = refl
  item_keys (item.Win v) (item.Land k) = refl
  item_keys (item.Win v) (item.List k q) = refl
  item_keys (item.Win v) (item.Win w) = refl

items_alone : (x y : Item) → bytes_eq (item_key x) (item_key y) ≡ same_item x y
items_alone x y = sym (λ i. bytes_eq (append-nil (item_key x) i) (append-nil (item_key y) i)) ∙ item_keys [] [] x y ∙ and-true (same_item x y)

-- a seat step is of a weight's entry where their keys are one
pub entry_alike : (w : Weight) (x : SeatStep) → bytes_eq (weight_key w) (entry_key x.stage x.scope x.entry) ≡ is_of_entry w x
entry_alike w x =
    ap (λ b. nat_eq w.stage x.stage && b) (scope_keys (item_key w.entry) (item_key x.entry) w.scope x.scope ∙ ap (λ b. same_scope w.scope x.scope && b) (items_alone w.entry x.entry))
    ∙ sym (and_assoc (nat_eq w.stage x.stage) (same_scope w.scope x.scope) (same_item w.entry x.entry))

weights_alike : (v w : Weight) → bytes_eq (weight_key v) (weight_key w) ≡ same_entry v w
weights_alike v w =
    ap (λ b. nat_eq v.stage w.stage && b) (scope_keys (item_key v.entry) (item_key w.entry) v.scope w.scope ∙ ap (λ b. same_scope v.scope w.scope && b) (items_alone v.entry w.entry))
    ∙ sym (and_assoc (nat_eq v.stage w.stage) (same_scope v.scope w.scope) (same_item v.entry w.entry))

-- weights of one key are of the same entry
pub same_weight_key : (v w : Weight) → weight_key v ≡ weight_key w → same_entry v w ≡ true
same_weight_key v w e = sym (weights_alike v w) ∙ (bytes_eq-Decides (weight_key v) (weight_key w)).1 e

-- steps of one key are of the same seat
pub same_step_key : (x y : SeatStep) → step_key x ≡ step_key y → same_seat x y ≡ true
same_step_key x y e =
    let r : List ℕ = x.step ∷ item_key x.entry ++ x.n ∷ [] in
    let s : List ℕ = y.step ∷ item_key y.entry ++ y.n ∷ [] in
    let all = and_parts _ _ ((bytes_eq-Decides (step_key x) (step_key y)).1 e) in
    let scopes = and_parts _ _ (sym (scope_keys r s x.scope y.scope) ∙ all.1) in
    let steps = and_parts (nat_eq x.step y.step) _ scopes.1 in
    let entries = and_parts _ _ (sym (item_keys (x.n ∷ []) (y.n ∷ []) x.entry y.entry) ∙ steps.1) in
    both_true (both_true all.0 scopes.0) (both_true entries.0 (sym (and-true (nat_eq x.n y.n)) ∙ entries.1))

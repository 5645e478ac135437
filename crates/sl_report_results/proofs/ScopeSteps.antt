-- The scopes of a stage, one more.
use Rattle.std.proofs.Common.{◌≡◌, ℕ, zero, suc, ◌+◌, ◌<◌, Bool, true, false, List, [], ◌∷◌, ◌++◌, Some, length, take, filter, map, arith, refl, sym, ap, subst, ◌∙◌, inl, inr, if◌then◌else◌}
use Rattle.std.specs.Prelude.{slice_get}
use Rattle.std.specs.List.{AllZip, range_with_len}
use Rattle.std.proofs.lemmas.Bool.{lt-ltb, le-ltb}
use Rattle.std.proofs.lemmas.List.{append-nil}
use Rattle.std.proofs.lemmas.List.FromFn.{get_or-map-range_with_len, length-map-range_with_len}
use Rattle.std.proofs.lemmas.Option.{slice_get-get_or}
use Rattle.sl_report_parties.proofs.Steps.{filter_next}
use Rattle.sl_report_results.specs.Places.{IsScope, items_in, scope_at, scope_count}
use Rattle.sl_report_results.specs.Scopes.{IsScopeOf, has_entry, scope_entries}
use Rattle.sl_report_results.specs.inner.MoreScopes.{Adds}
use Rattle.sl_report_results.specs.inner.Within.{shape_in}
use Rattle.sl_report_results.specs.declared.columns.Distribution.{Distribution}
use Rattle.sl_report_results.specs.declared.scopes.Scoped.{Scoped}
use Rattle.sl_law_meaning.specs.declared.fault.Scope.TheVariants as scope
use Rattle.sl_law_meaning.specs.declared.table.SeatStep.{SeatStep}
use Rattle.sl_law_meaning.specs.meaning.Scopes.{Group, lists_in_land, lists_of_party, scopes}
use Rattle.sl_law_meaning.specs.returns.Election.{Election, lands_of, parties_of}
use Rattle.sl_law_meaning.proofs.meaning.Members.{all_and_one}
use Rattle.sl_base_terms.specs.declared.shape.Shape.{Shape}
use Rattle.sl_base_terms.specs.declared.shape.Shape.TheVariants as shape

-- the entries of the scopes of a stage have one shape
pub same_shape : (over votes : Shape) (n : ℕ) → shape_in votes (scope_at over 0) ≡ shape_in votes (scope_at over n)
same_shape shape.One votes n = refl
same_shape shape.Party votes n = refl
same_shape shape.Land votes n = refl
same_shape shape.List votes n = refl

module _ (e : Election) where
  pub scope_within : (over : Shape) (n : ℕ) → n < scope_count e over → IsScope e (scope_at over n)
  scope_within shape.One n less = tt
  scope_within shape.Party n less = less
  scope_within shape.Land n less = less
  scope_within shape.List n less = tt

  -- how many scopes there are
  pub scopes_long : (over votes : Shape) → length (scopes e over votes) ≡ scope_count e over
  scopes_long shape.One votes = refl
  scopes_long shape.Party votes = length-map-range_with_len (λ party. record { scope = scope.Party party; amount_place = party; entries = lists_of_party e party }) 0 (parties_of e)
  scopes_long shape.Land votes = length-map-range_with_len (λ land. record { scope = scope.Land land; amount_place = land; entries = lists_in_land e land }) 0 (lands_of e)
  scopes_long shape.List votes = refl

  abbrev group_at : Shape → Shape → ℕ → Group
  group_at shape.One votes n = record { scope = scope.All; amount_place = 0; entries = items_in e votes scope.All }
  group_at shape.Party votes n = record { scope = scope.Party n; amount_place = n; entries = lists_of_party e n }
  group_at shape.Land votes n = record { scope = scope.Land n; amount_place = n; entries = lists_in_land e n }
  group_at shape.List votes n = record { scope = scope.All; amount_place = 0; entries = [] }

  of_range : (f : ℕ → Group) (m n : ℕ) → n < m → slice_get (map f (range_with_len 0 m)) n ≡ Some (f n)
  of_range f m n less =
      slice_get-get_or (map f (range_with_len 0 m)) n (f n) (omega (arith, less, length-map-range_with_len f 0 m))
      ∙ ap Some (get_or-map-range_with_len f 0 m n n (f n) less (omega arith))

  group_there : (over votes : Shape) (n : ℕ) → n < scope_count e over → slice_get (scopes e over votes) n ≡ Some (group_at over votes n)
  group_there shape.One votes zero less = refl
  group_there shape.One votes (suc n) less = absurd (omega (arith, less))
  group_there shape.Party votes n less = of_range (λ party. record { scope = scope.Party party; amount_place = party; entries = lists_of_party e party }) (parties_of e) n less
  group_there shape.Land votes n less = of_range (λ land. record { scope = scope.Land land; amount_place = land; entries = lists_in_land e land }) (lands_of e) n less
  group_there shape.List votes n less = absurd (omega (arith, less))

  scope_is : (over votes : Shape) (n : ℕ) → n < scope_count e over → (group_at over votes n).scope ≡ scope_at over n
  scope_is shape.One votes n less = refl
  scope_is shape.Party votes n less = refl
  scope_is shape.Land votes n less = refl
  scope_is shape.List votes n less = refl

  entries_are : (over votes : Shape) (n : ℕ) → n < scope_count e over → (group_at over votes n).entries ≡ items_in e votes (scope_at over n)
  entries_are shape.One votes n less = refl
  entries_are shape.Party votes n less = refl
  entries_are shape.Land votes n less = refl
  entries_are shape.List votes n less = absurd (omega (arith, less))

  module _ (name : List ℕ) (stage : ℕ) (d : Distribution) (steps : List SeatStep) where
    abbrev is_there : Group → Bool
    is_there g = has_entry e name stage d steps g.entries

    added : (g : Group) (before after : List Scoped) (found : List Group) → AllZip (IsScopeOf e name stage d steps) found before →
        Adds stage d g.scope (scope_entries e name stage d steps g.entries) before after → AllZip (IsScopeOf e name stage d steps) (found ++ filter is_there (g ∷ [])) after
    added g before after found all (inl h) =
        let none : is_there g ≡ false = le-ltb 0 (length (scope_entries e name stage d steps g.entries)) (omega (arith, h.0)) in
        subst (λ b. AllZip (IsScopeOf e name stage d steps) (found ++ (if b then g ∷ [] else [])) after) (sym none)
        (subst (λ gs. AllZip (IsScopeOf e name stage d steps) gs after) (sym (append-nil found)) (subst (AllZip (IsScopeOf e name stage d steps) found) (sym h.1) all))
    added g before after found all (inr h) =
        let some : is_there g ≡ true = lt-ltb 0 (length (scope_entries e name stage d steps g.entries)) h.1 in
        subst (λ b. AllZip (IsScopeOf e name stage d steps) (found ++ (if b then g ∷ [] else [])) after) (sym some)
        (subst (AllZip (IsScopeOf e name stage d steps) (found ++ g ∷ [])) (sym h.2) (all_and_one (IsScopeOf e name stage d steps) found before g h.0 h.3 all))

    pub scope_more : (over votes : Shape) (n : ℕ) (before after : List Scoped) → n < scope_count e over →
        AllZip (IsScopeOf e name stage d steps) (filter is_there (take n (scopes e over votes))) before →
        Adds stage d (scope_at over n) (scope_entries e name stage d steps (items_in e votes (scope_at over n))) before after →
        AllZip (IsScopeOf e name stage d steps) (filter is_there (take (n + 1) (scopes e over votes))) after
    scope_more over votes n before after less all adds =
        let g = group_at over votes n in
        let given : Adds stage d g.scope (scope_entries e name stage d steps g.entries) before after =
        subst (λ s. Adds stage d s (scope_entries e name stage d steps g.entries) before after) (sym (scope_is over votes n less))
        (subst (λ items. Adds stage d (scope_at over n) (scope_entries e name stage d steps items) before after) (sym (entries_are over votes n less)) adds) in
        subst (λ gs. AllZip (IsScopeOf e name stage d steps) gs after) (sym (filter_next is_there (scopes e over votes) n g (group_there over votes n less)))
        (added g before after (filter is_there (take n (scopes e over votes))) all given)

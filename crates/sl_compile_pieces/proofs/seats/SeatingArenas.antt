-- Arenas of a scope: their entries are the scope's entries, with their weights and at their places.
use Rattle.std.proofs.Common.{◌≡◌, ◌≢◌, ℕ, ◌<◌, ◌≤◌, List, All, map, length, Some, slice_get, sym, ap, ◌∙◌, inl, inr, arith}
use Rattle.std.specs.Prelude.{slice_index}
use Rattle.std.proofs.lemmas.Bool.{cases_lt}
use Rattle.std.proofs.lemmas.List.{length-map}
use Rattle.sl_base_quotients.specs.declared.limits.TheConstants.{MAX_WEIGHT, MAX_SEATS}
use Rattle.sl_law_meaning.specs.declared.fault.Item.{Item}
use Rattle.sl_law_meaning.specs.returns.Election.{Election}
use Rattle.sl_law_meaning.specs.meaning.Scopes.{Group, place}
use Rattle.sl_law_meaning.specs.laws.Ladders.{Has}
use Rattle.sl_compile_pieces.specs.arenas.Arenas.{Arena, IsArena, AreWeighed}
use Rattle.sl_compile_pieces.specs.scopes.Forms.{Form, table_of}
use Rattle.sl_compile_pieces.specs.scopes.Scopes.{IsScope}
use Rattle.sl_compile_pieces.specs.seats.Slots.{HasCells}
use Rattle.sl_compile_pieces.proofs.seats.Lists.{mapped_at, rises_far}
use Rattle.sl_compile_plans.proofs.KeepingRules.{element_there}

pub record OfScope (e : Election) (f : Form) (g : Group) (a : Arena) : Type 0 where
  pub arena : IsArena MAX_SEATS a
  pub entries : a.entries ≡ table_of f
  pub places : a.places ≡ map (place e) g.entries
  pub scope : IsScope e f g

-- the weights of a scope's entries, at their places
pub scope_weighed : (e : Election) (f : Form) (g : Group) (column : ℕ → ℕ) (v : List ℕ) → IsScope e f g → HasCells e g.entries column v → All (λ weight. weight ≤ MAX_WEIGHT) v
    → AreWeighed v (map (place e) g.entries)
scope_weighed e f g column v scope cells small = record { weights = small; numbers = length-map g.entries (place e) ∙ sym cells.one_each; increasing = scope.increasing }

module _ (e : Election) (g : Group) (f : Form) (scope : IsScope e f g) where
  -- entries with two numbers stand at two places
  pub places_differ : (j k : ℕ) (i h : Item) → slice_get g.entries j ≡ Some i → slice_get g.entries k ≡ Some h → j ≢ k → place e i ≢ place e h
  places_differ j k i h at there other same =
      elim (cases_lt j k) [
        | inl less ↦ let rises = rises_far (place e) g.entries scope.increasing j k i h at there less in omega (arith, rises, same)
        | inr high ↦ elim (cases_lt k j) [
          | inl less ↦ let rises = rises_far (place e) g.entries scope.increasing k j h i there at less in omega (arith, rises, same)
          | inr low ↦ other (omega (arith, high, low))
        ]
      ]

module _ (e : Election) (f : Form) (g : Group) (a : Arena) (of : OfScope e f g a) where
  pub place_is : (j : ℕ) (i : Item) → slice_get g.entries j ≡ Some i → slice_index a.places j ≡ place e i
  place_is j i at = ap (λ ps. slice_index ps j) of.places ∙ mapped_at (place e) g.entries j i at

  -- an entry with a next seat is one of the scope
  pub entry_there : (j held : ℕ) → Has a.ladders j held → (i : Item) × (slice_get g.entries j ≡ Some i)
  entry_there j held has =
      let low : j < length a.ladders.base = of.arena.falling.within j held has in
      element_there g.entries j (omega (arith, low, ap (λ ps. length ps) of.places ∙ length-map g.entries (place e)))

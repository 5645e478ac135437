-- The numbers of a scope's entries stay where their columns do, and there is a minimum for each entry.
use Rattle.std.proofs.Common.{◌≡◌, ℕ, List, length, Option, Some, None, refl, sym, ap, ◌∙◌}
use Rattle.sl_law_meaning.specs.declared.fault.Item.{Item}
use Rattle.sl_law_meaning.specs.returns.Election.{Election}
use Rattle.sl_law_meaning.specs.meaning.Scopes.{place}
use Rattle.sl_law_meaning.proofs.methods.SeatSums.{length_zeros}
use Rattle.sl_code_semantics.specs.State.{State}
use Rattle.sl_compile_pieces.specs.seats.Slots.{HasCells, HasMinima}

pub cells_kept : (e : Election) (entries : List Item) (before after : ℕ → ℕ) (v : List ℕ) → ((q : ℕ) → after q ≡ before q) → HasCells e entries before v → HasCells e entries after v
cells_kept e entries before after v same h = record { one_each = h.one_each; at = λ j i at. same (place e i) ∙ h.at j i at }

pub minima_kept : (e : Election) (entries : List Item) (v m : List ℕ) (s t : State) (slot : Option ℕ)
    → ((k : ℕ) → slot ≡ Some k → (q : ℕ) → t.columns k q ≡ s.columns k q) → HasMinima e entries v slot s m → HasMinima e entries v slot t m
minima_kept e entries v m s t None same h = h
minima_kept e entries v m s t (Some k) same h = cells_kept e entries (s.columns k) (t.columns k) m (same k refl) h

pub minima_long : (e : Election) (entries : List Item) (v m : List ℕ) (slot : Option ℕ) (s : State) → length v ≡ length entries → HasMinima e entries v slot s m → length m ≡ length v
minima_long e entries v m None s long minima = ap (λ (xs : List ℕ). length xs) minima ∙ length_zeros (length v)
minima_long e entries v m (Some slot) s long minima = minima.one_each ∙ sym long

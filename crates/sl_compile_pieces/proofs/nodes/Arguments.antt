-- What the columns of the arguments give a scope: the numbers of its entries, and their minima.
use Rattle.std.proofs.Common.{◌≡◌, ℕ, ◌≤◌, List, All, length, Option, Some, None, refl, sym, ◌∙◌}
use Rattle.std.specs.Prelude.{slice_get, slice_index, is_none}
use Rattle.std.proofs.lemmas.List.{length-map}
use Rattle.std.proofs.lemmas.List.Elements.{All-from_get_or, All-map}
use Rattle.sl_base_quotients.specs.declared.method.Method.{Method}
use Rattle.sl_base_quotients.specs.declared.method.Method.TheVariants as by
use Rattle.sl_base_terms.specs.declared.shape.Shape.{Shape}
use Rattle.sl_law_meaning.specs.declared.fault.Item.{Item}
use Rattle.sl_law_meaning.specs.declared.fault.Item.TheVariants as item
use Rattle.sl_law_meaning.specs.returns.Election.{Election}
use Rattle.sl_law_meaning.specs.meaning.Scopes.{Group, place, cells}
use Rattle.sl_law_meaning.specs.meaning.Expressions.{minima_at}
use Rattle.sl_law_meaning.specs.laws.OneLaws.{FitsMethod}
use Rattle.sl_law_meaning.proofs.methods.SeatSums.{length_zeros, sum_zeros}
use Rattle.sl_law_meaning.proofs.meaning.OneAward.{TakesMinima}
use Rattle.sl_code_semantics.specs.State.{State}
use Rattle.sl_compile_pieces.specs.scopes.Forms.{Form, votes_of, groups_of}
use Rattle.sl_compile_pieces.proofs.scopes.Scopes.{scopes_hold}
use Rattle.sl_compile_pieces.specs.columns.Columns.{HoldsColumn}
use Rattle.sl_compile_pieces.specs.seats.Slots.{HasCells, HasMinima}
use Rattle.sl_compile_pieces.proofs.seats.Lists.{mapped_at, number_within}
use Rattle.sl_compile_pieces.specs.nodes.Scopes.{HoldsMinima}

-- ---- the numbers of a scope's entries

pub column_cells : (e : Election) (f : Form) (k : ℕ) (g : Group) (column : ℕ → ℕ) (values : List ℕ) → slice_get (groups_of e f) k ≡ Some g → HoldsColumn e (votes_of f) column values
    → HasCells e g.entries column (cells e g.entries values)
column_cells e f k g column values at h =
    let number : Item → ℕ = λ i. slice_index values (place e i) in
    record {
      one_each = length-map g.entries number;
      at = λ j i is. h.at (place e i) ((scopes_hold e f k g at).entry j i is).within ∙ sym (mapped_at number g.entries j i is);
    }

pub cells_within : (most : ℕ) (e : Election) (entries : List Item) (values : List ℕ) → All (λ n. n ≤ most) values → All (λ n. n ≤ most) (cells e entries values)
cells_within most e entries values all =
    All-map (λ n. n ≤ most) (λ i. slice_index values (place e i)) entries
    (All-from_get_or (λ i. slice_index values (place e i) ≤ most) entries (item.Party 0) (λ j less. number_within most values _ all))

-- ---- the minima

pub minima_cells : (e : Election) (f : Form) (k : ℕ) (g : Group) (votes : List ℕ) (s : State) → slice_get (groups_of e f) k ≡ Some g → (slot : Option ℕ) (minima : Option (List ℕ))
    → HoldsMinima e (votes_of f) slot s minima → HasMinima e g.entries (cells e g.entries votes) slot s (minima_at e g votes minima)
minima_cells e f k g votes s at None None h = refl
minima_cells e f k g votes s at (Some slot) (Some m) h = column_cells e f k g (s.columns slot) m at h
minima_cells e f k g votes s at _ _ h = absurd h

pub minima_long : (e : Election) (g : Group) (votes : List ℕ) (minima : Option (List ℕ)) → length (minima_at e g votes minima) ≡ length (cells e g.entries votes)
minima_long e g votes None = length_zeros (length (cells e g.entries votes))
minima_long e g votes (Some m) = length-map g.entries (λ i. slice_index m (place e i)) ∙ sym (length-map g.entries (λ i. slice_index votes (place e i)))

pub minima_taken : (e : Election) (g : Group) (votes : List ℕ) (method : Method) (minima : Option (List ℕ)) → FitsMethod method minima → TakesMinima method (minima_at e g votes minima)
minima_taken e g votes (by.Divisor d) minima fits = tt
minima_taken e g votes by.Hamilton None fits = sum_zeros (length (cells e g.entries votes))
minima_taken e g votes by.Hamilton (Some m) fits = absurd fits

-- there is a slot of minima exactly where there are minima
pub same_minima : (e : Election) (shape : Shape) (s : State) (slot : Option ℕ) (minima : Option (List ℕ)) → HoldsMinima e shape slot s minima → is_none slot ≡ is_none minima
same_minima e shape s None None h = refl
same_minima e shape s (Some slot) (Some m) h = refl
same_minima e shape s _ _ h = absurd h

pub minima_slot : (e : Election) (shape : Shape) (s : State) (slot : Option ℕ) (m : List ℕ) → HoldsMinima e shape slot s (Some m) → (k : ℕ) × (slot ≡ Some k)
minima_slot e shape s None m h = absurd h
minima_slot e shape s (Some slot) m h = (slot, refl)

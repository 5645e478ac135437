-- Elements of lists: those of a table that fits an election, and those seen through a function.
use Rattle.std.proofs.Common.{◌≡◌, ℕ, ◌<◌, ◌≤◌, List, length, map, get_or, sym, ap, subst, ◌∙◌, arith}
use Rattle.std.specs.List.{All}
use Rattle.std.proofs.lemmas.List.{get_or-map, length-map}
use Rattle.sl_law_meaning.specs.declared.table.ListSeats.{ListSeats}
use Rattle.sl_law_meaning.specs.returns.Election.{Election}
use Rattle.sl_law_meaning.specs.meaning.Tables.{SeatTable}
use Rattle.sl_count_texts.specs.inner.Fits.{Fits, IsOf}

pub is_of : (t : SeatTable) (e : Election) → Fits t e → (lists : List ListSeats) → lists ≡ t.lists → (i : ℕ) (d : ListSeats) → i < length lists → IsOf e (get_or lists i d)
is_of t e fits lists same i d within = let all : All (IsOf e) lists = subst (All (IsOf e)) (sym same) fits.lists in all i d within

-- a list, seen through a function, has as many elements
module _ {X Y : Type 0} (f : X → Y) (xs : List X) (i : ℕ) where
  pub mapped_within : i < length xs → i < length (map f xs)
  mapped_within within = omega (arith, length-map xs f, within)

  pub mapped_past : length xs ≤ i → length (map f xs) ≤ i
  mapped_past past = omega (arith, length-map xs f, past)

-- an element of a list, seen through a function
module _ {X Y : Type 0} (f : X → Y) (xs : List X) (i : ℕ) (x : X) (within : i < length xs) (here : get_or xs i x ≡ x) where
  pub within_map : i < length (map f xs)
  within_map = mapped_within f xs i within

  pub in_map : get_or (map f xs) i (f x) ≡ f x
  in_map = get_or-map f xs i x (f x) within ∙ ap f here

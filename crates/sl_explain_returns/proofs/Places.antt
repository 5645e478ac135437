-- The places of cells, and the ends of a text, are places of the record of a row.
use Rattle.std.specs.List.{list_any}
use Rattle.std.specs.Option.{option_map, unwrap_or}
use Rattle.std.proofs.Common.{rules, refl, ap, ◌≡◌, ◌||◌, ℕ, Bool, List, None, Option, Some, length, nat_eq, slice_get, true}
use Rattle.std.proofs.lemmas.Map.Keys.{any_passes_from_place}
use Rattle.sl_explain_returns.specs.Places.{begins_cell}
use Rattle.sl_returns_places.specs.Places.{Cell, located_in, place_in, place_of, row_of}
use Rattle.sl_returns_places.specs.declared.places.Place.{Place}

same : (n m : ℕ) → n ≡ m → nat_eq n m ≡ true
same n m e = search rules

among : (cells : List Cell) (column start : ℕ) (c : Cell) (rest : Bool) → slice_get cells column ≡ Some c → start ≡ c.start → (list_any (λ d. nat_eq start d.start) cells || rest) ≡ true
among cells column start c rest found is =
    let any = any_passes_from_place (λ d. nat_eq start d.start) cells column c found (same start c.start is) in
    ap (λ (b : Bool). b || rest) any

-- the place of a cell
pub of_cell : (text : List ℕ) (row column : ℕ) (p : Place) → Some p ≡ place_in text row column → begins_cell text row p.start ≡ true
unfolding begins_cell
of_cell text row column p e = by (slice_get (row_of (located_in text) row) column) refl e
  where
    by : (o : Option Cell) → slice_get (row_of (located_in text) row) column ≡ o → Some p ≡ option_map place_of o
        → (list_any (λ d. nat_eq p.start d.start) (row_of (located_in text) row) || (nat_eq p.start 0 || nat_eq p.start (length text))) ≡ true
    by None found is = search rules
    by (Some c) found is = among (row_of (located_in text) row) column p.start c (nat_eq p.start 0 || nat_eq p.start (length text)) found (ap (λ o. unwrap_or (option_map (λ q. q.start) o) 0) is)

-- the end of the text
pub of_end : (text : List ℕ) (row : ℕ) → begins_cell text row (length text) ≡ true
unfolding begins_cell
of_end text row = search rules

-- its beginning
pub of_beginning : (text : List ℕ) (row : ℕ) → begins_cell text row 0 ≡ true
unfolding begins_cell
of_beginning text row = search rules

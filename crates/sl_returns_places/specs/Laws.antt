-- What the definition of places implies. The law is the contract of a function of `laws`.
use Rattle.std.specs.Prelude.{◌≡◌, ℕ, List, map}
use Rattle.sl_returns.specs.Returns.{records_in}
use Rattle.sl_returns_places.specs.Places.{located_in}

-- the cells of a text hold what the `csv` crate reads, each in its record
abbrev pub CellsHoldRecords : Type 0
CellsHoldRecords = (text : List ℕ) → map (map (λ c. c.holds)) (located_in text) ≡ records_in text

-- What the lots of a stage give, and a number that is kept where it stands first.
use Rattle.std.specs.List.{list_any}
use Rattle.std.specs.Prelude.{ℕ, List, [], ◌∷◌, ◌++◌, filter, filter_map, nat_eq, if◌then◌else◌}
use Rattle.std.specs.Str.{bytes_eq}
use Rattle.sl_base_terms.specs.declared.shape.Shape.{Shape}
use Rattle.sl_law_meaning.specs.declared.fault.Item.{Item}
use Rattle.sl_law_meaning.specs.declared.election.Lot.{Lot}
use Rattle.sl_law_meaning.specs.meaning.Lots.{given_entry}

-- the entries of a column of that shape that those of these lots give which are of the stage of that name
abbrev pub given_by : List ℕ → Shape → List Lot → List Item
given_by name votes lots = filter_map (given_entry votes) (filter (λ l. bytes_eq name l.stage) lots)

-- numbers, and one more after them, if it is not there yet
abbrev pub with_first : List ℕ → ℕ → List ℕ
with_first ns n = if list_any (λ m. nat_eq m n) ns then ns else ns ++ n ∷ []

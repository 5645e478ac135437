-- What the lots of the returns say of a stage, and of the last clause (docs/meaning.md, section 5).
use Rattle.std.specs.Prelude.{ℕ, Bool, false, not, ◌&&◌, List, [], ◌∷◌, Option, Some, None, nat_eq, filter, filter_map, position, slice_get, codes, if◌then◌else◌}
use Rattle.std.specs.Str.{bytes_eq}
use Rattle.sl_base_terms.specs.declared.shape.Shape.{Shape}
use Rattle.sl_base_terms.specs.declared.shape.Shape.TheVariants as shape
use Rattle.sl_law_meaning.specs.declared.fault.Item.{Item}
use Rattle.sl_law_meaning.specs.declared.fault.Item.TheVariants as item
use Rattle.sl_law_meaning.specs.declared.election.Win.{Win}
use Rattle.sl_law_meaning.specs.declared.election.Lot.{Lot}
use Rattle.sl_law_meaning.specs.returns.Election.{Election}
use Rattle.sl_law_meaning.specs.returns.Facts.{is_in, is_of}
use Rattle.sl_law_meaning.specs.meaning.Scopes.{same_item}

-- the lots with that stage's name, in the order of their records
abbrev pub lots_named : List ℕ → Election → List Lot
lots_named name e = filter (λ l. bytes_eq name l.stage) e.lots

-- the entry of a column of that shape that a lot gives: a party alone, a Land alone, or both
abbrev pub given_entry : Shape → Lot → Option Item
given_entry s l = of_parts s l.land l.party where
  of_parts : Shape → Option ℕ → Option ℕ → Option Item
  of_parts shape.Party None (Some party) = Some (item.Party party)
  of_parts shape.Land (Some land) None = Some (item.Land land)
  of_parts shape.List (Some land) (Some party) = Some (item.List land party)
  of_parts _ _ _ = None

-- the winner is of that Land and that party
abbrev pub is_winner_of : ℕ → ℕ → Option Win → Bool
is_winner_of land party None = false
is_winner_of land party (Some w) = is_in land w && is_of party w

-- the winner whose constituency, Land and party a lot gives together
abbrev pub given_winner : Election → Lot → Option Item
given_winner e l = of_parts l.land l.party l.win where
  of_parts : Option ℕ → Option ℕ → Option ℕ → Option Item
  of_parts (Some land) (Some party) (Some win) = if is_winner_of land party (slice_get e.wins win) then Some (item.Win win) else None
  of_parts _ _ _ = None

-- each number where it stands first
abbrev pub first_mentions : List ℕ → List ℕ
first_mentions [] = []
first_mentions (n ∷ ns) = n ∷ filter (λ m. not (nat_eq n m)) (first_mentions ns)

-- the lot among these entries, each by its number among them, that such mentions make; those of no entry have no effect
abbrev pub lot_among : List Item → List Item → List ℕ
lot_among entries mentions = first_mentions (filter_map (λ i. position (same_item i) entries) mentions)

-- the lot of a stage among entries of a column of that shape
abbrev pub stage_lot : Election → List ℕ → Shape → List Item → List ℕ
stage_lot e name s entries = lot_among entries (filter_map (given_entry s) (lots_named name e))

-- the lot of `seats` among winners
abbrev pub seats_lot : Election → List Item → List ℕ
seats_lot e winners = lot_among winners (filter_map (given_winner e) (lots_named (codes "seats") e))

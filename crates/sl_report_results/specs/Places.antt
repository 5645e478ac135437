-- The entries of a scope, and the seats that a stage gave to each of them.
use Rattle.std.specs.Prelude.{ℕ, Bool, ◌&&◌, List, [], count_by, nat_eq, ◌<◌}
use Rattle.sl_base_terms.specs.declared.shape.Shape.{Shape}
use Rattle.sl_base_terms.specs.declared.shape.Shape.TheVariants as shape
use Rattle.sl_law_meaning.specs.declared.fault.Item.{Item}
use Rattle.sl_law_meaning.specs.declared.fault.Scope.{Scope}
use Rattle.sl_law_meaning.specs.declared.fault.Scope.TheVariants as scope
use Rattle.sl_law_meaning.specs.declared.table.SeatStep.{SeatStep}
use Rattle.sl_law_meaning.specs.meaning.Scopes.{entries_of, lists_in_land, lists_of_party, same_item}
use Rattle.sl_law_meaning.specs.returns.Election.{Election, lands_of, parties_of}

-- a seat of that stage, and of that entry
abbrev pub is_seat_of : ℕ → Item → SeatStep → Bool
is_seat_of stage i step = nat_eq step.stage stage && same_item step.entry i

-- the seats that a stage gave to an entry, by the steps that won them
abbrev pub seats_of : ℕ → List SeatStep → Item → ℕ
seats_of stage steps i = count_by (is_seat_of stage i) steps

-- the entries of a column of that shape which compete in a scope
abbrev pub items_in : Election → Shape → Scope → List Item
items_in e votes scope.All = entries_of e votes
items_in e votes (scope.Party party) = lists_of_party e party
items_in e votes (scope.Land land) = lists_in_land e land
items_in e votes (scope.List land party) = []

-- the scope of that number, of amounts of that shape
abbrev pub scope_at : Shape → ℕ → Scope
scope_at shape.One n = scope.All
scope_at shape.Party n = scope.Party n
scope_at shape.Land n = scope.Land n
scope_at shape.List n = scope.All

-- the Land and the party of a scope are those of the election
abbrev pub IsScope : Election → Scope → Type 0
IsScope e scope.All = Unit {0}
IsScope e (scope.Party party) = party < parties_of e
IsScope e (scope.Land land) = land < lands_of e
IsScope e (scope.List land party) = Unit {0}

-- how many scopes amounts of that shape have
abbrev pub scope_count : Election → Shape → ℕ
scope_count e shape.One = 1
scope_count e shape.Party = parties_of e
scope_count e shape.Land = lands_of e
scope_count e shape.List = 0

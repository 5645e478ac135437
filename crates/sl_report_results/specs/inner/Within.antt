-- Where the entries of a scope stand among all that it can have.
use Rattle.std.specs.Prelude.{ℕ, ◌*◌, Bool, true, false, ◌&&◌, Option, Some, None, nat_eq, nat_lt, if◌then◌else◌}
use Rattle.sl_base_terms.specs.declared.shape.Shape.{Shape}
use Rattle.sl_base_terms.specs.declared.shape.Shape.TheVariants as shape
use Rattle.sl_law_meaning.specs.declared.fault.Item.{Item}
use Rattle.sl_law_meaning.specs.declared.fault.Item.TheVariants as item
use Rattle.sl_law_meaning.specs.declared.fault.Scope.{Scope}
use Rattle.sl_law_meaning.specs.declared.fault.Scope.TheVariants as scope
use Rattle.sl_law_meaning.specs.laws.ColumnLaws.{size_of}
use Rattle.sl_law_meaning.specs.meaning.Scopes.{place}
use Rattle.sl_law_meaning.specs.returns.Election.{Election, lands_of, parties_of}

-- a party, a Land or a pair of both of the election, as the shape has it
abbrev pub is_of : Election → Shape → Item → Bool
is_of e shape.Party (item.Party p) = nat_lt p (parties_of e)
is_of e shape.Land (item.Land l) = nat_lt l (lands_of e)
is_of e shape.List (item.List l p) = nat_lt l (lands_of e) && nat_lt p (parties_of e)
is_of e _ _ = false

-- the place of such an entry in its column
abbrev pub own_place : Election → Shape → Item → Option ℕ
own_place e v i = if is_of e v i then Some (place e i) else None

-- the shape of the entries of a scope
abbrev pub shape_in : Shape → Scope → Shape
shape_in votes scope.All = votes
shape_in votes _ = shape.List

-- a list of the party, or in the Land; and every entry, where there is one scope
abbrev pub is_within : Scope → Item → Bool
is_within scope.All i = true
is_within (scope.Party party) (item.List l p) = nat_eq p party
is_within (scope.Land land) (item.List l p) = nat_eq l land
is_within _ _ = false

-- the Land of a list of a party, and the party of one in a Land; and the place in the column, where there is one scope
abbrev pub place_by : Election → Scope → Item → ℕ
place_by e (scope.Party party) (item.List l p) = l
place_by e (scope.Land land) (item.List l p) = p
place_by e _ i = place e i

abbrev pub place_in : Election → Shape → Scope → Item → Option ℕ
place_in e votes s i = if is_of e (shape_in votes s) i && is_within s i then Some (place_by e s i) else None

-- how many places there are
abbrev pub size_in : Election → Shape → Scope → ℕ
size_in e votes scope.All = size_of e votes
size_in e votes (scope.Party party) = lands_of e
size_in e votes (scope.Land land) = parties_of e
size_in e votes (scope.List land party) = lands_of e * parties_of e

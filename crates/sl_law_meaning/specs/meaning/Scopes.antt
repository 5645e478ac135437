-- The scopes of a split: in each of them an amount of seats is distributed among entries (docs/meaning.md, section 4).
use Rattle.std.specs.Prelude.{ℕ, ◌+◌, ◌*◌, Bool, false, ◌&&◌, List, [], ◌∷◌, map, filter, nat_eq, slice_index, unwrap_or, option_map, find}
use Rattle.sl_base_terms.specs.declared.shape.Shape.{Shape}
use Rattle.sl_base_terms.specs.declared.shape.Shape.TheVariants as shape
use Rattle.sl_law_meaning.specs.declared.fault.Scope.{Scope}
use Rattle.sl_law_meaning.specs.declared.fault.Scope.TheVariants as scope
use Rattle.sl_law_meaning.specs.declared.fault.Item.{Item}
use Rattle.sl_law_meaning.specs.declared.fault.Item.TheVariants as item
use Rattle.sl_law_meaning.specs.returns.Election.{Election, parties_of, has_list}
use Rattle.sl_law_meaning.specs.returns.Facts.{lands, parties, each_list, by_party, by_land, by_list}

-- ---- entries

-- two items are the same
abbrev pub same_item : Item → Item → Bool
same_item (item.Party p) (item.Party q) = nat_eq p q
same_item (item.Land l) (item.Land k) = nat_eq l k
same_item (item.List l p) (item.List k q) = nat_eq l k && nat_eq p q
same_item (item.Win v) (item.Win w) = nat_eq v w
same_item _ _ = false

-- where an entry stands in its column
abbrev pub place : Election → Item → ℕ
place e (item.Party party) = party
place e (item.Land land) = land
place e (item.List land party) = land * parties_of e + party
place e (item.Win win) = win

-- the numbers that these entries have in their column
abbrev pub cells : Election → List Item → List ℕ → List ℕ
cells e entries column = map (λ i. slice_index column (place e i)) entries

-- the lists in a Land, those of a party, and all, in list order
abbrev pub lists_in_land : Election → ℕ → List Item
lists_in_land e land = map (λ party. item.List land party) (filter (has_list e land) (parties e))

abbrev pub lists_of_party : Election → ℕ → List Item
lists_of_party e party = map (λ land. item.List land party) (filter (λ land. has_list e land party) (lands e))

abbrev pub all_lists : Election → List Item
all_lists e = each_list e (λ land party. item.List land party)

-- the entries of a column of parties, of Länder or of lists. Pairs of Land and party without a list are none
abbrev pub entries_of : Election → Shape → List Item
entries_of e shape.One = []
entries_of e shape.Party = map (λ party. item.Party party) (parties e)
entries_of e shape.Land = map (λ land. item.Land land) (lands e)
entries_of e shape.List = all_lists e

-- ---- scopes

-- a scope: its name, where its amount stands in the column of the amounts, and its entries in entry order
pub record Group : Type 0 where
  pub scope : Scope
  pub amount_place : ℕ
  pub entries : List Item

-- the scopes in which amounts of one shape are distributed among entries of another, in order: one scope for all entries; for each party
-- one of its lists; for each Land one of the lists in it
abbrev pub scopes : Election → Shape → Shape → List Group
scopes e shape.One votes = record { scope = scope.All; amount_place = 0; entries = entries_of e votes } ∷ []
scopes e shape.Party votes = map (λ party. record { scope = scope.Party party; amount_place = party; entries = lists_of_party e party }) (parties e)
scopes e shape.Land votes = map (λ land. record { scope = scope.Land land; amount_place = land; entries = lists_in_land e land }) (lands e)
scopes e shape.List votes = []

-- ---- columns of seats

-- what these pairs tell of an item, 0 if nothing
abbrev pub told_of : List (Item × ℕ) → Item → ℕ
told_of pairs i = unwrap_or (option_map (λ x. x.1) (find (λ x. same_item i x.0) pairs)) 0

-- the column of that shape that these pairs of an entry and its number make, 0 where there is no entry
abbrev pub pair_column : Election → Shape → List (Item × ℕ) → List ℕ
pair_column e shape.One pairs = []
pair_column e shape.Party pairs = by_party e (λ party. told_of pairs (item.Party party))
pair_column e shape.Land pairs = by_land e (λ land. told_of pairs (item.Land land))
pair_column e shape.List pairs = by_list e (λ land party. told_of pairs (item.List land party))

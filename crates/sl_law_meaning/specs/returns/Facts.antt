-- What the returns say of parties, lists and winners (docs/meaning.md, section 1).
use Rattle.std.specs.Prelude.{ℕ, ◌+◌, ◌*◌, Bool, true, false, not, ◌&&◌, List, Option, Some, None, is_none, map, filter, sum_by, count_by, flat_map, nat_eq, nat_le, slice_index, slice_index_or, if◌then◌else◌}
use Rattle.std.specs.List.{list_any, range_with_len}
use Rattle.sl_law_meaning.specs.declared.book.Cond.{Cond}
use Rattle.sl_law_meaning.specs.declared.book.Cond.TheVariants as condition
use Rattle.sl_law_meaning.specs.declared.election.Win.{Win}
use Rattle.sl_law_meaning.specs.returns.Votes.{valid_in, counted_in}
use Rattle.sl_law_meaning.specs.returns.Election.{Election, lands_of, parties_of, list_at, has_list}

-- the numbers of the Länder, and those of the parties
abbrev pub lands : Election → List ℕ
lands e = range_with_len 0 (lands_of e)

abbrev pub parties : Election → List ℕ
parties e = range_with_len 0 (parties_of e)

-- ---- lists, in list order: by Land, then by party

-- what f gives for each list
abbrev pub each_list : {X : Type 0} → Election → (ℕ → ℕ → X) → List X
each_list e f = flat_map (λ land. map (f land) (filter (has_list e land) (parties e))) (lands e)

-- the lists, each by its Land and its party
abbrev pub lists_of : Election → List (ℕ × ℕ)
lists_of e = each_list e (λ land party. (land, party))

-- ---- columns: a number for each party, for each Land, or for each pair of Land and party, in the order of Länder and then of parties

abbrev pub by_party : Election → (ℕ → ℕ) → List ℕ
by_party e f = map f (parties e)

abbrev pub by_land : Election → (ℕ → ℕ) → List ℕ
by_land e f = map f (lands e)

abbrev pub by_list : Election → (ℕ → ℕ → ℕ) → List ℕ
by_list e f = flat_map (λ land. by_party e (f land)) (lands e)

-- the number of a pair of Land and party in such a column
abbrev pub list_cell : Election → List ℕ → ℕ → ℕ → ℕ
list_cell e column land party = slice_index column (land * parties_of e + party)

-- ---- winners

-- the winner is of that party
abbrev pub is_of : ℕ → Win → Bool
is_of party w = is_party w.party where
  is_party : Option ℕ → Bool
  is_party None = false
  is_party (Some p) = nat_eq p party

abbrev pub is_in : ℕ → Win → Bool
is_in land w = nat_eq w.land land

-- ---- eligible parties

-- the valid votes of a party's lists, and those of all lists
abbrev pub valid_votes : Election → ℕ → ℕ
valid_votes e party = sum_by (λ land. valid_in (list_at e land party)) (lands e)

abbrev pub all_valid_votes : Election → ℕ
all_valid_votes e = sum_by (valid_votes e) (parties e)

-- a party meets a condition: so many of so many valid votes; so many winners; a national minority
abbrev pub meets : Election → ℕ → Cond → Bool
meets e party (condition.Valid share per) = nat_le (share.value * all_valid_votes e) (per * valid_votes e party)
meets e party (condition.Winners least) = nat_le least (count_by (is_of party) e.wins)
meets e party condition.Minority = slice_index_or e.minorities party false
meets e party condition.All = true

-- a party that meets one of the conditions
abbrev pub is_eligible : List Cond → Election → ℕ → Bool
is_eligible conditions e party = list_any (meets e party) conditions

-- ---- lists of eligible parties

module _ (eligible : ℕ → Bool) (e : Election) where
  -- an eligible party's list in a Land
  abbrev pub is_eligible_list : ℕ → ℕ → Bool
  is_eligible_list land party = eligible party && has_list e land party

  -- the winner is of an eligible party that has a list in the Land
  abbrev pub has_eligible_list : Win → Bool
  has_eligible_list w = is_taken w.party where
    is_taken : Option ℕ → Bool
    is_taken None = false
    is_taken (Some p) = is_eligible_list w.land p

-- the same, where the parties that meet one of these conditions are eligible
abbrev pub takes_part : List Cond → Election → ℕ → ℕ → Bool
takes_part conditions e = is_eligible_list (is_eligible conditions e) e

abbrev pub is_on_list : List Cond → Election → Win → Bool
is_on_list conditions e = has_eligible_list (is_eligible conditions e) e

-- ---- the columns that a book can name

module _ (conditions : List Cond) (e : Election) where
  -- counted votes of the lists of eligible parties
  abbrev pub counted_votes : List ℕ
  counted_votes = by_list e (λ land party. if is_eligible conditions e party then counted_in (list_at e land party) else 0)

  -- winners of an eligible party in a Land where it has a list
  abbrev pub list_winners : List ℕ
  list_winners = by_list e (λ land party. if takes_part conditions e land party then count_by (λ w. is_in land w && is_of party w) e.wins else 0)

  -- all other winners
  abbrev pub outside_winners : List ℕ
  outside_winners = by_land e (λ land. count_by (λ w. is_in land w && not (is_on_list conditions e w)) e.wins)

  -- winners without a party
  abbrev pub independent_winners : List ℕ
  independent_winners = by_land e (λ land. count_by (λ w. is_in land w && is_none w.party) e.wins)

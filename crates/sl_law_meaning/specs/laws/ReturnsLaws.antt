-- What the facts of the returns say (docs/meaning.md, section 1). Each law is the contract of a function of `laws::returns`.
use Rattle.std.specs.Prelude.{◌≡◌, ◌↔◌, ℕ, ◌+◌, ◌*◌, ◌<◌, ◌≤◌, ◌&&◌, true, false, List, Some, Contains, slice_get, slice_index, sum_by, count_by}
use Rattle.sl_law_meaning.specs.declared.book.Cond.{Cond}
use Rattle.sl_law_meaning.specs.declared.book.Cond.TheVariants as condition
use Rattle.sl_law_meaning.specs.returns.Votes.{counted_in}
use Rattle.sl_law_meaning.specs.returns.Election.{Election, IsElection, lands_of, parties_of, list_at, has_list}
use Rattle.sl_law_meaning.specs.returns.Facts.{parties, list_cell, is_of, is_in, valid_votes, all_valid_votes, is_eligible, takes_part, counted_votes, list_winners, outside_winners, independent_winners}

-- ---- lists

-- each list is of a Land and a party of the election, so neither a Land nor a party that joins brings a list with it
abbrev pub ListsAreNamed : Type 0
ListsAreNamed = (e : Election) (land party : ℕ) → IsElection e → has_list e land party ≡ true → (land < lands_of e) × (party < parties_of e)

-- ---- who is eligible

-- n in each d of all valid votes; so many winners; a party of a national minority; every party
abbrev pub MeetsCondition : Election → ℕ → Cond → Type 0
MeetsCondition e party (condition.Valid n d) = n.value * all_valid_votes e ≤ d * valid_votes e party
MeetsCondition e party (condition.Winners least) = least ≤ count_by (is_of party) e.wins
MeetsCondition e party condition.Minority = slice_get e.minorities party ≡ Some true
MeetsCondition e party condition.All = Unit {0}

-- the parties that meet one of the conditions
abbrev pub EligibleParties : Type 0
EligibleParties =
    (conditions : List Cond) (e : Election) (party : ℕ) →
    (is_eligible conditions e party ≡ true) ↔ ((c : Cond) × Contains conditions c × MeetsCondition e party c)

-- ---- the columns that a book can name

-- of a pair of Land and party: where the party has a list there and is eligible, the list's counted votes and the party's winners in
-- the Land; and else 0
pub record ListFacts (conditions : List Cond) (e : Election) (land party : ℕ) : Type 0 where
  pub counted : takes_part conditions e land party ≡ true → list_cell e (counted_votes conditions e) land party ≡ counted_in (list_at e land party)
  pub winners : takes_part conditions e land party ≡ true →
      list_cell e (list_winners conditions e) land party ≡ count_by (λ w. is_in land w && is_of party w) e.wins
  pub no_list : has_list e land party ≡ false →
      (list_cell e (counted_votes conditions e) land party ≡ 0) × (list_cell e (list_winners conditions e) land party ≡ 0)
  pub not_eligible : is_eligible conditions e party ≡ false →
      (list_cell e (counted_votes conditions e) land party ≡ 0) × (list_cell e (list_winners conditions e) land party ≡ 0)

abbrev pub FactsOfLists : Type 0
FactsOfLists =
    (conditions : List Cond) (e : Election) (land party : ℕ) → land < lands_of e → party < parties_of e → ListFacts conditions e land party

-- of a Land: the winners on its lists and those outside are together all its winners, and those without a party are among the latter
pub record LandFacts (conditions : List Cond) (e : Election) (land : ℕ) : Type 0 where
  pub all_winners :
      sum_by (λ party. list_cell e (list_winners conditions e) land party) (parties e) + slice_index (outside_winners conditions e) land
      ≡ count_by (is_in land) e.wins
  pub alone : slice_index (independent_winners conditions e) land ≤ slice_index (outside_winners conditions e) land

abbrev pub FactsOfLands : Type 0
FactsOfLands = (conditions : List Cond) (e : Election) (land : ℕ) → IsElection e → land < lands_of e → LandFacts conditions e land

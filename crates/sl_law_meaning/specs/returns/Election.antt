-- The returns of an election, as the definitions see them (docs/returns.md, section 2).
use Rattle.std.specs.Prelude.{◌≡◌, ℕ, ◌<◌, ◌≤◌, Bool, List, [], ◌∷◌, ◌++◌, length, replicate, Option, Some, None, is_some, slice_index_or, slice_set, All}
use Rattle.std.specs.Option.{ForSome}
use Rattle.sl_base_quotients.specs.Names.{spelling_fault, IsNameList}
use Rattle.sl_base_quotients.specs.declared.limits.TheConstants.{MAX_SEATS, MAX_LANDS, MAX_PARTIES, MAX_VOTES}
use Rattle.sl_law_meaning.specs.declared.limits.TheConstants.{MAX_WINS, MAX_LOTS}
use Rattle.sl_law_meaning.specs.declared.election.ListVotes.{ListVotes}
use Rattle.sl_law_meaning.specs.declared.election.Win.{Win}
use Rattle.sl_law_meaning.specs.declared.election.Lot.{Lot}
use Rattle.sl_law_meaning.specs.returns.Votes.{IsListVotes, valid_in, counted_in}

-- Each Land, each party and each winner has the number of its record, from 0.
pub record Election : Type 0 where
  -- the house that the returns give, if they do
  pub house : Option ℕ
  pub land_names : List (List ℕ)
  pub populations : List ℕ
  -- for each Land a row with a cell for each party that there may be: what is recorded of its list, if it has one
  pub cells : List (List (Option ListVotes))
  pub party_names : List (List ℕ)
  -- which parties are those of national minorities
  pub minorities : List Bool
  pub win_names : List (List ℕ)
  pub wins : List Win
  -- in the order of their records
  pub lots : List Lot

abbrev pub lands_of : Election → ℕ
lands_of e = length e.land_names

abbrev pub parties_of : Election → ℕ
parties_of e = length e.party_names

abbrev pub wins_of : Election → ℕ
wins_of e = length e.wins

-- the list of a party in a Land, if it has one
abbrev pub list_at : Election → ℕ → ℕ → Option ListVotes
list_at e land party = slice_index_or (slice_index_or e.cells land []) party None

abbrev pub has_list : Election → ℕ → ℕ → Bool
has_list e land party = is_some (list_at e land party)

-- what each winner keeps: a Land and a party of the election, and first votes from 1 to the valid ones
pub record IsWin (lands parties : ℕ) (w : Win) : Type 0 where
  pub land : w.land < lands
  pub party : ForSome w.party (λ p. p < parties)
  pub least : 1 ≤ w.first
  pub most : w.first ≤ w.valid
  pub valid : w.valid ≤ MAX_VOTES

abbrev pub IsCell : Option ListVotes → Type 0
IsCell cell = ForSome cell IsListVotes

-- what each lot keeps: a stage's name, and a Land, a party and a winner of the election
pub record IsLot (lands parties winners : ℕ) (l : Lot) : Type 0 where
  pub stage : spelling_fault l.stage ≡ None
  pub land : ForSome l.land (λ n. n < lands)
  pub party : ForSome l.party (λ n. n < parties)
  pub win : ForSome l.win (λ n. n < winners)

-- a row has no list for a party of that number or a greater one
abbrev pub EndsBefore : ℕ → List (Option ListVotes) → Type 0
EndsBefore n row = (party : ℕ) → n ≤ party → slice_index_or row party None ≡ None

-- at most so many names, each well spelled, and none twice
abbrev pub AreNames : ℕ → List (List ℕ) → Type 0
AreNames limit names = IsNameList (record { limit = limit; names = names })

-- what every election keeps
pub record IsElection (e : Election) : Type 0 where
  pub house : ForSome e.house (λ h. (1 ≤ h) × (h ≤ MAX_SEATS))
  pub lands : length e.land_names ≤ MAX_LANDS
  pub parties : length e.party_names ≤ MAX_PARTIES
  pub winners : length e.win_names ≤ MAX_WINS
  pub land_names : AreNames MAX_LANDS e.land_names
  pub party_names : AreNames MAX_PARTIES e.party_names
  pub win_names : AreNames MAX_WINS e.win_names
  pub populations : length e.populations ≡ length e.land_names
  pub rows : length e.cells ≡ length e.land_names
  pub minorities : length e.minorities ≡ length e.party_names
  pub wins : length e.win_names ≡ length e.wins
  pub people : All (λ n. n ≤ MAX_VOTES) e.populations
  pub widths : All (λ row. length row ≡ MAX_PARTIES) e.cells
  pub votes : All (All IsCell) e.cells
  pub ends : All (EndsBefore (length e.party_names)) e.cells
  pub places : All (IsWin (length e.land_names) (length e.party_names)) e.wins
  pub drawn : length e.lots ≤ MAX_LOTS
  pub lots : All (IsLot (length e.land_names) (length e.party_names) (length e.win_names)) e.lots

-- ---- records that join an election

abbrev pub no_election : Election
no_election = record { house = None; land_names = []; populations = []; cells = []; party_names = []; minorities = []; win_names = []; wins = []; lots = [] }

abbrev pub with_house : Election → ℕ → Election
with_house e seats = record e { house = Some seats }

abbrev pub with_land : Election → List ℕ → ℕ → Election
with_land e name people = record e {
  land_names = e.land_names ++ name ∷ [];
  populations = e.populations ++ people ∷ [];
  cells = e.cells ++ replicate MAX_PARTIES None ∷ [];
}

abbrev pub with_party : Election → List ℕ → Bool → Election
with_party e name minority = record e { party_names = e.party_names ++ name ∷ []; minorities = e.minorities ++ minority ∷ [] }

abbrev pub with_list : Election → ℕ → ℕ → ListVotes → Election
with_list e land party votes = record e { cells = slice_set e.cells land (slice_set (slice_index_or e.cells land []) party (Some votes)) }

abbrev pub with_win : Election → List ℕ → Win → Election
with_win e name win = record e { win_names = e.win_names ++ name ∷ []; wins = e.wins ++ win ∷ [] }

abbrev pub with_slate : Election → ℕ → ℕ → ℕ → Election
with_slate e land party names = with_list e land party (record { valid = valid_in (list_at e land party); counted = counted_in (list_at e land party); slate = Some names })

abbrev pub with_lot : Election → Lot → Election
with_lot e lot = record e { lots = e.lots ++ lot ∷ [] }

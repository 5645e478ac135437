-- Small elections, counted by the definitions (docs/meaning.md, section 11).
use Rattle.std.specs.Prelude.{ℕ, List, [], ◌∷◌, Some, None}
use Rattle.sl_base_quotients.specs.declared.method.Divisor.TheVariants.{Webster, Jefferson}
use Rattle.sl_base_quotients.specs.declared.method.Method.TheVariants as by
use Rattle.sl_law_meaning.specs.declared.book.Majority.TheVariants as majority
use Rattle.sl_law_meaning.specs.declared.book.Seating.TheVariants as seating
use Rattle.sl_law_meaning.specs.declared.fault.Scope.TheVariants as scope
use Rattle.sl_law_meaning.specs.declared.fault.Item.TheVariants as item
use Rattle.sl_law_meaning.specs.declared.fault.FaultKind.TheVariants as fault
use Rattle.sl_law_meaning.specs.declared.election.Lot.{Lot}
use Rattle.sl_law_meaning.specs.declared.table.Mark.TheVariants as mark
use Rattle.sl_law_meaning.specs.declared.table.Placed.TheVariants as placed
use Rattle.sl_law_meaning.specs.declared.table.Outcome.TheVariants as outcome
use Rattle.sl_law_meaning.specs.book.Trees.{BookTree}
use Rattle.sl_law_meaning.specs.returns.Election.{Election}
use Rattle.sl_law_meaning.specs.meaning.Results.{fault_at}
use Rattle.sl_law_meaning.specs.meaning.Means.{Means}
use Rattle.sl_law_examples.specs.SmallElections.{house_split, house_split_from, house_grown, one_stage, votes, one_land, win, lot, winner_lot, line, seat, over, webster_weight}

-- ---- ties and lots: 30 and 10 votes, webster

abbrev pub by_webster : ℕ → BookTree
by_webster seats = one_stage seats (house_split (by.Divisor Webster) majority.Free) seating.Keep None

abbrev pub thirty_ten : List Lot → Election
thirty_ten lots = one_land (votes 30 ∷ votes 10 ∷ []) [] lots

pub record TiesAndLots : Type 0 where
  -- two seats: 60/3 and 20/1 are equal
  pub tie : Means (by_webster 2) (thirty_ten []) (outcome.Fault (fault_at 0 scope.All (fault.Tie 1 (item.List 0 0 ∷ item.List 0 1 ∷ []))))
  pub half_a_lot : Means (by_webster 2) (thirty_ten (lot 1 ∷ [])) (outcome.Fault (fault_at 0 scope.All (fault.Tie 1 (item.List 0 0 ∷ item.List 0 1 ∷ []))))
  pub by_lot : Means (by_webster 2) (thirty_ten (lot 1 ∷ lot 0 ∷ [])) (outcome.Table (record {
    lists = line 0 1 0 0 ∷ line 1 1 0 0 ∷ [];
    placed = [];
    steps = seat 0 1 1 (over 60 1) ∷ seat 1 1 2 (over 20 1) ∷ [];
    weights = webster_weight 0 30 ∷ webster_weight 1 10 ∷ [];
  }))
  -- three seats: both get what they were tied for, at the same step
  pub three : Means (by_webster 3) (thirty_ten []) (outcome.Table (record {
    lists = line 0 2 0 0 ∷ line 1 1 0 0 ∷ [];
    placed = [];
    steps = seat 0 1 1 (over 60 1) ∷ seat 0 2 2 (over 60 3) ∷ seat 1 1 2 (over 20 1) ∷ [];
    weights = webster_weight 0 30 ∷ webster_weight 1 10 ∷ [];
  }))

-- ---- minima and growth

pub record MinimaAndGrowth : Type 0 where
  -- jefferson, 100 and 10 votes, two seats at least for the second: given, and no seats on top
  pub minima : Means (one_stage 3 (house_split_from (by.Divisor Jefferson) majority.Free) seating.Keep None)
      (one_land (votes 100 ∷ votes 10 ∷ []) (win 1 1 2 ∷ win 1 1 2 ∷ []) [])
      (outcome.Table (record {
        lists = line 0 1 0 0 ∷ line 1 2 2 0 ∷ [];
        placed = placed.OnList ∷ placed.OnList ∷ [];
        steps = seat 0 1 1 (over 100 1) ∷ seat 1 1 0 mark.Given ∷ seat 1 2 0 mark.Given ∷ [];
        weights = [];
      }))
  -- two at least for each of them are too many
  pub short : Means (one_stage 3 (house_split_from (by.Divisor Jefferson) majority.Free) seating.Keep None)
      (one_land (votes 100 ∷ votes 10 ∷ []) (win 0 1 2 ∷ win 0 1 2 ∷ win 1 1 2 ∷ win 1 1 2 ∷ []) [])
      (outcome.Fault (fault_at 0 scope.All fault.Short))
  -- a house of 2 grows past its tie to 3; the seat within the minimum is awarded like the others
  pub growth : Means (one_stage 2 (house_grown (by.Divisor Webster) majority.Free) seating.Keep None)
      (one_land (votes 30 ∷ votes 10 ∷ []) (win 1 1 2 ∷ []) [])
      (outcome.Table (record {
        lists = line 0 2 0 0 ∷ line 1 1 1 0 ∷ [];
        placed = placed.OnList ∷ [];
        steps = seat 0 1 1 (over 60 1) ∷ seat 0 2 2 (over 60 3) ∷ seat 1 1 2 (over 20 1) ∷ [];
        weights = [];
      }))

-- ---- faults of a split and of a growth

pub record Refusals : Type 0 where
  -- 51 of 100 votes have 2 of 5 seats
  pub deprived : Means (one_stage 5 (house_split by.Hamilton majority.Refuse) seating.Keep None)
      (one_land (votes 51 ∷ votes 18 ∷ votes 16 ∷ votes 15 ∷ []) [] []) (outcome.Fault (fault_at 0 scope.All fault.Majority))
  -- nobody has votes
  pub no_votes : Means (by_webster 1) (one_land (votes 0 ∷ []) [] []) (outcome.Fault (fault_at 0 scope.All fault.NoList))
  pub no_growth : Means (one_stage 1 (house_grown (by.Divisor Webster) majority.Free) seating.Keep None)
      (one_land (votes 0 ∷ []) [] []) (outcome.Fault (fault_at 0 scope.All fault.NoList))

-- ---- the last clause: two seats for three winners, whose greatest share is the first one's

abbrev pub covers : BookTree
covers = one_stage 2 (house_split (by.Divisor Webster) majority.Free) seating.Cover None

pub record LastClauses : Type 0 where
  pub covered : Means covers (one_land (votes 10 ∷ []) (win 0 300 500 ∷ win 0 400 1000 ∷ win 0 390 900 ∷ []) []) (outcome.Table (record {
    lists = line 0 2 2 0 ∷ [];
    placed = placed.OnList ∷ placed.Unseated ∷ placed.OnList ∷ [];
    steps = seat 0 1 1 (over 20 1) ∷ seat 0 2 2 (over 20 3) ∷ [];
    weights = webster_weight 0 10 ∷ [];
  }))
  -- 400/1000 and 360/900 are equal, and no lot of `seats` is there
  pub tie : Means covers (one_land (votes 10 ∷ []) (win 0 300 500 ∷ win 0 400 1000 ∷ win 0 360 900 ∷ []) [])
      (outcome.Fault (fault_at 1 (scope.List 0 0) (fault.Tie 1 (item.Win 1 ∷ item.Win 2 ∷ []))))
  -- with a lot that names both, the winner whom it names first is seated
  pub tie_and_lot : Means covers (one_land (votes 10 ∷ []) (win 0 300 500 ∷ win 0 400 1000 ∷ win 0 360 900 ∷ []) (winner_lot 2 ∷ winner_lot 1 ∷ [])) (outcome.Table (record {
    lists = line 0 2 2 0 ∷ [];
    placed = placed.OnList ∷ placed.Unseated ∷ placed.OnList ∷ [];
    steps = seat 0 1 1 (over 20 1) ∷ seat 0 2 2 (over 20 3) ∷ [];
    weights = webster_weight 0 10 ∷ [];
  }))
  -- of four seats, one has a winner and two names are left, so one is vacant
  pub vacant : Means (one_stage 4 (house_split (by.Divisor Webster) majority.Free) seating.Keep (Some 0))
      (one_land (record { valid = 10; counted = 10; slate = Some 2 } ∷ []) (win 0 1 2 ∷ []) []) (outcome.Table (record {
        lists = line 0 4 1 1 ∷ [];
        placed = placed.OnList ∷ [];
        steps = seat 0 1 1 (over 20 1) ∷ seat 0 2 2 (over 20 3) ∷ seat 0 3 3 (over 20 5) ∷ seat 0 4 4 (over 20 7) ∷ [];
        weights = webster_weight 0 10 ∷ [];
      }))

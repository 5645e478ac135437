-- Small elections with several scopes, counted by the definitions (docs/meaning.md, section 11).
use Rattle.std.specs.Prelude.{ℕ, false, [], ◌∷◌, Some, None, replicate, codes}
use Rattle.sl_base_quotients.specs.declared.method.Divisor.TheVariants.{Webster}
use Rattle.sl_base_quotients.specs.declared.method.Method.TheVariants as by
use Rattle.sl_law_meaning.specs.declared.fact.Fact.TheVariants as facts
use Rattle.sl_law_meaning.specs.declared.book.Axis.TheVariants as axis
use Rattle.sl_law_meaning.specs.declared.book.Majority.TheVariants as majority
use Rattle.sl_law_meaning.specs.declared.fault.Scope.TheVariants as scope
use Rattle.sl_law_meaning.specs.declared.fault.Item.TheVariants as item
use Rattle.sl_law_meaning.specs.declared.fault.FaultKind.TheVariants as fault
use Rattle.sl_law_meaning.specs.declared.table.SeatStep.{SeatStep}
use Rattle.sl_law_meaning.specs.declared.table.Weight.{Weight}
use Rattle.sl_law_meaning.specs.declared.table.Outcome.TheVariants as outcome
use Rattle.sl_law_meaning.specs.book.Trees.{fact, name, sum, split, without, BookTree}
use Rattle.sl_law_meaning.specs.returns.Election.{Election}
use Rattle.sl_law_meaning.specs.meaning.Results.{fault_at}
use Rattle.sl_law_meaning.specs.meaning.Means.{Means}
use Rattle.sl_law_examples.specs.SmallElections.{two_stages, votes, lot, party_lot, line, over}
use Rattle.sl_law_examples.specs.MeaningExamples.{thirty_ten}

-- the first seat of a party at a step of stage `s`, and that of a list, at the first step of stage `t`; and their weights
abbrev pub party_seat : ℕ → ℕ → ℕ → SeatStep
party_seat party step num = record { stage = 0; scope = scope.All; entry = item.Party party; n = 1; step = step; mark = over num 1 }

abbrev pub list_seat : ℕ → ℕ → SeatStep
list_seat party num = record { stage = 1; scope = scope.Party party; entry = item.List 0 party; n = 1; step = 1; mark = over num 1 }

abbrev pub party_weight : ℕ → ℕ → Weight
party_weight party weight = record { stage = 0; scope = scope.All; entry = item.Party party; divisor = Webster; weight = weight }

abbrev pub list_weight : ℕ → ℕ → Weight
list_weight party weight = record { stage = 1; scope = scope.Party party; entry = item.List 0 party; divisor = Webster; weight = weight }

-- ---- several scopes: what the first stage gives to parties or Länder, the second gives to their lists

abbrev pub by_parties : BookTree
by_parties = two_stages 2 (split 0 (fact 0 facts.House) (sum 0 (fact 0 facts.Counted) axis.Party) (by.Divisor Webster) without majority.Free)
    (split 0 (name 0 (codes "s")) (fact 0 facts.Counted) (by.Divisor Webster) without majority.Free)

abbrev pub by_lands : BookTree
by_lands = two_stages 2 (split 0 (fact 0 facts.House) (fact 0 facts.Population) (by.Divisor Webster) without majority.Free)
    (split 0 (name 0 (codes "s")) (fact 0 facts.Counted) (by.Divisor Webster) without majority.Free)

-- two Länder with the same number of people, and one party, with a list in the first
abbrev pub one_list : Election
one_list = record {
  house = None;
  land_names = codes "X" ∷ codes "Y" ∷ [];
  populations = 1000 ∷ 1000 ∷ [];
  cells = (Some (votes 10) ∷ replicate 255 None) ∷ replicate 256 None ∷ [];
  party_names = codes "A" ∷ [];
  minorities = false ∷ [];
  win_names = [];
  wins = [];
  lots = [];
}

pub record SeveralScopes : Type 0 where
  -- the lot of a stage of parties names parties alone
  pub lot_of_parties : Means by_parties (thirty_ten (party_lot 1 ∷ party_lot 0 ∷ [])) (outcome.Table (record {
    lists = line 0 1 0 0 ∷ line 1 1 0 0 ∷ [];
    placed = [];
    steps = party_seat 0 1 60 ∷ party_seat 1 2 20 ∷ list_seat 0 60 ∷ list_seat 1 20 ∷ [];
    weights = party_weight 0 30 ∷ party_weight 1 10 ∷ list_weight 0 30 ∷ list_weight 1 10 ∷ [];
  }))
  -- a lot for a list is none for a party
  pub other_lot : Means by_parties (thirty_ten (lot 1 ∷ lot 0 ∷ [])) (outcome.Fault (fault_at 0 scope.All (fault.Tie 1 (item.Party 0 ∷ item.Party 1 ∷ []))))
  -- one of the two seats goes to a Land without a list
  pub no_list : Means by_lands one_list (outcome.Fault (fault_at 1 (scope.Land 1) fault.NoList))

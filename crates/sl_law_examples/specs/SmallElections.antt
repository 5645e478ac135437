-- Rulebooks of one stage and returns of one Land, from which small examples are made (docs/meaning.md, section 11).
use Rattle.std.specs.Prelude.{ℕ, ◌-◌, false, List, [], ◌∷◌, ◌++◌, Option, Some, None, map, length, replicate, codes}
use Rattle.sl_base_quotients.specs.declared.method.Divisor.TheVariants.{Webster}
use Rattle.sl_base_quotients.specs.declared.method.Method.{Method}
use Rattle.sl_base_quotients.specs.declared.limits.TheConstants.{MAX_PARTIES}
use Rattle.sl_law_meaning.specs.declared.fact.Fact.TheVariants as facts
use Rattle.sl_law_meaning.specs.declared.book.Base.TheVariants as base
use Rattle.sl_law_meaning.specs.declared.book.Cond.TheVariants as condition
use Rattle.sl_law_meaning.specs.declared.book.Majority.{Majority}
use Rattle.sl_law_meaning.specs.declared.book.Number.{Number}
use Rattle.sl_law_meaning.specs.declared.book.Seating.{Seating}
use Rattle.sl_law_meaning.specs.declared.book.Seating.TheVariants as seating
use Rattle.sl_law_meaning.specs.declared.fault.Scope.TheVariants as scope
use Rattle.sl_law_meaning.specs.declared.fault.Item.TheVariants as item
use Rattle.sl_law_meaning.specs.declared.election.ListVotes.{ListVotes}
use Rattle.sl_law_meaning.specs.declared.election.Win.{Win}
use Rattle.sl_law_meaning.specs.declared.election.Lot.{Lot}
use Rattle.sl_law_meaning.specs.declared.table.ListSeats.{ListSeats}
use Rattle.sl_law_meaning.specs.declared.table.Mark.{Mark}
use Rattle.sl_law_meaning.specs.declared.table.Mark.TheVariants as mark
use Rattle.sl_law_meaning.specs.declared.table.SeatStep.{SeatStep}
use Rattle.sl_law_meaning.specs.declared.table.Weight.{Weight}
use Rattle.sl_law_meaning.specs.book.Trees.{ExprTree, fact, split, without, atleast, grow, StageTree, BookTree}
use Rattle.sl_law_meaning.specs.returns.Election.{Election}

-- ---- a book of one stage `s`, and the returns of one Land with parties that have so many votes

abbrev pub number : ℕ → Number
number n = record { value = n; at = 0 }

abbrev pub stage_s : ExprTree → StageTree
stage_s x = record { name = codes "s"; at = 0; expr = x }

-- the house, split by the counted votes; split so, or grown up to a cap of 9, with the winners as minima
abbrev pub house_split : Method → Majority → ExprTree
house_split method m = split 0 (fact 0 facts.House) (fact 0 facts.Counted) method without m

abbrev pub house_split_from : Method → Majority → ExprTree
house_split_from method m = split 0 (fact 0 facts.House) (fact 0 facts.Counted) method (atleast (fact 0 facts.Winners)) m

abbrev pub house_grown : Method → Majority → ExprTree
house_grown method m = grow 0 (fact 0 facts.House) (fact 0 facts.Counted) method (fact 0 facts.Winners) (number 9) m

-- a house, the stage's expression, what becomes of winners, and `vacate` or not
abbrev pub one_stage : ℕ → ExprTree → Seating → Option ℕ → BookTree
one_stage seats x winners_are vacate = record {
  version = number 2;
  law = codes "t";
  house = number seats;
  eligible = condition.All ∷ [];
  stages = stage_s x ∷ [];
  last = record { base = base.Stage (codes "s"); at = 0; seating = winners_are; vacate = vacate };
}

-- the same with two stages, `s` and `t`, the second one the base
abbrev pub stage_t : ExprTree → StageTree
stage_t x = record { name = codes "t"; at = 0; expr = x }

abbrev pub two_stages : ℕ → ExprTree → ExprTree → BookTree
two_stages seats x y = record {
  version = number 2;
  law = codes "t";
  house = number seats;
  eligible = condition.All ∷ [];
  stages = stage_s x ∷ stage_t y ∷ [];
  last = record { base = base.Stage (codes "t"); at = 0; seating = seating.Keep; vacate = None };
}

abbrev pub votes : ℕ → ListVotes
votes n = record { valid = n; counted = n; slate = None }

-- the names of the parties matter to nobody here
abbrev pub one_land : List ListVotes → List Win → List Lot → Election
one_land lists wins lots = record {
  house = None;
  land_names = codes "X" ∷ [];
  populations = 1000 ∷ [];
  cells = (map (λ v. Some v) lists ++ replicate (MAX_PARTIES - length lists) None) ∷ [];
  party_names = map (λ v. codes "P") lists;
  minorities = map (λ v. false) lists;
  win_names = map (λ w. codes "w") wins;
  wins = wins;
  lots = lots;
}

-- a winner of a party, with first votes of so many
abbrev pub win : ℕ → ℕ → ℕ → Win
win party first valid = record { land = 0; party = Some party; first = first; valid = valid }

-- a lot of the stage for a party's list
abbrev pub lot : ℕ → Lot
lot party = record { land = Some 0; party = Some party; stage = codes "s"; win = None }

-- a lot of the stage for a party, and one of `seats` for a winner of the first party
abbrev pub party_lot : ℕ → Lot
party_lot party = record { land = None; party = Some party; stage = codes "s"; win = None }

abbrev pub winner_lot : ℕ → Lot
winner_lot winner = record { land = Some 0; party = Some 0; stage = codes "seats"; win = Some winner }

-- ---- records

abbrev pub line : ℕ → ℕ → ℕ → ℕ → ListSeats
line party seats direct vacant = record { land = 0; party = party; seats = seats; direct = direct; vacant = vacant }

abbrev pub seat : ℕ → ℕ → ℕ → Mark → SeatStep
seat party n step won_by = record { stage = 0; scope = scope.All; entry = item.List 0 party; n = n; step = step; mark = won_by }

abbrev pub over : ℕ → ℕ → Mark
over num den = mark.Quotient (record { num = num; den = den })

abbrev pub webster_weight : ℕ → ℕ → Weight
webster_weight party weight = record { stage = 0; scope = scope.All; entry = item.List 0 party; divisor = Webster; weight = weight }

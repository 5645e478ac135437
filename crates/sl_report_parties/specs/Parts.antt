-- What each party has, and by which condition it takes part.
use Rattle.std.specs.Prelude.{ℕ, ◌+◌, ◌*◌, ◌≤◌, List, map, count_by}
use Rattle.std.specs.List.{position}
use Rattle.sl_law_meaning.specs.declared.book.Cond.{Cond}
use Rattle.sl_law_meaning.specs.returns.Election.{Election}
use Rattle.sl_law_meaning.specs.returns.Votes.{counted_in}
use Rattle.sl_law_meaning.specs.returns.Facts.{parties, is_of, valid_votes, meets}
use Rattle.sl_report_parties.specs.declared.votes.Votes.{Votes}
use Rattle.sl_report_parties.specs.declared.parts.PartyPart.{PartyPart}
use Rattle.sl_report_parties.specs.Sums.{party_sum}

abbrev pub votes_of : Election → ℕ → Votes
votes_of e party = record { valid = valid_votes e party; counted = party_sum counted_in e party }

-- the votes and the winners of a party, and the first condition that it meets
abbrev pub part_of : List Cond → Election → ℕ → PartyPart
part_of conditions e party = record {
  votes = votes_of e party;
  winners = count_by (is_of party) e.wins;
  met = position (meets e party) conditions;
}

abbrev pub parts_of : List Cond → Election → List PartyPart
parts_of conditions e = map (part_of conditions e) (parties e)

-- with so many further valid votes the party has its share: so many of so many, of the votes that it has and of all
abbrev pub IsEnough : (share per has all more : ℕ) → Type 0
IsEnough share per has all more = share * (all + more) ≤ per * (has + more)

-- the least number of further votes that is enough
pub record IsLeast (share per has all more : ℕ) : Type 0 where
  pub enough : IsEnough share per has all more
  pub least : (fewer : ℕ) → IsEnough share per has all fewer → more ≤ fewer

-- Sums over the lists and the winners of an election.
use Rattle.std.specs.Prelude.{ℕ, ◌^◌, ◌-◌, min, Bool, ◌&&◌, Option, Some, None, is_none, sum_by, count_by, if◌then◌else◌}
use Rattle.sl_law_meaning.specs.declared.election.ListVotes.{ListVotes}
use Rattle.sl_law_meaning.specs.declared.election.Win.{Win}
use Rattle.sl_law_meaning.specs.returns.Election.{Election, has_list, list_at}
use Rattle.sl_law_meaning.specs.returns.Facts.{lands, parties, is_of, is_in}

-- what is recorded of the lists of a party, of those in a Land, and of all
abbrev pub party_sum : (Option ListVotes → ℕ) → Election → ℕ → ℕ
party_sum told e party = sum_by (λ land. told (list_at e land party)) (lands e)

abbrev pub land_sum : (Option ListVotes → ℕ) → Election → ℕ → ℕ
land_sum told e land = sum_by (λ party. told (list_at e land party)) (parties e)

abbrev pub sum_in_all : (Option ListVotes → ℕ) → Election → ℕ
sum_in_all told e = sum_by (party_sum told e) (parties e)

-- the winner is of that party, or is without one
abbrev pub is_with : Option ℕ → Win → Bool
is_with None w = is_none w.party
is_with (Some party) w = is_of party w

abbrev pub is_alone_in : ℕ → Win → Bool
is_alone_in land w = is_in land w && is_none w.party

abbrev pub one_if : Bool → ℕ
one_if b = if b then 1 else 0

-- a number of 64 bits: the greatest one for all that are greater
abbrev pub capped : ℕ → ℕ
capped n = min n (2 ^ 64 - 1)

-- how many lists a party has
abbrev pub lists_of : Election → ℕ → ℕ
lists_of e party = count_by (λ land. has_list e land party) (lands e)

-- the valid first votes of the constituencies of a Land that have a winner
abbrev pub first_votes_in : Election → ℕ → ℕ
first_votes_in e land = sum_by (λ w. if is_in land w then w.valid else 0) e.wins

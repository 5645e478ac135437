-- The winners of each list, a winner of a list by the others, and the winners that count for a fact.
use Rattle.std.specs.Prelude.{◌≡◌, ℕ, ◌+◌, ◌*◌, ◌&&◌, Bool, false, List, [], Option, Some, None, count_by, filter, is_none, nat_eq, not, option_map, slice_get, slice_index_or, unwrap_or}
use Rattle.std.specs.List.{enumerate_from}
use Rattle.sl_law_meaning.specs.declared.book.Cond.{Cond}
use Rattle.sl_law_meaning.specs.declared.election.Win.{Win}
use Rattle.sl_law_meaning.specs.declared.fact.Fact.{Fact}
use Rattle.sl_law_meaning.specs.declared.fact.Fact.TheVariants as facts
use Rattle.sl_law_meaning.specs.declared.table.ListSeats.{ListSeats}
use Rattle.sl_law_meaning.specs.meaning.Tables.{SeatTable}
use Rattle.sl_law_meaning.specs.returns.Election.{Election, parties_of}
use Rattle.sl_law_meaning.specs.returns.Facts.{is_in, is_on_list}
use Rattle.sl_report_parties.specs.Ranks.{is_above}
use Rattle.sl_report_parties.specs.Seats.{is_seated}
use Rattle.sl_report_parties.specs.declared.contests.Ranked.{Ranked}

-- where the list of a winner stands among all pairs of Land and party, if the winner has a party
abbrev pub list_place : Election → Win → Option ℕ
list_place e w = option_map (λ p. w.land * parties_of e + p) w.party

-- it is that place
abbrev pub is_at : ℕ → Option ℕ → Bool
is_at n None = false
is_at n (Some place) = nat_eq place n

-- at each place the winners whose list stands there, with their numbers
abbrev pub AreOnLists : Election → List (List (ℕ × Win)) → Type 0
AreOnLists e all = (n : ℕ) → slice_index_or all n [] ≡ filter (λ x. is_at n (list_place e x.1)) (enumerate_from 0 e.wins)

-- a winner of a list, by all of its winners
abbrev pub ranked_by : SeatTable → ListSeats → List (ℕ × Win) → ℕ × Win → Ranked
ranked_by t l own x = record {
  land = l.land;
  party = l.party;
  win = x.0;
  first = x.1.first;
  valid = x.1.valid;
  rank = count_by (λ other. is_above x.1 other.1) own + 1;
  seated = unwrap_or (option_map is_seated (slice_get t.placed x.0)) false;
}

-- a winner counts for a fact of the winner's Land
abbrev pub counts : List Cond → Election → Fact → Win → Bool
counts conditions e facts.Outside w = not (is_on_list conditions e w)
counts conditions e facts.Independents w = is_none w.party
counts conditions e _ w = false

abbrev pub counts_in : List Cond → Election → Fact → ℕ → Win → Bool
counts_in conditions e fact land w = is_in land w && counts conditions e fact w

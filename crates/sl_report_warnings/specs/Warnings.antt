-- What is likely a mistake in returns, and in a rulebook and returns together (docs/returns.md, section 7).
use Rattle.std.specs.List.{list_all, list_any, range_with_len}
use Rattle.std.specs.Prelude.{Bool, List, None, Option, Some, [], codes, count_by, false, filter, flat_map, if◌then◌else◌, is_some, length, nat_eq, nat_le, nat_lt, not, slice_get, slice_index, slice_index_or, true, unwrap_or, ◌&&◌, ◌*◌, ◌+◌, ◌++◌, ◌||◌, ◌∷◌, ℕ}
use Rattle.std.specs.Str.{bytes_eq, str_eq_ignore_ascii_case}
use Rattle.sl_check.specs.Drawn.{given_shape}
use Rattle.sl_check.specs.Names.{names_one_of}
use Rattle.sl_explain_texts.specs.Sums.{is_sum}
use Rattle.sl_report_parties.specs.Cells.{is_won}
use Rattle.sl_report_parties.specs.Sums.{first_votes_in, land_sum, lists_of}
use Rattle.sl_law_meaning.specs.declared.book.Base.TheVariants as base
use Rattle.sl_law_meaning.specs.declared.book.Base.{Base}
use Rattle.sl_law_meaning.specs.book.Trees.{BookTree, StageTree}
use Rattle.sl_law_meaning.specs.book.Typing.{Column, columns_of}
use Rattle.sl_law_meaning.specs.declared.book.Cond.TheVariants as condition
use Rattle.sl_law_meaning.specs.declared.book.Cond.{Cond}
use Rattle.sl_law_meaning.specs.declared.book.Seating.TheVariants.{Cover, Keep}
use Rattle.sl_law_meaning.specs.declared.book.Seating.{Seating}
use Rattle.sl_law_meaning.specs.declared.election.ListVotes.{ListVotes}
use Rattle.sl_law_meaning.specs.declared.election.Lot.{Lot}
use Rattle.sl_law_meaning.specs.meaning.Lots.{given_entry, given_winner}
use Rattle.sl_law_meaning.specs.returns.Election.{Election, has_list, lands_of, list_at, parties_of, wins_of}
use Rattle.sl_law_meaning.specs.returns.Facts.{all_valid_votes, is_eligible, is_in, is_of, lands, parties, takes_part}
use Rattle.sl_law_meaning.specs.returns.Votes.{counted_in, valid_in}
use Rattle.sl_base_terms.specs.declared.shape.Shape.{Shape}
use Rattle.sl_report_warnings.specs.declared.warning.Warning.TheVariants.{EqualPeople, FewParties, FewSecondVotes, FewVotes, LandIsSum, LandWithoutVotes, LandWithoutWinners, LotOfNoEntry, LotOfNoSeats, LotUnused, MinorityEverywhere, MoreVotesThanPeople, NothingCounted, OnePartyAlone, OtherHouse, SeveralParties, StageUnused, SumOfParties, WinnersBesideLists, WinnersWithoutList}
use Rattle.sl_report_warnings.specs.declared.warning.Warning.{Warning}

-- a warning where something holds, and none elsewhere
abbrev pub warned : Bool → Warning → List Warning
warned holds w = if holds then w ∷ [] else []

-- ---- of the returns alone

-- several Länder, all with as many people as the first
abbrev pub are_alike : Election → Bool
are_alike e = nat_le 2 (lands_of e) && list_all (nat_eq (slice_index e.populations 0)) e.populations

abbrev pub of_people : Election → List Warning
of_people e = warned (are_alike e) EqualPeople

-- a Land without winners, where there are some
abbrev pub has_none : Election → ℕ → Bool
has_none e land = nat_le 1 (wins_of e) && nat_eq (count_by (is_in land) e.wins) 0

-- the valid votes of the lists in a Land
abbrev pub votes_in : Election → ℕ → ℕ
votes_in e land = land_sum valid_in e land

abbrev pub people_in : Election → ℕ → ℕ
people_in e land = slice_index_or e.populations land 0

-- people and no valid vote, where there are some elsewhere
abbrev pub has_no_votes : Election → ℕ → Bool
has_no_votes e land = nat_le 1 (people_in e land) && (nat_eq (votes_in e land) 0 && nat_le 1 (all_valid_votes e))

-- more valid votes than people
abbrev pub has_few_people : Election → ℕ → Bool
has_few_people e land = nat_le 1 (people_in e land) && nat_lt (people_in e land) (votes_in e land)

-- not half as many second votes as first votes
abbrev pub has_few_votes : Election → ℕ → Bool
has_few_votes e land = nat_le 1 (votes_in e land) && nat_lt (2 * votes_in e land) (first_votes_in e land)

-- one of three Länder or more, with as many votes as all others together
abbrev pub is_sum_of_others : Election → ℕ → Bool
is_sum_of_others e land = nat_le 3 (lands_of e) && (nat_le 1 (votes_in e land) && nat_eq (2 * votes_in e land) (all_valid_votes e))

abbrev pub of_votes : Election → ℕ → List Warning
of_votes e land =
    ((warned (has_no_votes e land) (LandWithoutVotes land)
    ++ warned (has_few_people e land) (MoreVotesThanPeople land (votes_in e land) (people_in e land)))
    ++ warned (has_few_votes e land) (FewSecondVotes land (votes_in e land) (first_votes_in e land)))
    ++ warned (is_sum_of_others e land) (LandIsSum land)

abbrev pub of_land : Election → ℕ → List Warning
of_land e land = warned (has_none e land) (LandWithoutWinners land) ++ of_votes e land

-- the winners of a party in a Land in which it has no list
abbrev pub winners_beside : Election → ℕ → ℕ → ℕ
winners_beside e party land = if has_list e land party then 0 else count_by (is_won land party) e.wins

abbrev pub of_place : Election → ℕ → ℕ → List Warning
of_place e party land = warned (nat_le 1 (winners_beside e party land)) (WinnersBesideLists land party (winners_beside e party land))

-- of a party with winners: that it has no list, or in which Länder with winners it has none
abbrev pub of_winners : Election → ℕ → List Warning
of_winners e party =
    if nat_eq (count_by (is_of party) e.wins) 0
    then []
    else (if nat_eq (lists_of e party) 0 then WinnersWithoutList party (count_by (is_of party) e.wins) ∷ [] else flat_map (of_place e party) (lands e))

-- a list of which no valid vote is counted
abbrev pub counts_none : Option ListVotes → Bool
counts_none list = nat_le 1 (valid_in list) && nat_eq (counted_in list) 0

abbrev pub uncounted_lists : Election → ℕ → ℕ
uncounted_lists e party = count_by (λ land. counts_none (list_at e land party)) (lands e)

abbrev pub of_counted : Election → ℕ → List Warning
of_counted e party = warned (nat_le 1 (uncounted_lists e party)) (NothingCounted party (uncounted_lists e party))

-- the names, in capital or in small letters, under which the votes of several parties are given
abbrev pub names_of_many : List (List ℕ)
names_of_many =
    codes "Sonstige" ∷ codes "Sonst" ∷ codes "Andere" ∷ codes "Uebrige" ∷ codes "Weitere" ∷ codes "Rest" ∷ codes "Others" ∷ codes "Other"
    ∷ codes "Sonstige_Parteien" ∷ codes "Andere_Parteien" ∷ codes "Uebrige_Parteien" ∷ codes "Other_parties" ∷ []

abbrev pub is_many : List ℕ → Bool
is_many name = list_any (str_eq_ignore_ascii_case name) names_of_many

abbrev pub has_name_of_many : Option (List ℕ) → Bool
has_name_of_many None = false
has_name_of_many (Some name) = is_many name

-- a name that is a word for a sum
abbrev pub has_name_of_sum : Option (List ℕ) → Bool
has_name_of_sum None = false
has_name_of_sum (Some name) = is_sum name

abbrev pub of_name : Election → ℕ → List Warning
of_name e party =
    warned (has_name_of_many (slice_get e.party_names party)) (SeveralParties party) ++ warned (has_name_of_sum (slice_get e.party_names party)) (SumOfParties party)

-- a party of a national minority that has a list in each of three Länder or more
abbrev pub is_everywhere : Election → ℕ → Bool
is_everywhere e party = slice_index_or e.minorities party false && (nat_le 3 (lands_of e) && nat_eq (lists_of e party) (lands_of e))

abbrev pub of_minority : Election → ℕ → List Warning
of_minority e party = warned (is_everywhere e party) (MinorityEverywhere party)

abbrev pub of_party : Election → ℕ → List Warning
of_party e party = ((of_winners e party ++ of_counted e party) ++ of_name e party) ++ of_minority e party

abbrev pub of_returns : Election → List Warning
of_returns e = (of_people e ++ flat_map (of_land e) (lands e)) ++ flat_map (of_party e) (parties e)

-- ---- of a rulebook and returns

-- the shape of the entries to which the stage of that name distributes seats, if there is such a stage and it distributes any
abbrev pub shape_named : List Column → List ℕ → List StageTree → Option Shape
shape_named columns name [] = None
shape_named columns name (s ∷ ss) = if bytes_eq name s.name then given_shape columns s.expr else shape_named columns name ss

-- the lot names an entry of such a column
abbrev pub names_entry : Option Shape → Lot → Bool
names_entry None l = false
names_entry (Some shape) l = is_some (given_entry shape l)

abbrev pub covers : Seating → Bool
covers Cover = true
covers Keep = false

abbrev pub is_last : Lot → Bool
is_last l = bytes_eq l.stage (codes "seats")

-- a condition on votes
abbrev pub is_threshold : Cond → Bool
is_threshold (condition.Valid share per) = true
is_threshold (condition.Winners least) = false
is_threshold condition.Minority = false
is_threshold condition.All = false

-- one of several parties that takes part alone
abbrev pub of_takers : Election → List ℕ → List Warning
of_takers e [] = []
of_takers e (party ∷ []) = warned (nat_le 2 (parties_of e)) (OnePartyAlone party)
of_takers e (party ∷ other ∷ others) = []

-- the last clause distributes the seats of that stage
abbrev pub is_base : List ℕ → Base → Bool
is_base name base.Winners = false
is_base name (base.Stage own) = bytes_eq own name

module _ (b : BookTree) where
  -- the shape at the stage that a lot names
  abbrev pub lot_shape : Lot → Option Shape
  lot_shape l = shape_named (columns_of [] b.stages) l.stage b.stages

  -- the rulebook may draw a lot there: among winners where it covers them, or at a stage that distributes seats
  abbrev pub has_place : Lot → Bool
  has_place l = if is_last l then covers b.last.seating else is_some (lot_shape l)

  -- the lot names one of those among whom it would be drawn
  abbrev pub has_entry : Election → Lot → Bool
  has_entry e l = if is_last l then is_some (given_winner e l) else names_entry (lot_shape l) l

  -- it names a party that takes no part, or a list that does not exist
  abbrev pub has_no_seats : Election → Lot → Bool
  has_no_seats e l = are_without l.land l.party where
    are_without : Option ℕ → Option ℕ → Bool
    are_without land None = false
    are_without None (Some party) = not (is_eligible b.eligible e party)
    are_without (Some land) (Some party) = not (takes_part b.eligible e land party)

  -- of a lot that has a place: that it names nobody there, or one that gets no seats
  abbrev pub of_placed : Election → ℕ → Lot → List Warning
  of_placed e number l = if has_entry e l then warned (has_no_seats e l) (LotOfNoSeats number) else LotOfNoEntry number (lot_shape l) ∷ []

  abbrev pub of_lot : Election → ℕ → Lot → List Warning
  of_lot e number l = if has_place l then of_placed e number l else LotUnused number ∷ []

  -- of the lot of that number
  abbrev pub of_numbered : Election → ℕ → List Warning
  of_numbered e number = of_some (slice_get e.lots number) where
    of_some : Option Lot → List Warning
    of_some None = []
    of_some (Some l) = of_lot e number l

  -- another house than the rulebook's
  abbrev pub of_house : Option ℕ → List Warning
  of_house None = []
  of_house (Some house) = warned (not (nat_eq house b.house.value)) (OtherHouse house b.house.value)

  -- fewer than ten parties, of which one must have a share of the votes
  abbrev pub are_few : Election → Bool
  are_few e = not (nat_le 10 (parties_of e)) && list_any is_threshold b.eligible

  -- a house of a hundred seats or more, with valid votes and fewer than a hundred for each seat
  abbrev pub house_for : Election → ℕ
  house_for e = unwrap_or e.house b.house.value

  abbrev pub has_few : Election → Bool
  has_few e = nat_le 100 (house_for e) && (nat_le 1 (all_valid_votes e) && nat_lt (all_valid_votes e) (100 * house_for e))

  -- the parties that take part
  abbrev pub taking_part : Election → List ℕ
  taking_part e = filter (is_eligible b.eligible e) (parties e)

  -- the last clause or a stage names that stage
  abbrev pub is_named : List ℕ → Bool
  is_named name = is_base name b.last.base || list_any (λ s. names_one_of (name ∷ []) s.expr) b.stages

  -- of the stage of that number
  abbrev pub of_stage : ℕ → List Warning
  of_stage number = of_some (slice_get b.stages number) where
    of_some : Option StageTree → List Warning
    of_some None = []
    of_some (Some s) = warned (not (is_named s.name)) (StageUnused (number + 1))

  abbrev pub of_numbers : Election → List Warning
  of_numbers e = (of_house e.house ++ warned (are_few e) (FewParties (parties_of e))) ++ warned (has_few e) (FewVotes (all_valid_votes e) (house_for e))

  abbrev pub of_book : Election → List Warning
  of_book e =
      ((flat_map (of_numbered e) (range_with_len 0 (length e.lots)) ++ of_numbers e) ++ of_takers e (taking_part e))
      ++ flat_map of_stage (range_with_len 0 (length b.stages))

-- of the returns, and with a rulebook of both
abbrev pub warnings_of : Option BookTree → Election → List Warning
warnings_of None e = of_returns e
warnings_of (Some b) e = of_returns e ++ of_book b e

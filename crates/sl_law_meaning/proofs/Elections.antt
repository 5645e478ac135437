-- What joins an election leaves it an election.
use Rattle.std.proofs.Common.{◌≡◌, ℕ, zero, suc, ◌<◌, ◌≤◌, Bool, List, [], ◌∷◌, ◌++◌, length, get_or, set, replicate, Option, Some, None, arith, refl, ap, subst, ◌∙◌}
use Rattle.std.proofs.lemmas.List.{length_push, length-set, length-replicate, get_or-set_same, get_or-set_other, set-set}
use Rattle.std.proofs.lemmas.List.Elements.{All-push, All-replicate, All-set, All-get_or, All-weaker}
use Rattle.std.specs.List.{All}
use Rattle.std.specs.Option.{ForSome}
use Rattle.std.proofs.lemmas.Option.{none-some, same_Some}
use Rattle.sl_base_quotients.specs.declared.limits.TheConstants.{MAX_SEATS, MAX_LANDS, MAX_PARTIES, MAX_VOTES}
use Rattle.sl_base_quotients.specs.Names.{NameList, name_fault, spelling_fault}
use Rattle.sl_base_quotients.proofs.NameLists.{joins, with_name}
use Rattle.sl_law_meaning.specs.declared.limits.TheConstants.{MAX_WINS, MAX_LOTS, MAX_SLATE}
use Rattle.sl_law_meaning.specs.declared.election.ListVotes.{ListVotes}
use Rattle.sl_law_meaning.specs.declared.election.Win.{Win}
use Rattle.sl_law_meaning.specs.declared.election.Lot.{Lot}
use Rattle.sl_law_meaning.specs.returns.Votes.{IsListVotes, valid_in, counted_in}
use Rattle.sl_law_meaning.specs.returns.Election.{Election, IsElection, IsWin, IsLot, IsCell, EndsBefore, with_house, with_land, with_party, with_list, with_win, with_slate, with_lot, list_at}
use Rattle.sl_base_terms.proofs.Tests.{neither}

-- a name that may join a list is well spelled
pub is_spelled : (list : NameList) (name : List ℕ) → name_fault list name ≡ None → spelling_fault name ≡ None
is_spelled list name may = (neither (spelling_fault name) _ may).0

-- a winner stays one as Länder and parties join
win_stays : (lands parties more_lands more_parties : ℕ) → lands ≤ more_lands → parties ≤ more_parties → (w : Win) → IsWin lands parties w → IsWin more_lands more_parties w
win_stays lands parties more_lands more_parties lands_grow parties_grow w is = grind (arith, is.party)

wins_stay : (e : Election) (lands parties : ℕ) → IsElection e → length e.land_names ≤ lands → length e.party_names ≤ parties → All (IsWin lands parties) e.wins
wins_stay e lands parties is lands_grow parties_grow =
    All-weaker (IsWin (length e.land_names) (length e.party_names)) (IsWin lands parties) (win_stays (length e.land_names) (length e.party_names) lands parties lands_grow parties_grow) e.wins is.places

-- a lot stays one as Länder, parties and winners join
lot_stays : (lands parties winners more_lands more_parties more_winners : ℕ) → lands ≤ more_lands → parties ≤ more_parties → winners ≤ more_winners → (l : Lot) → IsLot lands parties winners l → IsLot more_lands more_parties more_winners l
lot_stays lands parties winners more_lands more_parties more_winners lands_grow parties_grow winners_grow l is = grind (arith, is.land, is.party, is.win)

lots_stay : (e : Election) (lands parties winners : ℕ) → IsElection e → length e.land_names ≤ lands → length e.party_names ≤ parties → length e.win_names ≤ winners → All (IsLot lands parties winners) e.lots
lots_stay e lands parties winners is lands_grow parties_grow winners_grow =
    All-weaker (IsLot (length e.land_names) (length e.party_names) (length e.win_names)) (IsLot lands parties winners)
    (lot_stays (length e.land_names) (length e.party_names) (length e.win_names) lands parties winners lands_grow parties_grow winners_grow) e.lots is.lots

-- a cell without a list is a cell
blank_cell : IsCell None
blank_cell v e = absurd (none-some v e)

-- no list stands in a blank row
blank_row : (width n : ℕ) → EndsBefore n (replicate width None)
blank_row zero n party above = refl
blank_row (suc width) n zero above = refl
blank_row (suc width) n (suc party) above = blank_row width zero party (omega arith)

pub is_with_house : (e : Election) (seats : ℕ) → IsElection e → 1 ≤ seats → seats ≤ MAX_SEATS → IsElection (with_house e seats)
is_with_house e seats is least most =
    let house : ForSome (Some seats) (λ h. (1 ≤ h) × (h ≤ MAX_SEATS)) = λ h same. subst (λ m. (1 ≤ m) × (m ≤ MAX_SEATS)) (same_Some seats h same) (least, most) in
    search house

pub is_with_land : (e : Election) (name : List ℕ) (people : ℕ) → IsElection e → name_fault (record { limit = MAX_LANDS; names = e.land_names }) name ≡ None → people ≤ MAX_VOTES → IsElection (with_land e name people)
is_with_land e name people is may most =
    let free = (joins (record { limit = MAX_LANDS; names = e.land_names }) name may).free in
    let named = length_push e.land_names name in
    let names = with_name (record { limit = MAX_LANDS; names = e.land_names }) name may is.land_names in
    let wide = length-replicate {A = Option ListVotes} MAX_PARTIES None in
    let votes = All-push (All IsCell) e.cells (replicate MAX_PARTIES None) is.votes (All-replicate IsCell MAX_PARTIES None blank_cell) in
    let ends = All-push (EndsBefore (length e.party_names)) e.cells (replicate MAX_PARTIES None) is.ends (blank_row MAX_PARTIES (length e.party_names)) in
    let places = wins_stay e (length (e.land_names ++ name ∷ [])) (length e.party_names) is (omega arith) (omega arith) in
    let lots = lots_stay e (length (e.land_names ++ name ∷ [])) (length e.party_names) (length e.win_names) is (omega arith) (omega arith) (omega arith) in
    search (arith, length_push, All-push)

pub is_with_party : (e : Election) (name : List ℕ) (minority : Bool) → IsElection e → name_fault (record { limit = MAX_PARTIES; names = e.party_names }) name ≡ None → IsElection (with_party e name minority)
is_with_party e name minority is may =
    let free = (joins (record { limit = MAX_PARTIES; names = e.party_names }) name may).free in
    let named = length_push e.party_names name in
    let names = with_name (record { limit = MAX_PARTIES; names = e.party_names }) name may is.party_names in
    let ends = All-weaker (EndsBefore (length e.party_names)) (EndsBefore (length (e.party_names ++ name ∷ []))) (λ row end party above. end party (omega (arith, named, above))) e.cells is.ends in
    let places = wins_stay e (length e.land_names) (length (e.party_names ++ name ∷ [])) is (omega arith) (omega arith) in
    let lots = lots_stay e (length e.land_names) (length (e.party_names ++ name ∷ [])) (length e.win_names) is (omega arith) (omega arith) (omega arith) in
    search (arith, length_push)

-- the cell of a list
list_cell : (v : ListVotes) → IsListVotes v → IsCell (Some v)
list_cell v is w e = subst IsListVotes (same_Some v w e) is

-- a list of a party before the end leaves the end where it is
list_within : (row : List (Option ListVotes)) (party n : ℕ) (cell : Option ListVotes) → party < n → EndsBefore n row → EndsBefore n (set row party cell)
list_within row party n cell before ends other above = get_or-set_other row party other cell None (omega arith) ∙ ends other above

pub is_with_list : (e : Election) (land party : ℕ) (votes : ListVotes) → IsElection e → land < length e.land_names → party < length e.party_names → IsListVotes votes → IsElection (with_list e land party votes)
is_with_list e land party votes is within of_party of_list =
    let row = get_or e.cells land [] in
    let written = set row party (Some votes) in
    let there : land < length e.cells = omega (arith, is.rows) in
    let wide = length-set row party (Some votes) ∙ All-get_or (λ row. length row ≡ MAX_PARTIES) e.cells land [] there is.widths in
    let told = All-set (All IsCell) e.cells land written (All-set IsCell row party (Some votes) (list_cell votes of_list) (All-get_or (All IsCell) e.cells land [] there is.votes)) is.votes in
    let ends = All-set (EndsBefore (length e.party_names)) e.cells land written (list_within row party (length e.party_names) (Some votes) of_party (All-get_or (EndsBefore (length e.party_names)) e.cells land [] there is.ends)) is.ends in
    search (arith, length-set, All-set)

-- a row has a cell for each party
pub cell_within : (e : Election) (land party : ℕ) → IsElection e → land < length e.land_names → party < length e.party_names → party < length (get_or e.cells land [])
cell_within e land party is l p =
    let wide = All-get_or (λ row. length row ≡ MAX_PARTIES) e.cells land [] (omega (arith, is.rows)) is.widths in
    omega (arith, wide, is.parties)

-- a list that was added is read back
pub list_told : (e : Election) (land party : ℕ) (votes : ListVotes) → IsElection e → land < length e.land_names → party < length e.party_names → list_at (with_list e land party votes) land party ≡ Some votes
list_told e land party votes is of_land of_party =
    let there : land < length e.cells = omega (arith, is.rows) in
    let row = get_or e.cells land [] in
    ap (λ row. get_or row party None) (get_or-set_same e.cells land (set row party (Some votes)) [] there) ∙ get_or-set_same row party (Some votes) None (cell_within e land party is of_land of_party)

-- what is written over what was read back
set_again : {X : Type 0} (xs : List X) (i : ℕ) (x d : X) (f : X → X) → set (set xs i x) i (f (get_or (set xs i x) i d)) ≡ set xs i (f x)
set_again [] i x d f = refl
set_again (y ∷ xs) zero x d f = refl
set_again (y ∷ xs) (suc i) x d f = ap (λ ys. y ∷ ys) (set_again xs i x d f)

-- a list that joins, and then its names
pub slate_told : (e : Election) (land party names : ℕ) (votes : ListVotes) → list_at (with_list e land party votes) land party ≡ Some votes
    → with_slate (with_list e land party votes) land party names ≡ with_list e land party (record votes { slate = Some names })
slate_told e land party names votes told =
    let row = get_or e.cells land [] in
    let again = Some (record votes { slate = Some names }) in
    ap (λ cell. with_list (with_list e land party votes) land party (record { valid = valid_in cell; counted = counted_in cell; slate = Some names })) told
    ∙ ap (λ (cells : List (List (Option ListVotes))). record e { cells = cells }) (set_again e.cells land (set row party (Some votes)) [] (λ row. set row party again) ∙ ap (set e.cells land) (set-set row party (Some votes) again))

-- the votes of a list keep within the limits as its names are given
with_names : (cell : Option ListVotes) (names : ℕ) → IsCell cell → names ≤ MAX_SLATE → IsListVotes (record { valid = valid_in cell; counted = counted_in cell; slate = Some names })
with_names None names is few = record { counted = omega arith; valid = omega arith; slate = λ n e. subst (λ m. m ≤ MAX_SLATE) (same_Some names n e) few }
with_names (Some v) names is few =
    let kept = is v refl in
    record { counted = kept.counted; valid = kept.valid; slate = λ n e. subst (λ m. m ≤ MAX_SLATE) (same_Some names n e) few }

pub is_with_slate : (e : Election) (land party names : ℕ) → IsElection e → land < length e.land_names → party < length e.party_names → names ≤ MAX_SLATE → IsElection (with_slate e land party names)
is_with_slate e land party names is of_land of_party few =
    let there : land < length e.cells = omega (arith, is.rows) in
    let cell = All-get_or IsCell (get_or e.cells land []) party None (cell_within e land party is of_land of_party) (All-get_or (All IsCell) e.cells land [] there is.votes) in
    is_with_list e land party _ is of_land of_party (with_names (list_at e land party) names cell few)

pub is_with_win : (e : Election) (name : List ℕ) (win : Win) → IsElection e → name_fault (record { limit = MAX_WINS; names = e.win_names }) name ≡ None → IsWin (length e.land_names) (length e.party_names) win → IsElection (with_win e name win)
is_with_win e name win is may placed =
    let free = (joins (record { limit = MAX_WINS; names = e.win_names }) name may).free in
    let named = length_push e.win_names name in
    let names = with_name (record { limit = MAX_WINS; names = e.win_names }) name may is.win_names in
    let lots = lots_stay e (length e.land_names) (length e.party_names) (length (e.win_names ++ name ∷ [])) is (omega arith) (omega arith) (omega arith) in
    search (arith, length_push, All-push)

pub is_with_lot : (e : Election) (lot : Lot) → IsElection e → length e.lots < MAX_LOTS → IsLot (length e.land_names) (length e.party_names) (length e.win_names) lot → IsElection (with_lot e lot)
is_with_lot e lot is free named = search (arith, length_push, All-push)

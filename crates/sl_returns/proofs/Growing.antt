-- The election of good records, with a good record more.
use Rattle.std.proofs.Common.{◌≡◌, ◌<◌, ℕ, false, List, [], ◌∷◌, ◌++◌, length, get_or, map, Option, Some, None, is_some, refl, sym, ap, subst, ◌∙◌}
use Rattle.std.specs.List.{All, slice_get}
use Rattle.std.proofs.lemmas.Bool.{true≢false}
use Rattle.std.proofs.lemmas.List.{map_push}
use Rattle.std.proofs.lemmas.List.Elements.{All-push, All-weaker}
use Rattle.std.proofs.lemmas.Option.{none-some}
use Rattle.sl_base_quotients.specs.Names.{IsNameList, name_fault}
use Rattle.sl_base_quotients.proofs.NameLists.{with_name}
use Rattle.sl_base_quotients.specs.declared.limits.TheConstants.{MAX_LANDS, MAX_PARTIES}
use Rattle.sl_law_meaning.specs.declared.election.ListVotes.{ListVotes}
use Rattle.sl_law_meaning.specs.returns.Election.{Election, has_list}
use Rattle.sl_returns.specs.declared.schema.TheConstants.{LAND, PARTY, A, B}
use Rattle.sl_returns.specs.Cells.{Record, cell, number_of, number_in, place_in}
use Rattle.sl_returns.specs.Records.{column, is_minority, list_from, rows_from, win_of, lot_of}
use Rattle.sl_returns.specs.inner.Joining.{with_house_of, with_land_of, with_party_of, with_list_of, with_win_of, with_lot_of}
use Rattle.sl_returns.proofs.NamePlaces.{Known, KnownOrNone, Keeps, at_place, keeps_or_none, keeps_push, keeps_same}
use Rattle.sl_returns.proofs.Rows.{NamesKnown, list_at_places, map_agree, rows_with_land, rows_with_party, rows_with_list}
use Rattle.sl_returns.proofs.ToldVotes.{AreVotesTold, list_told}

-- records, by their kinds
pub record Sorted : Type 0 where
  pub houses : List Record
  pub lands : List Record
  pub parties : List Record
  pub lists : List Record
  pub winners : List Record
  pub lots : List Record

abbrev pub land_names : Sorted → List (List ℕ)
land_names s = column LAND s.lands

abbrev pub party_names : Sorted → List (List ℕ)
party_names s = column PARTY s.parties

abbrev pub constituencies : Sorted → List (List ℕ)
constituencies s = column A s.winners

-- their election
abbrev pub election_from : Sorted → Election
election_from s = record {
  house = slice_get (map number_of (column A s.houses)) 0;
  land_names = land_names s;
  populations = map number_of (column A s.lands);
  cells = rows_from s.lists (land_names s) (party_names s);
  party_names = party_names s;
  minorities = map is_minority s.parties;
  win_names = constituencies s;
  wins = map (win_of (land_names s) (party_names s)) s.winners;
  lots = map (lot_of (land_names s) (party_names s) (constituencies s)) s.lots;
}

-- what a winner names: a Land of the election, and a party of it or none
pub record BackedByKnown (lands parties : List (List ℕ)) (r : Record) : Type 0 where
  pub land : Known lands (cell r LAND)
  pub party : KnownOrNone parties (cell r PARTY)

-- what a lot names: a Land, a party and a constituency of the election, or none
pub record DrawnOfKnown (lands parties winners : List (List ℕ)) (r : Record) : Type 0 where
  pub land : KnownOrNone lands (cell r LAND)
  pub party : KnownOrNone parties (cell r PARTY)
  pub win : KnownOrNone winners (cell r B)

-- what good records keep, by the names of the Länder, of the parties and of the constituencies, and the records of the other kinds
pub record AreGoodBy (lands parties winners : List (List ℕ)) (of_lists of_winners of_lots : List Record) : Type 0 where
  pub lands_once : IsNameList (record { limit = MAX_LANDS; names = lands })
  pub parties_once : IsNameList (record { limit = MAX_PARTIES; names = parties })
  pub lists_known : All (NamesKnown lands parties) of_lists
  pub votes_told : AreVotesTold of_lists
  pub winners_known : All (BackedByKnown lands parties) of_winners
  pub lots_known : All (DrawnOfKnown lands parties winners) of_lots

abbrev pub AreGood : Sorted → Type 0
AreGood s = AreGoodBy (land_names s) (party_names s) (constituencies s) s.lists s.winners s.lots

-- ---- what stays as names join

module _ (lands parties more_lands more_parties : List (List ℕ)) (keeps_lands : Keeps lands more_lands) (keeps_parties : Keeps parties more_parties) where
  list_stays : (r : Record) → NamesKnown lands parties r → NamesKnown more_lands more_parties r
  list_stays r known = record { land = keeps_lands.known (cell r LAND) known.land; party = keeps_parties.known (cell r PARTY) known.party }

  winner_stays : (r : Record) → BackedByKnown lands parties r → BackedByKnown more_lands more_parties r
  winner_stays r known = record { land = keeps_lands.known (cell r LAND) known.land; party = λ filled. keeps_parties.known (cell r PARTY) (known.party filled) }

  win_stays : (r : Record) → BackedByKnown lands parties r → win_of more_lands more_parties r ≡ win_of lands parties r
  win_stays r known = rw (keeps_lands.place (cell r LAND) known.land, keeps_or_none parties more_parties (cell r PARTY) keeps_parties known.party) refl

  wins_stay : (rs : List Record) → All (BackedByKnown lands parties) rs → map (win_of more_lands more_parties) rs ≡ map (win_of lands parties) rs
  wins_stay rs known =
      map_agree (win_of more_lands more_parties) (win_of lands parties) rs (All-weaker (BackedByKnown lands parties) (λ r. win_of more_lands more_parties r ≡ win_of lands parties r) win_stays rs known)

  module _ (winners more_winners : List (List ℕ)) (keeps_winners : Keeps winners more_winners) where
    drawn_stays : (r : Record) → DrawnOfKnown lands parties winners r → DrawnOfKnown more_lands more_parties more_winners r
    drawn_stays r known = record {
      land = λ filled. keeps_lands.known (cell r LAND) (known.land filled);
      party = λ filled. keeps_parties.known (cell r PARTY) (known.party filled);
      win = λ filled. keeps_winners.known (cell r B) (known.win filled);
    }

    lot_stays : (r : Record) → DrawnOfKnown lands parties winners r → lot_of more_lands more_parties more_winners r ≡ lot_of lands parties winners r
    lot_stays r known =
        rw (
          keeps_or_none lands more_lands (cell r LAND) keeps_lands known.land,
          keeps_or_none parties more_parties (cell r PARTY) keeps_parties known.party,
          keeps_or_none winners more_winners (cell r B) keeps_winners known.win,
        ) refl

    lots_stay : (rs : List Record) → All (DrawnOfKnown lands parties winners) rs → map (lot_of more_lands more_parties more_winners) rs ≡ map (lot_of lands parties winners) rs
    lots_stay rs known =
        map_agree (lot_of more_lands more_parties more_winners) (lot_of lands parties winners) rs
        (All-weaker (DrawnOfKnown lands parties winners) (λ r. lot_of more_lands more_parties more_winners r ≡ lot_of lands parties winners r) lot_stays rs known)

    good_stays : (lists of_winners lots : List Record) → AreGoodBy lands parties winners lists of_winners lots → IsNameList (record { limit = MAX_LANDS; names = more_lands })
        → IsNameList (record { limit = MAX_PARTIES; names = more_parties }) → AreGoodBy more_lands more_parties more_winners lists of_winners lots
    good_stays lists of_winners lots good lands_once parties_once = record {
      lands_once = lands_once;
      parties_once = parties_once;
      lists_known = All-weaker (NamesKnown lands parties) (NamesKnown more_lands more_parties) list_stays lists good.lists_known;
      votes_told = good.votes_told;
      winners_known = All-weaker (BackedByKnown lands parties) (BackedByKnown more_lands more_parties) winner_stays of_winners good.winners_known;
      lots_known = All-weaker (DrawnOfKnown lands parties winners) (DrawnOfKnown more_lands more_parties more_winners) drawn_stays lots good.lots_known;
    }

-- the first house is the only one
only_house : (houses : List Record) (r : Record) → slice_get (map number_of (column A houses)) 0 ≡ None → slice_get (map number_of (column A (houses ++ r ∷ []))) 0 ≡ Some (number_of (cell r A))
only_house [] r none = refl
only_house (x ∷ houses) r none = absurd (none-some (number_of (cell x A)) (sym none))

module _ (s : Sorted) (good : AreGood s) (r : Record) where
  abbrev lands : List (List ℕ)
  lands = land_names s

  abbrev parties : List (List ℕ)
  parties = party_names s

  abbrev winners : List (List ℕ)
  winners = constituencies s

  abbrev e : Election
  e = election_from s

  -- ---- the house
  pub election_with_house : e.house ≡ None → election_from (record s { houses = s.houses ++ r ∷ [] }) ≡ with_house_of e r
  election_with_house none =
      let house = only_house s.houses r none in
      cc

  -- ---- a Land
  module _ (new : number_in lands (cell r LAND) ≡ None) (may : name_fault (record { limit = MAX_LANDS; names = lands }) (cell r LAND) ≡ None) where
    abbrev with_land : Sorted
    with_land = record s { lands = s.lands ++ r ∷ [] }

    land_more : land_names with_land ≡ lands ++ cell r LAND ∷ []
    land_more = map_push (λ x. cell x LAND) s.lands r

    pub election_with_land : election_from with_land ≡ with_land_of e r
    election_with_land =
        let keeps = keeps_push lands (cell r LAND) in
        let people = ap (map number_of) (map_push (λ x. cell x A) s.lands r) ∙ map_push number_of (column A s.lands) (cell r A) in
        let rows = ap (λ ns. rows_from s.lists ns parties) land_more ∙ rows_with_land s.lists lands parties good.lists_known (cell r LAND) new good.parties_once.within in
        let wins = ap (λ ns. map (win_of ns parties) s.winners) land_more ∙ wins_stay lands parties (lands ++ cell r LAND ∷ []) parties keeps (keeps_same parties) s.winners good.winners_known in
        let lots = ap (λ ns. map (lot_of ns parties winners) s.lots) land_more ∙ lots_stay lands parties (lands ++ cell r LAND ∷ []) parties keeps (keeps_same parties) winners winners (keeps_same winners) s.lots good.lots_known in
        let names = land_more in
        cc

    pub good_with_land : AreGood with_land
    good_with_land =
        subst (λ (ns : List (List ℕ)). AreGoodBy ns parties winners s.lists s.winners s.lots) (sym land_more)
        (good_stays lands parties (lands ++ cell r LAND ∷ []) parties (keeps_push lands (cell r LAND)) (keeps_same parties) winners winners (keeps_same winners) s.lists s.winners s.lots good
        (with_name (record { limit = MAX_LANDS; names = lands }) (cell r LAND) may good.lands_once) good.parties_once)

  -- ---- a party
  module _ (new : number_in parties (cell r PARTY) ≡ None) (free : length parties < MAX_PARTIES) (may : name_fault (record { limit = MAX_PARTIES; names = parties }) (cell r PARTY) ≡ None) where
    abbrev with_party : Sorted
    with_party = record s { parties = s.parties ++ r ∷ [] }

    party_more : party_names with_party ≡ parties ++ cell r PARTY ∷ []
    party_more = map_push (λ x. cell x PARTY) s.parties r

    pub election_with_party : election_from with_party ≡ with_party_of e r
    election_with_party =
        let keeps = keeps_push parties (cell r PARTY) in
        let flags = map_push is_minority s.parties r in
        let rows = ap (λ ns. rows_from s.lists lands ns) party_more ∙ rows_with_party s.lists lands parties good.lists_known (cell r PARTY) new free in
        let wins = ap (λ ns. map (win_of lands ns) s.winners) party_more ∙ wins_stay lands parties lands (parties ++ cell r PARTY ∷ []) (keeps_same lands) keeps s.winners good.winners_known in
        let lots = ap (λ ns. map (lot_of lands ns winners) s.lots) party_more ∙ lots_stay lands parties lands (parties ++ cell r PARTY ∷ []) (keeps_same lands) keeps winners winners (keeps_same winners) s.lots good.lots_known in
        let names = party_more in
        cc

    pub good_with_party : AreGood with_party
    good_with_party =
        subst (λ (ns : List (List ℕ)). AreGoodBy lands ns winners s.lists s.winners s.lots) (sym party_more)
        (good_stays lands parties lands (parties ++ cell r PARTY ∷ []) (keeps_same lands) (keeps_push parties (cell r PARTY)) winners winners (keeps_same winners) s.lists s.winners s.lots good good.lands_once
        (with_name (record { limit = MAX_PARTIES; names = parties }) (cell r PARTY) may good.parties_once))

  -- ---- a list
  module _ (named : NamesKnown lands parties r) (new : has_list e (place_in lands (cell r LAND)) (place_in parties (cell r PARTY)) ≡ false) where
    abbrev with_list : Sorted
    with_list = record s { lists = s.lists ++ r ∷ [] }

    not_told : list_from s.lists (cell r LAND) (cell r PARTY) ≡ None
    not_told =
        let at = list_at_places s.lists lands parties (place_in lands (cell r LAND)) (place_in parties (cell r PARTY)) named.land named.party in
        let here = ap (λ l. list_from s.lists l (get_or parties (place_in parties (cell r PARTY)) [])) (at_place lands (cell r LAND) named.land) ∙ ap (list_from s.lists (cell r LAND)) (at_place parties (cell r PARTY) named.party) in
        none_told (list_from s.lists (cell r LAND) (cell r PARTY)) (sym (ap is_some (at ∙ here)) ∙ new)
      where
        none_told : (o : Option ListVotes) → is_some o ≡ false → o ≡ None
        none_told None h = refl
        none_told (Some v) h = absurd (true≢false h)

    pub election_with_list : election_from with_list ≡ with_list_of e r
    election_with_list =
        let rows = rows_with_list s.lists lands parties r named good.lands_once good.parties_once not_told in
        cc

    pub good_with_list : AreGood with_list
    good_with_list = record {
      lands_once = good.lands_once;
      parties_once = good.parties_once;
      lists_known = All-push (NamesKnown lands parties) s.lists r good.lists_known named;
      votes_told = list_told s.lists r good.votes_told not_told;
      winners_known = good.winners_known;
      lots_known = good.lots_known;
    }

  -- ---- a winner
  module _ (backed : BackedByKnown lands parties r) where
    abbrev with_win : Sorted
    with_win = record s { winners = s.winners ++ r ∷ [] }

    win_more : constituencies with_win ≡ winners ++ cell r A ∷ []
    win_more = map_push (λ x. cell x A) s.winners r

    pub election_with_win : election_from with_win ≡ with_win_of e r
    election_with_win =
        let wins = map_push (win_of lands parties) s.winners r in
        let lots = ap (λ ns. map (lot_of lands parties ns) s.lots) win_more
        ∙ lots_stay lands parties lands parties (keeps_same lands) (keeps_same parties) winners (winners ++ cell r A ∷ []) (keeps_push winners (cell r A)) s.lots good.lots_known in
        let names = win_more in
        cc

    pub good_with_win : AreGood with_win
    good_with_win =
        let more : AreGoodBy lands parties winners s.lists (s.winners ++ r ∷ []) s.lots = record {
          lands_once = good.lands_once;
          parties_once = good.parties_once;
          lists_known = good.lists_known;
          votes_told = good.votes_told;
          winners_known = All-push (BackedByKnown lands parties) s.winners r good.winners_known backed;
          lots_known = good.lots_known;
        } in
        subst (λ (ns : List (List ℕ)). AreGoodBy lands parties ns s.lists (s.winners ++ r ∷ []) s.lots) (sym win_more)
        (good_stays lands parties lands parties (keeps_same lands) (keeps_same parties) winners (winners ++ cell r A ∷ []) (keeps_push winners (cell r A)) s.lists (s.winners ++ r ∷ []) s.lots more good.lands_once good.parties_once)

  -- ---- a lot
  module _ (drawn : DrawnOfKnown lands parties winners r) where
    abbrev with_lot : Sorted
    with_lot = record s { lots = s.lots ++ r ∷ [] }

    pub election_with_lot : election_from with_lot ≡ with_lot_of e r
    election_with_lot =
        let lots = map_push (lot_of lands parties winners) s.lots r in
        cc

    pub good_with_lot : AreGood with_lot
    good_with_lot = record {
      lands_once = good.lands_once;
      parties_once = good.parties_once;
      lists_known = good.lists_known;
      votes_told = good.votes_told;
      winners_known = good.winners_known;
      lots_known = All-push (DrawnOfKnown lands parties winners) s.lots r good.lots_known drawn;
    }

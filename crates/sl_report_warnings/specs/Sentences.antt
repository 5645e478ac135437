-- What a warning says, with its names and numbers (docs/returns.md, section 7).
use Rattle.std.specs.Fmt.{decimal}
use Rattle.std.specs.Option.{option_map}
use Rattle.std.specs.Prelude.{List, None, Option, Some, [], codes, slice_get, unwrap_or, ◌∷◌, ℕ}
use Rattle.sl_base_terms.specs.declared.shape.Shape.TheVariants as shape
use Rattle.sl_base_terms.specs.declared.shape.Shape.{Shape}
use Rattle.sl_explain_texts.specs.Languages.{Message, row}
use Rattle.sl_explain_texts.specs.Messages.{counted, said}
use Rattle.sl_explain_texts.specs.declared.language.Language.{Language}
use Rattle.sl_law_meaning.specs.returns.Election.{Election}
use Rattle.sl_report_warnings.specs.declared.texts.rows.TheConstants as texts
use Rattle.sl_report_warnings.specs.declared.warning.Warning.TheVariants.{EqualPeople, FewParties, FewSecondVotes, FewVotes, LandIsSum, LandWithoutVotes, LandWithoutWinners, LotOfNoEntry, LotOfNoSeats, LotUnused, MinorityEverywhere, MoreVotesThanPeople, NothingCounted, OnePartyAlone, OtherHouse, SeveralParties, StageUnused, SumOfParties, WinnersBesideLists, WinnersWithoutList}
use Rattle.sl_report_warnings.specs.declared.warning.Warning.{Warning}

-- a name by its number, and no text where there is none
abbrev pub name_at : List (List ℕ) → ℕ → List ℕ
name_at names number = unwrap_or (slice_get names number) []

-- the stage that a lot names, by its number
abbrev pub stage_of_lot : Election → ℕ → List ℕ
stage_of_lot e lot = unwrap_or (option_map (λ l. l.stage) (slice_get e.lots lot)) []

-- a number by its name
abbrev pub number_is : List ℕ → ℕ → List ℕ × List ℕ
number_is name number = (name, decimal number)

-- what a lot names, by what its stage distributes seats among, or among the winners of a list
abbrev pub no_entry : Option Shape → Message
no_entry None = row texts.LOT_OF_NO_WINNER
no_entry (Some shape.Party) = row texts.LOT_OF_NO_PARTY
no_entry (Some shape.Land) = row texts.LOT_OF_NO_LAND
no_entry (Some shape.List) = row texts.LOT_OF_NO_LIST
no_entry (Some shape.One) = row texts.LOT_OF_NO_LIST

module _ (language : Language) where
  -- so many winners, lists, parties
  abbrev pub winners_in : ℕ → List ℕ
  winners_in winners = counted language winners (row texts.WINNER) (row texts.WINNERS)

  abbrev pub lists_in : ℕ → List ℕ
  lists_in lists = counted language lists (row texts.LIST) (row texts.LISTS)

  abbrev pub parties_in : ℕ → List ℕ
  parties_in parties = counted language parties (row texts.PARTY) (row texts.PARTIES)

module _ (language : Language) (e : Election) where
  -- what stands for a name in a text: the name of a Land, of a party, of a stage, and so many things
  abbrev pub land_is : ℕ → List ℕ × List ℕ
  land_is land = (codes "land", name_at e.land_names land)

  abbrev pub party_is : ℕ → List ℕ × List ℕ
  party_is party = (codes "party", name_at e.party_names party)

  abbrev pub stage_is : ℕ → List ℕ × List ℕ
  stage_is lot = (codes "stage", stage_of_lot e lot)

  abbrev pub winners_are : ℕ → List ℕ × List ℕ
  winners_are winners = (codes "winners", winners_in language winners)

  abbrev pub lists_are : ℕ → List ℕ × List ℕ
  lists_are lists = (codes "lists", lists_in language lists)

  abbrev pub parties_are : ℕ → List ℕ × List ℕ
  parties_are parties = (codes "parties", parties_in language parties)

  -- the sentence of a warning
  abbrev pub sentence_of : Warning → List ℕ
  sentence_of EqualPeople = said language (row texts.EQUAL_PEOPLE) []
  sentence_of (LandWithoutWinners land) = said language (row texts.LAND_WITHOUT_WINNERS) (land_is land ∷ [])
  sentence_of (WinnersWithoutList party winners) = said language (row texts.WINNERS_WITHOUT_LIST) (party_is party ∷ winners_are winners ∷ [])
  sentence_of (WinnersBesideLists land party winners) = said language (row texts.WINNERS_BESIDE_LISTS) (party_is party ∷ winners_are winners ∷ land_is land ∷ [])
  sentence_of (NothingCounted party lists) = said language (row texts.NOTHING_COUNTED) (lists_are lists ∷ party_is party ∷ [])
  sentence_of (SeveralParties party) = said language (row texts.SEVERAL_PARTIES) (party_is party ∷ [])
  sentence_of (LotUnused lot) = said language (row texts.LOT_UNUSED) (stage_is lot ∷ [])
  sentence_of (LotOfNoEntry lot shape) = said language (no_entry shape) (stage_is lot ∷ [])
  sentence_of (OtherHouse returns book) = said language (row texts.OTHER_HOUSE) ((codes "returns", decimal returns) ∷ (codes "book", decimal book) ∷ [])
  sentence_of (FewParties parties) = said language (row texts.FEW_PARTIES) (parties_are parties ∷ [])
  sentence_of (LandWithoutVotes land) = said language (row texts.LAND_WITHOUT_VOTES) (land_is land ∷ [])
  sentence_of (MoreVotesThanPeople land votes people) = said language (row texts.MORE_VOTES_THAN_PEOPLE) (land_is land ∷ number_is (codes "votes") votes ∷ number_is (codes "people") people ∷ [])
  sentence_of (FewSecondVotes land votes first) = said language (row texts.FEW_SECOND_VOTES) (land_is land ∷ number_is (codes "votes") votes ∷ number_is (codes "first") first ∷ [])
  sentence_of (LandIsSum land) = said language (row texts.LAND_IS_SUM) (land_is land ∷ [])
  sentence_of (SumOfParties party) = said language (row texts.SUM_OF_PARTIES) (party_is party ∷ [])
  sentence_of (MinorityEverywhere party) = said language (row texts.MINORITY_EVERYWHERE) (party_is party ∷ [])
  sentence_of (FewVotes votes seats) = said language (row texts.FEW_VOTES) (number_is (codes "votes") votes ∷ number_is (codes "seats") seats ∷ [])
  sentence_of (OnePartyAlone party) = said language (row texts.ONE_PARTY_ALONE) (party_is party ∷ [])
  sentence_of (LotOfNoSeats lot) = said language (row texts.LOT_OF_NO_SEATS) (stage_is lot ∷ [])
  sentence_of (StageUnused stage) = said language (row texts.STAGE_UNUSED) (number_is (codes "number") stage ∷ [])

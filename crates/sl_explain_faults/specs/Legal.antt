-- What is said of a legal fault, and the records of the lots that decide a tie (docs/faults.md; of lots docs/returns.md).
use Rattle.std.specs.Fmt.{decimal}
use Rattle.std.specs.Option.{option_map}
use Rattle.std.specs.Prelude.{List, Some, [], codes, flat_map, if◌then◌else◌, length, map, nat_le, slice_get, take, unwrap_or, ◌++◌, ◌∷◌, ◌≡◌, ℕ}
use Rattle.sl_explain_faults.specs.Codes.{legal_code}
use Rattle.sl_explain_faults.specs.declared.texts.legal.TheConstants as texts
use Rattle.sl_explain_faults.specs.declared.texts.words.TheConstants as words
use Rattle.sl_explain_texts.specs.Languages.{row, row_of_fault}
use Rattle.sl_explain_texts.specs.Messages.{counted, said}
use Rattle.sl_explain_texts.specs.Pages.{texts_in}
use Rattle.sl_explain_texts.specs.declared.explanation.Explanation.{Explanation}
use Rattle.sl_explain_texts.specs.declared.language.Language.{Language}
use Rattle.sl_law_meaning.specs.declared.election.Win.{Win}
use Rattle.sl_law_meaning.specs.declared.fault.FaultKind.TheVariants as legal
use Rattle.sl_law_meaning.specs.declared.fault.FaultKind.{FaultKind}
use Rattle.sl_law_meaning.specs.declared.fault.Item.TheVariants as item
use Rattle.sl_law_meaning.specs.declared.fault.Item.{Item}
use Rattle.sl_law_meaning.specs.declared.fault.LegalFault.{LegalFault}
use Rattle.sl_law_meaning.specs.declared.fault.Scope.TheVariants as scope
use Rattle.sl_law_meaning.specs.declared.fault.Scope.{Scope}
use Rattle.sl_law_meaning.specs.returns.Election.{Election}

-- a name by its number, and a question mark where there is none
abbrev pub name_at : List (List ℕ) → ℕ → List ℕ
name_at names number = unwrap_or (slice_get names number) (codes "?")

-- the name of a stage by its number: that of the last clause comes after those of the stages
abbrev pub stage_at : List (List ℕ) → ℕ → List ℕ
stage_at stages number = unwrap_or (slice_get stages number) (codes "seats")

module _ (e : Election) where
  -- ---- records of lots

  -- the Land of a lot for an item, its party and its constituency: a lot for a winner has all three
  abbrev pub lot_land : Item → List ℕ
  lot_land (item.Party party) = []
  lot_land (item.Land land) = name_at e.land_names land
  lot_land (item.List land party) = name_at e.land_names land
  lot_land (item.Win win) = unwrap_or (option_map (λ w. name_at e.land_names w.land) (slice_get e.wins win)) []

  abbrev pub party_of_win : Win → List ℕ
  party_of_win w = unwrap_or (option_map (name_at e.party_names) w.party) []

  abbrev pub lot_party : Item → List ℕ
  lot_party (item.Party party) = name_at e.party_names party
  lot_party (item.Land land) = []
  lot_party (item.List land party) = name_at e.party_names party
  lot_party (item.Win win) = unwrap_or (option_map party_of_win (slice_get e.wins win)) []

  abbrev pub lot_win : Item → List ℕ
  lot_win (item.Party party) = []
  lot_win (item.Land land) = []
  lot_win (item.List land party) = []
  lot_win (item.Win win) = unwrap_or (option_map (λ w. name_at e.win_names win) (slice_get e.wins win)) []

  -- the record of the lot for an item at a stage
  abbrev pub lot_record : (stage : List ℕ) → Item → List ℕ
  lot_record stage i = codes "lot," ++ lot_land i ++ codes "," ++ lot_party i ++ codes "," ++ stage ++ codes "," ++ lot_win i ++ codes ","

  -- the records of a tie, one for each tied item, in their order; of another fault none
  abbrev pub records_of : (stages : List (List ℕ)) → LegalFault → List (List ℕ)
  records_of stages fault = of_kind fault.kind where
    of_kind : FaultKind → List (List ℕ)
    of_kind legal.Limit = []
    of_kind legal.Short = []
    of_kind legal.NoList = []
    of_kind (legal.Tie seats names) = map (lot_record (stage_at stages fault.stage)) names
    of_kind legal.Majority = []
    of_kind legal.Cap = []

  -- ---- the sentence

  -- a scope in words
  abbrev pub scope_words : Language → Scope → List ℕ
  scope_words language scope.All = said language (row words.ALL) []
  scope_words language (scope.Land land) = said language (row words.LAND) ((codes "land", name_at e.land_names land) ∷ [])
  scope_words language (scope.Party party) = said language (row words.PARTY) ((codes "party", name_at e.party_names party) ∷ [])
  scope_words language (scope.List land party) =
      said language (row words.LIST_OF) ((codes "party", name_at e.party_names party) ∷ (codes "land", name_at e.land_names land) ∷ [])

  -- the name of an item, that of a list with its Land first
  abbrev pub item_name : Item → List ℕ
  item_name (item.Party party) = name_at e.party_names party
  item_name (item.Land land) = name_at e.land_names land
  item_name (item.List land party) = name_at e.land_names land ++ codes "/" ++ name_at e.party_names party
  item_name (item.Win win) = name_at e.win_names win

  -- the names of items in a row: of the first twelve, and dots where there are more
  abbrev pub item_names : List Item → List ℕ
  item_names [] = []
  item_names (i ∷ items) =
      (item_name i ++ flat_map (λ x. codes ", " ++ item_name x) (take 11 items)) ++ (if nat_le (length items) 11 then [] else codes ", ..")

  module _ (language : Language) (stages : List (List ℕ)) where
    -- what is said of a fault: at which stage, in which scope, and of a tie for how many seats how many claim them, and whose the claims are
    abbrev pub legal_sentence : LegalFault → List ℕ
    legal_sentence fault = of_kind fault.kind where
      stage : List ℕ × List ℕ
      stage = (codes "stage:shown", stage_at stages fault.stage)

      here : List ℕ × List ℕ
      here = (codes "scope", scope_words language fault.scope)

      of_kind : FaultKind → List ℕ
      of_kind legal.Limit = said language (row_of_fault texts.LIMIT) (stage ∷ here ∷ (codes "most", decimal 4000) ∷ [])
      of_kind legal.Short = said language (row_of_fault texts.SHORT) (stage ∷ here ∷ [])
      of_kind legal.NoList = said language (row_of_fault texts.NO_LIST) (stage ∷ here ∷ [])
      of_kind (legal.Tie seats names) =
          said language (row_of_fault texts.TIE)
          (stage ∷ here ∷ (codes "seats", counted language seats (row texts.SEAT) (row texts.SEATS)) ∷ (codes "claims", decimal (length names)) ∷ (codes "names", item_names names) ∷ [])
      of_kind legal.Majority = said language (row_of_fault texts.MAJORITY) (stage ∷ here ∷ [])
      of_kind legal.Cap = said language (row_of_fault texts.CAP) (stage ∷ here ∷ [])

    -- an explanation of a fault has its code, and says what it is
    abbrev pub SaysFault : LegalFault → Explanation → Type 0
    SaysFault fault x = (x.code ≡ Some (legal_code fault)) × (x.sentence.items ≡ legal_sentence fault)

    -- and it has the records of the lots that decide it
    abbrev pub ExplainsFault : LegalFault → Explanation → Type 0
    ExplainsFault fault x = SaysFault fault x × (texts_in x.records.items ≡ records_of stages fault)

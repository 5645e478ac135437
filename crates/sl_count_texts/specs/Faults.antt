-- The text of a legal fault (docs/output.md, section 2).
use Rattle.std.specs.Prelude.{ℕ, List, [], ◌∷◌, ◌++◌, map, codes, slice_index_or}
use Rattle.std.specs.Fmt.{decimal}
use Rattle.sl_law_meaning.specs.declared.fault.FaultKind.{FaultKind}
use Rattle.sl_law_meaning.specs.declared.fault.FaultKind.TheVariants as fault
use Rattle.sl_law_meaning.specs.declared.fault.Item.{Item}
use Rattle.sl_law_meaning.specs.declared.fault.Item.TheVariants as item
use Rattle.sl_law_meaning.specs.declared.fault.LegalFault.{LegalFault}
use Rattle.sl_law_meaning.specs.declared.fault.Scope.{Scope}
use Rattle.sl_law_meaning.specs.declared.fault.Scope.TheVariants as scope
use Rattle.sl_law_meaning.specs.returns.Election.{Election}
use Rattle.sl_count_texts.specs.Lines.{line}
use Rattle.sl_count_texts.specs.Short.{land_word, party_word}

-- a stage by its name, and the last clause, which is after the last of them, as `seats`
abbrev pub stage_word : List (List ℕ) → ℕ → List ℕ
stage_word names stage = slice_index_or names stage (codes "seats")

module _ (e : Election) where
  -- the constituency of a winner
  abbrev pub win_word : ℕ → List ℕ
  win_word win = slice_index_or e.win_names win []

  -- a Land and a party in one word, separated by a slash
  abbrev pub list_word : ℕ → ℕ → List ℕ
  list_word land party = land_word e land ++ (codes "/" ++ party_word e party)

  abbrev pub scope_words : Scope → List (List ℕ)
  scope_words scope.All = codes "all" ∷ []
  scope_words (scope.Land land) = codes "land" ∷ land_word e land ∷ []
  scope_words (scope.Party party) = codes "party" ∷ party_word e party ∷ []
  scope_words (scope.List land party) = codes "list" ∷ land_word e land ∷ party_word e party ∷ []

  abbrev pub item_word : Item → List ℕ
  item_word (item.Party party) = party_word e party
  item_word (item.Land land) = land_word e land
  item_word (item.List land party) = list_word land party
  item_word (item.Win win) = win_word win

  -- a tie has the number of its seats, and the names of its items
  abbrev pub kind_words : FaultKind → List (List ℕ)
  kind_words fault.Limit = codes "limit" ∷ []
  kind_words fault.Short = codes "short" ∷ []
  kind_words fault.NoList = codes "nolist" ∷ []
  kind_words (fault.Tie seats names) = codes "tie" ∷ decimal seats ∷ map item_word names
  kind_words fault.Majority = codes "majority" ∷ []
  kind_words fault.Cap = codes "cap" ∷ []

-- the line of a fault, where the stages have those names
abbrev pub fault_text : List (List ℕ) → Election → LegalFault → List ℕ
fault_text names e f = line (codes "fault" ∷ stage_word names f.stage ∷ scope_words e f.scope ++ kind_words e f.kind)

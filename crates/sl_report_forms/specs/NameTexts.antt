-- What entries, scopes, stages and conditions are called, by the names of what returns and books number (docs/report.md).
use Rattle.std.specs.Prelude.{ℕ, List, [], ◌++◌, codes, option_map, slice_get, string_bytes, unwrap_or}
use Rattle.std.specs.Fmt.{decimal}
use Rattle.std.specs.List.{join_by}
use Rattle.sl_explain_texts.specs.Languages.{chosen}
use Rattle.sl_explain_texts.specs.declared.language.Language.{Language}
use Rattle.sl_law_meaning.specs.declared.book.Cond.TheVariants as cond
use Rattle.sl_law_meaning.specs.declared.book.Cond.{Cond}
use Rattle.sl_law_meaning.specs.declared.fault.Item.TheVariants as item
use Rattle.sl_law_meaning.specs.declared.fault.Item.{Item}
use Rattle.sl_law_meaning.specs.declared.fault.Scope.TheVariants as scope
use Rattle.sl_law_meaning.specs.declared.fault.Scope.{Scope}
use Rattle.sl_report_forms.specs.declared.names.Length.TheVariants.{Full, Short}
use Rattle.sl_report_forms.specs.declared.names.Length.{Length}
use Rattle.sl_report_forms.specs.declared.names.Name.{Name}
use Rattle.sl_report_forms.specs.declared.names.Names.{Names}

-- the word for all Länder and parties together, and for a single number
abbrev pub all_word : Language → List ℕ
all_word language = chosen language (codes "all") (codes "alle")

-- ---- names

abbrev pub name_of : Length → Name → List ℕ
name_of Short n = string_bytes n.short
name_of Full n = string_bytes n.full

-- the name of that number, and no text where there is none
abbrev pub name_in : List Name → Length → ℕ → List ℕ
name_in names length number = unwrap_or (option_map (name_of length) (slice_get names number)) []

-- the stage of that number, or `seats` after the last one
abbrev pub stage_text : Names → ℕ → List ℕ
stage_text n number = unwrap_or (option_map string_bytes (slice_get n.stages.items number)) (codes "seats")

-- ---- entries

-- a list by its Land and its party
abbrev pub entry_text : Names → Length → Item → List ℕ
entry_text n length (item.Party party) = name_in n.parties.items length party
entry_text n length (item.Land land) = name_in n.lands.items length land
entry_text n length (item.List land party) = name_in n.lands.items length land ++ codes "/" ++ name_in n.parties.items length party
entry_text n length (item.Win win) = name_in n.winners.items length win

-- what is named of an entry in a scope: of a list its Land in that of a party, and its party in that of a Land
abbrev pub seen_in : Scope → Item → Item
seen_in (scope.Party p) (item.List land party) = item.Land land
seen_in (scope.Land l) (item.List land party) = item.Party party
seen_in _ entry = entry

abbrev pub text_in : Names → Length → Scope → Item → List ℕ
text_in n length scope entry = entry_text n length (seen_in scope entry)

-- entries with a mark between them
abbrev pub list_text : Names → Length → Scope → (mark : List ℕ) → List Item → List ℕ
list_text n length scope mark entries = join_by (text_in n length scope) mark entries

-- ---- scopes

-- by short names, as the line of a seat has it
abbrev pub scope_text : Names → Scope → List ℕ
scope_text n scope.All = codes "all"
scope_text n (scope.Land land) = codes "land " ++ name_in n.lands.items Short land
scope_text n (scope.Party party) = codes "party " ++ name_in n.parties.items Short party
scope_text n (scope.List land party) = codes "list " ++ name_in n.lands.items Short land ++ codes " " ++ name_in n.parties.items Short party

-- as a reader sees it
abbrev pub scope_name : Language → Names → Scope → List ℕ
scope_name language n scope.All = all_word language
scope_name language n (scope.Land land) = entry_text n Full (item.Land land)
scope_name language n (scope.Party party) = entry_text n Full (item.Party party)
scope_name language n (scope.List land party) = entry_text n Full (item.List land party)

-- ---- conditions

-- a condition in few words
abbrev pub condition_text : Language → Cond → List ℕ
condition_text language (cond.Valid share per) = decimal share.value ++ codes " " ++ chosen language (codes "per") (codes "je") ++ codes " " ++ decimal per
condition_text language (cond.Winners least) = decimal least ++ codes " " ++ chosen language (codes "winners") (codes "Wahlkreise")
condition_text language cond.Minority = chosen language (codes "minority") (codes "Minderheit")
condition_text language cond.All = all_word language

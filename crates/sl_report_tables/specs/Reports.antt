-- Which tables each command shows (docs/report.md).
use Rattle.std.specs.Borrow.{Bor}
use Rattle.std.specs.List.{AllZip, range_with_len}
use Rattle.std.specs.Prelude.{Bool, ◌≡◌, false, true, ℕ, List, [], ◌∷◌, ◌++◌, Option, None, Some, filter, flat_map, get_or, length, option_map}
use Rattle.sl_count_texts.specs.Bounds.{AreBoundsOf}
use Rattle.sl_count_texts.specs.declared.bounds.ScopeBounds.{ScopeBounds}
use Rattle.sl_report_forms.specs.Tables.{Table}
use Rattle.sl_report_results.specs.StageScopes.{AreStageScopes}
use Rattle.sl_report_parties.specs.Press.{ArePressed}
use Rattle.sl_report_parties.specs.declared.earlier.EarlierParty.{EarlierParty}
use Rattle.sl_report_parties.specs.declared.press.Pressed.{Pressed}
use Rattle.sl_report_parties.specs.declared.contests.Ranked.{Ranked}
use Rattle.sl_report_results.specs.declared.scopes.Scoped.{Scoped}
use Rattle.sl_report_tables.specs.Faults.{AreFaultTables}
use Rattle.sl_report_tables.specs.Parties.{AreCovered, covering_table, house_of, law_table, lists_table, open_table, parties_table, singles_table}
use Rattle.sl_report_tables.specs.Press.{IsLackingTable, is_whole, press_table}
use Rattle.sl_report_tables.specs.Scopes.{scope_tables, scopes_table}
use Rattle.sl_report_tables.specs.Stages.{AreStageTables}
use Rattle.sl_report_tables.specs.Steps.{bounds_table, steps_table}
use Rattle.sl_report_tables.specs.declared.counts.Show.TheVariants as show
use Rattle.sl_report_tables.specs.declared.counts.Show.{Show}
use Rattle.sl_law_meaning.specs.book.Books.{book_of}
use Rattle.sl_law_meaning.specs.book.Trees.{tree_of}
use Rattle.sl_law_meaning.specs.declared.book.Book.{Book}
use Rattle.sl_law_meaning.specs.declared.book.Stage.{Stage}
use Rattle.sl_law_meaning.specs.declared.count.Counted.{Counted}
use Rattle.sl_law_meaning.specs.declared.count.End.TheVariants as end
use Rattle.sl_law_meaning.specs.declared.count.End.{End}
use Rattle.sl_law_meaning.specs.declared.fault.LegalFault.{LegalFault}
use Rattle.sl_law_meaning.specs.meaning.Tables.{SeatTable}
use Rattle.sl_law_meaning.specs.returns.Election.{Election}

-- the winners who sit by themselves, and those who are not seated
abbrev pub place_tables : Election → SeatTable → List Table
place_tables e t = singles_table e t ∷ open_table e t ∷ []

-- the same behind contested lists
abbrev pub winner_tables : Election → SeatTable → List Ranked → List Table
winner_tables e t ranked = covering_table ranked ∷ place_tables e t

module _ (b : Book) (e : Election) where
  -- ---- report

  -- the scopes of the stage of that number
  abbrev pub AreScopesOf : Counted → ℕ → List Scoped → Type 0
  AreScopesOf c n found =
      (d : Stage) → AreStageScopes (book_of b) e b.stages.items c.columns.items c.table.steps n (tree_of (get_or b.stages.items n d).expr) found

  -- the scopes of all stages, stage by stage
  abbrev pub AreAllScopes : Counted → List Scoped → Type 0
  AreAllScopes c scopes =
      (each : List (List Scoped)) × AllZip (AreScopesOf c) (range_with_len 0 (length b.stages.items)) each × (scopes ≡ flat_map (λ found. found) each)

  -- the law and the parties, with their seats where a table is known
  abbrev pub first_tables : Option SeatTable → List Table
  first_tables t = law_table b (house_of b e) t ∷ parties_table b.eligible.items e t ∷ []

  -- a seat table: the law, the parties, all lists, and the winners on no list
  abbrev pub seat_tables : SeatTable → List Table
  seat_tables t = first_tables (Some t) ++ lists_table true e t ∷ place_tables e t

  -- all seat steps, the bounds of the scopes, and the seat table
  abbrev pub ShowsSteps : SeatTable → List Table → Type 0
  ShowsSteps t tables = (found : List ScopeBounds) × AreBoundsOf t found × (tables ≡ steps_table t ∷ bounds_table found ∷ seat_tables t)

  -- a count: the law and the parties, the lists, the scopes of all stages with their entries, and the winners
  pub record IsCountReport (c : Counted) (tables : List Table) : Type 0 where
    pub scopes : List Scoped
    pub all : AreAllScopes c scopes
    pub ranked : List Ranked
    pub covered : AreCovered b.last.seating b.eligible.items c.table e ranked
    pub tables_are : tables ≡ first_tables (Some c.table) ++ ((lists_table false e c.table ∷ scope_tables scopes) ++ winner_tables e c.table ranked)

  -- ---- the report for the press

  -- the law, the parties that it shows, the scopes of the whole country, and the largest party of those left out
  pub record IsPressReport (earlier : Option (List EarlierParty)) (c : Counted) (tables : List Table) : Type 0 where
    pub pressed : List Pressed
    pub are_pressed : ArePressed b.eligible.items c.table e earlier pressed
    pub scopes : List Scoped
    pub all : AreAllScopes c scopes
    pub lacking : Table
    pub are_full : Bool
    pub lacks : IsLackingTable are_full b.eligible.items e lacking
    pub tables_are : tables ≡ law_table b (house_of b e) (Some c.table) ∷ press_table are_full e c.table earlier pressed ∷ scopes_table (filter is_whole scopes) ∷ lacking ∷ []

  -- ---- a legal fault

  -- a fault with its explanation, and who takes part
  abbrev pub IsFaultReport : LegalFault → List Table → Type 0
  IsFaultReport f tables = (told : List Table) × AreFaultTables f told × (tables ≡ told ++ first_tables None)

  -- ---- what a command shows of how a count ends

  abbrev pub Shows : Show → End → List Table → Type 0
  Shows show.Seats (end.Counted c) tables = tables ≡ seat_tables c.table
  Shows show.Steps (end.Counted c) tables = ShowsSteps c.table tables
  Shows show.Report (end.Counted c) tables = IsCountReport c tables
  Shows (show.Short earlier) (end.Counted c) tables = IsPressReport (option_map (λ all. all.now) earlier) c tables
  Shows show.Stages (end.Counted c) tables = AreStageTables e c.columns.items tables
  Shows shown (end.Fault f) tables = IsFaultReport f tables

-- what shows the same beside an earlier seat table, where a page for the press does
abbrev pub beside : Option (Bor (List EarlierParty)) → Show → Show
beside earlier (show.Short _) = show.Short earlier
beside _ shown = shown

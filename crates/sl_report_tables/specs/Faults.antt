-- The tables of a legal fault (docs/report.md).
use Rattle.std.specs.Prelude.{◌≡◌, List, [], ◌∷◌, Option, None, Some, codes}
use Rattle.sl_explain_faults.specs.Codes.{legal_code}
use Rattle.sl_explain_texts.specs.Codes.{code_word}
use Rattle.sl_explain_texts.specs.declared.code.FaultCode.{FaultCode}
use Rattle.sl_report_forms.specs.Cells.{Content, a_number, a_scope, a_scope_name, a_stage, a_word, entries, nothing}
use Rattle.sl_report_forms.specs.Tables.{Table}
use Rattle.sl_law_meaning.specs.declared.fault.FaultKind.TheVariants as kind
use Rattle.sl_law_meaning.specs.declared.fault.FaultKind.{FaultKind}
use Rattle.sl_law_meaning.specs.declared.fault.LegalFault.{LegalFault}
use Rattle.sl_report_tables.specs.Columns.{listed}
use Rattle.sl_report_tables.specs.declared.faults.TheConstants as faults_columns

-- the seats of a tie
abbrev pub tied_seats : FaultKind → Content
tied_seats (kind.Tie seats names) = a_number seats
tied_seats _ = nothing

-- the names of the tied
abbrev pub tied : FaultKind → Content
tied (kind.Tie seats names) = entries names
tied _ = nothing

-- the word of a kind of faults
abbrev pub kind_cell : FaultKind → Content
kind_cell kind.Limit = a_word (codes "limit") (codes "Grenze")
kind_cell kind.Short = a_word (codes "short") (codes "zu wenig Sitze")
kind_cell kind.NoList = a_word (codes "nolist") (codes "keine Liste")
kind_cell (kind.Tie seats names) = a_word (codes "tie") (codes "Gleichstand")
kind_cell kind.Majority = a_word (codes "majority") (codes "Mehrheit")
kind_cell kind.Cap = a_word (codes "cap") (codes "Obergrenze")

abbrev pub code_cell : Option FaultCode → Content
code_cell None = a_word [] []
code_cell (Some code) = a_word (code_word code) (code_word code)

-- the code, the stage, the scope by its short name and as a reader sees it, and the kind
abbrev pub fault_table : LegalFault → Table
fault_table f = record {
  key = codes "fault";
  columns = listed faults_columns.FAULT;
  rows = (code_cell (Some (legal_code f)) ∷ a_stage f.stage ∷ a_scope f.scope ∷ a_scope_name f.scope ∷ kind_cell f.kind ∷ tied_seats f.kind ∷ tied f.kind ∷ []) ∷ [];
}

-- sentences, of which no definition tells the words
abbrev pub IsExplanation : Table → Type 0
IsExplanation t = (t.key ≡ codes "explanation") × (t.columns ≡ listed faults_columns.EXPLANATION)

-- the fault, and its explanation
abbrev pub AreFaultTables : LegalFault → List Table → Type 0
AreFaultTables f tables = (explanation : Table) × IsExplanation explanation × (tables ≡ fault_table f ∷ explanation ∷ [])

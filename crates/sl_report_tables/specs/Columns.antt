-- The columns of tables, as the code lists them.
use Rattle.std.specs.Prelude.{ℕ, List, map}
use Rattle.sl_report_forms.specs.Tables.{Column, column}
use Rattle.sl_report_forms.specs.declared.sheet.Look.{Look}

-- of each row the key, what stands over the column in English and in German, and its look
abbrev pub listed : List (record { now : List ℕ } × record { now : List ℕ } × record { now : List ℕ } × Look) → List Column
listed columns = map (λ c. column c.0.now c.1.now c.2.now c.3) columns

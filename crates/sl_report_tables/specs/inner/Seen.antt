-- What is seen of a rulebook beside its lines in one Land.
use Rattle.std.specs.Prelude.{ℕ}
use Rattle.sl_report_tables.specs.declared.compare.Judged.{Judged}
use Rattle.sl_report_tables.specs.declared.local.Local.{Local}

abbrev pub seen : Local → ℕ × Judged
seen x = (x.land, x.judged.now)

abbrev pub with_land : ℕ → Judged → ℕ × Judged
with_land land j = (land, j)

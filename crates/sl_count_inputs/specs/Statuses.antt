-- The exit status of the program (docs/output.md, section 3).
use Rattle.std.specs.Prelude.{ℕ}
use Rattle.sl_count_inputs.specs.declared.status.Status.{Status}
use Rattle.sl_count_inputs.specs.declared.status.Status.TheVariants.{Done, Refused, Legal, Budget}

abbrev pub status_number : Status → ℕ
status_number Done = 0
status_number Refused = 2
status_number Legal = 3
status_number Budget = 4

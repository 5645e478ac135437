-- The files that a report reads in addition to a rulebook and returns: full names, and an earlier seat table (docs/report.md).
use Rattle.std.specs.Prelude.{Bool, IfSome, List, None, Option, Some, false, length, nat_lt, ◌||◌, ◌≡◌, ℕ}
use Rattle.sl_report_tables.specs.Earlier.{is_no_table}
use Rattle.sl_report_tables.specs.Names.{are_refused}
use Rattle.sl_report_tables.specs.declared.cases.TheConstants.{MAX_BEFORE_BYTES}

-- whether the names of a file are refused, where its bytes are known; not if no file is given
abbrev pub AreNames : (List ℕ → Option (List ℕ)) → (path : Option (List ℕ)) → (is_refused : Bool) → Type 0
AreNames bytes None is_refused = is_refused ≡ false
AreNames bytes (Some path) is_refused = IfSome (bytes path) (λ text. is_refused ≡ are_refused (Some text))

-- whether the earlier table of a file is
abbrev pub IsEarlier : (List ℕ → Option (List ℕ)) → (path : Option (List ℕ)) → (is_refused : Bool) → Type 0
IsEarlier bytes None is_refused = is_refused ≡ false
IsEarlier bytes (Some path) is_refused = IfSome (bytes path) (λ text. is_refused ≡ (nat_lt MAX_BEFORE_BYTES (length text) || is_no_table text))

-- whether one of the two is
abbrev pub AreBeside : (List ℕ → Option (List ℕ)) → (names earlier : Option (List ℕ)) → (is_refused : Bool) → Type 0
AreBeside bytes names earlier is_refused =
    (n t : Bool) × AreNames bytes names n × IsEarlier bytes earlier t × (is_refused ≡ (n || t))

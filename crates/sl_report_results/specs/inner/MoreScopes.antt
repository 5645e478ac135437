-- The scopes of a stage, one more.
use Rattle.std.specs.Prelude.{◌≡◌, ◌⊎◌, ℕ, ◌<◌, List, [], ◌∷◌, ◌++◌, length}
use Rattle.sl_law_meaning.specs.declared.fault.Scope.{Scope}
use Rattle.sl_report_results.specs.Scopes.{IsScoped}
use Rattle.sl_report_results.specs.declared.columns.Distribution.{Distribution}
use Rattle.sl_report_results.specs.declared.scopes.Entry.{Entry}
use Rattle.sl_report_results.specs.declared.scopes.Scoped.{Scoped}

-- a scope of these entries after others, where there is one
abbrev pub Adds : ℕ → Distribution → Scope → List Entry → List Scoped → List Scoped → Type 0
Adds number d in_scope xs before after =
    ((length xs ≡ 0) × (after ≡ before)) ⊎ ((s : Scoped) × (0 < length xs) × (after ≡ before ++ s ∷ []) × IsScoped number d in_scope xs s)

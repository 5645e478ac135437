-- The scopes of a stage of a count.
use Rattle.std.specs.Prelude.{◌≡◌, ◌⊎◌, ℕ, List, [], option_map, slice_get, take, unwrap_or}
use Rattle.sl_law_meaning.specs.declared.count.Column.{Column}
use Rattle.sl_report_results.specs.Scopes.{AreScopes}
use Rattle.sl_report_results.specs.Values.{HasNoSplit, IsDistributed, named_columns, types_before}
use Rattle.sl_report_results.specs.declared.columns.Distribution.{Distribution}
use Rattle.sl_report_results.specs.declared.scopes.Scoped.{Scoped}
use Rattle.sl_law_meaning.specs.book.Trees.{BookTree, ExprTree}
use Rattle.sl_law_meaning.specs.declared.book.Stage.{Stage}
use Rattle.sl_law_meaning.specs.declared.table.SeatStep.{SeatStep}
use Rattle.sl_law_meaning.specs.returns.Election.{Election}

-- the name of the stage of that number
abbrev pub name_of : List Stage → ℕ → List ℕ
name_of stages n = unwrap_or (option_map (λ s. s.name) (slice_get stages n)) []

-- none of a stage without a split and a growth; else those of what its split or its growth distributes, by the columns of the stages before
abbrev pub AreStageScopes : BookTree → Election → List Stage → List Column → List SeatStep → ℕ → ExprTree → List Scoped → Type 0
AreStageScopes b e stages columns steps n x found =
    (HasNoSplit x × (found ≡ []))
    ⊎ ((d : Distribution) × IsDistributed b e (types_before b n) (named_columns stages (take n columns)) x d × AreScopes e (name_of stages n) n d steps found)

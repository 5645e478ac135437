-- A stage of another name is passed over.
use Rattle.std.proofs.Common.{List, [], arith, drop, false, get_or, length, map, suc, zero, ◌<◌, ◌∷◌, ◌≡◌, ℕ}
use Rattle.std.specs.Str.{bytes_eq}
use Rattle.sl_law_meaning.specs.book.Trees.{stage_of}
use Rattle.sl_law_meaning.specs.book.Typing.{Column}
use Rattle.sl_law_meaning.specs.declared.book.Stage.{Stage}
use Rattle.sl_report_warnings.specs.Warnings.{shape_named}

pub passes_over : (columns : List Column) (name : List ℕ) (ss : List Stage) (i : ℕ) (s : Stage) → i < length ss → s ≡ get_or ss i s → bytes_eq name s.name ≡ false
    → shape_named columns name (map stage_of (drop i ss)) ≡ shape_named columns name (map stage_of (drop (suc i) ss))
passes_over columns name [] i s lt here other = absurd (omega arith)
passes_over columns name (x ∷ ss) zero s lt here other = grind arith
passes_over columns name (x ∷ ss) (suc i) s lt here other = passes_over columns name ss i s (omega arith) here other

-- What a rulebook comes to by another method, which takes the place of that of each split and each growth (docs/report.md).
use Rattle.std.specs.Prelude.{None, Some, map, ◌≡◌}
use Rattle.sl_count_inputs.specs.Books.{BookInput, IsBookVerdict}
use Rattle.sl_count_inputs.specs.declared.refusal.BookRefusal.TheVariants as book
use Rattle.sl_count_inputs.specs.declared.refusal.BookRefusal.{BookRefusal}
use Rattle.sl_count_inputs.specs.declared.verdict.Verdict.TheVariants.{Good, Refused}
use Rattle.sl_count_inputs.specs.declared.verdict.Verdict.{Verdict}
use Rattle.sl_base_quotients.specs.declared.method.Method.{Method}
use Rattle.sl_law_meaning.specs.book.Trees.{BookTree, ExprTree, StageTree, atleast, fact, grow, name, pair, split, sum, without}
use Rattle.sl_law_meaning.specs.book.Typing.{check_fault}
use Rattle.sl_law_meaning.specs.declared.check_fault.CheckFault.{CheckFault}

-- ---- trees

-- each split and each growth, wherever it stands in an expression, has this method, and all else is kept
abbrev pub expr_by_method : Method → ExprTree → ExprTree
expr_by_method by (fact at told) = fact at told
expr_by_method by (name at n) = name at n
expr_by_method by (sum at e axis) = sum at (expr_by_method by e) axis
expr_by_method by (pair at pairing l r) = pair at pairing (expr_by_method by l) (expr_by_method by r)
expr_by_method by (split at s v method without majority) = split at (expr_by_method by s) (expr_by_method by v) by without majority
expr_by_method by (split at s v method (atleast m) majority) = split at (expr_by_method by s) (expr_by_method by v) by (atleast (expr_by_method by m)) majority
expr_by_method by (grow at s v method m cap majority) = grow at (expr_by_method by s) (expr_by_method by v) by (expr_by_method by m) cap majority

abbrev pub stage_by_method : Method → StageTree → StageTree
stage_by_method by s = record { name = s.name; at = s.at; expr = expr_by_method by s.expr }

abbrev pub by_method : Method → BookTree → BookTree
by_method by b =
    record { version = b.version; law = b.law; house = b.house; eligible = b.eligible; stages = map (stage_by_method by) b.stages; last = b.last }

-- ---- verdicts

-- a tree by another method passes all tests, or fails one
abbrev pub IsTreeVerdictBy : Method → BookTree → Verdict BookTree BookRefusal → Type 0
IsTreeVerdictBy by tree (Good changed) = (changed ≡ by_method by tree) × (check_fault changed ≡ None)
IsTreeVerdictBy by tree (Refused why) = (fault : CheckFault) × (check_fault (by_method by tree) ≡ Some fault) × (why ≡ book.Test fault)

-- what a good rulebook comes to by another method
abbrev pub IsVerdictBy : Method → BookInput → Verdict BookTree BookRefusal → Type 0
IsVerdictBy by input verdict = (tree : BookTree) × IsBookVerdict input (Good tree) × IsTreeVerdictBy by tree verdict

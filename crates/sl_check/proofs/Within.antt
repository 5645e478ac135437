-- What the limits of a rulebook say of each stage.
use Rattle.std.proofs.Common.{◌≡◌, ℕ, zero, suc, ◌<◌, ◌≤◌, List, [], ◌∷◌, true, IsTrue, length, map, get_or, arith}
use Rattle.std.specs.List.{list_all}
use Rattle.std.specs.Cmp.{first_so, second_so}
use Rattle.std.proofs.lemmas.Bool.{leb-true}
use Rattle.std.proofs.lemmas.List.{length-map}
use Rattle.sl_law_meaning.specs.declared.limits.TheConstants.{MAX_PARTS}
use Rattle.sl_base_terms.specs.declared.limits.TheConstants.{MAX_STAGES}
use Rattle.sl_law_meaning.specs.declared.book.Stage.{Stage}
use Rattle.sl_law_meaning.specs.book.Trees.{tree_of, stage_of}
use Rattle.sl_law_meaning.specs.book.Limits.{parts_of, is_within_stage, is_within_limits}

parts_each : (ss : List Stage) (i : ℕ) (s : Stage) → list_all is_within_stage (map stage_of ss) ≡ true → i < length ss → s ≡ get_or ss i s
    → parts_of (tree_of s.expr) ≤ MAX_PARTS
parts_each [] i s all lt here = absurd (omega arith)
parts_each (x ∷ ss) zero s all lt here = rw here (leb-true _ _ (second_so _ _ (first_so _ _ all)))
parts_each (x ∷ ss) (suc i) s all lt here = parts_each ss i s (second_so _ _ all) (omega arith) here

-- no stage has too many parts
pub parts_within : (ss : List Stage) (i : ℕ) (s : Stage) → IsTrue (is_within_limits (map stage_of ss)) → i < length ss → s ≡ get_or ss i s
    → parts_of (tree_of s.expr) ≤ MAX_PARTS
parts_within ss i s within lt here = parts_each ss i s (second_so _ _ within) lt here

-- there are not too many stages
pub stages_within : (ss : List Stage) → IsTrue (is_within_limits (map stage_of ss)) → length ss ≤ MAX_STAGES
stages_within ss within = rw (← length-map ss stage_of) (leb-true _ _ (first_so _ _ within))

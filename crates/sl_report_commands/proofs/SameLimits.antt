-- A book by another method keeps the limits, which do not depend on methods.
use Rattle.std.proofs.Common.{List, [], ◌∷◌, ap, map, refl, ◌≡◌, ◌∙◌}
use Rattle.std.specs.Prelude.{IsTrue, flat_map, length}
use Rattle.std.proofs.lemmas.List.{length-map, with_items_is}
use Rattle.std.specs.List.{list_all}
use Rattle.std.specs.Vec.{with_items}
use Rattle.std.specs.declared.vec.Vec.{Vec}
use Rattle.sl_base_quotients.specs.declared.method.Method.{Method}
use Rattle.sl_law_meaning.specs.book.Limits.{are_small, book_numbers, depth_of, is_within_limits, is_within_stage, numbers_of, parts_of}
use Rattle.sl_law_meaning.specs.declared.book.Stage.{Stage}
use Rattle.sl_law_meaning.specs.book.Trees.{BookTree, ExprTree, StageTree, atleast, fact, grow, name, pair, split, stage_of, sum, without}
use Rattle.sl_report_commands.specs.Methods.{expr_by_method, stage_by_method}

module _ (by : Method) where
  same_depth : (e : ExprTree) → depth_of (expr_by_method by e) ≡ depth_of e
  same_depth (fact at told) = refl
  same_depth (name at n) = refl
  same_depth (sum at e axis) = rw (same_depth e) refl
  same_depth (pair at pairing l r) = rw (same_depth l, same_depth r) refl
  same_depth (split at s v method without majority) = rw (same_depth s, same_depth v) refl
  same_depth (split at s v method (atleast m) majority) = rw (same_depth s, same_depth v, same_depth m) refl
  same_depth (grow at s v method m cap majority) = rw (same_depth s, same_depth v, same_depth m) refl

  same_parts : (e : ExprTree) → parts_of (expr_by_method by e) ≡ parts_of e
  same_parts (fact at told) = refl
  same_parts (name at n) = refl
  same_parts (sum at e axis) = rw (same_parts e) refl
  same_parts (pair at pairing l r) = rw (same_parts l, same_parts r) refl
  same_parts (split at s v method without majority) = rw (same_parts s, same_parts v) refl
  same_parts (split at s v method (atleast m) majority) = rw (same_parts s, same_parts v, same_parts m) refl
  same_parts (grow at s v method m cap majority) = rw (same_parts s, same_parts v, same_parts m) refl

  same_numbers : (e : ExprTree) → numbers_of (expr_by_method by e) ≡ numbers_of e
  same_numbers (fact at told) = refl
  same_numbers (name at n) = refl
  same_numbers (sum at e axis) = same_numbers e
  same_numbers (pair at pairing l r) = rw (same_numbers l, same_numbers r) refl
  same_numbers (split at s v method without majority) = rw (same_numbers s, same_numbers v) refl
  same_numbers (split at s v method (atleast m) majority) = rw (same_numbers s, same_numbers v, same_numbers m) refl
  same_numbers (grow at s v method m cap majority) = rw (same_numbers s, same_numbers v, same_numbers m) refl

  same_stage : (s : StageTree) → is_within_stage (stage_by_method by s) ≡ is_within_stage s
  same_stage s = rw (same_depth s.expr, same_parts s.expr) refl

  same_stages : (ss : List StageTree) → list_all is_within_stage (map (stage_by_method by) ss) ≡ list_all is_within_stage ss
  same_stages [] = refl
  same_stages (s ∷ ss) = rw (same_stage s, same_stages ss) refl

  stages_numbers : (ss : List StageTree) → flat_map (λ (s : StageTree). numbers_of s.expr) (map (stage_by_method by) ss) ≡ flat_map (λ (s : StageTree). numbers_of s.expr) ss
  stages_numbers [] = refl
  stages_numbers (s ∷ ss) = rw (same_numbers s.expr, stages_numbers ss) refl

  pub same_limits : (ss new : List StageTree) → new ≡ map (stage_by_method by) ss → IsTrue (is_within_limits ss) → IsTrue (is_within_limits new)
  same_limits ss new is within = rw (is, length-map ss (stage_by_method by), same_stages ss) within

  pub same_small : (b : BookTree) (new : List StageTree) → new ≡ map (stage_by_method by) b.stages → IsTrue (are_small (book_numbers b))
      → IsTrue (are_small (book_numbers (record b { stages = new })))
  same_small b new is small = rw (is, stages_numbers b.stages) small

  -- stages in a vector, after each was set in place
  pub all_set : {Z : Type 0} (stages : Vec Stage Z) (old new : List Stage) → old ≡ stages.items → length new ≡ stages.len
      → map stage_of new ≡ map (stage_by_method by) (map stage_of old) → map stage_of (with_items stages new).items ≡ map (stage_by_method by) (map stage_of stages.items)
  all_set stages old new are long set = ap (map stage_of) (with_items_is stages new long) ∙ set ∙ ap (λ all. map (stage_by_method by) (map stage_of all)) are

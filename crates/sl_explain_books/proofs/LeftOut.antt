-- What is left of a rulebook keeps its limits.
use Rattle.std.proofs.Common.{◌≡◌, ◌<◌, ◌≤◌, ℕ, suc, Bool, true, false, List, [], ◌∷◌, ◌++◌, ◌&&◌, ◌∙◌, ap, append_assoc, cond, drop, get_or, length, map, refl, sym, arith}
use Rattle.std.proofs.Math.Seq.{drop-cons}
use Rattle.std.proofs.lemmas.Bool.{and_from, and_parts, le-leb, leb-true}
use Rattle.std.proofs.lemmas.List.Folds.{list_all-append}
use Rattle.std.specs.Prelude.{IsTrue, filter, flat_map, nat_le, if◌then◌else◌}
use Rattle.std.specs.List.{list_all}
use Rattle.sl_base_quotients.specs.declared.limits.TheConstants.{MAX_NUMBER}
use Rattle.sl_law_meaning.specs.declared.book.Number.{Number}
use Rattle.sl_law_meaning.specs.declared.book.Stage.{Stage}
use Rattle.sl_law_meaning.specs.book.Trees.{BookTree, StageTree, stage_of}
use Rattle.sl_law_meaning.specs.book.Limits.{are_small, book_numbers, condition_numbers, is_within_limits, is_within_stage, numbers_of}
use Rattle.sl_explain_books.specs.declared.clause.Clause.{Clause}
use Rattle.sl_explain_books.specs.declared.clause.Clause.TheVariants as clause
use Rattle.sl_explain_books.specs.Further.{condition_left, house_left, is_left_out, left_of, lost_with, names_lost, stages_left, version_left, without}

-- ---- stages

-- stages that pass a test pass it where some are left out
left_pass : (p : StageTree → Bool) (c : Clause) (lost : List (List ℕ)) (ss : List StageTree) → list_all p ss ≡ true → list_all p (stages_left c lost ss) ≡ true
left_pass p c lost [] all = refl
left_pass p c lost (s ∷ ss) all =
    let parts = and_parts (p s) (list_all p ss) all in
    elim (is_left_out c lost s) as (λ b. list_all p ((if b then [] else s ∷ []) ++ stages_left c (if b then lost ++ s.name ∷ [] else lost) ss) ≡ true)
    [ true ↦ left_pass p c (lost ++ s.name ∷ []) ss parts.1 | false ↦ and_from (p s) _ parts.0 (left_pass p c lost ss parts.1) ]

-- they are no more
left_length : (c : Clause) (lost : List (List ℕ)) (ss : List StageTree) → length (stages_left c lost ss) ≤ length ss
left_length c lost [] = omega arith
left_length c lost (s ∷ ss) =
    elim (is_left_out c lost s) as (λ b. length ((if b then [] else s ∷ []) ++ stages_left c (if b then lost ++ s.name ∷ [] else lost) ss) ≤ length (s ∷ ss))
    [ true ↦ omega (arith, left_length c (lost ++ s.name ∷ []) ss) | false ↦ omega (arith, left_length c lost ss) ]

pub within_left : (c : Clause) (ss : List StageTree) → IsTrue (is_within_limits ss) → IsTrue (is_within_limits (stages_left c [] ss))
within_left c ss within =
    let parts = and_parts (nat_le (length ss) _) (list_all is_within_stage ss) within in
    and_from _ _ (le-leb _ _ (omega (arith, left_length c [] ss, leb-true _ _ parts.0))) (left_pass is_within_stage c [] ss parts.1)

-- ---- numbers

module _ (q : ℕ → Bool) where
  -- each number of each of a list
  all_flat : {X : Type 0} (f : X → List ℕ) (xs : List X) → list_all q (flat_map f xs) ≡ list_all (λ x. list_all q (f x)) xs
  all_flat f [] = refl
  all_flat f (x ∷ xs) = rw (list_all-append q (f x) (flat_map f xs), all_flat f xs) refl

  filter_pass : {X : Type 0} (p keep : X → Bool) (xs : List X) → list_all p xs ≡ true → list_all p (filter keep xs) ≡ true
  filter_pass p keep [] all = refl
  filter_pass p keep (x ∷ xs) all =
      let parts = and_parts (p x) (list_all p xs) all in
      elim (keep x) as (λ b. list_all p (cond b (x ∷ filter keep xs) (filter keep xs)) ≡ true)
      [ true ↦ and_from (p x) _ parts.0 (filter_pass p keep xs parts.1) | false ↦ filter_pass p keep xs parts.1 ]

small_version : (c : Clause) (n : Number) → nat_le n.value MAX_NUMBER ≡ true → nat_le (version_left c n).value MAX_NUMBER ≡ true
small_version clause.Version n small = refl
small_version clause.House n small = small
small_version (clause.Condition at) n small = small
small_version (clause.Stage at) n small = small
small_version clause.Last n small = small

small_house : (c : Clause) (n : Number) → nat_le n.value MAX_NUMBER ≡ true → nat_le (house_left c n).value MAX_NUMBER ≡ true
small_house clause.Version n small = small
small_house clause.House n small = refl
small_house (clause.Condition at) n small = small
small_house (clause.Stage at) n small = small
small_house clause.Last n small = small

abbrev is_small : ℕ → Bool
is_small n = nat_le n MAX_NUMBER

pub small_left : (c : Clause) (b : BookTree) → IsTrue (are_small (book_numbers b)) → IsTrue (are_small (book_numbers (without c b)))
small_left c b small =
    let conditions = flat_map condition_numbers b.eligible in
    let stages = flat_map (λ s. numbers_of s.expr) b.stages in
    let version = and_parts (is_small b.version.value) _ small in
    let house = and_parts (is_small b.house.value) _ version.1 in
    let split : (list_all is_small conditions && list_all is_small stages) ≡ true = rw (list_all-append is_small conditions stages) at house.1 in
    let both = and_parts (list_all is_small conditions) (list_all is_small stages) split in
    let kept = filter (condition_left c) b.eligible in
    let left = stages_left c [] b.stages in
    let few : list_all is_small (flat_map condition_numbers kept) ≡ true =
    all_flat is_small condition_numbers kept ∙ filter_pass is_small _ (condition_left c) b.eligible (sym (all_flat is_small condition_numbers b.eligible) ∙ both.0) in
    let rest : list_all is_small (flat_map (λ (s : StageTree). numbers_of s.expr) left) ≡ true =
    all_flat is_small (λ s. numbers_of s.expr) left ∙ left_pass _ c [] b.stages (sym (all_flat is_small (λ (s : StageTree). numbers_of s.expr) b.stages) ∙ both.1) in
    and_from _ _ (small_version c b.version version.0)
    (and_from _ _ (small_house c b.house house.0) (list_all-append is_small (flat_map condition_numbers kept) (flat_map (λ (s : StageTree). numbers_of s.expr) left) ∙ and_from _ _ few rest))

-- ---- one stage more

drop_here : (all : List Stage) (i : ℕ) (s : Stage) → i < length all → s ≡ get_or all i s → drop i all ≡ s ∷ drop (suc i) all
drop_here all i s lt here = rw (← here) at (drop-cons all i s lt)

-- the stages before a place and after it, where that much is left of those before
pub left_more : (c : Clause) (all : List Stage) (i : ℕ) (s : Stage) (left new : List StageTree) (lost more : List (List ℕ)) → i < length all → s ≡ get_or all i s
    → new ≡ left ++ left_of c lost (stage_of s) → more ≡ lost_with c lost (stage_of s)
    → new ++ stages_left c more (map stage_of (drop (suc i) all)) ≡ left ++ stages_left c lost (map stage_of (drop i all))
left_more c all i s left new lost more lt here is names =
    let rest = map stage_of (drop (suc i) all) in
    ap (λ l. l ++ stages_left c more rest) is ∙ append_assoc left _ _
    ∙ ap (λ m. left ++ (left_of c lost (stage_of s) ++ stages_left c m rest)) names
    ∙ ap (λ l. left ++ stages_left c lost (map stage_of l)) (sym (drop_here all i s lt here))

pub lost_more : (c : Clause) (all : List Stage) (i : ℕ) (s : Stage) (lost more : List (List ℕ)) → i < length all → s ≡ get_or all i s
    → more ≡ lost_with c lost (stage_of s)
    → names_lost c more (map stage_of (drop (suc i) all)) ≡ names_lost c lost (map stage_of (drop i all))
lost_more c all i s lost more lt here names =
    ap (λ m. names_lost c m (map stage_of (drop (suc i) all))) names ∙ ap (λ l. names_lost c lost (map stage_of l)) (sym (drop_here all i s lt here))

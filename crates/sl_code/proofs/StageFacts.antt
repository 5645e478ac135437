-- A stage and a shape stand or fail in one way alone.
use Rattle.std.proofs.Common.{◌≡◌, ℕ, ◌&&◌, List, [], ◌∷◌, ◌++◌, length, IsTrue, nat_lt, nat_le, refl, sym, subst, ◌∙◌, arith, rules, tests, length-append}
use Rattle.std.specs.List.{list_all}
use Rattle.std.proofs.lemmas.Bool.{and_parts, and_from, false≢true}
use Rattle.sl_base_quotients.specs.declared.spelling.TheConstants.{MAX_NAME_BYTES}
use Rattle.sl_base_terms.specs.declared.shape.Shape.{Shape}
use Rattle.sl_base_terms.specs.declared.shape.Shape.TheVariants as shapes
use Rattle.sl_base_terms.specs.Words.{is_letter, is_word}
use Rattle.sl_code_instructions.specs.declared.code.CodeStage.{CodeStage}
use Rattle.sl_code.specs.declared.fault.Cause.TheVariants as causes
use Rattle.sl_code.specs.declared.fault.Stop.{Stop}
use Rattle.sl_base_terms.specs.Shapes.{shape_number}
use Rattle.sl_code.specs.Operands.{is_any, is_shape}
use Rattle.sl_code.specs.Spelling.{stage_bytes}
use Rattle.sl_code_instructions.specs.Proper.{IsStage}
use Rattle.sl_code.specs.Faults.{FailsTests, FailsStage, in_length, behind_length, FailsShape, IsAny, shape_bytes, is_name_length, is_name_byte, name_tests, stop_at}
use Rattle.sl_code.proofs.Determined.{tests_one}
use Rattle.sl_code.proofs.Fronts.{head, tail, back_same}
use Rattle.sl_code.proofs.Names.{name_passes}
use Rattle.sl_code.proofs.Passing.{Passes, joined, none_fails}

abbrev wrong : List ℕ → Stop
wrong = stop_at causes.Op

-- ---- shapes

shape_passes : (x : Shape) → IsTrue (is_shape (shape_number x))
shape_passes shapes.One = refl
shape_passes x = refl

pub shape_same : (x y : Shape) (r s : List ℕ) → shape_bytes x ++ r ≡ shape_bytes y ++ s → r ≡ s
shape_same x y r s e = tail _ _ _ _ e

pub shape_none : (x : Shape) (r : List ℕ) (stop : Stop) → IsAny x → FailsShape (shape_bytes x ++ r) stop → ⊥
shape_none x r stop any failing =
    none_fails wrong (is_shape ∷ []) (shape_number x ∷ []) r stop ((shape_passes x), tt, tt) failing

pub shape_one : (here : List ℕ) (a b : Stop) → FailsShape here a → FailsShape here b → a ≡ b
shape_one here a b f g = tests_one wrong (is_shape ∷ []) here a b f g

-- ---- stages

word_length : (name : List ℕ) → IsTrue (is_word name) → IsTrue (is_name_length (length name))
word_length [] word = absurd (false≢true word)
word_length (b ∷ more) word =
    and_from (nat_lt 0 (length (b ∷ more))) (nat_le (length (b ∷ more)) MAX_NAME_BYTES) (search (rules, tests)) (and_parts (is_letter b && list_all is_name_byte more) (nat_le (length (b ∷ more)) MAX_NAME_BYTES) word).1

pub stage_same : (x y : CodeStage) (r s : List ℕ) → stage_bytes x ++ r ≡ stage_bytes y ++ s → r ≡ s
stage_same x y r s e =
    let long : length x.name ≡ length y.name = head _ _ _ _ e in
    back_same (x.name ++ x.slot ∷ []) (y.name ++ y.slot ∷ []) r s (omega (arith, long, length-append x.name (x.slot ∷ []), length-append y.name (y.slot ∷ []))) (tail _ _ _ _ e)

pub stage_none : (x : CodeStage) (r : List ℕ) (stop : Stop) → IsStage x → FailsStage (stage_bytes x ++ r) stop → ⊥
stage_none x r stop word (in_length failing) =
    none_fails wrong (is_name_length ∷ []) (length x.name ∷ []) _ stop ((word_length x.name word), tt, tt) failing
stage_none x r stop word (behind_length n rest stands ok failing) =
    let long : n ≡ length x.name = sym (head _ _ _ _ stands) in
    let here : FailsTests wrong (name_tests (length x.name) ++ is_any ∷ []) rest stop = subst (λ (k : ℕ). FailsTests wrong (name_tests k ++ is_any ∷ []) rest stop) long failing in
    let passes : Passes IsAny (name_tests (length x.name) ++ is_any ∷ []) (x.name ++ x.slot ∷ []) = joined (name_tests (length x.name)) (is_any ∷ []) x.name (x.slot ∷ []) (name_passes x.name word) (refl, tt, tt) in
    none_fails wrong _ (x.name ++ x.slot ∷ []) r stop passes (subst (λ (h : List ℕ). FailsTests wrong (name_tests (length x.name) ++ is_any ∷ []) h stop) (sym (tail _ _ _ _ stands)) here)

pub stage_one : (here : List ℕ) (a b : Stop) → FailsStage here a → FailsStage here b → a ≡ b
stage_one here a b (in_length f) (in_length g) = tests_one wrong (is_name_length ∷ []) here a b f g
stage_one here a b (in_length f) (behind_length n rest stands ok failing) =
    absurd (none_fails wrong (is_name_length ∷ []) (n ∷ []) rest a (ok, tt, tt) (subst (λ (h : List ℕ). FailsTests wrong (is_name_length ∷ []) h a) stands f))
stage_one here a b (behind_length n rest stands ok failing) (in_length g) =
    absurd (none_fails wrong (is_name_length ∷ []) (n ∷ []) rest b (ok, tt, tt) (subst (λ (h : List ℕ). FailsTests wrong (is_name_length ∷ []) h b) stands g))
stage_one here a b (behind_length n rest stands ok f) (behind_length m rest' stands' ok' g) =
    let both : m ∷ rest' ≡ n ∷ rest = sym stands' ∙ stands in
    let moved : FailsTests wrong (name_tests n ++ is_any ∷ []) rest' b = subst (λ (k : ℕ). FailsTests wrong (name_tests k ++ is_any ∷ []) rest' b) (head _ _ _ _ both) g in
    tests_one wrong (name_tests n ++ is_any ∷ []) rest a b f (subst (λ (h : List ℕ). FailsTests wrong (name_tests n ++ is_any ∷ []) h b) (tail _ _ _ _ both) moved)

-- Names that are read byte by byte.
use Rattle.std.proofs.Common.{◌≡◌, ℕ, zero, suc, ◌+◌, ◌<◌, Bool, ◌&&◌, List, [], ◌∷◌, ◌++◌, length, take, replicate, IsTrue, nat_lt, nat_le, refl, sym, ap, subst, ◌∙◌, arith, append_assoc, length-append}
use Rattle.std.specs.List.{list_all}
use Rattle.std.proofs.lemmas.Bool.{and_parts, and_from, false≢true, ltb-true}
use Rattle.std.proofs.lemmas.List.{take_at}
use Rattle.std.proofs.lemmas.List.Folds.{list_all-append}
use Rattle.sl_base_quotients.specs.declared.spelling.TheConstants.{MAX_NAME_BYTES}
use Rattle.sl_base_terms.specs.Words.{is_letter, is_word}
use Rattle.sl_code.specs.declared.fault.Cause.TheVariants as causes
use Rattle.sl_code.specs.declared.fault.Stop.{Stop}
use Rattle.sl_code.specs.Operands.{is_any}
use Rattle.sl_code.specs.Faults.{FailsTests, FailsStage, behind_length, IsAny, is_name_length, is_name_byte, name_tests, stop_at}
use Rattle.sl_code.specs.Reading.{Ends, FailsAhead, IsName}
use Rattle.sl_code.proofs.Failing.{ends_tests, later}
use Rattle.sl_code.proofs.Passing.{Passes, all_passes, fails_over}

-- so many bytes of a name have been read
pub record NameFront (n : ℕ) (here now : List ℕ) : Type 0 where
  pub first : ℕ
  pub more : List ℕ
  pub stands : here ≡ first ∷ more ++ now
  pub long : length more + 1 ≡ n
  pub letter : IsTrue (is_letter first)
  pub passes : IsTrue (list_all is_name_byte more)

pub name_grows : (i b : ℕ) (here now next : List ℕ) → NameFront i here now → now ≡ b ∷ next → IsTrue (is_name_byte b) → NameFront (i + 1) here next
name_grows i b here now next front stands passes = record {
  first = front.first;
  more = front.more ++ b ∷ [];
  stands = front.stands ∙ ap (λ t. front.first ∷ front.more ++ t) stands ∙ ap (λ t. front.first ∷ t) (sym (append_assoc front.more (b ∷ []) next));
  long = omega (arith, front.long, length-append front.more (b ∷ []));
  letter = front.letter;
  passes = list_all-append is_name_byte front.more (b ∷ []) ∙ and_from (list_all is_name_byte front.more) (list_all is_name_byte (b ∷ [])) front.passes (and_from (is_name_byte b) _ passes refl);
}

pub name_done : (n : ℕ) (here now : List ℕ) → NameFront n here now → IsTrue (is_name_length n) → IsName n here now (take n here)
name_done n here now front ok =
    let name : List ℕ = front.first ∷ front.more in
    let long : length name ≡ n = omega (arith, front.long) in
    let fits : IsTrue _ = (and_parts _ _ (subst (λ (k : ℕ). IsTrue (is_name_length k)) (sym long) ok)).1 in
    let word : IsTrue (is_word name) = and_from _ _ (and_from _ _ front.letter front.passes) fits in
    let taken : take n here ≡ name = ap (take n) front.stands ∙ take_at name now n long in
    subst (λ (x : List ℕ). IsName n here now x) (sym taken) (record { stands = front.stands; long = long; word = word })

pub name_ends : (n i k : ℕ) (old here now : List ℕ) → NameFront i here now → i ≡ n → k ≡ n → here ≡ old → IsTrue (is_name_length n) → IsName n old now (take k here)
name_ends n i k old here now front all same here_is ok =
    let done : IsName n here now (take n here) = name_done n here now (subst (λ (m : ℕ). NameFront m here now) all front) ok in
    let taken : IsName n here now (take k here) = subst (λ (m : ℕ). IsName n here now (take m here)) (sym same) done in
    subst (λ (xs : List ℕ). IsName n xs now (take k here)) here_is taken

pub name_positive : (n : ℕ) → IsTrue (is_name_length n) → 0 < n
name_positive n ok = ltb-true 0 n (and_parts (nat_lt 0 n) (nat_le n MAX_NAME_BYTES) ok).0

-- ---- where a name fails

more_any : (test : ℕ → Bool) (tests : List (ℕ → Bool)) (here : List ℕ) (stop : Stop) → FailsAhead (test ∷ []) here stop → FailsAhead (test ∷ tests) here stop
more_any test tests here stop failing = record { fails = λ more. failing.fails (tests ++ more) }

passes_over : (p : ℕ → Bool) (m : ℕ) (read now : List ℕ) (stop : Stop) → IsTrue (list_all p read) → length read < m → FailsAhead (p ∷ []) now stop → FailsAhead (replicate m p) (read ++ now) stop
passes_over p zero read now stop passes fewer failing = absurd (omega (arith, fewer))
passes_over p (suc m) [] now stop passes fewer failing = more_any p (replicate m p) now stop failing
passes_over p (suc m) (b ∷ read) now stop passes fewer failing =
    let both : IsTrue (p b) × IsTrue (list_all p read) = and_parts (p b) (list_all p read) passes in
    later p (replicate m p) b (b ∷ read ++ now) (read ++ now) stop refl (passes_over p m read now stop both.1 (omega (arith, fewer)) failing) both.0

pub name_byte_stops : (n i : ℕ) (old here now : List ℕ) (stop : Stop) → NameFront i here now → here ≡ old → i < n → FailsAhead (is_name_byte ∷ []) now stop → FailsAhead (name_tests n) old stop
name_byte_stops zero i old here now stop front here_is fewer failing = absurd (omega (arith, fewer))
name_byte_stops (suc n) i old here now stop front here_is fewer failing =
    let inner : FailsAhead (replicate n is_name_byte) (front.more ++ now) stop = passes_over is_name_byte n front.more now stop front.passes (omega (arith, fewer, front.long)) failing in
    later is_letter (replicate n is_name_byte) front.first old (front.more ++ now) stop (sym here_is ∙ front.stands) inner front.letter

pub name_stops : (n : ℕ) (old here : List ℕ) (stop : Stop) → old ≡ n ∷ here → IsTrue (is_name_length n) → FailsAhead (name_tests n) here stop → FailsStage old stop
name_stops n old here stop old_is ok failing =
    behind_length n here old_is ok (failing.fails (is_any ∷ []))

pub name_passes : (name : List ℕ) → IsTrue (is_word name) → Passes IsAny (name_tests (length name)) name
name_passes [] word = absurd (false≢true word)
name_passes (b ∷ more) word =
    let both : IsTrue (is_letter b && list_all is_name_byte more) × IsTrue _ = and_parts (is_letter b && list_all is_name_byte more) _ word in
    let inner : IsTrue (is_letter b) × IsTrue (list_all is_name_byte more) = and_parts (is_letter b) (list_all is_name_byte more) both.0 in
    (inner.0, tt, all_passes is_name_byte more inner.1)

pub slot_stops : (n : ℕ) (old here next name : List ℕ) (stop : Stop) → old ≡ n ∷ here → IsTrue (is_name_length n) → IsName n here next name → Ends next stop → FailsStage old stop
slot_stops n old here next name stop old_is ok is ends =
    let ended : FailsTests (stop_at causes.Op) (is_any ∷ []) next stop = ends_tests (stop_at causes.Op) is_any [] next stop ends in
    let known : FailsTests (stop_at causes.Op) (name_tests (length name) ++ is_any ∷ []) (name ++ next) stop = fails_over (stop_at causes.Op) (name_tests (length name)) (is_any ∷ []) name next stop (name_passes name is.word) ended in
    let moved : FailsTests (stop_at causes.Op) (name_tests n ++ is_any ∷ []) (name ++ next) stop = subst (λ (k : ℕ). FailsTests (stop_at causes.Op) (name_tests k ++ is_any ∷ []) (name ++ next) stop) is.long known in
    behind_length n here old_is ok (subst (λ (xs : List ℕ). FailsTests (stop_at causes.Op) (name_tests n ++ is_any ∷ []) xs stop) (sym is.stands) moved)

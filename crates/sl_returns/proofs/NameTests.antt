-- Names that pass their tests.
use Rattle.std.proofs.Common.{◌≡◌, ◌<◌, ◌&&◌, ℕ, Bool, true, false, not, cond, List, [], length, Option, Some, None, nat_eq, nat_le, nat_lt, refl, sym, ap, ◌∙◌, arith, is_none, is_some, if◌then◌else◌}
use Rattle.std.specs.List.{list_any, list_all}
use Rattle.std.specs.Str.{bytes_eq}
use Rattle.std.proofs.lemmas.Bool.{and_parts, not-true, leb-true, le-ltb, ltb-false}
use Rattle.std.proofs.lemmas.List.Folds.{list_any_none}
use Rattle.std.proofs.lemmas.List.Sums.{fails_before_first}
use Rattle.std.proofs.lemmas.Option.{none-some, same_Some}
use Rattle.sl_base_quotients.specs.declared.spelling.TheConstants.{MAX_NAME_BYTES}
use Rattle.sl_base_quotients.specs.Names.{is_name, is_name_byte, name_fault, spelling_fault}
use Rattle.sl_base_quotients.proofs.NameLists.{is_free}
use Rattle.sl_returns.specs.declared.fault.FaultKind.TheVariants as fault
use Rattle.sl_returns.specs.Cells.{is_blank, number_in, place_in, place_or_none}
use Rattle.sl_returns.specs.Faults.{of_cell}
use Rattle.sl_returns.specs.Tests.{Pass, one_test, name_tests, new_tests, known_tests, known_or_none_tests}

-- a well spelled name has no fault of spelling
spelled : (name : List ℕ) → is_name name ≡ true → spelling_fault name ≡ None
spelled name h =
    let (sized, bytes) = and_parts (not (nat_eq (length name) 0) && nat_le (length name) MAX_NAME_BYTES) (list_all is_name_byte name) h in
    let (some, few) = and_parts (not (nat_eq (length name) 0)) (nat_le (length name) MAX_NAME_BYTES) sized in
    let there : nat_eq (length name) 0 ≡ false = not-true _ some in
    let short : nat_lt MAX_NAME_BYTES (length name) ≡ false = le-ltb MAX_NAME_BYTES (length name) (leb-true (length name) MAX_NAME_BYTES few) in
    rw (there, short, bytes) refl

-- a place that was found, and what it means that none was
picked : (b : Bool) (place n : ℕ) → cond b (Some place) None ≡ Some n → n ≡ place
picked true place n h = sym (same_Some place n h)
picked false place n h = absurd (none-some n h)

pub found_place : (names : List (List ℕ)) (name : List ℕ) (n : ℕ) → number_in names name ≡ Some n → n ≡ place_in names name
found_place names name n h = picked (nat_lt (place_in names name) (length names)) (place_in names name) n h

unpicked : (b : Bool) (place : ℕ) → cond b (Some place) None ≡ None → b ≡ false
unpicked true place h = absurd (none-some place (sym h))
unpicked false place h = refl

pub not_found : (names : List (List ℕ)) (name : List ℕ) → number_in names name ≡ None → list_any (bytes_eq name) names ≡ false
not_found names name h =
    let past = ltb-false (place_in names name) (length names) (unpicked (nat_lt (place_in names name) (length names)) (place_in names name) h) in
    list_any_none (bytes_eq name) names (λ k d l. fails_before_first (bytes_eq name) names k d (omega arith))

-- what a name that is to be new passes
pub record IsNew (name : List ℕ) (found : Option ℕ) : Type 0 where
  pub spelled : is_name name ≡ true
  pub new : found ≡ None

pub is_new : (column : ℕ) (name : List ℕ) (found : Option ℕ) → Pass (new_tests found column name) → IsNew name found
unfolding new_tests name_tests one_test
is_new column name found h = go (is_name name) refl found h.none
  where
    go : (b : Bool) → is_name name ≡ b → (f : Option ℕ) → cond b (cond (is_none f) None (Some (of_cell fault.Twice column))) (Some (of_cell fault.Name column)) ≡ None → IsNew name f
    go true e None h = record { spelled = e; new = refl }
    go true e (Some n) h = absurd (none-some (of_cell fault.Twice column) (sym h))
    go false e f h = absurd (none-some (of_cell fault.Name column) (sym h))

-- a new name may join a list of names that has room
pub may_join : (column : ℕ) (names : List (List ℕ)) (limit : ℕ) (name : List ℕ) → Pass (new_tests (number_in names name) column name) → length names < limit
    → name_fault (record { limit = limit; names = names }) name ≡ None
may_join column names limit name h free =
    let is = is_new _ name (number_in names name) h in
    is_free (record { limit = limit; names = names }) name (spelled name is.spelled) (not_found names name is.new) free

-- a name that is to be known, and is, was found
pub is_known : (column : ℕ) (name : List ℕ) (found : Option ℕ) → Pass (known_tests found column name) → (n : ℕ) × (found ≡ Some n)
unfolding known_tests name_tests one_test
is_known column name found h = go (is_name name) found h.none
  where
    go : (b : Bool) (f : Option ℕ) → cond b (cond (is_some f) None (Some (of_cell fault.Unknown column))) (Some (of_cell fault.Name column)) ≡ None → (n : ℕ) × (f ≡ Some n)
    go true None h = absurd (none-some (of_cell fault.Unknown column) (sym h))
    go true (Some n) h = (n, refl)
    go false f h = absurd (none-some (of_cell fault.Name column) (sym h))

-- a name that may be empty: nothing where it is, else its place
pub found_or_none : (column : ℕ) (names : List (List ℕ)) (name : List ℕ) → Pass (known_or_none_tests (number_in names name) column name) → (if is_blank name then None else number_in names name) ≡ place_or_none names name
unfolding known_or_none_tests
found_or_none column names name h = go (is_blank name) h
  where
    go : (b : Bool) → Pass (if b then [] else known_tests (number_in names name) column name) → (if b then None else number_in names name) ≡ (if b then None else Some (place_in names name))
    go true h = refl
    go false h =
        let (n, found) = is_known _ name (number_in names name) h in
        found ∙ ap Some (found_place names name n found)

-- What the cells of a record hold.
use Rattle.std.proofs.Common.{◌≡◌, ◌≤◌, ◌<◌, ◌+◌, ◌-◌, ◌*◌, ◌^◌, ℕ, zero, suc, List, [], ◌∷◌, length, take, get_or, Option, Some, None, true, nat_le, lit<, refl, sym, ◌∙◌, arith}
use Rattle.std.proofs.Math.Nat.{pow-le-pow_right}
use Rattle.std.proofs.lemmas.Bool.{and_parts, leb-true}
use Rattle.std.proofs.lemmas.Int.Digits.{digits_value-lt, digits_value_more}
use Rattle.std.proofs.lemmas.List.{length-take-le}
use Rattle.std.proofs.lemmas.List.Folds.{list_all_more}
use Rattle.std.proofs.lemmas.Option.{same_Some, none-some}
use Rattle.std.proofs.lemmas.Str.{digit_value_digit}
use Rattle.std.specs.Char.{digit_value, is_ascii_digit}
use Rattle.std.specs.Int.{IsInRange}
use Rattle.std.specs.List.{list_all}
use Rattle.std.specs.Str.Parse.{AllDigits, digits_value}
use Rattle.csv.specs.Records.{field_at}
use Rattle.sl_returns.specs.declared.cells.TheConstants.{MAX_DIGITS}

-- a field that is there is the cell, and where there is none the cell is empty
pub cell_there : (fields : List (List ℕ)) (i : ℕ) (f : List ℕ) → Some f ≡ field_at fields i → f ≡ get_or fields i []
unfolding field_at
cell_there [] i f h = absurd (none-some f (sym h))
cell_there (g ∷ gs) zero f h = same_Some f g h
cell_there (g ∷ gs) (suc i) f h = cell_there gs i f h

pub cell_absent : (fields : List (List ℕ)) (i : ℕ) → ◌≡◌ {A = Option (List ℕ)} None (field_at fields i) → [] ≡ get_or fields i []
unfolding field_at
cell_absent [] i h = refl
cell_absent (g ∷ gs) zero h = absurd (none-some g h)
cell_absent (g ∷ gs) (suc i) h = cell_absent gs i h

-- a digit
in_range : (c : ℕ) → is_ascii_digit c ≡ true → IsInRange 48 57 c
in_range c h =
    let (low, high) = and_parts (nat_le 48 c) (nat_le c 57) h in
    (leb-true 48 c low, leb-true c 57 high)

all_digits : (ds : List ℕ) → list_all is_ascii_digit ds ≡ true → AllDigits 10 ds
all_digits [] h = tt
all_digits (c ∷ cs) h =
    let (first, rest) = and_parts (is_ascii_digit c) (list_all is_ascii_digit cs) h in
    let range = in_range c first in
    let value = digit_value_digit c range in
    let here : digit_value c < 10 = omega (arith, range.0, range.1, value) in
    (here, all_digits cs rest)

-- reading digits that are all digits, and one more: it adds its value, and the number stays small
pub record Reads (ds : List ℕ) (i : ℕ) : Type 0 where
  pub digit : 48 ≤ get_or ds i 0
  pub digits : list_all is_ascii_digit (take (i + 1) ds) ≡ true
  pub next : digits_value 10 (take (i + 1) ds) ≡ digits_value 10 (take i ds) * 10 + (get_or ds i 0 - 48)
  pub small : digits_value 10 (take (i + 1) ds) < 10 ^ MAX_DIGITS

pub reads : (ds : List ℕ) (i : ℕ) → length ds ≤ MAX_DIGITS → list_all is_ascii_digit (take i ds) ≡ true → is_ascii_digit (get_or ds i 0) ≡ true → i < length ds → Reads ds i
reads ds i short before here l =
    let at = in_range (get_or ds i 0) here in
    let value = digit_value_digit (get_or ds i 0) at in
    let digits : list_all is_ascii_digit (take (i + 1) ds) ≡ true = list_all_more is_ascii_digit ds i 0 l ∙ rw (before, here) refl in
    let taken = length-take-le (i + 1) ds (omega arith) in
    let below = digits_value-lt 10 (take (i + 1) ds) (all_digits (take (i + 1) ds) digits) in
    record {
      digit = at.0;
      digits = digits;
      next = omega (arith, digits_value_more 10 ds i l, value);
      small =
          let few : length (take (i + 1) ds) ≤ MAX_DIGITS = omega arith in
          omega (arith, below, pow-le-pow_right {n = 10} (lit< tt) few);
    }

-- Records that are pairs of names, the first that is none, and a reader of them.
use Rattle.std.proofs.Common.{◌≡◌, ◌∙◌, ℕ, ◌+◌, ◌<◌, ◌&&◌, ◌++◌, ◌∷◌, [], Bool, List, None, Option, Some, ap, arith, cond, false, length, not, option_map, refl, suc, sym, true, true≢false}
use Rattle.std.specs.List.{list_all, position, position_or_len}
use Rattle.std.specs.Prelude.{nat_lt}
use Rattle.std.specs.Str.{is_utf8}
use Rattle.std.proofs.lemmas.Bool.{le-ltb, lt-ltb}
use Rattle.std.proofs.lemmas.List.Folds.{list_all-append}
use Rattle.std.proofs.lemmas.List.{append-nil, length-append}
use Rattle.csv.specs.Records.{field_at}
use Rattle.csv.specs.declared.reader.Reader.{Reader}
use Rattle.sl_returns.specs.Cells.{Record}
use Rattle.sl_returns.specs.Returns.{records_in}
use Rattle.sl_returns.proofs.Reading.{HasGiven}
use Rattle.sl_report_tables.specs.Names.{is_pair, is_text, wrong_record}

-- a record of two cells is a pair where each is text
pub two_cells : (r : Record) → length r ≡ 2 → is_pair r ≡ (is_text (field_at r 0) && is_text (field_at r 1))
unfolding field_at
two_cells [] two = absurd (omega (arith, two))
two_cells (a ∷ []) two = absurd (omega (arith, two))
two_cells (a ∷ b ∷ []) two = either (is_utf8 a) (is_utf8 b)
  where
    either : (x y : Bool) → (x && (y && true)) ≡ (x && y)
    either true true = refl
    either true false = refl
    either false y = refl
two_cells (a ∷ b ∷ c ∷ more) two = absurd (omega (arith, two))

-- the pairs in front are passed over
passed : (rows more : List Record) → list_all is_pair rows ≡ true
    → position_or_len (λ r. not (is_pair r)) (rows ++ more) ≡ length rows + position_or_len (λ r. not (is_pair r)) more
passed [] more all = omega arith
passed (r ∷ rows) more all = go (is_pair r) (passed rows more) all
  where
    front : List Record → ℕ
    front rs = position_or_len (λ x. not (is_pair x)) rs

    go : (b : Bool) → (list_all is_pair rows ≡ true → front (rows ++ more) ≡ length rows + front more) → (b && list_all is_pair rows) ≡ true
        → cond (not (not b)) (1 + front (rows ++ more)) 0 ≡ suc (length rows) + front more
    go true rest pairs = let r = rest pairs in omega (arith, r)
    go false rest pairs = absurd (true≢false (sym pairs))

-- the first record that is no pair
pub first_wrong : (text : List ℕ) (rows : List Record) (r : Record) (more : List Record) → records_in text ≡ rows ++ r ∷ more → list_all is_pair rows ≡ true
    → is_pair r ≡ false → wrong_record text ≡ Some (length rows + 1)
first_wrong text rows r more are all isnt =
    let wrong : Record → Bool = λ x. not (is_pair x) in
    let front : position_or_len wrong (rows ++ r ∷ more) ≡ length rows =
    passed rows (r ∷ more) all ∙ ap (λ b. length rows + cond (not (not b)) (1 + position_or_len wrong more) 0) isnt ∙ omega arith in
    let within : length rows < length (rows ++ r ∷ more) = let long = length-append rows (r ∷ more) in omega (arith, long) in
    ap (λ rs. option_map suc (position wrong rs)) are
    ∙ ap (λ n. option_map suc (cond (nat_lt n (length (rows ++ r ∷ more))) (Some n) None)) front
    ∙ ap (λ b. option_map suc (cond b (Some (length rows)) None)) (lt-ltb (length rows) (length (rows ++ r ∷ more)) within)
    ∙ ap Some (omega arith)

-- of pairs alone none is wrong
pub none_wrong : (text : List ℕ) (rows : List Record) → records_in text ≡ rows → list_all is_pair rows ≡ true → wrong_record text ≡ None
none_wrong text rows are all =
    let wrong : Record → Bool = λ x. not (is_pair x) in
    let front : position_or_len wrong rows ≡ length rows =
    ap (position_or_len wrong) (sym (append-nil rows)) ∙ passed rows [] all ∙ omega arith in
    ap (λ rs. option_map suc (position wrong rs)) are
    ∙ ap (λ n. option_map suc (cond (nat_lt n (length rows)) (Some n) None)) front
    ∙ ap (λ b. option_map suc (cond b (Some (length rows)) None)) (le-ltb (length rows) (length rows) (omega arith))

-- the records that a reader has given are pairs of names, and the next one has this number
pub record IsReading {R : Type 0} (rem : R → Option (List ℕ)) (reader : Reader R) (row : ℕ) (text : List ℕ) : Type 0 where
  pub rows : List Record
  pub given : HasGiven rem reader rows text
  pub pairs : list_all is_pair rows ≡ true
  pub number : row ≡ length rows + 1

-- with a pair more
pub all_pairs : (rows : List Record) (r : Record) → list_all is_pair rows ≡ true → is_pair r ≡ true → list_all is_pair (rows ++ r ∷ []) ≡ true
all_pairs rows r all is = list_all-append is_pair rows (r ∷ []) ∙ ap (λ b. b && (is_pair r && true)) all ∙ ap (λ b. b && true) is

-- What is known of the stages before an expression: their names are found, and what it comes to has its type.
use Rattle.std.proofs.Common.{Result, Ok, Err, IfOk, ◌≡◌, ℕ, zero, suc, ◌<◌, ◌≤◌, ◌^◌, ◌*◌, ◌||◌, true, false, cond, List, [], ◌∷◌, Some, length, map, get_or, arith, refl, sym, ap, ◌∙◌}
use Rattle.std.specs.Prelude.{find}
use Rattle.std.specs.List.{AllZip, list_any, All}
use Rattle.std.specs.Str.{bytes_eq}
use Rattle.sl_law_meaning.specs.declared.count.Column.{Column}
use Rattle.sl_report_parties.specs.Sums.{capped}
use Rattle.sl_report_results.specs.Values.{IsValue, IsColumnOf, IsWellFormed, named_columns}
use Rattle.sl_law_meaning.specs.book.Trees.{BookTree, ExprTree}
use Rattle.sl_law_meaning.specs.book.Typing.{Column as TypedColumn, is_named, is_typed, type_of, type_or_one}
use Rattle.sl_law_meaning.specs.declared.book.ColumnType.{ColumnType}
use Rattle.sl_law_meaning.specs.declared.book.Stage.{Stage}
use Rattle.sl_law_meaning.specs.laws.ColumnLaws.{FitsType, IsTypedAs, lists_in, most_of, most_of_list}
use Rattle.sl_law_meaning.specs.meaning.Columns.{NamedColumn}
use Rattle.sl_law_meaning.specs.meaning.Records.{no_records}
use Rattle.sl_law_meaning.specs.returns.Election.{Election, IsElection}
use Rattle.sl_law_meaning.proofs.meaning.TypedMeaning.{typed_expressions}
use Rattle.sl_base_terms.specs.declared.shape.Shape.TheVariants as shape
use Rattle.sl_base_terms.specs.declared.shape.Shape.{Shape}
use Rattle.sl_law_meaning.specs.declared.book.Unit.{Unit as Units}
use Rattle.sl_law_meaning.specs.declared.book.Unit.TheVariants as unit

-- ---- names

module _ (e : Election) (n : List ℕ) where
  -- a name that no stage before has is not known
  pub not_known : (types : List TypedColumn) (stages : List Stage) (earlier : List Column) → AllZip (IsTypedAs e) types (named_columns stages earlier) →
      ((k : ℕ) (d : Stage) → k < length stages → k < length earlier → bytes_eq n (get_or stages k d).name ≡ false) → list_any (is_named n) types ≡ false
  not_known [] stages earlier all none = refl
  not_known (t ∷ ts) [] earlier all none = absurd all
  not_known (t ∷ ts) (s ∷ ss) [] all none = absurd all
  not_known (t ∷ ts) (s ∷ ss) (c ∷ cs) all none =
      ap (λ b. b || list_any (is_named n) ts) (ap (bytes_eq n) all.0.name ∙ none 0 s (omega arith) (omega arith))
      ∙ not_known ts ss cs all.1 (λ k d a b. none (suc k) d (omega (arith, a)) (omega (arith, b)))

  -- the column of the first stage of that name has the shape of its type
  pub shape_of : (types : List TypedColumn) (stages : List Stage) (earlier : List Column) → AllZip (IsTypedAs e) types (named_columns stages earlier) →
      map (λ c. c.shape) earlier ≡ map (λ t. t.type.shape) types → (k : ℕ) (o : Column) → k < length stages → k < length earlier →
      ((d : Stage) → (bytes_eq n (get_or stages k d).name ≡ true) × ((j : ℕ) → j < k → bytes_eq n (get_or stages j d).name ≡ false)) →
      (get_or earlier k o).shape ≡ (type_or_one (find (is_named n) types)).shape
  shape_of types [] earlier all same k o in_stages in_earlier first = absurd (omega (arith, in_stages))
  shape_of types (s ∷ ss) [] all same k o in_stages in_earlier first = absurd (omega (arith, in_earlier))
  shape_of [] (s ∷ ss) (c ∷ cs) all same k o in_stages in_earlier first = absurd all
  shape_of (t ∷ ts) (s ∷ ss) (c ∷ cs) all same zero o in_stages in_earlier first =
      let head : c.shape ≡ t.type.shape = cc in
      head ∙ sym (ap (λ b. (type_or_one (cond b (Some t) (find (is_named n) ts))).shape) (ap (bytes_eq n) all.0.name ∙ (first s).0))
  shape_of (t ∷ ts) (s ∷ ss) (c ∷ cs) all same (suc k) o in_stages in_earlier first =
      let tail : map (λ c. c.shape) cs ≡ map (λ t. t.type.shape) ts = cc in
      shape_of ts ss cs all.1 tail k o (omega (arith, in_stages)) (omega (arith, in_earlier)) (λ d. ((first d).0, λ j less. (first d).1 (suc j) (omega (arith, less))))
      ∙ sym (ap (λ b. (type_or_one (cond b (Some t) (find (is_named n) ts))).shape) (ap (bytes_eq n) all.0.name ∙ (first s).1 0 (omega arith)))

-- ---- numbers

-- no number of a column is past 64 bits
pub few : (t : ColumnType) → most_of t < 2 ^ 64
few t = at t.shape t.unit where
  at : (s : Shape) (u : Units) → lists_in s * most_of_list u < 2 ^ 64
  at shape.One unit.Seats = omega arith
  at shape.One unit.Votes = omega arith
  at shape.Party unit.Seats = omega arith
  at shape.Party unit.Votes = omega arith
  at shape.Land unit.Seats = omega arith
  at shape.Land unit.Votes = omega arith
  at shape.List unit.Seats = omega arith
  at shape.List unit.Votes = omega arith

pub not_capped : (limit : ℕ) → limit < 2 ^ 64 → (xs : List ℕ) → All (λ n. n ≤ limit) xs → map capped xs ≡ xs
not_capped limit below [] all = refl
not_capped limit below (x ∷ xs) all =
    let head : x ≤ limit = all 0 x (omega arith) in
    let here : capped x ≡ x = omega (arith, head, below) in
    ap (λ y. y ∷ map capped xs) here ∙ ap (λ ys. x ∷ ys) (not_capped limit below xs (λ k d less. all (suc k) d (omega (arith, less))))

-- ---- what an expression comes to has its type

module _ (b : BookTree) (e : Election) (typed : is_typed b ≡ true) (is : IsElection e) (types : List TypedColumn) (columns : List NamedColumn)
    (known : AllZip (IsTypedAs e) types columns) where
  pub fits : (x : ExprTree) → IsWellFormed types x → (values : List ℕ) → IsValue b e columns x values → FitsType e (type_of types x) values
  fits x formed values means =
      typed_expressions b e (record { stage = 0; name = []; types = types; columns = columns }) x values no_records typed is known formed
      (means (record { stage = 0; name = []; types = types; columns = columns }) refl)

  pub column_of : (x : ExprTree) (c : Column) → IsWellFormed types x → IsValue b e columns x c.cells.items → c.shape ≡ (type_of types x).shape →
      IsColumnOf b e types columns x c
  column_of x c formed means same = record { means = means; fits = fits x formed c.cells.items means; of_shape = same }

-- ---- results

pub ok_weaker : {X E : Type 0} {P Q : X → Type 0} (r : Result X E) → ((x : X) → P x → Q x) → IfOk r P → IfOk r Q
ok_weaker (Ok x) so h = so x h
ok_weaker (Err f) so h = h

pub ok_both : {X E : Type 0} {P Q R : X → Type 0} (r : Result X E) → ((x : X) → P x → Q x → R x) → IfOk r P → IfOk r Q → IfOk r R
ok_both (Ok x) so h k = so x h k
ok_both (Err f) so h k = h

-- The tests of a node hold exactly where its type fits the types of its arguments.
use Rattle.std.proofs.Common.{◌≡◌, ◌≢◌, ℕ, ◌≤◌, None, true, not, ◌&&◌, refl, ◌∙◌, sym, ap, subst}
use Rattle.std.specs.Cmp.{first_so, second_so}
use Rattle.std.proofs.lemmas.Bool.{and_from, leb-true, le-leb}
use Rattle.sl_base_quotients.specs.declared.method.Divisor.{Divisor as DivisorMethod}
use Rattle.sl_base_quotients.specs.declared.method.Method.{Method}
use Rattle.sl_base_quotients.specs.declared.method.Method.TheVariants.{Divisor, Hamilton}
use Rattle.sl_base_quotients.specs.declared.limits.TheConstants.{MAX_SEATS}
use Rattle.sl_base_terms.specs.declared.shape.Shape.{Shape}
use Rattle.sl_base_terms.specs.declared.shape.Shape.TheVariants as shape
use Rattle.sl_law_meaning.specs.declared.book.Unit.TheVariants as unit
use Rattle.sl_law_meaning.specs.declared.book.Axis.{Axis}
use Rattle.sl_law_meaning.specs.declared.book.Majority.{Majority}
use Rattle.sl_law_meaning.specs.declared.book.Majority.TheVariants as majority
use Rattle.sl_law_meaning.specs.declared.book.Number.{Number}
use Rattle.sl_law_meaning.specs.declared.book.ColumnType.{ColumnType}
use Rattle.sl_base_terms.specs.Tests.{first_failing}
use Rattle.sl_law_meaning.specs.book.Typing.{column, shape_over, can_split, is_prefer, is_hamilton, is_seat_number}
use Rattle.sl_base_terms.specs.Shapes.{same_shape}
use Rattle.sl_law_meaning.specs.book.HasType.{Sums, Splits, IsSplitType, IsSplitFromType}
use Rattle.sl_law_meaning.specs.book.Typing.{sum_tests, pair_tests, split_tests, split_from_tests, share_from_tests, grow_tests}
use Rattle.sl_law_meaning.proofs.Units.{same_unit_is, same_unit_self}
use Rattle.sl_base_terms.proofs.Shapes.{same_shape_is, same_shape_self}
use Rattle.sl_law_meaning.proofs.typing.TestLists.{all_hold, hold_all, can_sum_is, sums_to, can_split_is, splits_can, preferred_is, preferred_can, not_preferred_is, not_preferred_can}

-- two columns of one shape and one unit are of one type
pub column_is : (a b : ColumnType) → a.shape ≡ b.shape → a.unit ≡ b.unit → a ≡ b
column_is a b p q = λ i. record { shape = p i; unit = q i }

-- ---- sums

pub sum_typed : (at : ℕ) (over : Axis) (of t : ColumnType) (from : Shape) → of ≡ column from t.unit → Sums from over t.shape
    → (first_failing (sum_tests at of over) ≡ None) × (column (shape_over over) of.unit ≡ t)
sum_typed at over of t from is sums =
    let s = sums_to from over t.shape sums in
    rw is (all_hold (sum_tests at (column from t.unit) over) (s.0, tt), column_is (column (shape_over over) t.unit) t s.1 refl)

pub sum_has : (at : ℕ) (over : Axis) (of t : ColumnType) → first_failing (sum_tests at of over) ≡ None → column (shape_over over) of.unit ≡ t
    → Sums of.shape over t.shape × (of ≡ column of.shape t.unit)
sum_has at over of t pass is =
    let P : Shape → Type 0 = λ x. Sums of.shape over x in
    (subst P (ap (λ c. c.shape) is) (can_sum_is of.shape over (hold_all (sum_tests at of over) pass).0), column_is of (column of.shape t.unit) refl (ap (λ c. c.unit) is))

-- ---- pairs

pub pair_typed : (at : ℕ) (l r t : ColumnType) → l ≡ t → r ≡ t → first_failing (pair_tests at l r) ≡ None
pair_typed at l r t p q = rw (p, q) (all_hold (pair_tests at t t) (same_shape_self t.shape, (same_unit_self t.unit, tt)))

pub pair_has : (at : ℕ) (l r : ColumnType) → first_failing (pair_tests at l r) ≡ None → r ≡ l
pair_has at l r pass =
    let h = hold_all (pair_tests at l r) pass in
    column_is r l (sym (same_shape_is l.shape r.shape h.0)) (sym (same_unit_is l.unit r.unit h.1.0))

-- ---- splits

pub split_typed : (at : ℕ) (s v t : ColumnType) (method : Method) (m : Majority) → IsSplitType (λ x. s ≡ x) (λ x. v ≡ x) method m t
    → (first_failing (split_tests at s v method m) ≡ None) × (column v.shape unit.Seats ≡ t)
split_typed at s v t method m h =
    rw (h.seats, h.votes) (
      all_hold (split_tests at (column h.from unit.Seats) (column t.shape unit.Votes) method m) (preferred_can m method h.preferred, (splits_can h.from t.shape h.splits, (refl, tt))),
      column_is (column t.shape unit.Seats) t refl (sym h.gives),
    )

pub split_has : (at : ℕ) (s v t : ColumnType) (method : Method) (m : Majority) → first_failing (split_tests at s v method m) ≡ None → column v.shape unit.Seats ≡ t
    → IsSplitType (λ x. s ≡ x) (λ x. v ≡ x) method m t
split_has at s v t method m pass is =
    let h = hold_all (split_tests at s v method m) pass in
    rw (← is) (record {
      from = s.shape;
      splits = can_split_is s.shape v.shape h.1.0;
      seats = column_is s (column s.shape unit.Seats) refl (same_unit_is s.unit unit.Seats (first_so _ _ h.1.1.0));
      votes = column_is v (column v.shape unit.Votes) refl (same_unit_is v.unit unit.Votes (second_so _ _ h.1.1.0));
      gives = refl;
      preferred = preferred_is m method h.0;
    })

-- ---- splits and growths with minima

pub share_typed : (at : ℕ) (s v f t : ColumnType) (from : Shape)
    → s ≡ column from unit.Seats → v ≡ column t.shape unit.Votes → f ≡ column t.shape unit.Seats → t.unit ≡ unit.Seats → Splits from t.shape
    → (first_failing (share_from_tests at s v f) ≡ None) × (column v.shape unit.Seats ≡ t)
share_typed at s v f t from ss vs fs u splits =
    rw (ss, vs, fs) (
      all_hold (share_from_tests at (column from unit.Seats) (column t.shape unit.Votes) (column t.shape unit.Seats))
          (rw (splits_can from t.shape splits, same_shape_self t.shape) refl, (refl, tt)),
      column_is (column t.shape unit.Seats) t refl (sym u),
    )

pub share_has : (at : ℕ) (s v f : ColumnType) → first_failing (share_from_tests at s v f) ≡ None
    → Splits s.shape v.shape × (s ≡ column s.shape unit.Seats) × (v ≡ column v.shape unit.Votes) × (f ≡ column v.shape unit.Seats)
share_has at s v f pass =
    let h = hold_all (share_from_tests at s v f) pass in
    let units = first_so _ _ h.1.0 in (
      can_split_is s.shape v.shape (first_so _ _ h.0),
      column_is s (column s.shape unit.Seats) refl (same_unit_is s.unit unit.Seats (first_so _ _ units)),
      column_is v (column v.shape unit.Votes) refl (same_unit_is v.unit unit.Votes (second_so _ _ units)),
      column_is f (column v.shape unit.Seats) (same_shape_is f.shape v.shape (second_so _ _ h.0)) (same_unit_is f.unit unit.Seats (second_so _ _ h.1.0)),
    )

options_typed : (method : Method) (m : Majority) (d : DivisorMethod) → method ≡ Divisor d → m ≢ majority.Prefer → (not (is_prefer m) && not (is_hamilton method)) ≡ true
options_typed method m d by other = rw (by, not_preferred_can m other) refl

divisor_of : (method : Method) → not (is_hamilton method) ≡ true → (d : DivisorMethod) × (method ≡ Divisor d)
divisor_of (Divisor d) h = (d, refl)
divisor_of Hamilton h = cc

-- a split or a growth of these types, from that shape
abbrev pub Shares : (s v f t : ColumnType) (from : Shape) (method : Method) (m : Majority) → Type 0
Shares s v f t from method m = IsSplitFromType (λ x. s ≡ x) (λ x. v ≡ x) (λ x. f ≡ x) from method m t

pub split_from_typed : (at : ℕ) (s v f t : ColumnType) (from : Shape) (method : Method) (m : Majority) → Shares s v f t from method m
    → (first_failing (split_from_tests at s v f method m) ≡ None) × (column v.shape unit.Seats ≡ t)
split_from_typed at s v f t from method m h =
    let shared = share_typed at s v f t from h.seats h.votes h.minima h.gives h.splits in
    let option = options_typed method m h.divisor h.by h.not_preferred in
    (rw option shared.0, shared.1)

shares_has : (at : ℕ) (s v f t : ColumnType) (from : Shape) (method : Method) (m : Majority)
    → (not (is_prefer m) && not (is_hamilton method)) ≡ true → first_failing (share_from_tests at s v f) ≡ None → s.shape ≡ from → column v.shape unit.Seats ≡ t
    → Shares s v f t from method m
shares_has at s v f t from method m option pass fs is =
    let h = share_has at s v f pass in
    let d = divisor_of method (second_so _ _ option) in
    let P : Shape → Type 0 = λ x. Splits x v.shape in
    rw (← is) (record {
      splits = subst P fs h.0;
      seats = h.1 ∙ ap (λ x. column x unit.Seats) fs;
      votes = h.2;
      minima = h.3;
      gives = refl;
      divisor = d.0;
      by = d.1;
      not_preferred = not_preferred_is m (first_so _ _ option);
    })

pub split_from_has : (at : ℕ) (s v f t : ColumnType) (method : Method) (m : Majority)
    → first_failing (split_from_tests at s v f method m) ≡ None → column v.shape unit.Seats ≡ t → Shares s v f t s.shape method m
split_from_has at s v f t method m pass is =
    let h = hold_all (split_from_tests at s v f method m) pass in
    shares_has at s v f t s.shape method m h.0 (all_hold (share_from_tests at s v f) h.1) refl is

pub grow_typed : (at : ℕ) (s v f t : ColumnType) (method : Method) (most : Number) (m : Majority) → Shares s v f t shape.One method m → 1 ≤ most.value → most.value ≤ MAX_SEATS
    → (first_failing (grow_tests at s v f method most m) ≡ None) × (column v.shape unit.Seats ≡ t)
grow_typed at s v f t method most m h low high =
    let shared = share_typed at s v f t shape.One h.seats h.votes h.minima h.gives h.splits in
    let option = options_typed method m h.divisor h.by h.not_preferred in
    let tests = hold_all (share_from_tests at s v f) shared.0 in
    let one : same_shape s.shape shape.One ≡ true = rw h.seats refl in
    let shapes : (same_shape s.shape shape.One && can_split s.shape v.shape && same_shape f.shape v.shape) ≡ true =
    and_from _ _ (and_from _ _ one (first_so _ _ tests.0)) (second_so _ _ tests.0) in
    let seats : is_seat_number most.value ≡ true = and_from _ _ (le-leb 1 most.value low) (le-leb most.value MAX_SEATS high) in
    (all_hold (grow_tests at s v f method most m) (option, (seats, (shapes, (tests.1.0, tt)))), shared.1)

pub grow_has : (at : ℕ) (s v f t : ColumnType) (method : Method) (most : Number) (m : Majority)
    → first_failing (grow_tests at s v f method most m) ≡ None → column v.shape unit.Seats ≡ t
    → Shares s v f t shape.One method m × (1 ≤ most.value) × (most.value ≤ MAX_SEATS)
grow_has at s v f t method most m pass is =
    let h = hold_all (grow_tests at s v f method most m) pass in
    let a = same_shape s.shape shape.One in
    let b = can_split s.shape v.shape in
    let d = same_shape f.shape v.shape in
    let first : (a && b) ≡ true = first_so (a && b) d h.1.1.0 in
    let shapes : (b && d) ≡ true = and_from b d (second_so a b first) (second_so (a && b) d h.1.1.0) in (
      shares_has at s v f t shape.One method m h.0 (all_hold (share_from_tests at s v f) (shapes, (h.1.1.1.0, tt))) (same_shape_is s.shape shape.One (first_so a b first)) is,
      leb-true 1 most.value (first_so _ _ h.1.0),
      leb-true most.value MAX_SEATS (second_so _ _ h.1.0),
    )

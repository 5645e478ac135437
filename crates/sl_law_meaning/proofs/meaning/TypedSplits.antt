-- The columns of splits and growths are of their types.
use Rattle.std.proofs.Common.{◌≡◌, ℕ, ◌≤◌, ◌&&◌, true, false, List, [], ◌∷◌, Option, Some, None, filter, nat_eq, sum, refl, sym, ap, subst, ◌∙◌, arith}
use Rattle.std.specs.Prelude.{zip, flat_map, find, filter_map, slice_get, option_map, unwrap_or, MatchOption, nat_lt}
use Rattle.std.specs.List.{AllByRecursion as Every}
use Rattle.std.proofs.lemmas.Bool.{cond-false, cond_both, and_parts, eqb-true, ltb-false, false_from_ne_true, false≢true, both_ways}
use Rattle.sl_base_quotients.specs.declared.method.Divisor.{Divisor}
use Rattle.sl_base_quotients.specs.declared.method.Method.{Method}
use Rattle.sl_base_quotients.specs.declared.method.Method.TheVariants as by
use Rattle.sl_base_quotients.specs.declared.limits.TheConstants.{MAX_SEATS}
use Rattle.sl_law_meaning.specs.declared.book.Majority.{Majority}
use Rattle.sl_base_terms.specs.declared.shape.Shape.{Shape}
use Rattle.sl_base_terms.specs.declared.shape.Shape.TheVariants as shape
use Rattle.sl_law_meaning.specs.declared.book.Unit.TheVariants as unit
use Rattle.sl_law_meaning.specs.declared.fault.FaultKind.{FaultKind}
use Rattle.sl_law_meaning.specs.declared.fault.FaultKind.TheVariants as fault
use Rattle.sl_law_meaning.specs.declared.fault.Item.{Item}
use Rattle.sl_law_meaning.specs.declared.fault.Item.TheVariants as item
use Rattle.sl_law_meaning.specs.declared.fault.LegalFault.{LegalFault}
use Rattle.sl_law_meaning.specs.returns.Election.{Election, has_list}
use Rattle.sl_law_meaning.specs.returns.Facts.{lands, parties}
use Rattle.sl_law_meaning.specs.book.Typing.{column}
use Rattle.sl_base_terms.specs.Shapes.{same_shape}
use Rattle.sl_law_meaning.specs.methods.LeastHouse.{Growth, GrownTo, EmptyField, AboveCap, IsGrowth}
use Rattle.sl_law_meaning.specs.methods.Ties.{Choice, Decided, Tied, IsChoice}
use Rattle.sl_law_meaning.specs.meaning.Scopes.{same_item, lists_in_land, lists_of_party, Group, scopes, told_of, pair_column}
use Rattle.sl_law_meaning.specs.meaning.Records.{Records}
use Rattle.sl_law_meaning.specs.meaning.Splits.{Award, Seats, Refused, awarded, is_refused, award_of, IsChosen, IsAllocation, refusal, IsSplitAward, IsHouseAward, IsGrowthAward}
use Rattle.sl_law_meaning.specs.meaning.Results.{Column, Fault, Stand, fault_at, fault_of, amount_of, first_over, AreJoined, IsShared}
use Rattle.sl_law_meaning.specs.laws.ColumnLaws.{FitsType}
use Rattle.sl_law_meaning.proofs.methods.SeatSums.{sum-cons}
use Rattle.sl_law_meaning.proofs.meaning.DistinctLists.{always, every_weaker, every_map, every_pieces, every_passes, every_zipped, every_second, every_both}
use Rattle.sl_law_meaning.proofs.meaning.Members.{zip_each}
use Rattle.sl_law_meaning.proofs.meaning.TypedColumns.{made_by_list, made_by_land, made_by_party}

-- ---- the seats of an award

chosen_sum : (X : List ℕ → Type 0) (lot : List ℕ) (entries : List Item) (m : Majority) (v : List ℕ) (seats n : ℕ) → ((s : List ℕ) → X s → sum s ≤ n) → (a : Award) → IsChosen X lot entries m v seats a → sum (awarded a) ≤ n
chosen_sum X lot entries m v seats n each a h = subst (λ a. sum (awarded a) ≤ n) (sym h.is) (of h.choice h.chosen) where
  of : (c : Choice) → IsChoice X lot c → sum (awarded (award_of entries m v seats c)) ≤ n
  of (Decided s) is = cond_both (is_refused m v seats s) (Refused fault.Majority) (Seats s) (λ a. sum (awarded a) ≤ n) (λ refused. omega arith) (λ stands. each s is.4)
  of (Tied k tied) is = omega arith

allocation_sum : (method : Method) (m : Majority) (v min : List ℕ) (seats : ℕ) (s : List ℕ) → IsAllocation method m v min seats s → sum s ≤ seats
allocation_sum (by.Divisor d) m v min seats s is = omega (arith, is.total)
allocation_sum by.Hamilton m v min seats s is = omega (arith, is.total)

pub split_sum : (method : Method) (m : Majority) (entries : List Item) (lot v min : List ℕ) (seats : ℕ) (a : Award) → IsSplitAward method m entries lot v min seats a → sum (awarded a) ≤ seats
split_sum method m entries lot v min seats a h = of (refusal v min seats) h where
  of : (o : Option FaultKind) → MatchOption o (IsChosen (IsAllocation method m v min seats) lot entries m v seats a) (λ kind. a ≡ Refused kind) → sum (awarded a) ≤ seats
  of (Some kind) is = subst (λ a. sum (awarded a) ≤ seats) (sym is) (omega arith)
  of None is = chosen_sum (IsAllocation method m v min seats) lot entries m v seats seats (allocation_sum method m v min seats) a is

pub growth_sum : (d : Divisor) (m : Majority) (entries : List Item) (lot v min : List ℕ) (seats limit : ℕ) (a : Award) → IsGrowthAward d m entries lot v min seats limit a → sum (awarded a) ≤ limit
growth_sum d m entries lot v min seats limit a h = of h.growth h.least h.comes where
  of : (g : Growth) → IsGrowth d v min seats limit g → IsHouseAward d m entries lot v min g a → sum (awarded a) ≤ limit
  of EmptyField least is = subst (λ a. sum (awarded a) ≤ limit) (sym is) (omega arith)
  of AboveCap least is = subst (λ a. sum (awarded a) ≤ limit) (sym is) (omega arith)
  of (GrownTo house) least is = chosen_sum _ lot entries m v house limit (λ s h. omega (arith, h.total, least.1.up_to)) a is

-- ---- what pairs tell

every_no_more : (m : ℕ) (s : List ℕ) → sum s ≤ m → Every (λ n. n ≤ m) s
every_no_more m [] h = tt
every_no_more m (n ∷ s) h = (omega (arith, h, sum-cons n s), every_no_more m s (omega (arith, h, sum-cons n s)))

told_most : (m : ℕ) (pairs : List (Item × ℕ)) (i : Item) → Every (λ p. p.1 ≤ m) pairs → told_of pairs i ≤ m
told_most m [] i all = omega arith
told_most m (p ∷ pairs) i all =
    cond_both (same_item i p.0) (Some p) (find (λ x. same_item i x.0) pairs) (λ o. unwrap_or (option_map (λ x. x.1) o) 0 ≤ m) (λ this. all.0) (λ other. told_most m pairs i all.1)

pub told_none : (pairs : List (Item × ℕ)) (i : Item) → Every (λ p. same_item i p.0 ≡ false) pairs → told_of pairs i ≡ 0
told_none [] i all = refl
told_none (p ∷ pairs) i all = ap (λ (o : Option (Item × ℕ)). unwrap_or (option_map (λ x. x.1) o) 0) (cond-false (same_item i p.0) (Some p) (find (λ x. same_item i x.0) pairs) all.0) ∙ told_none pairs i all.1

-- ---- entries of a List column are lists

module _ (e : Election) (land party : ℕ) (none : has_list e land party ≡ false) where
  no_such : (l p : ℕ) → has_list e l p ≡ true → same_item (item.List land party) (item.List l p) ≡ false
  no_such l p is =
      false_from_ne_true (nat_eq land l && nat_eq party p)
      (λ h. let parts = and_parts (nat_eq land l) (nat_eq party p) h in both_ways (has_list e land party) none (ap (λ k. has_list e k party) (eqb-true land l parts.0) ∙ ap (has_list e l) (eqb-true party p parts.1) ∙ is))

  in_land : (l : ℕ) → Every (λ i. same_item (item.List land party) i ≡ false) (lists_in_land e l)
  in_land l =
      every_map (λ i. same_item (item.List land party) i ≡ false) (λ p. item.List l p) (filter (has_list e l) (parties e))
      (every_weaker (λ p. Unit {0} × (has_list e l p ≡ true)) (λ p. same_item (item.List land party) (item.List l p) ≡ false) (λ p h. no_such l p h.1) (filter (has_list e l) (parties e))
      (every_passes (λ p. Unit {0}) (has_list e l) (parties e) (always (λ p. Unit {0}) (λ p. tt) (parties e))))

  of_party : (p : ℕ) → Every (λ i. same_item (item.List land party) i ≡ false) (lists_of_party e p)
  of_party p =
      every_map (λ i. same_item (item.List land party) i ≡ false) (λ l. item.List l p) (filter (λ l. has_list e l p) (lands e))
      (every_weaker (λ l. Unit {0} × (has_list e l p ≡ true)) (λ l. same_item (item.List land party) (item.List l p) ≡ false) (λ l h. no_such l p h.1) (filter (λ l. has_list e l p) (lands e))
      (every_passes (λ l. Unit {0}) (λ l. has_list e l p) (lands e) (always (λ l. Unit {0}) (λ l. tt) (lands e))))

  no_entry : (over : Shape) → Every (λ g. Every (λ i. same_item (item.List land party) i ≡ false) g.entries) (scopes e over shape.List)
  no_entry shape.One = (every_pieces (λ i. same_item (item.List land party) i ≡ false) (lists_in_land e) (lands e) (always (λ l. Every (λ i. same_item (item.List land party) i ≡ false) (lists_in_land e l)) in_land (lands e)), tt)
  no_entry shape.Party = every_map (λ g. Every (λ i. same_item (item.List land party) i ≡ false) g.entries) _ (parties e) (always (λ p. Every (λ i. same_item (item.List land party) i ≡ false) (lists_of_party e p)) of_party (parties e))
  no_entry shape.Land = every_map (λ g. Every (λ i. same_item (item.List land party) i ≡ false) g.entries) _ (lands e) (always (λ l. Every (λ i. same_item (item.List land party) i ≡ false) (lists_in_land e l)) in_land (lands e))
  no_entry shape.List = tt

-- ---- the column of a split or a growth

each_under : (e : Election) (at : Stand) (amounts : List ℕ) (groups : List Group) → first_over e at amounts groups ≡ None → Every (λ g. amount_of e at amounts g ≤ MAX_SEATS) groups
each_under e at amounts [] none = tt
each_under e at amounts (g ∷ groups) none =
    cond_both (nat_lt MAX_SEATS (amount_of e at amounts g)) (Some g) (first_over e at amounts groups)
    (λ o. o ≡ None → (amount_of e at amounts g ≤ MAX_SEATS) × Every (λ g. amount_of e at amounts g ≤ MAX_SEATS) groups)
    (λ over none. cc) (λ under none. (ltb-false MAX_SEATS (amount_of e at amounts g) under, each_under e at amounts groups none)) none

column_values : (f : Option LegalFault) (values c : List ℕ) (records r : Records) → Column values records ≡ unwrap_or (option_map (λ f. Fault f) f) (Column c r) → values ≡ c
column_values None values c records r is = cc
column_values (Some f) values c records r is = cc

module _ (e : Election) (over s : Shape) (awards : List Award) (all : Every (λ x. sum (awarded x.1) ≤ MAX_SEATS) (zip (scopes e over s) awards)) where
  pairs : List (Item × ℕ)
  pairs = flat_map (λ x. zip x.0.entries (awarded x.1)) (zip (scopes e over s) awards)

  few_seats : Every (λ p. p.1 ≤ MAX_SEATS) pairs
  unfolding pairs
  few_seats =
      every_pieces (λ p. p.1 ≤ MAX_SEATS) (λ x. zip x.0.entries (awarded x.1)) (zip (scopes e over s) awards)
      (every_weaker (λ x. sum (awarded x.1) ≤ MAX_SEATS) (λ x. Every (λ p. p.1 ≤ MAX_SEATS) (zip x.0.entries (awarded x.1)))
      (λ x h. every_second (λ n. n ≤ MAX_SEATS) x.0.entries (awarded x.1) (every_no_more MAX_SEATS (awarded x.1) h)) (zip (scopes e over s) awards) all)

pub no_pair : (e : Election) (over : Shape) (awards : List Award) (land party : ℕ) → has_list e land party ≡ false →
    Every (λ p. same_item (item.List land party) p.0 ≡ false) (flat_map (λ x. zip x.0.entries (awarded x.1)) (zip (scopes e over shape.List) awards))
no_pair e over awards land party none =
    every_pieces (λ p. same_item (item.List land party) p.0 ≡ false) (λ x. zip x.0.entries (awarded x.1)) (zip (scopes e over shape.List) awards)
    (every_weaker (λ x. Every (λ i. same_item (item.List land party) i ≡ false) x.0.entries) (λ x. Every (λ p. same_item (item.List land party) p.0 ≡ false) (zip x.0.entries (awarded x.1)))
    (λ x h. every_zipped (λ i. same_item (item.List land party) i ≡ false) x.0.entries (awarded x.1) h) (zip (scopes e over shape.List) awards)
    (every_zipped (λ g. Every (λ i. same_item (item.List land party) i ≡ false) g.entries) (scopes e over shape.List) awards (no_entry e land party none over)))

awarded_column : (e : Election) (over s : Shape) → same_shape s shape.One ≡ false → (awards : List Award) → Every (λ x. sum (awarded x.1) ≤ MAX_SEATS) (zip (scopes e over s) awards) →
    FitsType e (column s unit.Seats) (pair_column e s (flat_map (λ x. zip x.0.entries (awarded x.1)) (zip (scopes e over s) awards)))
unfolding pairs
awarded_column e over shape.One ok awards all = absurd (false≢true (sym ok))
awarded_column e over shape.Party ok awards all =
    made_by_party e unit.Seats _ (λ party. let few = told_most MAX_SEATS (pairs e over shape.Party awards all) (item.Party party) (few_seats e over shape.Party awards all) in omega (arith, few))
awarded_column e over shape.Land ok awards all =
    made_by_land e unit.Seats _ (λ land. let few = told_most MAX_SEATS (pairs e over shape.Land awards all) (item.Land land) (few_seats e over shape.Land awards all) in omega (arith, few))
awarded_column e over shape.List ok awards all =
    made_by_list e unit.Seats _ (λ land party. told_most MAX_SEATS (pairs e over shape.List awards all) (item.List land party) (few_seats e over shape.List awards all))
    (λ land party none. told_none (pairs e over shape.List awards all) (item.List land party) (no_pair e over awards land party none))

-- where no award has more seats than its amount, or than a limit
pub shared_typed : (e : Election) (at : Stand) (amounts : List ℕ) (over : Shape) (IsAward : Group → Award → Type 0) (records : Group → List ℕ → Records) →
    ((g : Group) (a : Award) → amount_of e at amounts g ≤ MAX_SEATS → IsAward g a → sum (awarded a) ≤ MAX_SEATS) → same_shape at.shape shape.One ≡ false →
    (values : List ℕ) (r : Records) → IsShared e at amounts IsAward records (scopes e over at.shape) (Column values r) → FitsType e (column at.shape unit.Seats) values
shared_typed e at amounts over IsAward records few ok values r h = of (first_over e at amounts (scopes e over at.shape)) refl h where
  of : (o : Option Group) → first_over e at amounts (scopes e over at.shape) ≡ o →
      MatchOption o (AreJoined e at amounts IsAward records (scopes e over at.shape) (Column values r)) (λ g. Column values r ≡ Fault (fault_at at.stage g.scope fault.Limit)) → FitsType e (column at.shape unit.Seats) values
  of (Some g) same is = cc
  of None same j =
      let under = each_under e at amounts (scopes e over at.shape) same in
      let all = every_both (λ x. amount_of e at amounts x.0 ≤ MAX_SEATS) (λ x. IsAward x.0 x.1) (λ x. sum (awarded x.1) ≤ MAX_SEATS) (λ x few' is. few x.0 x.1 few' is) (zip (scopes e over at.shape) j.awards)
      (every_zipped (λ g. amount_of e at amounts g ≤ MAX_SEATS) (scopes e over at.shape) j.awards under) (zip_each IsAward (scopes e over at.shape) j.awards j.each) in
      let is = column_values (slice_get (filter_map (fault_of at.stage) (zip (scopes e over at.shape) j.awards)) 0) values _ r _ j.is in
      subst (FitsType e (column at.shape unit.Seats)) (sym is) (awarded_column e over at.shape ok j.awards all)

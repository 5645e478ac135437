-- What splits and growths distribute.
use Rattle.std.proofs.Common.{◌≡◌, ℕ, zero, suc, ◌*◌, ◌<◌, ◌≤◌, ◌&&◌, Bool, true, false, List, [], ◌∷◌, Option, Some, None, length, get_or, map, sum, inl, inr, arith, refl, sym, ap, subst, ◌∙◌}
use Rattle.std.specs.Prelude.{if◌then◌else◌, zip, slice_get, MatchOption, Contains, nat_lt, nat_le}
use Rattle.std.specs.List.{list_any}
use Rattle.std.proofs.lemmas.Bool.{cases_Bool, cases_lt, and_from, or_parts, le-leb, lt-ltb, both_ways}
use Rattle.std.proofs.lemmas.List.{length-map}
use Rattle.std.proofs.lemmas.Option.{none-some, same_Some, slice_get_read}
use Rattle.sl_base_quotients.specs.declared.method.Divisor.{Divisor}
use Rattle.sl_base_quotients.specs.declared.method.Method.{Method}
use Rattle.sl_base_quotients.specs.declared.method.Method.TheVariants as by
use Rattle.sl_law_meaning.specs.declared.book.Majority.{Majority}
use Rattle.sl_law_meaning.specs.declared.book.Majority.TheVariants as majority
use Rattle.sl_law_meaning.specs.declared.book.Number.{Number}
use Rattle.sl_base_terms.specs.declared.shape.Shape.{Shape}
use Rattle.sl_base_terms.specs.declared.shape.Shape.TheVariants as shape
use Rattle.sl_law_meaning.specs.declared.fault.FaultKind.{FaultKind}
use Rattle.sl_law_meaning.specs.declared.fault.Item.{Item}
use Rattle.sl_law_meaning.specs.book.Trees.{ExprTree, split, grow, MinimaTree, without, atleast, BookTree}
use Rattle.sl_law_meaning.specs.book.Typing.{can_split}
use Rattle.sl_law_meaning.specs.returns.Election.{Election}
use Rattle.sl_law_meaning.specs.methods.LeastHouse.{Growth, GrownTo, EmptyField, AboveCap, IsGrowth, IsGrownAllocation}
use Rattle.sl_law_meaning.specs.methods.Ties.{Choice, Decided, Tied, IsChoice}
use Rattle.sl_law_meaning.specs.meaning.Lots.{stage_lot}
use Rattle.sl_law_meaning.specs.meaning.Records.{Records}
use Rattle.sl_law_meaning.specs.meaning.Results.{ExprResult, Column, Then, Stand, amount_of}
use Rattle.sl_law_meaning.specs.meaning.Scopes.{Group, place, cells, scopes}
use Rattle.sl_law_meaning.specs.meaning.Splits.{Seats, Refused, is_deprived, is_refused, award_of, IsChosen, IsAllocation, refusal, IsSplitAward, IsHouseAward, IsGrowthAward}
use Rattle.sl_law_meaning.specs.meaning.Expressions.{minima_at, IsSplitIn, split_records, IsSplit, IsGrowthIn, growth_records, IsGrown, Context, stand, shape_in, ExprMeans}
use Rattle.sl_law_meaning.proofs.meaning.TypedMeaning.{then_column}
use Rattle.sl_law_fairness.specs.Allocated.{SplitsAllocate, SplitsMeetTheMinima, GrowthsAllocate}
use Rattle.sl_law_fairness.specs.Amounts.{ComesToColumn, sum_in, SplitsGiveTheAmount, GrowthsGiveTheAmount, MajorityKept, GrownMajorityKept}
use Rattle.sl_law_fairness.proofs.Scopes.{shared_award}

-- ---- awards that are seats

-- an allocation, which the majority clause does not refuse
record IsGiven (X : List ℕ → Type 0) (m : Majority) (v : List ℕ) (seats : ℕ) (s : List ℕ) : Type 0 where
  pub allocation : X s
  pub stands : is_refused m v seats s ≡ false

given : (X : List ℕ → Type 0) (lot : List ℕ) (entries : List Item) (m : Majority) (v : List ℕ) (seats : ℕ) (s : List ℕ) → IsChosen X lot entries m v seats (Seats s) → IsGiven X m v seats s
given X lot entries m v seats s h = of h.choice h.chosen h.is where
  stands : (t : List ℕ) (refused : Bool) (kind : FaultKind) → Seats s ≡ (if refused then Refused kind else Seats t) → (t ≡ s) × (refused ≡ false)
  stands t true kind is = cc
  stands t false kind is = (cc, refl)

  of : (c : Choice) → IsChoice X lot c → Seats s ≡ award_of entries m v seats c → IsGiven X m v seats s
  of (Tied k tied) chosen is = cc
  of (Decided t) chosen is =
      let both = stands t (is_refused m v seats t) _ is in
      record { allocation = subst X both.0 chosen.4; stands = subst (λ t. is_refused m v seats t ≡ false) both.0 both.1 }

-- what an award of seats says: one number for each entry; these sum to a number of seats, for which the clause does not refuse them
record AreSeats (m : Majority) (v : List ℕ) (s : List ℕ) : Type 0 where
  pub long : length s ≡ length v
  pub stands : is_refused m v (sum s) s ≡ false

allocated : (method : Method) (m : Majority) (v min : List ℕ) (seats : ℕ) (s : List ℕ) → IsAllocation method m v min seats s → (length s ≡ length v) × (sum s ≡ seats)
allocated (by.Divisor d) m v min seats s is = (is.same_length, is.total)
allocated by.Hamilton m v min seats s is = (is.same_length, is.total)

split_given : (method : Method) (m : Majority) (entries : List Item) (lot v min : List ℕ) (seats : ℕ) (s : List ℕ) → IsSplitAward method m entries lot v min seats (Seats s) →
    IsGiven (IsAllocation method m v min seats) m v seats s
split_given method m entries lot v min seats s h = of (refusal v min seats) h where
  of : (o : Option FaultKind) → MatchOption o (IsChosen (IsAllocation method m v min seats) lot entries m v seats (Seats s)) (λ kind. Seats s ≡ Refused kind) → IsGiven (IsAllocation method m v min seats) m v seats s
  of (Some kind) is = cc
  of None chosen = given (IsAllocation method m v min seats) lot entries m v seats s chosen

split_seats : (method : Method) (m : Majority) (v min : List ℕ) (seats : ℕ) (s : List ℕ) → IsGiven (IsAllocation method m v min seats) m v seats s → AreSeats m v s × (sum s ≡ seats)
split_seats method m v min seats s g =
    let parts = allocated method m v min seats s g.allocation in
    (record { long = parts.0; stands = subst (λ n. is_refused m v n s ≡ false) (sym parts.1) g.stands }, parts.1)

-- so it is with the allocations of the least house
record IsGrownGiven (d : Divisor) (m : Majority) (v min : List ℕ) (seats cap : ℕ) (s : List ℕ) : Type 0 where
  pub least : IsGrowth d v min seats cap (GrownTo (sum s))
  pub is : IsGiven (IsGrownAllocation d v min (sum s)) m v (sum s) s

growth_given : (d : Divisor) (m : Majority) (entries : List Item) (lot v min : List ℕ) (seats cap : ℕ) (s : List ℕ) → IsGrowthAward d m entries lot v min seats cap (Seats s) → IsGrownGiven d m v min seats cap s
growth_given d m entries lot v min seats cap s h = of h.growth h.least h.comes where
  of : (g : Growth) → IsGrowth d v min seats cap g → IsHouseAward d m entries lot v min g (Seats s) → IsGrownGiven d m v min seats cap s
  of EmptyField least is = cc
  of AboveCap least is = cc
  of (GrownTo house) least chosen =
      let g = given (IsGrownAllocation d v min house) lot entries m v house s chosen in
      let total = g.allocation.total in
      record {
        least = subst (λ n. IsGrowth d v min seats cap (GrownTo n)) (sym total) least;
        is = subst (λ n. IsGiven (IsGrownAllocation d v min n) m v n s) (sym total) g;
      }

growth_seats : (d : Divisor) (m : Majority) (v min : List ℕ) (seats cap : ℕ) (s : List ℕ) → IsGrownGiven d m v min seats cap s → AreSeats m v s × ((seats ≤ sum s) × (sum s ≤ cap))
growth_seats d m v min seats cap s g =
    let serves = g.least.1 in
    (record { long = g.is.allocation.same_length; stands = g.is.stands }, (serves.from, serves.up_to))

-- ---- the majority clause

any_at : (p : ℕ × ℕ → Bool) (v s : List ℕ) (i : ℕ) → length s ≡ length v → i < length v → list_any p (zip v s) ≡ false → p (get_or v i 0, get_or s i 0) ≡ false
any_at p [] s i long within none = absurd (omega (arith, within))
any_at p (x ∷ v) [] i long within none = absurd (omega (arith, long))
any_at p (x ∷ v) (n ∷ s) zero long within none = (or_parts (p (x, n)) (list_any p (zip v s)) none).0
any_at p (x ∷ v) (n ∷ s) (suc i) long within none = any_at p v s i (omega (arith, long)) (omega (arith, within)) (or_parts (p (x, n)) (list_any p (zip v s)) none).1

majority_has : (v s : List ℕ) → AreSeats majority.Refuse v s → 0 < sum s → (i : ℕ) → i < length v → sum v < 2 * get_or v i 0 → sum s < 2 * get_or s i 0
majority_has v s is some i within more =
    elim (cases_lt (sum s) (2 * get_or s i 0)) [
      | inl less ↦ less
      | inr few ↦ absurd (
          elim (cases_Bool (is_deprived v (sum s) s)) [
            | inl yes' ↦ both_ways (is_refused majority.Refuse v (sum s) s) is.stands (and_from _ _ (le-leb 1 (sum s) (omega (arith, some))) yes')
            | inr no' ↦ both_ways _ (any_at (λ x. nat_lt (sum v) (2 * x.0) && nat_le (2 * x.1) (sum s)) v s i is.long within no') (and_from _ _ (lt-ltb (sum v) (2 * get_or v i 0) more) (le-leb (2 * get_or s i 0) (sum s) few))
          ])
    ]

-- ---- a scope

-- what a list contains stands somewhere in it
stands_at : {X : Type 0} (xs : List X) (x : X) → Contains xs x → (m : ℕ) × (slice_get xs m ≡ Some x)
stands_at xs x h = (h.0, slice_get_read xs (length xs) h.0 x refl h.1 (sym h.2))

pub cell_at : {X : Type 0} (f : X → ℕ) (xs : List X) (j : ℕ) (x : X) → slice_get xs j ≡ Some x → (j < length (map f xs)) × (get_or (map f xs) j 0 ≡ f x)
cell_at f [] j x at = absurd (none-some x at)
cell_at f (y ∷ ys) zero x at = (omega arith, ap f (same_Some y x at))
cell_at f (y ∷ ys) (suc j) x at = let rest = cell_at f ys j x at in (omega (arith, rest.0), rest.1)

keeps : (e : Election) (g : Group) (votes values : List ℕ) → AreSeats majority.Refuse (cells e g.entries votes) (cells e g.entries values) → 0 < sum_in e g values →
    (i : Item) → Contains g.entries i → sum_in e g votes < 2 * get_or votes (place e i) 0 → sum_in e g values < 2 * get_or values (place e i) 0
keeps e g votes values is some i there more =
    let at = stands_at g.entries i there in
    let v = cell_at (λ i. get_or votes (place e i) 0) g.entries at.0 i at.1 in
    let s = cell_at (λ i. get_or values (place e i) 0) g.entries at.0 i at.1 in
    let has = majority_has (cells e g.entries votes) (cells e g.entries values) is some at.0 v.0 (omega (arith, more, v.1)) in
    omega (arith, has, s.1)

module _ (e : Election) (at : Stand) (amounts votes : List ℕ) (over : Shape) (can : can_split over at.shape ≡ true) (values : List ℕ) (r : Records) (g : Group) (there : Contains (scopes e over at.shape) g) where
  split_in : (method : Method) (m : Majority) (minima : Option (List ℕ)) → IsSplit e at amounts votes over method m minima (Column values r) →
      IsGiven (IsAllocation method m (cells e g.entries votes) (minima_at e g votes minima) (amount_of e at amounts g)) m (cells e g.entries votes) (amount_of e at amounts g) (cells e g.entries values)
  split_in method m minima h =
      let Award' = IsSplitIn e at amounts votes method m minima in
      let given' = λ (g : Group) (s : List ℕ) (is : IsSplitIn e at amounts votes method m minima g (Seats s)). split_given method m g.entries (stage_lot e at.name at.shape g.entries) (cells e g.entries votes) (minima_at e g votes minima) (amount_of e at amounts g) s is in
      let place' = stands_at (scopes e over at.shape) g there in
      let award = shared_award e at amounts Award' (split_records e at amounts votes method m minima)
      (λ g s is. (split_seats method m (cells e g.entries votes) (minima_at e g votes minima) (amount_of e at amounts g) s (given' g s is)).0.long ∙ length-map g.entries (λ i. get_or votes (place e i) 0)) over can values r place'.0 g place'.1 h in
      subst (IsGiven (IsAllocation method m (cells e g.entries votes) (minima_at e g votes minima) (amount_of e at amounts g)) m (cells e g.entries votes) (amount_of e at amounts g)) (sym award.are) (given' g award.seats award.award)

  seats_in : (method : Method) (m : Majority) (minima : Option (List ℕ)) → IsSplit e at amounts votes over method m minima (Column values r) →
      AreSeats m (cells e g.entries votes) (cells e g.entries values) × (sum_in e g values ≡ amount_of e at amounts g)
  seats_in method m minima h = split_seats method m (cells e g.entries votes) (minima_at e g votes minima) (amount_of e at amounts g) (cells e g.entries values) (split_in method m minima h)

module _ (e : Election) (at : Stand) (amounts votes : List ℕ) (can : can_split shape.One at.shape ≡ true) (values : List ℕ) (r : Records) (g : Group) (there : Contains (scopes e shape.One at.shape) g) where
  divisor_grown : (d : Divisor) (m : Majority) (minima : List ℕ) (cap : ℕ) → IsGrown e at amounts votes (by.Divisor d) m minima cap (Column values r) →
      IsGrownGiven d m (cells e g.entries votes) (cells e g.entries minima) (amount_of e at amounts g) cap (cells e g.entries values)
  divisor_grown d m minima cap h =
      let given' = λ (g : Group) (s : List ℕ) (is : IsGrowthIn e at amounts votes d m minima cap g (Seats s)). growth_given d m g.entries (stage_lot e at.name at.shape g.entries) (cells e g.entries votes) (cells e g.entries minima) (amount_of e at amounts g) cap s is in
      let place' = stands_at (scopes e shape.One at.shape) g there in
      let award = shared_award e at amounts (IsGrowthIn e at amounts votes d m minima cap) (growth_records e at amounts votes d minima)
      (λ g s is. (given' g s is).is.allocation.same_length ∙ length-map g.entries (λ i. get_or votes (place e i) 0)) shape.One can values r place'.0 g place'.1 h in
      subst (IsGrownGiven d m (cells e g.entries votes) (cells e g.entries minima) (amount_of e at amounts g) cap) (sym award.are) (given' g award.seats award.award)

  grown_in : (method : Method) (m : Majority) (minima : List ℕ) (cap : ℕ) → IsGrown e at amounts votes method m minima cap (Column values r) →
      AreSeats m (cells e g.entries votes) (cells e g.entries values) × ((amount_of e at amounts g ≤ sum_in e g values) × (sum_in e g values ≤ cap))
  grown_in by.Hamilton m minima cap h = absurd h
  grown_in (by.Divisor d) m minima cap h = growth_seats d m (cells e g.entries votes) (cells e g.entries minima) (amount_of e at amounts g) cap (cells e g.entries values) (divisor_grown d m minima cap h)

-- ---- what comes before a column is a column

module _ (b : BookTree) (e : Election) (c : Context) (at : ℕ) (s v : ExprTree) (method : Method) (m : Majority) (values : List ℕ) where
  -- the parts of a split that yields a column
  record SplitParts : Type 0 where
    pub amounts : List ℕ
    pub seats : ComesToColumn b e c s amounts
    pub votes : List ℕ
    pub by_votes : ComesToColumn b e c v votes
    pub minima : Option (List ℕ)
    pub records : Records
    pub is : IsSplit e (stand c v) amounts votes (shape_in c s) method m minima (Column values records)

  split_parts : (minima : MinimaTree) → ComesToColumn b e c (split at s v method minima m) values → SplitParts
  split_parts without h =
      let Split : List ℕ → List ℕ → ExprResult → Type 0 = λ amounts votes. IsSplit e (stand c v) amounts votes (shape_in c s) method m None in
      let one = then_column (ExprMeans b e c s) (λ amounts. Then (ExprMeans b e c v) (Split amounts)) values h.0 h.1 in
      let two = then_column (ExprMeans b e c v) (Split one.0) values one.3 one.4 in
      record { amounts = one.0; seats = (one.1, one.2); votes = two.0; by_votes = (two.1, two.2); minima = None; records = two.3; is = two.4 }
  split_parts (atleast f) h =
      let Split : List ℕ → List ℕ → List ℕ → ExprResult → Type 0 = λ amounts votes minima. IsSplit e (stand c v) amounts votes (shape_in c s) method m (Some minima) in
      let one = then_column (ExprMeans b e c s) (λ amounts. Then (ExprMeans b e c v) (λ votes. Then (ExprMeans b e c f) (Split amounts votes))) values h.0 h.1 in
      let two = then_column (ExprMeans b e c v) (λ votes. Then (ExprMeans b e c f) (Split one.0 votes)) values one.3 one.4 in
      let three = then_column (ExprMeans b e c f) (Split one.0 two.0) values two.3 two.4 in
      record { amounts = one.0; seats = (one.1, one.2); votes = two.0; by_votes = (two.1, two.2); minima = Some three.0; records = three.3; is = three.4 }

  -- and those of a growth
  record GrowthParts (least : ExprTree) (cap : ℕ) : Type 0 where
    pub amounts : List ℕ
    pub seats : ComesToColumn b e c s amounts
    pub votes : List ℕ
    pub by_votes : ComesToColumn b e c v votes
    pub minima : List ℕ
    pub by_minima : ComesToColumn b e c least minima
    pub records : Records
    pub is : IsGrown e (stand c v) amounts votes method m minima cap (Column values records)

  growth_parts : (minima : ExprTree) (cap : Number) → ComesToColumn b e c (grow at s v method minima cap m) values → GrowthParts minima cap.value
  growth_parts f cap h =
      let Grown : List ℕ → List ℕ → List ℕ → ExprResult → Type 0 = λ amounts votes minima. IsGrown e (stand c v) amounts votes method m minima cap.value in
      let one = then_column (ExprMeans b e c s) (λ amounts. Then (ExprMeans b e c v) (λ votes. Then (ExprMeans b e c f) (Grown amounts votes))) values h.0 h.1 in
      let two = then_column (ExprMeans b e c v) (λ votes. Then (ExprMeans b e c f) (Grown one.0 votes)) values one.3 one.4 in
      let three = then_column (ExprMeans b e c f) (Grown one.0 two.0) values two.3 two.4 in
      record { amounts = one.0; seats = (one.1, one.2); votes = two.0; by_votes = (two.1, two.2); minima = three.0; by_minima = (three.1, three.2); records = three.3; is = three.4 }

-- ---- the laws

pub splits_give_the_amount : SplitsGiveTheAmount
splits_give_the_amount b e c at s v method minima m values can h =
    let p = split_parts b e c at s v method m values minima h in
    (p.amounts, p.seats, λ g there. (seats_in e (stand c v) p.amounts p.votes (shape_in c s) can values p.records g there method m p.minima p.is).1)

pub growths_give_the_amount : GrowthsGiveTheAmount
growths_give_the_amount b e c at s v method minima cap m values can h =
    let p = growth_parts b e c at s v method m values minima cap h in
    (p.amounts, p.seats, λ g there. (grown_in e (stand c v) p.amounts p.votes can values p.records g there method m p.minima cap.value p.is).1)

pub majority_kept : MajorityKept
majority_kept b e c at s v method minima values can h =
    let p = split_parts b e c at s v method majority.Refuse values minima h in
    (p.votes, p.by_votes, λ g there. keeps e g p.votes values (seats_in e (stand c v) p.amounts p.votes (shape_in c s) can values p.records g there method majority.Refuse p.minima p.is).0)

pub grown_majority_kept : GrownMajorityKept
grown_majority_kept b e c at s v method minima cap values can h =
    let p = growth_parts b e c at s v method majority.Refuse values minima cap h in
    (p.votes, p.by_votes, λ g there. keeps e g p.votes values (grown_in e (stand c v) p.amounts p.votes can values p.records g there method majority.Refuse p.minima cap.value p.is).0)

-- ---- allocations

pub splits_allocate : SplitsAllocate
splits_allocate b e c at s v method m values can h =
    let Split : List ℕ → List ℕ → ExprResult → Type 0 = λ amounts votes. IsSplit e (stand c v) amounts votes (shape_in c s) method m None in
    let one = then_column (ExprMeans b e c s) (λ amounts. Then (ExprMeans b e c v) (Split amounts)) values h.0 h.1 in
    let two = then_column (ExprMeans b e c v) (Split one.0) values one.3 one.4 in
    (one.0, (one.1, one.2), two.0, (two.1, two.2), λ g there. (split_in e (stand c v) one.0 two.0 (shape_in c s) can values two.3 g there method m None two.4).allocation)

-- the numbers of an entry of a scope, in both columns
pub no_less : (e : Election) (g : Group) (low high : List ℕ) → ((j : ℕ) → get_or (cells e g.entries low) j 0 ≤ get_or (cells e g.entries high) j 0) → (i : Item) → Contains g.entries i → get_or low (place e i) 0 ≤ get_or high (place e i) 0
no_less e g low high le i there =
    let at = stands_at g.entries i there in
    let x = cell_at (λ i. get_or low (place e i) 0) g.entries at.0 i at.1 in
    let y = cell_at (λ i. get_or high (place e i) 0) g.entries at.0 i at.1 in
    let here = le at.0 in
    omega (arith, x.1, y.1, here)

pub splits_meet_the_minima : SplitsMeetTheMinima
splits_meet_the_minima b e c at s v d least m values can h =
    let Split : List ℕ → List ℕ → List ℕ → ExprResult → Type 0 = λ amounts votes minima. IsSplit e (stand c v) amounts votes (shape_in c s) (by.Divisor d) m (Some minima) in
    let one = then_column (ExprMeans b e c s) (λ amounts. Then (ExprMeans b e c v) (λ votes. Then (ExprMeans b e c least) (Split amounts votes))) values h.0 h.1 in
    let two = then_column (ExprMeans b e c v) (λ votes. Then (ExprMeans b e c least) (Split one.0 votes)) values one.3 one.4 in
    let three = then_column (ExprMeans b e c least) (Split one.0 two.0) values two.3 two.4 in (
      one.0,
      (one.1, one.2),
      two.0,
      (two.1, two.2),
      three.0,
      (three.1, three.2),
      λ g there. (split_in e (stand c v) one.0 two.0 (shape_in c s) can values three.3 g there (by.Divisor d) m (Some three.0) three.4).allocation,
    )

pub growths_allocate : GrowthsAllocate
growths_allocate b e c at s v d least cap m values can h =
    let p = growth_parts b e c at s v (by.Divisor d) m values least cap h in (
      p.amounts,
      p.seats,
      p.votes,
      p.by_votes,
      p.minima,
      p.by_minima,
      λ g there.
          let grown = divisor_grown e (stand c v) p.amounts p.votes can values p.records g there d m p.minima cap.value p.is in
          (grown.least, grown.is.allocation),
    )

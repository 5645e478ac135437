-- Columns of their types: the facts of the returns, and what sums, the greater and the difference make.
use Rattle.std.proofs.Common.{◌≡◌, ℕ, zero, suc, ◌+◌, ◌*◌, ◌≤◌, ◌&&◌, Bool, true, false, cond, not, List, [], ◌∷◌, Option, Some, None, is_none, is_some, map, length, get_or, sum, count_by, refl, sym, ap, subst, ◌∙◌, inl, inr, arith}
use Rattle.std.specs.List.{All, flat_map, zip}
use Rattle.std.specs.Option.{ForSome}
use Rattle.std.specs.Prelude.{unwrap_or}
use Rattle.std.proofs.lemmas.Bool.{cases_lt, cond_both, false≢true, and_right}
use Rattle.std.proofs.lemmas.List.{get_or_past}
use Rattle.std.proofs.lemmas.List.Elements.{All-nil, All-cons, All-head, All-tail, All-get_or, All-map, All-weaker, All-append}
use Rattle.std.proofs.lemmas.List.Sums.{count_by-le-length, sum_by-le}
use Rattle.std.proofs.lemmas.List.FromFn.{length-range_with_len, length-map-range_with_len}
use Rattle.std.proofs.Math.Nat.{mul-le-mul, le_refl}
use Rattle.sl_base_quotients.specs.declared.limits.TheConstants.{MAX_SEATS, MAX_LANDS, MAX_PARTIES, MAX_VOTES}
use Rattle.sl_law_meaning.specs.declared.limits.TheConstants.{MAX_WINS}
use Rattle.sl_law_meaning.specs.declared.book.Axis.{Axis}
use Rattle.sl_law_meaning.specs.declared.book.Axis.TheVariants as axis
use Rattle.sl_law_meaning.specs.declared.book.Cond.{Cond}
use Rattle.sl_law_meaning.specs.declared.book.Pairing.{Pairing}
use Rattle.sl_law_meaning.specs.declared.book.Pairing.TheVariants as pairings
use Rattle.sl_base_terms.specs.declared.shape.Shape.{Shape}
use Rattle.sl_base_terms.specs.declared.shape.Shape.TheVariants as shape
use Rattle.sl_law_meaning.specs.declared.book.Unit.{Unit as Units}
use Rattle.sl_law_meaning.specs.declared.book.Unit.TheVariants as unit
use Rattle.sl_law_meaning.specs.declared.book.ColumnType.{ColumnType}
use Rattle.sl_law_meaning.specs.declared.fact.Fact.{Fact}
use Rattle.sl_law_meaning.specs.declared.fact.Fact.TheVariants as facts
use Rattle.sl_law_meaning.specs.declared.election.ListVotes.{ListVotes}
use Rattle.sl_law_meaning.specs.declared.election.Win.{Win}
use Rattle.sl_law_meaning.specs.book.Trees.{BookTree}
use Rattle.sl_law_meaning.specs.returns.Votes.{counted_in}
use Rattle.sl_law_meaning.specs.returns.Election.{Election, IsElection, IsCell, lands_of, parties_of, list_at, has_list}
use Rattle.sl_law_meaning.specs.returns.Facts.{lands, parties, by_party, by_land, by_list, list_cell, is_in, is_of, is_eligible, takes_part, is_on_list, counted_votes, list_winners, outside_winners, independent_winners}
use Rattle.sl_law_meaning.specs.book.Typing.{can_sum, shape_over, column, fact_type}
use Rattle.sl_law_meaning.specs.meaning.Columns.{sum_over, paired, pair_of, fact_column}
use Rattle.sl_law_meaning.specs.laws.ColumnLaws.{most_of_list, most_of, FitsType}
use Rattle.sl_law_meaning.proofs.meaning.ListPlaces.{by_list_at, length_by_list}

-- ---- columns made by a function

all_pieces : {X A : Type 0} (P : A → Type 0) (f : X → List A) → ((x : X) → All P (f x)) → (xs : List X) → All P (flat_map f xs)
all_pieces P f each [] = All-nil P
all_pieces P f each (x ∷ xs) = All-append P (f x) (flat_map f xs) (each x) (all_pieces P f each xs)

all_made : (f : ℕ → ℕ) (m : ℕ) (xs : List ℕ) → ((k : ℕ) → f k ≤ m) → All (λ n. n ≤ m) (map f xs)
all_made f m xs each = All-map (λ n. n ≤ m) f xs (λ k d within. each (get_or xs k d))

module _ (e : Election) (u : Units) where
  pub made_by_list : (f : ℕ → ℕ → ℕ) → ((land party : ℕ) → f land party ≤ most_of_list u) → ((land party : ℕ) → has_list e land party ≡ false → f land party ≡ 0) → FitsType e (column shape.List u) (by_list e f)
  made_by_list f few alone = record {
    size = length_by_list e f;
    most = all_pieces (λ n. n ≤ 1 * most_of_list u) (λ land. by_party e (f land)) (λ land. all_made (f land) (1 * most_of_list u) (parties e) (λ party. omega (arith, few land party))) (lands e);
    lists_alone = λ same land party in_lands in_parties none. by_list_at e f land party in_lands in_parties ∙ alone land party none;
  }

  pub made_by_land : (f : ℕ → ℕ) → ((land : ℕ) → f land ≤ MAX_PARTIES * most_of_list u) → FitsType e (column shape.Land u) (by_land e f)
  made_by_land f few = record {
    size = length-map-range_with_len f 0 (lands_of e);
    most = all_made f (MAX_PARTIES * most_of_list u) (lands e) few;
    lists_alone = λ same. cc;
  }

  pub made_by_party : (f : ℕ → ℕ) → ((party : ℕ) → f party ≤ MAX_LANDS * most_of_list u) → FitsType e (column shape.Party u) (by_party e f)
  made_by_party f few = record {
    size = length-map-range_with_len f 0 (parties_of e);
    most = all_made f (MAX_LANDS * most_of_list u) (parties e) few;
    lists_alone = λ same. cc;
  }

  pub made_one : (n : ℕ) → n ≤ MAX_LANDS * MAX_PARTIES * most_of_list u → FitsType e (column shape.One u) (n ∷ [])
  made_one n few = record {
    size = refl;
    most = All-cons (λ m. m ≤ MAX_LANDS * MAX_PARTIES * most_of_list u) n [] few (All-nil (λ m. m ≤ MAX_LANDS * MAX_PARTIES * most_of_list u));
    lists_alone = λ same. cc;
  }

-- ---- the facts of the returns

cell_within : (cell : Option ListVotes) → IsCell cell → counted_in cell ≤ MAX_VOTES
cell_within None is = omega arith
cell_within (Some v) is = let votes = is v refl in omega (arith, votes.counted, votes.valid)

-- what holds of each element and of the default holds of what is read
read_within : {X : Type 0} (P : X → Type 0) (xs : List X) (i : ℕ) (d : X) → All P xs → P d → P (get_or xs i d)
read_within P xs i d all default = elim (cases_lt i (length xs)) [ inl within ↦ All-get_or P xs i d within all | inr past ↦ subst P (sym (get_or_past xs i d past)) default ]

pub nothing_counted : (t : Bool) (cell : Option ListVotes) → is_some cell ≡ false → cond t (counted_in cell) 0 ≡ 0
nothing_counted true None none = refl
nothing_counted false None none = refl
nothing_counted t (Some v) none = absurd (false≢true (sym none))

module _ (conditions : List Cond) (e : Election) (is : IsElection e) where
  winners_within : (test : Win → Bool) → count_by test e.wins ≤ MAX_WINS
  winners_within test = omega (arith, count_by-le-length test e.wins, is.wins, is.winners)

  votes_within : (land party : ℕ) → counted_in (list_at e land party) ≤ MAX_VOTES
  votes_within land party =
      let row = read_within (All IsCell) e.cells land [] is.votes (All-nil IsCell) in
      cell_within (list_at e land party) (read_within IsCell (get_or e.cells land []) party None row (λ v h. cc))

  counted_typed : FitsType e (column shape.List unit.Votes) (counted_votes conditions e)
  counted_typed = made_by_list e unit.Votes (λ land party. cond (is_eligible conditions e party) (counted_in (list_at e land party)) 0)
      (λ land party. cond_both (is_eligible conditions e party) (counted_in (list_at e land party)) 0 (λ n. n ≤ MAX_VOTES) (λ h. votes_within land party) (λ h. omega arith))
      (λ land party none. nothing_counted (is_eligible conditions e party) (list_at e land party) none)

  pub winners_typed : FitsType e (column shape.List unit.Seats) (list_winners conditions e)
  winners_typed = made_by_list e unit.Seats (λ land party. cond (takes_part conditions e land party) (count_by (λ w. is_in land w && is_of party w) e.wins) 0)
      (λ land party. cond_both (takes_part conditions e land party) (count_by (λ w. is_in land w && is_of party w) e.wins) 0 (λ n. n ≤ MAX_SEATS)
      (λ h. omega (arith, winners_within (λ w. is_in land w && is_of party w))) (λ h. omega arith))
      (λ land party none. ap (λ t. cond t (count_by (λ w. is_in land w && is_of party w) e.wins) 0) (and_right (is_eligible conditions e party) (has_list e land party) none))

  outside_typed : FitsType e (column shape.Land unit.Seats) (outside_winners conditions e)
  outside_typed = made_by_land e unit.Seats (λ land. count_by (λ w. is_in land w && not (is_on_list conditions e w)) e.wins)
      (λ land. let few = winners_within (λ w. is_in land w && not (is_on_list conditions e w)) in omega (arith, few))

  alone_typed : FitsType e (column shape.Land unit.Seats) (independent_winners conditions e)
  alone_typed = made_by_land e unit.Seats (λ land. count_by (λ w. is_in land w && is_none w.party) e.wins)
      (λ land. let few = winners_within (λ w. is_in land w && is_none w.party) in omega (arith, few))

  population_typed : FitsType e (column shape.Land unit.Votes) e.populations
  population_typed = record {
    size = is.populations;
    most = All-weaker (λ n. n ≤ MAX_VOTES) (λ n. n ≤ MAX_PARTIES * MAX_VOTES) (λ n h. omega arith) e.populations is.people;
    lists_alone = λ same. cc;
  }

house_few : (house : Option ℕ) (seats : ℕ) → ForSome house (λ h. (1 ≤ h) × (h ≤ MAX_SEATS)) → seats ≤ MAX_SEATS → unwrap_or house seats ≤ MAX_SEATS
house_few None seats is few = few
house_few (Some h) seats is few = (is h refl).1

pub fact_typed : (b : BookTree) (e : Election) → IsElection e → b.house.value ≤ MAX_SEATS → (told : Fact) → FitsType e (fact_type told) (fact_column b e told)
fact_typed b e is few facts.House = made_one e unit.Seats (unwrap_or e.house b.house.value) (let n = house_few e.house b.house.value is.house few in omega (arith, n))
fact_typed b e is few facts.Counted = counted_typed b.eligible e is
fact_typed b e is few facts.Winners = winners_typed b.eligible e is
fact_typed b e is few facts.Outside = outside_typed b.eligible e is
fact_typed b e is few facts.Independents = alone_typed b.eligible e is
fact_typed b e is few facts.Population = population_typed b.eligible e is

-- ---- sums

at_most_times : (n most m k : ℕ) → n ≤ most → k ≤ n * m → k ≤ most * m
at_most_times n most m k few h = let wide : n * m ≤ most * m = mul-le-mul few (le_refl m) in omega (arith, wide)

module _ (e : Election) (is : IsElection e) (u : Units) where
  pub sum_typed : (s : Shape) (over : Axis) (xs : List ℕ) → can_sum s over ≡ true → FitsType e (column s u) xs → FitsType e (column (shape_over over) u) (sum_over e over xs)
  sum_typed shape.List axis.Party xs can t =
      made_by_party e u _ (λ party.
      let sums = sum_by-le (λ land. list_cell e xs land party) (1 * most_of_list u) (lands e) (λ k d less. read_within (λ n. n ≤ 1 * most_of_list u) xs _ 0 t.most (omega arith)) in
      let few = at_most_times (length (lands e)) MAX_LANDS (1 * most_of_list u) _ (omega (arith, length-range_with_len 0 (lands_of e), is.lands)) sums in
      omega (arith, few))
  sum_typed shape.List axis.Land xs can t =
      made_by_land e u _ (λ land.
      let sums = sum_by-le (λ party. list_cell e xs land party) (1 * most_of_list u) (parties e) (λ k d less. read_within (λ n. n ≤ 1 * most_of_list u) xs _ 0 t.most (omega arith)) in
      let few = at_most_times (length (parties e)) MAX_PARTIES (1 * most_of_list u) _ (omega (arith, length-range_with_len 0 (parties_of e), is.parties)) sums in
      omega (arith, few))
  sum_typed shape.List axis.All xs can t =
      let places : lands_of e * parties_of e ≤ MAX_LANDS * MAX_PARTIES = mul-le-mul is.lands is.parties in
      let few = at_most_times (length xs) (MAX_LANDS * MAX_PARTIES) (1 * most_of_list u) (sum xs) (omega (arith, t.size, places)) (sum_by-le (λ n. n) (1 * most_of_list u) xs t.most) in
      made_one e u (sum xs) (omega (arith, few))
  sum_typed shape.Party axis.All xs can t =
      let few = at_most_times (length xs) MAX_PARTIES (MAX_LANDS * most_of_list u) (sum xs) (omega (arith, t.size, is.parties)) (sum_by-le (λ n. n) (MAX_LANDS * most_of_list u) xs t.most) in
      made_one e u (sum xs) (omega (arith, few))
  sum_typed shape.Land axis.All xs can t =
      let few = at_most_times (length xs) MAX_LANDS (MAX_PARTIES * most_of_list u) (sum xs) (omega (arith, t.size, is.lands)) (sum_by-le (λ n. n) (MAX_PARTIES * most_of_list u) xs t.most) in
      made_one e u (sum xs) (omega (arith, few))
  sum_typed _ _ xs can t = absurd (false≢true can)

-- ---- number by number

zipped : (f : ℕ × ℕ → ℕ) (m : ℕ) → ((x y : ℕ) → x ≤ m → y ≤ m → f (x, y) ≤ m) → (xs ys : List ℕ) → length xs ≡ length ys → All (λ n. n ≤ m) xs → All (λ n. n ≤ m) ys →
    (length (map f (zip xs ys)) ≡ length xs) × All (λ n. n ≤ m) (map f (zip xs ys))
zipped f m each [] ys same left right = (refl, All-nil (λ n. n ≤ m))
zipped f m each (x ∷ xs) [] same left right = absurd (omega (arith, same))
zipped f m each (x ∷ xs) (y ∷ ys) same left right =
    let P : ℕ → Type 0 = λ n. n ≤ m in
    let rest = zipped f m each xs ys (omega (arith, same)) (All-tail P x xs left) (All-tail P y ys right) in
    (ap suc rest.0, All-cons P (f (x, y)) (map f (zip xs ys)) (each x y (All-head P x xs left) (All-head P y ys right)) rest.1)

zipped_at : (f : ℕ × ℕ → ℕ) (xs ys : List ℕ) (k : ℕ) → length xs ≡ length ys → f (get_or xs k 0, get_or ys k 0) ≡ 0 → get_or (map f (zip xs ys)) k 0 ≡ 0
zipped_at f [] ys k same none = refl
zipped_at f (x ∷ xs) [] k same none = absurd (omega (arith, same))
zipped_at f (x ∷ xs) (y ∷ ys) zero same none = none
zipped_at f (x ∷ xs) (y ∷ ys) (suc k) same none = zipped_at f xs ys k (omega (arith, same)) none

paired_most : (pairing : Pairing) (m x y : ℕ) → x ≤ m → y ≤ m → paired pairing x y ≤ m
paired_most pairings.Larger m x y h k = omega arith
paired_most pairings.Less m x y h k = omega arith

paired_zeros : (pairing : Pairing) → paired pairing 0 0 ≡ 0
paired_zeros pairings.Larger = refl
paired_zeros pairings.Less = refl

module _ (e : Election) (t : ColumnType) (pairing : Pairing) (xs ys : List ℕ) (left : FitsType e t xs) (right : FitsType e t ys) where
  as_long : length xs ≡ length ys
  as_long = left.size ∙ sym right.size

  pub pair_typed : FitsType e t (pair_of pairing xs ys)
  pair_typed =
      let both = zipped (λ x. paired pairing x.0 x.1) (most_of t) (paired_most pairing (most_of t)) xs ys as_long left.most right.most in
      record {
        size = both.0 ∙ left.size;
        most = both.1;
        lists_alone = λ same land party in_lands in_parties none.
            let a = left.lists_alone same land party in_lands in_parties none in
            let c = right.lists_alone same land party in_lands in_parties none in
            zipped_at (λ x. paired pairing x.0 x.1) xs ys (land * parties_of e + party) as_long (ap (λ n. paired pairing n (get_or ys (land * parties_of e + party) 0)) a ∙ ap (paired pairing 0) c ∙ paired_zeros pairing);
      }

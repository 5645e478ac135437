-- By the statute of 2013 the house grows to the least one that has room for all winners of lists.
use Rattle.std.proofs.Common.{◌≡◌, ℕ, ◌-◌, ◌*◌, ◌<◌, ◌≤◌, get_or, Bool, true, List, [], ◌∷◌, Some, filter, max, sum, sum_by, inl, inr, arith, refl, sym, ap, subst, ◌∙◌}
use Rattle.std.specs.Prelude.{Contains, slice_index, codes, Option, find, option_map}
use Rattle.std.specs.List.{AllByRecursion as Every, AllZip}
use Rattle.std.proofs.lemmas.Bool.{cases_lt, cases_Bool, both_ways, cond-true, cond-false}
use Rattle.sl_base_quotients.specs.declared.method.Divisor.TheVariants.{Webster}
use Rattle.sl_base_quotients.specs.declared.method.Method.TheVariants as by
use Rattle.sl_law_meaning.specs.declared.book.Axis.TheVariants as axis
use Rattle.sl_law_meaning.specs.declared.book.Majority.TheVariants as majority
use Rattle.sl_law_meaning.specs.declared.book.Pairing.{Pairing}
use Rattle.sl_law_meaning.specs.declared.book.Pairing.TheVariants as pairings
use Rattle.sl_base_terms.specs.declared.shape.Shape.TheVariants as shape
use Rattle.sl_law_meaning.specs.declared.fact.Fact.TheVariants as facts
use Rattle.sl_law_meaning.specs.declared.fault.Scope.TheVariants as scope
use Rattle.sl_law_meaning.specs.declared.fault.Item.{Item}
use Rattle.sl_law_meaning.specs.declared.fault.Item.TheVariants as item
use Rattle.sl_law_meaning.specs.declared.table.ListSeats.{ListSeats}
use Rattle.sl_law_meaning.specs.declared.table.Outcome.TheVariants as outcome
use Rattle.sl_law_meaning.specs.book.Trees.{ExprTree, fact, name, pair, atleast, BookTree}
use Rattle.sl_law_meaning.specs.returns.Election.{Election, IsElection, lands_of, parties_of, has_list}
use Rattle.sl_law_meaning.specs.returns.Facts.{lands, parties, lists_of, list_cell}
use Rattle.sl_law_meaning.specs.methods.LeastHouse.{GrownTo, IsGrowth, IsGrownAllocation}
use Rattle.sl_law_meaning.specs.laws.MeaningLaws.{IsListOf}
use Rattle.sl_law_meaning.specs.meaning.Columns.{IsLeaf, is_column_of, fact_column, pair_of, sum_over}
use Rattle.sl_law_meaning.specs.meaning.Records.{Records}
use Rattle.sl_law_meaning.specs.meaning.Results.{ExprResult, Column, Then, plain}
use Rattle.sl_law_meaning.specs.meaning.Scopes.{Group, cells, scopes, entries_of, lists_in_land, lists_of_party}
use Rattle.sl_law_meaning.specs.meaning.Expressions.{Context, ExprMeans}
use Rattle.sl_law_meaning.specs.meaning.Means.{Known, Through, nothing_known, context_of, with_stage, StagesMean, Means}
use Rattle.sl_law_meaning.specs.meaning.Tables.{SeatTable}
use Rattle.sl_law_meaning.specs.methods.Field.{no_minima}
use Rattle.sl_law_meaning.specs.methods.Allocations.{IsDivisorAllocation}
use Rattle.sl_law_meaning.proofs.meaning.DistinctLists.{every_weaker, every_both}
use Rattle.sl_law_meaning.proofs.meaning.TypedMeaning.{then_column}
use Rattle.sl_law_fairness.specs.Winners.{IsBase, base_seats, winners_on, overhang, outside, IsLine}
use Rattle.sl_law_fairness.specs.Amounts.{sum_in, KeepsMajorities}
use Rattle.sl_law_fairness.proofs.Amounts.{no_less, splits_allocate, splits_give_the_amount, splits_meet_the_minima, growths_allocate, grown_majority_kept}
use Rattle.sl_law_fairness.proofs.Bases.{end_of, sum_of_base}
use Rattle.sl_law_fairness.proofs.Growths.{grown_by_votes}
use Rattle.sl_law_fairness.proofs.ClosedHouse.{closed_house}
use Rattle.sl_law_fairness.proofs.ListColumns.{sum_agree, are_lists, below}
use Rattle.sl_law_fairness.proofs.Winners.{keep_total}
use Rattle.sl_law_statutes.specs.Trees.{law_of_2013, pool, lands_2013, first_2013, floor_2013, upper_2013, lower_2013, party_votes, number}
use Rattle.sl_law_statutes.specs.Houses.{house_of}
use Rattle.sl_law_statutes.specs.Parties.{party_column, party_seats, seats_column}
use Rattle.sl_law_statutes.specs.Lists.{ListsOf2013}
use Rattle.sl_law_statutes.specs.Majorities.{MajorityOf2013}
use Rattle.sl_law_statutes.specs.Grown.{IsFloor, GrowsToFit, HouseOf2013, PartiesOf2013}
use Rattle.sl_law_statutes.proofs.Sums.{sum_zero, every_number}
use Rattle.sl_law_statutes.proofs.Runs.{ran, same_known, fact_is, name_is, pool_is, votes_are, plain_values}
use Rattle.sl_law_statutes.proofs.Shares.{all_parties, party_lists, first_in, contained, every_unmap, each_scope, amount_is, last_column, shared_out, outside_in_all}
use Rattle.sl_law_statutes.proofs.PartySeats.{lines_sum, past_parties, scope_column, same_column}
use Rattle.sl_law_statutes.proofs.Majorities.{listed}

-- ---- the lists of a party contain each of them

every_unfilter : {X : Type 0} (P : X → Type 0) (q : X → Bool) (xs : List X) → Every P (filter q xs) → Every (λ x. q x ≡ true → P x) xs
every_unfilter P q [] all = tt
every_unfilter P q (x ∷ xs) all =
    elim (cases_Bool (q x)) [
      | inl yes' ↦ (let rest = subst (Every P) (cond-true (q x) (x ∷ filter q xs) (filter q xs) yes') all in (λ h. rest.0, every_unfilter P q xs rest.1))
      | inr no' ↦ (λ h. absurd (both_ways (q x) no' h), every_unfilter P q xs (subst (Every P) (cond-false (q x) (x ∷ filter q xs) (filter q xs) no') all))
    ]

own_list : (e : Election) (land party : ℕ) → IsListOf e land party → Contains (lists_of_party e party) (item.List land party)
own_list e land party is =
    let here : ℕ → Item = λ l. item.List l party in
    let all = contained (lists_of_party e party) in
    every_number (λ l. has_list e l party ≡ true → Contains (lists_of_party e party) (item.List l party)) (lands_of e) land
    (every_unfilter (λ l. Contains (lists_of_party e party) (item.List l party)) (λ l. has_list e l party) (lands e)
    (every_unmap (Contains (lists_of_party e party)) here (filter (λ l. has_list e l party) (lands e)) all)) is.in_lands is.has

-- ---- the six stages

-- the column of that name, in what is known in the end
abbrev column_of : Known → List ℕ → Option (List ℕ)
column_of k n = option_map (λ s. s.values) (find (is_column_of n) k.columns)

-- what stands in two columns at a list, where the one has no less
room_of : (e : Election) (minima winners lower base : List ℕ) (land party : ℕ) → minima ≡ winners → base ≡ lower → list_cell e minima land party ≤ list_cell e lower land party →
    list_cell e winners land party ≤ list_cell e base land party
room_of e minima winners lower base land party won last le =
    subst (λ c. list_cell e c land party ≤ list_cell e base land party) won (subst (λ c. list_cell e minima land party ≤ list_cell e c land party) (sym last) le)

-- what the stages give: the parties have an allocation of the least house, and the lists share it and have room for their winners
record HasGrown (b : BookTree) (e : Election) (k : Known) (base : List ℕ) (amount : ℕ) : Type 0 where
  pub floor : List ℕ
  pub is_floor : column_of k (codes "floor") ≡ Some floor
  pub upper : List ℕ
  pub least : IsGrowth Webster (party_column b e) floor amount 4000 (GrownTo (sum_in e (all_parties e) upper))
  pub allocated : IsGrownAllocation Webster (party_column b e) floor (sum_in e (all_parties e) upper) (cells e (entries_of e shape.Party) upper)
  pub lists : Every (λ party. sum_in e (party_lists e party) base ≡ slice_index upper party) (parties e)
  pub room : (land party : ℕ) → IsListOf e land party → winners_on b e (land, party) ≤ base_seats e base (land, party)
  pub among : Every (λ party. IsDivisorAllocation Webster (cells e (lists_of_party e party) (fact_column b e facts.Counted)) (cells e (lists_of_party e party) (fact_column b e facts.Winners))
      (slice_index upper party) (cells e (lists_of_party e party) base)) (parties e)
  pub majorities : KeepsMajorities e (all_parties e ∷ []) (party_column b e) upper
  pub of_lists : IsFloor b e floor

-- the column of what each party must have is one of parties
floor_is : (at : ℕ → ℕ) (b : BookTree) (e : Election) (c : Context) (values : List ℕ) (r : Records) → ExprMeans b e c (floor_2013 at).expr (Column values r) → cells e (entries_of e shape.Party) values ≡ values
floor_is at b e c values r h =
    let one = then_column (ExprMeans b e c (pair (at 27) pairings.Larger (name (at 28) (codes "first")) (fact (at 29) facts.Winners))) (λ xs r. r ≡ plain (sum_over e axis.Party xs)) values r h in
    let is = plain_values (sum_over e axis.Party one.0) values one.3 one.4 in
    subst (λ c. cells e (entries_of e shape.Party) c ≡ c) (sym is) (same_column e (λ party. sum_by (λ land. list_cell e one.0 land party) (lands e)))

-- the lists of a party, by the columns that are meant
among_winners : (b : BookTree) (e : Election) (party : ℕ) (base lower upper amounts votes minima : List ℕ) →
    base ≡ lower → amounts ≡ upper → votes ≡ fact_column b e facts.Counted → minima ≡ fact_column b e facts.Winners →
    IsDivisorAllocation Webster (cells e (lists_of_party e party) votes) (cells e (lists_of_party e party) minima) (slice_index amounts party) (cells e (lists_of_party e party) lower) →
    IsDivisorAllocation Webster (cells e (lists_of_party e party) (fact_column b e facts.Counted)) (cells e (lists_of_party e party) (fact_column b e facts.Winners)) (slice_index upper party)
    (cells e (lists_of_party e party) base)
among_winners b e party base lower upper amounts votes minima last same counted won h =
    let of : List ℕ → List ℕ = λ v. cells e (lists_of_party e party) v in
    subst (λ s. IsDivisorAllocation Webster (of (fact_column b e facts.Counted)) (of (fact_column b e facts.Winners)) (slice_index upper party) (of s)) (sym last)
    (subst (λ a. IsDivisorAllocation Webster (of (fact_column b e facts.Counted)) (of (fact_column b e facts.Winners)) (slice_index a party) (of lower)) same
    (subst (λ m. IsDivisorAllocation Webster (of (fact_column b e facts.Counted)) (of m) (slice_index amounts party) (of lower)) won
    (subst (λ v. IsDivisorAllocation Webster (of v) (of minima) (slice_index amounts party) (of lower)) counted h)))

-- the lists of a Land
in_land : (b : BookTree) (e : Election) (land : ℕ) (amounts seats votes first : List ℕ) → amounts ≡ seats → votes ≡ fact_column b e facts.Counted →
    IsDivisorAllocation Webster (cells e (lists_in_land e land) votes) (no_minima (cells e (lists_in_land e land) votes)) (slice_index amounts land) (cells e (lists_in_land e land) first) →
    IsDivisorAllocation Webster (cells e (lists_in_land e land) (fact_column b e facts.Counted)) (no_minima (cells e (lists_in_land e land) (fact_column b e facts.Counted))) (slice_index seats land)
    (cells e (lists_in_land e land) first)
in_land b e land amounts seats votes first same counted h =
    let of : List ℕ → List ℕ = λ v. cells e (lists_in_land e land) v in
    subst (λ a. IsDivisorAllocation Webster (of (fact_column b e facts.Counted)) (no_minima (of (fact_column b e facts.Counted))) (slice_index a land) (of first)) same
    (subst (λ v. IsDivisorAllocation Webster (of v) (no_minima (of v)) (slice_index amounts land) (of first)) counted h)

-- a pair of columns
pair_is : (b : BookTree) (e : Election) (c : Context) (at : ℕ) (p : Pairing) (x y : ExprTree) (xs ys values : List ℕ) (r : Records) →
    ((l : List ℕ) (r : Records) → ExprMeans b e c x (Column l r) → l ≡ xs) → ((l : List ℕ) (r : Records) → ExprMeans b e c y (Column l r) → l ≡ ys) →
    ExprMeans b e c (pair at p x y) (Column values r) → values ≡ pair_of p xs ys
pair_is b e c at p x y xs ys values r left right h =
    let Pair : List ℕ → List ℕ → ExprResult → Type 0 = λ l m r. r ≡ plain (pair_of p l m) in
    let one = then_column (ExprMeans b e c x) (λ l. Then (ExprMeans b e c y) (Pair l)) values r h in
    let two = then_column (ExprMeans b e c y) (Pair one.0) values one.3 one.4 in
    plain_values (pair_of p one.0 two.0) values two.3 two.4 ∙ ap (λ l. pair_of p l two.0) (left one.0 one.1 one.2) ∙ ap (pair_of p xs) (right two.0 two.1 two.2)

abbrev land_lists : Election → ℕ → Group
land_lists e land = record { scope = scope.Land land; amount_place = land; entries = lists_in_land e land }

abbrev all_lands : Election → Group
all_lands e = record { scope = scope.All; amount_place = 0; entries = entries_of e shape.Land }

by_house : (e : Election) (amounts : List ℕ) (people votes values : List ℕ) (house : ℕ) → amounts ≡ house ∷ [] → votes ≡ people →
    IsDivisorAllocation Webster (cells e (entries_of e shape.Land) votes) (no_minima (cells e (entries_of e shape.Land) votes)) (slice_index amounts 0) (cells e (entries_of e shape.Land) values) →
    IsDivisorAllocation Webster (cells e (entries_of e shape.Land) people) (no_minima (cells e (entries_of e shape.Land) people)) house (cells e (entries_of e shape.Land) values)
by_house e amounts people votes values house same is h =
    let of : List ℕ → List ℕ = λ v. cells e (entries_of e shape.Land) v in
    subst (λ v. IsDivisorAllocation Webster (of v) (no_minima (of v)) house (of values)) is
    (subst (λ a. IsDivisorAllocation Webster (of votes) (no_minima (of votes)) (slice_index a 0) (of values)) same h)

grown : (v w m l : List ℕ) (s : List ℕ) (n k house : ℕ) → v ≡ w → m ≡ l → n ≡ k → IsGrowth Webster v m n 4000 (GrownTo house) × IsGrownAllocation Webster v m house s →
    IsGrowth Webster w l k 4000 (GrownTo house) × IsGrownAllocation Webster w l house s
grown v w m l s n k house vw ml nk h =
    subst (λ k. IsGrowth Webster w l k 4000 (GrownTo house) × IsGrownAllocation Webster w l house s) nk
    (subst (λ l. IsGrowth Webster w l n 4000 (GrownTo house) × IsGrownAllocation Webster w l house s) ml
    (subst (λ w. IsGrowth Webster w m n 4000 (GrownTo house) × IsGrownAllocation Webster w m house s) vw h))

has_grown : (at : ℕ → ℕ) (e : Election) (k : Known) → StagesMean (law_of_2013 at) e nothing_known (law_of_2013 at).stages (Through k) → (base : List ℕ) →
    IsLeaf (law_of_2013 at) e k.columns (name (at 33) (codes "lower")) base → HasGrown (law_of_2013 at) e k base (house_of (law_of_2013 at) e - sum (fact_column (law_of_2013 at) e facts.Outside))
has_grown at e k run base is =
    let b = law_of_2013 at in
    let one = ran b e nothing_known (pool at facts.Outside) (lands_2013 at ∷ first_2013 at ∷ floor_2013 at ∷ upper_2013 at ∷ lower_2013 at ∷ []) k run in
    let known_1 = with_stage nothing_known (pool at facts.Outside) one.values one.records in
    let two = ran b e known_1 (lands_2013 at) (first_2013 at ∷ floor_2013 at ∷ upper_2013 at ∷ lower_2013 at ∷ []) k one.rest in
    let known_2 = with_stage known_1 (lands_2013 at) two.values two.records in
    let three = ran b e known_2 (first_2013 at) (floor_2013 at ∷ upper_2013 at ∷ lower_2013 at ∷ []) k two.rest in
    let known_3 = with_stage known_2 (first_2013 at) three.values three.records in
    let four = ran b e known_3 (floor_2013 at) (upper_2013 at ∷ lower_2013 at ∷ []) k three.rest in
    let known_4 = with_stage known_3 (floor_2013 at) four.values four.records in
    let five = ran b e known_4 (upper_2013 at) (lower_2013 at ∷ []) k four.rest in
    let known_5 = with_stage known_4 (upper_2013 at) five.values five.records in
    let six = ran b e known_5 (lower_2013 at) [] k five.rest in
    let known_6 = with_stage known_5 (lower_2013 at) six.values six.records in
    let context_4 = context_of known_4 (upper_2013 at) in
    let context_5 = context_of known_5 (lower_2013 at) in
    let same = same_known k known_6 six.rest in
    let pooled = pool_is at facts.Outside b e (context_of nothing_known (pool at facts.Outside)) one.values one.records one.means in
    let growth = growths_allocate b e context_4 (at 9) (name (at 10) (codes "pool")) (party_votes at) Webster (name (at 30) (codes "floor")) (number at 4000 31) majority.Refuse five.values refl (five.records, five.means) in
    let first : growth.0 ≡ one.values = name_is b e context_4 growth.0 growth.1.0 (at 10) (codes "pool") one.values refl growth.1.1 in
    let votes : cells e (entries_of e shape.Party) growth.2 ≡ party_column b e =
    ap (cells e (entries_of e shape.Party)) (votes_are at b e context_4 growth.2 growth.3.0 growth.3.1) ∙ same_column e (λ party. sum_by (λ land. list_cell e (fact_column b e facts.Counted) land party) (lands e)) in
    let floor : cells e (entries_of e shape.Party) growth.4 ≡ four.values =
    ap (cells e (entries_of e shape.Party)) (name_is b e context_4 growth.4 growth.5.0 (at 30) (codes "floor") four.values refl growth.5.1)
    ∙ floor_is at b e (context_of known_3 (floor_2013 at)) four.values four.records four.means in
    let parts = grown (cells e (entries_of e shape.Party) growth.2) (party_column b e) (cells e (entries_of e shape.Party) growth.4) four.values (cells e (entries_of e shape.Party) five.values)
    (slice_index growth.0 0) (house_of b e - sum (fact_column b e facts.Outside)) (sum_in e (all_parties e) five.values) votes floor (ap (λ c. slice_index c 0) (first ∙ pooled)) (growth.6 (all_parties e) (first_in (all_parties e) [])) in
    let lower = splits_give_the_amount b e context_5 (at 12) (name (at 13) (codes "upper")) (fact (at 14) facts.Counted) (by.Divisor Webster) (atleast (fact (at 32) facts.Winners)) majority.Free six.values refl (six.records, six.means) in
    let second : lower.0 ≡ five.values = name_is b e context_5 lower.0 lower.1.0 (at 13) (codes "upper") five.values refl lower.1.1 in
    let least = splits_meet_the_minima b e context_5 (at 12) (name (at 13) (codes "upper")) (fact (at 14) facts.Counted) Webster (fact (at 32) facts.Winners) majority.Free six.values refl (six.records, six.means) in
    let won : least.4 ≡ fact_column b e facts.Winners = fact_is b e context_5 least.4 least.5.0 (at 32) facts.Winners least.5.1 in
    let is_last : base ≡ six.values = last_column (codes "lower") k known_6 base six.values same is (refl {a = Some six.values}) in
    let counted : least.2 ≡ fact_column b e facts.Counted = fact_is b e context_5 least.2 least.3.0 (at 14) facts.Counted least.3.1 in
    let amounts : least.0 ≡ five.values = name_is b e context_5 least.0 least.1.0 (at 13) (codes "upper") five.values refl least.1.1 in
    let kept = grown_majority_kept b e context_4 (at 9) (name (at 10) (codes "pool")) (party_votes at) (by.Divisor Webster) (name (at 30) (codes "floor")) (number at 4000 31) five.values refl (five.records, five.means) in
    let context_1 = context_of known_1 (lands_2013 at) in
    let context_2 = context_of known_2 (first_2013 at) in
    let context_3 = context_of known_3 (floor_2013 at) in
    let peopled = splits_allocate b e context_1 (at 16) (fact (at 17) facts.House) (fact (at 18) facts.Population) (by.Divisor Webster) majority.Free two.values refl (two.records, two.means) in
    let handed = splits_allocate b e context_2 (at 20) (pair (at 21) pairings.Less (name (at 22) (codes "lands")) (fact (at 23) facts.Outside)) (fact (at 24) facts.Counted) (by.Divisor Webster) majority.Free three.values refl
    (three.records, three.means) in
    let left : handed.0 ≡ pair_of pairings.Less two.values (fact_column b e facts.Outside) =
    pair_is b e context_2 (at 21) pairings.Less (name (at 22) (codes "lands")) (fact (at 23) facts.Outside) two.values (fact_column b e facts.Outside) handed.0 handed.1.0
    (λ l r h. name_is b e context_2 l r (at 22) (codes "lands") two.values refl h) (λ l r h. fact_is b e context_2 l r (at 23) facts.Outside h) handed.1.1 in
    let by_lists : handed.2 ≡ fact_column b e facts.Counted = fact_is b e context_2 handed.2 handed.3.0 (at 24) facts.Counted handed.3.1 in
    let floored = then_column (ExprMeans b e context_3 (pair (at 27) pairings.Larger (name (at 28) (codes "first")) (fact (at 29) facts.Winners))) (λ xs r. r ≡ plain (sum_over e axis.Party xs)) four.values four.records four.means in
    record {
      floor = four.values;
      among = every_weaker (λ party. Contains (scopes e shape.Party shape.List) (party_lists e party))
          (λ party. IsDivisorAllocation Webster (cells e (lists_of_party e party) (fact_column b e facts.Counted)) (cells e (lists_of_party e party) (fact_column b e facts.Winners)) (slice_index five.values party)
          (cells e (lists_of_party e party) base))
          (λ party there. among_winners b e party base six.values five.values least.0 least.2 least.4 is_last amounts counted won (least.6 (party_lists e party) there)) (parties e) (each_scope e);
      majorities = subst (λ votes. KeepsMajorities e (all_parties e ∷ []) votes five.values) (votes_are at b e context_4 kept.0 kept.1.0 kept.1.1) kept.2;
      of_lists = record {
        lands = two.values;
        by_people = by_house e peopled.0 (fact_column b e facts.Population) peopled.2 two.values (house_of b e)
            (fact_is b e context_1 peopled.0 peopled.1.0 (at 17) facts.House peopled.1.1) (fact_is b e context_1 peopled.2 peopled.3.0 (at 18) facts.Population peopled.3.1)
            (peopled.4 (all_lands e) (first_in (all_lands e) []));
        first = three.values;
        by_votes = λ land within.
            in_land b e land handed.0 (pair_of pairings.Less two.values (fact_column b e facts.Outside)) handed.2 three.values left by_lists
            (handed.4 (land_lists e land) (every_number (λ land. Contains (scopes e shape.Land shape.List) (land_lists e land)) (lands_of e) land
            (every_unmap (Contains (scopes e shape.Land shape.List)) (land_lists e) (lands e) (contained (scopes e shape.Land shape.List))) within));
        of_lists = plain_values (sum_over e axis.Party floored.0) four.values floored.3 floored.4
            ∙ ap (sum_over e axis.Party) (pair_is b e context_3 (at 27) pairings.Larger (name (at 28) (codes "first")) (fact (at 29) facts.Winners) three.values (fact_column b e facts.Winners) floored.0 floored.1
            (λ l r h. name_is b e context_3 l r (at 28) (codes "first") three.values refl h) (λ l r h. fact_is b e context_3 l r (at 29) facts.Winners h) floored.2);
      };
      is_floor = ap (λ k. column_of k (codes "floor")) same;
      upper = five.values;
      least = parts.0;
      allocated = parts.1;
      lists = every_weaker (λ party. Contains (scopes e shape.Party shape.List) (party_lists e party)) (λ party. sum_in e (party_lists e party) base ≡ slice_index five.values party)
          (λ party there. amount_is e base six.values party lower.0 five.values is_last (lower.2 (party_lists e party) there) second) (parties e) (each_scope e);
      room = λ land party listed.
          let there = every_number (λ party. Contains (scopes e shape.Party shape.List) (party_lists e party)) (parties_of e) party (each_scope e) listed.in_parties in
          room_of e least.4 (fact_column b e facts.Winners) six.values base land party won is_last
          (no_less e (party_lists e party) least.4 six.values (least.6 (party_lists e party) there).minima (item.List land party) (own_list e land party listed));
    }

-- ---- the law

zip_both : {X Y : Type 0} (P : X → Type 0) (R S : X → Y → Type 0) → ((x : X) (y : Y) → P x → R x y → S x y) → (xs : List X) (ys : List Y) → Every P xs → AllZip R xs ys → AllZip S xs ys
zip_both P R S imp [] [] each all = tt
zip_both P R S imp [] (y ∷ ys) each all = absurd all
zip_both P R S imp (x ∷ xs) [] each all = absurd all
zip_both P R S imp (x ∷ xs) (y ∷ ys) each all = (imp x y each.0 all.0, zip_both P R S imp xs ys each.1 all.1)

line_of : (b : BookTree) (e : Election) (base : List ℕ) (l : ℕ × ℕ) (s : ListSeats) → winners_on b e l ≤ base_seats e base l → IsLine l (max (base_seats e base l) (winners_on b e l)) (winners_on b e l) s →
    IsLine l (base_seats e base l) (winners_on b e l) s
line_of b e base l s room is = let all = is.seats in record { land = is.land; party = is.party; seats = omega (arith, all, room); direct = is.direct }

module _ (at : ℕ → ℕ) (e : Election) (t : SeatTable) (is : IsElection e) (means : Means (law_of_2013 at) e (outcome.Table t)) (base : List ℕ) (h : IsBase (law_of_2013 at) e base) where
  abbrev b : BookTree
  b = law_of_2013 at

  g : HasGrown b e h.known base (house_of b e - sum (fact_column b e facts.Outside))
  g = has_grown at e h.known h.through base h.is

  room : Every (λ l. winners_on b e l ≤ base_seats e base l) (lists_of e)
  room = every_weaker (λ l. IsListOf e l.0 l.1) (λ l. winners_on b e l ≤ base_seats e base l) (λ l listed. g.room l.0 l.1 listed) (lists_of e) (are_lists e)

  -- each list has its base, with all its winners
  lines : AllZip (λ l. IsLine l (base_seats e base l) (winners_on b e l)) (lists_of e) t.lists
  lines =
      zip_both (λ l. winners_on b e l ≤ base_seats e base l) (λ l. IsLine l (max (base_seats e base l) (winners_on b e l)) (winners_on b e l)) (λ l. IsLine l (base_seats e base l) (winners_on b e l))
      (λ l s fits line. line_of b e base l s fits line) (lists_of e) t.lists room (keep_total b e base t refl is refl h means).0

  -- and each party what the stage `upper` gives it
  seats : Every (λ party. slice_index g.upper party ≡ party_seats t party) (parties e)
  seats =
      every_both (λ party. sum_in e (party_lists e party) base ≡ slice_index g.upper party) (λ party. party < parties_of e) (λ party. slice_index g.upper party ≡ party_seats t party)
      (λ party has within. sym has ∙ sym (lines_sum e base party within (winners_on b e) t lines)) (parties e) g.lists (below (parties_of e))

  of_each : (party : ℕ) → party < parties_of e → slice_index g.upper party ≡ party_seats t party
  of_each party within = every_number (λ party. slice_index g.upper party ≡ party_seats t party) (parties_of e) party seats within

  column : cells e (entries_of e shape.Party) g.upper ≡ seats_column e t
  column = scope_column e g.upper (party_seats t) seats

  among : (party : ℕ) → party < parties_of e →
      IsDivisorAllocation Webster (cells e (lists_of_party e party) (fact_column b e facts.Counted)) (cells e (lists_of_party e party) (fact_column b e facts.Winners)) (party_seats t party)
      (cells e (lists_of_party e party) base)
  among party within =
      subst (λ n. IsDivisorAllocation Webster (cells e (lists_of_party e party) (fact_column b e facts.Counted)) (cells e (lists_of_party e party) (fact_column b e facts.Winners)) n (cells e (lists_of_party e party) base))
      (of_each party within)
      (every_number (λ party. IsDivisorAllocation Webster (cells e (lists_of_party e party) (fact_column b e facts.Counted)) (cells e (lists_of_party e party) (fact_column b e facts.Winners)) (slice_index g.upper party)
      (cells e (lists_of_party e party) base)) (parties_of e) party g.among within)

  kept_majority : 0 < sum (seats_column e t) → (party : ℕ) → sum (party_column b e) < 2 * slice_index (party_column b e) party → sum (seats_column e t) < 2 * party_seats t party
  kept_majority some party more =
      let V = party_column b e in
      let within : party < parties_of e = elim (cases_lt party (parties_of e)) [
        | inl l ↦ l
        | inr past ↦ absurd (let z : get_or V party 0 ≡ 0 = past_parties e (λ p. sum_by (λ land. list_cell e (fact_column b e facts.Counted) land p) (lands e)) party past in omega (arith, z, more))
      ] in
      let here = of_each party within in
      let all : sum_in e (all_parties e) g.upper ≡ sum (seats_column e t) = ap sum column in
      let votes : sum_in e (all_parties e) V ≡ sum V = ap sum (same_column e (λ p. sum_by (λ land. list_cell e (fact_column b e facts.Counted) land p) (lands e))) in
      let kept : sum_in e (all_parties e) g.upper < 2 * slice_index g.upper party =
      g.majorities (all_parties e) (first_in (all_parties e) []) (omega (arith, all, some)) (item.Party party) (listed e party within) (omega (arith, votes, more)) in
      omega (arith, kept, all, here)

  grows : GrowsToFit b e t
  grows =
      let house = sum_in e (all_parties e) g.upper in
      let none : overhang b e base ≡ 0 =
      sum_agree (λ l. winners_on b e l - base_seats e base l) (λ l. 0) (lists_of e)
      (every_weaker (λ l. winners_on b e l ≤ base_seats e base l) (λ l. winners_on b e l - base_seats e base l ≡ 0) (λ l fits. omega (arith, fits)) (lists_of e) room)
      ∙ sum_zero (lists_of e) in
      let all : sum base ≡ house = sym (sum_of_base b e base refl is h) ∙ shared_out e base g.upper g.lists house refl in
      let total = (keep_total b e base t refl is refl h means).1 in
      let taken = outside_in_all b e is in
      let least = subst (λ n. IsGrowth Webster (party_column b e) g.floor (house_of b e - n) 4000 (GrownTo house)) taken g.least in
      let from = least.1.from in
      record {
        floor = g.floor;
        is_stage = record { known = h.known; through = h.through; is = g.is_floor };
        is_floor = g.of_lists;
        house = house;
        least = least;
        greatest = ((closed_house (party_column b e) g.floor (house_of b e - outside b e) 4000 house).0 least).2;
        parties = subst (IsGrownAllocation Webster (party_column b e) g.floor house) column g.allocated;
        base = base;
        is_base = h;
        lists = all;
        no_overhang = none;
        total = omega (arith, total, none, all);
        no_smaller = omega (arith, total, none, all, from);
      }

pub house_of_2013 : HouseOf2013
house_of_2013 at e t is means = let end = end_of (law_of_2013 at) e t means in grows at e t is means end.base end.is_base

pub lists_of_2013 : ListsOf2013
lists_of_2013 at e t base is h means = (lines at e t is means base h, among at e t is means base h)

pub majority_of_2013 : MajorityOf2013
majority_of_2013 at e t is means some party more =
    let end = end_of (law_of_2013 at) e t means in kept_majority at e t is means end.base end.is_base some party more

pub parties_of_2013 : PartiesOf2013
parties_of_2013 at e t is means some votes =
    let b = law_of_2013 at in
    let h = house_of_2013 at e t is means in
    grown_by_votes Webster (party_column b e) h.floor h.house (seats_column e t) h.parties some votes

-- What the three stages `pool`, `upper` and `lower` give the lists in all.
use Rattle.std.proofs.Common.{◌≡◌, ℕ, suc, ◌-◌, ◌<◌, ◌&&◌, Bool, not, cond, List, [], ◌∷◌, Option, Some, length, map, filter, sum, sum_by, count_by, arith, refl, sym, ap, subst, ◌∙◌}
use Rattle.std.specs.Prelude.{Contains, is_none, slice_index, find, option_map, codes}
use Rattle.std.specs.List.{AllByRecursion as Every}
use Rattle.std.proofs.lemmas.Option.{same_Some}
use Rattle.std.proofs.lemmas.List.Sums.{sum-map}
use Rattle.sl_base_quotients.specs.declared.method.Method.{Method}
use Rattle.sl_base_quotients.specs.declared.method.Method.TheVariants as by
use Rattle.sl_law_meaning.specs.declared.book.Majority.{Majority}
use Rattle.sl_law_meaning.specs.declared.book.Majority.TheVariants as majority
use Rattle.sl_base_terms.specs.declared.shape.Shape.TheVariants as shape
use Rattle.sl_law_meaning.specs.declared.fact.Fact.{Fact}
use Rattle.sl_law_meaning.specs.declared.fact.Fact.TheVariants as facts
use Rattle.sl_law_meaning.specs.declared.fault.Scope.TheVariants as scope
use Rattle.sl_law_meaning.specs.declared.fault.Item.TheVariants as item
use Rattle.sl_law_meaning.specs.declared.election.Win.{Win}
use Rattle.sl_law_meaning.specs.book.Trees.{fact, name, split, without, BookTree}
use Rattle.sl_law_meaning.specs.returns.Election.{Election, IsElection, IsWin, lands_of, parties_of, has_list}
use Rattle.sl_law_meaning.specs.returns.Facts.{lands, parties, lists_of, list_cell, is_in, is_on_list}
use Rattle.sl_law_meaning.specs.meaning.Columns.{IsLeaf, is_column_of, fact_column}
use Rattle.sl_law_meaning.specs.methods.Field.{no_minima}
use Rattle.sl_law_meaning.specs.meaning.Scopes.{Group, place, cells, scopes, entries_of, lists_of_party}
use Rattle.sl_law_meaning.specs.meaning.Splits.{IsAllocation}
use Rattle.sl_law_meaning.specs.meaning.Means.{Known, Through, nothing_known, context_of, with_stage, StagesMean}
use Rattle.sl_law_meaning.proofs.meaning.DistinctLists.{every_weaker, always}
use Rattle.sl_law_fairness.specs.Winners.{base_seats, outside, independents}
use Rattle.sl_law_fairness.specs.Amounts.{ComesToColumn, sum_in, KeepsMajorities}
use Rattle.sl_law_fairness.proofs.ListColumns.{sum_agree, sum_mapped, sum_pieces}
use Rattle.sl_law_fairness.proofs.Amounts.{splits_allocate, splits_give_the_amount, majority_kept}
use Rattle.sl_law_statutes.specs.Trees.{pool, upper, lower, party_votes, shares}
use Rattle.sl_law_statutes.specs.Houses.{house_of}
use Rattle.sl_law_statutes.specs.Parties.{party_column}
use Rattle.sl_law_statutes.proofs.Sums.{every_of, sum_filter, sum_swap, sum_of_lands}
use Rattle.sl_law_statutes.proofs.Runs.{ran, same_known, fact_is, name_is, pool_is, votes_are}

-- ---- a list contains its elements

pub first_in : {X : Type 0} (x : X) (xs : List X) → Contains (x ∷ xs) x
first_in x xs = (0, omega arith, refl)

later_in : {X : Type 0} (x : X) (xs : List X) (y : X) → Contains xs y → Contains (x ∷ xs) y
later_in x xs y h = (suc h.0, (let less : h.0 < length xs = h.1 in omega arith), h.2)

pub contained : {X : Type 0} (xs : List X) → Every (Contains xs) xs
contained [] = tt
contained (x ∷ xs) = (first_in x xs, every_weaker (Contains xs) (Contains (x ∷ xs)) (later_in x xs) xs (contained xs))

pub every_unmap : {X Y : Type 0} (P : Y → Type 0) (f : X → Y) (xs : List X) → Every P (map f xs) → Every (λ x. P (f x)) xs
every_unmap P f [] all = tt
every_unmap P f (x ∷ xs) all = (all.0, every_unmap P f xs all.1)

-- ---- the lists by Länder and by parties

abbrev pub all_parties : Election → Group
all_parties e = record { scope = scope.All; amount_place = 0; entries = entries_of e shape.Party }

abbrev pub party_lists : Election → ℕ → Group
party_lists e party = record { scope = scope.Party party; amount_place = party; entries = lists_of_party e party }

module _ (e : Election) (column : List ℕ) where
  -- the numbers of a party's lists
  pub of_party : (party : ℕ) → sum_in e (party_lists e party) column ≡ sum_by (λ land. cond (has_list e land party) (list_cell e column land party) 0) (lands e)
  of_party party =
      sum-map (λ i. slice_index column (place e i)) (lists_of_party e party)
      ∙ sum_mapped (λ i. slice_index column (place e i)) (λ land. item.List land party) (filter (λ land. has_list e land party) (lands e))
      ∙ sum_filter (λ land. has_list e land party) (λ land. list_cell e column land party) (lands e)

  -- those in a Land
  in_land : (land : ℕ) → sum_by (base_seats e column) (map (λ party. (land, party)) (filter (has_list e land) (parties e))) ≡ sum_by (λ party. cond (has_list e land party) (list_cell e column land party) 0) (parties e)
  in_land land =
      sum_mapped (base_seats e column) (λ party. (land, party)) (filter (has_list e land) (parties e))
      ∙ sum_filter (has_list e land) (list_cell e column land) (parties e)

  -- all lists are those of all parties
  by_parties : sum_by (base_seats e column) (lists_of e) ≡ sum_by (λ party. sum_in e (party_lists e party) column) (parties e)
  by_parties =
      let rows : ℕ → ℕ = λ land. sum_by (base_seats e column) (map (λ party. (land, party)) (filter (has_list e land) (parties e))) in
      let cell : ℕ → ℕ → ℕ = λ land party. cond (has_list e land party) (list_cell e column land party) 0 in
      sum_pieces (base_seats e column) (λ land. map (λ party. (land, party)) (filter (has_list e land) (parties e))) (lands e)
      ∙ sum_agree rows (λ land. sum_by (cell land) (parties e)) (lands e) (always (λ land. rows land ≡ sum_by (cell land) (parties e)) in_land (lands e))
      ∙ sum_swap cell (lands e) (parties e)
      ∙ sum_agree (λ party. sum_by (λ land. cell land party) (lands e)) (λ party. sum_in e (party_lists e party) column) (parties e)
      (always (λ party. sum_by (λ land. cell land party) (lands e) ≡ sum_in e (party_lists e party) column) (λ party. sym (of_party party)) (parties e))

  -- the numbers of all parties in a column of theirs
  whole : sum_in e (all_parties e) column ≡ sum_by (λ party. slice_index column party) (parties e)
  whole =
      sum-map (λ i. slice_index column (place e i)) (entries_of e shape.Party)
      ∙ sum_mapped (λ i. slice_index column (place e i)) (λ party. item.Party party) (parties e)

-- ---- the lists share the pool

pub amount_is : (e : Election) (base lower : List ℕ) (party : ℕ) (amounts column : List ℕ) → base ≡ lower → sum_in e (party_lists e party) lower ≡ slice_index amounts party → amounts ≡ column →
    sum_in e (party_lists e party) base ≡ slice_index column party
amount_is e base lower party amounts column last is same = ap (sum_in e (party_lists e party)) last ∙ is ∙ ap (λ c. slice_index c party) same

-- the column of that name, in what is known in the end
abbrev column_in : List ℕ → Known → Option (List ℕ)
column_in n k = option_map (λ s. s.values) (find (is_column_of n) k.columns)

pub last_column : (n : List ℕ) (k end : Known) (base column : List ℕ) → k ≡ end → column_in n k ≡ Some base → column_in n end ≡ Some column → base ≡ column
last_column n k end base column same is found = same_Some base column (sym is ∙ ap (column_in n) same ∙ found)

-- where each party's lists have in all what the party has, and the parties have in all so many seats, the lists have so many
pub shared_out : (e : Election) (base upper : List ℕ) → Every (λ party. sum_in e (party_lists e party) base ≡ slice_index upper party) (parties e) →
    (n : ℕ) → sum_in e (all_parties e) upper ≡ n → sum_by (base_seats e base) (lists_of e) ≡ n
shared_out e base upper each n all =
    by_parties e base
    ∙ sum_agree (λ party. sum_in e (party_lists e party) base) (λ party. slice_index upper party) (parties e) each
    ∙ sym (whole e upper)
    ∙ all

-- each party is a scope of its lists
pub each_scope : (e : Election) → Every (λ party. Contains (scopes e shape.Party shape.List) (party_lists e party)) (parties e)
each_scope e = every_unmap (Contains (scopes e shape.Party shape.List)) (party_lists e) (parties e) (contained (scopes e shape.Party shape.List))

-- the lists of a party have among them an allocation of what it has, by their counted votes
abbrev pub IsShared : Method → BookTree → Election → List ℕ → List ℕ → ℕ → Type 0
IsShared method b e base upper party =
    let votes = cells e (lists_of_party e party) (fact_column b e facts.Counted) in
    IsAllocation method majority.Free votes (no_minima votes) (slice_index upper party) (cells e (lists_of_party e party) base)

among_is : (method : Method) (b : BookTree) (e : Election) (party : ℕ) (base lower upper amounts votes : List ℕ) → base ≡ lower → amounts ≡ upper → votes ≡ fact_column b e facts.Counted →
    IsAllocation method majority.Free (cells e (lists_of_party e party) votes) (no_minima (cells e (lists_of_party e party) votes)) (slice_index amounts party) (cells e (lists_of_party e party) lower) →
    IsShared method b e base upper party
among_is method b e party base lower upper amounts votes last same counted h =
    let of : List ℕ → List ℕ = λ v. cells e (lists_of_party e party) v in
    subst (λ s. IsAllocation method majority.Free (of (fact_column b e facts.Counted)) (no_minima (of (fact_column b e facts.Counted))) (slice_index upper party) (of s)) (sym last)
    (subst (λ a. IsAllocation method majority.Free (of (fact_column b e facts.Counted)) (no_minima (of (fact_column b e facts.Counted))) (slice_index a party) (of lower)) same
    (subst (λ v. IsAllocation method majority.Free (of v) (no_minima (of v)) (slice_index amounts party) (of lower)) counted h))

-- the parties have an allocation of the pool, and their lists have what they have
pub record AreShared (method : Method) (m : Majority) (b : BookTree) (e : Election) (base : List ℕ) (amount : ℕ) : Type 0 where
  pub upper : List ℕ
  pub votes : List ℕ
  pub by_votes : votes ≡ party_column b e
  pub allocated : IsAllocation method m (cells e (entries_of e shape.Party) votes) (no_minima (cells e (entries_of e shape.Party) votes)) amount (cells e (entries_of e shape.Party) upper)
  pub lists : Every (λ party. sum_in e (party_lists e party) base ≡ slice_index upper party) (parties e)
  pub majorities : m ≡ majority.Refuse → KeepsMajorities e (all_parties e ∷ []) votes upper
  pub among : Every (IsShared method b e base upper) (parties e)

pub all_given : (method : Method) (m : Majority) (v min : List ℕ) (amount : ℕ) (s : List ℕ) → IsAllocation method m v min amount s → sum s ≡ amount
all_given (by.Divisor d) m v min amount s is = is.total
all_given by.Hamilton m v min amount s is = is.total

pub lists_have : (method : Method) (m : Majority) (b : BookTree) (e : Election) (base : List ℕ) (amount : ℕ) → AreShared method m b e base amount → sum_by (base_seats e base) (lists_of e) ≡ amount
lists_have method m b e base amount h =
    let V = cells e (entries_of e shape.Party) h.votes in
    shared_out e base h.upper h.lists amount (all_given method m V (no_minima V) amount (cells e (entries_of e shape.Party) h.upper) h.allocated)

module _ (at : ℕ → ℕ) (told : Fact) (method : Method) (m : Majority) (b : BookTree) (e : Election) where
  pub lists_share : (k : Known) → StagesMean b e nothing_known (shares at told method m) (Through k) → (base : List ℕ) → IsLeaf b e k.columns (name (at 33) (codes "lower")) base →
      AreShared method m b e base (house_of b e - sum (fact_column b e told))
  lists_share k run base is =
      let one = ran b e nothing_known (pool at told) (upper at method m ∷ lower at method ∷ []) k run in
      let known_1 = with_stage nothing_known (pool at told) one.values one.records in
      let two = ran b e known_1 (upper at method m) (lower at method ∷ []) k one.rest in
      let known_2 = with_stage known_1 (upper at method m) two.values two.records in
      let three = ran b e known_2 (lower at method) [] k two.rest in
      let known_3 = with_stage known_2 (lower at method) three.values three.records in
      let context_1 = context_of known_1 (upper at method m) in
      let context_2 = context_of known_2 (lower at method) in
      let pooled = pool_is at told b e (context_of nothing_known (pool at told)) one.values one.records one.means in
      let of_pool = splits_allocate b e context_1 (at 9) (name (at 10) (codes "pool")) (party_votes at) method m two.values refl (two.records, two.means) in
      let first : of_pool.0 ≡ one.values = name_is b e context_1 of_pool.0 of_pool.1.0 (at 10) (codes "pool") one.values refl of_pool.1.1 in
      let of_upper = splits_give_the_amount b e context_2 (at 12) (name (at 13) (codes "upper")) (fact (at 14) facts.Counted) method without majority.Free three.values refl (three.records, three.means) in
      let second : of_upper.0 ≡ two.values = name_is b e context_2 of_upper.0 of_upper.1.0 (at 13) (codes "upper") two.values refl of_upper.1.1 in
      let is_last : base ≡ three.values =
      last_column (codes "lower") k known_3 base three.values (same_known k known_3 three.rest) is (refl {a = Some three.values}) in
      let V = cells e (entries_of e shape.Party) of_pool.2 in
      record {
        upper = two.values;
        votes = of_pool.2;
        by_votes = votes_are at b e context_1 of_pool.2 of_pool.3.0 of_pool.3.1;
        allocated = subst (λ n. IsAllocation method m V (no_minima V) n (cells e (entries_of e shape.Party) two.values))
            (ap (λ c. slice_index c 0) (first ∙ pooled)) (of_pool.4 (all_parties e) (first_in (all_parties e) []));
        lists = every_weaker (λ party. Contains (scopes e shape.Party shape.List) (party_lists e party)) (λ party. sum_in e (party_lists e party) base ≡ slice_index two.values party)
            (λ party there. amount_is e base three.values party of_upper.0 two.values is_last (of_upper.2 (party_lists e party) there) second) (parties e) (each_scope e);
        majorities = λ refuse.
            let kept = majority_kept b e context_1 (at 9) (name (at 10) (codes "pool")) (party_votes at) method without two.values refl
            (subst (λ m. ComesToColumn b e context_1 (split (at 9) (name (at 10) (codes "pool")) (party_votes at) method without m) two.values) refuse (two.records, two.means)) in
            let same : kept.0 ≡ of_pool.2 = votes_are at b e context_1 kept.0 kept.1.0 kept.1.1 ∙ sym (votes_are at b e context_1 of_pool.2 of_pool.3.0 of_pool.3.1) in
            subst (λ votes. KeepsMajorities e (all_parties e ∷ []) votes two.values) same kept.2;
        among =
            let shared = splits_allocate b e context_2 (at 12) (name (at 13) (codes "upper")) (fact (at 14) facts.Counted) method majority.Free three.values refl (three.records, three.means) in
            let amounts : shared.0 ≡ two.values = name_is b e context_2 shared.0 shared.1.0 (at 13) (codes "upper") two.values refl shared.1.1 in
            let votes : shared.2 ≡ fact_column b e facts.Counted = fact_is b e context_2 shared.2 shared.3.0 (at 14) facts.Counted shared.3.1 in
            every_weaker (λ party. Contains (scopes e shape.Party shape.List) (party_lists e party)) (IsShared method b e base two.values)
            (λ party there. among_is method b e party base three.values two.values shared.0 shared.2 is_last amounts votes (shared.4 (party_lists e party) there)) (parties e) (each_scope e);
      }

-- ---- the winners that are taken from the house

winners_of_lands : (e : Election) → IsElection e → (q : Win → Bool) → sum (map (λ land. count_by (λ w. is_in land w && q w) e.wins) (lands e)) ≡ count_by q e.wins
winners_of_lands e is q =
    sum-map (λ land. count_by (λ w. is_in land w && q w) e.wins) (lands e)
    ∙ sum_of_lands q (lands_of e) e.wins (every_weaker (IsWin (lands_of e) (parties_of e)) (λ w. w.land < lands_of e) (λ w h. h.land) e.wins (every_of (IsWin (lands_of e) (parties_of e)) e.wins is.places))

pub outside_in_all : (b : BookTree) (e : Election) → IsElection e → sum (fact_column b e facts.Outside) ≡ outside b e
outside_in_all b e is = winners_of_lands e is (λ w. not (is_on_list b.eligible e w))

pub independents_in_all : (b : BookTree) (e : Election) → IsElection e → sum (fact_column b e facts.Independents) ≡ independents e
independents_in_all b e is = winners_of_lands e is (λ w. is_none w.party)

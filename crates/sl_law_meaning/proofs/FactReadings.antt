-- What the facts of the returns say: who is eligible, and how the winners of a Land are parted.
use Rattle.std.proofs.Common.{◌≡◌, ℕ, zero, suc, ◌+◌, ◌*◌, ◌<◌, ◌≤◌, ◌&&◌, Bool, true, false, not, cond, List, [], ◌∷◌, Option, Some, None, is_none, is_some, nat_eq, length, get_or, count_by, arith, refl, sym, ap, ◌∙◌, inl, inr}
use Rattle.std.specs.Prelude.{if◌then◌else◌, slice_get, slice_index_or, sum_by}
use Rattle.std.specs.List.{All, range_with_len}
use Rattle.std.proofs.Math.Bool.{and-true}
use Rattle.std.proofs.lemmas.Bool.{cases_eq, cases_lt, and_parts, and_left, and_right, eq-eqb, ne_eqb, leb-true, le-leb, both_ways, cond-true, cond-false, cond_both, false≢true}
use Rattle.std.proofs.lemmas.List.{get_or_past}
use Rattle.std.proofs.lemmas.List.Folds.{Any-from_list_any, list_any-from_Any}
use Rattle.std.proofs.lemmas.List.Sums.{sum_by-cons, sum_by-le, sum_by-le-sum_by}
use Rattle.std.proofs.lemmas.Option.{get_or_from_slice_get}
use Rattle.std.proofs.lemmas.List.Elements.{All-head, All-tail, All-get_or}
use Rattle.std.proofs.lemmas.List.FromFn.{get_or-map-range_with_len}
use Rattle.sl_law_meaning.specs.declared.book.Cond.{Cond}
use Rattle.sl_law_meaning.specs.declared.book.Cond.TheVariants as condition
use Rattle.sl_law_meaning.specs.declared.election.ListVotes.{ListVotes}
use Rattle.sl_law_meaning.specs.declared.election.Win.{Win}
use Rattle.sl_law_meaning.specs.returns.Votes.{counted_in}
use Rattle.sl_law_meaning.specs.returns.Election.{Election, IsWin, EndsBefore, lands_of, parties_of, list_at, has_list}
use Rattle.sl_law_meaning.specs.returns.Facts.{parties, list_cell, is_of, is_in, valid_votes, all_valid_votes, meets, is_eligible, takes_part, is_on_list, counted_votes, list_winners, outside_winners, independent_winners}
use Rattle.sl_law_meaning.specs.laws.ReturnsLaws.{ListsAreNamed, MeetsCondition, EligibleParties, FactsOfLists, FactsOfLands}
use Rattle.sl_law_meaning.proofs.meaning.ListPlaces.{by_list_at}
use Rattle.sl_law_meaning.proofs.meaning.PlacedWinners.{when_both}
use Rattle.sl_law_meaning.proofs.meaning.TypedColumns.{nothing_counted}

-- ---- lists

some_list : (cells : List (List (Option ListVotes))) (lands parties land party : ℕ) → length cells ≡ lands → All (EndsBefore parties) cells →
    is_some (get_or (get_or cells land []) party None) ≡ true → (land < lands) × (party < parties)
some_list cells lands parties land party long ends h =
    elim (cases_lt land lands) [
      | inr past ↦ absurd (false≢true (sym (ap (λ row. is_some (get_or row party None)) (get_or_past cells land [] (omega (arith, past, long)))) ∙ h))
      | inl in_lands ↦ elim (cases_lt party parties) [
        | inl in_parties ↦ (in_lands, in_parties)
        | inr past ↦
            absurd (false≢true (sym (ap is_some (All-get_or (EndsBefore parties) cells land [] (omega (arith, in_lands, long)) ends party past)) ∙ h))
      ]
    ]

pub lists_are_named : ListsAreNamed
lists_are_named e land party is h = some_list e.cells (lands_of e) (parties_of e) land party is.rows is.ends h

-- ---- who is eligible

flag_at : (flags : List Bool) (i : ℕ) → slice_index_or flags i false ≡ true → slice_get flags i ≡ Some true
flag_at [] i h = absurd (false≢true h)
flag_at (x ∷ flags) zero h = ap Some h
flag_at (x ∷ flags) (suc i) h = flag_at flags i h

condition_met : (e : Election) (party : ℕ) (c : Cond) → meets e party c ≡ true → MeetsCondition e party c
condition_met e party (condition.Valid n d) h = leb-true (n.value * all_valid_votes e) (d * valid_votes e party) h
condition_met e party (condition.Winners least) h = leb-true least (count_by (is_of party) e.wins) h
condition_met e party condition.Minority h = flag_at e.minorities party h
condition_met e party condition.All h = tt

met_condition : (e : Election) (party : ℕ) (c : Cond) → MeetsCondition e party c → meets e party c ≡ true
met_condition e party (condition.Valid n d) h = le-leb (n.value * all_valid_votes e) (d * valid_votes e party) h
met_condition e party (condition.Winners least) h = le-leb least (count_by (is_of party) e.wins) h
met_condition e party condition.Minority h = get_or_from_slice_get e.minorities party true false h
met_condition e party condition.All h = refl

pub eligible_parties : EligibleParties
eligible_parties conditions e party = (
  λ h. let found = Any-from_list_any (meets e party) conditions h in (found.1, (found.0, found.2, found.3), condition_met e party found.1 found.4),
  λ h. list_any-from_Any (meets e party) conditions (h.1.0, h.0, h.1.1, h.1.2, met_condition e party h.0 h.2),
)

-- ---- of a pair of Land and party

pub facts_of_lists : FactsOfLists
facts_of_lists conditions e land party in_lands in_parties =
    let eligible = is_eligible conditions e party in
    let votes = counted_in (list_at e land party) in
    let won = count_by (λ w. is_in land w && is_of party w) e.wins in
    let counted : list_cell e (counted_votes conditions e) land party ≡ (if eligible then votes else 0) =
    by_list_at e (λ land party. if is_eligible conditions e party then counted_in (list_at e land party) else 0) land party in_lands in_parties in
    let winners : list_cell e (list_winners conditions e) land party ≡ (if takes_part conditions e land party then won else 0) =
    by_list_at e (λ land party. if takes_part conditions e land party then count_by (λ w. is_in land w && is_of party w) e.wins else 0) land party in_lands in_parties in
    record {
      counted = λ part. counted ∙ cond-true eligible votes 0 (and_parts eligible (has_list e land party) part).0;
      winners = λ part. winners ∙ cond-true (takes_part conditions e land party) won 0 part;
      no_list = λ no. (
        counted ∙ nothing_counted eligible (list_at e land party) no,
        winners ∙ cond-false (takes_part conditions e land party) won 0 (and_right eligible (has_list e land party) no),
      );
      not_eligible = λ no. (
        counted ∙ cond-false eligible votes 0 no,
        winners ∙ cond-false (takes_part conditions e land party) won 0 (and_left eligible (has_list e land party) no),
      );
    }

-- ---- of a Land

-- a sum in which only one number has a term
no_term : (f : ℕ → ℕ) (q a n : ℕ) → ((p : ℕ) → ¬ (q ≡ p) → f p ≡ 0) → q < a → sum_by f (range_with_len a n) ≡ 0
no_term f q a zero none before = refl
no_term f q a (suc n) none before =
    let first = none a (λ is. let h : q ≡ a = is in omega (arith, h)) in
    sum_by-cons f a (range_with_len (a + 1) n) ∙ omega (arith, first, no_term f q (a + 1) n none (omega arith))

one_term : (f : ℕ → ℕ) (q a n : ℕ) → ((p : ℕ) → ¬ (q ≡ p) → f p ≡ 0) → a ≤ q → q < a + n → sum_by f (range_with_len a n) ≡ f q
one_term f q a zero none from within = absurd (omega arith)
one_term f q a (suc n) none from within =
    elim (cases_eq q a) [
      | inl here ↦ sum_by-cons f a (range_with_len (a + 1) n) ∙ omega (arith, no_term f q (a + 1) n none (omega (arith, here)), ap f here)
      | inr later ↦ sum_by-cons f a (range_with_len (a + 1) n) ∙ omega (arith, none a later, one_term f q (a + 1) n none (omega arith) (omega arith))
    ]

sum_each : (f g : ℕ → ℕ) → ((p : ℕ) → f p ≡ g p) → (ps : List ℕ) → sum_by f ps ≡ sum_by g ps
sum_each f g same ps = omega (arith, sum_by-le-sum_by f g ps (λ p. omega (arith, same p)), sum_by-le-sum_by g f ps (λ p. omega (arith, same p)))

sum_both : (f g : ℕ → ℕ) (ps : List ℕ) → sum_by (λ p. f p + g p) ps ≡ sum_by f ps + sum_by g ps
sum_both f g [] = refl
sum_both f g (p ∷ ps) = sum_by-cons (λ p. f p + g p) p ps ∙ omega (arith, sum_both f g ps, sum_by-cons f p ps, sum_by-cons g p ps)

sum_zeros_by : (ps : List ℕ) → sum_by (λ p. 0) ps ≡ 0
sum_zeros_by ps = omega (arith, sum_by-le (λ p. 0) 0 ps (λ k d within. omega arith))

count_more : (q : Win → Bool) (w : Win) (wins : List Win) → count_by q (w ∷ wins) ≡ cond (q w) 1 0 + count_by q wins
count_more q w wins = sum_by-cons (λ w. cond (q w) 1 0) w wins

-- the winners of whom two things hold, and those of whom but the first does
count_parted : (p q : Win → Bool) (wins : List Win) → count_by (λ w. p w && q w) wins + count_by (λ w. p w && not (q w)) wins ≡ count_by p wins
count_parted p q [] = refl
count_parted p q (w ∷ wins) =
    let this : cond {A = ℕ} (p w && q w) 1 0 + cond (p w && not (q w)) 1 0 ≡ cond (p w) 1 0 = parted (p w) (q w) in
    omega (arith, count_parted p q wins, this, count_more (λ w. p w && q w) w wins, count_more (λ w. p w && not (q w)) w wins, count_more p w wins) where
      parted : (x y : Bool) → cond {A = ℕ} (x && y) 1 0 + cond (x && not y) 1 0 ≡ cond x 1 0
      parted true true = refl
      parted true false = refl
      parted false y = refl

count_within : (p q : Win → Bool) → ((w : Win) → p w ≡ true → q w ≡ true) → (wins : List Win) → count_by p wins ≤ count_by q wins
count_within p q implies wins =
    sum_by-le-sum_by (λ w. cond (p w) 1 0) (λ w. cond (q w) 1 0) wins (λ w.
    cond_both (p w) 1 0 (λ n. n ≤ cond (q w) 1 0) (λ h. omega (arith, cond-true {A = ℕ} (q w) 1 0 (implies w h))) (λ h. omega arith))

module _ (conditions : List Cond) (e : Election) (land : ℕ) where
  -- the winner is of a list of that party in the Land
  of_list : Win → ℕ → Bool
  of_list w p = takes_part conditions e land p && (is_in land w && is_of p w)

  -- at most one party has the winner on its list
  one_list : (w : Win) (o : Option ℕ) → ((q : ℕ) → o ≡ Some q → q < parties_of e) →
      sum_by (λ p. cond (of_list (record w { party = o }) p) 1 0) (parties e) ≡ cond (is_in land w && is_on_list conditions e (record w { party = o })) 1 0
  unfolding of_list
  one_list w None within =
      sum_each (λ p. cond (takes_part conditions e land p && (nat_eq w.land land && false)) 1 0) (λ p. 0)
      (λ p. ap (λ t. cond {A = ℕ} t 1 0) (and_right (takes_part conditions e land p) (nat_eq w.land land && false) (and_right (nat_eq w.land land) false refl))) (parties e)
      ∙ sum_zeros_by (parties e) ∙ sym (ap (λ t. cond {A = ℕ} t 1 0) (and_right (nat_eq w.land land) false refl))
  one_list w (Some q) within =
      let f : ℕ → ℕ = λ p. cond (takes_part conditions e land p && (nat_eq w.land land && nat_eq q p)) 1 0 in
      one_term f q 0 (parties_of e)
      (λ p other. ap (λ t. cond {A = ℕ} t 1 0) (and_right (takes_part conditions e land p) (nat_eq w.land land && nat_eq q p) (and_right (nat_eq w.land land) (nat_eq q p) (ne_eqb q p other))))
      (omega arith) (let h = within q refl in omega (arith, h))
      ∙ ap (λ t. cond {A = ℕ} t 1 0) (sym (when_both (is_eligible conditions e) e land q w q) ∙ ap (λ t. (nat_eq w.land land && t) && takes_part conditions e w.land q) (eq-eqb q q refl) ∙ ap (λ t. t && takes_part conditions e w.land q) (and-true (nat_eq w.land land)))

  more_on : (p : ℕ) (w : Win) (wins : List Win) →
      (if takes_part conditions e land p then count_by (λ w. is_in land w && is_of p w) (w ∷ wins) else 0)
      ≡ cond (of_list w p) 1 0 + (if takes_part conditions e land p then count_by (λ w. is_in land w && is_of p w) wins else 0)
  unfolding of_list
  more_on p w wins = by_part (takes_part conditions e land p) where
    by_part : (t : Bool) → (if t then count_by (λ w. is_in land w && is_of p w) (w ∷ wins) else 0) ≡ cond (t && (is_in land w && is_of p w)) 1 0 + (if t then count_by (λ w. is_in land w && is_of p w) wins else 0)
    by_part true = count_more (λ w. is_in land w && is_of p w) w wins
    by_part false = refl

  on_lists : (wins : List Win) → All (IsWin (lands_of e) (parties_of e)) wins →
      sum_by (λ p. if takes_part conditions e land p then count_by (λ w. is_in land w && is_of p w) wins else 0) (parties e)
      ≡ count_by (λ w. is_in land w && is_on_list conditions e w) wins
  on_lists [] each =
      sum_each (λ p. if takes_part conditions e land p then 0 else 0) (λ p. 0) (λ p. cond_both (takes_part conditions e land p) 0 0 (λ n. n ≡ 0) (λ h. refl) (λ h. refl)) (parties e) ∙ sum_zeros_by (parties e)
  on_lists (w ∷ wins) each =
      let here : ℕ → ℕ = λ p. cond (of_list w p) 1 0 in
      let rest : ℕ → ℕ = λ p. if takes_part conditions e land p then count_by (λ w. is_in land w && is_of p w) wins else 0 in
      sum_each (λ p. if takes_part conditions e land p then count_by (λ w. is_in land w && is_of p w) (w ∷ wins) else 0) (λ p. here p + rest p) (λ p. more_on p w wins) (parties e)
      ∙ sum_both here rest (parties e)
      ∙ omega (
        arith,
        one_list w w.party (λ q is. (All-head (IsWin (lands_of e) (parties_of e)) w wins each).party q is),
        on_lists wins (All-tail (IsWin (lands_of e) (parties_of e)) w wins each),
        count_more (λ w. is_in land w && is_on_list conditions e w) w wins,
      )

pub facts_of_lands : FactsOfLands
facts_of_lands conditions e land is in_lands =
    let on : Win → Bool = λ w. is_on_list conditions e w in
    let outside : get_or (outside_winners conditions e) land 0 ≡ count_by (λ w. is_in land w && not (on w)) e.wins =
    get_or-map-range_with_len (λ land. count_by (λ w. is_in land w && not (is_on_list conditions e w)) e.wins) 0 (lands_of e) land land 0 in_lands (omega arith) in
    let alone : get_or (independent_winners conditions e) land 0 ≡ count_by (λ w. is_in land w && is_none w.party) e.wins =
    get_or-map-range_with_len (λ land. count_by (λ w. is_in land w && is_none w.party) e.wins) 0 (lands_of e) land land 0 in_lands (omega arith) in
    record {
      all_winners = all outside;
      alone = omega (arith, outside, alone, count_within (λ w. is_in land w && is_none w.party) (λ w. is_in land w && not (on w)) (λ w. apart w w.party) e.wins);
    } where
      apart : (w : Win) (o : Option ℕ) → is_in land w && is_none o ≡ true → is_in land w && not (is_on_list conditions e (record w { party = o })) ≡ true
      apart w None h = h
      apart w (Some q) h = absurd (both_ways (is_in land w && false) (and_right (is_in land w) false refl) h)

      in_range : (f g : ℕ → ℕ) (a n : ℕ) → ((p : ℕ) → p < a + n → f p ≡ g p) → sum_by f (range_with_len a n) ≡ sum_by g (range_with_len a n)
      in_range f g a zero same = refl
      in_range f g a (suc n) same =
          sum_by-cons f a (range_with_len (a + 1) n)
          ∙ omega (arith, same a (omega arith), in_range f g (a + 1) n (λ p less. same p (omega (arith, less))), sum_by-cons g a (range_with_len (a + 1) n))

      all : get_or (outside_winners conditions e) land 0 ≡ count_by (λ w. is_in land w && not (is_on_list conditions e w)) e.wins →
          sum_by (λ party. list_cell e (list_winners conditions e) land party) (parties e) + get_or (outside_winners conditions e) land 0 ≡ count_by (is_in land) e.wins
      all outside =
          let lists = in_range (λ party. list_cell e (list_winners conditions e) land party) (λ p. if takes_part conditions e land p then count_by (λ w. is_in land w && is_of p w) e.wins else 0) 0 (parties_of e)
          (λ party less. by_list_at e (λ land party. if takes_part conditions e land party then count_by (λ w. is_in land w && is_of party w) e.wins else 0) land party in_lands (omega (arith, less))) in
          omega (arith, outside, lists, on_lists conditions e land e.wins is.places, count_parted (is_in land) (is_on_list conditions e) e.wins)

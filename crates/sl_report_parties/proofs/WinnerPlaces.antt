-- The winners of each list at its place, and winners counted by party and by Land.
use Rattle.std.proofs.Common.{◌≡◌, ℕ, ◌+◌, ◌*◌, ◌<◌, Bool, true, false, cond, ◌&&◌, List, [], ◌∷◌, ◌++◌, Option, Some, None, length, filter, get_or, map, count_by, nat_eq, nat_lt, arith, refl, sym, ap, set, ◌∙◌, inl, inr, ◌≤◌, take, subst}
use Rattle.std.specs.List.{AllByRecursion as Every, enumerate_from, range_with_len}
use Rattle.std.specs.Option.{ForSome}
use Rattle.std.specs.Prelude.{All, if◌then◌else◌, slice_index_or, slice_get}
use Rattle.std.proofs.Math.Bool.{and_comm}
use Rattle.std.proofs.lemmas.Bool.{and_from, and_parts, cases_Bool, cases_eq, cases_lt, eq-eqb, eqb-true, false≢true, lt-ltb, ne_eqb}
use Rattle.std.proofs.lemmas.List.{append-nil, get_or_past, get_or-set_same, get_or-set_other, get_or_read, length-set}
use Rattle.std.proofs.lemmas.List.FromFn.{fill_by_all}
use Rattle.std.proofs.lemmas.List.Elements.{recursion_from_All}
use Rattle.std.proofs.lemmas.List.Sums.{sum_by-cons}
use Rattle.std.proofs.lemmas.Nat.{same_from_place}
use Rattle.sl_law_meaning.proofs.meaning.DistinctLists.{every_weaker}
use Rattle.sl_law_meaning.specs.declared.book.Cond.{Cond}
use Rattle.sl_law_meaning.specs.declared.election.Win.{Win}
use Rattle.sl_law_meaning.specs.declared.fact.Fact.{Fact}
use Rattle.sl_law_meaning.specs.declared.fact.Fact.TheVariants as facts
use Rattle.sl_law_meaning.specs.declared.table.ListSeats.{ListSeats}
use Rattle.sl_law_meaning.specs.meaning.Tables.{SeatTable}
use Rattle.sl_law_meaning.specs.returns.Election.{Election, IsWin, lands_of, parties_of}
use Rattle.sl_law_meaning.specs.returns.Facts.{is_eligible, is_in, is_of}
use Rattle.sl_report_parties.proofs.Steps.{at_end, count_next, one_if_le}
use Rattle.sl_report_parties.specs.Cells.{is_won, land_cell}
use Rattle.sl_report_parties.specs.Ranks.{is_above, is_contested, is_on, winners_of_list}
use Rattle.sl_report_parties.specs.Sums.{one_if}
use Rattle.sl_report_parties.specs.inner.Winners.{AreOnLists, counts_in, is_at, list_place, ranked_by}

-- the numbers of a table count the first winners, each at no more than one place
pub record Tally (counts_at : ℕ → Win → Bool) (wins : List Win) (size i : ℕ) (cells : List ℕ) : Type 0 where
  pub long : length cells ≡ size
  pub counted : (n : ℕ) → get_or cells n 0 ≡ count_by (counts_at n) (take i wins)
  pub few : (n : ℕ) → get_or cells n 0 ≤ i

module _ (counts_at : ℕ → Win → Bool) (wins : List Win) (size i : ℕ) (cells : List ℕ) (so_far : Tally counts_at wins size i cells) where
  module _ (w : Win) (here : slice_get wins i ≡ Some w) (after : List ℕ) where
    pub tally_one : (place was : ℕ) → ((n : ℕ) → nat_eq place n ≡ counts_at n w) → place < size → was ≡ get_or cells place was → after ≡ set cells place (was + 1) → Tally counts_at wins size (i + 1) after
    tally_one place was at within read written = record {
      long = ap length written ∙ length-set cells place (was + 1) ∙ so_far.long;
      counted = λ n. omega (arith, one n, count_next (counts_at n) wins i w (nat_eq place n) here (at n), so_far.counted n);
      few = λ n. omega (arith, one n, one_if_le (nat_eq place n), so_far.few n);
    }
      where
        one : (n : ℕ) → get_or after n 0 ≡ get_or cells n 0 + one_if (nat_eq place n)
        one n = ap (λ xs. get_or xs n 0) written ∙ elim (cases_eq n place) [
          | inl same ↦
              let there : get_or (set cells place (was + 1)) place 0 ≡ was + 1 = get_or-set_same cells place (was + 1) 0 (omega (arith, within, so_far.long)) in
              let before : was ≡ get_or cells place 0 = get_or_read cells place was (omega (arith, within, so_far.long)) read 0 in
              rw (same, eq-eqb place place refl) (omega (arith, there, before))
          | inr other ↦ rw (ne_eqb place n (λ e. other (sym e))) (omega (arith, get_or-set_other cells place n (was + 1) 0 other))
        ]

    pub tally_no : ((n : ℕ) → false ≡ counts_at n w) → after ≡ cells → Tally counts_at wins size (i + 1) after
    tally_no at same = subst (Tally counts_at wins size (i + 1)) (sym same) (record {
      long = so_far.long;
      counted = λ n. omega (arith, count_next (counts_at n) wins i w false here (at n), so_far.counted n);
      few = λ n. omega (arith, so_far.few n);
    })

  pub tally_end : length wins ≤ i → cells ≡ map (λ n. count_by (counts_at n) wins) (range_with_len 0 size)
  tally_end all = fill_by_all (λ n. count_by (counts_at n) wins) cells size 0 so_far.long (λ n less. at_end (count_by (counts_at n)) wins i _ all (so_far.counted n))

-- one more at a place
pub added_at : {X : Type 0} (rows : List (List X)) (place n : ℕ) (x : X) → place < length rows → get_or (set rows place (get_or rows place [] ++ x ∷ [])) n [] ≡ get_or rows n [] ++ (if nat_eq place n then x ∷ [] else [])
added_at rows place n x within = elim (cases_eq n place) [
  | inl same ↦ rw (same, eq-eqb place place refl) (get_or-set_same rows place (get_or rows place [] ++ x ∷ []) [] within)
  | inr other ↦ rw (ne_eqb place n (λ e. other (sym e))) (get_or-set_other rows place n (get_or rows place [] ++ x ∷ []) [] other ∙ sym (append-nil (get_or rows n [])))
]

pub none_there : {X : Type 0} (rows : List (List X)) → All (λ row. row ≡ []) rows → (n : ℕ) → get_or rows n [] ≡ []
none_there rows empty n = elim (cases_lt n (length rows)) [ inl h ↦ empty n [] h | inr h ↦ get_or_past rows n [] h ]

-- a test of numbered elements is one of the elements
filter_numbered : {X : Type 0} (p q : X → Bool) (n : ℕ) (xs : List X) → Every (λ x. p x ≡ q x) xs → filter (λ y. p y.1) (enumerate_from n xs) ≡ filter (λ y. q y.1) (enumerate_from n xs)
filter_numbered p q n [] all = refl
filter_numbered p q n (x ∷ xs) all =
    ap (λ t. cond t ((n, x) ∷ filter (λ y. p y.1) (enumerate_from (n + 1) xs)) (filter (λ y. p y.1) (enumerate_from (n + 1) xs))) all.0
    ∙ ap (λ ys. cond (q x) ((n, x) ∷ ys) ys) (filter_numbered p q (n + 1) xs all.1)

count_numbered : {X : Type 0} (p q : X → Bool) (n : ℕ) (xs : List X) → count_by (λ y. q y.1) (filter (λ y. p y.1) (enumerate_from n xs)) ≡ count_by (λ x. p x && q x) xs
count_numbered p q n [] = refl
count_numbered {X} p q n (x ∷ xs) =
    by_test (p x) ∙ ap (λ k. cond {A = ℕ} (p x && q x) 1 0 + k) (count_numbered p q (n + 1) xs) ∙ sym (sum_by-cons (λ x. cond (p x && q x) 1 0) x xs)
  where
    rest : List (ℕ × X)
    rest = filter (λ y. p y.1) (enumerate_from (n + 1) xs)

    by_test : (t : Bool) → count_by (λ y. q y.1) (cond t ((n, x) ∷ rest) rest) ≡ cond {A = ℕ} (t && q x) 1 0 + count_by (λ y. q y.1) rest
    by_test true = sum_by-cons (λ y. cond (q y.1) 1 0) (n, x) rest
    by_test false = omega arith

pub and_false : (b : Bool) → false ≡ (b && false)
and_false true = refl
and_false false = refl

pub at_party : (party : ℕ) (w : Win) → is_at party w.party ≡ is_of party w
at_party party w = by_party w.party where
  by_party : (o : Option ℕ) → is_at party o ≡ is_of party (record w { party = o })
  by_party None = refl
  by_party (Some p) = refl

module _ (e : Election) where
  same_pair : (l p k q : ℕ) → p < parties_of e → q < parties_of e → nat_eq (l * parties_of e + p) (k * parties_of e + q) ≡ (nat_eq l k && nat_eq p q)
  same_pair l p k q here there = elim (cases_Bool (nat_eq l k && nat_eq p q)) [
    | inl t ↦
        let both = and_parts (nat_eq l k) (nat_eq p q) t in
        eq-eqb (l * parties_of e + p) (k * parties_of e + q) (ap (λ n. n * parties_of e + p) (eqb-true l k both.0) ∙ ap (λ n. k * parties_of e + n) (eqb-true p q both.1)) ∙ sym t
    | inr f ↦ ne_eqb (l * parties_of e + p) (k * parties_of e + q) (λ same.
        let both = same_from_place l p k q (parties_of e) here there same in
        false≢true (sym f ∙ and_from (nat_eq l k) (nat_eq p q) (eq-eqb l k both.0) (eq-eqb p q both.1))) ∙ sym f
  ]

  at_list : (land party : ℕ) → party < parties_of e → (w : Win) → IsWin (lands_of e) (parties_of e) w → is_at (land * parties_of e + party) (list_place e w) ≡ is_won land party w
  at_list land party within w is = by_party w.party is.party where
    by_party : (o : Option ℕ) → ForSome o (λ p. p < parties_of e) → is_at (land * parties_of e + party) (list_place e (record w { party = o })) ≡ is_won land party (record w { party = o })
    by_party None h = and_false (nat_eq w.land land)
    by_party (Some p) h = same_pair w.land p land party (h p refl) within

  pub on_list : (land party : ℕ) (all : List (List (ℕ × Win))) → All (IsWin (lands_of e) (parties_of e)) e.wins → party < parties_of e → AreOnLists e all →
      slice_index_or all (land * parties_of e + party) [] ≡ filter (λ x. is_won land party x.1) (enumerate_from 0 e.wins)
  on_list land party all kept within are =
      are (land * parties_of e + party)
      ∙ filter_numbered (λ w. is_at (land * parties_of e + party) (list_place e w)) (is_won land party) 0 e.wins
      (every_weaker (IsWin (lands_of e) (parties_of e)) (λ w. is_at (land * parties_of e + party) (list_place e w) ≡ is_won land party w) (at_list land party within) e.wins (recursion_from_All (IsWin (lands_of e) (parties_of e)) e.wins kept))

pub and_true : (b : Bool) → (b && true) ≡ b
and_true true = refl
and_true false = refl

pub how_many : {X : Type 0} (p : X → Bool) (xs : List X) → length (filter (λ y. p y.1) (enumerate_from 0 xs)) ≡ count_by p xs
how_many p xs =
    sym (all_of (filter (λ y. p y.1) (enumerate_from 0 xs))) ∙ count_numbered p (λ x. true) 0 xs ∙ ap (λ q. count_by q xs) (λ i x. and_true (p x) i)
  where
    all_of : {Y : Type 0} (ys : List Y) → count_by (λ y. true) ys ≡ length ys
    all_of [] = refl
    all_of (y ∷ ys) = let rest = all_of ys in sum_by-cons (λ y. 1) y ys ∙ omega (arith, rest)

module _ (l : ListSeats) (wins : List Win) where
  won_is_on : is_won l.land l.party ≡ is_on l
  won_is_on = λ i w. and_comm (is_in l.land w) (is_of l.party w) i

  pub count_on : count_by (is_won l.land l.party) wins ≡ count_by (is_on l) wins
  count_on = ap (λ p. count_by p wins) won_is_on

with_both : (b p q : Bool) → p ≡ true → q ≡ true → b ≡ (b && (p && q))
with_both true p q h k = rw (h, k) refl
with_both false p q h k = refl

pub contested_by : (conditions : List Cond) (e : Election) (l : ListSeats) (own : List (ℕ × Win)) → own ≡ filter (λ x. is_won l.land l.party x.1) (enumerate_from 0 e.wins) → l.party < parties_of e →
    is_eligible conditions e l.party ≡ true → nat_lt l.seats (length own) ≡ is_contested conditions e l
contested_by conditions e l own is within eligible =
    ap (nat_lt l.seats) (ap length is ∙ how_many (is_won l.land l.party) e.wins ∙ count_on l e.wins)
    ∙ with_both (nat_lt l.seats (count_by (is_on l) e.wins)) (nat_lt l.party (parties_of e)) (is_eligible conditions e l.party) (lt-ltb l.party (parties_of e) within) eligible

-- the ranks of the winners of a list by its winners alone
pub ranked_alone : (t : SeatTable) (e : Election) (l : ListSeats) (own : List (ℕ × Win)) → own ≡ filter (λ x. is_on l x.1) (enumerate_from 0 e.wins) → map (ranked_by t l own) own ≡ winners_of_list t e l
ranked_alone t e l own is = ap (λ xs. map (ranked_by t l xs) xs) is ∙ ap (λ f. map f (filter (λ x. is_on l x.1) (enumerate_from 0 e.wins))) (λ i x.
    record (ranked_by t l [] x) { rank = count_numbered (is_on l) (is_above x.1) 0 e.wins i + 1 })

-- ---- the winners that count for a fact, by Land

none_in : (land : ℕ) (wins : List Win) → count_by (λ w. is_in land w && false) wins ≡ 0
none_in land [] = refl
none_in land (w ∷ wins) = let rest = none_in land wins in sum_by-cons (λ w. cond (is_in land w && false) 1 0) w wins ∙ ap (λ t. cond {A = ℕ} t 1 0 + count_by (λ w. is_in land w && false) wins) (sym (and_false (is_in land w))) ∙ omega (arith, rest)

pub counted_in : (conditions : List Cond) (e : Election) (fact : Fact) (land : ℕ) → count_by (counts_in conditions e fact land) e.wins ≡ land_cell conditions e fact land
counted_in conditions e facts.Outside land = refl
counted_in conditions e facts.Independents land = refl
counted_in conditions e facts.House land = none_in land e.wins
counted_in conditions e facts.Counted land = none_in land e.wins
counted_in conditions e facts.Winners land = none_in land e.wins
counted_in conditions e facts.Population land = none_in land e.wins

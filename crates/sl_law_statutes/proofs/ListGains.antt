-- By the statutes of 2023 the list that gains votes loses no seat: among the lists of its party by population monotonicity.
use Rattle.std.proofs.Common.{◌≡◌, ℕ, zero, suc, ◌<◌, ◌≤◌, true, List, [], ◌∷◌, length, get_or, map, filter, inl, inr, arith, refl, sym, ap, subst, ◌∙◌}
use Rattle.std.specs.Prelude.{Contains, is_some, slice_index, replicate}
use Rattle.std.specs.List.{AllByRecursion as Every}
use Rattle.std.proofs.lemmas.Bool.{cases_Bool, cases_lt, cases_eq, cond-true, cond-false}
use Rattle.std.proofs.lemmas.List.{length-map}
use Rattle.sl_base_quotients.specs.declared.method.Divisor.TheVariants.{Webster}
use Rattle.sl_base_quotients.specs.declared.method.Method.TheVariants as by
use Rattle.sl_law_meaning.specs.declared.book.Majority.TheVariants as majority
use Rattle.sl_law_meaning.specs.declared.fact.Fact.TheVariants as facts
use Rattle.sl_law_meaning.specs.declared.fault.Item.TheVariants as item
use Rattle.sl_law_meaning.specs.declared.election.ListVotes.{ListVotes}
use Rattle.sl_law_meaning.specs.declared.election.Lot.{Lot}
use Rattle.sl_law_meaning.specs.declared.table.Outcome.TheVariants as outcome
use Rattle.sl_law_meaning.specs.book.Trees.{BookTree}
use Rattle.sl_law_meaning.specs.book.Typing.{is_typed}
use Rattle.sl_law_meaning.specs.returns.Votes.{counted_in}
use Rattle.sl_law_meaning.specs.returns.Election.{Election, IsElection, lands_of, parties_of, list_at, has_list, with_list}
use Rattle.sl_law_meaning.specs.returns.Facts.{lands, list_cell, is_eligible}
use Rattle.sl_law_meaning.specs.methods.Field.{no_minima}
use Rattle.sl_law_meaning.specs.methods.Allocations.{IsDivisorAllocation}
use Rattle.sl_law_meaning.specs.meaning.Columns.{fact_column}
use Rattle.sl_law_meaning.specs.meaning.Scopes.{cells, place, lists_of_party}
use Rattle.sl_law_meaning.specs.meaning.Tables.{SeatTable}
use Rattle.sl_law_meaning.specs.meaning.Means.{Means}
use Rattle.sl_law_meaning.proofs.methods.RaisedSeats.{Contains-head, Contains-tail, Contains-cases, Contains-none}
use Rattle.sl_law_meaning.proofs.methods.ListedEntries.{filter_only, filter_has}
use Rattle.sl_law_meaning.proofs.methods.SeatSums.{some_greater, none_needed}
use Rattle.sl_law_meaning.proofs.methods.TieLaw.{below_length}
use Rattle.sl_law_fairness.specs.Winners.{IsBase}
use Rattle.sl_law_fairness.proofs.ListColumns.{map_mapped, below}
use Rattle.sl_law_fairness.proofs.RelativeVotes.{absolutely_monotone}
use Rattle.sl_law_statutes.specs.Trees.{law_of_2023, law_of_2023_order, shares, cover}
use Rattle.sl_law_statutes.specs.Parties.{party_seats, IsGain}
use Rattle.sl_law_statutes.specs.Lists.{ListNeverLoses, ListVotesOf2023}
use Rattle.sl_law_statutes.proofs.Sums.{every_number}
use Rattle.sl_law_statutes.proofs.Shares.{contained}
use Rattle.sl_law_statutes.proofs.MoreVotes.{IsFair, named, told, other_land, still_eligible, counted_at, never_loses}
use Rattle.sl_law_statutes.proofs.Majorities.{share_by_webster}

-- ---- numbers in lists

place_of : (xs : List ℕ) (x : ℕ) → Contains xs x → (p : ℕ) × (p < length xs) × (get_or xs p 0 ≡ x)
place_of [] x c = absurd (Contains-none x c)
place_of (y ∷ ys) x c =
    elim (Contains-cases y ys x c) [
      | inl same ↦ (0, omega arith, same)
      | inr c' ↦ (let rest = place_of ys x c' in (suc rest.0, (let l = rest.1 in omega (arith, l)), rest.2))
    ]

contains_at : (xs : List ℕ) (k : ℕ) → k < length xs → Contains xs (get_or xs k 0)
contains_at [] k l = absurd (omega arith)
contains_at (x ∷ xs) zero l = Contains-head x xs
contains_at (x ∷ xs) (suc k) l = Contains-tail x xs (get_or xs k 0) (contains_at xs k (omega arith))

of_contained : (P : ℕ → Type 0) (xs : List ℕ) (x : ℕ) → Every P xs → Contains xs x → P x
of_contained P [] x all c = absurd (Contains-none x c)
of_contained P (y ∷ ys) x all c = elim (Contains-cases y ys x c) [ inl same ↦ subst P same all.0 | inr c' ↦ of_contained P ys x all.1 c' ]

at_in : (f : ℕ → ℕ) (xs : List ℕ) (k : ℕ) → k < length xs → get_or (map f xs) k 0 ≡ f (get_or xs k 0)
at_in f [] k l = absurd (omega arith)
at_in f (x ∷ xs) zero l = refl
at_in f (x ∷ xs) (suc k) l = at_in f xs k (omega arith)

-- ---- the Länder in which a party has a list

abbrev own_lands : Election → ℕ → List ℕ
own_lands e party = filter (λ l. has_list e l party) (lands e)

abbrev in_lands : Election → ℕ → List ℕ → List ℕ → List ℕ
in_lands e party lands column = map (λ l. list_cell e column l party) lands

by_lands : (e : Election) (party : ℕ) (column : List ℕ) → cells e (lists_of_party e party) column ≡ in_lands e party (own_lands e party) column
by_lands e party column = map_mapped (λ i. slice_index column (place e i)) (λ land. item.List land party) (own_lands e party)

allocated : (v w s r : List ℕ) (n : ℕ) → v ≡ w → s ≡ r → IsDivisorAllocation Webster v (no_minima v) n s → IsDivisorAllocation Webster w (no_minima w) n r
allocated v w s r n vw sr h = subst (IsDivisorAllocation Webster w (no_minima w) n) sr (subst (λ w. IsDivisorAllocation Webster w (no_minima w) n s) vw h)

module _ (at : ℕ → ℕ) (b : BookTree) (typed : is_typed b ≡ true) (stages : b.stages ≡ shares at facts.Independents (by.Divisor Webster) majority.Refuse) (last : b.last ≡ cover at)
    (fair : Every IsFair b.eligible) where
  module _ (e : Election) (land party : ℕ) (votes : ListVotes) (is : IsElection e) (gain : IsGain e land party votes) where
    abbrev g : Election
    g = with_list e land party votes

    n : (land < lands_of e) × (party < parties_of e)
    n = named e is land party votes gain

    same_has : (l : ℕ) → has_list g l party ≡ has_list e l party
    same_has l =
        elim (cases_eq l land) [
          | inl here ↦ subst (λ k. has_list g k party ≡ has_list e k party) (sym here) (ap is_some (told e is land party votes gain) ∙ sym (ap is_some gain.had))
          | inr ne ↦ ap is_some (other_land e is land party votes gain l party ne)
        ]

    same_lands : own_lands g party ≡ own_lands e party
    same_lands = λ i. filter (λ l. same_has l i) (lands e)

    abbrev F : List ℕ
    F = own_lands e party

    own : Contains F land
    own =
        let all : Contains (lands e) land = every_number (Contains (lands e)) (lands_of e) land (contained (lands e)) n.0 in
        filter_has (λ l. has_list e l party) (lands e) land all (ap is_some gain.had)

    module _ (lots : List Lot) (isg : IsElection (record g { lots = lots })) (t u : SeatTable) (means : Means b e (outcome.Table t))
        (then' : Means b (record g { lots = lots }) (outcome.Table u)) (base after : List ℕ) (hb : IsBase b e base) (ha : IsBase b (record g { lots = lots }) after) where
      abbrev v : List ℕ
      v = in_lands e party F (fact_column b e facts.Counted)

      abbrev w : List ℕ
      w = in_lands g party F (fact_column b g facts.Counted)

      abbrev s : List ℕ
      s = in_lands e party F base

      abbrev r : List ℕ
      r = in_lands g party F after

      hs : IsDivisorAllocation Webster v (no_minima v) (party_seats t party) s
      hs = allocated (cells e (lists_of_party e party) (fact_column b e facts.Counted)) v (cells e (lists_of_party e party) base) s (party_seats t party)
          (by_lands e party (fact_column b e facts.Counted)) (by_lands e party base) ((share_by_webster at b typed stages last e t base is hb means).1 party n.1)

      hr : IsDivisorAllocation Webster w (no_minima w) (party_seats u party) r
      hr = allocated (cells g (lists_of_party g party) (fact_column b g facts.Counted)) w (cells g (lists_of_party g party) after) r (party_seats u party)
          (by_lands g party (fact_column b g facts.Counted) ∙ ap (λ ls. in_lands g party ls (fact_column b g facts.Counted)) same_lands)
          (by_lands g party after ∙ ap (λ ls. in_lands g party ls after) same_lands)
          ((share_by_webster at b typed stages last (record g { lots = lots }) u after isg ha then').1 party n.1)

      hr' : IsDivisorAllocation Webster w (no_minima v) (party_seats u party) r
      hr' =
          let long : length w ≡ length v = length-map F (λ l. list_cell g (fact_column b g facts.Counted) l party) ∙ sym (length-map F (λ l. list_cell e (fact_column b e facts.Counted) l party)) in
          subst (λ k. IsDivisorAllocation Webster w (replicate k 0) (party_seats u party) r) long hr

      no_fewer : party_seats t party ≤ party_seats u party
      no_fewer = never_loses at b typed stages last fair e land party votes is gain lots isg t u means then'

      -- what stands at a place
      at_land : (k : ℕ) → k < length F → (get_or F k 0 < lands_of e)
      at_land k l =
          let c = (filter_only (λ x. has_list e x party) (lands e) (get_or F k 0) (contains_at F k l)).0 in
          of_contained (λ x. x < lands_of e) (lands e) (get_or F k 0) (below (lands_of e)) c

      counted_before : (k : ℕ) → k < length F → is_eligible b.eligible e party ≡ true → get_or v k 0 ≡ counted_in (list_at e (get_or F k 0) party)
      counted_before k l can =
          at_in (λ x. list_cell e (fact_column b e facts.Counted) x party) F k l
          ∙ counted_at b e party n.1 (get_or F k 0) (at_land k l)
          ∙ cond-true (is_eligible b.eligible e party) _ _ can

      counted_after : (k : ℕ) → k < length F → is_eligible b.eligible e party ≡ true → get_or w k 0 ≡ counted_in (list_at g (get_or F k 0) party)
      counted_after k l can =
          at_in (λ x. list_cell g (fact_column b g facts.Counted) x party) F k l
          ∙ counted_at b g party n.1 (get_or F k 0) (at_land k l)
          ∙ cond-true (is_eligible b.eligible g party) _ _ (still_eligible e is land party votes gain b.eligible fair can)

      module _ (lost : list_cell g after land party < list_cell e base land party) where
        j : ℕ
        j = (place_of F land own).0

        within : j < length F
        unfolding j
        within = (place_of F land own).1

        here : get_or F j 0 ≡ land
        unfolding j
        here = (place_of F land own).2

        had : get_or s j 0 ≡ list_cell e base land party
        had = at_in (λ l. list_cell e base l party) F j within ∙ ap (λ l. list_cell e base l party) here

        has : get_or r j 0 ≡ list_cell g after land party
        has = at_in (λ l. list_cell g after l party) F j within ∙ ap (λ l. list_cell g after l party) here

        eligible : is_eligible b.eligible e party ≡ true
        eligible =
            elim (cases_Bool (is_eligible b.eligible e party)) [
              | inl yes' ↦ yes'
              | inr no' ↦ absurd (
                  let none : get_or v j 0 ≡ 0 =
                  at_in (λ x. list_cell e (fact_column b e facts.Counted) x party) F j within
                  ∙ counted_at b e party n.1 (get_or F j 0) (at_land j within)
                  ∙ cond-false (is_eligible b.eligible e party) _ _ no' in
                  let seats = hs.outside j none in
                  let z = none_needed (length v) j in
                  let a = had in
                  omega (arith, seats, z, a, lost))
            ]

        gained : get_or v j 0 < get_or w j 0
        gained =
            let x = counted_before j within eligible ∙ ap (λ l. counted_in (list_at e l party)) here ∙ ap counted_in gain.had in
            let y = counted_after j within eligible ∙ ap (λ l. counted_in (list_at g l party)) here ∙ ap counted_in (told e is land party votes gain) in
            let more = gain.counted in
            omega (arith, x, y, more)

        no_such : ⊥
        no_such =
            let a = had in
            let c = has in
            let le = no_fewer in
            let found = some_greater s r j (omega (arith, hs.total, hr'.total, le)) (omega (arith, a, c, lost)) in
            let k = found.0 in
            let more : get_or s k 0 < get_or r k 0 = found.1 in
            let far = below_length r k (get_or s k 0) more in
            let long = length-map F (λ l. list_cell g after l party) in
            let l : k < length F = omega (arith, far, long) in
            let sk = at_in (λ x. list_cell e base x party) F k l in
            let rk = at_in (λ x. list_cell g after x party) F k l in
            elim (cases_eq (get_or F k 0) land) [
              | inl same ↦
                  (let x = sk ∙ ap (λ z. list_cell e base z party) same in
                  let y = rk ∙ ap (λ z. list_cell g after z party) same in
                  omega (arith, x, y, more, lost))
              | inr ne ↦
                  (let before' = counted_before k l eligible in
                  let after' = counted_after k l eligible ∙ ap counted_in (other_land e is land party votes gain (get_or F k 0) party ne) in
                  let no_gain : get_or w k 0 ≤ get_or v k 0 = omega (arith, before', after') in
                  let up = absolutely_monotone Webster v w (no_minima v) (party_seats t party) (party_seats u party) s r hs hr' j k gained no_gain (omega arith) (omega (arith, a, c, lost)) in
                  omega (arith, up, more))
            ]

  list_never_loses : ListNeverLoses b
  list_never_loses e land party votes is gain lots isg t u means then' base after hb ha =
      elim (cases_lt (list_cell (with_list e land party votes) after land party) (list_cell e base land party)) [
        | inr le ↦ le
        | inl lost ↦ absurd (no_such e land party votes is gain lots isg t u means then' base after hb ha lost)
      ]

pub list_votes_of_2023 : ListVotesOf2023
list_votes_of_2023 at = (
  list_never_loses at (law_of_2023 at) refl refl refl (omega arith, (tt, tt)),
  list_never_loses at (law_of_2023_order at) refl refl refl (omega arith, (tt, (tt, tt))),
)

-- Where winners are kept.
use Rattle.std.proofs.Common.{◌≡◌, ℕ, zero, suc, ◌+◌, ◌-◌, ◌<◌, ◌⊎◌, Bool, true, false, not, cond, List, [], ◌∷◌, Some, length, map, max, count_by, sum_by, inl, inr, arith, refl, sym, ap, subst, ◌∙◌}
use Rattle.std.specs.Prelude.{if◌then◌else◌, slice_get}
use Rattle.std.specs.List.{AllZip}
use Rattle.std.proofs.lemmas.Bool.{cases_Bool, cond-true, cond-false}
use Rattle.sl_law_meaning.specs.declared.book.Seating.{Seating}
use Rattle.sl_law_meaning.specs.declared.book.Seating.TheVariants as seating
use Rattle.sl_law_meaning.specs.declared.election.Win.{Win}
use Rattle.sl_law_meaning.specs.declared.table.ListSeats.{ListSeats}
use Rattle.sl_law_meaning.specs.declared.table.Outcome.TheVariants as outcome
use Rattle.sl_law_meaning.specs.declared.table.Placed.{Placed}
use Rattle.sl_law_meaning.specs.declared.table.Placed.TheVariants as placed
use Rattle.sl_law_meaning.specs.book.Trees.{BookTree}
use Rattle.sl_law_meaning.specs.returns.Election.{Election}
use Rattle.sl_law_meaning.specs.returns.Facts.{lists_of, is_on_list}
use Rattle.sl_law_meaning.specs.meaning.Records.{Records}
use Rattle.sl_law_meaning.specs.meaning.Seating.{kept_place, kept_seats, table_line, keep_table}
use Rattle.sl_law_meaning.specs.meaning.Tables.{SeatTable}
use Rattle.sl_law_meaning.specs.meaning.Means.{IsSeated}
use Rattle.sl_law_meaning.specs.laws.MeaningLaws.{IsListOf}
use Rattle.sl_law_meaning.proofs.meaning.DistinctLists.{every_weaker}
use Rattle.sl_law_meaning.proofs.meaning.PlacedWinners.{count_agree, kept_winners}
use Rattle.sl_law_fairness.specs.Winners.{base_seats, winners_on, is_single, IsLine, KeepSeatsAll, KeepTotal}
use Rattle.sl_law_fairness.proofs.ListColumns.{sum_mapped, sum_larger, zip_map, each_is_map, are_lists}
use Rattle.sl_law_fairness.proofs.Bases.{end_of, same_table, one_base, sum_of_base}

-- the table that is kept
kept_end : (b : BookTree) (e : Election) (base : List ℕ) (records : Records) (s : Seating) → s ≡ seating.Keep → (u : SeatTable) → IsSeated b e s base records (outcome.Table u) → u ≡ keep_table b e base records
kept_end b e base records seating.Keep is u h = same_table u (keep_table b e base records) h
kept_end b e base records seating.Cover is u h = cc

-- ---- each winner sits

sits : (b : BookTree) (e : Election) (w : Win) → (kept_place b e w ≡ placed.OnList) ⊎ (kept_place b e w ≡ placed.Single)
sits b e w =
    elim (cases_Bool (is_on_list b.eligible e w)) [
      | inl on ↦ inl (cond-true (is_on_list b.eligible e w) placed.OnList placed.Single on)
      | inr off ↦ inr (cond-false (is_on_list b.eligible e w) placed.OnList placed.Single off)
    ]

all_sit : (b : BookTree) (e : Election) (wins : List Win) (k : ℕ) → k < length wins →
    (slice_get (map (kept_place b e) wins) k ≡ Some placed.OnList) ⊎ (slice_get (map (kept_place b e) wins) k ≡ Some placed.Single)
all_sit b e [] k less = absurd (omega (arith, less))
all_sit b e (w ∷ wins) zero less = elim (sits b e w) [ inl on ↦ inl (ap (λ (p : Placed). Some p) on) | inr single ↦ inr (ap (λ (p : Placed). Some p) single) ]
all_sit b e (w ∷ wins) (suc k) less = all_sit b e wins k (omega (arith, less))

pub keep_seats_all : KeepSeatsAll
keep_seats_all b e t keep means k less =
    let end = end_of b e t means in
    let same = end.placed ∙ ap (λ u. u.placed) (kept_end b e end.base end.records b.last.seating keep end.table end.seated) in
    subst (λ places. (slice_get places k ≡ Some placed.OnList) ⊎ (slice_get places k ≡ Some placed.Single)) (sym same) (all_sit b e e.wins k less)

-- ---- the seats of the lists, and the total

single_unless : (t : Bool) → is_single (if t then placed.OnList else placed.Single) ≡ not t
single_unless true = refl
single_unless false = refl

module _ (b : BookTree) (e : Election) (base : List ℕ) where
  places : List Placed
  places = map (kept_place b e) e.wins

  kept_line : ℕ × ℕ → ListSeats
  kept_line l = table_line b e (kept_seats b e base) places l.0 l.1

  lines : (records : Records) → (keep_table b e base records).lists ≡ map kept_line (lists_of e)
  unfolding places kept_line
  lines records = each_is_map e (table_line b e (kept_seats b e base) places)

  are_lines : (records : Records) → AllZip (λ l. IsLine l (max (base_seats e base l) (winners_on b e l)) (winners_on b e l)) (lists_of e) (map kept_line (lists_of e))
  unfolding places kept_line
  are_lines records =
      zip_map (λ l. IsLine l (max (base_seats e base l) (winners_on b e l)) (winners_on b e l)) kept_line (lists_of e)
      (every_weaker (λ l. IsListOf e l.0 l.1) (λ l. IsLine l (max (base_seats e base l) (winners_on b e l)) (winners_on b e l) (kept_line l))
      (λ l there. record { land = refl; party = refl; seats = refl; direct = kept_winners b e base records l.0 l.1 there }) (lists_of e) (are_lists e))

  singles : count_by is_single places ≡ count_by (λ w. not (is_on_list b.eligible e w)) e.wins
  unfolding places
  singles =
      sum_mapped (λ p. cond (is_single p) 1 0) (kept_place b e) e.wins
      ∙ count_agree (λ w. is_single (kept_place b e w)) (λ w. not (is_on_list b.eligible e w)) (λ w. single_unless (is_on_list b.eligible e w)) e.wins

  seats : sum_by (λ s. s.seats) (map kept_line (lists_of e)) ≡ sum_by (base_seats e base) (lists_of e) + sum_by (λ l. winners_on b e l - base_seats e base l) (lists_of e)
  unfolding kept_line
  seats = sum_mapped (λ s. s.seats) kept_line (lists_of e) ∙ sum_larger (base_seats e base) (winners_on b e) (lists_of e)

pub keep_total : KeepTotal
unfolding places
keep_total b e base t typed is keep at means =
    let end = end_of b e t means in
    let same : end.base ≡ base = one_base b e typed end.base base end.is_base at in
    let table = kept_end b e end.base end.records b.last.seating keep end.table end.seated ∙ ap (λ c. keep_table b e c end.records) same in
    let lists : t.lists ≡ map (kept_line b e base) (lists_of e) = end.lists ∙ ap (λ u. u.lists) table ∙ lines b e base end.records in
    let placed : t.placed ≡ places b e base = end.placed ∙ ap (λ u. u.placed) table in (
      subst (AllZip (λ l. IsLine l (max (base_seats e base l) (winners_on b e l)) (winners_on b e l)) (lists_of e)) (sym lists) (are_lines b e base end.records),
      (let all : sum_by (λ s. s.seats) t.lists ≡ sum_by (λ s. s.seats) (map (kept_line b e base) (lists_of e)) = ap (sum_by (λ s. s.seats)) lists in
          let some : count_by is_single t.placed ≡ count_by is_single (places b e base) = ap (count_by is_single) placed in
          omega (arith, all, some, seats b e base, singles b e base, sum_of_base b e base typed is at)),
    )

-- The small elections, step by step.
use Rattle.std.proofs.Common.{ℕ, List, [], ◌∷◌, Option, Some, None, inl, inr, arith, refl}
use Rattle.std.specs.Prelude.{unwrap_or, codes}
use Rattle.sl_base_quotients.specs.declared.method.Divisor.TheVariants.{Webster, Jefferson}
use Rattle.sl_base_quotients.specs.declared.method.Method.{Method}
use Rattle.sl_base_quotients.specs.declared.method.Method.TheVariants as by
use Rattle.sl_law_meaning.specs.declared.fact.Fact.TheVariants as facts
use Rattle.sl_law_meaning.specs.declared.book.Cond.TheVariants as condition
use Rattle.sl_law_meaning.specs.declared.book.Majority.{Majority}
use Rattle.sl_law_meaning.specs.declared.book.Majority.TheVariants as majority
use Rattle.sl_law_meaning.specs.declared.book.Seating.{Seating}
use Rattle.sl_law_meaning.specs.declared.book.Seating.TheVariants as seating
use Rattle.sl_base_terms.specs.declared.shape.Shape.TheVariants as shape
use Rattle.sl_law_meaning.specs.declared.fault.LegalFault.{LegalFault}
use Rattle.sl_law_meaning.specs.declared.fault.Scope.TheVariants as scope
use Rattle.sl_law_meaning.specs.declared.fault.FaultKind.TheVariants as fault
use Rattle.sl_law_meaning.specs.declared.election.Lot.{Lot}
use Rattle.sl_law_meaning.specs.declared.table.Outcome.{Outcome}
use Rattle.sl_law_meaning.specs.declared.table.Outcome.TheVariants as outcome
use Rattle.sl_law_meaning.specs.book.Trees.{ExprTree, fact}
use Rattle.sl_law_meaning.specs.returns.Election.{Election}
use Rattle.sl_law_meaning.specs.returns.Facts.{counted_votes, list_winners}
use Rattle.sl_law_meaning.specs.methods.Allocations.{IsDivisorAllocation}
use Rattle.sl_law_meaning.specs.methods.Covering.{IsCovering}
use Rattle.sl_law_meaning.specs.methods.Ties.{Decided, Tied, IsChoice}
use Rattle.sl_law_meaning.specs.methods.LeastHouse.{GrownTo, EmptyField}
use Rattle.sl_law_examples.specs.Examples.{two_seats}
use Rattle.sl_law_meaning.specs.laws.Ladders.{divisor_ladders, covering_ladders}
use Rattle.sl_law_meaning.specs.meaning.Scopes.{all_lists}
use Rattle.sl_law_meaning.specs.meaning.Lots.{stage_lot}
use Rattle.sl_law_meaning.specs.meaning.Records.{Records}
use Rattle.sl_law_meaning.specs.meaning.Splits.{Seats, Refused, entries_at}
use Rattle.sl_law_meaning.specs.meaning.Results.{ExprResult, Column, Fault, fault_at}
use Rattle.sl_law_meaning.specs.meaning.Expressions.{Context, ExprMeans, IsSplit, IsGrown, stand}
use Rattle.sl_law_meaning.specs.meaning.Means.{Means, nothing_known, context_of, with_stage, Through, Stopped, IsSeated}
use Rattle.sl_law_examples.specs.SmallElections.{stage_s, house_split, house_split_from, house_grown, one_stage, one_land, votes, win, lot, winner_lot}
use Rattle.sl_law_examples.specs.MeaningExamples.{by_webster, thirty_ten, TiesAndLots, MinimaAndGrowth, Refusals, LastClauses}
use Rattle.sl_law_meaning.proofs.methods.DivisorProofs.{empty_fields, divisor_tops}
use Rattle.sl_law_meaning.proofs.methods.CoveringProofs.{covering_tops}
use Rattle.sl_law_meaning.proofs.methods.LadderProofs.{batches, raise_each}
use Rattle.sl_law_meaning.proofs.methods.RaisedSeats.{Contains-cases, Contains-none}
use Rattle.sl_law_examples.proofs.SettledTests.{settled_by_test, peers_by_test, names_by_test}
use Rattle.sl_law_meaning.proofs.meaning.PlainRuns.{then_plain}
use Rattle.sl_law_meaning.proofs.meaning.MeaningProofs.{same_itself}
use Rattle.sl_law_examples.proofs.WorkedExamples.{decided, three_votes, webster_thirty_ten, first_seats, hamilton_majority, three_winners}

-- ---- a book of one stage: the stage's fault is the outcome, or its column goes to the last clause

abbrev stage_context : ExprTree → Context
stage_context x = context_of nothing_known (stage_s x)

module _ (seats : ℕ) (x : ExprTree) (w : Seating) (vacate : Option ℕ) (e : Election) where
  stopped : (f : LegalFault) → ExprMeans (one_stage seats x w vacate) e (stage_context x) x (Fault f) → Means (one_stage seats x w vacate) e (outcome.Fault f)
  stopped f h = record { ordered = outcome.Fault f; is = record { run = Stopped f; stages = (Fault f, h, refl); ends = refl }; same = refl }

  ended : (o : Outcome) (values : List ℕ) (records : Records) → ExprMeans (one_stage seats x w vacate) e (stage_context x) x (Column values records) →
      IsSeated (one_stage seats x w vacate) e w values records o → Means (one_stage seats x w vacate) e o
  ended o values records h seated = record {
    ordered = o;
    is = record {
      run = Through (with_stage nothing_known (stage_s x) values records);
      stages = (Column values records, h, refl);
      ends = record { base = values; is_base = refl; seated = seated };
    };
    same = same_itself o;
  }

-- ---- the house, split by the counted votes; split so with the winners as minima; and grown so

abbrev all_votes : Election → List ℕ
all_votes e = counted_votes (condition.All ∷ []) e

abbrev all_winners : Election → List ℕ
all_winners e = list_winners (condition.All ∷ []) e

module _ (seats : ℕ) (method : Method) (m : Majority) (w : Seating) (vacate : Option ℕ) (e : Election) (r : ExprResult) where
  split_is : IsSplit e (stand (stage_context (house_split method m)) (fact 0 facts.Counted)) (unwrap_or e.house seats ∷ []) (all_votes e) shape.One method m None r →
      ExprMeans (one_stage seats (house_split method m) w vacate) e (stage_context (house_split method m)) (house_split method m) r
  split_is h = then_plain _ _ r (unwrap_or e.house seats ∷ []) (_, refl, refl) (then_plain _ _ r (all_votes e) (_, refl, refl) h)

  split_from_is : IsSplit e (stand (stage_context (house_split_from method m)) (fact 0 facts.Counted)) (unwrap_or e.house seats ∷ []) (all_votes e) shape.One method m (Some (all_winners e)) r →
      ExprMeans (one_stage seats (house_split_from method m) w vacate) e (stage_context (house_split_from method m)) (house_split_from method m) r
  split_from_is h =
      then_plain _ _ r (unwrap_or e.house seats ∷ []) (_, refl, refl) (then_plain _ _ r (all_votes e) (_, refl, refl) (then_plain _ _ r (all_winners e) (_, refl, refl) h))

  growth_is : IsGrown e (stand (stage_context (house_grown method m)) (fact 0 facts.Counted)) (unwrap_or e.house seats ∷ []) (all_votes e) method m (all_winners e) 9 r →
      ExprMeans (one_stage seats (house_grown method m) w vacate) e (stage_context (house_grown method m)) (house_grown method m) r
  growth_is h =
      then_plain _ _ r (unwrap_or e.house seats ∷ []) (_, refl, refl) (then_plain _ _ r (all_votes e) (_, refl, refl) (then_plain _ _ r (all_winners e) (_, refl, refl) h))

-- ---- the examples

webster_fault : (lots : List Lot) (k : ℕ) (tied : List ℕ) → IsChoice two_seats (stage_lot (thirty_ten lots) (codes "s") shape.List (all_lists (thirty_ten lots))) (Tied k tied) →
    Means (by_webster 2) (thirty_ten lots) (outcome.Fault (fault_at 0 scope.All (fault.Tie k (entries_at (all_lists (thirty_ten lots)) tied))))
webster_fault lots k tied h =
    stopped 2 (house_split (by.Divisor Webster) majority.Free) seating.Keep None (thirty_ten lots) _
    (split_is 2 (by.Divisor Webster) majority.Free seating.Keep None (thirty_ten lots) (Fault _)
    (record { awards = Refused _ ∷ []; each = (record { choice = Tied k tied; chosen = h; is = refl }, tt); is = refl }))

pub ties_and_lots : TiesAndLots
ties_and_lots = record {
  tie = webster_fault [] 1 (0 ∷ 1 ∷ []) webster_thirty_ten.tie;
  half_a_lot = webster_fault (lot 1 ∷ []) 1 (0 ∷ 1 ∷ []) webster_thirty_ten.half_a_lot;
  by_lot = ended 2 (house_split (by.Divisor Webster) majority.Free) seating.Keep None (thirty_ten (lot 1 ∷ lot 0 ∷ [])) _ (1 ∷ 1 ∷ []) _
      (split_is 2 (by.Divisor Webster) majority.Free seating.Keep None (thirty_ten (lot 1 ∷ lot 0 ∷ [])) _
      (record { awards = Seats (1 ∷ 1 ∷ []) ∷ []; each = (record { choice = Decided (1 ∷ 1 ∷ []); chosen = webster_thirty_ten.lot; is = refl }, tt); is = refl })) refl;
  three = ended 3 (house_split (by.Divisor Webster) majority.Free) seating.Keep None (thirty_ten []) _ (2 ∷ 1 ∷ []) _
      (split_is 3 (by.Divisor Webster) majority.Free seating.Keep None (thirty_ten []) _
      (record { awards = Seats (2 ∷ 1 ∷ []) ∷ []; each = (record { choice = Decided (2 ∷ 1 ∷ []); chosen = webster_thirty_ten.three []; is = refl }, tt); is = refl })) refl;
}

pub minima_and_growth : MinimaAndGrowth
minima_and_growth = record {
  minima =
      let e : Election = one_land (votes 100 ∷ votes 10 ∷ []) (win 1 1 2 ∷ win 1 1 2 ∷ []) [] in
      ended 3 (house_split_from (by.Divisor Jefferson) majority.Free) seating.Keep None e _ (1 ∷ 2 ∷ []) _
      (split_from_is 3 (by.Divisor Jefferson) majority.Free seating.Keep None e _
      (record { awards = Seats (1 ∷ 2 ∷ []) ∷ []; each = (record { choice = Decided (1 ∷ 2 ∷ []); chosen = first_seats.minima; is = refl }, tt); is = refl })) refl;
  short =
      let e : Election = one_land (votes 100 ∷ votes 10 ∷ []) (win 0 1 2 ∷ win 0 1 2 ∷ win 1 1 2 ∷ win 1 1 2 ∷ []) [] in
      stopped 3 (house_split_from (by.Divisor Jefferson) majority.Free) seating.Keep None e _
      (split_from_is 3 (by.Divisor Jefferson) majority.Free seating.Keep None e (Fault _) (record { awards = Refused fault.Short ∷ []; each = (refl, tt); is = refl }));
  growth =
      let e : Election = one_land (votes 30 ∷ votes 10 ∷ []) (win 1 1 2 ∷ []) [] in
      ended 2 (house_grown (by.Divisor Webster) majority.Free) seating.Keep None e _ (2 ∷ 1 ∷ []) _
      (growth_is 2 (by.Divisor Webster) majority.Free seating.Keep None e _
      (record {
        awards = Seats (2 ∷ 1 ∷ []) ∷ [];
        each = (
          record {
            growth = GrownTo 3;
            least = webster_thirty_ten.growth;
            comes = record { choice = Decided (2 ∷ 1 ∷ []); chosen = webster_thirty_ten.three []; is = refl };
          },
          tt,
        );
        is = refl;
      })) refl;
}

pub refusals : Refusals
refusals = record {
  deprived =
      let e : Election = one_land (votes 51 ∷ votes 18 ∷ votes 16 ∷ votes 15 ∷ []) [] [] in
      stopped 5 (house_split by.Hamilton majority.Refuse) seating.Keep None e _
      (split_is 5 by.Hamilton majority.Refuse seating.Keep None e (Fault _)
      (record { awards = Refused fault.Majority ∷ []; each = (record { choice = Decided (2 ∷ 1 ∷ 1 ∷ 1 ∷ []); chosen = hamilton_majority.plain; is = refl }, tt); is = refl }));
  no_votes =
      let e : Election = one_land (votes 0 ∷ []) [] [] in
      stopped 1 (house_split (by.Divisor Webster) majority.Free) seating.Keep None e _
      (split_is 1 (by.Divisor Webster) majority.Free seating.Keep None e (Fault _) (record { awards = Refused fault.NoList ∷ []; each = (refl, tt); is = refl }));
  no_growth =
      let e : Election = one_land (votes 0 ∷ []) [] [] in
      stopped 1 (house_grown (by.Divisor Webster) majority.Free) seating.Keep None e _
      (growth_is 1 (by.Divisor Webster) majority.Free seating.Keep None e (Fault _)
      (record { awards = Refused fault.NoList ∷ []; each = (record { growth = EmptyField; least = (empty_fields (0 ∷ [])).1 refl; comes = refl }, tt); is = refl }));
}

-- all seats go to the one list
two_for_one : IsChoice (IsDivisorAllocation Webster (10 ∷ []) (0 ∷ []) 2) [] (Decided (2 ∷ []))
two_for_one =
    let tops = divisor_tops Webster (10 ∷ []) (0 ∷ []) refl in
    (tops.choice 2 [] (Decided (2 ∷ []))).0 (decided (divisor_ladders Webster (10 ∷ []) (0 ∷ [])) tops.falling (2 ∷ []) refl refl [])

four_for_one : IsChoice (IsDivisorAllocation Webster (10 ∷ []) (0 ∷ []) 4) [] (Decided (4 ∷ []))
four_for_one =
    let tops = divisor_tops Webster (10 ∷ []) (0 ∷ []) refl in
    (tops.choice 4 [] (Decided (4 ∷ []))).0 (decided (divisor_ladders Webster (10 ∷ []) (0 ∷ [])) tops.falling (4 ∷ []) refl refl [])

-- the first winner is seated, and the lot names the third before the second
third_by_lot : IsChoice (IsCovering (300 ∷ 400 ∷ 360 ∷ []) (500 ∷ 1000 ∷ 900 ∷ []) 2) (2 ∷ 1 ∷ []) (Decided (1 ∷ 0 ∷ 1 ∷ []))
third_by_lot =
    let tops = covering_tops (300 ∷ 400 ∷ 360 ∷ []) (500 ∷ 1000 ∷ 900 ∷ []) (three_votes 300 400 360 (omega arith) (omega arith) (omega arith)) in
    let l = covering_ladders (300 ∷ 400 ∷ 360 ∷ []) (500 ∷ 1000 ∷ 900 ∷ []) in
    let batch = (batches l tops.falling).batch (1 ∷ 0 ∷ 0 ∷ []) (1 ∷ 2 ∷ []) (settled_by_test l (1 ∷ 0 ∷ 0 ∷ []) tops.falling refl refl) (peers_by_test l (1 ∷ 0 ∷ 0 ∷ []) tops.falling (1 ∷ 2 ∷ []) refl) in
    (tops.choice 2 (2 ∷ 1 ∷ []) (Decided (1 ∷ 0 ∷ 1 ∷ []))).0
    (batch.drawn_ones 1 (omega arith) (omega arith) (2 ∷ 1 ∷ [])
    (λ c. elim (Contains-cases 1 [] 2 c) [ inl e ↦ omega arith | inr h ↦ Contains-none 2 h ], (λ c. Contains-none 1 c, tt))
    (names_by_test (2 ∷ 1 ∷ []) (1 ∷ 2 ∷ []) refl) (1 ∷ 0 ∷ 1 ∷ [])
    (raise_each (1 ∷ 0 ∷ 0 ∷ []) (2 ∷ []) (λ c. Contains-none 2 c, tt) (λ p c. elim (Contains-cases 2 [] p c) [ inl e ↦ omega arith | inr h ↦ absurd (Contains-none p h) ])))

pub last_clauses : LastClauses
last_clauses = record {
  covered =
      let e : Election = one_land (votes 10 ∷ []) (win 0 300 500 ∷ win 0 400 1000 ∷ win 0 390 900 ∷ []) [] in
      ended 2 (house_split (by.Divisor Webster) majority.Free) seating.Cover None e _ (2 ∷ []) _
      (split_is 2 (by.Divisor Webster) majority.Free seating.Cover None e _
      (record { awards = Seats (2 ∷ []) ∷ []; each = (record { choice = Decided (2 ∷ []); chosen = two_for_one; is = refl }, tt); is = refl }))
      (record { choices = Decided (1 ∷ 0 ∷ 1 ∷ []) ∷ []; each = (three_winners.seated, tt); is = refl });
  tie =
      let e : Election = one_land (votes 10 ∷ []) (win 0 300 500 ∷ win 0 400 1000 ∷ win 0 360 900 ∷ []) [] in
      ended 2 (house_split (by.Divisor Webster) majority.Free) seating.Cover None e _ (2 ∷ []) _
      (split_is 2 (by.Divisor Webster) majority.Free seating.Cover None e _
      (record { awards = Seats (2 ∷ []) ∷ []; each = (record { choice = Decided (2 ∷ []); chosen = two_for_one; is = refl }, tt); is = refl }))
      (record { choices = Tied 1 (1 ∷ 2 ∷ []) ∷ []; each = (three_winners.tie, tt); is = refl });
  tie_and_lot =
      let e : Election = one_land (votes 10 ∷ []) (win 0 300 500 ∷ win 0 400 1000 ∷ win 0 360 900 ∷ []) (winner_lot 2 ∷ winner_lot 1 ∷ []) in
      ended 2 (house_split (by.Divisor Webster) majority.Free) seating.Cover None e _ (2 ∷ []) _
      (split_is 2 (by.Divisor Webster) majority.Free seating.Cover None e _
      (record { awards = Seats (2 ∷ []) ∷ []; each = (record { choice = Decided (2 ∷ []); chosen = two_for_one; is = refl }, tt); is = refl }))
      (record { choices = Decided (1 ∷ 0 ∷ 1 ∷ []) ∷ []; each = (third_by_lot, tt); is = refl });
  vacant =
      let e : Election = one_land (record { valid = 10; counted = 10; slate = Some 2 } ∷ []) (win 0 1 2 ∷ []) [] in
      ended 4 (house_split (by.Divisor Webster) majority.Free) seating.Keep (Some 0) e _ (4 ∷ []) _
      (split_is 4 (by.Divisor Webster) majority.Free seating.Keep (Some 0) e _
      (record { awards = Seats (4 ∷ []) ∷ []; each = (record { choice = Decided (4 ∷ []); chosen = four_for_one; is = refl }, tt); is = refl })) refl;
}

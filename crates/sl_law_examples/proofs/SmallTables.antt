-- Small returns by the statute of 2023, stage by stage, and the tables that it means on them.
use Rattle.std.proofs.Common.{◌≡◌, ℕ, zero, suc, ◌*◌, ◌≤◌, List, [], ◌∷◌, map, arith, refl, ◌∙◌}
use Rattle.std.specs.Prelude.{codes, zip}
use Rattle.sl_base_quotients.specs.declared.method.Divisor.TheVariants.{Webster}
use Rattle.sl_law_meaning.specs.declared.fact.Fact.TheVariants as facts
use Rattle.sl_law_meaning.specs.declared.table.Outcome.TheVariants as outcome
use Rattle.sl_law_meaning.specs.declared.table.Placed.{Placed}
use Rattle.sl_law_meaning.specs.declared.table.Placed.TheVariants as placed
use Rattle.sl_law_meaning.specs.laws.MethodLaws.{AllHaveVotes}
use Rattle.sl_law_meaning.specs.methods.Ties.{Choice, Decided}
use Rattle.sl_law_meaning.specs.returns.Election.{Election, IsElection, with_list}
use Rattle.sl_law_meaning.specs.returns.Facts.{lists_of}
use Rattle.sl_law_meaning.specs.meaning.Columns.{IsLeaf}
use Rattle.sl_law_meaning.specs.meaning.Results.{Column, plain}
use Rattle.sl_law_meaning.specs.meaning.Seating.{base_of, cover_table}
use Rattle.sl_law_meaning.specs.meaning.Splits.{Seats}
use Rattle.sl_law_meaning.specs.meaning.Tables.{SeatTable}
use Rattle.sl_law_meaning.specs.meaning.Means.{Known, Through, nothing_known, context_of, StagesMean, IsSeated, Means}
use Rattle.sl_law_meaning.proofs.Elections.{is_with_list, is_with_win}
use Rattle.sl_law_meaning.proofs.meaning.PlainRuns.{to_means, then_plain}
use Rattle.sl_law_fairness.specs.Winners.{total_seats}
use Rattle.sl_law_statutes.specs.Parties.{seats_column}
use Rattle.sl_law_statutes.specs.Trees.{pool, law_of_2023}
use Rattle.sl_law_examples.specs.VotesThatCost.{votes, Gives}
use Rattle.sl_law_examples.specs.Tables.{winner_by, independent, GivesLists, WinnersAmongLists, three_lists, ListsApart, BestByOneMeasure, with_independent, HalfOfAll, FourAreEnough, two_independents, MoreIndependents}
use Rattle.sl_law_examples.proofs.Allocated.{divisor_some, divisor_only}
use Rattle.sl_law_examples.proofs.SmallReturns.{are_votes, is_winner_by, is_independent, is_two_by_two, gives_it, lists_it, places_it, total_it, undisputed, undisputed_covering}
use Rattle.sl_law_examples.proofs.Threshold.{fewer_are_enough}
use Rattle.sl_law_examples.proofs.VotesAndGrowth.{lists_after}
use Rattle.sl_law_examples.proofs.WinnersAbove.{nobody}

pub winners_among_lists : WinnersAmongLists
winners_among_lists = record { lists = lists_after; by_votes = divisor_only Webster (6 ∷ 1 ∷ []) (0 ∷ 0 ∷ []) (3 ∷ 0 ∷ []) refl refl refl }

pub best_by_one_measure : BestByOneMeasure
best_by_one_measure = record {
  seats = λ at. (fewer_are_enough.one_more at).had;
  moved = λ least. let le : 45 * 95 ≤ 55 * 5 = least 1 0 (λ e. omega (arith, e)) (omega arith) (omega arith) (omega arith) in omega (arith, le);
}

-- ---- returns

are_three_lists : IsElection three_lists
are_three_lists =
    let parties = is_two_by_two 4 2 2 (omega arith) (omega arith) (omega arith) (omega arith) in
    let one = is_with_list _ 0 0 (votes 1) parties (omega arith) (omega arith) (are_votes 1 (omega arith)) in
    let two = is_with_list _ 1 0 (votes 6) one (omega arith) (omega arith) (are_votes 6 (omega arith)) in
    is_with_list _ 1 1 (votes 4) two (omega arith) (omega arith) (are_votes 4 (omega arith))

with_a_vote : IsElection (with_list three_lists 0 0 (votes 2))
with_a_vote = is_with_list three_lists 0 0 (votes 2) are_three_lists (omega arith) (omega arith) (are_votes 2 (omega arith))

are_with_independent : IsElection with_independent
are_with_independent =
    let parties = is_two_by_two 4 2 2 (omega arith) (omega arith) (omega arith) (omega arith) in
    let one = is_with_list _ 0 0 (votes 4) parties (omega arith) (omega arith) (are_votes 4 (omega arith)) in
    let two = is_with_list _ 0 1 (votes 7) one (omega arith) (omega arith) (are_votes 7 (omega arith)) in
    let x1 = is_with_win _ (codes "x1") (winner_by 0 0 2 3) two refl (is_winner_by 2 2 0 0 2 3 (omega arith) (omega arith) (omega arith) (omega arith) (omega arith)) in
    let x2 = is_with_win _ (codes "x2") (winner_by 0 0 1 2) x1 refl (is_winner_by 2 2 0 0 1 2 (omega arith) (omega arith) (omega arith) (omega arith) (omega arith)) in
    is_with_win _ (codes "x3") (independent 0) x2 refl (is_independent 2 2 0 (omega arith))

with_four_votes : IsElection (with_list with_independent 0 0 (votes 8))
with_four_votes = is_with_list with_independent 0 0 (votes 8) are_with_independent (omega arith) (omega arith) (are_votes 8 (omega arith))

are_two_independents : IsElection two_independents
are_two_independents =
    let parties = is_two_by_two 1 2 2 (omega arith) (omega arith) (omega arith) (omega arith) in
    let one = is_with_list _ 0 0 (votes 1) parties (omega arith) (omega arith) (are_votes 1 (omega arith)) in
    let two = is_with_list _ 0 1 (votes 1) one (omega arith) (omega arith) (are_votes 1 (omega arith)) in
    let x1 = is_with_win _ (codes "x1") (independent 0) two refl (is_independent 2 2 0 (omega arith)) in
    is_with_win _ (codes "x2") (independent 0) x1 refl (is_independent 2 2 0 (omega arith))

-- ---- the tables
module _ (at : ℕ → ℕ) (e : Election) (is : IsElection e) (choices : List Choice) (base : List ℕ) (k : Known) (run : StagesMean (law_of_2023 at) e nothing_known (law_of_2023 at).stages (Through k))
    (is_base : IsLeaf (law_of_2023 at) e k.columns (base_of (law_of_2023 at).last) base)
    (seated : IsSeated (law_of_2023 at) e (law_of_2023 at).last.seating base k.records (outcome.Table (cover_table (law_of_2023 at) e base k.records (zip (lists_of e) choices)))) where
  abbrev covered : SeatTable
  covered = cover_table (law_of_2023 at) e base k.records (zip (lists_of e) choices)

  parties_have : (seats : List ℕ) → seats_column e covered ≡ seats → Gives (law_of_2023 at) e seats
  parties_have = gives_it (law_of_2023 at) e refl is k run base is_base covered seated

  lists_have : (seats : List ℕ) → map (λ s. s.seats) covered.lists ≡ seats → GivesLists (law_of_2023 at) e seats
  lists_have = lists_it (law_of_2023 at) e refl is k run base is_base covered seated

  winners_have : (places : List Placed) → covered.placed ≡ places → (t : SeatTable) → Means (law_of_2023 at) e (outcome.Table t) → t.placed ≡ places
  winners_have places have t means = places_it (law_of_2023 at) e refl is k run base is_base covered seated t means ∙ have

  all_have : (n : ℕ) → total_seats covered ≡ n → (t : SeatTable) → Means (law_of_2023 at) e (outcome.Table t) → total_seats t ≡ n
  all_have n have t means = total_it (law_of_2023 at) e refl is k run base is_base covered seated t means ∙ have

two_won : AllHaveVotes (2 ∷ 1 ∷ [])
two_won zero l = omega arith
two_won (suc zero) l = omega arith
two_won (suc (suc i)) l = absurd (omega (arith, l))

module _ (at : ℕ → ℕ) where
  abbrev lists_run : (k : Known) × StagesMean (law_of_2023 at) three_lists nothing_known (law_of_2023 at).stages (Through k)
  lists_run = (
    _,
    (
      plain (4 ∷ []),
      to_means (law_of_2023 at) three_lists (context_of nothing_known (pool at facts.Independents)) (pool at facts.Independents).expr refl (4 ∷ []) (4 ∷ [], 0 ∷ [], refl, (0 ∷ 0 ∷ [], refl, refl), refl),
      (
        Column (3 ∷ 1 ∷ []) _,
        then_plain _ _ _ (4 ∷ []) (_, refl, refl)
            (then_plain _ _ _ (7 ∷ 4 ∷ []) (then_plain _ _ _ (1 ∷ 0 ∷ 6 ∷ 4 ∷ []) (_, refl, refl) refl)
            (record { awards = Seats (3 ∷ 1 ∷ []) ∷ []; each = (record { choice = Decided (3 ∷ 1 ∷ []); chosen = undisputed Webster (7 ∷ 4 ∷ []) (0 ∷ 0 ∷ []) (3 ∷ 1 ∷ []) refl refl refl []; is = refl }, tt); is = refl })),
        (
          Column (0 ∷ 0 ∷ 3 ∷ 1 ∷ []) _,
          then_plain _ _ _ (3 ∷ 1 ∷ []) (_, refl, refl)
              (then_plain _ _ _ (1 ∷ 0 ∷ 6 ∷ 4 ∷ []) (_, refl, refl)
              (record { awards = Seats (0 ∷ 3 ∷ []) ∷ Seats (1 ∷ []) ∷ []; each = (record { choice = Decided (0 ∷ 3 ∷ []); chosen = undisputed Webster (1 ∷ 6 ∷ []) (0 ∷ 0 ∷ []) (0 ∷ 3 ∷ []) refl refl refl []; is = refl }, (record { choice = Decided (1 ∷ []); chosen = undisputed Webster (4 ∷ []) (0 ∷ []) (1 ∷ []) refl refl refl []; is = refl }, tt)); is = refl })),
          refl,
        ),
      ),
    ),
  )

  abbrev more_lists_run : (k : Known) × StagesMean (law_of_2023 at) (with_list three_lists 0 0 (votes 2)) nothing_known (law_of_2023 at).stages (Through k)
  more_lists_run = (
    _,
    (
      plain (4 ∷ []),
      to_means (law_of_2023 at) (with_list three_lists 0 0 (votes 2)) (context_of nothing_known (pool at facts.Independents)) (pool at facts.Independents).expr refl (4 ∷ []) (4 ∷ [], 0 ∷ [], refl, (0 ∷ 0 ∷ [], refl, refl), refl),
      (
        Column (3 ∷ 1 ∷ []) _,
        then_plain _ _ _ (4 ∷ []) (_, refl, refl)
            (then_plain _ _ _ (8 ∷ 4 ∷ []) (then_plain _ _ _ (2 ∷ 0 ∷ 6 ∷ 4 ∷ []) (_, refl, refl) refl)
            (record { awards = Seats (3 ∷ 1 ∷ []) ∷ []; each = (record { choice = Decided (3 ∷ 1 ∷ []); chosen = undisputed Webster (8 ∷ 4 ∷ []) (0 ∷ 0 ∷ []) (3 ∷ 1 ∷ []) refl refl refl []; is = refl }, tt); is = refl })),
        (
          Column (1 ∷ 0 ∷ 2 ∷ 1 ∷ []) _,
          then_plain _ _ _ (3 ∷ 1 ∷ []) (_, refl, refl)
              (then_plain _ _ _ (2 ∷ 0 ∷ 6 ∷ 4 ∷ []) (_, refl, refl)
              (record { awards = Seats (1 ∷ 2 ∷ []) ∷ Seats (1 ∷ []) ∷ []; each = (record { choice = Decided (1 ∷ 2 ∷ []); chosen = undisputed Webster (2 ∷ 6 ∷ []) (0 ∷ 0 ∷ []) (1 ∷ 2 ∷ []) refl refl refl []; is = refl }, (record { choice = Decided (1 ∷ []); chosen = undisputed Webster (4 ∷ []) (0 ∷ []) (1 ∷ []) refl refl refl []; is = refl }, tt)); is = refl })),
          refl,
        ),
      ),
    ),
  )

  abbrev independent_run : (k : Known) × StagesMean (law_of_2023 at) with_independent nothing_known (law_of_2023 at).stages (Through k)
  independent_run = (
    _,
    (
      plain (3 ∷ []),
      to_means (law_of_2023 at) with_independent (context_of nothing_known (pool at facts.Independents)) (pool at facts.Independents).expr refl (3 ∷ []) (4 ∷ [], 1 ∷ [], refl, (1 ∷ 0 ∷ [], refl, refl), refl),
      (
        Column (1 ∷ 2 ∷ []) _,
        then_plain _ _ _ (3 ∷ []) (_, refl, refl)
            (then_plain _ _ _ (4 ∷ 7 ∷ []) (then_plain _ _ _ (4 ∷ 7 ∷ 0 ∷ 0 ∷ []) (_, refl, refl) refl)
            (record { awards = Seats (1 ∷ 2 ∷ []) ∷ []; each = (record { choice = Decided (1 ∷ 2 ∷ []); chosen = undisputed Webster (4 ∷ 7 ∷ []) (0 ∷ 0 ∷ []) (1 ∷ 2 ∷ []) refl refl refl []; is = refl }, tt); is = refl })),
        (
          Column (1 ∷ 2 ∷ 0 ∷ 0 ∷ []) _,
          then_plain _ _ _ (1 ∷ 2 ∷ []) (_, refl, refl)
              (then_plain _ _ _ (4 ∷ 7 ∷ 0 ∷ 0 ∷ []) (_, refl, refl)
              (record { awards = Seats (1 ∷ []) ∷ Seats (2 ∷ []) ∷ []; each = (record { choice = Decided (1 ∷ []); chosen = undisputed Webster (4 ∷ []) (0 ∷ []) (1 ∷ []) refl refl refl []; is = refl }, (record { choice = Decided (2 ∷ []); chosen = undisputed Webster (7 ∷ []) (0 ∷ []) (2 ∷ []) refl refl refl []; is = refl }, tt)); is = refl })),
          refl,
        ),
      ),
    ),
  )

  abbrev four_more_run : (k : Known) × StagesMean (law_of_2023 at) (with_list with_independent 0 0 (votes 8)) nothing_known (law_of_2023 at).stages (Through k)
  four_more_run = (
    _,
    (
      plain (3 ∷ []),
      to_means (law_of_2023 at) (with_list with_independent 0 0 (votes 8)) (context_of nothing_known (pool at facts.Independents)) (pool at facts.Independents).expr refl (3 ∷ []) (4 ∷ [], 1 ∷ [], refl, (1 ∷ 0 ∷ [], refl, refl), refl),
      (
        Column (2 ∷ 1 ∷ []) _,
        then_plain _ _ _ (3 ∷ []) (_, refl, refl)
            (then_plain _ _ _ (8 ∷ 7 ∷ []) (then_plain _ _ _ (8 ∷ 7 ∷ 0 ∷ 0 ∷ []) (_, refl, refl) refl)
            (record { awards = Seats (2 ∷ 1 ∷ []) ∷ []; each = (record { choice = Decided (2 ∷ 1 ∷ []); chosen = undisputed Webster (8 ∷ 7 ∷ []) (0 ∷ 0 ∷ []) (2 ∷ 1 ∷ []) refl refl refl []; is = refl }, tt); is = refl })),
        (
          Column (2 ∷ 1 ∷ 0 ∷ 0 ∷ []) _,
          then_plain _ _ _ (2 ∷ 1 ∷ []) (_, refl, refl)
              (then_plain _ _ _ (8 ∷ 7 ∷ 0 ∷ 0 ∷ []) (_, refl, refl)
              (record { awards = Seats (2 ∷ []) ∷ Seats (1 ∷ []) ∷ []; each = (record { choice = Decided (2 ∷ []); chosen = undisputed Webster (8 ∷ []) (0 ∷ []) (2 ∷ []) refl refl refl []; is = refl }, (record { choice = Decided (1 ∷ []); chosen = undisputed Webster (7 ∷ []) (0 ∷ []) (1 ∷ []) refl refl refl []; is = refl }, tt)); is = refl })),
          refl,
        ),
      ),
    ),
  )

  abbrev independents_run : (k : Known) × StagesMean (law_of_2023 at) two_independents nothing_known (law_of_2023 at).stages (Through k)
  independents_run = (
    _,
    (
      plain (0 ∷ []),
      to_means (law_of_2023 at) two_independents (context_of nothing_known (pool at facts.Independents)) (pool at facts.Independents).expr refl (0 ∷ []) (1 ∷ [], 2 ∷ [], refl, (2 ∷ 0 ∷ [], refl, refl), refl),
      (
        Column (0 ∷ 0 ∷ []) _,
        then_plain _ _ _ (0 ∷ []) (_, refl, refl)
            (then_plain _ _ _ (1 ∷ 1 ∷ []) (then_plain _ _ _ (1 ∷ 1 ∷ 0 ∷ 0 ∷ []) (_, refl, refl) refl)
            (record { awards = Seats (0 ∷ 0 ∷ []) ∷ []; each = (record { choice = Decided (0 ∷ 0 ∷ []); chosen = undisputed Webster (1 ∷ 1 ∷ []) (0 ∷ 0 ∷ []) (0 ∷ 0 ∷ []) refl refl refl []; is = refl }, tt); is = refl })),
        (
          Column (0 ∷ 0 ∷ 0 ∷ 0 ∷ []) _,
          then_plain _ _ _ (0 ∷ 0 ∷ []) (_, refl, refl)
              (then_plain _ _ _ (1 ∷ 1 ∷ 0 ∷ 0 ∷ []) (_, refl, refl)
              (record { awards = Seats (0 ∷ []) ∷ Seats (0 ∷ []) ∷ []; each = (record { choice = Decided (0 ∷ []); chosen = undisputed Webster (1 ∷ []) (0 ∷ []) (0 ∷ []) refl refl refl []; is = refl }, (record { choice = Decided (0 ∷ []); chosen = undisputed Webster (1 ∷ []) (0 ∷ []) (0 ∷ []) refl refl refl []; is = refl }, tt)); is = refl })),
          refl,
        ),
      ),
    ),
  )

  -- nobody is to be covered
  lists_before : GivesLists (law_of_2023 at) three_lists (0 ∷ 3 ∷ 1 ∷ [])
  lists_before =
      lists_have at three_lists are_three_lists (Decided [] ∷ Decided [] ∷ Decided [] ∷ []) (0 ∷ 0 ∷ 3 ∷ 1 ∷ []) lists_run.0 lists_run.1 refl
      (record { choices = Decided [] ∷ Decided [] ∷ Decided [] ∷ []; each = (undisputed_covering [] [] [] nobody refl refl [], (undisputed_covering [] [] [] nobody refl refl [], (undisputed_covering [] [] [] nobody refl refl [], tt))); is = refl }) (0 ∷ 3 ∷ 1 ∷ []) refl

  lists_with_more : GivesLists (law_of_2023 at) (with_list three_lists 0 0 (votes 2)) (1 ∷ 2 ∷ 1 ∷ [])
  lists_with_more =
      lists_have at (with_list three_lists 0 0 (votes 2)) with_a_vote (Decided [] ∷ Decided [] ∷ Decided [] ∷ []) (1 ∷ 0 ∷ 2 ∷ 1 ∷ []) more_lists_run.0 more_lists_run.1 refl
      (record { choices = Decided [] ∷ Decided [] ∷ Decided [] ∷ []; each = (undisputed_covering [] [] [] nobody refl refl [], (undisputed_covering [] [] [] nobody refl refl [], (undisputed_covering [] [] [] nobody refl refl [], tt))); is = refl }) (1 ∷ 2 ∷ 1 ∷ []) refl

  -- of two winners the first is seated
  abbrev one_of_two : List Choice
  one_of_two = Decided (1 ∷ 0 ∷ []) ∷ Decided [] ∷ []

  first_seated : IsSeated (law_of_2023 at) with_independent (law_of_2023 at).last.seating (1 ∷ 2 ∷ 0 ∷ 0 ∷ []) independent_run.0.records (outcome.Table (cover_table (law_of_2023 at) with_independent (1 ∷ 2 ∷ 0 ∷ 0 ∷ []) independent_run.0.records (zip (lists_of with_independent) one_of_two)))
  first_seated = record { choices = one_of_two; each = (undisputed_covering (2 ∷ 1 ∷ []) (3 ∷ 2 ∷ []) (1 ∷ 0 ∷ []) two_won refl refl [], (undisputed_covering [] [] [] nobody refl refl [], tt)); is = refl }

  one_and_two : Gives (law_of_2023 at) with_independent (1 ∷ 2 ∷ [])
  one_and_two = parties_have at with_independent are_with_independent one_of_two (1 ∷ 2 ∷ 0 ∷ 0 ∷ []) independent_run.0 independent_run.1 refl first_seated (1 ∷ 2 ∷ []) refl

  one_unseated : (t : SeatTable) → Means (law_of_2023 at) with_independent (outcome.Table t) → t.placed ≡ placed.OnList ∷ placed.Unseated ∷ placed.Single ∷ []
  one_unseated =
      winners_have at with_independent are_with_independent one_of_two (1 ∷ 2 ∷ 0 ∷ 0 ∷ []) independent_run.0 independent_run.1 refl first_seated (placed.OnList ∷ placed.Unseated ∷ placed.Single ∷ []) refl

  four_in_all : (t : SeatTable) → Means (law_of_2023 at) with_independent (outcome.Table t) → total_seats t ≡ 4
  four_in_all = all_have at with_independent are_with_independent one_of_two (1 ∷ 2 ∷ 0 ∷ 0 ∷ []) independent_run.0 independent_run.1 refl first_seated 4 refl

  two_and_one : Gives (law_of_2023 at) (with_list with_independent 0 0 (votes 8)) (2 ∷ 1 ∷ [])
  two_and_one =
      parties_have at (with_list with_independent 0 0 (votes 8)) with_four_votes (Decided (1 ∷ 1 ∷ []) ∷ Decided [] ∷ []) (2 ∷ 1 ∷ 0 ∷ 0 ∷ []) four_more_run.0 four_more_run.1 refl
      (record { choices = Decided (1 ∷ 1 ∷ []) ∷ Decided [] ∷ []; each = (undisputed_covering (2 ∷ 1 ∷ []) (3 ∷ 2 ∷ []) (1 ∷ 1 ∷ []) two_won refl refl [], (undisputed_covering [] [] [] nobody refl refl [], tt)); is = refl }) (2 ∷ 1 ∷ []) refl

  -- the lists have no seats
  none_left : IsSeated (law_of_2023 at) two_independents (law_of_2023 at).last.seating (0 ∷ 0 ∷ 0 ∷ 0 ∷ []) independents_run.0.records (outcome.Table (cover_table (law_of_2023 at) two_independents (0 ∷ 0 ∷ 0 ∷ 0 ∷ []) independents_run.0.records (zip (lists_of two_independents) (Decided [] ∷ Decided [] ∷ []))))
  none_left = record { choices = Decided [] ∷ Decided [] ∷ []; each = (undisputed_covering [] [] [] nobody refl refl [], (undisputed_covering [] [] [] nobody refl refl [], tt)); is = refl }

  no_lists : Gives (law_of_2023 at) two_independents (0 ∷ 0 ∷ [])
  no_lists = parties_have at two_independents are_two_independents (Decided [] ∷ Decided [] ∷ []) (0 ∷ 0 ∷ 0 ∷ 0 ∷ []) independents_run.0 independents_run.1 refl none_left (0 ∷ 0 ∷ []) refl

  two_in_all : (t : SeatTable) → Means (law_of_2023 at) two_independents (outcome.Table t) → total_seats t ≡ 2
  two_in_all = all_have at two_independents are_two_independents (Decided [] ∷ Decided [] ∷ []) (0 ∷ 0 ∷ 0 ∷ 0 ∷ []) independents_run.0 independents_run.1 refl none_left 2 refl

pub lists_apart : ListsApart
lists_apart = record {
  before = lists_before;
  together = divisor_only Webster (1 ∷ 6 ∷ 4 ∷ []) (0 ∷ 0 ∷ 0 ∷ []) (0 ∷ 2 ∷ 2 ∷ []) refl refl refl;
  returns = are_three_lists;
  gain = record { before = votes 1; had = refl; is = are_votes 2 (omega arith); counted = omega arith; valid = omega arith };
  after = lists_with_more;
}

pub half_of_all : HalfOfAll
half_of_all = record { seats = one_and_two; places = one_unseated; total = four_in_all }

pub four_are_enough : FourAreEnough
four_are_enough = record {
  three_more = divisor_some Webster (7 ∷ 7 ∷ []) (0 ∷ 0 ∷ []) (1 ∷ 2 ∷ []) refl refl refl;
  four_more = divisor_only Webster (8 ∷ 7 ∷ []) (0 ∷ 0 ∷ []) (2 ∷ 1 ∷ []) refl refl refl;
  in_the_count = λ at. record {
    returns = are_with_independent;
    gain = record { before = votes 4; had = refl; is = are_votes 8 (omega arith); counted = omega arith; valid = omega arith };
    had = one_and_two at;
    have = two_and_one at;
  };
}

pub more_independents : MoreIndependents
more_independents = record { seats = no_lists; total = two_in_all }

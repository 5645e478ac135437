-- Two parties, of which one falls below the threshold by a vote more for the other.
use Rattle.std.proofs.Common.{◌≡◌, ℕ, List, [], ◌∷◌, arith, refl}
use Rattle.std.specs.Prelude.{zip}
use Rattle.sl_base_quotients.specs.declared.method.Divisor.TheVariants.{Webster}
use Rattle.sl_law_meaning.specs.declared.fact.Fact.TheVariants as facts
use Rattle.sl_law_meaning.specs.declared.table.Outcome.TheVariants as outcome
use Rattle.sl_law_meaning.specs.methods.Ties.{Decided}
use Rattle.sl_law_meaning.specs.returns.Election.{Election, IsElection, with_list}
use Rattle.sl_law_meaning.specs.returns.Facts.{lists_of}
use Rattle.sl_law_meaning.specs.meaning.Columns.{IsLeaf}
use Rattle.sl_law_meaning.specs.meaning.Results.{Column, plain}
use Rattle.sl_law_meaning.specs.meaning.Seating.{base_of, cover_table}
use Rattle.sl_law_meaning.specs.meaning.Splits.{Seats}
use Rattle.sl_law_meaning.specs.meaning.Means.{Known, Through, nothing_known, context_of, StagesMean, IsSeated}
use Rattle.sl_law_meaning.proofs.Elections.{is_with_list}
use Rattle.sl_law_meaning.proofs.meaning.PlainRuns.{to_means, then_plain}
use Rattle.sl_law_statutes.specs.Parties.{seats_column}
use Rattle.sl_law_statutes.specs.Trees.{pool, law_of_2023}
use Rattle.sl_law_examples.specs.VotesThatCost.{votes, Gives, Changes}
use Rattle.sl_law_examples.specs.WinnersAbove.{at_the_threshold, FewerAreEnough}
use Rattle.sl_law_examples.proofs.Allocated.{divisor_some, divisor_only}
use Rattle.sl_law_examples.proofs.SmallReturns.{are_votes, is_two_by_two, gives_it, undisputed, undisputed_covering}
use Rattle.sl_law_examples.proofs.WinnersAbove.{nobody}

are_returns : IsElection at_the_threshold
are_returns =
    let parties = is_two_by_two 11 2 2 (omega arith) (omega arith) (omega arith) (omega arith) in
    let one = is_with_list _ 0 0 (votes 95) parties (omega arith) (omega arith) (are_votes 95 (omega arith)) in
    is_with_list _ 0 1 (votes 5) one (omega arith) (omega arith) (are_votes 5 (omega arith))

after : IsElection (with_list at_the_threshold 0 0 (votes 96))
after = is_with_list at_the_threshold 0 0 (votes 96) are_returns (omega arith) (omega arith) (are_votes 96 (omega arith))

module _ (at : ℕ → ℕ) where
  -- nobody is to be covered
  module _ (e : Election) (is : IsElection e) (k : Known) (run : StagesMean (law_of_2023 at) e nothing_known (law_of_2023 at).stages (Through k)) (base seats : List ℕ)
      (is_base : IsLeaf (law_of_2023 at) e k.columns (base_of (law_of_2023 at).last) base)
      (seated : IsSeated (law_of_2023 at) e (law_of_2023 at).last.seating base k.records (outcome.Table (cover_table (law_of_2023 at) e base k.records (zip (lists_of e) (Decided [] ∷ Decided [] ∷ [])))))
      (have : seats_column e (cover_table (law_of_2023 at) e base k.records (zip (lists_of e) (Decided [] ∷ Decided [] ∷ []))) ≡ seats) where
    covers : Gives (law_of_2023 at) e seats
    covers = gives_it (law_of_2023 at) e refl is k run base is_base (cover_table (law_of_2023 at) e base k.records (zip (lists_of e) (Decided [] ∷ Decided [] ∷ []))) seated seats have

  abbrev before_run : (k : Known) × StagesMean (law_of_2023 at) at_the_threshold nothing_known (law_of_2023 at).stages (Through k)
  before_run = (
    _,
    (
      plain (11 ∷ []),
      to_means (law_of_2023 at) at_the_threshold (context_of nothing_known (pool at facts.Independents)) (pool at facts.Independents).expr refl (11 ∷ []) (11 ∷ [], 0 ∷ [], refl, (0 ∷ 0 ∷ [], refl, refl), refl),
      (
        Column (10 ∷ 1 ∷ []) _,
        then_plain _ _ _ (11 ∷ []) (_, refl, refl)
            (then_plain _ _ _ (95 ∷ 5 ∷ []) (then_plain _ _ _ (95 ∷ 5 ∷ 0 ∷ 0 ∷ []) (_, refl, refl) refl)
            (record { awards = Seats (10 ∷ 1 ∷ []) ∷ []; each = (record { choice = Decided (10 ∷ 1 ∷ []); chosen = undisputed Webster (95 ∷ 5 ∷ []) (0 ∷ 0 ∷ []) (10 ∷ 1 ∷ []) refl refl refl []; is = refl }, tt); is = refl })),
        (
          Column (10 ∷ 1 ∷ 0 ∷ 0 ∷ []) _,
          then_plain _ _ _ (10 ∷ 1 ∷ []) (_, refl, refl)
              (then_plain _ _ _ (95 ∷ 5 ∷ 0 ∷ 0 ∷ []) (_, refl, refl)
              (record {
                awards = Seats (10 ∷ []) ∷ Seats (1 ∷ []) ∷ [];
                each = (
                  record { choice = Decided (10 ∷ []); chosen = undisputed Webster (95 ∷ []) (0 ∷ []) (10 ∷ []) refl refl refl []; is = refl },
                  (record { choice = Decided (1 ∷ []); chosen = undisputed Webster (5 ∷ []) (0 ∷ []) (1 ∷ []) refl refl refl []; is = refl }, tt),
                );
                is = refl;
              })),
          refl,
        ),
      ),
    ),
  )

  abbrev after_run : (k : Known) × StagesMean (law_of_2023 at) (with_list at_the_threshold 0 0 (votes 96)) nothing_known (law_of_2023 at).stages (Through k)
  after_run = (
    _,
    (
      plain (11 ∷ []),
      to_means (law_of_2023 at) (with_list at_the_threshold 0 0 (votes 96)) (context_of nothing_known (pool at facts.Independents)) (pool at facts.Independents).expr refl (11 ∷ [])
          (11 ∷ [], 0 ∷ [], refl, (0 ∷ 0 ∷ [], refl, refl), refl),
      (
        Column (11 ∷ 0 ∷ []) _,
        then_plain _ _ _ (11 ∷ []) (_, refl, refl)
            (then_plain _ _ _ (96 ∷ 0 ∷ []) (then_plain _ _ _ (96 ∷ 0 ∷ 0 ∷ 0 ∷ []) (_, refl, refl) refl)
            (record { awards = Seats (11 ∷ 0 ∷ []) ∷ []; each = (record { choice = Decided (11 ∷ 0 ∷ []); chosen = undisputed Webster (96 ∷ 0 ∷ []) (0 ∷ 0 ∷ []) (11 ∷ 0 ∷ []) refl refl refl []; is = refl }, tt); is = refl })),
        (
          Column (11 ∷ 0 ∷ 0 ∷ 0 ∷ []) _,
          then_plain _ _ _ (11 ∷ 0 ∷ []) (_, refl, refl)
              (then_plain _ _ _ (96 ∷ 0 ∷ 0 ∷ 0 ∷ []) (_, refl, refl)
              (record {
                awards = Seats (11 ∷ []) ∷ Seats (0 ∷ []) ∷ [];
                each = (
                  record { choice = Decided (11 ∷ []); chosen = undisputed Webster (96 ∷ []) (0 ∷ []) (11 ∷ []) refl refl refl []; is = refl },
                  (record { choice = Decided (0 ∷ []); chosen = undisputed Webster (0 ∷ []) (0 ∷ []) (0 ∷ []) refl refl refl []; is = refl }, tt),
                );
                is = refl;
              })),
          refl,
        ),
      ),
    ),
  )

  changes : Changes (law_of_2023 at) at_the_threshold (votes 96) (10 ∷ 1 ∷ []) (11 ∷ 0 ∷ [])
  changes = record {
    returns = are_returns;
    gain = record { before = votes 95; had = refl; is = are_votes 96 (omega arith); counted = omega arith; valid = omega arith };
    had = covers at_the_threshold are_returns before_run.0 before_run.1 (10 ∷ 1 ∷ 0 ∷ 0 ∷ []) (10 ∷ 1 ∷ []) refl
        (record { choices = Decided [] ∷ Decided [] ∷ []; each = (undisputed_covering [] [] [] nobody refl refl [], (undisputed_covering [] [] [] nobody refl refl [], tt)); is = refl }) refl;
    have = covers (with_list at_the_threshold 0 0 (votes 96)) after after_run.0 after_run.1 (11 ∷ 0 ∷ 0 ∷ 0 ∷ []) (11 ∷ 0 ∷ []) refl
        (record { choices = Decided [] ∷ Decided [] ∷ []; each = (undisputed_covering [] [] [] nobody refl refl [], (undisputed_covering [] [] [] nobody refl refl [], tt)); is = refl }) refl;
  }

pub fewer_are_enough : FewerAreEnough
fewer_are_enough = record {
  ten_more = divisor_some Webster (105 ∷ 5 ∷ []) (0 ∷ 0 ∷ []) (10 ∷ 1 ∷ []) refl refl refl;
  eleven_more = divisor_only Webster (106 ∷ 5 ∷ []) (0 ∷ 0 ∷ []) (11 ∷ 0 ∷ []) refl refl refl;
  one_more = changes;
  of_both = divisor_only Webster (96 ∷ 5 ∷ []) (0 ∷ 0 ∷ []) (10 ∷ 1 ∷ []) refl refl refl;
}

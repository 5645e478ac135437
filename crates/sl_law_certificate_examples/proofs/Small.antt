-- The certificates of the small elections.
use Rattle.std.proofs.Common.{[], ◌∷◌, arith, refl}
use Rattle.std.specs.Prelude.{codes}
use Rattle.sl_law_meaning.specs.returns.Election.{IsElection}
use Rattle.sl_law_meaning.proofs.Elections.{is_with_list, is_with_win}
use Rattle.sl_law_statutes.specs.Trees.{law_of_2023, law_of_2023_order}
use Rattle.sl_law_examples.specs.VotesThatCost.{votes}
use Rattle.sl_law_examples.specs.Tables.{winner_by}
use Rattle.sl_law_examples.proofs.SmallReturns.{are_votes, is_winner_by, is_two_by_two}
use Rattle.sl_law_certificates.specs.Outcomes.{Certificate}
use Rattle.sl_law_certificates.proofs.Outcomes.{shown_is_meant, accepted_is_meant}
use Rattle.sl_law_certificate_examples.specs.Small.{three_winners, OrderDiffers, equal_lists, TiedScope}
use Rattle.sl_law_certificate_examples.proofs.Returns.{told, none_told}

-- ---- the order of 2024

are_three_winners : IsElection three_winners
are_three_winners =
    let parties = is_two_by_two 25 2 2 (omega arith) (omega arith) (omega arith) (omega arith) in
    let one = is_with_list _ 0 0 (votes 96) parties (omega arith) (omega arith) (are_votes 96 (omega arith)) in
    let two = is_with_list _ 0 1 (votes 4) one (omega arith) (omega arith) (are_votes 4 (omega arith)) in
    let x1 = is_with_win _ (codes "x1") (winner_by 0 1 40 100) two refl (is_winner_by 2 2 0 1 40 100 (omega arith) (omega arith) (omega arith) (omega arith) (omega arith)) in
    let x2 = is_with_win _ (codes "x2") (winner_by 0 1 50 100) x1 refl (is_winner_by 2 2 0 1 50 100 (omega arith) (omega arith) (omega arith) (omega arith) (omega arith)) in
    is_with_win _ (codes "x3") (winner_by 0 1 45 100) x2 refl (is_winner_by 2 2 0 1 45 100 (omega arith) (omega arith) (omega arith) (omega arith) (omega arith))

abbrev by_statute : Certificate
by_statute = record {
  stages = [] ∷ (told (25 ∷ 0 ∷ []) 38 10 ∷ []) ∷ (told (25 ∷ []) 38 10 ∷ none_told (0 ∷ []) ∷ []) ∷ [];
  lists = none_told [] ∷ none_told [] ∷ [];
}

-- of B's three winners the second sits, with half of the votes
abbrev by_order : Certificate
by_order = record {
  stages = [] ∷ (told (24 ∷ 1 ∷ []) 4 1 ∷ []) ∷ (told (24 ∷ []) 4 1 ∷ told (1 ∷ []) 4 1 ∷ []) ∷ [];
  lists = none_told [] ∷ told (0 ∷ 1 ∷ 0 ∷ []) 1 2 ∷ [];
}

pub order_differs : OrderDiffers
order_differs = record {
  by_statute = λ at. accepted_is_meant (law_of_2023 at) three_winners by_statute _ are_three_winners refl;
  by_order = λ at. accepted_is_meant (law_of_2023_order at) three_winners by_order _ are_three_winners refl;
}

-- ---- a tie

are_equal_lists : IsElection equal_lists
are_equal_lists =
    let parties = is_two_by_two 5 2 2 (omega arith) (omega arith) (omega arith) (omega arith) in
    let one = is_with_list _ 0 0 (votes 3) parties (omega arith) (omega arith) (are_votes 3 (omega arith)) in
    let two = is_with_list _ 1 0 (votes 3) one (omega arith) (omega arith) (are_votes 3 (omega arith)) in
    is_with_list _ 0 1 (votes 4) two (omega arith) (omega arith) (are_votes 4 (omega arith))

-- A's lists with two seats and one, and the cut on which the second of the one and that of the other stand; nothing of B's list
abbrev tied : Certificate
tied = record { stages = [] ∷ (told (3 ∷ 2 ∷ []) 2 1 ∷ []) ∷ (told (2 ∷ 1 ∷ []) 6 3 ∷ []) ∷ []; lists = [] }

pub tied_scope : TiedScope
tied_scope at = shown_is_meant (law_of_2023 at) equal_lists tied _ are_equal_lists refl

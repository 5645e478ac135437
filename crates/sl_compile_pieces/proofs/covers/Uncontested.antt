-- On a list that is not contested the winners' choice is known: all of them are seated, or nobody, where it has no seats.
use Rattle.std.proofs.Common.{◌≡◌, ℕ, zero, suc, ◌<◌, ◌≤◌, Bool, true, false, List, [], ◌∷◌, map, min, length, nat_eq, slice_index, refl, sym, ap, subst, ◌∙◌, inl, inr, arith}
use Rattle.std.proofs.lemmas.Bool.{cases_lt, eq-eqb}
use Rattle.std.proofs.lemmas.List.{length-map, get_or_past}
use Rattle.std.proofs.lemmas.Nat.{div-add-mod'}
use Rattle.sl_law_meaning.specs.declared.election.Win.{Win}
use Rattle.sl_law_meaning.specs.returns.Election.{Election, IsElection, parties_of}
use Rattle.sl_law_meaning.specs.returns.Facts.{list_cell}
use Rattle.sl_law_meaning.specs.methods.Covering.{IsCovering}
use Rattle.sl_law_meaning.specs.methods.Ties.{Choice, Decided, Tied, IsTied, IsChoice}
use Rattle.sl_law_meaning.specs.meaning.Seating.{IsSeating, seated_on}
use Rattle.sl_law_meaning.proofs.methods.CoveringProofs.{full_coverings}
use Rattle.sl_law_meaning.proofs.methods.SeatSums.{entry_le_sum}
use Rattle.sl_law_meaning.proofs.meaning.OneOutcome.{one_seating}
use Rattle.sl_compile_pieces.proofs.covers.Pairs.{pair_at}
use Rattle.sl_compile_pieces.proofs.covers.Winners.{won}
use Rattle.sl_compile_pieces.proofs.covers.Contested.{many_at, is_contested, all_fit, at_once, nobody_without_seats, everybody_fits}
use Rattle.sl_compile_pieces.proofs.covers.Chosen.{chosen, none_chosen}

-- where no two members differ, the choice is a member, whatever the lot
alone_chosen : (X : List ℕ → Type 0) (lot : List ℕ) → ((s t : List ℕ) → X s → X t → (i : ℕ) → slice_index s i ≡ slice_index t i) → (choice : Choice) → IsChoice X lot choice →
    (s : List ℕ) × (choice ≡ Decided s) × X s
alone_chosen X lot same (Decided s) is = (s, refl, is.4)
alone_chosen X lot same (Tied k tied) is =
    absurd (is.1 (λ i there.
    let apart : IsTied X i = is.0.entries.has_only i there in
    absurd (omega (arith, same apart.0 apart.2.0 apart.1 apart.2.1 i))))

all_chosen : (winners : List (ℕ × Win)) (s : List ℕ) → length s ≡ length winners → ((i : ℕ) → i < length winners → slice_index s i ≡ 1) → chosen winners s ≡ map (λ y. y.0) winners
all_chosen [] s long ones = refl
all_chosen (y ∷ winners) [] long ones = absurd (omega (arith, long))
all_chosen (y ∷ winners) (m ∷ s) long ones =
    let first : nat_eq m 1 ≡ true = eq-eqb m 1 (ones 0 (omega arith)) in
    rw first (ap (λ ns. y.0 ∷ ns) (all_chosen winners s (omega (arith, long)) (λ i less. ones (suc i) (omega (arith, less)))))

module _ (eligible : ℕ → Bool) (e : Election) (is : IsElection e) (base : List ℕ) where
  module _ (q : ℕ) where
    abbrev l : ℕ × ℕ
    l = pair_at e q

    abbrev Covers : ℕ → List ℕ → Type 0
    Covers = IsCovering (map (λ x. x.1.first) (won eligible e l)) (map (λ x. x.1.valid) (won eligible e l))

    long : length (map {B = ℕ} (λ x. x.1.first) (won eligible e l)) ≡ many_at e eligible q
    long = length-map (won eligible e l) (λ x. x.1.first)

    seats_are : list_cell e base l.0 l.1 ≡ slice_index base q
    seats_are = ap (slice_index base) (div-add-mod' q (parties_of e))

    nobody : (s : List ℕ) → Covers 0 s → (i : ℕ) → slice_index s i ≡ 0
    nobody s h i = let few = entry_le_sum s i in let none = h.total in omega (arith, few, none)

    everybody : (s : List ℕ) → Covers (many_at e eligible q) s → (i : ℕ) → i < many_at e eligible q → slice_index s i ≡ 1
    everybody s h i less =
        full_coverings (map (λ x. x.1.first) (won eligible e l)) (map (λ x. x.1.valid) (won eligible e l)) s (subst (λ (n : ℕ). Covers n s) (sym long) h) i (omega (arith, less, long))

    past_all : (s : List ℕ) → Covers (many_at e eligible q) s → (i : ℕ) → many_at e eligible q ≤ i → slice_index s i ≡ 0
    past_all s h i high = let same = h.same_length in get_or_past s i 0 (omega (arith, same, high, long))

    -- the choice for so many seats
    chosen_for : (n : ℕ) → min (list_cell e base l.0 l.1) (many_at e eligible q) ≡ n → ((s t : List ℕ) → Covers n s → Covers n t → (i : ℕ) → slice_index s i ≡ slice_index t i) →
        (s : List ℕ) × IsSeating eligible e base l (Decided s) × Covers n s
    chosen_for n give same =
        let choice = one_seating eligible e is base l in
        let member = alone_chosen (Covers (min (list_cell e base l.0 l.1) (many_at e eligible q))) _
        (λ s t hs ht. same s t (subst (λ (m : ℕ). Covers m s) give hs) (subst (λ (m : ℕ). Covers m t) give ht)) choice.one choice.is in
        (member.0, subst (IsSeating eligible e base l) member.1 choice.is, subst (λ (m : ℕ). Covers m member.0) give member.2)

    all_alike : (s t : List ℕ) → Covers (many_at e eligible q) s → Covers (many_at e eligible q) t → (i : ℕ) → slice_index s i ≡ slice_index t i
    all_alike s t hs ht i =
        elim (cases_lt i (many_at e eligible q)) [
          | inl less ↦ everybody s hs i less ∙ sym (everybody t ht i less)
          | inr high ↦ past_all s hs i high ∙ sym (past_all t ht i high)
        ]

    -- an uncontested list yields a choice, by which those are seated who are seated at once
    pub uncontested_choice : is_contested e eligible base q ≡ false → (s : List ℕ) × IsSeating eligible e base l (Decided s) × (seated_on eligible e (l, Decided s) ≡ at_once e eligible base q)
    uncontested_choice not = by_seats (slice_index base q) refl
      where
        by_seats : (n : ℕ) → slice_index base q ≡ n → (s : List ℕ) × IsSeating eligible e base l (Decided s) × (seated_on eligible e (l, Decided s) ≡ at_once e eligible base q)
        by_seats zero is =
            let member = chosen_for 0 (omega (arith, seats_are, is)) (λ s t hs ht i. nobody s hs i ∙ sym (nobody t ht i)) in
            (member.0, member.1, none_chosen (won eligible e l) member.0 (nobody member.0 member.2) ∙ sym (nobody_without_seats e eligible base q is))
        by_seats (suc n) is =
            let enough = all_fit e eligible base q not (omega (arith, is)) in
            let member = chosen_for (many_at e eligible q) (omega (arith, seats_are, enough)) all_alike in
            let same = member.2.same_length in (
              member.0,
              member.1,
              all_chosen (won eligible e l) member.0 (omega (arith, same, long)) (everybody member.0 member.2) ∙ sym (everybody_fits e eligible base q n not is),
            )

-- How many winners sit on a list.
use Rattle.std.proofs.Common.{◌≡◌, ℕ, ◌<◌, ◌&&◌, Bool, true, false, cond, List, [], ◌∷◌, Option, Some, None, nat_eq, map, count_by, arith, refl, sym, ap, ◌∙◌, inl, inr}
use Rattle.std.specs.Prelude.{if◌then◌else◌}
use Rattle.std.specs.List.{AllByRecursion as Every, zip}
use Rattle.std.proofs.Math.Bool.{and_comm}
use Rattle.std.proofs.lemmas.Bool.{cases_Bool, and_parts, and_right, eqb-true}
use Rattle.std.proofs.lemmas.List.Sums.{sum_by-cons}
use Rattle.sl_law_meaning.specs.declared.election.Win.{Win}
use Rattle.sl_law_meaning.specs.declared.table.Placed.TheVariants as placed
use Rattle.sl_law_meaning.specs.book.Trees.{BookTree}
use Rattle.sl_law_meaning.specs.returns.Election.{Election, lands_of, parties_of}
use Rattle.sl_law_meaning.specs.returns.Facts.{list_cell, list_winners, is_in, is_of, is_eligible, is_eligible_list, takes_part}
use Rattle.sl_law_meaning.specs.meaning.Seating.{kept_place}
use Rattle.sl_law_meaning.specs.meaning.Seating.{is_on, placed_on}
use Rattle.sl_law_meaning.specs.laws.MeaningLaws.{KeptWinners}
use Rattle.sl_law_meaning.proofs.meaning.DistinctLists.{always}
use Rattle.sl_law_meaning.proofs.meaning.ListPlaces.{by_list_at}

-- ---- how many winners are placed on a list

pub count_pairs : {X Y : Type 0} (f : X → Y) (p : X × Y → Bool) (xs : List X) → count_by p (zip xs (map f xs)) ≡ count_by (λ x. p (x, f x)) xs
count_pairs f p [] = refl
count_pairs f p (x ∷ xs) =
    let rest = count_pairs f p xs in
    sum_by-cons (λ x. cond (p x) 1 0) (x, f x) (zip xs (map f xs)) ∙ omega (arith, rest, sum_by-cons (λ x. cond (p (x, f x)) 1 0) x xs)

pub count_each : {X : Type 0} (p q : X → Bool) (xs : List X) → Every (λ x. p x ≡ q x) xs → count_by p xs ≡ count_by q xs
count_each p q [] all = refl
count_each p q (x ∷ xs) all =
    let rest = count_each p q xs all.1 in
    let this : cond {A = ℕ} (p x) 1 0 ≡ cond (q x) 1 0 = ap (λ t. cond t 1 0) all.0 in
    sum_by-cons (λ x. cond (p x) 1 0) x xs ∙ omega (arith, rest, this, sum_by-cons (λ x. cond (q x) 1 0) x xs)

pub count_agree : {X : Type 0} (p q : X → Bool) → ((x : X) → p x ≡ q x) → (xs : List X) → count_by p xs ≡ count_by q xs
count_agree p q same xs = count_each p q xs (always (λ x. p x ≡ q x) same xs)

pub count_if : {X : Type 0} (t : Bool) (q : X → Bool) (xs : List X) → count_by (λ x. t && q x) xs ≡ (if t then count_by q xs else 0)
count_if true q xs = refl
count_if false q [] = refl
count_if false q (x ∷ xs) = let rest = count_if false q xs in sum_by-cons (λ x. 0) x xs ∙ omega (arith, rest)

on_if : (t : Bool) → is_on (if t then placed.OnList else placed.Single) ≡ t
on_if true = refl
on_if false = refl

module _ (eligible : ℕ → Bool) (e : Election) (land party : ℕ) where
  -- a winner of that Land and party, of whom a test says what it says of the list
  pub when_both : (w : Win) (p : ℕ) → (nat_eq w.land land && nat_eq p party) && is_eligible_list eligible e w.land p ≡ is_eligible_list eligible e land party && (nat_eq w.land land && nat_eq p party)
  when_both w p =
      elim (cases_Bool (nat_eq w.land land && nat_eq p party)) [
        | inl both ↦
            (let parts = and_parts (nat_eq w.land land) (nat_eq p party) both in
            ap (λ t. (nat_eq w.land land && nat_eq p party) && t) (ap (λ l. is_eligible_list eligible e l p) (eqb-true w.land land parts.0) ∙ ap (is_eligible_list eligible e land) (eqb-true p party parts.1))
            ∙ and_comm (nat_eq w.land land && nat_eq p party) (is_eligible_list eligible e land party))
        | inr not ↦ ap (λ t. t && is_eligible_list eligible e w.land p) not ∙ sym (and_right (is_eligible_list eligible e land party) (nat_eq w.land land && nat_eq p party) not)
      ]

module _ (b : BookTree) (e : Election) (land party : ℕ) where
  on_list : (w : Win) (o : Option ℕ) →
      (is_in land (record w { party = o }) && is_of party (record w { party = o })) && is_on (kept_place b e (record w { party = o }))
      ≡ takes_part b.eligible e land party && (is_in land (record w { party = o }) && is_of party (record w { party = o }))
  on_list w None =
      ap (λ t. t && false) (and_right (nat_eq w.land land) false refl) ∙ sym (and_right (takes_part b.eligible e land party) (nat_eq w.land land && false) (and_right (nat_eq w.land land) false refl))
  on_list w (Some p) = ap (λ t. (nat_eq w.land land && nat_eq p party) && t) (on_if (takes_part b.eligible e w.land p)) ∙ when_both (is_eligible b.eligible e) e land party w p

  -- so many winners sit on the list as the column of the winners says
  pub kept_direct : land < lands_of e → party < parties_of e → placed_on e (map (kept_place b e) e.wins) land party ≡ list_cell e (list_winners b.eligible e) land party
  kept_direct in_lands in_parties =
      count_pairs (kept_place b e) (λ x. (is_in land x.0 && is_of party x.0) && is_on x.1) e.wins
      ∙ count_agree (λ w. (is_in land w && is_of party w) && is_on (kept_place b e w)) (λ w. takes_part b.eligible e land party && (is_in land w && is_of party w)) (λ w. on_list w w.party) e.wins
      ∙ count_if (takes_part b.eligible e land party) (λ w. is_in land w && is_of party w) e.wins
      ∙ sym (by_list_at e (λ land party. if takes_part b.eligible e land party then count_by (λ w. is_in land w && is_of party w) e.wins else 0) land party in_lands in_parties)

pub kept_winners : KeptWinners
kept_winners b e base records land party there = kept_direct b e land party there.in_lands there.in_parties

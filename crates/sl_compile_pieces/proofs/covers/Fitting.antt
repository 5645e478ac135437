-- Where the lists are not contested, all winners are seated at once.
use Rattle.std.proofs.Common.{◌≡◌, ◌≢◌, ◌⊎◌, ℕ, zero, suc, ◌+◌, ◌-◌, ◌*◌, ◌<◌, Bool, true, false, List, [], ◌∷◌, ◌++◌, map, nat_eq, Some, slice_get, refl, sym, ap, subst, ◌∙◌, inl, inr, arith}
use Rattle.std.specs.Prelude.{slice_index, flat_map, is_none, if◌then◌else◌}
use Rattle.std.specs.List.{range_with_len, enumerate_from}
use Rattle.std.proofs.lemmas.Bool.{cases_Bool, cases_eq, eq-eqb, eqb-true, or_cases, or_from, or_left, or_right, false_from_ne_true, false≢true}
use Rattle.std.proofs.lemmas.List.Folds.{list_any-append}
use Rattle.std.proofs.lemmas.Option.{same_Some, slice_get_within}
use Rattle.sl_base_terms.specs.declared.shape.Shape.TheVariants as shape
use Rattle.sl_law_meaning.specs.declared.election.Win.{Win}
use Rattle.sl_law_meaning.specs.declared.table.Placed.{Placed}
use Rattle.sl_law_meaning.specs.declared.table.Placed.TheVariants as placed
use Rattle.sl_law_meaning.specs.returns.Election.{Election, IsElection, lands_of, parties_of, has_list}
use Rattle.sl_law_meaning.specs.meaning.Seating.{cover_place}
use Rattle.sl_law_meaning.proofs.meaning.Members.{In, in_map, in_filter, in_range, among, among_piece}
use Rattle.sl_code_instructions.specs.Codes.{CountingCode}
use Rattle.sl_code_semantics.specs.State.{State, with_register}
use Rattle.sl_code_semantics.specs.Effects.{with_win}
use Rattle.sl_code_semantics.proofs.effects.Registers.{get_does}
use Rattle.sl_code_semantics.proofs.effects.Cursors.{both_are}
use Rattle.sl_code_semantics.proofs.effects.Records.{seat_does}
use Rattle.sl_compile_plans.specs.Achieves.{Achieves, Never}
use Rattle.sl_compile_plans.proofs.Rules.{line_ends, line_goes, if_zero, line_first, line_over}
use Rattle.sl_compile_plans.proofs.KeepingRules.{wins_keeping}
use Rattle.sl_compile_pieces.specs.declared.registers.TheConstants as reg
use Rattle.sl_compile_pieces.specs.covers.Trees.{CoverSlots, if_seatable, seat_fitting, seat_uncontested}
use Rattle.sl_compile_pieces.specs.covers.Covering.{HasCoverSlots}
use Rattle.sl_compile_pieces.proofs.covers.Pairs.{pair_at}
use Rattle.sl_compile_pieces.proofs.covers.Winners.{IsWinnerOf, of_list, says_winner, each_winner, won}
use Rattle.sl_compile_pieces.proofs.covers.Singles.{ArePlaced, place_next, placed_next}
use Rattle.sl_compile_pieces.proofs.covers.Seatable.{IsSeatable, OnlyLooked, IsAtList, says_here, says_elsewhere, if_seatable_achieves}
use Rattle.sl_compile_pieces.proofs.covers.Contested.{is_contested, number_of, number_contested_is, number_other_is, at_once, nobody_contested, nobody_without_seats, everybody_fits}
use Rattle.sl_compile_pieces.proofs.covers.Entering.{AreRead}
use Rattle.sl_compile_pieces.proofs.facts.Holding.{place_within}

-- ---- who is among the winners of a list

in_among : (n : ℕ) (ks : List ℕ) → In n ks → among ks n ≡ true
in_among n [] there = absurd there
in_among n (m ∷ ks) (inl this) = or_left (nat_eq n m) (among ks n) (eq-eqb n m (sym this))
in_among n (m ∷ ks) (inr there) = or_right (nat_eq n m) (among ks n) (in_among n ks there)

numbered_in : (a n : ℕ) (wins : List Win) (w : Win) → slice_get wins n ≡ Some w → In (a + n, w) (enumerate_from a wins)
numbered_in a n [] w at = cc
numbered_in a zero (v ∷ wins) w at = let same : v ≡ w = same_Some v w at in let here : a ≡ a + 0 = omega arith in inl (λ z. (here z, same z))
numbered_in a (suc n) (v ∷ wins) w at =
    let next : a + 1 + n ≡ a + suc n = omega arith in
    inr (subst (λ k. In (k, w) (enumerate_from (a + 1) wins)) next (numbered_in (a + 1) n wins w at))

found_among : (xs : List (ℕ × Win)) (n : ℕ) → among (map (λ y. y.0) xs) n ≡ true → (i : ℕ) × (y : ℕ × Win) × (slice_get xs i ≡ Some y) × (y.0 ≡ n)
found_among [] n is = absurd (false≢true is)
found_among (y ∷ xs) n is =
    elim (or_cases (nat_eq n y.0) (among (map (λ y. y.0) xs) n) is) [
      | inl this ↦ (0, y, refl, sym (eqb-true n y.0 this))
      | inr other ↦ (let rest = found_among xs n other in (suc rest.0, rest.1, rest.2, rest.3))
    ]

-- a number that is in no piece is not in all of them
none_among : (f : ℕ → List ℕ) (n : ℕ) (qs : List ℕ) → ((q : ℕ) → among (f q) n ≡ false) → among (flat_map f qs) n ≡ false
none_among f n [] none = refl
none_among f n (q ∷ qs) none = list_any-append (nat_eq n) (f q) (flat_map f qs) ∙ or_from (among (f q) n) (among (flat_map f qs) n) (none q) (none_among f n qs none)

module _ (eligible : ℕ → Bool) (e : Election) (base : List ℕ) where
  -- those who are seated at once on the lists of the pairs from this one on
  pub fitting_from : ℕ → List ℕ
  fitting_from k = flat_map (at_once e eligible base) (range_with_len k (lands_of e * parties_of e - k))

  pub fitting_more : (k : ℕ) → k < lands_of e * parties_of e → fitting_from k ≡ at_once e eligible base k ++ fitting_from (k + 1)
  unfolding fitting_from
  fitting_more k low =
      let rest : lands_of e * parties_of e - k ≡ suc (lands_of e * parties_of e - (k + 1)) = omega (arith, low) in
      ap (λ (m : ℕ). flat_map (at_once e eligible base) (range_with_len k m)) rest

  pub fitting_none : fitting_from (lands_of e * parties_of e) ≡ []
  unfolding fitting_from
  fitting_none =
      let none : lands_of e * parties_of e - lands_of e * parties_of e ≡ 0 = omega arith in
      ap (λ (m : ℕ). flat_map (at_once e eligible base) (range_with_len (lands_of e * parties_of e) m)) none

  module _ (n : ℕ) (w : Win) (at : slice_get e.wins n ≡ Some w) where
    among_winners : (l : ℕ × ℕ) → of_list eligible e l (n, w) ≡ true → among (map (λ y. y.0) (won eligible e l)) n ≡ true
    among_winners l says =
        let here : 0 + n ≡ n = omega arith in
        let there : In (n, w) (enumerate_from 0 e.wins) = subst (λ k. In (k, w) (enumerate_from 0 e.wins)) here (numbered_in 0 n e.wins w at) in
        in_among n (map (λ y. y.0) (won eligible e l)) (in_map (λ y. y.0) (n, w) (won eligible e l) (in_filter (of_list eligible e l) (n, w) (enumerate_from 0 e.wins) says there))

    winner_among : (l : ℕ × ℕ) → among (map (λ y. y.0) (won eligible e l)) n ≡ true → of_list eligible e l (n, w) ≡ true
    winner_among l is =
        let found = found_among (won eligible e l) n is in
        let winner : IsWinnerOf eligible e l found.1 = each_winner eligible e l found.0 found.1 found.2 in
        let same : w ≡ found.1.1 = same_Some w found.1.1 (sym at ∙ ap (slice_get e.wins) (sym found.3) ∙ winner.there) in
        let listed : has_list e w.land l.1 ≡ true = (λ z. has_list e (same z).land l.1) ∙ ap (λ (k : ℕ). has_list e k l.1) winner.land ∙ winner.listed in
        says_winner eligible e l n w l.1 (ap (λ (v : Win). v.party) same ∙ winner.party) refl (ap (λ (v : Win). v.land) same ∙ winner.land) winner.is_eligible listed

    -- who is seated at once is a winner of a list that is not contested and has seats
    seated_at_once : (q : ℕ) → among (at_once e eligible base q) n ≡ true →
        (of_list eligible e (pair_at e q) (n, w) ≡ true) × (is_contested e eligible base q ≡ false) × (slice_index base q ≢ 0)
    seated_at_once q is =
        elim (cases_Bool (is_contested e eligible base q)) [
          | inl contested ↦ absurd (false≢true (sym (ap (λ ks. among ks n) (nobody_contested e eligible base q contested)) ∙ is))
          | inr not ↦ by_seats not (slice_index base q) refl
        ]
      where
        by_seats : is_contested e eligible base q ≡ false → (m : ℕ) → slice_index base q ≡ m →
            (of_list eligible e (pair_at e q) (n, w) ≡ true) × (is_contested e eligible base q ≡ false) × (slice_index base q ≢ 0)
        by_seats not zero none = absurd (false≢true (sym (ap (λ ks. among ks n) (nobody_without_seats e eligible base q none)) ∙ is))
        by_seats not (suc m) some =
            (winner_among (pair_at e q) (sym (ap (λ ks. among ks n) (everybody_fits e eligible base q m not some)) ∙ is), not, λ none. omega (arith, none, some))

    -- a winner of another list is not among those of a pair
    not_fitting : ((q : ℕ) → of_list eligible e (pair_at e q) (n, w) ≡ true → (is_contested e eligible base q ≡ true) ⊎ (slice_index base q ≡ 0)) → among (fitting_from 0) n ≡ false
    unfolding fitting_from
    not_fitting no_place =
        none_among (at_once e eligible base) n (range_with_len 0 (lands_of e * parties_of e - 0))
        (λ q. false_from_ne_true (among (at_once e eligible base q) n) (λ is.
        let seated = seated_at_once q is in
        elim (no_place q seated.0) [
          | inl contested ↦ false≢true (sym seated.1 ∙ contested)
          | inr none ↦ seated.2 none
        ]))

    is_fitting : (q m : ℕ) → q < lands_of e * parties_of e → of_list eligible e (pair_at e q) (n, w) ≡ true → is_contested e eligible base q ≡ false → slice_index base q ≡ suc m →
        among (fitting_from 0) n ≡ true
    unfolding fitting_from
    is_fitting q m within says not some =
        among_piece (at_once e eligible base) n q (range_with_len 0 (lands_of e * parties_of e - 0)) (in_range (lands_of e * parties_of e - 0) q (omega (arith, within)))
        (ap (λ ks. among ks n) (everybody_fits e eligible base q m not some) ∙ among_winners (pair_at e q) says)

-- ---- the plan

module _ (c : CountingCode) (e : Election) (x : CoverSlots) (eligible : ℕ → Bool) (base : List ℕ) (is : IsElection e) (slots : HasCoverSlots c x) where
  abbrev fitting : List ℕ
  fitting = fitting_from eligible e base 0

  -- the first j winners have their places
  record AreFitted (j : ℕ) (t : State) : Type 0 where
    places : ArePlaced e (cover_place fitting) (cover_place []) j t
    read : AreRead e x eligible base t.columns

  module _ (j : ℕ) (w : Win) (at : slice_get e.wins j ≡ Some w) (t : State) (h : AreFitted j t) where
    -- a winner who is not seated at once stays
    stays : (u : State) → among fitting j ≡ false → u.columns ≡ t.columns → u.placed ≡ t.placed → AreFitted (j + 1) u
    stays u not columns same =
        let lone : Placed = if is_none w.party then placed.Single else placed.Unseated in
        record {
          places = place_next e (cover_place fitting) (cover_place []) j w t u at h.places
              (ap (λ f. f j) same ∙ h.places.rest j w at (omega arith) ∙ ap (λ (b : Bool). if b then placed.OnList else lone) (sym not)) (λ n other. ap (λ f. f n) same);
          read = subst (AreRead e x eligible base) (sym columns) h.read;
        }

    passed_by : (u : State) → ((l : ℕ × ℕ) → of_list eligible e l (j, w) ≡ false) → OnlyLooked t u → AreFitted (j + 1) u
    passed_by u none looked = stays u (not_fitting eligible e base j w at (λ q says. absurd (false≢true (sym (none (pair_at e q)) ∙ says)))) looked.columns looked.placed

    module _ (p : ℕ) (u : State) (seatable : IsSeatable eligible e w p) (here : IsAtList j w.land p t u) where
      abbrev q : ℕ
      q = w.land * parties_of e + p

      within : q < lands_of e * parties_of e
      within = place_within e w.land p seatable.in_party seatable.in_land

      abbrev numbered : State
      numbered = with_register reg.WEIGHT (u.columns x.numbers q) u

      abbrev looked_up : State
      looked_up = with_register reg.LEFT (u.columns x.base q) numbered

      number : u.columns x.numbers q ≡ number_of e eligible base q
      number = ap (λ (f : ℕ → ℕ → ℕ). f x.numbers q) here.looked.columns ∙ h.read.numbers q within

      seats : u.columns x.base q ≡ slice_index base q
      seats = ap (λ (f : ℕ → ℕ → ℕ). f x.base q) here.looked.columns ∙ h.read.seats q within

      -- the winner's list is contested or has no seats
      no_place : (is_contested e eligible base q ≡ true) ⊎ (slice_index base q ≡ 0) → AreFitted (j + 1) looked_up
      no_place why =
          stays looked_up
          (not_fitting eligible e base j w at (λ k says. elim (cases_eq k q) [
            | inl same ↦ subst (λ (m : ℕ). (is_contested e eligible base m ≡ true) ⊎ (slice_index base m ≡ 0)) (sym same) why
            | inr other ↦ absurd (false≢true (sym (says_elsewhere eligible e j w at p seatable k other) ∙ says))
          ]))
          here.looked.columns here.looked.placed

      uncontested : u.columns x.numbers q ≡ 0 → is_contested e eligible base q ≡ false
      uncontested none = false_from_ne_true (is_contested e eligible base q) (λ contested. let some = number_contested_is e eligible base q contested in omega (arith, none, number, some))

      contested : (k : ℕ) → u.columns x.numbers q ≡ suc k → is_contested e eligible base q ≡ true
      contested k some =
          elim (cases_Bool (is_contested e eligible base q)) [
            | inl is ↦ is
            | inr not ↦ absurd (let none = number_other_is e eligible base q not in omega (arith, some, number, none))
          ]

      seats_one : Achieves c e (seat_fitting x) u (AreFitted (j + 1)) Never
      seats_one =
          let cell = both_are u.land u.party (λ land party. land * parties_of e + party) w.land p here.land here.party in
          line_first (get_does c e u x.numbers shape.List slots.numbers reg.WEIGHT q cell)
          (line_first (get_does c e numbered x.base shape.List slots.base reg.LEFT q cell)
          (line_over (if_zero {r = reg.WEIGHT}
          (λ none.
          if_zero {r = reg.LEFT}
          (λ no_seats. line_ends (no_place (inr (sym seats ∙ no_seats))))
          (λ m some.
          let there : among fitting j ≡ true = is_fitting eligible e base j w at q m within (says_here eligible e j w p seatable) (uncontested none) (sym seats ∙ some) in
          let lone : Placed = if is_none w.party then placed.Single else placed.Unseated in
          line_goes (seat_does c e looked_up j here.win w at p seatable.party seatable.listed)
          (line_ends (record {
            places = placed_next e (cover_place fitting) (cover_place []) j w placed.OnList t looked_up at h.places here.looked.placed
                (ap (λ (b : Bool). if b then placed.OnList else lone) (sym there));
            read = subst (AreRead e x eligible base) (sym here.looked.columns) h.read;
          }))))
          (λ k some. line_ends (no_place (inl (contested k some)))))))

    fits_next : Achieves c e (if_seatable x (seat_fitting x)) (with_win (Some j) t) (AreFitted (j + 1)) Never
    fits_next = if_seatable_achieves c e x eligible is slots j w at t h.read.flags (λ p u seatable here. seats_one p u seatable here) passed_by

  -- all of them, where nobody was placed but singles
  pub uncontested_seated : (s : State) → AreRead e x eligible base s.columns → ((n : ℕ) (w : Win) → slice_get e.wins n ≡ Some w → s.placed n ≡ cover_place [] (n, w)) →
      Achieves c e (seat_uncontested x) s (λ t. (n : ℕ) (w : Win) → slice_get e.wins n ≡ Some w → t.placed n ≡ cover_place fitting (n, w)) Never
  uncontested_seated s read singles =
      wins_keeping AreFitted refl
      (record { places = record { first = λ n w at less. absurd (omega (arith, less)); rest = λ n w at high. singles n w at }; read = read })
      (λ j w t at h. fits_next j w at t h)
      (λ t h n w at. h.places.first n w at (slice_get_within e.wins n w at))

-- The winners of a list, and how their seats wait in the table.
use Rattle.std.proofs.Common.{◌≡◌, ℕ, zero, suc, ◌+◌, ◌<◌, ◌≤◌, ◌&&◌, Bool, true, List, [], ◌∷◌, map, length, All, Option, Some, None, option_map, nat_eq, nat_lt, slice_get, get_or, take, cond, ◌++◌, refl, sym, ap, ◌∙◌, arith}
use Rattle.std.specs.Prelude.{filter, flat_map, slice_index, if◌then◌else◌}
use Rattle.std.specs.List.{range_with_len, enumerate_from}
use Rattle.std.proofs.lemmas.Bool.{and_parts, and_from, eqb-true, eq-eqb, lt-ltb, ltb-true, false≢true}
use Rattle.std.proofs.lemmas.Option.{slice_get-get_or, get_or_from_slice_get, slice_get-map, slice_get_within}
use Rattle.std.proofs.lemmas.List.{length-map, length-take, take_all}
use Rattle.std.proofs.lemmas.List.Elements.{All-get_or, All-filter, filter_passes, filter_more}
use Rattle.std.proofs.lemmas.List.Sums.{length-filter, count_by-le-length}
use Rattle.std.proofs.lemmas.List.FromFn.{length-enumerate_from, get_or-enumerate_from, fill_by_all}
use Rattle.sl_base_quotients.specs.declared.entry.Entry.{Entry}
use Rattle.sl_law_meaning.specs.declared.election.Win.{Win}
use Rattle.sl_law_meaning.specs.returns.Election.{Election, wins_of, has_list}
use Rattle.sl_law_meaning.specs.returns.Facts.{is_in, is_of, has_eligible_list}
use Rattle.sl_law_meaning.specs.meaning.Seating.{winners_of}
use Rattle.sl_law_meaning.proofs.methods.SeatSums.{none_needed}
use Rattle.sl_compile_pieces.specs.arenas.Arenas.{Arena, seat_of, next_seat, waiting, covering_arena}
use Rattle.sl_compile_pieces.proofs.seats.Lists.{mapped_at}
use Rattle.sl_compile_plans.proofs.KeepingRules.{element_there}

-- ---- who is a winner of a list

-- the winner of that number and no other is of a party that is eligible and has this list
pub record IsWinnerOf (eligible : ℕ → Bool) (e : Election) (l : ℕ × ℕ) (y : ℕ × Win) : Type 0 where
  pub there : slice_get e.wins y.0 ≡ Some y.1
  pub party : y.1.party ≡ Some l.1
  pub land : y.1.land ≡ l.0
  pub is_eligible : eligible l.1 ≡ true
  pub listed : has_list e l.0 l.1 ≡ true

module _ (eligible : ℕ → Bool) (e : Election) (l : ℕ × ℕ) where
  abbrev pub of_list : ℕ × Win → Bool
  of_list x = has_eligible_list eligible e x.1 && (is_in l.0 x.1 && is_of l.1 x.1)

  -- what it says of a winner, by the party
  pub of_list_by : (n : ℕ) (w : Win) (o : Option ℕ) → w.party ≡ o → of_list (n, w) ≡ of_list (n, record w { party = o })
  of_list_by n w o is = ap (λ (p : Option ℕ). of_list (n, record w { party = p })) is

  pub is_winner : (y : ℕ × Win) → slice_get e.wins y.0 ≡ Some y.1 → of_list y ≡ true → IsWinnerOf eligible e l y
  is_winner y there says = by_party y.1.party refl
    where
      by_party : (o : Option ℕ) → y.1.party ≡ o → IsWinnerOf eligible e l y
      by_party None is = absurd (false≢true (sym (of_list_by y.0 y.1 None is) ∙ says))
      by_party (Some p) is =
          let parts = and_parts (eligible p && has_list e y.1.land p) (nat_eq y.1.land l.0 && nat_eq p l.1) (sym (of_list_by y.0 y.1 (Some p) is) ∙ says) in
          let lists = and_parts (eligible p) (has_list e y.1.land p) parts.0 in
          let both = and_parts (nat_eq y.1.land l.0) (nat_eq p l.1) parts.1 in
          let land : y.1.land ≡ l.0 = eqb-true y.1.land l.0 both.0 in
          let party : p ≡ l.1 = eqb-true p l.1 both.1 in
          assumption (is ∙ ap Some party, ap eligible (sym party) ∙ lists.0, (λ z. has_list e (sym land z) (sym party z)) ∙ lists.1)

  pub says_winner : (n : ℕ) (w : Win) (p : ℕ) → w.party ≡ Some p → p ≡ l.1 → w.land ≡ l.0 → eligible p ≡ true → has_list e w.land p ≡ true → of_list (n, w) ≡ true
  says_winner n w p is party land may listed =
      of_list_by n w (Some p) is
      ∙ and_from (eligible p && has_list e w.land p) (nat_eq w.land l.0 && nat_eq p l.1) (and_from (eligible p) (has_list e w.land p) may listed)
      (and_from (nat_eq w.land l.0) (nat_eq p l.1) (eq-eqb w.land l.0 land) (eq-eqb p l.1 party))

  abbrev pub won : List (ℕ × Win)
  won = winners_of eligible e l.0 l.1

  pub each_winner : (i : ℕ) (y : ℕ × Win) → slice_get won i ≡ Some y → IsWinnerOf eligible e l y
  each_winner i y at =
      let numbered : All (λ x. slice_get e.wins x.0 ≡ Some x.1) (enumerate_from 0 e.wins) =
      (λ k d less.
      let within : k < length e.wins = omega (arith, less, length-enumerate_from 0 e.wins) in
      let here : 0 + k ≡ k = omega arith in
      let is : get_or (enumerate_from 0 e.wins) k d ≡ (k, get_or e.wins k d.1) = get_or-enumerate_from 0 e.wins k d within ∙ ap (λ (m : ℕ). (m, get_or e.wins k d.1)) here in
      (λ z. slice_get e.wins (is z).0) ∙ slice_get-get_or e.wins k d.1 within ∙ (λ z. Some (sym is z).1)) in
      let within : i < length won = slice_get_within won i y at in
      let is : get_or won i y ≡ y = get_or_from_slice_get won i y y at in
      let there = All-get_or (λ x. slice_get e.wins x.0 ≡ Some x.1) won i y within (All-filter of_list (λ x. slice_get e.wins x.0 ≡ Some x.1) (enumerate_from 0 e.wins) numbered) in
      let says = All-get_or (λ x. of_list x ≡ true) won i y within (filter_passes of_list (enumerate_from 0 e.wins)) in
      is_winner y ((λ z. slice_get e.wins (sym is z).0) ∙ there ∙ (λ z. Some (is z).1)) ((λ z. of_list (sym is z)) ∙ says)

  -- ---- those among the first j winners

  pub front : ℕ → List (ℕ × Win)
  front j = filter of_list (take j (enumerate_from 0 e.wins))

  pub front_none : front 0 ≡ []
  unfolding front
  front_none = refl

  pub front_all : front (wins_of e) ≡ won
  unfolding front
  front_all =
      ap (filter of_list) (take_all (wins_of e) (enumerate_from 0 e.wins) (omega (arith, length-enumerate_from 0 e.wins)))

  pub front_more : (j : ℕ) (w : Win) → slice_get e.wins j ≡ Some w → front (j + 1) ≡ front j ++ cond (of_list (j, w)) ((j, w) ∷ []) []
  unfolding front
  front_more j w at =
      let within : j < length e.wins = slice_get_within e.wins j w at in
      let here : 0 + j ≡ j = omega arith in
      let step = filter_more of_list (enumerate_from 0 e.wins) j (j, w) (omega (arith, within, length-enumerate_from 0 e.wins)) in
      let winner = get_or-enumerate_from 0 e.wins j (j, w) within in
      let same = get_or_from_slice_get e.wins j w w at in
      step ∙ (λ z. front j ++ cond (of_list (winner z)) (winner z ∷ []) []) ∙ (λ z. front j ++ cond (of_list (here z, same z)) ((here z, same z) ∷ []) [])

  -- they are no more
  pub front_few : (j : ℕ) → length (front j) ≤ j
  unfolding front
  front_few j =
      let some = count_by-le-length of_list (take j (enumerate_from 0 e.wins)) in
      omega (arith, some, length-filter of_list (take j (enumerate_from 0 e.wins)), length-take j (enumerate_from 0 e.wins))

-- ---- the seats that wait

-- how a winner stands in the table
abbrev pub entry_of : ℕ × Win → Entry
entry_of y = record { ratio = record { num = y.1.first; den = y.1.valid }; index = y.0 }

one_each : {X : Type 0} (f : ℕ → List X) (g : ℕ → X) (a n : ℕ) → ((i : ℕ) → i < a + n → f i ≡ g i ∷ []) → flat_map f (range_with_len a n) ≡ map g (range_with_len a n)
one_each f g a zero each = refl
one_each f g a (suc n) each = rw (each a (omega arith)) (ap (λ xs. g a ∷ xs) (one_each f g (a + 1) n (λ i less. each i (omega (arith, less)))))

module _ (winners : List (ℕ × Win)) where
  abbrev pub arena : Arena
  arena = covering_arena winners

  pub seat_is : (i held : ℕ) (y : ℕ × Win) → slice_get winners i ≡ Some y → seat_of arena i held ≡ entry_of y
  seat_is i held y at =
      let first = mapped_at (λ x. x.1.first) winners i y at in
      let valid = mapped_at (λ x. x.1.valid) winners i y at in
      λ z. record { ratio = record { num = first z; den = valid z }; index = mapped_at (λ x. x.0) winners i y at z }

  -- nobody has a seat at first
  pub nothing_held : (i : ℕ) → slice_index arena.ladders.base i ≡ 0
  nothing_held i = none_needed (length (map (λ x. x.1.first) winners)) i

  pub has_first : (i : ℕ) → i < length winners → arena.ladders.has i 0 ≡ true
  has_first i less =
      let firsts : List ℕ = map (λ x. x.1.first) winners in
      and_from (nat_lt i (length firsts)) true (lt-ltb i (length firsts) (omega (arith, less, length-map winners (λ x. x.1.first)))) refl

  -- an entry with a next seat is a winner without a seat
  pub next_winner : (i held : ℕ) → arena.ladders.has i held ≡ true → (y : ℕ × Win) × (slice_get winners i ≡ Some y) × (held ≡ 0)
  next_winner i held has =
      let firsts : List ℕ = map (λ x. x.1.first) winners in
      let parts = and_parts (nat_lt i (length firsts)) (nat_eq held 0) has in
      let short : i < length firsts = ltb-true i (length firsts) parts.0 in
      let there = element_there winners i (omega (arith, short, length-map winners (λ x. x.1.first))) in
      (there.0, there.1, eqb-true held 0 parts.1)

  pub all_wait : map entry_of winners ≡ waiting arena arena.ladders.base
  all_wait =
      let long : length arena.places ≡ length winners = length-map winners (λ x. x.0) in
      let pieces : flat_map (next_seat arena arena.ladders.base) (range_with_len 0 (length arena.places)) ≡ map (λ i. seat_of arena i 0) (range_with_len 0 (length arena.places)) =
      one_each (next_seat arena arena.ladders.base) (λ i. seat_of arena i 0) 0 (length arena.places)
      (λ i less. ap (λ (held : ℕ). if arena.ladders.has i held then seat_of arena i held ∷ [] else []) (nothing_held i)
      ∙ ap (λ (b : Bool). if b then seat_of arena i 0 ∷ [] else []) (has_first i (omega (arith, less, long)))) in
      let seats : map entry_of winners ≡ map (λ i. seat_of arena i 0) (range_with_len 0 (length arena.places)) =
      fill_by_all (λ i. seat_of arena i 0) (map entry_of winners) (length arena.places) (seat_of arena 0 0) (length-map winners entry_of ∙ sym long)
      (λ k less.
      let found = element_there winners k (omega (arith, less, long)) in
      let there : slice_get (map entry_of winners) k ≡ Some (entry_of found.0) = slice_get-map entry_of winners k ∙ ap (option_map entry_of) found.1 in
      get_or_from_slice_get (map entry_of winners) k (entry_of found.0) (seat_of arena 0 0) there ∙ sym (seat_is k 0 found.0 found.1)) in
      seats ∙ sym pieces

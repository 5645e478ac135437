-- The winners of each list are counted; then the contested pairs of a Land and a party have their numbers, and all others have 0.
use Rattle.std.proofs.Common.{◌≡◌, ◌≢◌, ℕ, ◌+◌, ◌*◌, ◌<◌, ◌≤◌, Bool, true, false, cond, min, [], ◌∷◌, ◌++◌, length, Some, slice_get, refl, sym, ap, subst, ◌∙◌, inl, inr, arith, ◌-◌, List}
use Rattle.std.proofs.lemmas.Bool.{cases_eq}
use Rattle.std.proofs.lemmas.Option.{slice_get_within}
use Rattle.std.proofs.lemmas.List.{append-nil, length-append}
use Rattle.std.specs.Prelude.{slice_index}
use Rattle.std.proofs.Math.Nat.{mul-le-mul_left}
use Rattle.sl_base_terms.specs.declared.shape.Shape.TheVariants as shape
use Rattle.sl_law_meaning.specs.declared.election.Win.{Win}
use Rattle.sl_law_meaning.specs.returns.Election.{Election, IsElection, lands_of, parties_of, wins_of}
use Rattle.sl_code_instructions.specs.Codes.{CountingCode}
use Rattle.sl_code_semantics.specs.State.{State, with_register, with_cell}
use Rattle.sl_code_semantics.specs.Effects.{most, with_win, with_party, with_land}
use Rattle.sl_code_semantics.proofs.effects.Registers.{get_does, store_does, zero_does}
use Rattle.sl_code_semantics.proofs.effects.Cursors.{both_are}
use Rattle.sl_code_semantics.proofs.effects.Storing.{cell_same, cell_other_place, cell_other_slot, column_same, column_other}
use Rattle.sl_compile_plans.specs.Trees.{ones, Each}
use Rattle.sl_compile_plans.specs.Achieves.{Achieves, Never}
use Rattle.sl_compile_plans.proofs.Rules.{line_ends, line_goes, then_achieves, if_zero, ends_in, line_first, line_over}
use Rattle.sl_compile_plans.proofs.KeepingRules.{wins_keeping, each_keeping}
use Rattle.sl_compile_plans.specs.declared.plan.Cursor.TheVariants as cursor
use Rattle.sl_compile_pieces.specs.declared.registers.TheConstants as reg
use Rattle.sl_compile_pieces.specs.covers.Trees.{CoverSlots, if_seatable, count_winner, count_winners, take_number, number_list, number_contested}
use Rattle.sl_compile_pieces.specs.covers.Covering.{HasCoverSlots}
use Rattle.sl_compile_pieces.proofs.covers.Pairs.{pair_at}
use Rattle.sl_compile_pieces.proofs.covers.Winners.{of_list, front, front_none, front_all, front_more, front_few}
use Rattle.sl_compile_pieces.proofs.covers.Seatable.{IsSeatable, OnlyLooked, IsAtList, HasFlags, says_here, says_elsewhere, if_seatable_achieves}
use Rattle.sl_compile_pieces.proofs.covers.Contested.{many_at, is_contested, contested_before, number_of, contested_by, no_seats_uncontested, all_fit_uncontested, before_none, before_contested, before_other, before_few, number_contested_is, number_other_is}
use Rattle.sl_compile_pieces.proofs.facts.Holding.{place_within}

-- ---- the winners of each list

-- of the first j winners so many are each list's, and the flags stand
pub record AreCounted (e : Election) (x : CoverSlots) (eligible : ℕ → Bool) (j : ℕ) (t : State) : Type 0 where
  pub counts : (q : ℕ) → q < lands_of e * parties_of e → t.columns x.numbers q ≡ length (front eligible e (pair_at e q) j)
  pub flags : HasFlags e x eligible t.columns

module _ (c : CountingCode) (e : Election) (x : CoverSlots) (eligible : ℕ → Bool) (is : IsElection e) (slots : HasCoverSlots c x) (apart : x.eligible ≢ x.numbers) where
  module _ (j : ℕ) (w : Win) (at : slice_get e.wins j ≡ Some w) where
    -- a list whose winner it is has one more, and every other as many as before
    one_more : (l : ℕ × ℕ) → of_list eligible e l (j, w) ≡ true → length (front eligible e l (j + 1)) ≡ length (front eligible e l j) + 1
    one_more l says =
        ap length (front_more eligible e l j w at ∙ ap (λ b. front eligible e l j ++ cond b ((j, w) ∷ []) []) says) ∙ length-append (front eligible e l j) ((j, w) ∷ [])

    no_more : (l : ℕ × ℕ) → of_list eligible e l (j, w) ≡ false → length (front eligible e l (j + 1)) ≡ length (front eligible e l j)
    no_more l not = ap length (front_more eligible e l j w at ∙ ap (λ b. front eligible e l j ++ cond b ((j, w) ∷ []) []) not ∙ append-nil (front eligible e l j))

    module _ (t : State) (h : AreCounted e x eligible j t) where
      counts_none : (u : State) → ((l : ℕ × ℕ) → of_list eligible e l (j, w) ≡ false) → OnlyLooked t u → AreCounted e x eligible (j + 1) u
      counts_none u not looked = record {
        counts = λ q within. ap (λ (f : ℕ → ℕ → ℕ). f x.numbers q) looked.columns ∙ h.counts q within ∙ sym (no_more (pair_at e q) (not (pair_at e q)));
        flags = λ party within. ap (λ (f : ℕ → ℕ → ℕ). f x.eligible party) looked.columns ∙ h.flags party within;
      }

      module _ (p : ℕ) (u : State) (seatable : IsSeatable eligible e w p) (here : IsAtList j w.land p t u) where
        abbrev place : ℕ
        place = w.land * parties_of e + p

        counts_one : Achieves c e (count_winner x) u (AreCounted e x eligible (j + 1)) Never
        counts_one =
            let within : place < lands_of e * parties_of e = place_within e w.land p seatable.in_party seatable.in_land in
            let old : u.columns x.numbers place ≡ length (front eligible e (pair_at e place) j) = ap (λ (f : ℕ → ℕ → ℕ). f x.numbers place) here.looked.columns ∙ h.counts place within in
            let cell = both_are u.land u.party (λ land party. land * parties_of e + party) w.land p here.land here.party in
            let more : ℕ = min (u.columns x.numbers place + 1) most in
            let counted : State = with_register reg.WEIGHT more (with_register ones 1 (with_register reg.WEIGHT (u.columns x.numbers place) u)) in
            let now : more ≡ length (front eligible e (pair_at e place) (j + 1)) =
            (let below : j < wins_of e = slice_get_within e.wins j w at in
            let few = front_few eligible e (pair_at e place) j in
            omega (arith, old, below, few, one_more (pair_at e place) (says_here eligible e j w p seatable))) in
            line_goes (get_does c e u x.numbers shape.List slots.numbers reg.WEIGHT place cell)
            (line_goes refl (line_goes refl
            (line_goes (store_does c e counted x.numbers shape.List slots.numbers reg.WEIGHT place cell)
            (line_ends (record {
              counts = λ q in_column. elim (cases_eq q place) [
                | inl same ↦
                    ap ((with_cell x.numbers place more counted).columns x.numbers) same ∙ cell_same counted x.numbers place more ∙ now
                    ∙ ap (λ (k : ℕ). length (front eligible e (pair_at e k) (j + 1))) (sym same)
                | inr other ↦
                    cell_other_place counted x.numbers place more q other ∙ ap (λ (f : ℕ → ℕ → ℕ). f x.numbers q) here.looked.columns ∙ h.counts q in_column
                    ∙ sym (no_more (pair_at e q) (says_elsewhere eligible e j w at p seatable q other))
              ];
              flags = λ party in_column.
                  cell_other_slot counted x.numbers place more x.eligible party apart ∙ ap (λ (f : ℕ → ℕ → ℕ). f x.eligible party) here.looked.columns ∙ h.flags party in_column;
            })))))

      counts_next : Achieves c e (if_seatable x (count_winner x)) (with_win (Some j) t) (AreCounted e x eligible (j + 1)) Never
      counts_next = if_seatable_achieves c e x eligible is slots j w at t h.flags (λ p u seatable here. counts_one p u seatable here) counts_none

  -- all of them
  pub winners_counted : (s : State) → HasFlags e x eligible s.columns →
      Achieves c e (count_winners x) s (λ t. (q : ℕ) → q < lands_of e * parties_of e → t.columns x.numbers q ≡ many_at e eligible q) Never
  winners_counted s flags =
      then_achieves {Q = AreCounted e x eligible 0}
      (line_goes (zero_does c e s x.numbers shape.List slots.numbers)
      (line_ends (record {
        counts = λ q within. ap (λ (f : ℕ → ℕ). f q) (column_same s x.numbers (λ p. 0)) ∙ sym (ap length (front_none eligible e (pair_at e q)));
        flags = λ party within. ap (λ (f : ℕ → ℕ). f party) (column_other s x.numbers (λ p. 0) x.eligible apart) ∙ flags party within;
      })))
      (λ t first.
      wins_keeping (AreCounted e x eligible) refl first (λ j w u at h. counts_next j w at u h)
      (λ u h q within. h.counts q within ∙ ap length (front_all eligible e (pair_at e q))))

-- ---- the numbers of the contested pairs

-- pairs can be counted in a register
pub pairs_countable : (e : Election) → IsElection e → lands_of e * parties_of e ≤ most
pairs_countable e is =
    omega (arith, mul-le-mul_left (parties_of e) is.lands, is.parties)

-- the first n pairs have their numbers, the others still the number of their winners; and so many are contested
abbrev pub AreNumbered : Election → CoverSlots → (ℕ → Bool) → List ℕ → ℕ → State → Type 0
AreNumbered e x eligible base n t = record {
  numbers : (q : ℕ) → q < n → t.columns x.numbers q ≡ number_of e eligible base q;
  counts : (q : ℕ) → n ≤ q → q < lands_of e * parties_of e → t.columns x.numbers q ≡ many_at e eligible q;
  seats : (q : ℕ) → q < lands_of e * parties_of e → t.columns x.base q ≡ slice_index base q;
  count : t.registers reg.NEEDED ≡ contested_before e eligible base n;
}

-- the number of pair n is in its register, and the pair is counted if it is contested
record HasNumber (e : Election) (eligible : ℕ → Bool) (base : List ℕ) (l p n : ℕ) (t u : State) : Type 0 where
  columns : u.columns ≡ t.columns
  land : u.land ≡ Some l
  party : u.party ≡ Some p
  number : u.registers reg.SECOND_PASSING ≡ number_of e eligible base n
  count : u.registers reg.NEEDED ≡ contested_before e eligible base (n + 1)

module _ (c : CountingCode) (e : Election) (x : CoverSlots) (eligible : ℕ → Bool) (base : List ℕ) (is : IsElection e) (slots : HasCoverSlots c x) where
  abbrev Numbered : ℕ → State → Type 0
  Numbered = AreNumbered e x eligible base

  abbrev InLand : ℕ → ℕ → State → Type 0
  InLand l p t = Numbered (l * parties_of e + p) t × (t.land ≡ Some l)

  -- the same for so many pairs under another name
  numbered_at : (m n : ℕ) (t : State) → m ≡ n → Numbered m t → Numbered n t
  numbered_at m n t same h = subst (λ (k : ℕ). Numbered k t) same h

  module _ (l p : ℕ) (t : State) (in_land : l < lands_of e) (in_party : p < parties_of e) (h : Numbered (l * parties_of e + p) t) (land : t.land ≡ Some l) where
    abbrev n : ℕ
    n = l * parties_of e + p

    within : n < lands_of e * parties_of e
    within = place_within e l p in_party in_land

    abbrev here : State
    here = with_party (Some p) t

    abbrev counted : State
    counted = with_register reg.WEIGHT (t.columns x.numbers n) here

    abbrev seated : State
    seated = with_register reg.LEFT (t.columns x.base n) counted

    -- the winners for whom there is no seat are counted
    abbrev begun : State
    begun = with_register reg.SECOND_PASSING 0 (with_register reg.WEIGHT (t.columns x.numbers n - t.columns x.base n) seated)

    many : t.columns x.numbers n ≡ many_at e eligible n
    many = h.counts n (omega arith) within

    seats : t.columns x.base n ≡ slice_index base n
    seats = h.seats n within

    other_number : is_contested e eligible base n ≡ false → HasNumber e eligible base l p n t begun
    other_number not = assumption (sym (number_other_is e eligible base n not), h.count ∙ sym (before_other e eligible base n not))

    -- a list without winners has the number 0 already
    keeps_number : t.columns x.numbers n ≡ 0 → InLand l (p + 1) counted
    keeps_number none =
        let not : is_contested e eligible base n ≡ false = all_fit_uncontested e eligible base n (omega (arith, none, many)) in (
          numbered_at (n + 1) (l * parties_of e + (p + 1)) counted (omega arith) (record {
            numbers = λ q less. elim (cases_eq q n) [
              | inl same ↦ ap (t.columns x.numbers) same ∙ none ∙ sym (number_other_is e eligible base n not) ∙ ap (number_of e eligible base) (sym same)
              | inr other ↦ h.numbers q (omega (arith, less, other))
            ];
            counts = λ q high low. h.counts q (omega (arith, high)) low;
            seats = h.seats;
            count = h.count ∙ sym (before_other e eligible base n not);
          }),
          land,
        )

    -- one with winners is numbered
    numbers_winners : Achieves c e (take_number x) counted (InLand l (p + 1)) Never
    numbers_winners =
        let cell = both_are here.land here.party (λ land party. land * parties_of e + party) l p land refl in
        line_first (get_does c e counted x.base shape.List slots.base reg.LEFT n cell)
        (line_first refl (line_first refl (line_over
        (then_achieves {Q = HasNumber e eligible base l p n t}
        (if_zero {r = reg.WEIGHT}
        (λ none. line_ends (other_number (all_fit_uncontested e eligible base n (omega (arith, none, many, seats)))))
        (λ k more.
        if_zero {r = reg.LEFT}
        (λ none. line_ends (other_number (no_seats_uncontested e eligible base n (sym seats ∙ none))))
        (λ m some.
        let contested = contested_by e eligible base n (omega (arith, some, seats)) (omega (arith, more, many, seats)) in
        let next : min (t.registers reg.NEEDED + 1) most ≡ contested_before e eligible base n + 1 =
        (let few = before_few e eligible base n in let all = pairs_countable e is in let so_far = h.count in omega (arith, few, all, so_far, within)) in
        ends_in refl (assumption
        (next ∙ sym (number_contested_is e eligible base n contested), next ∙ sym (before_contested e eligible base n contested))))))
        (λ u g.
        let value : ℕ = u.registers reg.SECOND_PASSING in
        let stored : State = with_cell x.numbers n value u in
        line_goes (store_does c e u x.numbers shape.List slots.numbers reg.SECOND_PASSING n (both_are u.land u.party (λ land party. land * parties_of e + party) l p g.land g.party))
        (line_ends (
          numbered_at (n + 1) (l * parties_of e + (p + 1)) stored (omega arith) (record {
            numbers = λ q less. elim (cases_eq q n) [
              | inl same ↦ ap (stored.columns x.numbers) same ∙ cell_same u x.numbers n value ∙ g.number ∙ ap (number_of e eligible base) (sym same)
              | inr other ↦ cell_other_place u x.numbers n value q other ∙ ap (λ (f : ℕ → ℕ → ℕ). f x.numbers q) g.columns ∙ h.numbers q (omega (arith, less, other))
            ];
            counts = λ q high low.
                cell_other_place u x.numbers n value q (λ same. omega (arith, same, high)) ∙ ap (λ (f : ℕ → ℕ → ℕ). f x.numbers q) g.columns ∙ h.counts q (omega (arith, high)) low;
            seats = λ q low. cell_other_slot u x.numbers n value x.base q slots.apart ∙ ap (λ (f : ℕ → ℕ → ℕ). f x.base q) g.columns ∙ h.seats q low;
            count = g.count;
          }),
          g.land,
        )))))))

    takes_number : Achieves c e (number_list x) here (InLand l (p + 1)) Never
    takes_number =
        line_first (get_does c e here x.numbers shape.List slots.numbers reg.WEIGHT n (both_are here.land here.party (λ land party. land * parties_of e + party) l p land refl))
        (line_over (if_zero {r = reg.WEIGHT} (λ none. line_ends (keeps_number none)) (λ k some. numbers_winners)))

  numbers_land : (l : ℕ) (t : State) → l < lands_of e → Numbered (l * parties_of e) t →
      Achieves c e (Each cursor.Party (number_list x)) (with_land (Some l) t) (Numbered ((l + 1) * parties_of e)) Never
  numbers_land l t hl h =
      each_keeping (InLand l) refl (numbered_at (l * parties_of e) (l * parties_of e + 0) t (omega arith) h, refl)
      (λ p u hp inv. takes_number l p u hl hp inv.0 inv.1)
      (λ u inv. numbered_at (l * parties_of e + parties_of e) ((l + 1) * parties_of e) u (omega arith) inv.0)

  -- from the winners of each list on
  pub contested_numbered : (s : State) → ((q : ℕ) → q < lands_of e * parties_of e → s.columns x.numbers q ≡ many_at e eligible q) →
      ((q : ℕ) → q < lands_of e * parties_of e → s.columns x.base q ≡ slice_index base q) → Achieves c e (number_contested x) s (Numbered (lands_of e * parties_of e)) Never
  contested_numbered s counts seats =
      then_achieves {Q = Numbered (0 * parties_of e)}
      (ends_in refl (record {
        numbers = λ q less. absurd (omega (arith, less));
        counts = λ q high low. counts q low;
        seats = seats;
        count = sym (before_none e eligible base) ∙ (let none : 0 ≡ 0 * parties_of e = omega arith in ap (contested_before e eligible base) none);
      }))
      (λ t h. each_keeping (λ l. Numbered (l * parties_of e)) refl h (λ l u hl inv. numbers_land l u hl inv) (λ u inv. inv))

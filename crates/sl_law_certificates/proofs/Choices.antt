-- Which choice seats with a cut show, and that it is the one that the lot makes.
use Rattle.std.proofs.Common.{◌≡◌, ◌↔◌, ℕ, ◌<◌, true, false, not, List, [], ◌∷◌, Some, None, length, get_or, sum, inl, inr, arith, refl, sym, ap, ◌∙◌, subst}
use Rattle.std.specs.Prelude.{Contains}
use Rattle.std.proofs.lemmas.Bool.{cases_Bool, and_parts, and_from, both_ways, not-true, not-false, not_from_true, not_from_false, cond-true, cond-false, false_from_ne_true}
use Rattle.std.proofs.lemmas.Option.{same_Some}
use Rattle.sl_law_meaning.specs.methods.Ties.{Distinct, IsRaised, IsTied, AreTied, Choice, Decided, Tied, NamesAll, drawn, IsChoice}
use Rattle.sl_law_meaning.specs.laws.Ladders.{Ladders, AreFalling, IsTop, Raises, RaisesEach}
use Rattle.sl_law_meaning.specs.laws.Awards.{BatchLaws}
use Rattle.sl_law_meaning.proofs.methods.RaisedSeats.{cases_Contains, Contains-cases, Contains-none}
use Rattle.sl_law_meaning.proofs.methods.DrawnLots.{fits_in, same_entries}
use Rattle.sl_law_meaning.proofs.methods.OneBatch.{peers_within}
use Rattle.sl_law_meaning.proofs.methods.TieLaw.{raised_more, more_raised}
use Rattle.sl_law_meaning.proofs.methods.LadderProofs.{batches}
use Rattle.sl_law_certificates.specs.Cuts.{Told, is_cut, names_all, won_on, all_on, is_clear, draws_winners, choice_on, shown_choice}
use Rattle.sl_law_certificates.proofs.Lowered.{length-lower}
use Rattle.sl_law_certificates.proofs.Tests.{if_cases, if_some, all_named, names_them}
use Rattle.sl_law_certificates.proofs.Cuts.{winners, waiting, both, not_both, some_won, some_waiting, won_distinct, all_distinct, cut_top, clear_settled, low, low_at, low_other, low_sum, low_settled, low_peers}

module _ (l : Ladders) (law : AreFalling l) (t : Told) (is : is_cut l t ≡ true) where
  abbrev Top : List ℕ → Type 0
  Top = IsTop l (sum t.seats)

  -- ---- a cut without a tie

  clear_choice : is_clear l t ≡ true → (lot : List ℕ) → IsChoice Top lot (Decided t.seats)
  clear_choice clear lot = ((batches l law).settled t.seats (clear_settled l law t is clear)).choice lot

  pub clear_alone : is_clear l t ≡ true → (s : List ℕ) → Top s → s ≡ t.seats
  clear_alone clear s top = (((batches l law).settled t.seats (clear_settled l law t is clear)).alone s).0 top

  -- ---- a tie on the cut

  module _ (tie : is_clear l t ≡ false) where
    -- fewer won on the cut than are on it
    pub fewer : length (won_on l t) < length (all_on l t)
    fewer =
        let h = some_waiting l law t is tie in
        let waits = (waiting l law t is).has_only h.0 h.1 in
        let out : Contains (won_on l t) h.0 → ⊥ = λ ci. not_both l law t is h.0 ((winners l law t is).has_only h.0 ci) waits in
        let within : (i : ℕ) → Contains (h.0 ∷ won_on l t) i → Contains (all_on l t) i = λ i ci. elim (Contains-cases h.0 (won_on l t) i ci) [
          | inl e ↦ subst (λ z. Contains (all_on l t) z) e ((both l law t is).has h.0 (inr waits))
          | inr c' ↦ (both l law t is).has i (inl ((winners l law t is).has_only i c'))
        ] in
        let fits = fits_in (h.0 ∷ won_on l t) (all_on l t) (out, won_distinct l law t is) (all_distinct l law t is) within in
        omega (arith, fits)

    some : 0 < length (won_on l t)
    some = let less = (some_won l law t is tie).1 in omega (arith, less.1)

    batch : BatchLaws l (low l law t is) (all_on l t)
    batch =
        let w = some_won l law t is tie in
        (batches l law).batch (low l law t is) (all_on l t) (low_settled l law t is) (low_peers l law t is w.0 w.1)

    -- the lot names all who are on the cut, and draws just who won there
    abbrev Draws : List ℕ → Type 0
    Draws lot = NamesAll lot (all_on l t) × ((i : ℕ) → Contains (won_on l t) i ↔ Contains (drawn lot (length (won_on l t)) (all_on l t)) i)

    raises : (given : List ℕ) → ((i : ℕ) → Contains (won_on l t) i ↔ Contains given i) → RaisesEach given (low l law t is) t.seats
    raises given just = record {
      same_length = sym (length-lower t.seats (won_on l t));
      raised = λ i ci. let won = (just i).1 ci in let more = ((winners l law t is).has_only i won).0 in omega (arith, low_at l law t is i won, more);
      others = λ i out. sym (low_other l law t is i (λ won. out ((just i).0 won)));
    }

    drawn_choice : (lot : List ℕ) → Distinct lot → Draws lot → IsChoice Top lot (Decided t.seats)
    drawn_choice lot d draws =
        subst (λ n. IsChoice (IsTop l n) lot (Decided t.seats)) (low_sum l law t is)
        (batch.drawn_ones (length (won_on l t)) some fewer lot d draws.0 t.seats (raises (drawn lot (length (won_on l t)) (all_on l t)) draws.1))

    tied_choice : (lot : List ℕ) → ¬ NamesAll lot (all_on l t) → IsChoice Top lot (Tied (length (won_on l t)) (all_on l t))
    tied_choice lot none =
        subst (λ n. IsChoice (IsTop l n) lot (Tied (length (won_on l t)) (all_on l t))) (low_sum l law t is)
        (batch.tied_ones (length (won_on l t)) some fewer lot none)

    are_tied : AreTied Top (all_on l t) (length (won_on l t))
    are_tied = (tied_choice [] none_named).0 where
      none_named : NamesAll [] (all_on l t) → ⊥
      none_named names =
          let w = some_won l law t is tie in
          Contains-none w.0 (names w.0 ((both l law t is).has w.0 (inl ((winners l law t is).has_only w.0 w.1))))

    -- who is tied, and how many of them are raised, is so for each choice
    same_tied : (tied : List ℕ) (k : ℕ) → AreTied Top tied k → (tied ≡ all_on l t) × (k ≡ length (won_on l t))
    same_tied tied k h =
        let his = h.number t.seats (cut_top l law t is) in
        let own = are_tied.number t.seats (cut_top l law t is) in
        let raised = same_entries (IsRaised Top t.seats) (IsRaised Top t.seats) his.0 own.0 (λ i x. x) (λ i x. x) his.1 own.1 in (
          same_entries (IsTied Top) (IsTied Top) tied (all_on l t) (λ i x. x) (λ i x. x) h.entries are_tied.entries,
          sym his.2 ∙ ap length raised ∙ own.2,
        )

    -- ---- the lot that is asked for is needed

    only : (s : List ℕ) → Top s → Raises (all_on l t) (length (won_on l t)) (low l law t is) s
    only s top =
        (batch.some (length (won_on l t)) (omega (arith, fewer)) s).0 (subst (λ n. IsTop l n s) (sym (low_sum l law t is)) top)

    each : (s : List ℕ) → Raises (all_on l t) (length (won_on l t)) (low l law t is) s → Top s
    each s r = subst (λ n. IsTop l n s) (low_sum l law t is) ((batch.some (length (won_on l t)) (omega (arith, fewer)) s).1 r)

    within : (p : ℕ) → Contains (all_on l t) p → p < length (low l law t is)
    within =
        let w = some_won l law t is tie in
        peers_within l law (low l law t is) (all_on l t) (low_settled l law t is) (low_peers l law t is w.0 w.1)

    won_raised : (i : ℕ) → Contains (won_on l t) i → IsRaised Top t.seats i
    won_raised i ci =
        let have = ((winners l law t is).has_only i ci).0 in
        more_raised (low l law t is) (all_on l t) (length (won_on l t)) (all_distinct l law t is) within Top only each fewer t.seats
        (cut_top l law t is) i (omega (arith, low_at l law t is i ci, have))

    raised_won : (i : ℕ) → IsRaised Top t.seats i → Contains (won_on l t) i
    raised_won i r =
        let more = raised_more (low l law t is) (all_on l t) (length (won_on l t)) (all_distinct l law t is) within Top only each t.seats
        (cut_top l law t is) i r in
        elim (cases_Contains (won_on l t) i) [ inl ci ↦ ci | inr out ↦ absurd (omega (arith, more, low_other l law t is i out)) ]

    needed : (lot : List ℕ) → IsChoice Top lot (Decided t.seats) → Draws lot
    needed lot choice =
        let same = same_tied choice.0 choice.1 choice.2 in
        let e : drawn lot choice.1 choice.0 ≡ drawn lot (length (won_on l t)) (all_on l t) =
        ap (λ n. drawn lot n choice.0) same.1 ∙ ap (λ y. drawn lot (length (won_on l t)) y) same.0 in (
          subst (λ y. NamesAll lot y) same.0 choice.3,
          λ i. (
            λ won. subst (λ y. Contains y i) e ((choice.5 i).0 (won_raised i won)),
            λ by_lot. raised_won i ((choice.5 i).1 (subst (λ y. Contains y i) (sym e) by_lot)),
          ),
        )

  -- ---- what is shown is chosen

  pub on_cut : (lot : List ℕ) → Distinct lot → (c : Choice) → choice_on l t lot ≡ Some c → IsChoice Top lot c
  on_cut lot distinct c h =
      elim (if_cases (is_clear l t) (Some (Decided t.seats)) _ (Some c) h) [
        | inl clear ↦ subst (λ x. IsChoice Top lot x) (same_Some (Decided t.seats) c clear.1) (clear_choice clear.0 lot)
        | inr tie ↦ elim (if_cases (not (names_all lot (all_on l t))) (Some (Tied (length (won_on l t)) (all_on l t))) _ (Some c) tie.1) [
          | inl left ↦
              subst (λ x. IsChoice Top lot x) (same_Some (Tied (length (won_on l t)) (all_on l t)) c left.1)
              (tied_choice tie.0 lot (λ names. both_ways (names_all lot (all_on l t)) (not-true (names_all lot (all_on l t)) left.0) (names_them lot (all_on l t) names)))
          | inr named ↦
              (let by_lot = if_some (draws_winners l t lot) (Some (Decided t.seats)) c named.1 in
              let ways = and_parts _ _ by_lot.0 in
              let mine = drawn lot (length (won_on l t)) (all_on l t) in
              subst (λ x. IsChoice Top lot x) (same_Some (Decided t.seats) c by_lot.1)
              (drawn_choice tie.0 lot distinct (
                all_named lot (all_on l t) (not-false (names_all lot (all_on l t)) named.0),
                λ i. (all_named mine (won_on l t) ways.0 i, all_named (won_on l t) mine ways.1 i),
              )))
        ]
      ]

  -- ---- and what is chosen is shown

  decided_shown : (lot : List ℕ) → IsChoice Top lot (Decided t.seats) → choice_on l t lot ≡ Some (Decided t.seats)
  decided_shown lot h =
      elim (cases_Bool (is_clear l t)) [
        | inl clear ↦ cond-true (is_clear l t) (Some (Decided t.seats)) _ clear
        | inr tie ↦
            (let draws = needed tie lot h in
            let mine = drawn lot (length (won_on l t)) (all_on l t) in
            let named = names_them lot (all_on l t) draws.0 in
            let one = names_them mine (won_on l t) (λ i. (draws.1 i).0) in
            let two = names_them (won_on l t) mine (λ i. (draws.1 i).1) in
            cond-false (is_clear l t) (Some (Decided t.seats)) _ tie
            ∙ cond-false (not (names_all lot (all_on l t))) (Some (Tied (length (won_on l t)) (all_on l t))) _ (not_from_true _ named)
            ∙ cond-true (draws_winners l t lot) (Some (Decided t.seats)) None (and_from _ _ one two))
      ]

  tied_shown : (lot : List ℕ) (k : ℕ) (tied : List ℕ) → IsChoice Top lot (Tied k tied) → choice_on l t lot ≡ Some (Tied k tied)
  tied_shown lot k tied h =
      let tie : is_clear l t ≡ false = false_from_ne_true (is_clear l t) (λ clear. h.1 (λ i ci.
      let raised = h.0.entries.has_only i ci in
      let same : get_or raised.2.0 i 0 ≡ get_or raised.0 i 0 = ap (λ y. get_or y i 0) (clear_alone clear raised.2.0 raised.2.1 ∙ sym (clear_alone clear raised.0 raised.1)) in
      let less = raised.2.2 in
      absurd (omega (arith, same, less)))) in
      let same = same_tied tie tied k h.0 in
      let unnamed : names_all lot (all_on l t) ≡ false = false_from_ne_true (names_all lot (all_on l t)) (λ named.
      h.1 (subst (λ y. NamesAll lot y) (sym same.0) (λ i. all_named lot (all_on l t) named i))) in
      cond-false (is_clear l t) (Some (Decided t.seats)) _ tie
      ∙ cond-true (not (names_all lot (all_on l t))) (Some (Tied (length (won_on l t)) (all_on l t))) _ (not_from_false _ unnamed)
      ∙ ap (λ n. Some (Tied n (all_on l t))) (sym same.1) ∙ ap (λ y. Some (Tied k y)) (sym same.0)

  pub choice_shown : (lot : List ℕ) (c : Choice) → IsChoice Top lot c → ((s : List ℕ) → c ≡ Decided s → t.seats ≡ s) → shown_choice l t lot ≡ Some c
  choice_shown lot (Decided s) h same =
      let e = same s refl in
      cond-true (is_cut l t) (choice_on l t lot) None is
      ∙ decided_shown lot (subst (λ y. IsChoice Top lot (Decided y)) (sym e) h) ∙ ap (λ y. Some (Decided y)) e
  choice_shown lot (Tied k tied) h same = cond-true (is_cut l t) (choice_on l t lot) None is ∙ tied_shown lot k tied h

-- The winners without a party are singles.
use Rattle.std.proofs.Common.{◌≡◌, ◌≢◌, ℕ, ◌+◌, ◌<◌, ◌≤◌, Bool, [], ◌∷◌, Option, Some, None, is_none, slice_get, refl, sym, ap, ◌∙◌, inl, inr, arith, ne_eqb}
use Rattle.std.specs.Prelude.{if◌then◌else◌}
use Rattle.std.proofs.lemmas.Bool.{cases_eq, eq-eqb}
use Rattle.std.proofs.lemmas.Option.{same_Some, slice_get_within}
use Rattle.sl_law_meaning.specs.declared.election.Win.{Win}
use Rattle.sl_law_meaning.specs.declared.table.Placed.{Placed}
use Rattle.sl_law_meaning.specs.declared.table.Placed.TheVariants as placed
use Rattle.sl_law_meaning.specs.returns.Election.{Election}
use Rattle.sl_law_meaning.specs.meaning.Seating.{cover_place}
use Rattle.sl_code_instructions.specs.Codes.{CountingCode}
use Rattle.sl_code_instructions.specs.declared.instr.Instr.TheVariants.{Single}
use Rattle.sl_code_semantics.specs.State.{State, with_place}
use Rattle.sl_code_semantics.specs.Effects.{with_party, with_win}
use Rattle.sl_code_semantics.proofs.effects.Records.{single_does}
use Rattle.sl_code_semantics.proofs.effects.Cursors.{winner_is}
use Rattle.sl_compile_plans.specs.declared.plan.Test.TheVariants as test
use Rattle.sl_compile_plans.specs.Trees.{Line, If}
use Rattle.sl_compile_plans.specs.Achieves.{Achieves, Never}
use Rattle.sl_compile_plans.proofs.Rules.{line_ends, line_goes, if_no_party}
use Rattle.sl_compile_plans.proofs.KeepingRules.{wins_keeping}
use Rattle.sl_compile_pieces.specs.covers.Trees.{nothing, place_singles}

-- the first winners are placed as the one rule says, and the others as the other does
pub record ArePlaced (e : Election) (now old : ℕ × Win → Placed) (j : ℕ) (t : State) : Type 0 where
  pub first : (n : ℕ) (w : Win) → slice_get e.wins n ≡ Some w → n < j → t.placed n ≡ now (n, w)
  pub rest : (n : ℕ) (w : Win) → slice_get e.wins n ≡ Some w → j ≤ n → t.placed n ≡ old (n, w)

-- one winner more
pub place_next : (e : Election) (now old : ℕ × Win → Placed) (i : ℕ) (w : Win) (t u : State) → slice_get e.wins i ≡ Some w → ArePlaced e now old i t → u.placed i ≡ now (i, w) →
    ((n : ℕ) → n ≢ i → u.placed n ≡ t.placed n) → ArePlaced e now old (i + 1) u
place_next e now old i w t u at h here others = record {
  first = λ n v there less.
      elim (cases_eq n i) [
        | inl same ↦
            let is : w ≡ v = same_Some w v (sym at ∙ ap (slice_get e.wins) (sym same) ∙ there) in
            ap u.placed same ∙ here ∙ (λ z. now (sym same z, is z))
        | inr other ↦ others n other ∙ h.first n v there (omega (arith, less, other))
      ];
  rest = λ n v there high. others n (λ same. omega (arith, high, same)) ∙ h.rest n v there (omega (arith, high));
}

-- where it is that winner who is placed
pub placed_next : (e : Election) (now old : ℕ × Win → Placed) (i : ℕ) (w : Win) (where_to : Placed) (t u : State) → slice_get e.wins i ≡ Some w → ArePlaced e now old i t →
    u.placed ≡ t.placed → where_to ≡ now (i, w) → ArePlaced e now old (i + 1) (with_place i where_to u)
placed_next e now old i w where_to t u at h same right =
    place_next e now old i w t (with_place i where_to u) at h (ap (λ (b : Bool). if b then where_to else u.placed i) (eq-eqb i i refl) ∙ right)
    (λ n other. ap (λ (b : Bool). if b then where_to else u.placed n) (ne_eqb n i other) ∙ ap (λ (f : ℕ → Placed). f n) same)

module _ (c : CountingCode) (e : Election) where
  -- nobody is placed but singles
  abbrev Singled : ℕ → State → Type 0
  Singled = ArePlaced e (cover_place []) (λ y. placed.Unseated)

  places_one : (i : ℕ) (w : Win) (t : State) → slice_get e.wins i ≡ Some w → Singled i t →
      Achieves c e (If test.NoParty (Line (Single ∷ [])) nothing) (with_win (Some i) t) (Singled (i + 1)) Never
  places_one i w t at h =
      if_no_party (winner_is e (with_win (Some i) t) i w refl at)
      (λ none.
      let u : State = with_party None (with_win (Some i) t) in
      line_goes (single_does c e u i refl)
      (line_ends (placed_next e (cover_place []) (λ y. placed.Unseated) i w placed.Single t u at h refl
      (ap (λ (o : Option ℕ). if is_none o then placed.Single else placed.Unseated) (sym none)))))
      (λ p some.
      let u : State = with_party (Some p) (with_win (Some i) t) in
      let here : t.placed i ≡ cover_place [] (i, w) = h.rest i w at (omega arith) ∙ ap (λ (o : Option ℕ). if is_none o then placed.Single else placed.Unseated) (sym some) in
      line_ends (place_next e (cover_place []) (λ y. placed.Unseated) i w t u at h here (λ n other. refl)))

  pub singles_placed : (s : State) → ((n : ℕ) → s.placed n ≡ placed.Unseated) →
      Achieves c e place_singles s (λ t. (n : ℕ) (w : Win) → slice_get e.wins n ≡ Some w → t.placed n ≡ cover_place [] (n, w)) Never
  singles_placed s nobody =
      wins_keeping Singled refl
      (record { first = λ n w at less. absurd (omega (arith, less)); rest = λ n w at high. nobody n })
      (λ i w t at h. places_one i w t at h)
      (λ t h n w at. h.first n w at (slice_get_within e.wins n w at))

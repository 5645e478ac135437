-- Winners who are placed on lists, counted by the place of their list.
use Rattle.std.proofs.Common.{◌≡◌, ◌≢◌, ◌⊎◌, ℕ, ◌+◌, ◌*◌, ◌<◌, ◌&&◌, Bool, false, List, [], ◌∷◌, Option, Some, None, map, count_by, nat_eq, refl, sym, ap, ◌∙◌, eq-eqb, inl, inr}
use Rattle.std.specs.List.{All, AllByRecursion as Every, zip, range_with_len}
use Rattle.std.specs.Option.{ForSome}
use Rattle.std.proofs.lemmas.Bool.{cases_eq, ne_eqb}
use Rattle.std.proofs.lemmas.List.Elements.{All-head, All-tail}
use Rattle.std.proofs.lemmas.Nat.{same_from_place}
use Rattle.sl_law_meaning.specs.declared.election.Win.{Win}
use Rattle.sl_law_meaning.specs.declared.table.Placed.{Placed}
use Rattle.sl_law_meaning.specs.declared.table.Placed.TheVariants as placed
use Rattle.sl_law_meaning.specs.returns.Election.{Election, IsElection, IsWin, lands_of, parties_of}
use Rattle.sl_law_meaning.specs.returns.Facts.{is_in, is_of, by_list}
use Rattle.sl_law_meaning.specs.meaning.Seating.{is_on, placed_on}
use Rattle.sl_law_meaning.proofs.meaning.PlacedWinners.{count_each}
use Rattle.sl_count_texts.proofs.PartyWinners.{is_at, always, never}
use Rattle.sl_table.specs.inner.Places.{list_place}
use Rattle.sl_table.proofs.Cells.{by_list_as}

-- a winner beside the place counts at that place of a column
abbrev pub counts_at : Election → ℕ → Win × Placed → Bool
counts_at e k x = is_at k (list_place e x.0.land x.0.party x.1)

-- where one of two tests fails, both don't hold
not_both : (a b : Bool) → (a ≡ false) ⊎ (b ≡ false) → (a && b) ≡ false
not_both a b (inl h) = ap (λ c. c && b) h
not_both a b (inr h) = ap (λ c. a && c) h ∙ never a

module _ (e : Election) where
  -- a winner of a party counts at the place of a pair exactly where it is that of the pair
  of_pair : (at p land party : ℕ) → p < parties_of e → party < parties_of e → nat_eq (at * parties_of e + p) (land * parties_of e + party) ≡ nat_eq at land && nat_eq p party
  of_pair at p land party there within =
      let apart : ((at ≡ land) × (p ≡ party) → ⊥) → at * parties_of e + p ≢ land * parties_of e + party =
      λ differs same. differs (same_from_place at p land party (parties_of e) there within same) in
      elim (cases_eq at land) [
        | inl same_land ↦ elim (cases_eq p party) [
          | inl same_party ↦
              eq-eqb (at * parties_of e + p) (land * parties_of e + party) (ap (λ n. n * parties_of e + p) same_land ∙ ap (λ n. land * parties_of e + n) same_party)
              ∙ sym (ap (λ b. b && nat_eq p party) (eq-eqb at land same_land) ∙ eq-eqb p party same_party)
          | inr other ↦
              ne_eqb (at * parties_of e + p) (land * parties_of e + party) (apart (λ same. other same.1))
              ∙ sym (not_both (nat_eq at land) (nat_eq p party) (inr (ne_eqb p party other)))
        ]
        | inr other ↦
            ne_eqb (at * parties_of e + p) (land * parties_of e + party) (apart (λ same. other same.0))
            ∙ sym (not_both (nat_eq at land) (nat_eq p party) (inl (ne_eqb at land other)))
      ]

  -- the same of any winner, wherever placed
  at_pair : (w : Win) (at : ℕ) (o : Option ℕ) (place : Placed) → ForSome o (λ p. p < parties_of e) → (land party : ℕ) → party < parties_of e
      → is_at (land * parties_of e + party) (list_place e at o place) ≡ (is_in land (record w { land = at }) && is_of party (record w { party = o })) && is_on place
  at_pair w at None placed.OnList is land party within = sym (always (nat_eq at land && false) ∙ never (nat_eq at land))
  at_pair w at (Some p) placed.OnList is land party within = of_pair at p land party (is p refl) within ∙ sym (always (nat_eq at land && nat_eq p party))
  at_pair w at o placed.Single is land party within = sym (never (nat_eq at land && is_of party (record w { party = o })))
  at_pair w at o placed.Unseated is land party within = sym (never (nat_eq at land && is_of party (record w { party = o })))

  each_pair : (land party : ℕ) → party < parties_of e → (ws : List Win) (ps : List Placed) → All (IsWin (lands_of e) (parties_of e)) ws
      → Every (λ x. counts_at e (land * parties_of e + party) x ≡ (is_in land x.0 && is_of party x.0) && is_on x.1) (zip ws ps)
  each_pair land party within [] ps all = tt
  each_pair land party within (w ∷ ws) [] all = tt
  each_pair land party within (w ∷ ws) (p ∷ ps) all = (
    at_pair w w.land w.party p (All-head (IsWin (lands_of e) (parties_of e)) w ws all).party land party within,
    each_pair land party within ws ps (All-tail (IsWin (lands_of e) (parties_of e)) w ws all),
  )

  -- winners on lists, counted by place
  pub seated_winners_as : IsElection e → (ps : List Placed)
      → by_list e (placed_on e ps) ≡ map (λ k. count_by (counts_at e k) (zip e.wins ps)) (range_with_len 0 (lands_of e * parties_of e))
  seated_winners_as is ps = by_list_as e (placed_on e ps) (λ k. count_by (counts_at e k) (zip e.wins ps)) (λ land party in_lands in_parties.
      count_each (counts_at e (land * parties_of e + party)) (λ x. (is_in land x.0 && is_of party x.0) && is_on x.1) (zip e.wins ps) (each_pair land party in_parties e.wins ps is.places))

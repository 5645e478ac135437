-- Columns of pairs of Land and party as columns of places.
use Rattle.std.proofs.Common.{◌≡◌, ℕ, ◌+◌, ◌*◌, ◌/◌, ◌%◌, ◌<◌, map, get_or, sym, ap, ◌∙◌, inl, inr, arith}
use Rattle.std.specs.List.{range_with_len}
use Rattle.std.proofs.lemmas.Bool.{cases_lt}
use Rattle.std.proofs.lemmas.List.FromFn.{fill_by_all}
use Rattle.std.proofs.lemmas.Nat.{div_below, mod_below}
use Rattle.sl_law_meaning.specs.returns.Election.{Election, lands_of, parties_of}
use Rattle.sl_law_meaning.specs.returns.Facts.{by_list}
use Rattle.sl_law_meaning.proofs.meaning.ListPlaces.{length_by_list, by_list_at}

module _ (e : Election) (f : ℕ → ℕ → ℕ) where
  -- the column as one of places
  pub by_list_as : (g : ℕ → ℕ) → ((land party : ℕ) → land < lands_of e → party < parties_of e → g (land * parties_of e + party) ≡ f land party)
      → by_list e f ≡ map g (range_with_len 0 (lands_of e * parties_of e))
  by_list_as g same =
      fill_by_all g (by_list e f) (lands_of e * parties_of e) 0 (length_by_list e f) (λ k within. at k within (pos k within))
    where
      pos : (k : ℕ) → k < lands_of e * parties_of e → 0 < parties_of e
      pos k within = elim (cases_lt 0 (parties_of e)) [
        | inl some ↦ some
        | inr none ↦
            let zero_parties : parties_of e ≡ 0 = omega arith in
            absurd (omega (arith, ap (λ n. lands_of e * n) zero_parties))
      ]

      at : (k : ℕ) → k < lands_of e * parties_of e → 0 < parties_of e → get_or (by_list e f) k 0 ≡ g k
      at k within some =
          let land : k / parties_of e < lands_of e = div_below k (parties_of e) (lands_of e) some within in
          let party : k % parties_of e < parties_of e = mod_below k (parties_of e) some in
          let split : k / parties_of e * parties_of e + k % parties_of e ≡ k = omega arith in
          ap (λ n. get_or (by_list e f) n 0) (sym split) ∙ by_list_at e f (k / parties_of e) (k % parties_of e) land party ∙ sym (same (k / parties_of e) (k % parties_of e) land party) ∙ ap g split

-- What a table gives the lists of a party, and columns of parties.
use Rattle.std.proofs.Common.{◌≡◌, ℕ, ◌<◌, ◌≤◌, Bool, true, false, cond, List, [], ◌∷◌, nat_eq, length, get_or, map, filter, sum_by, arith, refl, sym, ap, ◌∙◌}
use Rattle.std.specs.Prelude.{slice_index}
use Rattle.std.specs.List.{AllByRecursion as Every, AllZip}
use Rattle.std.proofs.lemmas.Bool.{eq-eqb, ne_eqb}
use Rattle.std.proofs.lemmas.List.{get_or_past}
use Rattle.std.proofs.lemmas.List.FromFn.{length-map-range_with_len, get_or-map-range_with_len}
use Rattle.std.proofs.lemmas.List.Sums.{sum_by-cons}
use Rattle.sl_base_terms.specs.declared.shape.Shape.TheVariants as shape
use Rattle.sl_law_meaning.specs.declared.fault.Item.TheVariants as item
use Rattle.sl_law_meaning.specs.declared.table.ListSeats.{ListSeats}
use Rattle.sl_law_meaning.specs.returns.Election.{Election, parties_of, has_list}
use Rattle.sl_law_meaning.specs.returns.Facts.{lands, parties, by_party, lists_of}
use Rattle.sl_law_meaning.specs.meaning.Scopes.{place, cells, entries_of}
use Rattle.sl_law_meaning.specs.meaning.Tables.{SeatTable}
use Rattle.sl_law_meaning.proofs.meaning.DistinctLists.{every_weaker, always}
use Rattle.sl_law_fairness.specs.Winners.{base_seats, IsLine}
use Rattle.sl_law_fairness.specs.Amounts.{sum_in}
use Rattle.sl_law_fairness.proofs.ListColumns.{sum_agree, sum_mapped, sum_pieces, map_mapped, below}
use Rattle.sl_law_statutes.specs.Parties.{party_seats}
use Rattle.sl_law_statutes.proofs.Sums.{sum_filter, one_term}
use Rattle.sl_law_statutes.proofs.Shares.{party_lists, of_party}

-- ---- the lines of a party

zip_sum : {X Y : Type 0} (R : X → Y → Type 0) (f : X → ℕ) (g : Y → ℕ) → ((x : X) (y : Y) → R x y → g y ≡ f x) → (xs : List X) (ys : List Y) → AllZip R xs ys → sum_by g ys ≡ sum_by f xs
zip_sum R f g same [] [] all = refl
zip_sum R f g same [] (y ∷ ys) all = absurd all
zip_sum R f g same (x ∷ xs) [] all = absurd all
zip_sum R f g same (x ∷ xs) (y ∷ ys) all =
    let rest = zip_sum R f g same xs ys all.1 in
    let this = same x y all.0 in
    sum_by-cons g y ys ∙ omega (arith, rest, this, sum_by-cons f x xs)

none_anyway : (t : Bool) → ◌≡◌ {A = ℕ} (cond t 0 0) 0
none_anyway true = refl
none_anyway false = refl

module _ (e : Election) (party : ℕ) (within : party < parties_of e) where
  in_land : (has : ℕ × ℕ → ℕ) (land : ℕ) →
      sum_by (λ l. cond (nat_eq l.1 party) (has l) 0) (map (λ p. (land, p)) (filter (has_list e land) (parties e))) ≡ cond (has_list e land party) (has (land, party)) 0
  in_land has land =
      let cell : ℕ → ℕ = λ p. cond (nat_eq p party) (has (land, p)) 0 in
      sum_mapped (λ l. cond (nat_eq l.1 party) (has l) 0) (λ p. (land, p)) (filter (has_list e land) (parties e))
      ∙ sum_filter (has_list e land) cell (parties e)
      ∙ one_term (λ p. cond (has_list e land p) (cell p) 0) party 0 (parties_of e)
      (λ p ne. ap (λ same. cond (has_list e land p) (cond same (has (land, p)) 0) 0) (ne_eqb p party ne) ∙ none_anyway (has_list e land p))
      (omega arith) (omega (arith, within))
      ∙ ap (λ same. cond (has_list e land party) (cond same (has (land, party)) 0) 0) (eq-eqb party party refl)

  -- where each list has so many seats, a party has those of its lists, Land by Land
  pub lines_by : (has winners : ℕ × ℕ → ℕ) (t : SeatTable) → AllZip (λ l. IsLine l (has l) (winners l)) (lists_of e) t.lists →
      party_seats t party ≡ sum_by (λ land. cond (has_list e land party) (has (land, party)) 0) (lands e)
  lines_by has winners t lines =
      let f : ℕ × ℕ → ℕ = λ l. cond (nat_eq l.1 party) (has l) 0 in
      sum_filter (λ s. nat_eq s.party party) (λ (s : ListSeats). s.seats) t.lists
      ∙ zip_sum (λ l. IsLine l (has l) (winners l)) f (λ s. cond (nat_eq s.party party) s.seats 0)
      (λ l s is. ap (λ p. cond (nat_eq p party) s.seats 0) is.party ∙ ap (λ n. cond (nat_eq l.1 party) n 0) is.seats) (lists_of e) t.lists lines
      ∙ sum_pieces f (λ land. map (λ p. (land, p)) (filter (has_list e land) (parties e))) (lands e)
      ∙ sum_agree (λ land. sum_by f (map (λ p. (land, p)) (filter (has_list e land) (parties e)))) (λ land. cond (has_list e land party) (has (land, party)) 0) (lands e)
      (always (λ land. sum_by f (map (λ p. (land, p)) (filter (has_list e land) (parties e))) ≡ cond (has_list e land party) (has (land, party)) 0) (in_land has) (lands e))

-- where each list has what stands in a column, a party has what its lists have there
pub lines_sum : (e : Election) (column : List ℕ) (party : ℕ) → party < parties_of e → (winners : ℕ × ℕ → ℕ) (t : SeatTable) →
    AllZip (λ l. IsLine l (base_seats e column l) (winners l)) (lists_of e) t.lists → party_seats t party ≡ sum_in e (party_lists e party) column
lines_sum e column party within winners t lines = lines_by e party within (base_seats e column) winners t lines ∙ sym (of_party e column party)

-- ---- columns of parties

map_agree : (f g : ℕ → ℕ) (xs : List ℕ) → Every (λ x. f x ≡ g x) xs → map f xs ≡ map g xs
map_agree f g [] all = refl
map_agree f g (x ∷ xs) all = cc (all.0, map_agree f g xs all.1)

module _ (e : Election) where
  pub length_parties : (f : ℕ → ℕ) → length (by_party e f) ≡ parties_of e
  length_parties f = length-map-range_with_len f 0 (parties_of e)

  pub at_party : (f : ℕ → ℕ) (party : ℕ) → party < parties_of e → get_or (by_party e f) party 0 ≡ f party
  at_party f party within = get_or-map-range_with_len f 0 (parties_of e) party party 0 within (omega arith)

  pub past_parties : (f : ℕ → ℕ) (party : ℕ) → parties_of e ≤ party → get_or (by_party e f) party 0 ≡ 0
  past_parties f party past = get_or_past (by_party e f) party 0 (let long = length_parties f in omega (arith, long))

  -- in the one scope of the parties a column has what it has of each
  pub scope_column : (column : List ℕ) (f : ℕ → ℕ) → Every (λ party. slice_index column party ≡ f party) (parties e) → cells e (entries_of e shape.Party) column ≡ by_party e f
  scope_column column f all =
      map_mapped (λ i. slice_index column (place e i)) (λ party. item.Party party) (parties e)
      ∙ map_agree (λ party. slice_index column party) f (parties e) all

  pub same_column : (f : ℕ → ℕ) → cells e (entries_of e shape.Party) (by_party e f) ≡ by_party e f
  same_column f = scope_column (by_party e f) f (every_weaker (λ party. party < parties_of e) (λ party. slice_index (by_party e f) party ≡ f party) (at_party f) (parties e) (below (parties_of e)))

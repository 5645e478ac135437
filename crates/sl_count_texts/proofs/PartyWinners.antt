-- Winners counted by party.
use Rattle.std.proofs.Common.{◌≡◌, ℕ, ◌+◌, ◌<◌, ◌≤◌, ◌&&◌, Bool, true, false, Option, Some, None, List, get_or, length, set, slice_get, nat_eq, refl, sym, ap, subst, ◌∙◌, eq-eqb, arith, if◌then◌else◌}
use Rattle.std.specs.List.{zip}
use Rattle.std.specs.Option.{ForSome}
use Rattle.std.proofs.lemmas.Bool.{ne_eqb}
use Rattle.std.proofs.lemmas.Option.{none-some, slice_get_within, get_or_from_slice_get}
use Rattle.sl_law_meaning.specs.declared.election.Win.{Win}
use Rattle.sl_law_meaning.specs.declared.table.Placed.{Placed}
use Rattle.sl_law_meaning.specs.returns.Election.{Election, IsElection, parties_of}
use Rattle.sl_law_meaning.specs.returns.Facts.{is_of}
use Rattle.sl_count_texts.specs.declared.party_counts.Counted.{Counted}
use Rattle.sl_count_texts.specs.inner.PartyCounts.{counts, party_counted}
use Rattle.sl_count_texts.proofs.Counting.{Counts, counts_one, counts_no, count_le}
use Rattle.sl_count_texts.proofs.Winners.{in_zip, pair_at}

-- a winner counts at that place
abbrev pub is_at : ℕ → Option ℕ → Bool
is_at k None = false
is_at k (Some place) = nat_eq place k

pub never : (b : Bool) → (b && false) ≡ false
never true = refl
never false = refl

pub always : (b : Bool) → (b && true) ≡ b
always true = refl
always false = refl

-- a winner of a party who is counted, beside the place
abbrev pub counts_for : Counted → ℕ → Win × Placed → Bool
counts_for c k x = is_of k x.0 && counts c x.1

of_party : (k : ℕ) (w : Win) (o : Option ℕ) → is_at k o ≡ is_of k (record w { party = o })
of_party k w None = refl
of_party k w (Some p) = refl

-- by the party of those who are counted
counts_at_party : (c : Counted) (k : ℕ) (w : Win) (place : Placed) → is_at k (party_counted c w place) ≡ counts_for c k (w, place)
counts_at_party c k w place = where_counted (counts c place)
  where
    where_counted : (b : Bool) → is_at k (if b then w.party else None) ≡ (is_of k w && b)
    where_counted true = of_party k w w.party ∙ sym (always (is_of k w))
    where_counted false = sym (never (is_of k w))

-- the party of a winner is one of the election's
pub party_within : (e : Election) → IsElection e → (i : ℕ) (w : Win) → slice_get e.wins i ≡ Some w → (party : ℕ) → w.party ≡ Some party → party < parties_of e
party_within e is i w key party of =
    let here : get_or e.wins i w ≡ w = get_or_from_slice_get e.wins i w w key in
    subst (λ v. ForSome v.party (λ p. p < parties_of e)) here (is.places i w (slice_get_within e.wins i w key)).party party of

pub of_counted : (c : Counted) (w : Win) (place : Placed) (party : ℕ) → Some party ≡ party_counted c w place → w.party ≡ Some party
of_counted c w place party = where_counted (counts c place)
  where
    where_counted : (b : Bool) → Some party ≡ (if b then w.party else None) → w.party ≡ Some party
    where_counted true is = sym is
    where_counted false is = absurd (none-some party (sym is))

-- a count is not above the number of winners so far
pub count_within : (c : Counted) (ws : List Win) (ps : List Placed) (n i : ℕ) (column : List ℕ) → Counts (counts_for c) (zip ws ps) n i column
    → (w : Win) → slice_get ws i ≡ Some w → i < length ps → (party n' : ℕ) → party < n → n' ≡ get_or column party n' → n' ≤ i
count_within c ws ps n i column so_far w key within party n' of read =
    let some = in_zip ws ps i w key within in count_le (counts_for c) (zip ws ps) n i column so_far party n' of (omega (arith, some)) read

-- one more winner beside the place in a column that counts by party
module _ (c : Counted) (ws : List Win) (ps : List Placed) (n i : ℕ) (column : List ℕ) (so_far : Counts (counts_for c) (zip ws ps) n i column)
    (w : Win) (d : Placed) (key : slice_get ws i ≡ Some w) (within : i < length ps) where
  here : get_or (zip ws ps) i (w, get_or ps i d) ≡ (w, get_or ps i d)
  here = pair_at ws ps i w d key within

  pub party_more : (party n' : ℕ) (after : List ℕ) → Some party ≡ party_counted c w (get_or ps i d) → party < n → n' ≡ get_or column party n' → after ≡ set column party (n' + 1)
      → Counts (counts_for c) (zip ws ps) n (i + 1) after
  party_more party n' after is of read written =
      counts_one (counts_for c) (zip ws ps) n i column so_far (w, get_or ps i d) (in_zip ws ps i w key within) here party n' after of read written
      (sym (counts_at_party c party w (get_or ps i d)) ∙ ap (is_at party) (sym is) ∙ eq-eqb party party refl)
      (λ k h. sym (counts_at_party c k w (get_or ps i d)) ∙ ap (is_at k) (sym is) ∙ ne_eqb party k (λ same. h (sym same)))

  pub party_same : (after : List ℕ) → None ≡ party_counted c w (get_or ps i d) → after ≡ column → Counts (counts_for c) (zip ws ps) n (i + 1) after
  party_same after is unchanged =
      counts_no (counts_for c) (zip ws ps) n i column so_far (w, get_or ps i d) (in_zip ws ps i w key within) here after unchanged
      (λ k. sym (counts_at_party c k w (get_or ps i d)) ∙ ap (is_at k) (sym is))

-- A lot covers and draws alike by places in a column and by numbers among entries.
use Rattle.std.proofs.Common.{◌≡◌, ℕ, ◌<◌, ◌≤◌, List, [], length, get_or, All, Option, Some, None, IsTrue, Contains, MatchOption, refl, sym, subst, ◌∙◌, inl, inr, arith}
use Rattle.std.specs.Prelude.{nat_eq}
use Rattle.std.specs.List.{list_any}
use Rattle.std.specs.List.Sorted.{IsStrictlyIncreasing}
use Rattle.std.specs.Ordering.{is_le}
use Rattle.std.proofs.lemmas.List.Elements.{Contains-get_or}
use Rattle.std.proofs.lemmas.List.Sums.{AllPass-from_list_all, list_all-from_AllPass}
use Rattle.std.proofs.lemmas.Bool.{cases_lt}
use Rattle.sl_base_quotients.specs.declared.entry.Entry.{Entry}
use Rattle.sl_base_rankings.specs.Lot.{place_in_lot, lot_cmp}
use Rattle.sl_base_rankings.specs.Lot as machine
use Rattle.sl_base_rankings.specs.Peers.{peers, is_covered}
use Rattle.sl_base_rankings.proofs.Finding.{All-at, Contains-none}
use Rattle.sl_base_rankings.proofs.LawProofs.{draws}
use Rattle.sl_base_rankings.proofs.LotPlaces.{not_later}
use Rattle.sl_law_meaning.specs.methods.Ties.{NamesAll}
use Rattle.sl_law_meaning.specs.methods.Ties as meaning
use Rattle.sl_law_meaning.specs.laws.Awards.{DrawsNext}
use Rattle.sl_law_meaning.proofs.methods.DrawnLots.{is_in, stands_in}
use Rattle.sl_code_semantics.specs.SameLots.{SameLot, PeersAre, SameCovers, SameDraws}
use Rattle.sl_code_semantics.proofs.drawing.LotOrder.{place_at, place_least, place_apart}

-- ---- covering

pub same_covers : SameCovers
same_covers lot meant places tied contents same at = (
  λ covered i tied_i.
      let x = at.all i tied_i in
      let named = All-at (λ peer. IsTrue (list_any (λ n. nat_eq n peer.index) lot)) (peers contents) x.0 (all_of covered) x.1 in
      let stands = subst (λ (n : ℕ). Contains lot n) x.2 (stands_in lot x.0.index named) in
      (same.named i (at.within i tied_i)).1 stands,
  λ all. of_all (λ x there.
      let j = at.each x there in
      let stands = (same.named j.0 (at.within j.0 j.1)).0 (all j.0 j.1) in
      is_in lot x.index (subst (λ (n : ℕ). Contains lot n) (sym j.2) stands)),
)
  where
    all_of : IsTrue (is_covered lot contents) → All (λ peer. IsTrue (list_any (λ n. nat_eq n peer.index) lot)) (peers contents)
    all_of covered = AllPass-from_list_all (λ peer. list_any (λ n. nat_eq n peer.index) lot) (peers contents) covered

    of_all : ((x : Entry) → Contains (peers contents) x → IsTrue (list_any (λ n. nat_eq n x.index) lot)) → IsTrue (is_covered lot contents)
    of_all each =
        list_all-from_AllPass (λ peer. list_any (λ n. nat_eq n peer.index) lot) (peers contents)
        (λ i d low. each (get_or (peers contents) i d) (Contains-get_or (peers contents) i d low))

-- ---- drawing

module _ (lot meant places tied : List ℕ) (k : ℕ) (contents : List Entry) (same : SameLot lot meant places) (increasing : IsStrictlyIncreasing places) (all : NamesAll meant tied)
    (next : DrawsNext meant tied k) (at : PeersAre places (λ j. Contains tied j × ¬ Contains (meaning.drawn meant k tied) j) contents) where
  within_tied : (j : ℕ) → Contains tied j → j < length places
  within_tied j c = same.within j (all j c)

  in_lot : (j : ℕ) → Contains tied j → Contains lot (get_or places j 0)
  in_lot j c = (same.named j (within_tied j c)).0 (all j c)

  -- a tied entry that the lot names before the next one has been drawn
  drawn_before : (j : ℕ) → Contains tied j → place_in_lot lot (get_or places j 0) < place_in_lot lot (get_or places next.entry 0) → Contains (meaning.drawn meant k tied) j
  drawn_before j c earlier =
      let first = same.before j next.entry (within_tied j c) (within_tied next.entry next.one_of) earlier in
      let least = place_least meant next.entry next.place next.stands.0 next.stands.1 in
      let here = place_at meant j (all j c) in
      let p = place_in_lot meant j in
      subst (λ (n : ℕ). Contains (meaning.drawn meant k tied) n) here.1 (next.first p (omega (arith, first, least)) (subst (λ (n : ℕ). Contains tied n) (sym here.1) c))

  is_next : (x : Entry) → Contains (peers contents) x → All (λ other. IsTrue (is_le (lot_cmp lot other x))) (peers contents) → x.index ≡ get_or places next.entry 0
  is_next x there least =
      let j = at.each x there in
      let y = at.all next.entry (next.one_of, next.left) in
      let before = not_later lot x y.0 (All-at (λ other. IsTrue (is_le (lot_cmp lot other x))) (peers contents) y.0 least y.1) in
      let sooner : place_in_lot lot (get_or places j.0 0) ≤ place_in_lot lot (get_or places next.entry 0) =
      subst (λ (n : ℕ). place_in_lot lot n ≤ place_in_lot lot (get_or places next.entry 0)) j.2 (subst (λ (n : ℕ). place_in_lot lot x.index ≤ place_in_lot lot n) y.2 before) in
      elim (cases_lt (place_in_lot lot (get_or places j.0 0)) (place_in_lot lot (get_or places next.entry 0))) [
        | inl earlier ↦ absurd (j.1.1 (drawn_before j.0 j.1.0 earlier))
        | inr equal ↦ j.2 ∙ place_apart lot (get_or places j.0 0) (get_or places next.entry 0) (in_lot j.0 j.1.0) (in_lot next.entry next.one_of) (omega (arith, sooner, equal))
      ]

  found : (o : Option Entry) → machine.drawn lot contents ≡ o → MatchOption o (contents ≡ []) (λ peer. Contains (peers contents) peer × All (λ other. IsTrue (is_le (lot_cmp lot other peer))) (peers contents))
      → (x : Entry) × (machine.drawn lot contents ≡ Some x) × (x.index ≡ get_or places next.entry 0)
  found None is empty =
      let y = at.all next.entry (next.one_of, next.left) in
      absurd (Contains-none y.0 (subst (λ (xs : List Entry). Contains (peers xs) y.0) empty y.1))
  found (Some x) is h = (x, is, is_next x h.0 h.1)

pub same_draws : SameDraws
same_draws lot meant places tied k contents same increasing all next at =
    found lot meant places tied k contents same increasing all next at (machine.drawn lot contents) refl (draws contents lot)

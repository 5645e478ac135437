-- Which entries are peers, and how they stand by index.
use Rattle.std.specs.Prelude.{slice_index, slice_index_or}
use Rattle.std.proofs.Common.{◌≡◌, ◌↔◌, ℕ, zero, suc, ◌+◌, ◌<◌, ◌≤◌, Bool, true, false, List, [], ◌∷◌, map, nat_eq, Option, Some, None, All, Contains, IsPermutation, IsTrue, refl, sym, ap, subst, ◌∙◌, inl, inr, arith}
use Rattle.std.specs.Cmp.{Equal-is, nat_eq_equiv, ranks}
use Rattle.std.specs.List.{filter, IsDistinct, AllByRecursion}
use Rattle.std.specs.List.Sorted.{IsStrictlyIncreasing}
use Rattle.std.specs.Option.{option_map_or}
use Rattle.std.specs.declared.cmp.Ordering.{Ordering}
use Rattle.std.specs.declared.cmp.Ordering.TheVariants.{Less, Equal, Greater}
use Rattle.std.specs.Ordering.{MatchOrdering, nat_cmp, is_le, is_eq, ordering_then, ordering_reverse}
use Rattle.std.proofs.lemmas.Bool.{cases_Bool, eq-eqb, true≢false}
use Rattle.std.proofs.lemmas.List.Elements.{All-head, All-tail, Contains-get_or}
use Rattle.std.proofs.lemmas.List.Sorted.{All-permutation, Contains-permutation, IsPermutation-map, IsPermutation-sym}
use Rattle.std.proofs.lemmas.Map.Keys.{IsDistinct-IsPermutation}
use Rattle.sl_base_quotients.specs.declared.entry.Entry.{Entry}
use Rattle.sl_base_quotients.specs.Quotient.{compare}
use Rattle.sl_base_quotients.specs.Entry.{quotient_cmp, entry_cmp}
use Rattle.sl_base_quotients.specs.inner.EntryLaws.{quotient_total, quotient_cmp-positive}
use Rattle.sl_base_rankings.specs.Ranking.{ranked}
use Rattle.sl_base_rankings.specs.Peers.{top, peers, has_quotient_of}
use Rattle.sl_base_rankings.specs.Laws.{PeersAreGreatest, PeersByIndex}
use Rattle.sl_base_rankings.proofs.Finding.{Contains-none, Contains-filter, filter-Contains, All-at}
use Rattle.sl_base_rankings.proofs.Greatest.{AtMost, both_le, greatest-Some, greatest-None}
use Rattle.sl_base_rankings.proofs.Orders.{entry_order}
use Rattle.sl_base_rankings.proofs.Rankings.{Falls, ranked-permutation, ranked-falls}
use Rattle.sl_base_rankings.proofs.Tables.{peers-at_top}
use Rattle.sl_base_rankings.proofs.Fronts.{HasRatio, quotient_at_most, le_first}

-- ---- entries with one quotient

pub tied : (x y : Entry) → HasRatio x → HasRatio y → has_quotient_of x y ≡ true → quotient_cmp x.ratio y.ratio ≡ Equal
tied x y fits_x fits_y h = quotient_cmp-positive x.ratio y.ratio fits_x.positive fits_y.positive ∙ (Equal-is (compare x.ratio y.ratio)).0 h

-- what is compared with y answers as with x
alike : (x y z : Entry) → quotient_cmp x.ratio y.ratio ≡ Equal → quotient_cmp z.ratio y.ratio ≡ quotient_cmp z.ratio x.ratio
alike x y z h =
    quotient_total.antisymm z.ratio y.ratio ∙ ap ordering_reverse (sym (quotient_total.congr x.ratio y.ratio z.ratio h)) ∙ sym (quotient_total.antisymm z.ratio x.ratio)

module _ (xs : List Entry) (ratios : All HasRatio xs) (first : Entry) (is_top : top xs ≡ Some first) where
  here : Contains xs first
  here = (greatest-Some entry_cmp entry_order xs first is_top).0

  pub fits_first : HasRatio first
  fits_first = All-at HasRatio xs first ratios here

  pub up_to_top : (z : Entry) → Contains xs z → is_le (quotient_cmp z.ratio first.ratio) ≡ true
  up_to_top z c = quotient_at_most z first (All-at (AtMost entry_cmp first) xs z (greatest-Some entry_cmp entry_order xs first is_top).1 c)

  listed : List Entry
  listed = filter (has_quotient_of first) xs

  peers_listed : IsPermutation listed (peers xs)
  unfolding listed
  peers_listed = subst (λ (ys : List Entry). IsPermutation listed ys) (sym (peers-at_top xs first is_top)) (ranked-permutation listed)

  -- a peer has the quotient of the top
  pub has_top_quotient : (x : Entry) → Contains (peers xs) x → Contains xs x × (has_quotient_of first x ≡ true)
  unfolding listed
  has_top_quotient x c = filter-Contains (has_quotient_of first) xs x (Contains-permutation (peers xs) listed x (IsPermutation-sym listed (peers xs) peers_listed) c)

  none_exceeds : (x : Entry) → Contains (peers xs) x → Contains xs x × All (λ other. IsTrue (is_le (compare other.ratio x.ratio))) xs
  none_exceeds x c =
      let there = has_top_quotient x c in
      let fits = All-at HasRatio xs x ratios there.0 in
      let one : quotient_cmp first.ratio x.ratio ≡ Equal = tied first x fits_first fits there.1 in (
        there.0,
        λ k d l.
            let other = slice_index_or xs k d in
            let c : Contains xs other = Contains-get_or xs k d l in
            let fits_other = All-at HasRatio xs other ratios c in
            ap is_le (sym (quotient_cmp-positive other.ratio x.ratio fits_other.positive fits.positive) ∙ alike first x other one) ∙ up_to_top other c,
      )

  exceeded_by_none : (x : Entry) → Contains xs x → All (λ other. IsTrue (is_le (compare other.ratio x.ratio))) xs → Contains (peers xs) x
  unfolding listed
  exceeded_by_none x c most =
      let fits = All-at HasRatio xs x ratios c in
      let low : is_le (compare first.ratio x.ratio) ≡ true = All-at (λ other. IsTrue (is_le (compare other.ratio x.ratio))) xs first most here in
      let same = both_le (quotient_cmp first.ratio x.ratio) (quotient_cmp x.ratio first.ratio) (quotient_total.antisymm first.ratio x.ratio)
      (ap is_le (quotient_cmp-positive first.ratio x.ratio fits_first.positive fits.positive) ∙ low) (up_to_top x c) in
      let peer : has_quotient_of first x ≡ true = ap is_eq (sym (quotient_cmp-positive first.ratio x.ratio fits_first.positive fits.positive) ∙ same) in
      Contains-permutation listed (peers xs) x peers_listed (Contains-filter (has_quotient_of first) xs x c peer)

pub peers_are_greatest : PeersAreGreatest
peers_are_greatest xs ratios peer = by_top (top xs) refl
  where
    by_top : (o : Option Entry) → top xs ≡ o → Contains (peers xs) peer ↔ (Contains xs peer × All (λ other. IsTrue (is_le (compare other.ratio peer.ratio))) xs)
    by_top (Some first) h = (none_exceeds xs ratios first h peer, λ r. exceeded_by_none xs ratios first h peer r.0 r.1)
    by_top None h =
        let none = greatest-None entry_cmp entry_order xs h in
        let empty : peers xs ≡ [] = ap (λ o. option_map_or (λ t. ranked (filter (has_quotient_of t) xs)) o []) h in (
          (λ c. absurd (Contains-none peer (subst (λ (ys : List Entry). Contains ys peer) empty c))),
          (λ r. absurd (Contains-none peer (subst (λ (ys : List Entry). Contains ys peer) none r.0))),
        )

-- ---- peers by index

abbrev indexes : List Entry → List ℕ
indexes xs = map (λ entry. entry.index) xs

apart_filter : (n : ℕ) (p : Entry → Bool) (xs : List Entry) → AllByRecursion (λ m. nat_eq n m ≡ false) (indexes xs) → AllByRecursion (λ m. nat_eq n m ≡ false) (indexes (filter p xs))
apart_filter n p [] h = h
apart_filter n p (x ∷ xs) h =
    elim (cases_Bool (p x)) [
      | inl t ↦ rw t (h.0, apart_filter n p xs h.1)
      | inr f ↦ rw f (apart_filter n p xs h.1)
    ]

distinct_filter : (p : Entry → Bool) (xs : List Entry) → IsDistinct nat_eq (indexes xs) → IsDistinct nat_eq (indexes (filter p xs))
unfolding IsDistinct
distinct_filter p [] h = h
distinct_filter p (x ∷ xs) h =
    elim (cases_Bool (p x)) [
      | inl t ↦ rw t (apart_filter x.index p xs h.0, distinct_filter p xs h.1)
      | inr f ↦ rw f (distinct_filter p xs h.1)
    ]

upto : (a b : ℕ) (r : Ordering) → MatchOrdering r (a < b) (a ≡ b) (b < a) → is_le r ≡ true → a ≤ b
upto a b Less h t = omega arith
upto a b Equal h t = omega arith
upto a b Greater h t = cc

-- of two entries with the quotient of first, the greater has the smaller index
by_index : (first x y : Entry) → quotient_cmp first.ratio x.ratio ≡ Equal → quotient_cmp first.ratio y.ratio ≡ Equal → AtMost entry_cmp x y → nat_eq x.index y.index ≡ false → x.index < y.index
by_index first x y tied_x tied_y most apart =
    let same : quotient_cmp y.ratio x.ratio ≡ Equal = sym (quotient_total.congr first.ratio y.ratio x.ratio tied_y) ∙ tied_x in
    let le : is_le (ordering_then (quotient_cmp y.ratio x.ratio) (nat_cmp x.index y.index)) ≡ true =
    le_first _ (nat_cmp y.ratio.num x.ratio.num) (le_first _ (nat_cmp y.ratio.den x.ratio.den) most) in
    let up = upto x.index y.index (nat_cmp x.index y.index) (ranks x.index y.index) (ap (λ r. is_le (ordering_then r (nat_cmp x.index y.index))) (sym same) ∙ le) in
    let other : x.index ≡ y.index → ⊥ = λ e. true≢false (sym (eq-eqb x.index y.index e) ∙ apart) in
    omega (arith, other)

abbrev TiedTo : Entry → Entry → Type 0
TiedTo first y = quotient_cmp first.ratio y.ratio ≡ Equal

rising : (first : Entry) (ys : List Entry) → Falls ys → All (TiedTo first) ys → IsDistinct nat_eq (indexes ys) → IsStrictlyIncreasing (indexes ys)
unfolding IsDistinct
rising first [] falls tied d k l = absurd (omega arith)
rising first (x ∷ []) falls tied d k l = absurd (omega arith)
rising first (x ∷ y ∷ ys) falls tied d zero l =
    let rest = All-tail (TiedTo first) x (y ∷ ys) tied in
    by_index first x y (All-head (TiedTo first) x (y ∷ ys) tied) (All-head (TiedTo first) y ys rest) (All-head (AtMost entry_cmp x) y ys falls.0) d.0.0
rising first (x ∷ y ∷ ys) falls tied d (suc k) l =
    let e : suc k + 1 ≡ suc (k + 1) = omega arith in
    let next = rising first (y ∷ ys) falls.1 (All-tail (TiedTo first) x (y ∷ ys) tied) d.1 k (omega arith) in
    subst (λ n. slice_index (indexes (y ∷ ys)) k < slice_index (indexes (x ∷ y ∷ ys)) n) (sym e) next

pub peers_by_index : PeersByIndex
peers_by_index xs ratios distinct = by_top (top xs) refl
  where
    by_top : (o : Option Entry) → top xs ≡ o → IsStrictlyIncreasing (indexes (peers xs))
    by_top None h =
        let empty : peers xs ≡ [] = ap (λ o. option_map_or (λ t. ranked (filter (has_quotient_of t) xs)) o []) h in
        subst (λ ys. IsStrictlyIncreasing (indexes ys)) (sym empty) (λ k l. absurd (omega arith))
    by_top (Some first) h =
        let among = filter (has_quotient_of first) xs in
        let moved = ranked-permutation among in
        let one_quotient : All (TiedTo first) among = λ k d l.
        let z = slice_index_or among k d in
        let c = filter-Contains (has_quotient_of first) xs z (Contains-get_or among k d l) in
        tied first z (fits_first xs ratios first h) (All-at HasRatio xs z ratios c.0) c.1 in
        let apart = IsDistinct-IsPermutation nat_eq nat_eq_equiv.symm (indexes among) (indexes (ranked among)) (IsPermutation-map (λ entry. entry.index) among (ranked among) moved)
        (distinct_filter (has_quotient_of first) xs distinct) in
        subst (λ ys. IsStrictlyIncreasing (indexes ys)) (sym (peers-at_top xs first h))
        (rising first (ranked among) (ranked-falls entry_order among) (All-permutation (TiedTo first) among (ranked among) moved one_quotient) apart)

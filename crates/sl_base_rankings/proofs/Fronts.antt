-- The peers of a table come first in its ranking, and an entry that is taken as the top leaves the rest of it.
use Rattle.std.proofs.Common.{◌≡◌, true, false, List, [], ◌∷◌, length, take, Some, All, IsPermutation, refl, sym, ap, ◌∙◌, inl, inr}
use Rattle.std.specs.Cmp.{Equal-is}
use Rattle.std.specs.List.{filter}
use Rattle.std.specs.declared.cmp.Ordering.{Ordering}
use Rattle.std.specs.declared.cmp.Ordering.TheVariants.{Less, Equal, Greater}
use Rattle.std.specs.Ordering.{nat_cmp, is_le, is_eq, ordering_then}
use Rattle.std.proofs.lemmas.Bool.{cases_Bool, false_from_ne_true, true≢false}
use Rattle.std.proofs.lemmas.List.Elements.{All-cons, All-head, All-tail, All-filter}
use Rattle.std.proofs.lemmas.List.Sorted.{All-permutation}
use Rattle.sl_base_quotients.specs.declared.entry.Entry.{Entry}
use Rattle.sl_base_quotients.specs.Quotient.{FitsRatio, compare}
use Rattle.sl_base_quotients.specs.Entry.{quotient_cmp, entry_cmp}
use Rattle.sl_base_quotients.specs.inner.EntryLaws.{quotient_total, quotient_cmp-positive}
use Rattle.sl_base_rankings.specs.Ranking.{insert_ranked, ranked}
use Rattle.sl_base_rankings.specs.Peers.{top, peers, has_quotient_of}
use Rattle.sl_base_rankings.specs.Laws.{PeersInFront}
use Rattle.sl_base_rankings.proofs.Finding.{Contains-head}
use Rattle.sl_base_rankings.proofs.Greatest.{AtMost, AtMost-self, both_le, not_gt, greatest-is, greatest-Some}
use Rattle.sl_base_rankings.proofs.LawProofs.{order_is_free}
use Rattle.sl_base_rankings.proofs.Orders.{entry_order}
use Rattle.sl_base_rankings.proofs.Rankings.{Falls, counts_alike, ranked-permutation, ranked-falls, ranked-unique}
use Rattle.sl_base_rankings.proofs.Tables.{peers-at_top}

-- ---- rankings

inserted_first : (x : Entry) (xs : List Entry) → All (AtMost entry_cmp x) xs → insert_ranked x xs ≡ x ∷ xs
inserted_first x [] most = refl
inserted_first x (y ∷ ys) most = rw (not_gt (entry_cmp y x) (All-head (AtMost entry_cmp x) y ys most)) refl

-- an entry that is taken as the top leaves the ranking after it
pub ranked_behind : (x : Entry) (xs ys : List Entry) → top xs ≡ Some x → IsPermutation xs (x ∷ ys) → ranked xs ≡ x ∷ ranked ys
ranked_behind x xs ys first h =
    let most = (greatest-Some entry_cmp entry_order xs x first).1 in
    let behind = All-tail (AtMost entry_cmp x) x ys (All-permutation (AtMost entry_cmp x) xs (x ∷ ys) h most) in
    ranked-unique entry_order xs (x ∷ ys) (counts_alike xs (x ∷ ys) h)
    ∙ inserted_first x (ranked ys) (All-permutation (AtMost entry_cmp x) ys (ranked ys) (ranked-permutation ys) behind)

pub ranked-falling : (xs : List Entry) → Falls xs → ranked xs ≡ xs
ranked-falling [] h = refl
ranked-falling (x ∷ xs) h = ap (insert_ranked x) (ranked-falling xs h.1) ∙ inserted_first x xs h.0

-- ---- quotients along a ranking

pub le_first : (r s : Ordering) → is_le (ordering_then r s) ≡ true → is_le r ≡ true
le_first Less s h = refl
le_first Equal s h = refl
le_first Greater s h = cc

pub quotient_at_most : (x y : Entry) → is_le (entry_cmp x y) ≡ true → is_le (quotient_cmp x.ratio y.ratio) ≡ true
quotient_at_most x y h =
    le_first (quotient_cmp x.ratio y.ratio) (nat_cmp y.index x.index) (le_first _ (nat_cmp x.ratio.num y.ratio.num) (le_first _ (nat_cmp x.ratio.den y.ratio.den) h))

abbrev pub HasRatio : Entry → Type 0
HasRatio x = FitsRatio x.ratio

-- between two entries with one quotient are only entries with that quotient
peer_between : (x y z : Entry) → HasRatio x → HasRatio y → HasRatio z → AtMost entry_cmp x y → AtMost entry_cmp y z → has_quotient_of x z ≡ true → has_quotient_of x y ≡ true
peer_between x y z fits_x fits_y fits_z below_x below_y tied =
    let same : quotient_cmp x.ratio z.ratio ≡ Equal = quotient_cmp-positive x.ratio z.ratio fits_x.positive fits_z.positive ∙ (Equal-is (compare x.ratio z.ratio)).0 tied in
    let up = ap is_le (quotient_total.congr x.ratio z.ratio y.ratio same) ∙ quotient_at_most z y below_y in
    let level = both_le (quotient_cmp x.ratio y.ratio) (quotient_cmp y.ratio x.ratio) (quotient_total.antisymm x.ratio y.ratio) up (quotient_at_most y x below_x) in
    ap is_eq (sym (quotient_cmp-positive x.ratio y.ratio fits_x.positive fits_y.positive) ∙ level)

-- ---- the front of a ranking

module _ (x : Entry) (fits : HasRatio x) where
  pub none_behind : (y : Entry) (ys : List Entry) → HasRatio y → AtMost entry_cmp x y → has_quotient_of x y ≡ false → All HasRatio ys → All (AtMost entry_cmp y) ys
      → filter (has_quotient_of x) ys ≡ []
  none_behind y [] fits_y below other ratios most = refl
  none_behind y (z ∷ zs) fits_y below other ratios most =
      let apart = false_from_ne_true (has_quotient_of x z) (λ tied.
      let between = peer_between x y z fits fits_y (All-head HasRatio z zs ratios) below (All-head (AtMost entry_cmp y) z zs most) tied in
      true≢false (sym between ∙ other)) in
      rw apart (none_behind y zs fits_y below other (All-tail HasRatio z zs ratios) (All-tail (AtMost entry_cmp y) z zs most))

  filter_in_front : (ys : List Entry) → Falls ys → All HasRatio ys → All (AtMost entry_cmp x) ys → filter (has_quotient_of x) ys ≡ take (length (filter (has_quotient_of x) ys)) ys
  filter_in_front [] falls ratios most = refl
  filter_in_front (y ∷ ys) falls ratios most =
      let rest = All-tail HasRatio y ys ratios in
      elim (cases_Bool (has_quotient_of x y)) [
        | inl t ↦ rw t (ap (λ zs. y ∷ zs) (filter_in_front ys falls.1 rest (All-tail (AtMost entry_cmp x) y ys most)))
        | inr f ↦
            let none = none_behind y ys (All-head HasRatio y ys ratios) (All-head (AtMost entry_cmp x) y ys most) f rest falls.0 in
            rw (f, none) refl
      ]

falls-filter : (x : Entry) (xs : List Entry) → Falls xs → Falls (filter (has_quotient_of x) xs)
falls-filter x [] h = h
falls-filter x (y ∷ ys) h =
    elim (cases_Bool (has_quotient_of x y)) [
      | inl t ↦ rw t (All-filter (has_quotient_of x) (AtMost entry_cmp y) ys h.0, falls-filter x ys h.1)
      | inr f ↦ rw f (falls-filter x ys h.1)
    ]

falling_peers : (xs : List Entry) → Falls xs → All HasRatio xs → peers xs ≡ take (length (peers xs)) xs
falling_peers [] falls ratios = refl
falling_peers (x ∷ xs) falls ratios =
    let most = All-cons (AtMost entry_cmp x) x xs (AtMost-self entry_cmp entry_order x) falls.0 in
    let first = greatest-is entry_cmp entry_order (x ∷ xs) x (Contains-head x xs) most in
    let listed = peers-at_top (x ∷ xs) x first ∙ ranked-falling (filter (has_quotient_of x) (x ∷ xs)) (falls-filter x (x ∷ xs) falls) in
    listed ∙ filter_in_front x (All-head HasRatio x xs ratios) (x ∷ xs) falls ratios most ∙ ap (λ ps. take (length ps) (x ∷ xs)) (sym listed)

pub peers_in_front : PeersInFront
peers_in_front xs ratios =
    let same = (order_is_free xs (ranked xs) (ranked-permutation xs)).same_peers in
    let held = All-permutation HasRatio xs (ranked xs) (ranked-permutation xs) ratios in
    same ∙ falling_peers (ranked xs) (ranked-falls entry_order xs) held ∙ ap (λ ps. take (length ps) (ranked xs)) (sym same)

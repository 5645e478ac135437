-- The laws of the definitions.
use Rattle.std.proofs.Common.{◌≡◌, ℕ, ◌&&◌, List, [], ◌∷◌, Option, Some, None, slice_get, All, Contains, IsPermutation, MatchOption, IsTrue, nat_eq, refl, sym, ap, subst, ◌∙◌, arith}
use Rattle.std.specs.List.{filter, list_all, list_any}
use Rattle.std.specs.Option.{option_map_or}
use Rattle.std.specs.Ordering.{is_le, is_gt, is_ge}
use Rattle.std.specs.Cmp.{tied_itself}
use Rattle.std.proofs.lemmas.List.Sorted.{IsPermutation-sym, IsPermutation-trans}
use Rattle.std.proofs.lemmas.Bool.{and_from, and_right}
use Rattle.sl_base_quotients.specs.declared.entry.Entry.{Entry}
use Rattle.sl_base_quotients.specs.Entry.{entry_cmp}
use Rattle.sl_base_quotients.specs.inner.EntryLaws.{entry_total}
use Rattle.sl_base_rankings.specs.Ranking.{greatest, ranked}
use Rattle.sl_base_rankings.specs.Peers.{top, peers, has_quotient_of}
use Rattle.sl_base_rankings.specs.Lot.{lot_cmp, drawn}
use Rattle.sl_base_rankings.specs.Laws.{OrderIsFree, LeftAlike, Tops, Rankings, FirstPeers, Draws}
use Rattle.sl_base_rankings.proofs.Finding.{count_by-cons, count_by-filter, count_by-none, some_counted, All-at}
use Rattle.sl_base_rankings.proofs.Greatest.{AtMost, not_gt, greatest-Some, greatest-None, greatest-permutation}
use Rattle.sl_base_rankings.proofs.Orders.{entry_order, lot_order}
use Rattle.sl_base_rankings.proofs.Tables.{has_own_quotient, top-Contains, peers-at_top, stands}
use Rattle.sl_base_rankings.proofs.Rankings.{CountsAlike, counts_alike, ranked-permutation, ranked-sorted, ranked-unique}

filters_alike : (xs ys : List Entry) → CountsAlike xs ys → (first : Option Entry)
    → option_map_or (λ t. ranked (filter (has_quotient_of t) xs)) first [] ≡ option_map_or (λ t. ranked (filter (has_quotient_of t) ys)) first []
filters_alike xs ys same None = refl
filters_alike xs ys same (Some t) =
    ranked-unique entry_order (filter (has_quotient_of t) xs) (filter (has_quotient_of t) ys)
    (λ p. count_by-filter (has_quotient_of t) p xs ∙ same (λ x. has_quotient_of t x && p x) ∙ sym (count_by-filter (has_quotient_of t) p ys))

pub order_is_free : OrderIsFree
order_is_free xs ys h =
    let same_top : top xs ≡ top ys = greatest-permutation entry_cmp entry_order xs ys h in
    let same_peers : peers xs ≡ peers ys =
    ap (λ o. option_map_or (λ t. ranked (filter (has_quotient_of t) xs)) o []) same_top ∙ filters_alike xs ys (counts_alike xs ys h) (top ys) in
    record {
      same_top = same_top;
      same_peers = same_peers;
      same_covers = λ lot. ap (λ ps. list_all (λ peer. list_any (λ named. nat_eq named peer.index) lot) ps) same_peers;
      same_drawn = λ lot. ap (greatest (lot_cmp lot)) same_peers;
    }

pub same_entries : (xs ys : List Entry) → CountsAlike xs ys → IsPermutation xs ys
same_entries xs ys same =
    let back = IsPermutation-sym ys (ranked ys) (ranked-permutation ys) in
    let rest = subst (λ (zs : List Entry). IsPermutation zs ys) (sym (ranked-unique entry_order xs ys same)) back in
    IsPermutation-trans xs (ranked xs) ys (ranked-permutation xs) rest

pub left_alike : LeftAlike
left_alike entry xs ys h =
    same_entries xs ys (λ p.
    let one = count_by-cons p entry xs in
    let other = count_by-cons p entry ys in
    let both = counts_alike (entry ∷ xs) (entry ∷ ys) h p in
    omega (arith, one, other, both))

first_of : (xs : List Entry) (o : Option Entry) → top xs ≡ o → MatchOption o (xs ≡ []) (λ first. Contains xs first × All (λ entry. IsTrue (is_le (entry_cmp entry first))) xs)
first_of xs None h = greatest-None entry_cmp entry_order xs h
first_of xs (Some x) h = greatest-Some entry_cmp entry_order xs x h

pub tops : Tops
tops xs = first_of xs (top xs) refl

pub rankings : Rankings
rankings xs = record { permutation = ranked-permutation xs; falling = ranked-sorted entry_order xs }

first_peer : (xs : List Entry) (o : Option Entry) → top xs ≡ o → slice_get (peers xs) 0 ≡ o
first_peer xs None h = ap (λ o. slice_get (option_map_or (λ t. ranked (filter (has_quotient_of t) xs)) o []) 0) h
first_peer xs (Some t) h =
    let most = (greatest-Some entry_cmp entry_order xs t h).1 in
    let none = count_by-none (λ y. has_quotient_of t y && is_gt (entry_cmp y t)) xs
    (λ y c. and_right (has_quotient_of t y) (is_gt (entry_cmp y t)) (not_gt (entry_cmp y t) (All-at (AtMost entry_cmp t) xs y most c))) in
    let one = some_counted (λ y. has_quotient_of t y && is_ge (entry_cmp y t)) xs t (top-Contains xs t h)
    (and_from (has_quotient_of t t) (is_ge (entry_cmp t t)) (has_own_quotient t) (ap is_ge (tied_itself entry_total t))) in
    ap (λ ps. slice_get ps 0) (peers-at_top xs t h) ∙ stands xs t 0 t (omega (arith, none)) one

pub first_peers : FirstPeers
first_peers xs = first_peer xs (top xs) refl

draw_of : (xs : List Entry) (lot : List ℕ) (o : Option Entry) → drawn lot xs ≡ o
    → MatchOption o (xs ≡ []) (λ peer. Contains (peers xs) peer × All (λ other. IsTrue (is_le (lot_cmp lot other peer))) (peers xs))
draw_of xs lot None h =
    let none = greatest-None (lot_cmp lot) (lot_order lot) (peers xs) h in
    greatest-None entry_cmp entry_order xs (sym (first_peers xs) ∙ ap (λ ps. slice_get ps 0) none)
draw_of xs lot (Some x) h = greatest-Some (lot_cmp lot) (lot_order lot) (peers xs) x h

pub draws : Draws
draws xs lot = draw_of xs lot (drawn lot xs) refl

-- The winners of contested lists, one list more.
use Rattle.std.proofs.Common.{◌≡◌, ℕ, ◌+◌, ◌<◌, List, [], ◌∷◌, ◌++◌, Some, length, take, filter, get_or, arith, sym, ap, subst, ◌∙◌, inl, inr, if◌then◌else◌}
use Rattle.std.specs.Prelude.{flat_map, slice_get}
use Rattle.std.specs.List.{AllZip, enumerate_from}
use Rattle.std.proofs.lemmas.List.{append-nil}
use Rattle.std.proofs.lemmas.List.Concat.{flat_map-append}
use Rattle.std.proofs.lemmas.List.FromFn.{get_or-enumerate_from, length-enumerate_from}
use Rattle.std.proofs.lemmas.Option.{get_or_from_slice_get, slice_get-get_or, slice_get_within}
use Rattle.std.specs.Borrow.{Bor}
use Rattle.std.specs.Fn.{Called, Mut}
use Rattle.std.specs.List.Sorted.{IsPermutation, IsSortedByKeyClosure, IsStableByKeyClosure}
use Rattle.std.specs.Ordering.{nat_cmp}
use Rattle.std.proofs.lemmas.List.Sorted.{answers_always}
use Rattle.sl_report_parties.proofs.Steps.{filter_next}
use Rattle.sl_report_parties.specs.Ranks.{AreByRank, is_contested, winners_of_list}
use Rattle.sl_report_parties.specs.inner.Contests.{AddsContested}
use Rattle.sl_report_parties.specs.declared.contests.Ranked.{Ranked}
use Rattle.sl_law_meaning.specs.declared.book.Cond.{Cond}
use Rattle.sl_law_meaning.specs.declared.table.ListSeats.{ListSeats}
use Rattle.sl_law_meaning.specs.meaning.Tables.{SeatTable}
use Rattle.sl_law_meaning.specs.returns.Election.{Election}
use Rattle.sl_law_meaning.proofs.meaning.Members.{all_and_one}

pub numbered_at : {X : Type 0} (xs : List X) (n : ℕ) (x : X) → slice_get xs n ≡ Some x → slice_get (enumerate_from 0 xs) n ≡ Some (n, x)
numbered_at xs n x there =
    let within : n < length xs = slice_get_within xs n x there in
    slice_get-get_or (enumerate_from 0 xs) n (n, x) (omega (arith, within, length-enumerate_from 0 xs))
    ∙ ap Some (get_or-enumerate_from 0 xs n (n, x) within ∙ ap (λ m. (m, get_or xs n x)) zero_more ∙ ap (λ y. (n, y)) (get_or_from_slice_get xs n x x there))
  where
    zero_more : 0 + n ≡ n
    zero_more = omega arith

module _ (conditions : List Cond) (t : SeatTable) (e : Election) where
  abbrev pub SoFar : List ListSeats → List Ranked → Type 0
  SoFar lists found =
      (each : List (List Ranked)) × AllZip (λ l ws. AreByRank (winners_of_list t e l) ws) (filter (is_contested conditions e) lists) each × (found ≡ flat_map (λ ws. ws) each)

  pub list_more : (lists : List ListSeats) (n : ℕ) (l : ListSeats) (before after : List Ranked) → slice_get lists n ≡ Some l → SoFar (take n lists) before →
      AddsContested conditions t e l before after → SoFar (take (n + 1) lists) after
  list_more lists n l before after there so_far (inl h) =
      let more : filter (is_contested conditions e) (take (n + 1) lists) ≡ filter (is_contested conditions e) (take n lists) =
      filter_next (is_contested conditions e) lists n l there
      ∙ ap (λ b. filter (is_contested conditions e) (take n lists) ++ (if b then l ∷ [] else [])) h.0 ∙ append-nil (filter (is_contested conditions e) (take n lists)) in
      (so_far.0, subst (λ ls. AllZip (λ l ws. AreByRank (winners_of_list t e l) ws) ls so_far.0) (sym more) so_far.1, h.1 ∙ so_far.2)
  list_more lists n l before after there so_far (inr h) =
      let more : filter (is_contested conditions e) (take (n + 1) lists) ≡ filter (is_contested conditions e) (take n lists) ++ l ∷ [] =
      filter_next (is_contested conditions e) lists n l there
      ∙ ap (λ b. filter (is_contested conditions e) (take n lists) ++ (if b then l ∷ [] else [])) h.0 in (
        so_far.0 ++ h.1 ∷ [],
        subst (λ ls. AllZip (λ l ws. AreByRank (winners_of_list t e l) ws) ls (so_far.0 ++ h.1 ∷ [])) (sym more)
            (all_and_one (λ l ws. AreByRank (winners_of_list t e l) ws) (filter (is_contested conditions e) (take n lists)) so_far.0 l h.1 h.2 so_far.1),
        h.3 ∙ ap (λ ws. ws ++ h.1) so_far.2 ∙ ap (λ ws. flat_map (λ ws. ws) so_far.0 ++ ws) (sym (append-nil h.1)) ∙ sym (flat_map-append (λ ws. ws) so_far.0 (h.1 ∷ [])),
      )

-- a stable sort by what a closure gives of each, where that is the rank
pub ranked_order : {F : Type 0} {g : Mut F (Bor Ranked × Unit {0}) ℕ} {f : F} (before after : List Ranked) → IsPermutation before after →
    IsSortedByKeyClosure g nat_cmp f after → IsStableByKeyClosure g nat_cmp f before after →
    ((f : F) (a : Bor Ranked × Unit {0}) (k : ℕ) (f' : F) → Called g f a k f' → k ≡ a.0.now.rank) → AreByRank before after
ranked_order {g = g} {f = f} before after moved up stable keys =
    let computes = answers_always g (λ a k. k ≡ a.0.now.rank) f keys in
    record { all = moved; order = up (λ w. w.rank) computes; ties = stable (λ w. w.rank) computes }

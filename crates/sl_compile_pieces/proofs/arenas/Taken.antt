-- A seat is taken, and the entry's next one put in.
use Rattle.std.proofs.Common.{◌≡◌, ℕ, ◌<◌, List, [], ◌∷◌, ◌++◌, length, Some, slice_index, IsPermutation, refl, sym, ap, subst, ◌∙◌, arith}
use Rattle.std.specs.Prelude.{if◌then◌else◌}
use Rattle.std.specs.List.{range_with_len}
use Rattle.std.proofs.lemmas.Bool.{false_from_ne_true}
use Rattle.std.proofs.lemmas.Option.{slice_get-get_or}
use Rattle.std.proofs.lemmas.List.FromFn.{length-range_with_len, get_or-range_with_len}
use Rattle.std.proofs.lemmas.List.Sorted.{IsPermutation-sym}
use Rattle.sl_law_meaning.specs.laws.Ladders.{RaisesEach}
use Rattle.sl_law_meaning.proofs.meaning.ChangedPieces.{ChangesPiece, changes_piece}
use Rattle.sl_base_rankings.proofs.RankedEntries.{ranked_alike, ranked_with_one_more, ranked_without_one}
use Rattle.sl_compile_pieces.specs.arenas.Arenas.{Arena, seat_of, next_seat, waiting}
use Rattle.sl_compile_pieces.specs.arenas.Laws.{WaitingTaken}
use Rattle.sl_compile_pieces.proofs.arenas.Pieces.{number_is, not_it}

module _ (a : Arena) (i : ℕ) (t u : List ℕ) (within : i < length a.places) (raised : RaisesEach (i ∷ []) t u) where
  pub changed : ChangesPiece (next_seat a t) (next_seat a u) (range_with_len 0 (length a.places)) i
  changed =
      let n : ℕ = length a.places in
      changes_piece (next_seat a t) (next_seat a u) (range_with_len 0 n) i i
      (slice_get-get_or (range_with_len 0 n) i i (omega (arith, length-range_with_len 0 n, within)) ∙ ap Some (omega (arith, get_or-range_with_len 0 n i i within))) (λ j y at other.
      let is = (number_is n j y at).0 in
      let same : slice_index u y ≡ slice_index t y = raised.others y (not_it i y (λ e. other (sym is ∙ e))) in
      ap (λ held. if a.ladders.has y held then seat_of a y held ∷ [] else []) (sym same))

pub waiting_taken : WaitingTaken
waiting_taken most a i t u arena has raised =
    let change = changed a i t u (omega (arith, arena.falling.within i (slice_index t i) has)) raised in
    let here : next_seat a t i ≡ seat_of a i (slice_index t i) ∷ [] = rw has refl in
    let before : IsPermutation (waiting a t) (seat_of a i (slice_index t i) ∷ change.rest) = subst (λ ys. IsPermutation (waiting a t) (ys ++ change.rest)) here change.before in
    let after : IsPermutation (next_seat a u i ++ change.rest) (waiting a u) = IsPermutation-sym (waiting a u) (next_seat a u i ++ change.rest) change.after in
    record {
      others = change.rest;
      before = before;
      after = after;
      taken = ranked_without_one (seat_of a i (slice_index t i)) (waiting a t) change.rest before;
      goes_on = λ more.
          let next : next_seat a u i ≡ seat_of a i (slice_index u i) ∷ [] = rw more refl in
          sym (ranked_with_one_more (seat_of a i (slice_index u i)) change.rest (waiting a u) (subst (λ ys. IsPermutation (ys ++ change.rest) (waiting a u)) next after));
      ends = λ none.
          let next : next_seat a u i ≡ [] = rw (false_from_ne_true (a.ladders.has i (slice_index u i)) none) refl in
          ranked_alike change.rest (waiting a u) (subst (λ ys. IsPermutation (ys ++ change.rest) (waiting a u)) next after);
    }

-- Seats, one list or one winner more.
use Rattle.std.proofs.Common.{◌≡◌, ℕ, ◌+◌, ◌<◌, ◌≤◌, ◌&&◌, Bool, true, false, List, Some, length, take, get_or, map, count_by, arith, refl, ap, ◌∙◌}
use Rattle.std.specs.Prelude.{sum_by, slice_get, min, if◌then◌else◌}
use Rattle.std.specs.List.{range_with_len, zip}
use Rattle.std.proofs.lemmas.List.{take_all}
use Rattle.std.proofs.lemmas.List.FromFn.{fill_by_all}
use Rattle.std.proofs.lemmas.List.Sums.{sum_by_more}
use Rattle.std.proofs.lemmas.Option.{slice_get-get_or}
use Rattle.std.proofs.lemmas.Slice.Zip.{length-zip}
use Rattle.sl_law_meaning.specs.declared.election.Win.{Win}
use Rattle.sl_law_meaning.specs.declared.table.Placed.{Placed}
use Rattle.sl_law_meaning.specs.returns.Facts.{is_of}
use Rattle.sl_law_meaning.specs.declared.table.ListSeats.{ListSeats}
use Rattle.sl_report_parties.specs.Seats.{is_seated, is_single, of_lists}
use Rattle.sl_report_parties.specs.Sums.{one_if, capped}
use Rattle.sl_report_parties.specs.declared.seats.Seats.{Seats}
use Rattle.sl_report_parties.specs.inner.PartySeats.{AreSeats, IsWith, capped_seats, seats_by, seats_placed, with_more}
use Rattle.sl_report_parties.proofs.WinnerPlaces.{at_party}
use Rattle.sl_report_parties.proofs.Steps.{count_next, zip_at}

pub item_step : {X : Type 0} (f : X → ℕ) (xs : List X) (i : ℕ) (d : X) (base before after : ℕ) → i < length xs → before ≡ capped (base + sum_by f (take i xs)) → after ≡ capped (before + f (get_or xs i d)) →
    after ≡ capped (base + sum_by f (take (i + 1) xs))
item_step f xs i d base before after within so_far more = omega (arith, so_far, more, sum_by_more f xs i d within)

pub item_end : {X : Type 0} (f : X → ℕ) (xs ys : List X) (i base n : ℕ) → xs ≡ ys → length xs ≤ i → n ≡ capped (base + sum_by f (take i xs)) → n ≡ capped (base + sum_by f ys)
item_end f xs ys i base n same past is = is ∙ ap (λ zs. capped (base + sum_by f zs)) (take_all i xs past ∙ same)

-- ---- the seats of each party

if_both : (a b : Bool) → one_if (a && b) ≡ (if a then one_if b else 0)
if_both true b = refl
if_both false b = refl

grown : (t : Bool) (a d v more_a more_d : ℕ) (more : Seats) → more_a ≡ a + (if t then more.seats else 0) → more_d ≡ d + (if t then more.direct else 0) → more.vacant ≡ 0 →
    (if t then capped_seats (capped a + more.seats) (capped d + more.direct) (capped v + more.vacant) else capped_seats a d v) ≡ capped_seats more_a more_d v
grown true a d v more_a more_d more seats direct none =
    let x : capped (capped a + more.seats) ≡ capped more_a = omega (arith, seats) in
    let y : capped (capped d + more.direct) ≡ capped more_d = omega (arith, direct) in
    let z : capped (capped v + more.vacant) ≡ capped v = omega (arith, none) in
    λ i. record { seats = x i; direct = y i; vacant = z i }
grown false a d v more_a more_d more seats direct none =
    let x : capped a ≡ capped more_a = omega (arith, seats) in
    let y : capped d ≡ capped more_d = omega (arith, direct) in
    λ i. record { seats = x i; direct = y i; vacant = capped v }

module _ (parties : ℕ) (lists : List ListSeats) (wins : List Win) (places : List Placed) (i : ℕ) where
  pub winner_added : (w : Win) (d : Placed) (more : Seats) (before after : List Seats) → slice_get wins i ≡ Some w → i < length places → more ≡ seats_placed (get_or places i d) →
      AreSeats parties lists (take i (zip wins places)) before → IsWith w.party more before after → AreSeats parties lists (take (i + 1) (zip wins places)) after
  winner_added w d more before after at_win within is so_far added = record {
    long = added.long ∙ so_far.long;
    each = λ k s less.
        added.each k s (omega (arith, less, so_far.long)) ∙ ap (λ m. with_more w.party m k (get_or before k s)) is ∙ ap (with_more w.party (seats_placed place) k) (so_far.each k s less)
        ∙ ap (λ b. if b then grown_by (seats_by lists (take i (zip wins places)) k) else seats_by lists (take i (zip wins places)) k) (at_party k w)
        ∙ grown (is_of k w) (of_lists (λ l. l.seats) k lists + counted k is_single i) (counted k is_seated i) (of_lists (λ l. l.vacant) k lists)
        (of_lists (λ l. l.seats) k lists + counted k is_single (i + 1)) (counted k is_seated (i + 1)) (seats_placed place)
        (omega (arith, next k is_single)) (omega (arith, next k is_seated)) refl;
  }
    where
      place : Placed
      place = get_or places i d

      grown_by : Seats → Seats
      grown_by s = let more = seats_placed place in capped_seats (s.seats + more.seats) (s.direct + more.direct) (s.vacant + more.vacant)

      counted : ℕ → (Placed → Bool) → ℕ → ℕ
      counted k test n = count_by (λ x. is_of k x.0 && test x.1) (take n (zip wins places))

      next : (k : ℕ) (test : Placed → Bool) → counted k test (i + 1) ≡ counted k test i + (if is_of k w then one_if (test place) else 0)
      next k test =
          count_next (λ x. is_of k x.0 && test x.1) (zip wins places) i (w, place) (is_of k w && test place) (zip_at wins places i w place at_win (slice_get-get_or places i d within)) refl
          ∙ ap (λ n. counted k test i + n) (if_both (is_of k w) (test place))

  pub all_added : (given : List Placed) (d : Seats) (all : List Seats) → given ≡ places → min (length wins) (length given) ≤ i → AreSeats parties lists (take i (zip wins given)) all →
      all ≡ map (seats_by lists (zip wins places)) (range_with_len 0 parties)
  all_added given d all same past are = fill_by_all (seats_by lists (zip wins places)) all parties d are.long (λ k less.
      are.each k d less ∙ ap (λ xs. seats_by lists xs k) (take_all i (zip wins given) (omega (arith, past, length-zip wins given)) ∙ ap (zip wins) same))

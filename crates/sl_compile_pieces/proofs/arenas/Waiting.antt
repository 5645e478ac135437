-- Which seats wait.
use Rattle.std.proofs.Common.{◌≡◌, ℕ, ◌<◌, ◌≤◌, Bool, true, List, length, All, Contains, get_or, sym, subst, arith}
use Rattle.std.specs.Prelude.{slice_index}
use Rattle.std.specs.List.{range_with_len}
use Rattle.sl_base_quotients.specs.declared.entry.Entry.{Entry}
use Rattle.std.proofs.lemmas.List.Elements.{Contains-get_or}
use Rattle.sl_base_rankings.proofs.Fronts.{HasRatio}
use Rattle.sl_compile_pieces.specs.arenas.Arenas.{Arena, IsArena, seat_of, waiting}
use Rattle.sl_compile_pieces.proofs.arenas.Pieces.{piece_there, piece_of, below_there}

module _ (a : Arena) (t : List ℕ) where
  -- whether entry i has a next seat, and that seat
  abbrev pub has_next : ℕ → Bool
  has_next i = a.ladders.has i (slice_index t i)

  abbrev pub next_of : ℕ → Entry
  next_of i = seat_of a i (slice_index t i)

  module _ (most : ℕ) (arena : IsArena most a) where
    pub within : (i : ℕ) → has_next i ≡ true → i < length a.places
    within i h = let l = arena.falling.within i (slice_index t i) h in let long = arena.long in omega (arith, l, long)

    pub seat_waits : (i : ℕ) → has_next i ≡ true → Contains (waiting a t) (next_of i)
    seat_waits i h = piece_there has_next next_of (range_with_len 0 (length a.places)) i (below_there (length a.places) i (within i h)) h

    pub seat_waiting : (x : Entry) → Contains (waiting a t) x → (i : ℕ) × (has_next i ≡ true) × (x ≡ next_of i)
    seat_waiting x c = let p = piece_of has_next next_of (range_with_len 0 (length a.places)) x c in (p.0, p.2, p.3)

    module _ (few : (i : ℕ) → slice_index t i ≤ most) where
      pub seat_fits : (i : ℕ) → has_next i ≡ true → HasRatio (next_of i)
      seat_fits i h = arena.fits i (slice_index t i) h (few i)

      pub all_fit : All HasRatio (waiting a t)
      all_fit k d l =
          let p = seat_waiting (get_or (waiting a t) k d) (Contains-get_or (waiting a t) k d l) in
          subst HasRatio (sym p.2) (seat_fits p.0 p.1)

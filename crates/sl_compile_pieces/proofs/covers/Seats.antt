-- The awards of a list: a seat places a winner on it.
use Rattle.std.proofs.Common.{◌≡◌, ◌≢◌, ℕ, ◌+◌, ◌<◌, ◌≤◌, Bool, true, List, [], ◌∷◌, ◌++◌, map, min, sum, length, Some, slice_get, slice_index, refl, sym, ap, subst, ◌∙◌, inl, inr, arith}
use Rattle.std.specs.Prelude.{codes}
use Rattle.std.specs.List.Sorted.{IsStrictlyIncreasing}
use Rattle.std.proofs.lemmas.List.{length-map}
use Rattle.std.proofs.lemmas.List.Elements.{All-map}
use Rattle.sl_law_meaning.specs.declared.fault.Item.TheVariants as item
use Rattle.sl_law_meaning.specs.declared.election.Win.{Win}
use Rattle.sl_law_meaning.specs.declared.table.Placed.TheVariants as placed
use Rattle.sl_law_meaning.specs.returns.Election.{Election, IsElection, wins_of, has_list}
use Rattle.sl_law_meaning.specs.returns.Facts.{list_cell}
use Rattle.sl_law_meaning.specs.methods.Ties.{Decided}
use Rattle.sl_law_meaning.specs.meaning.Scopes.{place}
use Rattle.sl_law_meaning.specs.meaning.Lots.{seats_lot}
use Rattle.sl_law_meaning.specs.meaning.Seating.{winner_items, seated_on, cover_place}
use Rattle.sl_law_meaning.specs.laws.Awards.{CoveringTops}
use Rattle.sl_law_meaning.proofs.methods.CoveringProofs.{covering_ladders_law}
use Rattle.sl_law_meaning.proofs.methods.RaisedSeats.{Contains-head, Contains-cases, Contains-none}
use Rattle.sl_law_meaning.proofs.methods.SeatSums.{sum_zeros}
use Rattle.sl_code_instructions.specs.Codes.{CountingCode}
use Rattle.sl_code_instructions.specs.declared.instr.Instr.TheVariants.{Seat}
use Rattle.sl_code_instructions.specs.declared.operand.Entries.TheVariants as entries
use Rattle.sl_code_semantics.specs.declared.known.TheConstants.{LAST_CLAUSE}
use Rattle.sl_code_semantics.specs.State.{State, with_place}
use Rattle.sl_code_semantics.specs.Places.{item_of}
use Rattle.sl_code_semantics.specs.Drawn.{lot_of}
use Rattle.sl_code_semantics.specs.SameLots.{SameLot, AreEntries}
use Rattle.sl_code_semantics.proofs.drawing.LotProofs.{same_lots}
use Rattle.sl_code_semantics.proofs.effects.Records.{seat_does}
use Rattle.sl_compile_plans.specs.Trees.{Line}
use Rattle.sl_compile_plans.proofs.Rules.{line_ends, line_goes}
use Rattle.sl_compile_pieces.proofs.seats.Lists.{mapped_at}
use Rattle.sl_compile_pieces.specs.arenas.Arenas.{Arena, IsArena, HasWaiting, table_of, seat_taken}
use Rattle.sl_compile_pieces.proofs.arenas.MethodArenas.{covering_arenas}
use Rattle.sl_compile_pieces.proofs.arenas.TableEffects.{waiting_again}
use Rattle.sl_compile_pieces.specs.inner.awards.Batches.{Gets, GivesSeats}
use Rattle.sl_compile_pieces.specs.inner.awards.Awards.{CanAward, IsCounted, FitsAwards}
use Rattle.sl_compile_pieces.proofs.covers.Winners.{IsWinnerOf, each_winner, won, arena, has_first, next_winner}
use Rattle.sl_compile_pieces.proofs.covers.Chosen.{one_chosen, place_more}

-- who is placed where, when the winners of the list hold these seats
abbrev pub AreSeated : (ℕ → Bool) → Election → ℕ × ℕ → List ℕ → List ℕ → State → Type 0
AreSeated eligible e l earlier s t = (n : ℕ) (w : Win) → slice_get e.wins n ≡ Some w → t.placed n ≡ cover_place (earlier ++ seated_on eligible e (l, Decided s)) (n, w)

-- the winners of a list as entries of the table
abbrev pub listed : (ℕ → Bool) → Election → ℕ × ℕ → Arena
listed eligible e l = arena (won eligible e l)

-- the lot among them
abbrev pub meant : (ℕ → Bool) → Election → ℕ × ℕ → List ℕ
meant eligible e l = seats_lot e (winner_items eligible e l.0 l.1)

-- so many of them get a seat
abbrev pub to_give : (ℕ → Bool) → Election → List ℕ → ℕ × ℕ → ℕ
to_give eligible e base l = min (list_cell e base l.0 l.1) (length (won eligible e l))

module _ (eligible : ℕ → Bool) (e : Election) (base : List ℕ) (l : ℕ × ℕ) (is : IsElection e) where
  abbrev a : Arena
  a = listed eligible e l

  abbrev seats : ℕ
  seats = to_give eligible e base l

  pub is_arena : IsArena (seats + 1) a
  is_arena = covering_arenas eligible e is l.0 l.1 (seats + 1)

  pub tops : CoveringTops (map (λ x. x.1.first) (won eligible e l)) (map (λ x. x.1.valid) (won eligible e l))
  tops =
      covering_ladders_law (map (λ x. x.1.first) (won eligible e l)) (map (λ x. x.1.valid) (won eligible e l))
      (λ i less. is_arena.falling.positive i 0 (has_first (won eligible e l) i (omega (arith, less, length-map (won eligible e l) (λ x. x.1.first)))))

  items_placed : (winners : List (ℕ × Win)) → map (place e) (map (λ x. item.Win x.0) winners) ≡ map (λ x. x.0) winners
  items_placed [] = refl
  items_placed (y ∷ winners) = ap (λ ns. y.0 ∷ ns) (items_placed winners)

  are_entries : AreEntries e entries.Win (winner_items eligible e l.0 l.1)
  are_entries = record {
    items_of = All-map (λ i. item_of e entries.Win (place e i) ≡ i) (λ x. item.Win x.0) (won eligible e l) (λ k d less. refl);
    increasing = subst IsStrictlyIncreasing (sym (items_placed (won eligible e l))) is_arena.increasing;
  }

  same_lot : SameLot (lot_of e entries.Win (codes "seats")) (meant eligible e l) a.places
  same_lot =
      subst (λ ns. SameLot (lot_of e entries.Win (codes "seats")) (meant eligible e l) ns) (items_placed (won eligible e l))
      (same_lots e is (codes "seats") entries.Win (winner_items eligible e l.0 l.1) are_entries)

  pub no_seats_yet : sum a.ladders.base ≡ 0
  no_seats_yet = sum_zeros (length (map (λ x. x.1.first) (won eligible e l)))

  pub can_award : (c : CountingCode) → length (won eligible e l) ≤ wins_of e → CanAward c e a (seats + 1) seats LAST_CLAUSE (meant eligible e l)
  can_award c few =
      let long : length (map {B = ℕ} (λ x. x.1.first) (won eligible e l)) ≡ length (won eligible e l) = length-map (won eligible e l) (λ x. x.1.first) in
      record {
        arena = is_arena;
        few = omega arith;
        countable = omega (arith, few);
        enough = (let none = no_seats_yet in omega (arith, none));
        room = tops.room seats (omega (arith, long));
        name = codes "seats";
        named = refl;
        same_lot = same_lot;
      }

  -- ---- a seat

  module _ (earlier : List ℕ) where
    abbrev Seated : List ℕ → State → Type 0
    Seated = AreSeated eligible e l earlier

    module _ (s peers given t u : List ℕ) (i : ℕ) (gets : Gets a s peers given t u i) (y : ℕ × Win) (at : slice_get (won eligible e l) i ≡ Some y) (none : slice_index t i ≡ 0) where
      raised : slice_index u i ≡ 1
      raised = let more : slice_index u i ≡ slice_index t i + 1 = gets.raised.raised i (Contains-head i []) in omega (arith, more, none)

      -- the winner of that number gets the seat
      seated_next : (before : State) → Seated t before → Seated u (with_place y.0 placed.OnList before)
      seated_next before h =
          let within : i < length t = (let short = is_arena.falling.within i (slice_index t i) gets.has in omega (arith, short)) in
          let others : (j : ℕ) → j ≢ i → slice_index u j ≡ slice_index t j =
          (λ j other. gets.raised.others j (λ c. elim (Contains-cases i [] j c) [ inl same ↦ other (sym same) | inr nothing ↦ Contains-none j nothing ])) in
          λ n w there.
          place_more earlier (seated_on eligible e (l, Decided u)) (seated_on eligible e (l, Decided t)) y.0 n w (before.placed n)
          (one_chosen (won eligible e l) t u i y at within gets.raised.same_length none raised others n) (h n w there)

      -- and has no other
      waits_again : (after : State) → after.table ≡ Some (table_of a gets.taken.others) → HasWaiting a u after
      waits_again after holds =
          (waiting_again a i t u after gets.taken holds).ended (λ more. let next = (next_winner (won eligible e l) i (slice_index u i) more).2 in omega (arith, next, raised))

    pub seats_are_given : (c : CountingCode) → GivesSeats c e a (seats + 1) (IsCounted a seats) Seated (Line (Seat ∷ []))
    seats_are_given c = record {
      gives = λ s peers given t u i state gets bound begun one waits h.
          let now : State = seat_taken e a i (slice_index t i) gets.taken.others state in
          let next = next_winner (won eligible e l) i (slice_index t i) gets.has in
          let y : ℕ × Win = next.0 in
          let winner : IsWinnerOf eligible e l y = each_winner eligible e l i y next.1 in
          let number : slice_index a.places i ≡ y.0 = mapped_at (λ x. x.0) (won eligible e l) i y next.1 in
          let on_list : has_list e y.1.land l.1 ≡ true = ap (λ (n : ℕ). has_list e n l.1) winner.land ∙ winner.listed in
          line_goes (seat_does c e now y.0 (ap Some number) y.1 winner.there l.1 winner.party on_list)
          (line_ends (
            waits_again s peers given t u i gets y next.1 next.2 (with_place y.0 placed.OnList now) refl,
            seated_next s peers given t u i gets y next.1 next.2 now h,
          ));
    }

    pub seats_fit : FitsAwards Seated (Line (Seat ∷ []))
    seats_fit = record {
      keeps = refl;
      blind = λ r of t value s h. h;
    }

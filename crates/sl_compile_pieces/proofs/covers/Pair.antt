-- The plan of a contested pair of a Land and a party: the winners of its list are seated by their shares.
use Rattle.std.proofs.Common.{◌≡◌, ℕ, zero, suc, ◌+◌, ◌-◌, ◌*◌, ◌<◌, ◌≤◌, Bool, true, min, List, [], ◌∷◌, ◌++◌, length, Some, slice_get, refl, sym, ap, ◌∙◌, arith}
use Rattle.std.proofs.lemmas.List.{append-nil}
use Rattle.sl_law_meaning.specs.declared.election.Win.{Win}
use Rattle.sl_law_meaning.specs.returns.Election.{Election, IsElection, lands_of, parties_of, wins_of}
use Rattle.sl_law_meaning.specs.returns.Facts.{list_cell}
use Rattle.sl_law_meaning.specs.methods.Ties.{Decided}
use Rattle.sl_law_meaning.specs.meaning.Seating.{IsSeating, seated_on, cover_place}
use Rattle.sl_code_instructions.specs.Codes.{CountingCode}
use Rattle.sl_code_instructions.specs.declared.instr.Instr.TheVariants.{Seat}
use Rattle.sl_code_instructions.specs.declared.operand.Entries.TheVariants as entries
use Rattle.sl_code_instructions.specs.declared.operand.Ranking.TheVariants as ranking
use Rattle.sl_code_semantics.specs.declared.known.TheConstants.{LAST_CLAUSE}
use Rattle.sl_base_rankings.specs.Ranking.{ranked}
use Rattle.sl_code_semantics.specs.State.{State, with_register}
use Rattle.sl_code_semantics.specs.Effects.{most, with_table}
use Rattle.sl_compile_plans.specs.declared.plan.Bound.TheVariants as bound
use Rattle.sl_compile_plans.specs.declared.plan.Cursor.TheVariants as cursor
use Rattle.sl_compile_plans.specs.Trees.{Line, Then, Each, ones}
use Rattle.sl_compile_plans.specs.Achieves.{Achieves}
use Rattle.sl_compile_plans.proofs.Rules.{then_achieves, goes_as, achieves_so, achieves_never}
use Rattle.sl_compile_plans.proofs.KeepingRules.{achieves_kept, achieves_keeping}
use Rattle.sl_compile_pieces.specs.arenas.Arenas.{HasWaiting}
use Rattle.sl_compile_pieces.specs.declared.registers.TheConstants as reg
use Rattle.sl_compile_pieces.specs.awards.Trees.{awards}
use Rattle.sl_compile_pieces.proofs.awards.Awards.{awards_achieve}
use Rattle.sl_compile_pieces.specs.covers.Trees.{CoverSlots, see_winner, seats_to_give, tied_winners, cover_pair}
use Rattle.sl_compile_pieces.specs.covers.Covering.{HasCoverSlots}
use Rattle.sl_compile_pieces.proofs.covers.Contested.{is_contested, contested_before, before_few, number_contested_is}
use Rattle.sl_compile_pieces.proofs.covers.Numbers.{pairs_countable}
use Rattle.sl_compile_pieces.proofs.covers.Winners.{won, nothing_held, all_wait}
use Rattle.sl_compile_pieces.proofs.covers.Entering.{AreRead, AreEntered, table_with}
use Rattle.sl_compile_pieces.proofs.covers.Seeing.{winners_enter}
use Rattle.sl_compile_pieces.proofs.covers.Chosen.{none_chosen}
use Rattle.sl_compile_pieces.proofs.covers.Seats.{AreSeated, listed, meant, to_give, tops, no_seats_yet, can_award, seats_are_given, seats_fit}
use Rattle.sl_compile_pieces.proofs.covers.Ties.{EndsInListTie, ties_end}
use Rattle.sl_compile_pieces.proofs.facts.Holding.{place_within}

-- the winners of the list are seated as chosen
pub record IsListSeated (eligible : ℕ → Bool) (e : Election) (base : List ℕ) (l : ℕ × ℕ) (earlier : List ℕ) (t : State) : Type 0 where
  pub s : List ℕ
  pub choice : IsSeating eligible e base l (Decided s)
  pub placed : (n : ℕ) (w : Win) → slice_get e.wins n ≡ Some w → t.placed n ≡ cover_place (earlier ++ seated_on eligible e (l, Decided s)) (n, w)

-- the smaller one of two numbers, of which the second may be unknown where the first is 0
smaller : (n left seats : ℕ) → (0 < n → left ≡ seats) → n - (n - left) ≡ min seats n
smaller zero left seats known = omega arith
smaller (suc n) left seats known = let same = known (omega arith) in omega (arith, same)

module _ (c : CountingCode) (e : Election) (x : CoverSlots) (eligible : ℕ → Bool) (base : List ℕ) (l : ℕ × ℕ) (is : IsElection e) (slots : HasCoverSlots c x) (in_land : l.0 < lands_of e)
    (in_party : l.1 < parties_of e) (earlier : List ℕ) where
  -- the list's seats are awarded
  list_awarded : (t : State) → length (won eligible e l) ≤ wins_of e → t.table ≡ Some (table_with (won eligible e l)) → t.registers reg.LEFT ≡ to_give eligible e base l →
      ((n : ℕ) (w : Win) → slice_get e.wins n ≡ Some w → t.placed n ≡ cover_place earlier (n, w)) →
      Achieves c e (awards LAST_CLAUSE bound.Wins tied_winners (Line (Seat ∷ []))) t (IsListSeated eligible e base l earlier) (EndsInListTie c eligible e base l)
  list_awarded t few table left before =
      let a = listed eligible e l in
      let seats : ℕ = to_give eligible e base l in
      let waits : HasWaiting a a.ladders.base t =
      table ∙ ap (λ ys. Some (record { entries = entries.Win; ranking = ranking.Quotients; contents = ranked ys })) (all_wait (won eligible e l)) in
      let nobody : earlier ++ seated_on eligible e (l, Decided a.ladders.base) ≡ earlier =
      ap (λ ks. earlier ++ ks) (none_chosen (won eligible e l) a.ladders.base (nothing_held (won eligible e l))) ∙ append-nil earlier in
      let first : AreSeated eligible e l earlier a.ladders.base t = (λ n w at. before n w at ∙ (λ z. cover_place (sym nobody z) (n, w))) in
      achieves_so
      (awards_achieve c e a (seats + 1) seats LAST_CLAUSE (meant eligible e l) bound.Wins tied_winners (Line (Seat ∷ []))
      (AreSeated eligible e l earlier) (EndsInListTie c eligible e base l) t
      (can_award eligible e base l is c few) (seats_are_given eligible e base l is earlier c) (ties_end eligible e base l is c earlier) (seats_fit eligible e base l is earlier) waits first
      (omega (arith, left, no_seats_yet eligible e base l is)) (omega (arith, left, few)))
      (λ u h. record { s = h.s; choice = ((tops eligible e base l is).choice seats (meant eligible e l) (Decided h.s)).0 h.choice; placed = h.held })

  -- from the table with all winners on
  entered_awarded : (t : State) → AreEntered e x eligible base l (wins_of e) (won eligible e l) t →
      ((n : ℕ) (w : Win) → slice_get e.wins n ≡ Some w → t.placed n ≡ cover_place earlier (n, w)) →
      Achieves c e (Then seats_to_give (awards LAST_CLAUSE bound.Wins tied_winners (Line (Seat ∷ [])))) t (IsListSeated eligible e base l earlier) (EndsInListTie c eligible e base l)
  entered_awarded t h before =
      let total : ℕ = t.registers reg.TOTAL in
      let left : ℕ = t.registers reg.LEFT in
      let last : State = with_register reg.LEFT (total - (total - left)) (with_register reg.LEFT total (with_register reg.FIRST_PASSING (total - left) (with_register reg.FIRST_PASSING total t))) in
      let to : total - (total - left) ≡ to_give eligible e base l = (λ z. h.total z - (h.total z - left)) ∙ smaller (length (won eligible e l)) left (list_cell e base l.0 l.1) h.left in
      goes_as (list_awarded last h.few h.table to before) refl

  -- the whole plan
  pub pair_covered : (t : State) → AreRead e x eligible base t.columns → is_contested e eligible base (l.0 * parties_of e + l.1) ≡ true →
      t.registers reg.AMOUNT ≡ contested_before e eligible base (l.0 * parties_of e + l.1) →
      ((n : ℕ) (w : Win) → slice_get e.wins n ≡ Some w → t.placed n ≡ cover_place earlier (n, w)) →
      Achieves c e (cover_pair x) t (λ u. IsListSeated eligible e base l earlier u × (u.registers reg.AMOUNT ≡ contested_before e eligible base (l.0 * parties_of e + l.1) + 1)) (EndsInListTie c eligible e base l)
  pair_covered t read contested amount placed =
      let place : ℕ = l.0 * parties_of e + l.1 in
      let more : ℕ = min (t.registers reg.AMOUNT + 1) most in
      let counted_one : State = with_register reg.LEFT 0 (with_register reg.TOTAL 0 (with_register reg.AMOUNT more (with_register ones 1 t))) in
      let begun : State = with_table (record { entries = entries.Win; ranking = ranking.Quotients; contents = [] }) counted_one in
      let counted : more ≡ contested_before e eligible base place + 1 =
      (let within = place_within e l.0 l.1 in_party in_land in
      omega (arith, amount, within, pairs_countable e is, before_few e eligible base place)) in
      let after : Achieves c e (Then (Each cursor.Win (see_winner x)) (Then seats_to_give (awards LAST_CLAUSE bound.Wins tied_winners (Line (Seat ∷ []))))) begun
      (IsListSeated eligible e base l earlier) (EndsInListTie c eligible e base l) =
      then_achieves
      (achieves_never
      (achieves_kept (winners_enter c e x eligible base l is slots in_land in_party contested begun read (counted ∙ sym (number_contested_is e eligible base place contested)) refl refl)))
      (λ u h. entered_awarded u h.0 (λ n w at. h.1.placed refl n ∙ placed n w at)) in
      goes_as (achieves_keeping after (λ u h kept. (h, kept.registers reg.AMOUNT refl ∙ counted))) refl

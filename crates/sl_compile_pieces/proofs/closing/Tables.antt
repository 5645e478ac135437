-- The table that the book means stands in what is held: its lists, line by line, and its places.
use Rattle.std.proofs.Common.{◌≡◌, ℕ, ◌+◌, ◌-◌, ◌*◌, ◌<◌, ◌≤◌, List, length, map, replicate, slice_index, Option, None, Some, refl, sym, ap, ◌∙◌, inl, inr, arith}
use Rattle.std.specs.List.{range_with_len}
use Rattle.std.proofs.lemmas.Bool.{cases_lt}
use Rattle.std.proofs.lemmas.List.{length-replicate, get_or-replicate, get_or_past}
use Rattle.sl_base_terms.specs.declared.shape.Shape.TheVariants as shape
use Rattle.sl_law_meaning.specs.declared.election.ListVotes.{ListVotes}
use Rattle.sl_law_meaning.specs.declared.table.Placed.{Placed}
use Rattle.sl_law_meaning.specs.book.Trees.{BookTree}
use Rattle.sl_law_meaning.specs.book.Typing.{Column}
use Rattle.sl_law_meaning.specs.returns.Election.{Election, lands_of, parties_of, wins_of, list_at}
use Rattle.sl_law_meaning.specs.returns.Facts.{list_cell, list_winners}
use Rattle.sl_law_meaning.specs.returns.Votes.{slate_in}
use Rattle.sl_law_meaning.specs.meaning.Means.{Known}
use Rattle.sl_law_meaning.specs.meaning.Seating.{placed_on, vacant_of as vacant_by, table_line, table_of}
use Rattle.sl_law_meaning.specs.laws.MeaningLaws.{IsListOf}
use Rattle.sl_law_meaning.proofs.meaning.EachList.{each_list_agree}
use Rattle.sl_code_instructions.specs.Codes.{CountingCode}
use Rattle.sl_code_semantics.specs.State.{State}
use Rattle.sl_code_semantics.specs.Effects.{most, from_lists, names_or_most}
use Rattle.sl_code_semantics.specs.Memories.{column_of, vacant_of, held_of}
use Rattle.sl_code_semantics.specs.Tables.{held_line}
use Rattle.sl_compile_pieces.proofs.facts.Holding.{place_within, list_told}
use Rattle.sl_compile_pieces.specs.exprs.Slots.{winners_slot, vacant_seats, HasBookSlots}
use Rattle.sl_compile_pieces.specs.closing.Trees.{final_seats, vacant_slot}
use Rattle.sl_compile_pieces.specs.closing.Closing.{HasClosed}
use Rattle.sl_compile_pieces.proofs.closing.Cells.{list_cell_held}
use Rattle.sl_compile_pieces.proofs.closing.Seated.{HasSeated}
use Rattle.sl_compile_pieces.proofs.closing.Vacancies.{HasVacant}

-- ---- what is said of each list

-- ---- vacant seats

-- a list of zeros has 0 everywhere
no_seats : (n i : ℕ) → slice_index (replicate n 0) i ≡ 0
no_seats n i = elim (cases_lt i n) [
  | inl within ↦ get_or-replicate n i 0 0 within
  | inr past ↦ get_or_past (replicate n 0) i 0 (omega (arith, past, length-replicate {A = ℕ} n 0))
]

-- what names leave, where they are given, and nothing where they are not
names_leave : (at : ℕ) (o : Option ListVotes) (seats direct won : ℕ) → seats - direct ≡ seats - won → seats ≤ most → seats - won - names_or_most o ≡ vacant_by (Some at) (slate_in o) seats direct
names_leave at None seats direct won same few = omega (arith, few)
names_leave at (Some v) seats direct won same few = of_slate v.slate
  where
    of_slate : (slate : Option ℕ) → seats - won - names_or_most (Some (record v { slate = slate })) ≡ vacant_by (Some at) slate seats direct
    of_slate None = omega (arith, few)
    of_slate (Some n) = ap (λ (m : ℕ). m - n) (sym same)

-- ---- the table

module _ (c : CountingCode) (b : BookTree) (e : Election) (k : Known) (types : List Column) (slots : HasBookSlots c types) (s t u : State) (h : HasSeated b e k s t) (g : HasVacant e b.last.vacate t u) where
  -- seats stay where they are while the vacant ones are found
  seats_held : (land party : ℕ) → land < lands_of e → party < parties_of e → list_cell e (column_of c e u final_seats) land party ≡ h.seats land party
  seats_held land party in_lands in_parties =
      list_cell_held c e u final_seats land party (slots.passing_are 0 shape.List (omega arith)) in_lands in_parties
      ∙ g.columns final_seats (land * parties_of e + party) (λ same. omega (arith, same)) (λ same. omega (arith, same)) ∙ h.cells land party in_lands in_parties

  -- so do the vacant seats of each list
  vacant_held : (vacate : Option ℕ) → HasVacant e vacate t u → (land party : ℕ) → IsListOf e land party →
      list_cell e (vacant_of c e u final_seats (vacant_slot vacate)) land party ≡ vacant_by vacate (slate_in (list_at e land party)) (h.seats land party) (placed_on e h.places land party)
  vacant_held None v land party there = no_seats (length (column_of c e u final_seats)) (land * parties_of e + party)
  vacant_held (Some at) v land party there =
      let place : ℕ = land * parties_of e + party in
      let within : place < lands_of e * parties_of e = place_within e land party there.in_parties there.in_lands in
      list_cell_held c e u vacant_seats land party slots.vacant_seats_are there.in_lands there.in_parties
      ∙ v.vacant at refl place within
      ∙ ap (λ (m : ℕ). m - t.columns winners_slot place - from_lists e names_or_most place) (h.cells land party there.in_lands there.in_parties)
      ∙ ap (λ (m : ℕ). h.seats land party - m - from_lists e names_or_most place) (h.winners.at place within)
      ∙ ap (λ (m : ℕ). h.seats land party - list_cell e (list_winners b.eligible e) land party - m) (list_told e land party there.in_parties names_or_most there.in_lands)
      ∙ names_leave at (list_at e land party) (h.seats land party) (placed_on e h.places land party) (list_cell e (list_winners b.eligible e) land party) (h.left land party there)
      (h.few land party there.in_lands there.in_parties)

  -- the places stand in what is held
  places_held : map u.placed (range_with_len 0 (wins_of e)) ≡ h.places
  places_held = (λ z. map (λ winner. g.placed winner z) (range_with_len 0 (wins_of e))) ∙ h.placed

  -- and so each line of the table
  line_held : (land party : ℕ) → IsListOf e land party →
      held_line e (held_of c e final_seats (vacant_slot b.last.vacate) u) land party ≡ table_line b e h.seats h.places land party
  line_held land party there =
      let seats = seats_held land party there.in_lands there.in_parties in
      let direct : placed_on e (map u.placed (range_with_len 0 (wins_of e))) land party ≡ placed_on e h.places land party = ap (λ (places : List Placed). placed_on e places land party) places_held in
      let vacant = vacant_held b.last.vacate g land party there in
      λ z. record { land = land; party = party; seats = seats z; direct = direct z; vacant = vacant z }

  pub closed : HasClosed c b e k s u
  closed = record {
    table = table_of b e h.seats h.places k.records;
    means = h.means;
    lists = each_list_agree e (held_line e (held_of c e final_seats (vacant_slot b.last.vacate) u)) (table_line b e h.seats h.places) line_held;
    placed = places_held;
    steps = g.steps ∙ h.steps;
    weights = g.weights ∙ h.weights;
    columns = λ slot q high. g.columns slot q (λ same. omega (arith, high, same)) (λ same. omega (arith, high, same)) ∙ h.columns slot q high;
  }

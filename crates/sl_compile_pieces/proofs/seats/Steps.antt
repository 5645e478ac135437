-- The records of the seats of a scope grow by that of the seat awarded.
use Rattle.std.proofs.Common.{◌≡◌, ◌≢◌, ℕ, ◌+◌, ◌≤◌, false, List, [], ◌∷◌, ◌++◌, map, Some, slice_get, if◌then◌else◌, IsPermutation, append_assoc, sym, ap, subst, ◌∙◌, arith}
use Rattle.std.specs.Prelude.{flat_map, nat_lt, slice_index}
use Rattle.std.specs.List.{range_with_len, enumerate_from}
use Rattle.std.proofs.lemmas.Bool.{le-ltb}
use Rattle.std.proofs.lemmas.List.FromFn.{map-range_with_len_more}
use Rattle.std.proofs.lemmas.List.Sorted.{IsPermutation-sym, IsPermutation-trans, IsPermutation-append_comm, IsPermutation-append_left, IsPermutation-append_right}
use Rattle.sl_law_meaning.specs.declared.fault.Item.{Item}
use Rattle.sl_law_meaning.specs.declared.fault.Scope.{Scope}
use Rattle.sl_law_meaning.specs.declared.table.Mark.{Mark}
use Rattle.sl_law_meaning.specs.declared.table.Mark.TheVariants as mark
use Rattle.sl_law_meaning.specs.declared.table.SeatStep.{SeatStep}
use Rattle.sl_law_meaning.specs.meaning.Scopes.{Group}
use Rattle.sl_law_meaning.specs.meaning.Records.{seat_step}
use Rattle.sl_law_meaning.specs.methods.Steps.{step_of}
use Rattle.sl_law_meaning.specs.laws.Ladders.{AreFalling, IsTop}
use Rattle.sl_law_meaning.specs.laws.Awards.{BatchLaws}
use Rattle.sl_law_meaning.proofs.meaning.ChangedPieces.{ChangesPiece, changes_piece}
use Rattle.sl_law_meaning.proofs.methods.LadderProofs.{batches}
use Rattle.sl_law_meaning.proofs.methods.RaisedSeats.{Contains-head}
use Rattle.sl_compile_pieces.specs.arenas.Arenas.{Arena}
use Rattle.sl_compile_pieces.specs.inner.awards.Batches.{Gets}
use Rattle.sl_compile_pieces.specs.inner.awards.Awards.{IsCounted}
use Rattle.sl_compile_pieces.specs.seats.Slots.{Slots}
use Rattle.sl_compile_pieces.specs.inner.seats.Seated.{HasSteps, steps_upto}
use Rattle.sl_compile_pieces.proofs.arenas.Pieces.{not_it}
use Rattle.sl_compile_pieces.proofs.seats.Lists.{numbered_at, number_there}

-- ---- the records of the seats of a list of entries

module _ (made : ℕ → Item → ℕ → SeatStep) where
  -- those of one entry
  abbrev piece : List ℕ → ℕ × Item → List SeatStep
  piece t y = map (made y.0 y.1) (range_with_len 0 (slice_index t y.0))

  piece_more : (t u : List ℕ) (j : ℕ) (i : Item) → slice_index u j ≡ slice_index t j + 1 → piece u (j, i) ≡ piece t (j, i) ++ made j i (slice_index t j) ∷ []
  piece_more t u j i more = ap (λ n. map (made j i) (range_with_len 0 n)) more ∙ map-range_with_len_more (made j i) 0 (slice_index t j) (slice_index t j) (omega arith)

  -- one entry more
  records_more : (entries : List Item) (t u : List ℕ) (j : ℕ) (i : Item) → slice_get entries j ≡ Some i → slice_index u j ≡ slice_index t j + 1 →
      ((k : ℕ) → k ≢ j → slice_index u k ≡ slice_index t k) →
      IsPermutation (flat_map (piece t) (enumerate_from 0 entries) ++ made j i (slice_index t j) ∷ []) (flat_map (piece u) (enumerate_from 0 entries))
  records_more entries t u j i at more others =
      let r : List SeatStep = made j i (slice_index t j) ∷ [] in
      let all : List (ℕ × Item) = enumerate_from 0 entries in
      let old : List SeatStep = flat_map (piece t) all in
      let new : List SeatStep = flat_map (piece u) all in
      let mine : List SeatStep = piece t (j, i) in
      let change : ChangesPiece (piece t) (piece u) all (j, i) =
      changes_piece (piece t) (piece u) all j (j, i) (numbered_at entries j i at) (λ k y there other.
      let is : y.0 ≡ k = number_there entries k y there in
      ap (λ n. map (made y.0 y.1) (range_with_len 0 n)) (sym (others y.0 (λ same. other (sym is ∙ same))))) in
      let rest : List SeatStep = change.rest in
      let second : IsPermutation ((mine ++ rest) ++ r) (mine ++ (r ++ rest)) =
      subst (λ l. IsPermutation l (mine ++ (r ++ rest))) (sym (append_assoc mine rest r)) (IsPermutation-append_right mine (rest ++ r) (r ++ rest) (IsPermutation-append_comm rest r)) in
      let third : mine ++ (r ++ rest) ≡ piece u (j, i) ++ rest = sym (append_assoc mine r rest) ∙ ap (λ l. l ++ rest) (sym (piece_more t u j i more)) in
      IsPermutation-trans (old ++ r) ((mine ++ rest) ++ r) new (IsPermutation-append_left r old (mine ++ rest) change.before)
      (IsPermutation-trans ((mine ++ rest) ++ r) (mine ++ (r ++ rest)) new second
      (subst (λ l. IsPermutation l new) (sym third) (IsPermutation-sym new (piece u (j, i) ++ rest) change.after)))

-- ---- a seat of a batch

-- the record of a seat that an item was awarded when it held so many
abbrev pub awarded_step : ℕ → Scope → Item → ℕ → ℕ → Mark → SeatStep
awarded_step stage on i held step m = record { stage = stage; scope = on; entry = i; n = held + 1; step = step; mark = m }

module _ {a : Arena} {s peers given t u : List ℕ} {j : ℕ} (gets : Gets a s peers given t u j) where
  -- the entry holds one seat more than before, when it held its first ones at least; each other one holds what it held
  pub one_more : slice_index u j ≡ slice_index t j + 1
  one_more = gets.raised.raised j (Contains-head j [])

  pub others_same : (k : ℕ) → k ≢ j → slice_index u k ≡ slice_index t k
  others_same k other = gets.raised.others k (not_it j k other)

  pub above_base : slice_index a.ladders.base j ≤ slice_index t j
  above_base = let low = gets.batch.settled.on.above j in omega (arith, low, gets.held)

  module _ {seats step : ℕ} (falling : AreFalling a.ladders) (begun : IsCounted a seats s step) (x : Slots) (g : Group) (i : Item) where
    step_is : (w : List ℕ) → IsTop a.ladders seats w → step_of a.ladders.rank a.ladders.base w j (slice_index t j) ≡ step
    step_is w top =
        let laws : BatchLaws a.ladders s peers = (batches a.ladders falling).batch s peers gets.batch.settled gets.batch.listed in
        ap (step_of a.ladders.rank a.ladders.base w j) gets.held ∙ laws.step seats w j top begun.left gets.one_of ∙ sym begun.counted

    -- whatever is chosen in the end, the seat has this record
    record_is : (w : List ℕ) → IsTop a.ladders seats w →
        seat_step x.stage g.scope g.entries a.ladders a.won w j i (slice_index t j) ≡ awarded_step x.stage g.scope i (slice_index t j) step (a.won j (slice_index t j))
    record_is w top =
        let held : ℕ = slice_index t j in
        let made : ℕ → SeatStep = λ n. awarded_step x.stage g.scope i held n (a.won j held) in
        let fresh : nat_lt held (slice_index a.ladders.base j) ≡ false = le-ltb held (slice_index a.ladders.base j) above_base in
        ap (λ b. if b then record { stage = x.stage; scope = g.scope; entry = i; n = held + 1; step = 0; mark = mark.Given } else made (step_of a.ladders.rank a.ladders.base w j held)) fresh
        ∙ ap made (step_is w top)

    -- once it was added, the records are those of the seats that the entries hold then
    pub steps_grow : (before now next : List SeatStep) → slice_get g.entries j ≡ Some i → HasSteps x g a seats before t now →
        next ≡ now ++ awarded_step x.stage g.scope i (slice_index t j) step (a.won j (slice_index t j)) ∷ [] → HasSteps x g a seats before u next
    steps_grow before now next at has told =
        let mine : SeatStep = awarded_step x.stage g.scope i (slice_index t j) step (a.won j (slice_index t j)) in
        let r : List SeatStep = mine ∷ [] in
        record {
          added = has.added ++ r;
          steps = told ∙ ap (λ l. l ++ r) has.steps ∙ append_assoc before has.added r;
          are = λ w top.
              let made : ℕ → Item → ℕ → SeatStep = seat_step x.stage g.scope g.entries a.ladders a.won w in
              let old : List SeatStep = steps_upto x.stage g a.ladders a.won w t in
              let new : List SeatStep = steps_upto x.stage g a.ladders a.won w u in
              let grown : IsPermutation (old ++ made j i (slice_index t j) ∷ []) new = records_more made g.entries t u j i at one_more others_same in
              let is : made j i (slice_index t j) ≡ mine = record_is w top in
              IsPermutation-trans (has.added ++ r) (old ++ r) new (IsPermutation-append_left r has.added old (has.are w top)) (subst (λ y. IsPermutation (old ++ y ∷ []) new) is grown);
        }

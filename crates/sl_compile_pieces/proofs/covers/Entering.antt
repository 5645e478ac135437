-- The winners of a list enter the table, each by its share, and are counted.
use Rattle.std.proofs.Common.{◌≡◌, ℕ, ◌+◌, ◌*◌, ◌<◌, ◌≤◌, Bool, true, false, cond, min, List, [], ◌∷◌, ◌++◌, map, length, Some, slice_get, refl, sym, ap, subst, ◌∙◌, arith}
use Rattle.std.specs.Prelude.{slice_index}
use Rattle.std.proofs.lemmas.Option.{slice_get_within}
use Rattle.std.proofs.lemmas.List.{append-nil, length-append, map-append}
use Rattle.std.proofs.lemmas.List.Sorted.{IsPermutation-sym, IsPermutation-to_front}
use Rattle.sl_base_quotients.specs.declared.entry.Entry.{Entry}
use Rattle.sl_base_terms.specs.declared.shape.Shape.TheVariants as shape
use Rattle.sl_law_meaning.specs.declared.election.Win.{Win}
use Rattle.sl_law_meaning.specs.returns.Election.{Election, IsElection, lands_of, parties_of}
use Rattle.sl_law_meaning.specs.returns.Facts.{list_cell}
use Rattle.sl_code_instructions.specs.Codes.{CountingCode}
use Rattle.sl_code_instructions.specs.declared.operand.Entries.TheVariants as entries
use Rattle.sl_code_instructions.specs.declared.operand.Ranking.TheVariants as ranking
use Rattle.sl_base_rankings.specs.Ranking.{ranked}
use Rattle.sl_base_rankings.proofs.RankedEntries.{ranked_alike}
use Rattle.sl_code_semantics.specs.State.{State, PriorityTable, with_register}
use Rattle.sl_code_semantics.specs.Effects.{most}
use Rattle.sl_code_semantics.proofs.effects.Registers.{get_does}
use Rattle.sl_code_semantics.proofs.effects.Cursors.{both_are, winner_is}
use Rattle.sl_code_semantics.proofs.effects.Table.{entered, share_does}
use Rattle.sl_compile_plans.specs.Trees.{ones}
use Rattle.sl_compile_plans.specs.Achieves.{Achieves, Never}
use Rattle.sl_compile_plans.proofs.Rules.{line_ends, line_goes}
use Rattle.sl_compile_pieces.specs.declared.registers.TheConstants as reg
use Rattle.sl_compile_pieces.specs.covers.Trees.{CoverSlots, enter_winner}
use Rattle.sl_compile_pieces.specs.covers.Covering.{HasCoverSlots}
use Rattle.sl_compile_pieces.proofs.covers.Winners.{of_list, front, front_more, entry_of}
use Rattle.sl_compile_pieces.proofs.covers.Seatable.{HasFlags}
use Rattle.sl_compile_pieces.proofs.covers.Contested.{number_of}
use Rattle.sl_compile_pieces.proofs.facts.Holding.{place_within}

-- what the columns hold that are read: the numbers of the pairs, the lists' seats, and which parties are eligible
pub record AreRead (e : Election) (x : CoverSlots) (eligible : ℕ → Bool) (base : List ℕ) (columns : ℕ → ℕ → ℕ) : Type 0 where
  pub numbers : (q : ℕ) → q < lands_of e * parties_of e → columns x.numbers q ≡ number_of e eligible base q
  pub seats : (q : ℕ) → q < lands_of e * parties_of e → columns x.base q ≡ slice_index base q
  pub flags : HasFlags e x eligible columns

-- a table of winners that holds these
abbrev pub table_with : List (ℕ × Win) → PriorityTable
table_with winners = record { entries = entries.Win; ranking = ranking.Quotients; contents = ranked (map entry_of winners) }

-- of the first j winners these are the list's: they wait, and are counted, and there are so many seats
abbrev pub AreEntered : Election → CoverSlots → (ℕ → Bool) → List ℕ → ℕ × ℕ → ℕ → List (ℕ × Win) → State → Type 0
AreEntered e x eligible base l j winners t = record {
  read : AreRead e x eligible base t.columns;
  amount : t.registers reg.AMOUNT ≡ number_of e eligible base (l.0 * parties_of e + l.1);
  table : t.table ≡ Some (table_with winners);
  total : t.registers reg.TOTAL ≡ length winners;
  few : length winners ≤ j;
  left : 0 < length winners → t.registers reg.LEFT ≡ list_cell e base l.0 l.1;
}

module _ (c : CountingCode) (e : Election) (x : CoverSlots) (eligible : ℕ → Bool) (base : List ℕ) (l : ℕ × ℕ) where
  abbrev says : ℕ × Win → Bool
  says = of_list eligible e l

  abbrev pub Entered : ℕ → State → Type 0
  Entered j t = AreEntered e x eligible base l j (front eligible e l j) t

  module _ (j : ℕ) (w : Win) (at : slice_get e.wins j ≡ Some w) where
    -- another winner leaves all as it was
    pub not_entered : (t u : State) → Entered j t → says (j, w) ≡ false → u.columns ≡ t.columns → u.registers reg.AMOUNT ≡ t.registers reg.AMOUNT →
        u.table ≡ t.table → u.registers reg.TOTAL ≡ t.registers reg.TOTAL → u.registers reg.LEFT ≡ t.registers reg.LEFT → Entered (j + 1) u
    not_entered t u h not columns amount table total left =
        let same : front eligible e l (j + 1) ≡ front eligible e l j =
        front_more eligible e l j w at ∙ ap (λ b. front eligible e l j ++ cond b ((j, w) ∷ []) []) not ∙ append-nil (front eligible e l j) in
        let few = h.few in
        subst (λ ys. AreEntered e x eligible base l (j + 1) ys u) (sym same)
        (record {
          read = subst (AreRead e x eligible base) (sym columns) h.read;
          amount = amount ∙ h.amount;
          table = table ∙ h.table;
          total = total ∙ h.total;
          few = omega (arith, few);
          left = λ some. left ∙ h.left some;
        })

    -- a winner of the list enters
    module _ (is : IsElection e) (slots : HasCoverSlots c x) (in_land : l.0 < lands_of e) (in_party : l.1 < parties_of e) where
      -- the table with one more
      entered_too : ranked (entry_of (j, w) ∷ map entry_of (front eligible e l j)) ≡ ranked (map entry_of (front eligible e l j ++ (j, w) ∷ []))
      entered_too =
          let y : Entry = entry_of (j, w) in
          ranked_alike (y ∷ map entry_of (front eligible e l j)) (map entry_of (front eligible e l j) ++ y ∷ []) (IsPermutation-sym _ _ (IsPermutation-to_front (map entry_of (front eligible e l j)) y))
          ∙ ap ranked (sym (map-append entry_of (front eligible e l j) ((j, w) ∷ [])))

      pub enters : (t v : State) → Entered j t → says (j, w) ≡ true → v.columns ≡ t.columns → v.registers reg.AMOUNT ≡ t.registers reg.AMOUNT → v.table ≡ t.table →
          v.registers reg.TOTAL ≡ t.registers reg.TOTAL → v.party ≡ Some l.1 → v.land ≡ Some l.0 → v.win ≡ Some j → Achieves c e (enter_winner x) v (Entered (j + 1)) Never
      enters t v h yes' columns amount table total party land win =
          let cell : ℕ = l.0 * parties_of e + l.1 in
          let more : front eligible e l (j + 1) ≡ front eligible e l j ++ (j, w) ∷ [] = front_more eligible e l j w at ∙ ap (λ b. front eligible e l j ++ cond b ((j, w) ∷ []) []) yes' in
          let tab : PriorityTable = table_with (front eligible e l j) in
          let one : State = entered (record { num = w.first; den = w.valid }) j tab v in
          let three : State = with_register reg.TOTAL (min (v.registers reg.TOTAL + 1) most) (with_register ones 1 one) in
          let four : State = with_register reg.LEFT (v.columns x.base cell) three in
          let few : length (front eligible e l j) ≤ j = h.few in
          let longer : length (front eligible e l j ++ (j, w) ∷ []) ≡ length (front eligible e l j) + 1 = length-append (front eligible e l j) ((j, w) ∷ []) in
          let at_cell = both_are v.land v.party (λ land party. land * parties_of e + party) l.0 l.1 land party in
          line_goes (share_does c e v tab (table ∙ h.table) j win w (winner_is e v j w win at) refl)
          (line_goes refl (line_goes refl
          (line_goes (get_does c e three x.base shape.List slots.base reg.LEFT cell at_cell)
          (line_ends
          (subst (λ ys. AreEntered e x eligible base l (j + 1) ys four) (sym more)
          (record {
            read = subst (AreRead e x eligible base) (sym columns) h.read;
            amount = amount ∙ h.amount;
            table = ap (λ ys. Some (record { entries = entries.Win; ranking = ranking.Quotients; contents = ys })) entered_too;
            total = (let so_far = h.total in omega (arith, total, so_far, few, slice_get_within e.wins j w at, longer));
            few = omega (arith, few, longer);
            left = λ some. ap (λ (f : ℕ → ℕ → ℕ). f x.base cell) columns ∙ h.read.seats cell (place_within e l.0 l.1 in_party in_land);
          }))))))

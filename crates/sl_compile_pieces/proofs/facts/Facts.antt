-- The columns of the house, votes and people, and all that a rulebook can name besides who is eligible.
use Rattle.std.proofs.Common.{inl, inr, ◌≡◌, ◌≢◌, ℕ, ◌+◌, ◌*◌, ◌<◌, ◌≤◌, Bool, true, false, List, [], ◌∷◌, Option, Some, None, if◌then◌else◌, refl, sym, ap, ◌∙◌, arith}
use Rattle.std.specs.Prelude.{unwrap_or}
use Rattle.std.proofs.lemmas.Bool.{ne_eqb, cases_eq}
use Rattle.std.proofs.lemmas.Nat.{same_from_place}
use Rattle.sl_law_meaning.specs.declared.book.Cond.{Cond}
use Rattle.sl_base_terms.specs.declared.shape.Shape.TheVariants as shape
use Rattle.sl_law_meaning.specs.declared.fact.Fact.{Fact}
use Rattle.sl_law_meaning.specs.declared.fact.Fact.TheVariants as facts
use Rattle.sl_law_meaning.specs.book.Typing.{fact_type}
use Rattle.sl_law_meaning.specs.meaning.Columns.{fact_column}
use Rattle.sl_law_meaning.specs.returns.Votes.{counted_in}
use Rattle.sl_law_meaning.specs.returns.Election.{Election, IsElection, lands_of, parties_of, list_at}
use Rattle.sl_law_meaning.specs.returns.Facts.{is_eligible, counted_votes}
use Rattle.sl_code_instructions.specs.declared.instr.Instr.TheVariants.{Store, House}
use Rattle.sl_code_instructions.specs.declared.operand.Input.TheVariants as input
use Rattle.sl_code_instructions.specs.Codes.{CountingCode}
use Rattle.sl_code_semantics.specs.State.{State, with_register, with_cell}
use Rattle.sl_code_semantics.specs.Effects.{one_if, input_of, with_party, with_land}
use Rattle.sl_code_semantics.proofs.effects.Registers.{set_does, get_does, store_does, input_does, house_there, house_missing}
use Rattle.sl_code_semantics.proofs.effects.Cursors.{both_are}
use Rattle.sl_code_semantics.proofs.effects.Storing.{cell_same, cell_other_place, cell_other_slot}
use Rattle.sl_compile_plans.specs.declared.plan.Cursor.TheVariants as cursor
use Rattle.sl_compile_plans.specs.Trees.{Line, Each}
use Rattle.sl_compile_plans.specs.Achieves.{Achieves, Never}
use Rattle.sl_compile_plans.proofs.Rules.{achieves_more, line_ends, line_goes, if_zero, line_first, line_over}
use Rattle.sl_compile_plans.proofs.KeepingRules.{each_keeping}
use Rattle.sl_compile_pieces.specs.columns.Columns.{HoldsColumn, GetsColumn}
use Rattle.sl_compile_pieces.specs.facts.Trees.{FactSlots, cell, number, house_tree, drop_votes, counted_tree, population_tree, fact_tree}
use Rattle.sl_compile_pieces.specs.facts.Laws.{HasFactSlots, FactsAreTold}
use Rattle.sl_compile_pieces.proofs.facts.Holding.{list_told, holds_one, holds_lists, party_held, gets_column}
use Rattle.sl_compile_pieces.proofs.facts.Cells.{cell_written, cell_not_written}
use Rattle.sl_compile_pieces.proofs.facts.Loops.{Flagged}
use Rattle.sl_compile_pieces.proofs.facts.Winners.{flag_down, flag_up, winners_are_told, outside_are_told, alone_are_told}

module _ (c : CountingCode) (e : Election) (x : FactSlots) (slots : HasFactSlots c x) (is : IsElection e) (s : State) where
  -- ---- the house

  house_is_told : (default : ℕ) → Achieves c e (house_tree x default) s (GetsColumn e shape.One (x.of facts.House) (unwrap_or e.house default ∷ []) s) Never
  house_is_told default =
      gets_column shape.One (x.of facts.House) (unwrap_or e.house default ∷ []) (line_goes (set_does c e s cell default) (of e.house refl)) (λ k other. rw (ne_eqb k (x.of facts.House) other) refl)
      (record { steps = refl; weights = refl; seats = refl })
    where
      held : (value : ℕ) (t : State) → unwrap_or e.house default ≡ value → HoldsColumn e shape.One ((with_cell (x.of facts.House) 0 value t).columns (x.of facts.House)) (unwrap_or e.house default ∷ [])
      held value t same = holds_one e ((with_cell (x.of facts.House) 0 value t).columns (x.of facts.House)) (unwrap_or e.house default) (cell_same t (x.of facts.House) 0 value ∙ sym same)

      of : (o : Option ℕ) → e.house ≡ o
          → Achieves c e (Line (House cell ∷ (Store (x.of facts.House) cell ∷ []))) (with_register cell default s) (λ t. HoldsColumn e shape.One (t.columns (x.of facts.House)) (unwrap_or e.house default ∷ [])) Never
      of None at =
          let s1 : State = with_register cell default s in
          line_goes (house_missing c e s1 cell at)
          (line_goes (store_does c e s1 (x.of facts.House) shape.One (slots.facts facts.House) cell 0 refl) (line_ends (held default s1 (ap (λ o. unwrap_or o default) at))))
      of (Some h) at =
          let s1 : State = with_register cell default s in
          let s2 : State = with_register cell h s1 in
          line_goes (house_there c e s1 cell h at)
          (line_goes (store_does c e s2 (x.of facts.House) shape.One (slots.facts facts.House) cell 0 refl) (line_ends (held h s2 (ap (λ o. unwrap_or o default) at))))

  -- ---- the people

  population_is_told : Achieves c e (population_tree x) s (GetsColumn e shape.Land (x.of facts.Population) e.populations s) Never
  population_is_told =
      gets_column shape.Land (x.of facts.Population) e.populations
      (line_goes (input_does c e s (x.of facts.Population) shape.Land (slots.facts facts.Population) input.Population)
      (line_ends (record { long = is.populations; at = λ q less. cell_written s (x.of facts.Population) (input_of e input.Population) q })))
      (λ k other. rw (ne_eqb k (x.of facts.Population) other) refl) (record { steps = refl; weights = refl; seats = refl })

  -- ---- counted votes

  module _ (conditions : List Cond) (apart : (x.of facts.Counted) ≢ x.eligible) where
    -- the votes of a party in a Land, as they are held, and as they were and will be
    abbrev votes_at : State → ℕ → ℕ → ℕ
    votes_at t l p = t.columns (x.of facts.Counted) (l * parties_of e + p)

    abbrev old_votes : ℕ → ℕ → ℕ
    old_votes l p = input_of e input.Counted (l * parties_of e + p)

    abbrev new_votes : ℕ → ℕ → ℕ
    new_votes l p = if is_eligible conditions e p then old_votes l p else 0

    -- the first n parties are without votes if they are not eligible
    record Cleared (n : ℕ) (t : State) : Type 0 where
      done : (l p : ℕ) → l < lands_of e → p < n → p < parties_of e → votes_at t l p ≡ new_votes l p
      rest : (l p : ℕ) → l < lands_of e → n ≤ p → p < parties_of e → votes_at t l p ≡ old_votes l p
      flags : Flagged e x (is_eligible conditions e) t

    -- a party is without votes in the first m Länder, and all others have theirs
    record IsWithout (p m : ℕ) (t u : State) : Type 0 where
      here : (l : ℕ) → l < m → votes_at u l p ≡ 0
      others : (l q : ℕ) → q < parties_of e → q ≢ p → votes_at u l q ≡ votes_at t l q
      party : u.party ≡ Some p
      zero_is : u.registers cell ≡ 0
      flags : (q : ℕ) → u.columns x.eligible q ≡ t.columns x.eligible q

    lands_cleared : (p : ℕ) (t : State) → p < parties_of e → t.party ≡ Some p → t.registers cell ≡ 0
        → Achieves c e (Each cursor.Land (Line (Store (x.of facts.Counted) cell ∷ []))) t (IsWithout p (lands_of e) t) Never
    lands_cleared p t less on none =
        each_keeping (λ m u. IsWithout p m t u) refl
        (record { here = λ l low. absurd (omega (arith, low)); others = λ l q below other. refl; party = on; zero_is = none; flags = λ q. refl })
        (λ l u in_lands inv.
        let place : ℕ = l * parties_of e + p in
        let v : State = with_land (Some l) u in
        let w : State = with_cell (x.of facts.Counted) place (v.registers cell) v in
        line_goes (store_does c e v (x.of facts.Counted) shape.List (slots.facts facts.Counted) cell place (both_are v.land v.party (λ land party. land * parties_of e + party) l p refl inv.party))
        (line_ends (record {
          here = λ k low. elim (cases_eq k l) [
            | inl same ↦ ap (λ n. votes_at w n p) same ∙ cell_same v (x.of facts.Counted) place (v.registers cell) ∙ inv.zero_is
            | inr other ↦
                cell_other_place v (x.of facts.Counted) place (v.registers cell) (k * parties_of e + p) (λ same. other (same_from_place k p l p (parties_of e) less less same).0)
                ∙ inv.here k (omega (arith, low, other))
          ];
          others = λ k q below other.
              cell_other_place v (x.of facts.Counted) place (v.registers cell) (k * parties_of e + q) (λ same. other (same_from_place k q l p (parties_of e) below less same).1)
              ∙ inv.others k q below other;
          party = inv.party;
          zero_is = inv.zero_is;
          flags = λ q. cell_other_slot v (x.of facts.Counted) place (v.registers cell) x.eligible q (λ same. apart (sym same)) ∙ inv.flags q;
        })))
        (λ u inv. record { here = inv.here; others = inv.others; party = inv.party; zero_is = inv.zero_is; flags = inv.flags })

    party_cleared : (p : ℕ) (t : State) → p < parties_of e → Cleared p t → Achieves c e (drop_votes x) (with_party (Some p) t) (Cleared (p + 1)) Never
    party_cleared p t less inv =
        let u : State = with_party (Some p) t in
        let flag : t.columns x.eligible p ≡ one_if (is_eligible conditions e p) = inv.flags p less in
        let known : (b : Bool) → is_eligible conditions e p ≡ b → (l : ℕ) → (if b then old_votes l p else 0) ≡ new_votes l p = λ b is l. ap (λ b. if b then old_votes l p else 0) (sym is) in
        line_first (get_does c e u x.eligible shape.Party slots.eligible number p refl) (line_over
        (if_zero
        (λ zero.
        let not : is_eligible conditions e p ≡ false = flag_down (is_eligible conditions e p) (sym flag ∙ zero) in
        line_first refl (line_over
        (achieves_more (lands_cleared p (with_register cell 0 (with_register number (t.columns x.eligible p) u)) less refl refl)
        (λ v h. record {
          done = λ l q in_lands low below. elim (cases_eq q p) [
            | inl same ↦ ap (votes_at v l) same ∙ h.here l in_lands ∙ known false not l ∙ ap (new_votes l) (sym same)
            | inr other ↦ h.others l q below other ∙ inv.done l q in_lands (omega (arith, low, other)) below
          ];
          rest = λ l q in_lands high below. h.others l q below (λ same. omega (arith, same, high)) ∙ inv.rest l q in_lands (omega (arith, high)) below;
          flags = λ q below. h.flags q ∙ inv.flags q below;
        })
        (λ o h. h))))
        (λ n more.
        let may : is_eligible conditions e p ≡ true = flag_up (is_eligible conditions e p) n (sym flag ∙ more) in
        line_ends (record {
          done = λ l q in_lands low below. elim (cases_eq q p) [
            | inl same ↦ ap (votes_at t l) same ∙ inv.rest l p in_lands (omega arith) less ∙ known true may l ∙ ap (new_votes l) (sym same)
            | inr other ↦ inv.done l q in_lands (omega (arith, low, other)) below
          ];
          rest = λ l q in_lands high below. inv.rest l q in_lands (omega (arith, high)) below;
          flags = inv.flags;
        }))))

    counted_are_told : Flagged e x (is_eligible conditions e) s → Achieves c e (counted_tree x) s (GetsColumn e shape.List (x.of facts.Counted) (counted_votes conditions e) s) Never
    counted_are_told flagged =
        gets_column shape.List (x.of facts.Counted) (counted_votes conditions e)
        (line_first (input_does c e s (x.of facts.Counted) shape.List (slots.facts facts.Counted) input.Counted) (line_over
        (each_keeping Cleared refl
        (record {
          done = λ l q in_lands low below. absurd (omega (arith, low));
          rest = λ l q in_lands high below. cell_written s (x.of facts.Counted) (input_of e input.Counted) (l * parties_of e + q);
          flags = λ q below. cell_not_written s (x.of facts.Counted) (input_of e input.Counted) x.eligible q (λ same. apart (sym same)) ∙ flagged q below;
        })
        (λ p u less inv. party_cleared p u less inv)
        (λ u inv.
        holds_lists e (u.columns (x.of facts.Counted)) (λ land party. if is_eligible conditions e party then counted_in (list_at e land party) else 0) (λ land party in_lands less.
        inv.done land party in_lands less less ∙ ap (λ n. if is_eligible conditions e party then n else 0) (list_told e land party less counted_in in_lands))))))
        (λ k other. rw (ne_eqb k (x.of facts.Counted) other) refl) (record { steps = refl; weights = refl; seats = refl })

pub facts_are_told : FactsAreTold
facts_are_told c b e x told s is slots held = of told where
  flagged : Flagged e x (is_eligible b.eligible e) s
  flagged = party_held e (s.columns x.eligible) (λ party. one_if (is_eligible b.eligible e party)) held

  of : (f : Fact) → Achieves c e (fact_tree x b.house.value f) s (GetsColumn e (fact_type f).shape (x.of f) (fact_column b e f) s) Never
  of facts.House = house_is_told c e x slots is s b.house.value
  of facts.Counted = counted_are_told c e x slots is s b.eligible (slots.facts_apart facts.Counted) flagged
  of facts.Winners = winners_are_told c e x slots b.eligible is s flagged (slots.facts_apart facts.Winners)
  of facts.Outside = outside_are_told c e x slots b.eligible is s flagged (slots.facts_apart facts.Outside)
  of facts.Independents = alone_are_told c e x slots b.eligible is s
  of facts.Population = population_is_told c e x slots is s

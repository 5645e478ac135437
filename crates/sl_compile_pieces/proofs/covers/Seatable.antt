-- The winners of parties that are eligible and have a list in the winner's Land: at each of them the cursors are set to that list.
use Rattle.std.proofs.Common.{◌≡◌, ℕ, ◌+◌, ◌*◌, ◌<◌, ◌&&◌, ◌==◌, ◌≢◌, Bool, true, false, [], ◌∷◌, Option, Some, None, nat_eq, slice_get, refl, sym, ap, subst, ◌∙◌}
use Rattle.std.specs.Prelude.{if◌then◌else◌}
use Rattle.std.specs.Option.{ForSome}
use Rattle.std.proofs.lemmas.Bool.{and_left, and_right, false_from_ne_true}
use Rattle.std.proofs.lemmas.Nat.{div-add-mod'}
use Rattle.std.proofs.lemmas.Option.{same_Some, slice_get_within, get_or_from_slice_get}
use Rattle.std.proofs.lemmas.List.Elements.{All-get_or}
use Rattle.sl_base_terms.specs.declared.shape.Shape.TheVariants as shape
use Rattle.sl_law_meaning.specs.declared.election.Win.{Win}
use Rattle.sl_law_meaning.specs.returns.Election.{Election, IsElection, IsWin, lands_of, parties_of, has_list}
use Rattle.sl_code_instructions.specs.Codes.{CountingCode}
use Rattle.sl_code_instructions.specs.declared.instr.Instr.TheVariants.{Get}
use Rattle.sl_code_semantics.specs.State.{State, End, with_register}
use Rattle.sl_code_semantics.specs.Effects.{one_if, with_party, with_land, with_win}
use Rattle.sl_code_semantics.proofs.effects.Registers.{get_does}
use Rattle.sl_code_semantics.proofs.effects.Cursors.{winner_is, wland_does}
use Rattle.sl_compile_plans.specs.declared.plan.Test.TheVariants as test
use Rattle.sl_compile_plans.specs.Trees.{Tree, Line, Then, If}
use Rattle.sl_compile_plans.specs.Achieves.{Achieves}
use Rattle.sl_compile_plans.proofs.Rules.{line_ends, if_zero, if_no_list, if_no_party, line_first, line_over}
use Rattle.sl_compile_pieces.proofs.facts.Winners.{flag_down, flag_up}
use Rattle.sl_compile_pieces.specs.declared.registers.TheConstants as reg
use Rattle.sl_compile_pieces.specs.covers.Trees.{CoverSlots, nothing, if_seatable}
use Rattle.sl_compile_pieces.specs.covers.Covering.{HasCoverSlots}
use Rattle.sl_compile_pieces.proofs.covers.Pairs.{pair_at, pair_is}
use Rattle.sl_compile_pieces.proofs.covers.Winners.{of_list, of_list_by, is_winner, says_winner}

-- ---- a winner

-- the winner's party is this one, it is eligible and has a list in the winner's Land
pub record IsSeatable (eligible : ℕ → Bool) (e : Election) (w : Win) (p : ℕ) : Type 0 where
  pub party : w.party ≡ Some p
  pub may : eligible p ≡ true
  pub listed : has_list e w.land p ≡ true
  pub in_land : w.land < lands_of e
  pub in_party : p < parties_of e

-- it is a winner of that list, and of no other one
module _ (eligible : ℕ → Bool) (e : Election) (j : ℕ) (w : Win) where
  pub says_here : (p : ℕ) → IsSeatable eligible e w p → of_list eligible e (pair_at e (w.land * parties_of e + p)) (j, w) ≡ true
  says_here p seatable =
      let pair = pair_is e w.land p seatable.in_party in
      says_winner eligible e (pair_at e (w.land * parties_of e + p)) j w p seatable.party (λ z. (sym pair z).1) (λ z. (sym pair z).0) seatable.may seatable.listed

  pub says_elsewhere : slice_get e.wins j ≡ Some w → (p : ℕ) → IsSeatable eligible e w p → (q : ℕ) → q ≢ w.land * parties_of e + p → of_list eligible e (pair_at e q) (j, w) ≡ false
  says_elsewhere at p seatable q other =
      false_from_ne_true (of_list eligible e (pair_at e q) (j, w)) (λ says.
      let winner = is_winner eligible e (pair_at e q) (j, w) at says in
      let party : p ≡ (pair_at e q).1 = same_Some p (pair_at e q).1 (sym seatable.party ∙ winner.party) in
      other (sym (div-add-mod' q (parties_of e)) ∙ (λ z. sym winner.land z * parties_of e + sym party z)))

-- all else than cursors and the register of the flag is as it was
pub record OnlyLooked (t u : State) : Type 0 where
  pub columns : u.columns ≡ t.columns
  pub placed : u.placed ≡ t.placed
  pub table : u.table ≡ t.table
  pub registers : (r : ℕ) → (r == reg.BASE) ≡ false → u.registers r ≡ t.registers r

-- the cursors are at the winner of that number, and at this list
pub record IsAtList (j l p : ℕ) (t u : State) : Type 0 where
  pub looked : OnlyLooked t u
  pub win : u.win ≡ Some j
  pub land : u.land ≡ Some l
  pub party : u.party ≡ Some p

-- the column of the parties that are eligible is such a column
abbrev pub HasFlags : Election → CoverSlots → (ℕ → Bool) → (ℕ → ℕ → ℕ) → Type 0
HasFlags e x eligible columns = (party : ℕ) → party < parties_of e → columns x.eligible party ≡ one_if (eligible party)

module _ (c : CountingCode) (e : Election) (x : CoverSlots) (eligible : ℕ → Bool) (is : IsElection e) (slots : HasCoverSlots c x) (j : ℕ) (w : Win) (at : slice_get e.wins j ≡ Some w) where
  pub is_win : IsWin (lands_of e) (parties_of e) w
  is_win =
      let holds : (w : Win) → Type 0 = IsWin (lands_of e) (parties_of e) in
      subst holds (get_or_from_slice_get e.wins j w w at) (All-get_or holds e.wins j w (slice_get_within e.wins j w at) is.places)

  -- a party that is not eligible, or has no list
  not_taking : (p : ℕ) → w.party ≡ Some p → eligible p && has_list e w.land p ≡ false → (l : ℕ × ℕ) → of_list eligible e l (j, w) ≡ false
  not_taking p some not l = of_list_by eligible e l j w (Some p) some ∙ and_left (eligible p && has_list e w.land p) (nat_eq w.land l.0 && nat_eq p l.1) not

  module _ {body : Tree} {Q : State → Type 0} {E : End → Type 0} (t : State) (flags : HasFlags e x eligible t.columns)
      (seatable : (p : ℕ) (u : State) → IsSeatable eligible e w p → IsAtList j w.land p t u → Achieves c e body u Q E)
      (other : (u : State) → ((l : ℕ × ℕ) → of_list eligible e l (j, w) ≡ false) → OnlyLooked t u → Q u) where
    abbrev on_land : State
    on_land = with_land (Some w.land) (with_win (Some j) t)

    with_a_party : (p : ℕ) → w.party ≡ Some p → p < parties_of e →
        Achieves c e (If test.NoList nothing (Then (Line (Get reg.BASE x.eligible ∷ [])) (If (test.Zero reg.BASE) nothing body))) (with_party (Some p) on_land) Q E
    with_a_party p some within =
        let flagged : State = with_register reg.BASE (t.columns x.eligible p) (with_party (Some p) on_land) in
        let flag : t.columns x.eligible p ≡ one_if (eligible p) = flags p within in
        let looked : OnlyLooked t flagged = record {
          columns = refl;
          placed = refl;
          table = refl;
          registers = λ r another. ap (λ (b : Bool). if b then t.columns x.eligible p else t.registers r) another;
        } in
        if_no_list {l = w.land} {p = p} refl refl
        (λ bare. line_ends (other (with_party (Some p) on_land) (not_taking p some (and_right (eligible p) (has_list e w.land p) bare))
        (record { columns = refl; placed = refl; table = refl; registers = λ r another. refl })))
        (λ has.
        line_first (get_does c e (with_party (Some p) on_land) x.eligible shape.Party slots.eligible reg.BASE p refl)
        (line_over (if_zero {r = reg.BASE}
        (λ none. line_ends (other flagged (not_taking p some (and_left (eligible p) (has_list e w.land p) (flag_down (eligible p) (sym flag ∙ none)))) looked))
        (λ m one. seatable p flagged
        (record { party = some; may = flag_up (eligible p) m (sym flag ∙ one); listed = has; in_land = is_win.land; in_party = within })
        (record { looked = looked; win = refl; land = refl; party = refl })))))

    -- the plan for such a winner, and what is to hold for any other
    pub if_seatable_achieves : Achieves c e (if_seatable x body) (with_win (Some j) t) Q E
    if_seatable_achieves =
        line_first (wland_does c e (with_win (Some j) t) w (winner_is e (with_win (Some j) t) j w refl at))
        (line_over (if_no_party (winner_is e on_land j w refl at)
        (λ none. line_ends (other (with_party None on_land) (λ l. of_list_by eligible e l j w None none) (record { columns = refl; placed = refl; table = refl; registers = λ r another. refl })))
        (λ p some. with_a_party p some (subst (λ (o : Option ℕ). ForSome o (λ q. q < parties_of e)) some is_win.party p refl))))

-- The instructions on cursors keep what is known.
use Rattle.std.proofs.Common.{rules, ℕ, zero, suc, ◌+◌, ◌<◌, Bool, true, false, IsTrue, Option, Some, None, IsSome, IsSomeAnd, slice_get, nat_lt, refl, sym, subst, arith, ltb-true}
use Rattle.std.specs.Option.{ForSome, option_and_then}
use Rattle.std.proofs.lemmas.Bool.{true≢false}
use Rattle.std.proofs.lemmas.Option.{same_Some, none-some}
use Rattle.sl_law_meaning.specs.returns.Election.{Election, IsElection, IsWin, lands_of, parties_of, wins_of}
use Rattle.sl_code_instructions.specs.declared.instr.Instr.{Instr}
use Rattle.sl_code_instructions.specs.declared.instr.Instr.TheVariants as op
use Rattle.sl_code_instructions.specs.declared.kinds.Kinds.{Kinds}
use Rattle.sl_code_semantics.specs.Kinds.{win_cursor, covers}
use Rattle.sl_code_semantics.specs.State.{State}
use Rattle.sl_code_semantics.specs.Effects.{Goes, Jumps, winner_at, first_of, next_of, to_party}
use Rattle.sl_code_semantics.proofs.soundness.Sets.{set_covered}
use Rattle.sl_code_semantics.proofs.soundness.Keeping.{Keeps, Follows, keeps_party, keeps_land, keeps_win, follows_either, get_all}

-- what holds of a cursor that is set to a number, and of one that is unset
pub some_for : (P : ℕ → Type 0) (n : ℕ) → P n → ForSome (Some n) P
some_for P n h x same = subst P (same_Some n x same) h

pub none_for : {A : Type 0} (P : A → Type 0) → ForSome None P
none_for P x same = absurd (none-some x same)

pub not_set : IsTrue false → IsSome {T = ℕ} None
not_set t = absurd (true≢false (sym t))

module _ (e : Election) (k : Kinds) (s : State) (h : Keeps e k s) where
  pub first_follows : (i : Instr) (n : ℕ) (set : Option ℕ → State → State) → Follows e k i (Jumps (set None s)) → (0 < n → Follows e k i (Goes (set (Some 0) s)))
      → Follows e k i (first_of n set s)
  first_follows i zero set none some = none
  first_follows i (suc n) set none some = some (omega arith)

  pub next_follows : (i : Instr) (n : ℕ) (cursor : Option ℕ) (set : Option ℕ → State → State) → IsSome cursor
      → ((j : ℕ) → j + 1 < n → Follows e k i (Jumps (set (Some (j + 1)) s))) → Follows e k i (Goes (set None s)) → Follows e k i (next_of n cursor set s)
  next_follows i n None set there more last = cc
  next_follows i n (Some j) set there more last =
      follows_either e k i (nat_lt (j + 1) n) (Jumps (set (Some (j + 1)) s)) (Goes (set None s)) (λ t. more j (ltb-true (j + 1) n t)) (λ f. last)

  pub ruleset cursors_kept = (rules, first_follows, keeps_party, keeps_land, keeps_win, some_for, none_for, not_set)

  -- ---- the winner at the cursor, and its party
  pub winner_here : IsElection e → IsTrue (covers k.cursors win_cursor) → IsSomeAnd (winner_at e s) (IsWin (lands_of e) (parties_of e))
  winner_here election set = found s.win h.range.win ((set_covered k.cursors win_cursor set h.agrees.cursors).win refl)
    where
      found : (win : Option ℕ) → ForSome win (λ w. w < wins_of e) → IsSome win → IsSomeAnd (option_and_then (λ w. slice_get e.wins w) win) (IsWin (lands_of e) (parties_of e))
      found None b t = cc
      found (Some w) b t = get_all (IsWin (lands_of e) (parties_of e)) e.wins w (b w refl) election.places

  pub party_follows : (t : ℕ) (party : Option ℕ) → ForSome party (λ p. p < parties_of e) → Follows e k (op.Wparty t) (to_party party s)
  party_follows t None below = search cursors_kept
  party_follows t (Some p) below = let low = below p refl in search cursors_kept

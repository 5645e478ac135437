-- The instructions on cursors.
use Rattle.std.proofs.Common.{◌≡◌, ℕ, zero, suc, ◌+◌, ◌<◌, Bool, true, false, nat_lt, Option, Some, None, slice_get, if◌then◌else◌, refl, ap, ◌∙◌, arith}
use Rattle.std.specs.Option.{option_and_then}
use Rattle.sl_law_meaning.specs.declared.election.Win.{Win}
use Rattle.sl_law_meaning.specs.returns.Election.{Election, has_list}
use Rattle.sl_code_instructions.specs.declared.instr.Instr.TheVariants as instr
use Rattle.sl_code_instructions.specs.Codes.{CountingCode}
use Rattle.sl_code_semantics.specs.State.{State}
use Rattle.sl_code_semantics.specs.Places.{both}
use Rattle.sl_code_semantics.specs.Effects.{Goes, Jumps, winner_at, to_party, first_of, next_of, with_party, with_land, effect}
use Rattle.sl_code_semantics.proofs.effects.Registers.{given_is}

pub both_are : {A : Type 0} (a b : Option ℕ) (f : ℕ → ℕ → A) (x y : ℕ) → a ≡ Some x → b ≡ Some y → both a b f ≡ Some (f x y)
both_are a b f x y h g = rw (h, g) refl

-- the winner at the cursor
pub winner_is : (e : Election) (s : State) (n : ℕ) (w : Win) → s.win ≡ Some n → slice_get e.wins n ≡ Some w → winner_at e s ≡ Some w
winner_is e s n w h g = ap (option_and_then (λ k. slice_get e.wins k)) h ∙ g

module _ (s : State) (n : ℕ) (set : Option ℕ → State → State) where
  pub first_none : n ≡ 0 → first_of n set s ≡ Jumps (set None s)
  first_none h = ap (λ (m : ℕ). first_of m set s) h

  pub first_some : 0 < n → first_of n set s ≡ Goes (set (Some 0) s)
  first_some h = of n h
    where
      of : (m : ℕ) → 0 < m → first_of m set s ≡ Goes (set (Some 0) s)
      of zero h = absurd (omega arith)
      of (suc m) h = refl

  pub next_is : (cursor : Option ℕ) (i : ℕ) (b : Bool) → cursor ≡ Some i → nat_lt (i + 1) n ≡ b
      → next_of n cursor set s ≡ (if b then Jumps (set (Some (i + 1)) s) else Goes (set None s))
  next_is cursor i b is test =
      ap (λ (o : Option ℕ). next_of n o set s) is ∙ ap (λ (t : Bool). if t then Jumps (set (Some (i + 1)) s) else Goes (set None s)) test

module _ (c : CountingCode) (e : Election) (s : State) where
  -- ---- the list of the Land and the party
  module _ (l p : ℕ) (land : s.land ≡ Some l) (party : s.party ≡ Some p) where
    list_is : (t : ℕ) → effect c e (instr.Jnl t) s ≡ (if has_list e l p then Goes s else Jumps s)
    list_is t = given_is (both s.land s.party (has_list e)) (has_list e l p) (λ there. if there then Goes s else Jumps s) (both_are s.land s.party (has_list e) l p land party)

    pub jnl_falls : (t : ℕ) → has_list e l p ≡ true → effect c e (instr.Jnl t) s ≡ Goes s
    jnl_falls t h = list_is t ∙ ap (λ (b : Bool). if b then Goes s else Jumps s) h

    pub jnl_jumps : (t : ℕ) → has_list e l p ≡ false → effect c e (instr.Jnl t) s ≡ Jumps s
    jnl_jumps t h = list_is t ∙ ap (λ (b : Bool). if b then Goes s else Jumps s) h

  -- ---- the winner's party and Land
  module _ (w : Win) (winner : winner_at e s ≡ Some w) where
    pub wparty_falls : (t p : ℕ) → w.party ≡ Some p → effect c e (instr.Wparty t) s ≡ Goes (with_party (Some p) s)
    wparty_falls t p h = given_is (winner_at e s) w (λ x. to_party x.party s) winner ∙ ap (λ (o : Option ℕ). to_party o s) h

    pub wparty_jumps : (t : ℕ) → w.party ≡ None → effect c e (instr.Wparty t) s ≡ Jumps (with_party None s)
    wparty_jumps t h = given_is (winner_at e s) w (λ x. to_party x.party s) winner ∙ ap (λ (o : Option ℕ). to_party o s) h

    pub wland_does : effect c e instr.Wland s ≡ Goes (with_land (Some w.land) s)
    wland_does = given_is (winner_at e s) w (λ x. Goes (with_land (Some x.land) s)) winner

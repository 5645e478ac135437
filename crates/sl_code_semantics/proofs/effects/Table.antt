-- The instructions on the priority table.
use Rattle.std.proofs.Common.{◌≡◌, ℕ, suc, ◌+◌, min, Bool, true, false, List, length, Some, if◌then◌else◌, refl, ap, ◌∙◌}
use Rattle.sl_base_quotients.specs.declared.entry.Entry.{Entry}
use Rattle.sl_base_quotients.specs.declared.limits.TheConstants.{MAX_WEIGHT, MAX_SEATS}
use Rattle.sl_base_quotients.specs.declared.method.Divisor.{Divisor}
use Rattle.sl_base_quotients.specs.Quotient.{Quotient, quotient}
use Rattle.sl_law_meaning.specs.declared.election.Win.{Win}
use Rattle.sl_law_meaning.specs.returns.Election.{Election}
use Rattle.sl_code_instructions.specs.declared.instr.Instr.TheVariants as instr
use Rattle.sl_code_instructions.specs.declared.operand.Ranking.{Ranking}
use Rattle.sl_code_instructions.specs.declared.operand.Ranking.TheVariants as ranking
use Rattle.sl_code_instructions.specs.Codes.{CountingCode}
use Rattle.sl_base_rankings.specs.Peers.{top, peers, is_covered}
use Rattle.sl_base_rankings.specs.Lot.{drawn}
use Rattle.sl_code_semantics.specs.State.{State, PriorityTable, with_register}
use Rattle.sl_code_semantics.specs.Places.{index_at, at_entry}
use Rattle.sl_code_semantics.specs.Drawn.{lot_of}
use Rattle.sl_code_semantics.specs.Effects.{Effect, Goes, Jumps, NoCase, winner_at, enters, takes, counts_peers, with_table, with_entry, after_take, name_of, with_lot, effect}
use Rattle.sl_code_semantics.proofs.soundness.Keeping.{same_ranking-itself}
use Rattle.sl_code_semantics.proofs.effects.Registers.{given_is, positive_is}

-- the entry with that quotient that is put in at the cursors
abbrev pub entered : Quotient → ℕ → PriorityTable → State → State
entered q index t s = with_table (with_entry (record { ratio = q; index = index }) t) s

-- the state after an entry is taken
abbrev pub taken : Election → PriorityTable → Entry → State → State
taken e t x s = at_entry e t.entries x.index (after_take x t s)

module _ (c : CountingCode) (e : Election) (s : State) where
  module _ (t : PriorityTable) (table : s.table ≡ Some t) where
    -- ---- entries that go in
    module _ (index : ℕ) (at : index_at e t.entries s ≡ Some index) where
      enters_is : (by : Ranking) (q : Quotient) → t.ranking ≡ by → enters e by q s ≡ Goes (entered q index t s)
      enters_is by q so =
          given_is s.table t _ table ∙ given_is (index_at e t.entries s) index _ at
          ∙ ap (λ (b : Bool). if b then Goes (entered q index t s) else NoCase) (same_ranking-itself t.ranking by so)

      pub prio_does : (m : Divisor) (r held w : ℕ) → s.registers r ≡ suc w → t.ranking ≡ ranking.Quotients
          → effect c e (instr.Prio m r held) s ≡ Goes (entered (quotient m (min (s.registers r) MAX_WEIGHT) (min (s.registers held) MAX_SEATS)) index t s)
      prio_does m r held w positive so =
          positive_is (s.registers r) w _ positive ∙ enters_is ranking.Quotients (quotient m (min (s.registers r) MAX_WEIGHT) (min (s.registers held) MAX_SEATS)) so

      pub rest_does : (r : ℕ) → t.ranking ≡ ranking.Remainders → effect c e (instr.Rest r) s ≡ Goes (entered (record { num = s.registers r + 1; den = 1 }) index t s)
      rest_does r so = enters_is ranking.Remainders (record { num = s.registers r + 1; den = 1 }) so

      pub lead_does : t.ranking ≡ ranking.Remainders → effect c e instr.Lead s ≡ Goes (entered (record { num = 1; den = 0 }) index t s)
      lead_does so = enters_is ranking.Remainders (record { num = 1; den = 0 }) so

      pub share_does : (w : Win) → winner_at e s ≡ Some w → t.ranking ≡ ranking.Quotients → effect c e instr.Share s ≡ Goes (entered (record { num = w.first; den = w.valid }) index t s)
      share_does w winner so = given_is (winner_at e s) w _ winner ∙ enters_is ranking.Quotients (record { num = w.first; den = w.valid }) so

    -- ---- peers
    peers_are : (r n t : ℕ) (u : PriorityTable) → s.table ≡ Some u → length (peers u.contents) ≡ n → effect c e (instr.Peers r t) s ≡ counts_peers r n s
    peers_are r n t u is many = given_is s.table u (λ v. counts_peers r (length (peers v.contents)) s) is ∙ ap (λ (m : ℕ). counts_peers r m s) many

    pub peers_jumps : (r to : ℕ) → length (peers t.contents) ≡ 0 → effect c e (instr.Peers r to) s ≡ Jumps s
    peers_jumps r to none = peers_are r 0 to t table none

    pub peers_falls : (r to n : ℕ) → length (peers t.contents) ≡ suc n → effect c e (instr.Peers r to) s ≡ Goes (with_register r (suc n) s)
    peers_falls r to n some = peers_are r (suc n) to t table some

    -- ---- entries that are taken
    pub take_does : (x : Entry) → top t.contents ≡ Some x → effect c e instr.Take s ≡ Goes (taken e t x s)
    take_does x first = given_is s.table t (λ u. takes e u (top u.contents) s) table ∙ given_is (top t.contents) x (λ y. Goes (taken e t y s)) first

    module _ (n : ℕ) (first : Entry) (name : List ℕ) (some : top t.contents ≡ Some first) (named : name_of c.stages n ≡ Some name) where
      with_lot_is : (go : PriorityTable → List ℕ → Effect) → with_lot c e n s go ≡ go t (lot_of e t.entries name)
      with_lot_is go = rw (table, some, named) refl

      lot_is : (to : ℕ) (b : Bool) → is_covered (lot_of e t.entries name) t.contents ≡ b → effect c e (instr.Lot n to) s ≡ (if b then Goes s else Jumps s)
      lot_is to b h = with_lot_is (λ u lot. if is_covered lot u.contents then Goes s else Jumps s) ∙ ap (λ (x : Bool). if x then Goes s else Jumps s) h

      pub lot_falls : (to : ℕ) → is_covered (lot_of e t.entries name) t.contents ≡ true → effect c e (instr.Lot n to) s ≡ Goes s
      lot_falls to h = lot_is to true h

      pub lot_jumps : (to : ℕ) → is_covered (lot_of e t.entries name) t.contents ≡ false → effect c e (instr.Lot n to) s ≡ Jumps s
      lot_jumps to h = lot_is to false h

      pub takelot_does : (x : Entry) → drawn (lot_of e t.entries name) t.contents ≡ Some x → effect c e (instr.Takelot n) s ≡ Goes (taken e t x s)
      takelot_does x h = with_lot_is (λ u lot. takes e u (drawn lot u.contents) s) ∙ given_is (drawn (lot_of e t.entries name) t.contents) x _ h

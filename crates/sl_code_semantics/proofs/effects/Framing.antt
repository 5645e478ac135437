-- What an instruction cannot write stays.
use Rattle.std.proofs.Common.{◌≡◌, ℕ, zero, suc, Bool, true, false, ◌==◌, Option, Some, None, if◌then◌else◌, refl, ap, rules, append-nil}
use Rattle.sl_law_meaning.specs.declared.table.Mark.{Mark}
use Rattle.sl_law_meaning.specs.returns.Election.{Election}
use Rattle.sl_code_instructions.specs.declared.instr.Instr.{Instr}
use Rattle.sl_code_instructions.specs.declared.instr.Instr.TheVariants as instr
use Rattle.sl_code_instructions.specs.declared.operand.Entries.{Entries}
use Rattle.sl_code_instructions.specs.declared.operand.Entries.TheVariants as entries
use Rattle.sl_code_instructions.specs.Codes.{CountingCode}
use Rattle.sl_code_semantics.specs.State.{State, PriorityTable}
use Rattle.sl_code_semantics.specs.Places.{at_entry}
use Rattle.sl_code_semantics.specs.Effects.{Effect, effect, given, where_positive, to_party, first_of, seat_winner, sets_house, counts_peers}
use Rattle.sl_code_semantics.specs.Frames.{writes_register, is_at, moves_party, moves_land, moves_win, writes_table, writes_mark, writes_place, KeepsOthers, Frames}

-- ---- the forms of effects
module _ (c : CountingCode) (e : Election) (s : State) (i : Instr) where
  in_given : {A : Type 0} (o : Option A) (go : A → Effect) → ((x : A) → o ≡ Some x → Frames c e i s (go x)) → Frames c e i s (given o go)
  in_given None go h = tt
  in_given (Some x) go h = h x refl

  in_positive : (n : ℕ) (x : Effect) → Frames c e i s x → Frames c e i s (where_positive n x)
  in_positive zero x h = tt
  in_positive (suc n) x h = h

  in_if : (b : Bool) (x y : Effect) → Frames c e i s x → Frames c e i s y → Frames c e i s (if b then x else y)
  in_if true x y h g = h
  in_if false x y h g = g

  first_kept : (n : ℕ) (set : Option ℕ → State → State) → ((o : Option ℕ) → KeepsOthers c e i s (set o s)) → Frames c e i s (first_of n set s)
  first_kept zero set f = f None
  first_kept (suc n) set f = f (Some 0)

  to_party_kept : (party : Option ℕ) → moves_party i ≡ true → Frames c e i s (to_party party s)
  to_party_kept None moves = search (rules, append-nil)
  to_party_kept (Some p) moves = search (rules, append-nil)

  house_kept : (r : ℕ) (house : Option ℕ) → ((q : ℕ) → writes_register i q ≡ (q == r)) → Frames c e i s (sets_house r house s)
  house_kept r None is = search (rules, append-nil, is)
  house_kept r (Some x) is = search (rules, append-nil, is)

  count_kept : (r n : ℕ) → ((q : ℕ) → writes_register i q ≡ (q == r)) → Frames c e i s (counts_peers r n s)
  count_kept r zero is = search (rules, append-nil, is)
  count_kept r (suc n) is = search (rules, append-nil, is)

  seats_kept : (w : ℕ) (party : Option ℕ) (listed : ℕ → Bool) → ((v : ℕ) → writes_place s i v ≡ (v == w)) → Frames c e i s (seat_winner w party listed s)
  seats_kept w None listed is = search (rules, append-nil)
  seats_kept w (Some p) listed is = in_if (listed p) _ _ (search (rules, append-nil, is)) (search (rules, append-nil))

-- the winner at the cursor
seats_at : (s : State) (w : ℕ) → s.win ≡ Some w → (v : ℕ) → is_at s.win v ≡ (v == w)
seats_at s w is v = ap (λ (o : Option ℕ). is_at o v) is

-- an entry is taken: cursors, table and mark change
taken_kept : (c : CountingCode) (e : Election) (i : Instr) (s : State) (k : Entries) (index : ℕ) (table : Option PriorityTable) (m : Mark) → moves_party i ≡ true → moves_land i ≡ true → moves_win i ≡ true → writes_table i ≡ true → writes_mark i ≡ true
    → KeepsOthers c e i s (at_entry e k index (record s { table = table; mark = m }))
taken_kept c e i s entries.Party index table m p l w t marks = search (rules, append-nil)
taken_kept c e i s k index table m p l w t marks = search (rules, append-nil)

module _ (c : CountingCode) (e : Election) (s : State) where
  ruleset framing = (rules, append-nil, in_given, in_positive, in_if, first_kept, to_party_kept, house_kept, count_kept, seats_kept, seats_at, taken_kept)

  -- what an instruction cannot write stays
  pub frames : (i : Instr) → Frames c e i s (effect c e i s)
  frames instr.Wland = search framing
  frames i = search framing

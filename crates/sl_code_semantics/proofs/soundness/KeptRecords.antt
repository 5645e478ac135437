-- The instructions that record seats and weights, that seat winners and that end the run keep what is known.
use Rattle.std.proofs.Common.{ℕ, ◌<◌, Bool, not, IsTrue, Option, Some, None, IsSomeAnd, refl, sym, subst}
use Rattle.std.specs.Bool.{⊤}
use Rattle.std.proofs.lemmas.Bool.{and_parts}
use Rattle.sl_law_meaning.specs.declared.fault.Scope.{Scope}
use Rattle.sl_law_meaning.specs.declared.table.Mark.{Mark}
use Rattle.sl_law_meaning.specs.declared.table.Placed.{Placed}
use Rattle.sl_law_meaning.specs.declared.table.Placed.TheVariants as placed
use Rattle.sl_law_meaning.specs.returns.Election.{Election, wins_of}
use Rattle.sl_code_instructions.specs.Codes.{CountingCode}
use Rattle.sl_code_instructions.specs.declared.instr.Instr.{Instr}
use Rattle.sl_code_instructions.specs.declared.instr.Instr.TheVariants as op
use Rattle.sl_code_instructions.specs.declared.kinds.Kinds.{Kinds}
use Rattle.sl_code_instructions.specs.declared.operand.Entries.TheVariants as entries
use Rattle.sl_code_instructions.specs.declared.operand.ScopeKind.{ScopeKind}
use Rattle.sl_code_instructions.specs.declared.operand.ScopeKind.TheVariants as kind
use Rattle.sl_code_semantics.specs.Kinds.{covers, same_entries, win_cursor}
use Rattle.sl_code_semantics.specs.Needs.{entry_cursors, scope_cursors, has_stage, is_table, points_at}
use Rattle.sl_code_semantics.specs.WellKinded.{context_of}
use Rattle.sl_code_semantics.specs.State.{State, PriorityTable, with_place}
use Rattle.sl_code_semantics.specs.Places.{index_at, scope_at}
use Rattle.sl_code_semantics.specs.Effects.{Effect, Goes, given, at_scope, records, seat_winner, stage_of}
use Rattle.sl_code_semantics.specs.Safe.{entries_in}
use Rattle.sl_code_semantics.specs.Agrees.{AreSet}
use Rattle.sl_code_semantics.proofs.soundness.Sets.{set_covered}
use Rattle.sl_code_semantics.proofs.soundness.Keeping.{Keeps, Follows, keeps_records, follows_given, follows_either}
use Rattle.sl_code_semantics.proofs.soundness.KeptColumns.{set_some, both_set}
use Rattle.sl_code_semantics.proofs.soundness.KeptEntries.{IsKnown, table_there, cursor_there, index_there}
use Rattle.sl_code_semantics.proofs.soundness.KeptTables.{mapped_there, chosen_there}

scope_there : (scope : ScopeKind) (s : State) → AreSet (scope_cursors scope) s.party s.land s.win → IsSomeAnd (scope_at scope s) (λ x. ⊤)
scope_there kind.All s set = tt
scope_there kind.Land s set = mapped_there _ s.land (set_some s.land (set.land refl))
scope_there kind.Party s set = mapped_there _ s.party (set_some s.party (set.party refl))
scope_there kind.List s set = both_set s.land s.party _ (set.land refl) (set.party refl)

module _ (c : CountingCode) (e : Election) (k : Kinds) (s : State) (h : Keeps e k s) where
  -- ---- a stage's scope, and an entry at the cursors
  pub scope_follows : (i : Instr) (n : ℕ) (scope : ScopeKind) (go : ℕ → Scope → Effect) → IsTrue (has_stage (context_of c) n) → IsTrue (covers k.cursors (scope_cursors scope))
      → ((stage : ℕ) (x : Scope) → Follows e k i (go stage x)) → Follows e k i (at_scope c e n scope s go)
  scope_follows i n scope go stage cursors f =
      follows_given e k i (λ x. ⊤) (stage_of c.stages n) _ (chosen_there c n _ _ stage) (λ at is any.
      follows_given e k i (λ x. ⊤) (scope_at scope s) _ (scope_there scope s (set_covered k.cursors (scope_cursors scope) cursors h.agrees.cursors)) (λ x found any_too. f at x))

  pub entry_follows : (i : Instr) (go : PriorityTable → ℕ → Effect) → IsTrue (is_table (points_at k.cursors) k.table) → ((t : PriorityTable) (index : ℕ) → Follows e k i (go t index))
      → Follows e k i (given s.table (λ t. given (index_at e t.entries s) (λ index. go t index)))
  entry_follows i go table f =
      follows_given e k i (IsKnown (points_at k.cursors) k.table) s.table _ (table_there (points_at k.cursors) k.table s.table table h.agrees.table) (λ t now_is known.
      let test = and_parts (not (same_entries known.state.entries entries.Win)) (covers k.cursors (entry_cursors known.state.entries)) known.passes in
      let set = set_covered k.cursors (entry_cursors known.state.entries) test.1 h.agrees.cursors in
      let here = subst (λ x. AreSet (entry_cursors x) s.party s.land s.win) (sym known.is.entries) set in
      follows_given e k i (λ index. index < entries_in e t.entries) (index_at e t.entries s) _ (index_there e t.entries s here h.range) (λ index at below. f t index))

  -- ---- what is recorded
  pub records_follows : (i : Instr) (n : ℕ) (scope : ScopeKind) (number step : ℕ) (m : Mark) → IsTrue (has_stage (context_of c) n) → IsTrue (covers k.cursors (scope_cursors scope))
      → IsTrue (is_table (points_at k.cursors) k.table) → ((u : State) → Keeps e k u → Follows e k i (Goes u)) → Follows e k i (records c e n scope number step m s)
  records_follows i n scope number step m stage cursors table goes =
      scope_follows i n scope _ stage cursors (λ at x. entry_follows i _ table (λ t index. goes _ (keeps_records e k s h s.columns s.mark _ s.weights s.placed)))

  -- ---- winners
  pub win_there : IsTrue (covers k.cursors win_cursor) → IsSomeAnd s.win (λ w. w < wins_of e)
  win_there set = cursor_there s.win (wins_of e) ((set_covered k.cursors win_cursor set h.agrees.cursors).win refl) h.range.win

  pub placed_there : (w : ℕ) (p : Placed) → Keeps e k (with_place w p s)
  placed_there w p = keeps_records e k s h s.columns s.mark s.steps s.weights _

  pub seats_follow : (w : ℕ) (listed : ℕ → Bool) (party : Option ℕ) → Follows e k op.Seat (seat_winner w party listed s)
  seats_follow w listed None = h
  seats_follow w listed (Some p) = follows_either e k op.Seat (listed p) (Goes (with_place w placed.OnList s)) (Goes s) (λ yes. placed_there w placed.OnList) (λ no. h)

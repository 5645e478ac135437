-- The instructions that enter entries in the table keep what is known.
use Rattle.std.proofs.Common.{◌≡◌, ℕ, suc, ◌+◌, ◌*◌, ◌<◌, Bool, not, IsTrue, Option, Some, None, IsSome, IsSomeAnd, refl, sym, subst, ◌∙◌, arith, mul-le-mul_right, suc-mul, ◌≤◌, if◌then◌else◌}
use Rattle.std.specs.Option.{ForSome}
use Rattle.std.proofs.lemmas.Bool.{and_parts, both_ways}
use Rattle.sl_base_quotients.specs.declared.entry.Entry.{Entry}
use Rattle.sl_base_quotients.specs.Quotient.{Quotient}
use Rattle.sl_law_meaning.specs.returns.Election.{Election, IsElection, lands_of, parties_of, wins_of}
use Rattle.sl_code_instructions.specs.Codes.{CountingCode}
use Rattle.sl_code_instructions.specs.declared.instr.Instr.{Instr}
use Rattle.sl_code_instructions.specs.declared.instr.Instr.TheVariants as op
use Rattle.sl_code_instructions.specs.declared.kinds.Kinds.{Kinds}
use Rattle.sl_code_instructions.specs.declared.kinds.TableState.{TableState}
use Rattle.sl_code_instructions.specs.declared.operand.Entries.{Entries}
use Rattle.sl_code_instructions.specs.declared.operand.Entries.TheVariants as entries
use Rattle.sl_code_instructions.specs.declared.operand.Ranking.{Ranking}
use Rattle.sl_code_instructions.specs.declared.operand.Ranking.TheVariants as ranking
use Rattle.sl_code_semantics.specs.Kinds.{covers, same_entries, same_ranking, win_cursor}
use Rattle.sl_code_semantics.specs.Needs.{entry_cursors, table_cursors, is_table, takes_entry, takes_share}
use Rattle.sl_code_semantics.specs.State.{State, PriorityTable}
use Rattle.sl_code_semantics.specs.Places.{both, index_at}
use Rattle.sl_code_semantics.specs.Effects.{Effect, Goes, NoCase, given, with_table, with_entry, winner_at}
use Rattle.sl_code_semantics.specs.Safe.{IsInRange, entries_in}
use Rattle.sl_code_semantics.specs.Agrees.{AreSet, IsTable, HasTable}
use Rattle.sl_code_semantics.proofs.soundness.Sets.{set_covered}
use Rattle.sl_code_semantics.proofs.soundness.TableLemmas.{inserted_all, inserted_some}
use Rattle.sl_code_semantics.proofs.soundness.Keeping.{Keeps, Follows, keeps_table, follows_given, follows_either, same_entries-is, same_ranking-is, same_ranking-itself, IsSound}
use Rattle.sl_code_semantics.proofs.soundness.KeptCursors.{winner_here}

-- a table that is known to be on and to pass a test
pub record IsKnown (p : TableState → Bool) (known : Option TableState) (t : PriorityTable) : Type 0 where
  pub state : TableState
  pub known_is : known ≡ Some state
  pub passes : IsTrue (p state)
  pub is : IsTable state t

pub table_there : (p : TableState → Bool) (known : Option TableState) (table : Option PriorityTable) → IsTrue (is_table p known) → HasTable known table
    → IsSomeAnd table (IsKnown p known)
table_there p None table h has = cc
table_there p (Some x) None h has = absurd has
table_there p (Some x) (Some t) h has = record { state = x; known_is = refl; passes = h; is = has }

-- the cursors of its entries
pub known_cursors : {a b c : Option ℕ} (p : TableState → Bool) (known : Option TableState) (t : PriorityTable) → IsKnown p known t → AreSet (table_cursors known) a b c
    → AreSet (entry_cursors t.entries) a b c
known_cursors {a} {b} {c} p known t h set =
    subst (λ (x : Entries). AreSet (entry_cursors x) a b c) (sym h.is.entries) (subst (λ (o : Option TableState). AreSet (table_cursors o) a b c) h.known_is set)

-- the number of a list is in range
pub list_below : (l p lands parties : ℕ) → l < lands → p < parties → l * parties + p < lands * parties
list_below l p lands parties low small =
    let more : suc l * parties ≤ lands * parties = mul-le-mul_right parties low in
    let split : suc l * parties ≡ l * parties + parties = suc-mul l parties in
    omega arith

pub cursor_there : (cursor : Option ℕ) (n : ℕ) → IsSome cursor → ForSome cursor (λ x. x < n) → IsSomeAnd cursor (λ x. x < n)
cursor_there None n h below = cc
cursor_there (Some x) n h below = below x refl

list_there : (land party : Option ℕ) (lands parties : ℕ) → IsSome land → IsSome party → ForSome land (λ l. l < lands) → ForSome party (λ p. p < parties)
    → IsSomeAnd (both land party (λ l p. l * parties + p)) (λ x. x < lands * parties)
list_there (Some l) (Some p) lands parties h g below_land below_party = list_below l p lands parties (below_land l refl) (below_party p refl)
list_there land party lands parties h g below_land below_party = cc

-- the entry at the cursors is in range
pub index_there : (e : Election) (kind : Entries) (s : State) → AreSet (entry_cursors kind) s.party s.land s.win → IsInRange e s
    → IsSomeAnd (index_at e kind s) (λ n. n < entries_in e kind)
index_there e entries.Party s set range = cursor_there s.party (parties_of e) (set.party refl) range.party
index_there e entries.Land s set range = cursor_there s.land (lands_of e) (set.land refl) range.land
index_there e entries.List s set range = list_there s.land s.party (lands_of e) (parties_of e) (set.land refl) (set.party refl) range.land range.party
index_there e entries.Win s set range = cursor_there s.win (wins_of e) (set.win refl) range.win

module _ (c : CountingCode) (e : Election) (k : Kinds) (s : State) (h : Keeps e k s) where
  module _ (p : TableState → Bool) (t : PriorityTable) (now_is : s.table ≡ Some t) (known : IsKnown p k.table t) (q : Quotient) where
    abbrev with_index : ℕ → PriorityTable
    with_index index = with_entry (record { ratio = q; index = index }) t

    entered : (index : ℕ) → index < entries_in e t.entries → Keeps e k (with_table (with_index index) s)
    entered index below =
        let entry : Entry = record { ratio = q; index = index } in
        let is : IsTable known.state (with_index index) = record { entries = known.is.entries; ranking = known.is.ranking; ready = λ r. inserted_some entry t.contents } in
        let all = inserted_all (λ x. x.index < entries_in e t.entries) entry t.contents below (h.range.table t now_is) in
        let kept = keeps_table e k s h known.state (with_index index) is all in
        subst (λ (o : Option TableState). Keeps e (record k { table = o }) (with_table (with_index index) s)) (sym known.known_is) kept

    -- the table's own ranking
    entering : (i : Instr) (by : Ranking) → t.ranking ≡ by → AreSet (entry_cursors t.entries) s.party s.land s.win → ((u : State) → Keeps e k u → Follows e k i (Goes u))
        → Follows e k i (given (index_at e t.entries s) (λ index. if same_ranking by t.ranking then Goes (with_table (with_index index) s) else NoCase))
    entering i by so set goes =
        follows_given e k i (λ index. index < entries_in e t.entries) (index_at e t.entries s) _ (index_there e t.entries s set h.range) (λ index at below.
        follows_either e k i (same_ranking by t.ranking) (Goes (with_table (with_index index) s)) NoCase (λ yes. goes _ (entered index below)) (λ no. both_ways _ no (same_ranking-itself t.ranking by so)))

  -- what enters the cursors' entry in a table with that ranking
  abbrev entry_of : Ranking → Quotient → Effect
  entry_of by q = given s.table (λ t. given (index_at e t.entries s) (λ index.
      if same_ranking by t.ranking then Goes (with_table (with_entry (record { ratio = q; index = index }) t) s) else NoCase))

  -- an entry of a party, a Land or a list
  pub entry_follows : (i : Instr) (by : Ranking) (q : Quotient) → IsTrue (is_table (takes_entry by) k.table) → IsTrue (covers k.cursors (table_cursors k.table))
      → ((u : State) → Keeps e k u → Follows e k i (Goes u)) → Follows e k i (entry_of by q)
  entry_follows i by q table cursors goes =
      follows_given e k i (IsKnown (takes_entry by) k.table) s.table _ (table_there (takes_entry by) k.table s.table table h.agrees.table) (λ t now_is known.
      let test = and_parts (not (same_entries known.state.entries entries.Win)) (same_ranking known.state.ranking by) known.passes in
      let so = known.is.ranking ∙ same_ranking-is known.state.ranking by test.1 in
      let set = known_cursors (takes_entry by) k.table t known (set_covered k.cursors (table_cursors k.table) cursors h.agrees.cursors) in
      entering (takes_entry by) t now_is known q i by so set goes)

  pub share_follows : IsElection e → IsSound c e k s op.Share
  share_follows election n =
      let cursors = set_covered k.cursors win_cursor n.cursors h.agrees.cursors in
      follows_given e k op.Share _ (winner_at e s) _ (winner_here e k s h election n.cursors) (λ w is win.
      follows_given e k op.Share (IsKnown takes_share k.table) s.table _ (table_there takes_share k.table s.table n.table h.agrees.table) (λ t now_is known.
      let test = and_parts (same_entries known.state.entries entries.Win) (same_ranking known.state.ranking ranking.Quotients) known.passes in
      let wins : t.entries ≡ entries.Win = known.is.entries ∙ same_entries-is known.state.entries entries.Win test.0 in
      let so = known.is.ranking ∙ same_ranking-is known.state.ranking ranking.Quotients test.1 in
      let set = subst (λ (x : Entries). AreSet (entry_cursors x) s.party s.land s.win) (sym wins) cursors in
      entering takes_share t now_is known (record { num = w.first; den = w.valid }) op.Share ranking.Quotients so set (λ u a. a)))

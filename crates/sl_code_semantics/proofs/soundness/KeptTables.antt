-- The instructions that ask for the table's peers and take entries out keep what is known.
use Rattle.std.proofs.Common.{rules, ◌≡◌, ◌≢◌, ℕ, zero, suc, ◌*◌, ◌/◌, ◌%◌, ◌<◌, Bool, true, false, ◌||◌, IsTrue, List, [], length, Option, Some, None, IsSomeAnd, All, ◌==◌, nat_lt, refl, sym, ap, subst, ◌∙◌, arith, mod-lt, div-lt_iff_lt-mul, slice_get, option_map, if◌then◌else◌, ltb-true, eq-zero-or-pos, mul-zero, inl, inr}
use Rattle.std.specs.Bool.{⊤}
use Rattle.std.specs.Option.{ForSome}
use Rattle.std.proofs.lemmas.Bool.{true≢false}
use Rattle.std.proofs.lemmas.Option.{same_Some}
use Rattle.sl_base_quotients.specs.declared.entry.Entry.{Entry}
use Rattle.sl_law_meaning.specs.returns.Election.{Election, lands_of, parties_of}
use Rattle.sl_code_instructions.specs.Codes.{CountingCode}
use Rattle.sl_code_instructions.specs.declared.code.CodeStage.{CodeStage}
use Rattle.sl_code_instructions.specs.declared.instr.Instr.{Instr}
use Rattle.sl_code_instructions.specs.declared.instr.Instr.TheVariants as op
use Rattle.sl_code_instructions.specs.declared.kinds.Kinds.{Kinds}
use Rattle.sl_code_instructions.specs.declared.kinds.TableState.{TableState}
use Rattle.sl_code_instructions.specs.declared.operand.Entries.{Entries}
use Rattle.sl_code_instructions.specs.declared.operand.Entries.TheVariants as entries
use Rattle.sl_code_semantics.specs.declared.known.TheConstants.{LAST_CLAUSE}
use Rattle.sl_code_semantics.specs.Kinds.{is_register, join}
use Rattle.sl_code_semantics.specs.Needs.{entry_cursors, table_cursors, has_stage, is_table}
use Rattle.sl_code_semantics.specs.Leaves.{with_ready}
use Rattle.sl_code_semantics.specs.WellKinded.{context_of}
use Rattle.sl_code_semantics.specs.State.{State, PriorityTable}
use Rattle.sl_code_semantics.specs.Places.{at_entry}
use Rattle.sl_base_rankings.specs.Ranking.{without}
use Rattle.sl_code_semantics.specs.Drawn.{lot_of}
use Rattle.sl_code_semantics.specs.Effects.{Effect, Goes, counts_peers, takes, mark_of, name_of, with_lot}
use Rattle.sl_code_semantics.specs.Safe.{entries_in}
use Rattle.sl_code_semantics.specs.Agrees.{IsTable, HasTable}
use Rattle.sl_base_rankings.specs.Peers.{top, peers}
use Rattle.sl_base_rankings.specs.Lot.{drawn}
use Rattle.sl_code_semantics.proofs.soundness.Sets.{positive_written}
use Rattle.sl_code_semantics.proofs.soundness.TableLemmas.{top_all, drawn_all, peers_some, without_all}
use Rattle.sl_code_semantics.proofs.soundness.Keeping.{Keeps, Follows, keeps_registers, keeps_records, keeps_cursors, keeps_known, keeps_table, follows_given, get_some, IsSound}
use Rattle.sl_code_semantics.proofs.soundness.KeptCursors.{some_for}
use Rattle.sl_code_semantics.proofs.soundness.KeptEntries.{IsKnown, table_there}

-- ---- the cursors of an entry
either_none : (b : Bool) → IsTrue (b || false) → IsTrue b
either_none true h = refl
either_none false h = h

-- the Land and the party of a list's number
pub list_parts : (index lands parties : ℕ) → index < lands * parties → (index / parties < lands) × (index % parties < parties)
list_parts index lands parties below =
    let some : 0 < parties = elim (eq-zero-or-pos parties) [
      | inl none ↦ let zero : lands * parties ≡ 0 = ap (λ x. lands * x) none ∙ mul-zero lands in absurd (omega arith)
      | inr some ↦ some
    ] in
    ((div-lt_iff_lt-mul some).1 below, mod-lt index some)

-- the cursors reach an entry in range
pub pointed : (e : Election) (k : Kinds) (s : State) (kind : Entries) (index : ℕ) → index < entries_in e kind → Keeps e k s
    → Keeps e (record k { cursors = join k.cursors (entry_cursors kind) }) (at_entry e kind index s)
pointed e k s entries.List index below h =
    let parts = list_parts index (lands_of e) (parties_of e) below in
    let win = h.agrees.cursors.win in
    search (rules, keeps_cursors, some_for, either_none)
pointed e k s kind index below h =
    let party = h.agrees.cursors.party in
    let land = h.agrees.cursors.land in
    let win = h.agrees.cursors.win in
    search (rules, keeps_cursors, some_for, either_none)

-- ---- stages
pub mapped_there : {A B : Type 0} (f : A → B) (o : Option A) → IsSomeAnd o (λ y. ⊤) → IsSomeAnd (option_map f o) (λ y. ⊤)
mapped_there f None h = h
mapped_there f (Some x) h = tt

-- what is recorded of a stage that exists, or of the last clause
pub chosen_there : {A : Type 0} (c : CountingCode) (n : ℕ) (x : A) (f : CodeStage → A) → IsTrue (has_stage (context_of c) n)
    → IsSomeAnd (if n == LAST_CLAUSE then Some x else option_map f (slice_get c.stages n)) (λ y. ⊤)
chosen_there {A} c n x f h = of (n == LAST_CLAUSE) h
  where
    of : (last : Bool) → IsTrue (last || nat_lt n (length c.stages)) → IsSomeAnd {T = A} (if last then Some x else option_map f (slice_get c.stages n)) (λ y. ⊤)
    of true t = tt
    of false t = mapped_there f (slice_get c.stages n) (get_some c.stages n (ltb-true n (length c.stages) t))

-- a table that is known to be ready
abbrev pub is_ready : TableState → Bool
is_ready t = t.ready

module _ (c : CountingCode) (e : Election) (k : Kinds) (s : State) (h : Keeps e k s) where
  -- ---- peers
  ready_table : (known : Option TableState) (table : Option PriorityTable) → ForSome table (λ t. t.contents ≢ []) → HasTable known table → HasTable (with_ready true known) table
  ready_table None table some has = tt
  ready_table (Some x) None some has = has
  ready_table (Some x) (Some t) some has = record { entries = has.entries; ranking = has.ranking; ready = λ r. some t refl }

  pub peers_follows : (r t : ℕ) → IsSound c e k s (op.Peers r t)
  peers_follows r t n =
      let p : TableState → Bool = λ t. true in
      follows_given e k (op.Peers r t) (IsKnown p k.table) s.table _ (table_there p k.table s.table n.table h.agrees.table) (λ table now_is known.
      counted table now_is n.registers (length (peers table.contents)) refl)
    where
      counted : (table : PriorityTable) → s.table ≡ Some table → IsTrue (is_register r) → (m : ℕ) → length (peers table.contents) ≡ m → Follows e k (op.Peers r t) (counts_peers r m s)
      counted table now_is here zero count = (refl, h)
      counted table now_is here (suc m) count =
          let some : table.contents ≢ [] = peers_some table.contents (omega arith) in
          let ready = ready_table k.table s.table (λ u same. subst (λ (v : PriorityTable). v.contents ≢ []) (same_Some table u (sym now_is ∙ same)) some) h.agrees.table in
          let kept = keeps_known e k s h (with_ready true k.table) ready in
          keeps_registers e _ s kept _ _ (positive_written true r (suc m) k.positive s.registers here (λ t. omega arith) h.agrees.positive)

  -- ---- what is taken
  module _ (t : PriorityTable) (now_is : s.table ≡ Some t) (known : IsKnown is_ready k.table t) where
    filled : t.contents ≢ []
    filled = known.is.ready known.passes

    -- the table's entries are in range
    abbrev below : Entry → Type 0
    below x = x.index < entries_in e t.entries

    all_below : All below t.contents
    all_below = h.range.table t now_is

    -- the kinds after what takes an entry of such a table
    abbrev taken_kinds : Option TableState → Kinds
    taken_kinds o = record { positive = k.positive; cursors = join k.cursors (table_cursors o); table = with_ready false o }

    taken : (x : Entry) → below x
        → Keeps e (taken_kinds k.table) (at_entry e t.entries x.index (record s { table = Some (record t { contents = without x t.contents }); mark = mark_of t.ranking x.ratio }))
    taken x under =
        let rest : PriorityTable = record t { contents = without x t.contents } in
        let state : TableState = record known.state { ready = false } in
        let is : IsTable state rest = record { entries = known.is.entries; ranking = known.is.ranking; ready = λ r. absurd (true≢false (sym r)) } in
        let without_it = keeps_table e k s h state rest is (without_all below x t.contents all_below) in
        let marked = keeps_records e _ _ without_it s.columns (mark_of t.ranking x.ratio) s.steps s.weights s.placed in
        let end : State = at_entry e t.entries x.index (record s { table = Some rest; mark = mark_of t.ranking x.ratio }) in
        let at = pointed e _ _ t.entries x.index under marked in
        let set = subst (λ (y : Entries). Keeps e (record { positive = k.positive; cursors = join k.cursors (entry_cursors y); table = Some state }) end) known.is.entries at in
        subst (λ (o : Option TableState). Keeps e (taken_kinds o) end) (sym known.known_is) set

    pub top_there : IsSomeAnd (top t.contents) below
    top_there = top_all below t.contents filled all_below

    pub drawn_there : (lot : List ℕ) → IsSomeAnd (drawn lot t.contents) below
    drawn_there = drawn_all below t.contents filled all_below

    -- an entry that is found in the table is taken
    pub takes_follows : (i : Instr) (entry : Option Entry) → IsSomeAnd entry below → ((u : State) → Keeps e (taken_kinds k.table) u → Follows e k i (Goes u))
        → Follows e k i (takes e t entry s)
    takes_follows i entry there goes = follows_given e k i below entry _ there (λ x is under. goes _ (taken x under))

  -- the table, and the stage's lot in it
  pub lot_follows : (i : Instr) (n : ℕ) (go : PriorityTable → List ℕ → Effect) → IsTrue (has_stage (context_of c) n) → IsTrue (is_table is_ready k.table)
      → ((t : PriorityTable) → s.table ≡ Some t → IsKnown is_ready k.table t → (lot : List ℕ) → Follows e k i (go t lot)) → Follows e k i (with_lot c e n s go)
  lot_follows i n go stage table f =
      follows_given e k i (IsKnown is_ready k.table) s.table _ (table_there is_ready k.table s.table table h.agrees.table) (λ t now_is known.
      follows_given e k i (below t now_is known) (top t.contents) _ (top_there t now_is known) (λ first is under.
      follows_given e k i (λ y. ⊤) (name_of c.stages n) _ (chosen_there c n _ _ stage) (λ name named any. f t now_is known (lot_of e t.entries name))))

-- States that keep what is known of them: where a part of the state changes, and the same part of the kinds.
use Rattle.std.proofs.Common.{◌≡◌, ℕ, zero, suc, ◌<◌, Bool, true, false, not, ◌&&◌, ◌||◌, if◌then◌else◌, arith, List, [], ◌∷◌, length, slice_get, Option, Some, None, IsTrue, IsSome, IsSomeAnd, All, refl, subst, ◌∙◌, rules}
use Rattle.std.specs.Bool.{⊤}
use Rattle.std.specs.Option.{ForSome, option_map_or}
use Rattle.std.proofs.lemmas.Bool.{and_parts}
use Rattle.std.proofs.lemmas.List.Elements.{All-head, All-tail}
use Rattle.std.proofs.lemmas.Option.{same_Some}
use Rattle.sl_law_meaning.specs.declared.table.Mark.{Mark}
use Rattle.sl_law_meaning.specs.declared.table.Placed.{Placed}
use Rattle.sl_law_meaning.specs.declared.table.SeatStep.{SeatStep}
use Rattle.sl_law_meaning.specs.declared.table.Weight.{Weight}
use Rattle.sl_law_meaning.specs.returns.Election.{Election, lands_of, parties_of, wins_of}
use Rattle.sl_code_instructions.specs.Codes.{CountingCode}
use Rattle.sl_code_instructions.specs.declared.instr.Instr.{Instr}
use Rattle.sl_code_instructions.specs.declared.kinds.Registers.{Registers}
use Rattle.sl_code_instructions.specs.declared.kinds.Cursors.{Cursors}
use Rattle.sl_code_instructions.specs.declared.kinds.TableState.{TableState}
use Rattle.sl_code_instructions.specs.declared.kinds.Kinds.{Kinds}
use Rattle.sl_code_instructions.specs.declared.operand.Entries.{Entries}
use Rattle.sl_code_instructions.specs.declared.operand.Entries.TheVariants as entries
use Rattle.sl_code_instructions.specs.declared.operand.Ranking.{Ranking}
use Rattle.sl_code_instructions.specs.declared.operand.Ranking.TheVariants as ranking
use Rattle.sl_code_semantics.specs.Kinds.{contains, covers, includes, implies, fits_table, same_entries, same_ranking}
use Rattle.sl_code_semantics.specs.Needs.{has_registers, has_columns, has_kinds, has_table, has_needs, needed_positive, needed_cursors}
use Rattle.sl_code_instructions.specs.Rows.{target_of}
use Rattle.sl_code_semantics.specs.Leaves.{behind, carried, with_party, with_land, with_win}
use Rattle.sl_code_semantics.specs.WellKinded.{context_of}
use Rattle.sl_code_semantics.specs.State.{State, PriorityTable}
use Rattle.sl_code_semantics.specs.Effects.{Effect, Goes, Jumps, Ends, NoCase, effect, given, where_positive}
use Rattle.sl_code_semantics.specs.Safe.{IsInRange, entries_in}
use Rattle.sl_code_semantics.specs.Agrees.{ArePositive, AreSet, IsTable, HasTable, Agrees}
use Rattle.sl_code_semantics.proofs.soundness.Sets.{asked, positive_included, set_covered}

-- the state is one of which the kinds are known, and in range
pub record Keeps (e : Election) (k : Kinds) (s : State) : Type 0 where
  pub agrees : Agrees k s
  pub range : IsInRange e s

-- the instruction has a case, and the kinds after it are known where it goes on, those that it carries where it jumps
abbrev pub Follows : Election → Kinds → Instr → Effect → Type 0
Follows e k i (Goes t) = IsSomeAnd (behind k i) (λ next. Keeps e next t)
Follows e k i (Jumps t) = IsSome (target_of i) × Keeps e (carried k i) t
Follows e k i (Ends x) = Unit {0}
Follows e k i NoCase = ⊥

module _ (e : Election) (k : Kinds) (s : State) (h : Keeps e k s) where
  pub keeps_registers : (set : Registers) (registers : ℕ → ℕ) → ArePositive set registers → Keeps e (record k { positive = set }) (record s { registers = registers })
  keeps_registers set registers all = search rules

  pub keeps_records : (columns : ℕ → ℕ → ℕ) (mark : Mark) (steps : List SeatStep) (weights : List Weight) (placed : ℕ → Placed)
      → Keeps e k (record s { columns = columns; mark = mark; steps = steps; weights = weights; placed = placed })
  keeps_records columns mark steps weights placed = search rules

  pub keeps_cursors : (set : Cursors) (party land win : Option ℕ) → AreSet set party land win
      → ForSome party (λ p. p < parties_of e) → ForSome land (λ l. l < lands_of e) → ForSome win (λ w. w < wins_of e) → Keeps e (record k { cursors = set }) (record s { party = party; land = land; win = win })
  keeps_cursors set party land win all below_party below_land below_win = search rules

  pub keeps_known : (known : Option TableState) → HasTable known s.table → Keeps e (record k { table = known }) s
  keeps_known known is = search rules

  pub keeps_party : (b : Bool) (party : Option ℕ) → (IsTrue b → IsSome party) → ForSome party (λ p. p < parties_of e)
      → Keeps e (record k { cursors = with_party b k.cursors }) (record s { party = party })
  keeps_party b party known below = search rules

  pub keeps_land : (b : Bool) (land : Option ℕ) → (IsTrue b → IsSome land) → ForSome land (λ l. l < lands_of e)
      → Keeps e (record k { cursors = with_land b k.cursors }) (record s { land = land })
  keeps_land b land known below = search rules

  pub keeps_win : (b : Bool) (win : Option ℕ) → (IsTrue b → IsSome win) → ForSome win (λ w. w < wins_of e)
      → Keeps e (record k { cursors = with_win b k.cursors }) (record s { win = win })
  keeps_win b win known below = search rules

  pub keeps_table : (known : TableState) (t : PriorityTable) → IsTable known t → All (λ x. x.index < entries_in e t.entries) t.contents
      → Keeps e (record k { table = Some known }) (record s { table = Some t })
  keeps_table known t is below =
      let entries : ForSome (Some t) (λ u. All (λ x. x.index < entries_in e u.entries) u.contents) =
      λ u same. subst (λ (v : PriorityTable). All (λ x. x.index < entries_in e v.entries) v.contents) (same_Some t u same) below in
      search rules

-- ---- kinds that are implied
pub same_entries-is : (a b : Entries) → IsTrue (same_entries a b) → a ≡ b
same_entries-is entries.Party entries.Party h = refl
same_entries-is entries.Land entries.Land h = refl
same_entries-is entries.List entries.List h = refl
same_entries-is entries.Win entries.Win h = refl
same_entries-is a b h = cc

pub same_ranking-is : (a b : Ranking) → IsTrue (same_ranking a b) → a ≡ b
same_ranking-is ranking.Quotients ranking.Quotients h = refl
same_ranking-is ranking.Remainders ranking.Remainders h = refl
same_ranking-is a b h = cc

pub same_ranking-itself : (a b : Ranking) → a ≡ b → IsTrue (same_ranking b a)
same_ranking-itself a ranking.Quotients e = rw e refl
same_ranking-itself a ranking.Remainders e = rw e refl

table_fits : (have need : Option TableState) (t : Option PriorityTable) → IsTrue (fits_table have need) → HasTable have t → HasTable need t
table_fits have None t h all = tt
table_fits None (Some need) t h all = cc
table_fits (Some have) (Some need) None h all = all
table_fits (Some have) (Some need) (Some t) h all =
    let both = and_parts (same_entries have.entries need.entries && same_ranking have.ranking need.ranking) (have.ready || not need.ready) h in
    let kind = and_parts (same_entries have.entries need.entries) (same_ranking have.ranking need.ranking) both.0 in
    record {
      entries = all.entries ∙ same_entries-is have.entries need.entries kind.0;
      ranking = all.ranking ∙ same_ranking-is have.ranking need.ranking kind.1;
      ready = λ r. all.ready (asked have.ready need.ready both.1 r);
    }

-- a state of which kinds are known is one of which those are that they imply
pub agrees_implied : (have need : Kinds) (s : State) → IsTrue (implies have need) → Agrees have s → Agrees need s
agrees_implied have need s h all =
    let both = and_parts (includes have.positive need.positive && covers have.cursors need.cursors) (fits_table have.table need.table) h in
    let parts = and_parts (includes have.positive need.positive) (covers have.cursors need.cursors) both.0 in
    record {
      positive = positive_included have.positive need.positive s.registers parts.0 all.positive;
      cursors = set_covered have.cursors need.cursors parts.1 all.cursors;
      table = table_fits have.table need.table s.table both.1 all.table;
    }

-- ---- what there must be
module _ (e : Election) (k : Kinds) (i : Instr) where
  pub follows_given : {A : Type 0} (P : A → Type 0) (there : Option A) (go : A → Effect) → IsSomeAnd there P → ((x : A) → there ≡ Some x → P x → Follows e k i (go x))
      → Follows e k i (given there go)
  follows_given P None go h f = absurd h
  follows_given P (Some x) go h f = f x refl h

  pub follows_positive : (n : ℕ) (effect : Effect) → 0 < n → Follows e k i effect → Follows e k i (where_positive n effect)
  follows_positive zero effect h f = absurd (omega arith)
  follows_positive (suc n) effect h f = f

  pub follows_either : (b : Bool) (one other : Effect) → (b ≡ true → Follows e k i one) → (b ≡ false → Follows e k i other) → Follows e k i (if b then one else other)
  follows_either true one other f g = f refl
  follows_either false one other f g = g refl

-- an item of a list
pub get_all : {A : Type 0} (P : A → Type 0) (xs : List A) (i : ℕ) → i < length xs → All P xs → IsSomeAnd (slice_get xs i) P
get_all P [] i h all = absurd (omega arith)
get_all P (x ∷ xs) zero h all = All-head P x xs all
get_all P (x ∷ xs) (suc i) h all = get_all P xs i (omega arith) (All-tail P x xs all)

pub get_some : {A : Type 0} (xs : List A) (i : ℕ) → i < length xs → IsSomeAnd (slice_get xs i) (λ x. ⊤)
get_some xs i h = get_all (λ x. ⊤) xs i h (λ k d l. tt)

-- ---- what an instruction needs, part by part
pub record HasNeeds (c : CountingCode) (k : Kinds) (i : Instr) : Type 0 where
  pub registers : IsTrue (has_registers i)
  pub columns : IsTrue (has_columns (context_of c) i)
  pub positive : IsTrue (option_map_or (contains k.positive) (needed_positive i) true)
  pub cursors : IsTrue (covers k.cursors (needed_cursors (context_of c) k.table i))
  pub table : IsTrue (has_table k i)

pub need_parts : (c : CountingCode) (k : Kinds) (i : Instr) → IsTrue (has_needs (context_of c) k i) → HasNeeds c k i
need_parts c k i h =
    let most = and_parts (has_registers i && has_columns (context_of c) i && has_kinds (context_of c) k i) (has_table k i) h in
    let more = and_parts (has_registers i && has_columns (context_of c) i) (has_kinds (context_of c) k i) most.0 in
    let some = and_parts (has_registers i) (has_columns (context_of c) i) more.0 in
    let kinds = and_parts (option_map_or (contains k.positive) (needed_positive i) true) (covers k.cursors (needed_cursors (context_of c) k.table i)) more.1 in
    record { registers = some.0; columns = some.1; positive = kinds.0; cursors = kinds.1; table = most.1 }

-- where the instruction has what it needs, its effect keeps what is known
abbrev pub IsSound : CountingCode → Election → Kinds → State → Instr → Type 0
IsSound c e k s i = HasNeeds c k i → Follows e k i (effect c e i s)

-- An instruction reads no records: in a state without them it does what it does, but for those.
use Rattle.std.proofs.Common.{◌≡◌, ◌≢◌, sym, ℕ, zero, suc, Bool, true, false, Option, Some, None, min, if◌then◌else◌, refl, ap, rules}
use Rattle.sl_base_terms.specs.declared.shape.Shape.{Shape}
use Rattle.sl_base_terms.specs.declared.shape.Shape.TheVariants as shape
use Rattle.sl_law_meaning.specs.declared.fault.Scope.{Scope}
use Rattle.sl_base_quotients.specs.declared.limits.TheConstants.{MAX_WEIGHT}
use Rattle.sl_law_meaning.specs.declared.table.Mark.{Mark}
use Rattle.sl_law_meaning.specs.returns.Election.{Election}
use Rattle.sl_code_instructions.specs.declared.instr.Instr.{Instr}
use Rattle.sl_code_instructions.specs.declared.instr.Instr.TheVariants as instr
use Rattle.sl_code_instructions.specs.declared.operand.Entries.{Entries}
use Rattle.sl_code_instructions.specs.declared.operand.Entries.TheVariants as entries
use Rattle.sl_code_instructions.specs.declared.operand.Rounding.{Rounding}
use Rattle.sl_code_instructions.specs.declared.operand.ScopeKind.{ScopeKind}
use Rattle.sl_code_instructions.specs.declared.operand.ScopeKind.TheVariants as kind
use Rattle.sl_code_instructions.specs.Codes.{CountingCode}
use Rattle.sl_code_instructions.specs.Numbers.{divisor_of}
use Rattle.sl_code_steps.specs.declared.step.Records.TheVariants as records
use Rattle.sl_code_semantics.specs.State.{State, PriorityTable}
use Rattle.sl_code_semantics.specs.Places.{cell_at, index_at, at_entry, item_of, scope_at}
use Rattle.sl_code_semantics.specs.Effects.{Effect, Goes, Jumps, NoCase, with_step, with_weight, stage_of, effect, given, where_positive, to_party, first_of, seat_winner, sets_house, counts_peers}
use Rattle.sl_code_semantics.specs.Effects as machine
use Rattle.sl_code_semantics.specs.Unrecorded.{unrecorded}
use Rattle.sl_code_steps.specs.inner.Recording.{unrecorded_effect, left_by}

-- ---- the forms of effects
given_left : {A : Type 0} (o : Option A) (go : A → Effect) → unrecorded_effect (given o go) ≡ given o (λ x. unrecorded_effect (go x))
given_left None go = refl
given_left (Some x) go = refl

positive_left : (n : ℕ) (x : Effect) → unrecorded_effect (where_positive n x) ≡ where_positive n (unrecorded_effect x)
positive_left zero x = refl
positive_left (suc n) x = refl

if_left : (b : Bool) (x y : Effect) → unrecorded_effect (if b then x else y) ≡ (if b then unrecorded_effect x else unrecorded_effect y)
if_left true x y = refl
if_left false x y = refl

entry_left : (e : Election) (k : Entries) (index : ℕ) (s : State) → unrecorded (at_entry e k index s) ≡ at_entry e k index (unrecorded s)
entry_left e entries.Party index s = refl
entry_left e x index s = refl

module _ (c : CountingCode) (e : Election) (s : State) where
  -- ---- what the cursors stand at
  same_cell : (k : Shape) → cell_at e k s ≡ cell_at e k (unrecorded s)
  same_cell shape.One = refl
  same_cell x = refl

  same_index : (k : Entries) → index_at e k s ≡ index_at e k (unrecorded s)
  same_index entries.Party = refl
  same_index x = refl

  same_scope : (k : ScopeKind) → scope_at k s ≡ scope_at k (unrecorded s)
  same_scope kind.All = refl
  same_scope x = refl

  -- ---- cursors, numbers, winners
  first_left : (n : ℕ) (set : Option ℕ → State → State) → ((o : Option ℕ) → unrecorded (set o s) ≡ set o (unrecorded s))
      → unrecorded_effect (first_of n set s) ≡ first_of n set (unrecorded s)
  first_left zero set h = ap Jumps (h None)
  first_left (suc n) set h = ap Goes (h (Some 0))

  party_left : (party : Option ℕ) → unrecorded_effect (to_party party s) ≡ to_party party (unrecorded s)
  party_left None = refl
  party_left (Some p) = refl

  house_left : (r : ℕ) (house : Option ℕ) → unrecorded_effect (sets_house r house s) ≡ sets_house r house (unrecorded s)
  house_left r None = refl
  house_left r (Some seats) = refl

  count_left : (r n : ℕ) → unrecorded_effect (counts_peers r n s) ≡ counts_peers r n (unrecorded s)
  count_left r zero = refl
  count_left r (suc n) = refl

  seat_left : (w : ℕ) (party : Option ℕ) (listed : ℕ → Bool) → unrecorded_effect (seat_winner w party listed s) ≡ seat_winner w party listed (unrecorded s)
  seat_left w None listed = refl
  seat_left w (Some p) listed = if_left (listed p) _ _

  -- ---- each instruction
  ruleset dropping = (rules, given_left, positive_left, if_left, entry_left, same_cell, same_index, same_scope, first_left, party_left, house_left, count_left, seat_left)

  pub drops : (i : Instr) → unrecorded_effect (effect c e i s) ≡ left_by records.Dropped i (effect c e i (unrecorded s))
  drops instr.Wland = search dropping
  drops i = search dropping

-- ---- what does nothing

module _ (s : State) where
  goes_there : (o : Option ℕ) (to : ℕ → State) → ((i : ℕ) → unrecorded (to i) ≡ s) → given o (λ i. Goes (to i)) ≢ NoCase → Goes s ≡ unrecorded_effect (given o (λ i. Goes (to i)))
  goes_there None to same case = absurd (case refl)
  goes_there (Some i) to same case = ap Goes (sym (same i))

  -- a record that is dropped
  record_goes : (stage : Option ℕ) (scope : Option Scope) (table : Option PriorityTable) (index : PriorityTable → Option ℕ) (to : ℕ → Scope → PriorityTable → ℕ → State) →
      ((a : ℕ) (b : Scope) (t : PriorityTable) (i : ℕ) → unrecorded (to a b t i) ≡ s) →
      given stage (λ a. given scope (λ b. given table (λ t. given (index t) (λ i. Goes (to a b t i))))) ≢ NoCase →
      Goes s ≡ unrecorded_effect (given stage (λ a. given scope (λ b. given table (λ t. given (index t) (λ i. Goes (to a b t i))))))
  record_goes (Some a) (Some b) (Some t) index to same case = goes_there (index t) (to a b t) (same a b t) case
  record_goes stage scope table index to same case = absurd (case refl)

  where_goes : (n : ℕ) (x : Effect) → (x ≢ NoCase → Goes s ≡ unrecorded_effect x) → where_positive n x ≢ NoCase → Goes s ≡ unrecorded_effect (where_positive n x)
  where_goes zero x there case = absurd (case refl)
  where_goes (suc n) x there case = there case

module _ (c : CountingCode) (e : Election) (s : State) (bare : unrecorded s ≡ s) where
  pub recorded : (n : ℕ) (kind : ScopeKind) (number step : ℕ) (mark : Mark) → machine.records c e n kind number step mark s ≢ NoCase →
      Goes s ≡ unrecorded_effect (machine.records c e n kind number step mark s)
  recorded n kind number step mark case =
      record_goes s (stage_of c.stages n) (scope_at kind s) s.table (λ t. index_at e t.entries s)
      (λ stage scope t index. with_step (record { stage = stage; scope = scope; entry = item_of e t.entries index; n = number; step = step; mark = mark }) s)
      (λ stage scope t index. bare) case

  pub weighed : (n : ℕ) (kind : ScopeKind) (by : Rounding) (weight : ℕ) → where_positive weight (machine.weighs c e n kind by weight s) ≢ NoCase →
      Goes s ≡ unrecorded_effect (where_positive weight (machine.weighs c e n kind by weight s))
  weighed n kind by weight case =
      where_goes s weight (machine.weighs c e n kind by weight s)
      (record_goes s (stage_of c.stages n) (scope_at kind s) s.table (λ t. index_at e t.entries s)
      (λ stage scope t index.
      with_weight (record { stage = stage; scope = scope; entry = item_of e t.entries index; divisor = divisor_of by; weight = min weight MAX_WEIGHT }) s)
      (λ stage scope t index. bare)) case

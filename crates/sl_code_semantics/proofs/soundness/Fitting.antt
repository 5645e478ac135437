-- What an instruction records, and how it ends a run, fits the code and the returns.
use Rattle.std.proofs.Common.{◌≡◌, ℕ, zero, suc, ◌+◌, ◌*◌, ◌<◌, ◌≤◌, Bool, true, false, ◌==◌, List, [], ◌∷◌, ◌++◌, length, map, All, Option, Some, None, IsTrue, slice_get, option_map, if◌then◌else◌, refl, subst, arith, rules}
use Rattle.std.specs.Option.{option_map_or}
use Rattle.std.proofs.lemmas.Bool.{and_parts}
use Rattle.std.proofs.lemmas.List.Elements.{All-append, All-nil, All-cons, All-map, All-weaker}
use Rattle.std.proofs.lemmas.Option.{slice_get_within, same_Some}
use Rattle.sl_base_terms.specs.declared.shape.Shape.{Shape}
use Rattle.sl_base_terms.specs.declared.shape.Shape.TheVariants as shape
use Rattle.sl_base_terms.specs.Shapes.{same_shape}
use Rattle.sl_law_meaning.specs.declared.fault.Scope.{Scope}
use Rattle.sl_law_meaning.specs.declared.fault.Scope.TheVariants as scope
use Rattle.sl_law_meaning.specs.declared.table.Mark.{Mark}
use Rattle.sl_law_meaning.specs.declared.table.SeatStep.{SeatStep}
use Rattle.sl_law_meaning.specs.declared.table.Weight.{Weight}
use Rattle.sl_law_meaning.specs.returns.Election.{Election, lands_of, parties_of}
use Rattle.sl_code_instructions.specs.declared.code.CodeStage.{CodeStage}
use Rattle.sl_code_instructions.specs.declared.instr.Instr.{Instr}
use Rattle.sl_code_instructions.specs.declared.instr.Instr.TheVariants as instr
use Rattle.sl_code_instructions.specs.declared.operand.EndFault.{EndFault}
use Rattle.sl_code_instructions.specs.declared.operand.EndFault.TheVariants as end
use Rattle.sl_code_instructions.specs.declared.operand.Entries.{Entries}
use Rattle.sl_code_instructions.specs.declared.operand.Entries.TheVariants as entries
use Rattle.sl_code_instructions.specs.declared.operand.ScopeKind.{ScopeKind}
use Rattle.sl_code_instructions.specs.declared.operand.ScopeKind.TheVariants as kind
use Rattle.sl_code_instructions.specs.Codes.{CountingCode}
use Rattle.sl_code_semantics.specs.declared.known.TheConstants.{LAST_CLAUSE}
use Rattle.sl_code_semantics.specs.Needs.{has_columns, has_column}
use Rattle.sl_code_semantics.specs.WellKinded.{context_of}
use Rattle.sl_base_rankings.specs.Peers.{top, peers}
use Rattle.sl_code_semantics.specs.State.{State, PriorityTable}
use Rattle.sl_code_semantics.specs.Places.{both, index_at, item_of, at_entry, scope_at}
use Rattle.sl_code_semantics.specs.Effects.{Effect, Goes, Jumps, Ends, NoCase, effect, given, where_positive, to_party, first_of, seat_winner, sets_house, counts_peers, stage_of, kind_of, at_scope}
use Rattle.sl_code_semantics.specs.Fits.{HasItem, HasScope, FitsStep, FitsWeight, FitsKind, FitsRecords, FitsEnd}
use Rattle.sl_code_semantics.specs.Safe.{IsInRange, entries_in}
use Rattle.sl_code_semantics.proofs.soundness.TableLemmas.{peers_all}
use Rattle.sl_code_semantics.proofs.soundness.KeptCursors.{some_for, none_for}
use Rattle.sl_code_semantics.proofs.soundness.KeptEntries.{list_below}
use Rattle.sl_code_semantics.proofs.soundness.KeptTables.{list_parts}

-- the records of the state to which an effect leads fit, and so does its end
abbrev pub FitsEffect : CountingCode → Election → Effect → Type 0
FitsEffect c e (Goes t) = FitsRecords (length c.stages) e t.steps t.weights
FitsEffect c e (Jumps t) = FitsRecords (length c.stages) e t.steps t.weights
FitsEffect c e (Ends x) = FitsEnd c e x
FitsEffect c e NoCase = Unit {0}

-- ---- stages, scopes and entries that there are

mapped_some : {A B : Type 0} (P : B → Type 0) (o : Option A) (f : A → B) (x : B) → option_map f o ≡ Some x → ((y : A) → o ≡ Some y → P (f y)) → P x
mapped_some P None f x h all = cc
mapped_some P (Some y) f x h all = subst P (same_Some (f y) x h) (all y refl)

stage_within : (last : Bool) (stages : List CodeStage) (n stage : ℕ) → (if last then Some (length stages) else option_map (λ x. n) (slice_get stages n)) ≡ Some stage → stage ≤ length stages
stage_within true stages n stage h = let same = same_Some (length stages) stage h in omega arith
stage_within false stages n stage h = mapped_some (λ m. m ≤ length stages) (slice_get stages n) (λ x. n) stage h (λ x is. let below = slice_get_within stages n x is in omega arith)

stage_fits : (stages : List CodeStage) (n stage : ℕ) → stage_of stages n ≡ Some stage → stage ≤ length stages
stage_fits stages n stage h = stage_within (n == LAST_CLAUSE) stages n stage h

both_scope : {A : Type 0} (P : A → Type 0) (a b : Option ℕ) (f : ℕ → ℕ → A) (x : A) → both a b f ≡ Some x → ((n m : ℕ) → a ≡ Some n → b ≡ Some m → P (f n m)) → P x
both_scope P (Some n) (Some m) f x h all = subst P (same_Some (f n m) x h) (all n m refl refl)
both_scope P a b f x h all = cc

scope_fits : (e : Election) (k : ScopeKind) (s : State) (x : Scope) → IsInRange e s → scope_at k s ≡ Some x → HasScope e x
scope_fits e kind.All s x range h = subst (HasScope e) (same_Some scope.All x h) tt
scope_fits e kind.Land s x range h = mapped_some (HasScope e) s.land scope.Land x h (λ l is. range.land l is)
scope_fits e kind.Party s x range h = mapped_some (HasScope e) s.party scope.Party x h (λ p is. range.party p is)
scope_fits e kind.List s x range h = both_scope (HasScope e) s.land s.party scope.List x h (λ l p is_land is_party. (range.land l is_land, range.party p is_party))

pub index_below : (e : Election) (k : Entries) (s : State) (i : ℕ) → IsInRange e s → index_at e k s ≡ Some i → i < entries_in e k
index_below e entries.Party s i range h = range.party i h
index_below e entries.Land s i range h = range.land i h
index_below e entries.List s i range h =
    both_scope (λ n. n < lands_of e * parties_of e) s.land s.party (λ l p. l * parties_of e + p) i h
    (λ l p is_land is_party. list_below l p (lands_of e) (parties_of e) (range.land l is_land) (range.party p is_party))
index_below e entries.Win s i range h = range.win i h

item_fits : (e : Election) (k : Entries) (i : ℕ) → i < entries_in e k → HasItem e (item_of e k i)
item_fits e entries.List i h = list_parts i (lands_of e) (parties_of e) h
item_fits e k i h = search rules

-- the kinds of faults without names
kind_fits : (e : Election) (f : EndFault) → FitsKind e (kind_of f)
kind_fits e end.Limit = tt
kind_fits e f = tt

-- a column of lists
column_is : (o : Option Shape) → IsTrue (option_map_or (same_shape shape.List) o false) → o ≡ Some shape.List
column_is (Some shape.List) h = refl
column_is o h = cc

-- ---- the forms of effects
module _ (c : CountingCode) (e : Election) where
  in_given : {A : Type 0} (o : Option A) (go : A → Effect) → ((x : A) → o ≡ Some x → FitsEffect c e (go x)) → FitsEffect c e (given o go)
  in_given None go h = tt
  in_given (Some x) go h = h x refl

  in_positive : (n : ℕ) (x : Effect) → FitsEffect c e x → FitsEffect c e (where_positive n x)
  in_positive zero x h = tt
  in_positive (suc n) x h = h

  in_if : (b : Bool) (x y : Effect) → FitsEffect c e x → FitsEffect c e y → FitsEffect c e (if b then x else y)
  in_if true x y h g = h
  in_if false x y h g = g

module _ (c : CountingCode) (e : Election) (s : State) (range : IsInRange e s) (h : FitsRecords (length c.stages) e s.steps s.weights) where
  to_party_fits : (party : Option ℕ) → FitsEffect c e (to_party party s)
  to_party_fits None = h
  to_party_fits (Some p) = h

  first_fits : (n : ℕ) (set : Option ℕ → State → State) → ((o : Option ℕ) → FitsEffect c e (Goes (set o s))) → FitsEffect c e (first_of n set s)
  first_fits zero set f = f None
  first_fits (suc n) set f = f (Some 0)

  house_fits : (r : ℕ) (house : Option ℕ) → FitsEffect c e (sets_house r house s)
  house_fits r None = h
  house_fits r (Some x) = h

  count_fits : (r n : ℕ) → FitsEffect c e (counts_peers r n s)
  count_fits r zero = h
  count_fits r (suc n) = h

  seats_fits : (w : ℕ) (party : Option ℕ) (listed : ℕ → Bool) → FitsEffect c e (seat_winner w party listed s)
  seats_fits w None listed = h
  seats_fits w (Some p) listed = in_if c e (listed p) _ _ h h

  entry_fits : (go : PriorityTable → ℕ → Effect) → ((t : PriorityTable) (index : ℕ) → HasItem e (item_of e t.entries index) → FitsEffect c e (go t index))
      → FitsEffect c e (given s.table (λ t. given (index_at e t.entries s) (go t)))
  entry_fits go f = in_given c e s.table _ (λ t is. in_given c e (index_at e t.entries s) (go t) (λ index at. f t index (item_fits e t.entries index (index_below e t.entries s index range at))))

  at_scope_fits : (n : ℕ) (k : ScopeKind) (go : ℕ → Scope → Effect) → ((stage : ℕ) (x : Scope) → stage ≤ length c.stages → HasScope e x → FitsEffect c e (go stage x)) → FitsEffect c e (at_scope c e n k s go)
  at_scope_fits n k go f = in_given c e (stage_of c.stages n) _ (λ stage is. in_given c e (scope_at k s) (go stage) (λ x at. f stage x (stage_fits c.stages n stage is) (scope_fits e k s x range at)))

  at_entry_fits : (k : Entries) (index : ℕ) (table : Option PriorityTable) (m : Mark) → FitsEffect c e (Goes (at_entry e k index (record s { table = table; mark = m })))
  at_entry_fits entries.Party index table m = h
  at_entry_fits k index table m = h

  -- one record more
  step_added : (x : SeatStep) → FitsStep (length c.stages) e x → FitsRecords (length c.stages) e (s.steps ++ x ∷ []) s.weights
  step_added x fits = record { steps = All-append (FitsStep (length c.stages) e) s.steps (x ∷ []) h.steps (All-cons (FitsStep (length c.stages) e) x [] fits (All-nil (FitsStep (length c.stages) e))); weights = h.weights }

  weight_added : (x : Weight) → FitsWeight (length c.stages) e x → FitsRecords (length c.stages) e s.steps (s.weights ++ x ∷ [])
  weight_added x fits = record { steps = h.steps; weights = All-append (FitsWeight (length c.stages) e) s.weights (x ∷ []) h.weights (All-cons (FitsWeight (length c.stages) e) x [] fits (All-nil (FitsWeight (length c.stages) e))) }

  -- the names of a tie
  names_fit : (t : PriorityTable) → s.table ≡ Some t → All (HasItem e) (map (λ x. item_of e t.entries x.index) (peers t.contents))
  names_fit t is =
      All-map (HasItem e) (λ x. item_of e t.entries x.index) (peers t.contents)
      (peers_all (λ x. HasItem e (item_of e t.entries x.index)) t.contents
      (All-weaker (λ x. x.index < entries_in e t.entries) (λ x. HasItem e (item_of e t.entries x.index)) (λ x below. item_fits e t.entries x.index below) t.contents (range.table t is)))

  ruleset fitting = (rules, in_given, in_positive, in_if, to_party_fits, first_fits, house_fits, count_fits, seats_fits, at_entry_fits)

  pub fits_effect : (i : Instr) → IsTrue (has_columns (context_of c) i) → FitsEffect c e (effect c e i s)
  fits_effect (instr.Emit n k number step) g = at_scope_fits n k _ (λ stage x in_stages in_scope. entry_fits _ (λ t index in_entry. step_added _ (record { stage = in_stages; scope = in_scope; entry = in_entry })))
  fits_effect (instr.Given n k number) g = at_scope_fits n k _ (λ stage x in_stages in_scope. entry_fits _ (λ t index in_entry. step_added _ (record { stage = in_stages; scope = in_scope; entry = in_entry })))
  fits_effect (instr.Fault n k f) g = at_scope_fits n k _ (λ stage x in_stages in_scope. record { stage = in_stages; scope = in_scope; kind = kind_fits e f })
  fits_effect (instr.Tie n k r) g = in_given c e s.table _ (λ t is. in_given c e (top t.contents) _ (λ first at.
      at_scope_fits n k _ (λ stage x in_stages in_scope. record { stage = in_stages; scope = in_scope; kind = names_fit t is })))
  fits_effect (instr.Halt k) g = in_given c e (slice_get c.slots k) _ (λ x is. record { base = column_is (slice_get c.slots k) g; vacant = none_for _; records = h })
  fits_effect (instr.Haltv k v) g =
      let both = and_parts (has_column (context_of c) k shape.List) (has_column (context_of c) v shape.List) g in
      in_given c e (slice_get c.slots k) _ (λ x is. in_given c e (slice_get c.slots v) _ (λ y at.
      record { base = column_is (slice_get c.slots k) both.0; vacant = some_for _ v (column_is (slice_get c.slots v) both.1); records = h }))
  fits_effect (instr.Weigh n k by r) g = in_positive c e (s.registers r) _ (at_scope_fits n k _ (λ stage x in_stages in_scope.
      entry_fits _ (λ t index in_entry. weight_added _ (record { stage = in_stages; scope = in_scope; entry = in_entry }))))
  fits_effect i g = search fitting

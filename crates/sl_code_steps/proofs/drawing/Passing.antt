-- The lots of a table's stages, and draws that go on from the one before.
use Rattle.std.proofs.Common.{◌≡◌, ◌≤◌, ℕ, zero, suc, Bool, true, false, List, [], ◌∷◌, ◌++◌, length, map, slice_get, Option, Some, None, Result, Ok, Err, OnOk, OnErr, All, IsPermutation, IsSome, nat_eq, codes, refl, sym, ap, subst, ◌∙◌, inl, inr, arith, eq-eqb, ne_eqb}
use Rattle.std.specs.Prelude.{◌==◌, if◌then◌else◌}
use Rattle.std.specs.Option.{option_and_then, option_map, option_map_or, ForSome}
use Rattle.std.specs.Ordering.{is_lt}
use Rattle.std.specs.declared.cmp.Ordering.{Ordering}
use Rattle.std.specs.declared.cmp.Ordering.TheVariants.{Less}
use Rattle.std.proofs.lemmas.Bool.{cases_Bool, cases_eq}
use Rattle.std.proofs.lemmas.Option.{same_Some}
use Rattle.sl_base_quotients.specs.declared.entry.Entry.{Entry}
use Rattle.sl_base_quotients.specs.Quotient.{FitsRatio, compare}
use Rattle.sl_base_rankings.specs.Peers.{is_covered, peers, top}
use Rattle.sl_prio.specs.inner.Marks.{IsPassed}
use Rattle.sl_base_rankings.proofs.LawProofs.{order_is_free}
use Rattle.sl_prio.proofs.PeerCounts.{passed}
use Rattle.sl_law_meaning.specs.returns.Election.{Election}
use Rattle.sl_code_instructions.specs.declared.code.CodeStage.{CodeStage}
use Rattle.sl_code_instructions.specs.declared.operand.Entries.{Entries}
use Rattle.sl_code_instructions.specs.declared.operand.Entries.TheVariants as entries
use Rattle.sl_code_instructions.specs.Codes.{CountingCode}
use Rattle.sl_code_semantics.specs.declared.known.TheConstants.{LAST_CLAUSE}
use Rattle.sl_code_steps.specs.declared.priority.TableKind.{TableKind}
use Rattle.sl_code_semantics.specs.Drawn.{lot_of}
use Rattle.sl_code_semantics.specs.Effects.{Effect, Goes, Jumps, given, stage_of, name_of}
use Rattle.sl_code_semantics.specs.State.{PriorityTable, State}
use Rattle.sl_code_steps.specs.inner.Lots.{LotTable, StageLots, lot_in, lots_for, stage_lots}
use Rattle.sl_code_steps.proofs.Priorities.{table_with}
use Rattle.sl_code_steps.proofs.drawing.Drawing.{topped}

-- ---- the names that are passed over

-- before the first draw there are none
pub no_draws : (lot : List ℕ) (xs : List Entry) (n : ℕ) → n ≡ 0 → IsPassed lot n xs
no_draws lot xs n e = λ k d l. omega (arith, e)

-- a draw goes on from the last one, if that was from the lot of its stage
pub goes_on : (lot : List ℕ) (xs : List Entry) (stage last n from : ℕ) → from ≡ (if nat_eq stage last then n else 0) → (stage ≡ last → IsPassed lot n xs) → IsPassed lot from xs
goes_on lot xs stage last n from is held =
    elim (cases_eq stage last) [
      | inl same ↦ let e : from ≡ n = is ∙ rw (eq-eqb stage last same) refl in subst (λ m. IsPassed lot m xs) (sym e) (held same)
      | inr other ↦ let e : from ≡ 0 = is ∙ rw (ne_eqb stage last other) refl in no_draws lot xs from e
    ]

-- what holds of the lot that drew holds of that lot of the table
pub passed_still : (kind : Option TableKind) (k : TableKind) → kind ≡ Some k → (pick : TableKind → Option (List ℕ)) (lot : List ℕ) → pick k ≡ Some lot → (n : ℕ) (xs : List Entry)
    → IsPassed lot n xs → ForSome kind (λ kind. ForSome (pick kind) (λ lot. IsPassed lot n xs))
passed_still kind k is pick lot at n xs held = λ other is_too another at_too.
    let same : k ≡ other = same_Some k other (sym is ∙ is_too) in
    let lots : lot ≡ another = same_Some lot another (sym (subst (λ (x : TableKind). pick x ≡ Some lot) same at) ∙ at_too) in
    subst (λ (l : List ℕ). IsPassed l n xs) lots held

less : (o : Ordering) → is_lt o ≡ true → o ≡ Less
less Less h = refl
less o h = cc

behind : (o : Option Entry) (entry : Entry) → option_map_or (λ first. is_lt (compare entry.ratio first.ratio)) o false ≡ true
    → (first : Entry) × (o ≡ Some first) × (compare entry.ratio first.ratio ≡ Less)
behind None entry h = cc
behind (Some first) entry h = (first, refl, less (compare entry.ratio first.ratio) h)

-- an entry that is after the top joins no peers
pub behind_passed : (xs : List Entry) → All (λ x. FitsRatio x.ratio) xs → (entry : Entry) → FitsRatio entry.ratio
    → option_map_or (λ first. is_lt (compare entry.ratio first.ratio)) (top xs) false ≡ true → peers (entry ∷ xs) ≡ peers xs
behind_passed xs ratios entry fits h = let w = behind (top xs) entry h in passed xs ratios w.0 w.1 entry fits w.2

pub put_passed : {T E : Type 0} (xs ys : List Entry) (x : Entry) (r : Result T E) → OnOk r (IsPermutation (x ∷ xs) ys) → OnErr r (ys ≡ xs) → (lot : List ℕ) (m n : ℕ) → m ≤ n
    → (IsPassed lot n (peers xs) → IsPassed lot m (peers (x ∷ xs))) → IsPassed lot n (peers xs) → IsPassed lot m (peers ys)
put_passed xs ys x (Ok u) added same lot m n low more held = subst (λ (ps : List Entry). IsPassed lot m ps) (order_is_free (x ∷ xs) ys added).same_peers (more held)
put_passed xs ys x (Err e) added same lot m n low more held =
    subst (λ (zs : List Entry). IsPassed lot m (peers zs)) (sym same) (λ k d l. let h = held k d l in omega (arith, h, low))

pub some_mapped : {X Y : Type 0} (f : X → Y) (o : Option X) → IsSome (option_map f o) → IsSome o
some_mapped f None h = cc
some_mapped f (Some x) h = refl

-- ---- the lots of stages

-- the lot of a stage in a table that is on
pub its_lot : (kind : Option TableKind) (k : TableKind) (xs : List Entry) (lots : List StageLots) (stage : ℕ) (now : LotTable) (lot : List ℕ) (go : PriorityTable → List ℕ → Effect) → kind ≡ Some k
    → record { on = option_map (λ k. table_with k xs) kind; lots = lots } ≡ now → option_map (lot_in k.entries) (slice_get lots stage) ≡ Some lot
    → given now.on (λ t. given (option_map (lot_in t.entries) (slice_get now.lots stage)) (go t)) ≡ given now.on (λ t. go t lot)
its_lot kind k xs lots stage now lot go is view at = rw (← view, is, at) refl

module _ {A B : Type 0} (f : A → B) (last : B) where
  behind_all : (xs : List A) → slice_get (map f xs ++ last ∷ []) (length xs) ≡ Some last
  behind_all [] = refl
  behind_all (x ∷ xs) = behind_all xs

  among : (xs : List A) (k : ℕ) (x : A) → slice_get xs k ≡ Some x → slice_get (map f xs ++ last ∷ []) k ≡ Some (f x)
  among [] k x h = cc
  among (y ∷ ys) zero x h = ap (option_map f) h
  among (y ∷ ys) (suc k) x h = among ys k x h

-- the lots of a code, by the number of a stage
pub stage_lot : (c : CountingCode) (e : Election) (n k : ℕ) → stage_of c.stages n ≡ Some k → slice_get (lots_for c e) k ≡ option_map (stage_lots e) (name_of c.stages n)
stage_lot c e n k is =
    let lots : CodeStage → StageLots = λ stage. stage_lots e stage.name in
    let last = stage_lots e (codes "seats") in
    elim (cases_Bool (n == LAST_CLAUSE)) [
      | inl t ↦
          let at : length c.stages ≡ k = same_Some (length c.stages) k (sym (rw t refl) ∙ is) in
          rw t (subst (λ m. slice_get (lots_for c e) m ≡ Some last) at (behind_all lots last c.stages))
      | inr f ↦ rw f (by_stage (slice_get c.stages n) refl (sym (rw f refl) ∙ is))
    ]
  where
    by_stage : (o : Option CodeStage) → slice_get c.stages n ≡ o → option_map (λ stage. n) o ≡ Some k
        → slice_get (lots_for c e) k ≡ option_map (stage_lots e) (option_map (λ stage. stage.name) (slice_get c.stages n))
    by_stage None at h = cc
    by_stage (Some stage) at h =
        let same : n ≡ k = same_Some n k h in
        rw at (subst (λ m. slice_get (lots_for c e) m ≡ Some (stage_lots e stage.name)) same (among (λ s. stage_lots e s.name) (stage_lots e (codes "seats")) c.stages n stage at))

lot_of_stage : (e : Election) (k : Entries) (name : List ℕ) → lot_in k (stage_lots e name) ≡ lot_of e k name
lot_of_stage e entries.Party name = refl
lot_of_stage e k name = refl

-- what the stage's lot does in a table, by the stage's name
pub by_name : (e : Election) (table : Option PriorityTable) (lots : List StageLots) (k : ℕ) (name : Option (List ℕ)) (go : PriorityTable → List ℕ → Effect)
    → slice_get lots k ≡ option_map (stage_lots e) name
    → given table (λ t. given (option_map (lot_in t.entries) (slice_get lots k)) (go t)) ≡ given table (λ t. given name (λ n. go t (lot_of e t.entries n)))
by_name e None lots k name go is = refl
by_name e (Some t) lots k None go is = rw is refl
by_name e (Some t) lots k (Some n) go is = rw is (ap (go t) (lot_of_stage e t.entries n))

-- where there is a top: the answer whether it names every peer
pub covers_by_name : (e : Election) (table : Option PriorityTable) (lots : List StageLots) (k : ℕ) (name : Option (List ℕ)) (s : State) (result : Bool)
    → slice_get lots k ≡ option_map (stage_lots e) name → IsSome (option_and_then (λ t. top t.contents) table)
    → given table (λ t. given (option_map (lot_in t.entries) (slice_get lots k)) (λ lot. if is_covered lot t.contents then Goes s else Jumps s)) ≡ (if result then Goes s else Jumps s)
    → (if result then Goes s else Jumps s) ≡ given table (λ t. given (top t.contents) (λ first. given name (λ n. if is_covered (lot_of e t.entries n) t.contents then Goes s else Jumps s)))
covers_by_name e table lots k name s result its some covers =
    let go : PriorityTable → List ℕ → Effect = λ t lot. if is_covered lot t.contents then Goes s else Jumps s in
    sym covers ∙ by_name e table lots k name go its ∙ sym (topped e go table name some)

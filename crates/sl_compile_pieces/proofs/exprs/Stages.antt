-- The plans of stages achieve what the stages mean, where those of expressions do: by induction over the stages that are left.
use Rattle.std.proofs.Common.{◌≡◌, ◌≢◌, ℕ, suc, ◌+◌, ◌*◌, ◌<◌, ◌≤◌, true, List, [], ◌∷◌, ◌++◌, length, None, Some, slice_get, nat_le, refl, sym, subst, ◌∙◌, inl, inr, arith, length-append}
use Rattle.std.specs.List.{list_all}
use Rattle.std.proofs.lemmas.Bool.{and_parts, leb-true}
use Rattle.std.proofs.lemmas.Option.{slice_get_within}
use Rattle.std.proofs.lemmas.Slice.Zip.{AllZip-long, all_zipped_more}
use Rattle.sl_base_terms.specs.declared.shape.Shape.{Shape}
use Rattle.sl_law_meaning.specs.declared.limits.TheConstants.{MAX_DEPTH, MAX_PARTS}
use Rattle.sl_base_terms.specs.declared.limits.TheConstants.{MAX_STAGES}
use Rattle.sl_base_terms.specs.Tests.{first_failing}
use Rattle.sl_law_meaning.specs.book.Trees.{StageTree, BookTree}
use Rattle.sl_law_meaning.specs.book.Limits.{depth_of, parts_of, is_within_stage}
use Rattle.sl_law_meaning.specs.book.Typing.{Column, type_of, splits_in, expr_tests, stage_column, columns_of, stages_tests, is_typed}
use Rattle.sl_law_meaning.specs.returns.Election.{Election, IsElection}
use Rattle.sl_law_meaning.specs.meaning.Columns.{NamedColumn}
use Rattle.sl_law_meaning.specs.meaning.Records.{Records}
use Rattle.sl_law_meaning.specs.meaning.Results as results
use Rattle.sl_law_meaning.specs.meaning.Expressions.{ExprMeans}
use Rattle.sl_law_meaning.specs.meaning.Means.{Known, context_of, with_stage}
use Rattle.sl_law_meaning.specs.laws.ColumnLaws.{IsTypedAs}
use Rattle.sl_base_terms.proofs.Tests.{head_holds, pass_parts}
use Rattle.sl_law_meaning.proofs.meaning.TypedMeaning.{typed_expressions}
use Rattle.sl_code_instructions.specs.Codes.{CountingCode}
use Rattle.sl_code_semantics.specs.State.{State, End}
use Rattle.sl_compile_plans.specs.Trees.{Tree}
use Rattle.sl_compile_plans.specs.Laid.{AchievesAll}
use Rattle.sl_compile_plans.proofs.Rules.{achieves_more}
use Rattle.sl_compile_pieces.proofs.columns.Cells.{still_holds}
use Rattle.sl_compile_pieces.specs.columns.Columns.{HoldsColumn, GetsColumn}
use Rattle.sl_compile_pieces.specs.columns.Trees.{copy_tree}
use Rattle.sl_compile_pieces.proofs.columns.Writing.{columns_are_copied}
use Rattle.sl_compile_pieces.specs.nodes.Nodes.{EndsWith}
use Rattle.sl_compile_pieces.proofs.nodes.JoiningLists.{pushed_there}
use Rattle.sl_compile_pieces.specs.exprs.Slots.{fact_slots, stage_slot, HasBookSlots, LEVELS, FIRST_PASSING_SLOT, FIRST_STAGE_SLOT}
use Rattle.sl_compile_pieces.specs.exprs.Pieces.{pieces, slot_of}
use Rattle.sl_compile_pieces.proofs.exprs.Places.{fact_low}
use Rattle.sl_compile_pieces.specs.exprs.Meaning.{HoldsKnown, StandsIn, HasExpr, ExprsAchieve}
use Rattle.sl_compile_pieces.specs.exprs.Stages.{stage_pieces, stages_pieces, HasStages, IsBehind, HasColumns, EndsStopped, StagesAchieve}
use Rattle.sl_compile_pieces.proofs.exprs.Expressions.{slot_is, slot_below, exprs_achieve}
use Rattle.sl_compile_pieces.proofs.exprs.StageRules.{all_more, all_then, last_there, extended, slots_before, rest_staged}
use Rattle.sl_compile_pieces.proofs.nodes.Added.{adds_more}

-- what stands after a stage
record HasStage (b : BookTree) (e : Election) (k : Known) (s : StageTree) (before after : State) : Type 0 where
  values : List ℕ
  records : Records
  means : ExprMeans b e (context_of k s) s.expr (results.Column values records)
  behind : IsBehind b e (with_stage k s values records) before after

-- an expression within the limits has a level for each of its parts
deep_enough : (s : StageTree) → is_within_stage s ≡ true → splits_in s.expr ≤ 1 → 0 + depth_of s.expr + splits_in s.expr ≤ LEVELS
deep_enough s within single =
    let depth : depth_of s.expr ≤ MAX_DEPTH = leb-true (depth_of s.expr) MAX_DEPTH (and_parts (nat_le (depth_of s.expr) MAX_DEPTH) (nat_le (parts_of s.expr) MAX_PARTS) within).0 in
    omega (arith, depth, single)

-- ---- after the expression of a stage, in state t, and the copy into the stage's slot, in state u

module _ (b : BookTree) (e : Election) (k : Known) (s : StageTree) (before start t u : State)
    (behind : IsBehind b e k before start)
    (h : HasExpr b e (context_of k s) s.expr 0 start t)
    (g : GetsColumn e (type_of k.types s.expr).shape (stage_slot (length k.columns)) h.values t u)
  where
    long : length k.columns ≡ length k.types
    long = AllZip-long (IsTypedAs e) k.types k.columns behind.typed

    low_kept : (slot q : ℕ) → slot < FIRST_PASSING_SLOT → u.columns slot q ≡ start.columns slot q
    low_kept slot q below =
        let apart : slot ≢ stage_slot (length k.columns) = λ same. omega (arith, below, same) in
        let low : slot < FIRST_PASSING_SLOT + 4 * 0 + 0 = omega (arith, below) in
        g.changes.columns slot q apart ∙ h.columns slot q (inl low)

    stage_kept : (j q : ℕ) → j < length k.columns → u.columns (stage_slot j) q ≡ start.columns (stage_slot j) q
    stage_kept j q within =
        let apart : stage_slot j ≢ stage_slot (length k.columns) = λ same. omega (arith, within, same) in
        let high : FIRST_STAGE_SLOT ≤ stage_slot j = omega arith in
        g.changes.columns (stage_slot j) q apart ∙ h.columns (stage_slot j) q (inr high)

    fact_held : (slot : ℕ) (of : Shape) (values : List ℕ) → slot < FIRST_PASSING_SLOT → HoldsColumn e of (start.columns slot) values → HoldsColumn e of (u.columns slot) values
    fact_held slot of values below = still_holds e of (start.columns slot) (u.columns slot) values (λ q. low_kept slot q below)

    abbrev new_column : NamedColumn
    new_column = record { name = s.name; values = h.values }

    new_held : (j : ℕ) (c : Column) (x : NamedColumn) → j ≡ length k.columns → stage_column k.types s ≡ c → new_column ≡ x → HoldsColumn e c.type.shape (u.columns (stage_slot j)) x.values
    new_held j c x at type named =
        subst (λ (i : ℕ). HoldsColumn e c.type.shape (u.columns (stage_slot i)) x.values) (sym at)
        (subst (λ (d : Column). HoldsColumn e d.type.shape (u.columns (stage_slot (length k.columns))) x.values) type
        (subst (λ (y : NamedColumn). HoldsColumn e (type_of k.types s.expr).shape (u.columns (stage_slot (length k.columns))) y.values) named g.holds))

    old_held : (j : ℕ) (c : Column) (x : NamedColumn) → slice_get k.types j ≡ Some c → slice_get k.columns j ≡ Some x → HoldsColumn e c.type.shape (u.columns (stage_slot j)) x.values
    old_held j c x type named =
        still_holds e c.type.shape (start.columns (stage_slot j)) (u.columns (stage_slot j)) x.values
        (λ q. stage_kept j q (slice_get_within k.columns j x named)) (behind.known.stages j c x type named)

    stages_held : (j : ℕ) (c : Column) (x : NamedColumn) → slice_get (k.types ++ stage_column k.types s ∷ []) j ≡ Some c → slice_get (k.columns ++ new_column ∷ []) j ≡ Some x →
        HoldsColumn e c.type.shape (u.columns (stage_slot j)) x.values
    stages_held j c x type named =
        elim (pushed_there k.types (stage_column k.types s) j c type) [
          | inl old ↦
              (let below = slice_get_within k.types j c old in
              elim (pushed_there k.columns new_column j x named) [
                | inl there ↦ old_held j c x old there
                | inr last ↦ absurd (omega (arith, below, long, last.0))
              ])
          | inr new ↦
              elim (pushed_there k.columns new_column j x named) [
                | inl there ↦ (let below = slice_get_within k.columns j x there in absurd (omega (arith, below, long, new.0)))
                | inr last ↦ new_held j c x last.0 new.1 last.1
              ]
        ]

    known_held : HoldsKnown b e (k.types ++ stage_column k.types s ∷ []) (k.columns ++ new_column ∷ []) u
    known_held = record {
      facts = λ told. fact_held (fact_slots.of told) _ _ (fact_low told) (behind.known.facts told);
      stages = stages_held;
    }

    stage_behind : is_typed b ≡ true → IsElection e → first_failing (expr_tests k.types s.expr) ≡ None → IsBehind b e (with_stage k s h.values h.records) before u
    stage_behind typed is pass = record {
      typed = all_zipped_more (IsTypedAs e) k.types k.columns (stage_column k.types s) new_column behind.typed
          (record { name = refl; type = typed_expressions b e (context_of k s) s.expr h.values h.records typed is behind.typed pass h.result });
      known = known_held;
      low = λ slot q below. low_kept slot q below ∙ behind.low slot q below;
      adds = adds_more k.records h.records before start u behind.adds (record {
        added = h.adds.added;
        steps = g.changes.steps ∙ h.adds.steps;
        are = h.adds.are;
        weights = g.changes.weights ∙ h.adds.weights;
        placed = λ winner. g.changes.placed winner ∙ h.adds.placed winner;
      });
    }

-- ---- a stage

module _ (code : CountingCode) (b : BookTree) (e : Election) (typed : is_typed b ≡ true) (is : IsElection e) where
  module _ (k : Known) (s : StageTree) (ss : List StageTree) (before start : State)
      (pass : first_failing (expr_tests k.types s.expr) ≡ None)
      (slots : HasBookSlots code (columns_of k.types (s ∷ ss)))
      (staged : HasStages code (length k.columns) (s ∷ ss))
      (behind : IsBehind b e k before start)
    where
      stands_in : StandsIn code (context_of k s)
      stands_in =
          let one = staged.each 0 s refl in
          let same : length k.columns + 0 ≡ length k.columns = omega arith in
          record {
            slots = slots_before code k.types (s ∷ ss) slots;
            few = let few : length k.columns + suc (length ss) ≤ MAX_STAGES = staged.few in omega (arith, few);
            stage = one.0;
            staged = subst (λ (n : ℕ). slice_get code.stages n ≡ Some one.0) same one.1;
            named = one.2;
          }

      slot_there : slice_get code.slots (stage_slot (length k.columns)) ≡ Some (type_of k.types s.expr).shape
      slot_there =
          slots.stages_are (length k.columns) (stage_column k.types s)
          (extended (k.types ++ stage_column k.types s ∷ []) ss (length k.columns) (stage_column k.types s)
          (last_there k.types (stage_column k.types s) (length k.columns) (AllZip-long (IsTypedAs e) k.types k.columns behind.typed)))

      -- its expression's column is in a slot that is there, and no stage's
      abbrev from : ℕ
      from = slot_of k.types 0 s.expr

      from_there : 0 + depth_of s.expr + splits_in s.expr ≤ LEVELS → slice_get code.slots from ≡ Some (type_of k.types s.expr).shape
      from_there deep = (slot_is code (context_of k s) stands_in.slots s.expr 0 deep).there

      apart_from : (n : ℕ) → from ≢ stage_slot n
      apart_from n same = let below = slot_below code (context_of k s) stands_in.slots s.expr 0 1 (omega arith) in omega (arith, below, same)

      -- the column of its expression is copied into its slot
      copied : 0 + depth_of s.expr + splits_in s.expr ≤ LEVELS → (t : State) → HasExpr b e (context_of k s) s.expr 0 start t →
          AchievesAll code e (copy_tree (type_of k.types s.expr).shape from (stage_slot (length k.columns)) ∷ []) t (HasStage b e k s before)
          (EndsWith (ExprMeans b e (context_of k s) s.expr))
      copied deep t h =
          achieves_more {R = HasStage b e k s before}
          (columns_are_copied code e (type_of k.types s.expr).shape from (stage_slot (length k.columns)) h.values t
          (from_there deep) slot_there (apart_from (length k.columns)) h.column)
          (λ u g. record { values = h.values; records = h.records; means = h.result; behind = stage_behind b e k s before start t u behind h g typed is pass })
          (λ x no. absurd no)

      -- after its own pieces the stage is known, or its expression came to a fault
      stage_achieves : ExprsAchieve → 0 + depth_of s.expr + splits_in s.expr ≤ LEVELS →
          AchievesAll code e (stage_pieces k.types (length k.columns) s) start (HasStage b e k s before) (EndsWith (ExprMeans b e (context_of k s) s.expr))
      stage_achieves exprs deep =
          let copy = copy_tree (type_of k.types s.expr).shape from (stage_slot (length k.columns)) in
          let Q : State → Type 0 = HasStage b e k s before in
          let E : End → Type 0 = EndsWith (ExprMeans b e (context_of k s) s.expr) in
          all_then code e Q E (copy ∷ []) (pieces k.types (length k.columns) 0 s.expr) start
          (all_more code e (HasExpr b e (context_of k s) s.expr 0 start) (λ t. AchievesAll code e (copy ∷ []) t Q E) E E (copied deep) (λ x h. h)
          (pieces k.types (length k.columns) 0 s.expr) start
          (exprs code b e (context_of k s) s.expr 0 start typed is behind.typed pass deep stands_in behind.known))

  -- ---- the stages that are left

  stages_follow : ExprsAchieve → (before : State) (k : Known) (ss : List StageTree) (start : State) → first_failing (stages_tests k.types ss) ≡ None →
      list_all is_within_stage ss ≡ true → HasBookSlots code (columns_of k.types ss) → HasStages code (length k.columns) ss → IsBehind b e k before start →
      AchievesAll code e (stages_pieces k.types (length k.columns) ss) start (HasColumns b e k ss before) (EndsStopped b e k ss)
  stages_follow exprs before k [] start pass within slots staged behind = record { known = k; means = refl; behind = behind }
  stages_follow exprs before k (s ∷ ss) start pass within slots staged behind =
      let single = head_holds _ _ _ (head_holds _ _ _ pass).1 in
      let parts = pass_parts (expr_tests k.types s.expr) _ single.1 in
      let few : splits_in s.expr ≤ 1 = leb-true (splits_in s.expr) 1 single.0 in
      let kept = and_parts (is_within_stage s) (list_all is_within_stage ss) within in
      let Q : State → Type 0 = HasColumns b e k (s ∷ ss) before in
      let E : End → Type 0 = EndsStopped b e k (s ∷ ss) in
      let types : List Column = k.types ++ stage_column k.types s ∷ [] in
      let rest : List Tree = stages_pieces types (length k.columns + 1) ss in
      all_then code e Q E rest (stage_pieces k.types (length k.columns) s) start
      (all_more code e (HasStage b e k s before) (λ u. AchievesAll code e rest u Q E) (EndsWith (ExprMeans b e (context_of k s) s.expr)) E
      (λ u h.
      let next : Known = with_stage k s h.values h.records in
      let more : length next.columns ≡ length k.columns + 1 = length-append k.columns (record { name = s.name; values = h.values } ∷ []) in
      all_more code e (HasColumns b e next ss before) Q (EndsStopped b e next ss) E
      (λ v g. record { known = g.known; means = (results.Column h.values h.records, h.means, g.means); behind = g.behind })
      (λ x g. record { fault = g.fault; means = (results.Column h.values h.records, h.means, g.means); is = g.is })
      rest u
      (subst (λ (n : ℕ). AchievesAll code e (stages_pieces types n ss) u (HasColumns b e next ss before) (EndsStopped b e next ss)) more
      (stages_follow exprs before next ss u parts.1 kept.1 slots (rest_staged code (length k.columns) (length next.columns) s ss more staged) h.behind)))
      (λ x h. record { fault = h.fault; means = (results.Fault h.fault, h.result, refl); is = h.is })
      (stage_pieces k.types (length k.columns) s) start
      (stage_achieves k s ss before start parts.0 slots staged behind exprs (deep_enough s kept.0 few)))

pub stages_achieve : StagesAchieve
stages_achieve code b e k ss before s typed is pass within slots staged behind = stages_follow code b e typed is exprs_achieve before k ss s pass within slots staged behind

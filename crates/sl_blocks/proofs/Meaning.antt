-- What the plans of splits and growths achieve in a code that has a job's slots and its stage.
use Rattle.std.proofs.Common.{◌≡◌, ℕ, ◌≤◌, List, Option, Some, ap, subst}
use Rattle.std.specs.Prelude.{option_map}
use Rattle.sl_base_quotients.specs.declared.limits.TheConstants.{MAX_SEATS}
use Rattle.sl_base_quotients.specs.declared.method.Divisor.{Divisor}
use Rattle.sl_base_quotients.specs.declared.method.Method.{Method}
use Rattle.sl_base_terms.specs.declared.shape.Shape.{Shape}
use Rattle.sl_base_terms.specs.declared.shape.Shape.TheVariants as shape
use Rattle.sl_law_meaning.specs.returns.Election.{Election, IsElection}
use Rattle.sl_law_meaning.specs.meaning.Results.{ExprResult}
use Rattle.sl_code_instructions.specs.declared.code.CodeStage.{CodeStage}
use Rattle.sl_code_instructions.specs.Codes.{CountingCode}
use Rattle.sl_code_semantics.specs.State.{State, End}
use Rattle.sl_code_semantics.specs.Memories.{column_of}
use Rattle.sl_compile_plans.specs.Achieves.{Achieves}
use Rattle.sl_compile_plans.proofs.Rules.{achieves_more}
use Rattle.sl_compile_pieces.specs.declared.form.Form.{Form}
use Rattle.sl_compile_pieces.specs.scopes.Forms.{amounts_of}
use Rattle.sl_compile_pieces.specs.seats.Slots.{Slots}
use Rattle.sl_compile_pieces.specs.nodes.Trees.{split_tree, grow_tree}
use Rattle.sl_compile_pieces.specs.nodes.Scopes.{HoldsArguments}
use Rattle.sl_compile_pieces.specs.nodes.Nodes.{HasResult, EndsWith, SplitsAchieve, GrowthsAchieve}
use Rattle.sl_blocks.specs.declared.job.Job.{Job}
use Rattle.sl_blocks.specs.inner.Jobs.{slots_of, IsJob, TakesMinima, HasJob, HasWeights, name_in, SplitMeans, GrowthMeans}
use Rattle.sl_blocks.proofs.JobSlots.{has_slots, holds_arguments, fits_method}

-- ---- the same result under another name

module _ (P R : ExprResult → Type 0) (turn : (r : ExprResult) → P r → R r) where
  result_as : (e : Election) (f : Form) (x : Slots) (before after : State) → HasResult e f x P before after → HasResult e f x R before after
  result_as e f x before after h = record {
    values = h.values;
    records = h.records;
    result = turn _ h.result;
    column = h.column;
    columns = h.columns;
    adds = h.adds;
  }

  ends_as : (end : End) → EndsWith P end → EndsWith R end
  ends_as end h = record { fault = h.fault; result = turn _ h.result; is = h.is }

-- ---- splits and growths

module _ (shapes : List Shape) (f : Form) (j : Job) (code : CountingCode) (job : IsJob shapes f j) (has : HasJob shapes j code) (e : Election) (is : IsElection e) (state : State)
    (weights : HasWeights f j code e state) where
  name_there : name_in code j has.stage.name
  name_there = ap (option_map (λ (s : CodeStage). s.name)) has.staged

  pub split_means : SplitsAchieve → (method : Method) → TakesMinima method j.minima → Achieves code e (split_tree f (slots_of j) method j.majority) state
      (HasResult e f (slots_of j) (SplitMeans f j method code e state) state) (EndsWith (SplitMeans f j method code e state))
  split_means splits_achieve method takes =
      let amounts : List ℕ = column_of code e state j.amount in
      let votes : List ℕ = column_of code e state j.weights in
      let minima : Option (List ℕ) = option_map (column_of code e state) j.minima in
      achieves_more
      (splits_achieve code e f (slots_of j) has.stage.name amounts votes minima method j.majority state is (has_slots shapes f j code job has)
      (fits_method method j.minima (column_of code e state) takes) (holds_arguments shapes f j code job has e state weights))
      (λ after h. result_as _ (SplitMeans f j method code e state) (λ r means. record { name = has.stage.name; named = name_there; is = means }) e f (slots_of j) state after h)
      (λ end h. ends_as _ (SplitMeans f j method code e state) (λ r means. record { name = has.stage.name; named = name_there; is = means }) end h)

  pub growth_means : GrowthsAchieve → (d : Divisor) (slot cap : ℕ) → j.minima ≡ Some slot → amounts_of f ≡ shape.One → cap ≤ MAX_SEATS
      → Achieves code e (grow_tree f (slots_of j) d j.majority cap) state
      (HasResult e f (slots_of j) (GrowthMeans f j slot d cap code e state) state) (EndsWith (GrowthMeans f j slot d cap code e state))
  growth_means growths_achieve d slot cap there one few =
      let amounts : List ℕ = column_of code e state j.amount in
      let votes : List ℕ = column_of code e state j.weights in
      let held : HoldsArguments e f (slots_of j) amounts votes (Some (column_of code e state slot)) state =
      subst (λ (o : Option ℕ). HoldsArguments e f (slots_of j) amounts votes (option_map (column_of code e state) o) state) there (holds_arguments shapes f j code job has e state weights) in
      achieves_more
      (growths_achieve code e f (slots_of j) has.stage.name amounts votes (column_of code e state slot) d j.majority cap state is (has_slots shapes f j code job has) one few held)
      (λ after h. result_as _ (GrowthMeans f j slot d cap code e state) (λ r means. record { name = has.stage.name; named = name_there; is = means }) e f (slots_of j) state after h)
      (λ end h. ends_as _ (GrowthMeans f j slot d cap code e state) (λ r means. record { name = has.stage.name; named = name_there; is = means }) end h)

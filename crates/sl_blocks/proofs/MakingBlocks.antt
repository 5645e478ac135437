-- The plans of splits and growths make blocks.
use Rattle.std.proofs.Common.{◌≡◌, ℕ, suc, ◌<◌, ◌≤◌, zero, List, [], ◌∷◌, ◌++◌, length, Some, slice_get, arith}
use Rattle.std.proofs.lemmas.Option.{none-some}
use Rattle.sl_base_quotients.specs.declared.method.Divisor.{Divisor}
use Rattle.sl_base_quotients.specs.declared.method.Method.{Method}
use Rattle.sl_base_quotients.specs.declared.limits.TheConstants.{MAX_SEATS}
use Rattle.sl_base_terms.specs.declared.shape.Shape.{Shape}
use Rattle.sl_base_terms.specs.declared.shape.Shape.TheVariants as shape
use Rattle.sl_code_instructions.specs.declared.code.CodeStage.{CodeStage}
use Rattle.sl_code_instructions.specs.declared.instr.Instr.{Instr}
use Rattle.sl_code_instructions.specs.Codes.{CountingCode}
use Rattle.sl_code_semantics.specs.Runs.{share_of}
use Rattle.sl_compile_plans.specs.Laid.{laid}
use Rattle.sl_compile_pieces.specs.declared.form.Form.{Form}
use Rattle.sl_compile_pieces.specs.scopes.Forms.{amounts_of}
use Rattle.sl_compile_pieces.specs.nodes.Trees.{split_tree, grow_tree}
use Rattle.sl_compile_pieces.specs.nodes.Nodes.{HasResult, EndsWith}
use Rattle.sl_compile_pieces.proofs.nodes.Nodes.{splits_achieve, growths_achieve}
use Rattle.sl_blocks.specs.declared.job.Job.{Job}
use Rattle.sl_blocks.specs.declared.blocks.TheConstants.{MAX_BLOCK_INSTRS}
use Rattle.sl_blocks.specs.inner.Jobs.{slots_of, IsJob, TakesMinima, HasJob, HasWeights, SplitMeans, GrowthMeans, IsResultBlock}
use Rattle.sl_compile_pieces.proofs.judged.Roles.{HasShapes}
use Rattle.sl_compile_plans.proofs.Modest.{size_at_most, within_share}
use Rattle.sl_compile_pieces.proofs.judged.Splits.{split_fine, split_ranged, split_modest}
use Rattle.sl_compile_pieces.proofs.judged.Growths.{growth_fine, growth_ranged, growth_modest}
use Rattle.sl_blocks.proofs.Standing.{MakesBlock, MakesPlan, is_block}
use Rattle.sl_blocks.proofs.JobSlots.{has_slots}
use Rattle.sl_blocks.proofs.Meaning.{split_means, growth_means}

-- a number with something at it is below the length
there_below : (stages : List CodeStage) (n : ℕ) (s : CodeStage) → slice_get stages n ≡ Some s → n < length stages
there_below [] n s at = absurd (none-some s at)
there_below (x ∷ stages) zero s at = omega arith
there_below (x ∷ stages) (suc n) s at = omega (arith, there_below stages n s at)

module _ (shapes : List Shape) (f : Form) (j : Job) (job : IsJob shapes f j) where
  has_shapes : (code : CountingCode) → HasJob shapes j code → HasShapes (slice_get code.slots) (length code.stages) f (slots_of j)
  has_shapes code has =
      let slots = has_slots shapes f j code job has in
      record {
        amounts = slots.amounts;
        votes = slots.votes;
        result = slots.result;
        minima = slots.minima;
        stage = there_below code.stages j.stage has.stage has.staged;
      }

  -- their plans make blocks of what they say
  pub split_plan : (method : Method) → MakesPlan (HasJob shapes j) (split_tree f (slots_of j) method j.majority)
  split_plan method = record {
    ranged = split_ranged f (slots_of j) method j.majority;
    fine = λ code has. split_fine (slice_get code.slots) (length code.stages) f (slots_of j) method j.majority (has_shapes code has);
  }

  pub growth_plan : (d : Divisor) (slot cap : ℕ) → j.minima ≡ Some slot → cap ≤ MAX_SEATS → MakesPlan (HasJob shapes j) (grow_tree f (slots_of j) d j.majority cap)
  growth_plan d slot cap there few = record {
    ranged = growth_ranged f (slots_of j) d j.majority cap slot there (omega (arith, few));
    fine = λ code has. growth_fine (slice_get code.slots) (length code.stages) f (slots_of j) d j.majority cap slot there (has_shapes code has);
  }

  -- and of what they mean
  split_makes : (method : Method) → TakesMinima method j.minima
      → MakesBlock share_of MAX_BLOCK_INSTRS (HasJob shapes j) (HasWeights f j) (λ code e state. HasResult e f (slots_of j) (SplitMeans f j method code e state) state)
      (λ code e state. EndsWith (SplitMeans f j method code e state)) (split_tree f (slots_of j) method j.majority)
  split_makes method takes = record {
    short = let less = size_at_most 500000 0 350 _ (split_modest f (slots_of j) method j.majority) in omega (arith, less);
    in_time = within_share 500000 0 350 _ (omega arith) (omega arith) (split_modest f (slots_of j) method j.majority);
    ranged = (split_plan method).ranged;
    fine = (split_plan method).fine;
    achieves = λ code e state has is weights. split_means shapes f j code job has e is state weights splits_achieve method takes;
  }

  growth_makes : (d : Divisor) (slot cap : ℕ) → j.minima ≡ Some slot → amounts_of f ≡ shape.One → cap ≤ MAX_SEATS
      → MakesBlock share_of MAX_BLOCK_INSTRS (HasJob shapes j) (HasWeights f j) (λ code e state. HasResult e f (slots_of j) (GrowthMeans f j slot d cap code e state) state)
      (λ code e state. EndsWith (GrowthMeans f j slot d cap code e state)) (grow_tree f (slots_of j) d j.majority cap)
  growth_makes d slot cap there one few = record {
    short = let less = size_at_most 500000 0 350 _ (growth_modest f (slots_of j) d j.majority cap slot there) in omega (arith, less);
    in_time = within_share 500000 0 350 _ (omega arith) (omega arith) (growth_modest f (slots_of j) d j.majority cap slot there);
    ranged = (growth_plan d slot cap there few).ranged;
    fine = (growth_plan d slot cap there few).fine;
    achieves = λ code e state has is weights. growth_means shapes f j code job has e is state weights growths_achieve d slot cap there one few;
  }

  -- the instructions of its plan after a declaration are the block of a split
  pub is_split_block : (method : Method) → TakesMinima method j.minima → (before after : List Instr) →
      after ≡ before ++ laid (length before) (split_tree f (slots_of j) method j.majority) → IsResultBlock shapes f j (SplitMeans f j method) before after
  is_split_block method takes before after is = is_block share_of MAX_BLOCK_INSTRS _ _ _ _ (split_tree f (slots_of j) method j.majority) (split_makes method takes) before after is

  -- and that of a growth
  pub is_growth_block : (d : Divisor) (slot cap : ℕ) → j.minima ≡ Some slot → amounts_of f ≡ shape.One → cap ≤ MAX_SEATS → (before after : List Instr) →
      after ≡ before ++ laid (length before) (grow_tree f (slots_of j) d j.majority cap) → IsResultBlock shapes f j (GrowthMeans f j slot d cap) before after
  is_growth_block d slot cap there one few before after is =
      is_block share_of MAX_BLOCK_INSTRS _ _ _ _ (grow_tree f (slots_of j) d j.majority cap) (growth_makes d slot cap there one few) before after is

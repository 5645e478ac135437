-- What is laid out of the plan of a split, of a growth or of a covering is its block, and the block of its plan.
use Rattle.std.proofs.Common.{◌≡◌, ℕ, List, [], ◌∷◌, length, Result, Ok, Err, IfOk, refl, sym, ◌∙◌}
use Rattle.std.proofs.lemmas.Option.{same_Some}
use Rattle.sl_base_quotients.specs.declared.method.Divisor.{Divisor}
use Rattle.sl_base_quotients.specs.declared.method.Method.{Method}
use Rattle.sl_base_terms.specs.declared.shape.Shape.{Shape}
use Rattle.sl_base_terms.specs.declared.shape.Shape.TheVariants as shape
use Rattle.sl_code_instructions.specs.declared.instr.Instr.{Instr}
use Rattle.sl_compile_pieces.specs.declared.form.Form.{Form}
use Rattle.sl_compile_pieces.specs.scopes.Forms.{amounts_of}
use Rattle.sl_compile_pieces.specs.covers.Trees.{CoverSlots, cover_tree}
use Rattle.sl_blocks.specs.declared.job.Job.{Job}
use Rattle.sl_blocks.specs.inner.Jobs.{IsJob, TakesMinima, IsGrowthJob, IsSplitBlock, IsGrowthBlock}
use Rattle.sl_blocks.specs.inner.Covers.{IsCoverJob, IsCoverBlock}
use Rattle.sl_blocks.specs.inner.Layout.{IsLaid, IsLaidSplit, IsLaidGrowth}
use Rattle.sl_blocks.specs.Blocks.{HasSlotsOf}
use Rattle.sl_blocks.specs.PlanBlocks.{AreBlocks}
use Rattle.sl_blocks.specs.inner.Jobs.{IsSplitPlan, IsGrowthPlan}
use Rattle.sl_blocks.proofs.MakingBlocks.{split_plan, growth_plan, is_split_block, is_growth_block}
use Rattle.sl_blocks.proofs.MakingCovers.{cover_plan, is_cover_block}
use Rattle.sl_blocks.proofs.MakingPlans.{stands, made}

module _ {R E : Type 0} (shapes : List Shape) (before after : List Instr) where
  module _ (j : Job) where
    pub split_stands : (r : Result R E) (method : Method) → TakesMinima method j.minima →
        IfOk r (λ _. IsLaidSplit shapes j method before after) → IfOk r (λ _. IsSplitBlock shapes j method before after)
    split_stands (Err y) method takes laid = laid
    split_stands (Ok y) method takes laid = λ f job. is_split_block shapes f j job method takes before after (laid f job)

    pub split_planned : (r : Result R E) (method : Method) → IfOk r (λ _. IsLaidSplit shapes j method before after) → IfOk r (λ _. IsSplitPlan shapes j method before after)
    split_planned (Err y) method laid = laid
    split_planned (Ok y) method laid = λ f job. stands _ _ (length before) before after (split_plan shapes f j job method) refl (laid f job)

    pub growth_planned : (r : Result R E) (d : Divisor) (cap : ℕ) → IsGrowthJob shapes j cap →
        IfOk r (λ _. IsLaidGrowth shapes j d cap before after) → IfOk r (λ _. IsGrowthPlan shapes j d cap before after)
    growth_planned (Err y) d cap growth laid = laid
    growth_planned (Ok y) d cap growth laid = λ f job. stands _ _ (length before) before after (growth_plan shapes f j job d growth.slot cap growth.minima growth.few) refl (laid f job)

    -- the job's form has one amount, as each form of the job has
    pub growth_stands : (r : Result R E) (d : Divisor) (cap : ℕ) → IsGrowthJob shapes j cap →
        IfOk r (λ _. IsLaidGrowth shapes j d cap before after) → IfOk r (λ _. IsGrowthBlock shapes j d cap before after)
    growth_stands (Err y) d cap growth laid = laid
    growth_stands (Ok y) d cap growth laid =
        λ f slot job there. is_growth_block shapes f j job d slot cap there (one_amount f job) growth.few before after (laid f job)
      where
        one_amount : (f : Form) → IsJob shapes f j → amounts_of f ≡ shape.One
        one_amount f job = same_Some (amounts_of f) (amounts_of growth.form) (sym job.amounts ∙ growth.job.amounts) ∙ growth.one

  pub cover_stands : (x : CoverSlots) (r : Result R E) → IsCoverJob shapes x →
      IfOk r (λ _. IsLaid (cover_tree x) (length before) before after) → IfOk r (λ _. IsCoverBlock shapes x before after)
  cover_stands x (Err y) job laid = laid
  cover_stands x (Ok y) job laid = is_cover_block shapes x job before after laid

  pub cover_planned : (x : CoverSlots) (r : Result R E) → IsCoverJob shapes x →
      IfOk r (λ _. IsLaid (cover_tree x) (length before) before after) → IfOk r (λ _. AreBlocks (HasSlotsOf shapes) (cover_tree x ∷ []) before after)
  cover_planned x r job laid = made r _ _ (length before) before after (cover_plan shapes x job) refl laid

use Rattle.std.proofs.Common.{ap, refl, subst, sym}
use Rattle.sl_blocks.specs.inner.Jobs.{IsGrowthJob}
use Rattle.sl_blocks.specs.inner.Jobs.{IsGrowthPlan}
use Rattle.sl_compile.proofs.Jobs.{is_growth_job, growth_blocks, growth_none}
use Rattle.sl_compile.proofs.exprs.Site.growth.Goals.{in-Divisor+in_ok-grow_block, in_default}
use Rattle.sl_compile.proofs.exprs.Site.growth.Goals as goal

pub grow_block-requires-clause-job : goal.grow_block-requires-clause-job
grow_block-requires-clause-job c =
    subst (λ shapes. IsGrowthJob shapes c.job-job.result c.args.cap) (sym c.args.self.now.low)
    (is_growth_job c.job-job.result c.args.self.now.stage c.args.level c.args.of c.args.by c.args.cap c.args.from c.job-job.ensures.slots c.requires.can c.requires.from c.args.self.now.few
    c.requires.one c.requires.few c.requires.minima)

pub returns-clause-blocks : goal.returns-clause-blocks
returns-clause-blocks c =
    elim c.match-method.branch [
      | in-Divisor+in_ok-grow_block w ↦
          growth_blocks c.job-job.result c.args.self.now.stage c.args.level c.args.of c.args.by c.args.from c.job-job.ensures.slots c.requires.can c.requires.from c.args.self.now.few
          c.args.method c.args.cap c.args.majority c.args.code.now.items w.grow_block.new.code.items c.match-method.code.items (ap (λ v. v.items) w.code-is)
          w.in-Divisor.divisor w.in-Divisor.is c.job-job.ensures.majority
          (subst (λ shapes. IsGrowthPlan shapes c.job-job.result w.in-Divisor.divisor c.args.cap c.args.code.now.items w.grow_block.new.code.items)
          c.args.self.now.low w.in_ok-grow_block.ensures.plan)
      | in_default w ↦
          growth_none c.job-job.result c.args.self.now.stage c.args.level c.args.of c.args.by c.args.from c.job-job.ensures.slots c.requires.can c.requires.from c.args.self.now.few
          c.args.method c.args.cap c.args.majority c.args.code.now.items c.args.code.now.items c.match-method.code.items (ap (λ v. v.items) w.code-is) w.in_default.is refl
    ]

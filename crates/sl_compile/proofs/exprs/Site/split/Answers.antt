use Rattle.std.proofs.Common.{subst, sym}
use Rattle.sl_blocks.specs.inner.Jobs.{IsSplitJob}
use Rattle.sl_blocks.specs.inner.Jobs.{IsSplitPlan}
use Rattle.sl_compile.proofs.Jobs.{is_split_job, split_blocks}
use Rattle.sl_compile.proofs.exprs.Site.split.Goals as goal

pub split_block-requires-clause-job : goal.split_block-requires-clause-job
split_block-requires-clause-job c =
    subst (λ shapes. IsSplitJob shapes c.job-job.result c.args.method) (sym c.args.self.now.low)
    (is_split_job c.job-job.result c.args.self.now.stage c.args.level c.args.of c.args.by c.args.from c.job-job.ensures.slots c.requires.can c.requires.from c.args.self.now.few
    c.args.method c.requires.may)

pub returns-clause-blocks : goal.returns-clause-blocks
returns-clause-blocks c =
    split_blocks c.job-job.result c.args.self.now.stage c.args.level c.args.of c.args.by c.args.from c.job-job.ensures.slots c.requires.can c.requires.from c.args.self.now.few
    c.args.method c.args.majority c.args.code.now.items c.split_block.new.code.items c.job-job.ensures.majority
    (subst (λ shapes. IsSplitPlan shapes c.job-job.result c.args.method c.args.code.now.items c.split_block.new.code.items)
    c.args.self.now.low c.in_ok-split_block.ensures.plan)

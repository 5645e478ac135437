use Rattle.std.proofs.Common.{vec_len, arith}
use Rattle.sl_compile_layout.specs.inner.Layout.{tree_of}
use Rattle.sl_compile_layout.proofs.Laying.{laid_behind}
use Rattle.sl_compile_layout.proofs.emitter.lay.Goals as goal

pub returns-clause-ok : goal.returns-clause-ok
returns-clause-ok c =
    laid_behind (tree_of c.args.given.now c.args.plan.now) c.args.code.now.items c.reserve.new.self.items c.push.new.code.items c.put.new.code.items
    (vec_len c.args.code.now) (vec_len c.push.new.code) c.reserve.ensures.items c.push.ensures.items (omega (arith, c.push.ensures.len, c.reserve.ensures.len))
    c.put.ensures.items

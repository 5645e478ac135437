use Rattle.std.proofs.Common.{◌∙◌, sym, add-one, append_assoc}
use Rattle.std.proofs.lemmas.List.{drop_all, append-nil}
use Rattle.std.proofs.lemmas.List.Elements.{All-push}
use Rattle.sl_code_instructions.specs.Proper.{IsStage}
use Rattle.sl_compile.proofs.Walks.{drop_here}
use Rattle.sl_compile.proofs.naming.code_stages.Goals as goal

pub loop-i-preserved : goal.loop-i-preserved
loop-i-preserved c =
    let from = rw (drop_here c.args.stages.now c.loop-i.i c.index-stages-i.result c.loop-i-test.true c.index-stages-i.is, add-one) at c.loop-i.invariant.0 in (
      rw (c.in_ok-push.ensures.items, append_assoc, c.in_ok-name.ensures, c.as_bytes.ensures.bytes, c.stage_slot.ensures, add-one) from,
      rw c.in_ok-push.ensures.items (All-push IsStage c.loop-i.named.items _ c.loop-i.invariant.1 (rw (c.in_ok-name.ensures, c.as_bytes.ensures.bytes) c.as_bytes.ensures.word)),
    )

pub returns-clause-named : goal.returns-clause-named
returns-clause-named c =
    sym (append-nil c.loop-i.named.items) ∙ (rw (drop_all c.loop-i.i c.args.stages.now c.loop-i-test.false) at c.loop-i.invariant.0)

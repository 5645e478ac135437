use Rattle.std.proofs.Common.{flat_map, ap, ◌∙◌}
use Rattle.std.specs.List.{enumerate_from}
use Rattle.std.proofs.lemmas.List.{get_or_default}
use Rattle.sl_code.specs.Listing.{line_of}
use Rattle.sl_code.proofs.Numbered.{numbered_more, numbered_all}
use Rattle.sl_code.proofs.lines.listing.Goals as goal

pub loop-number-preserved : goal.loop-number-preserved
loop-number-preserved c =
    numbered_more (λ entry. line_of entry.0 entry.1) c.instrs-instr-items.result.now c.loop-number.number _ c.loop-number.text.items _ c.loop-number-test.true (get_or_default c.instrs-instr-items.result.now c.loop-number.number _ _ c.loop-number-test.true) c.loop-number.invariant c.in_ok-line.ensures

pub returns : goal.returns
returns c =
    numbered_all (λ entry. line_of entry.0 entry.1) c.instrs-instr-items.result.now c.loop-number.number _ c.loop-number-test.false c.loop-number.invariant ∙ ap (λ is. flat_map (λ entry. line_of entry.0 entry.1) (enumerate_from 0 is)) c.instrs-instr-items.ensures.instrs

use Rattle.std.proofs.Common.{length, rules, arith, length-append}
use Rattle.std.proofs.lemmas.Slice.Zip.{zip_turn, zip_end}
use Rattle.sl_ratio.proofs.Searches.{last_next, last_answer}
use Rattle.sl_ratio.proofs.bound.last_bound.Goals as goal

pub loop-weight-preserved : goal.loop-weight-preserved
loop-weight-preserved c =
    let turn = c.loop-weight in
    let weights = c.args.weights.now in
    let seats = c.args.seats.now in
    let at =
    zip_turn weights seats turn.yielded c.into_iter-weight-iterator.result turn.weight-iterator c.next.new.self c.next.result
    (search rules) (search rules) turn.yielded_by (c.in-Some.weight, c.in-Some.held) c.in-Some.is c.next.ensures.steps in
    last_next c.args.method weights seats (length turn.yielded) _ c.in-Some.weight.now c.in-Some.held.now turn.last c.last_with-last.result (at.2 0) (at.3 0)
    (simp length-append) (c.requires.positive (length turn.yielded) 0 at.0) c.last_with-last.ensures.awarded c.last_with-last.ensures.passed turn.invariant

pub returns : goal.returns
returns c =
    let turn = c.loop-weight in
    let weights = c.args.weights.now in
    let seats = c.args.seats.now in
    let all =
    zip_end weights seats turn.yielded c.into_iter-weight-iterator.result turn.weight-iterator c.next.new.self c.next.result
    (search rules) (search rules) turn.yielded_by c.in-None.is c.next.ensures.steps in
    last_answer c.args.method weights seats (length turn.yielded) turn.last (omega (arith, all, c.requires.same_length))
    c.requires.same_length c.requires.positive turn.invariant

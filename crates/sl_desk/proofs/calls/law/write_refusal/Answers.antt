use Rattle.std.proofs.Common.{[], ◌∷◌, ◌++◌, codes}
use Rattle.sl_count_inputs.proofs.Writing.{writes_both, fails_first}
use Rattle.sl_desk.proofs.calls.law.write_refusal.Goals as goal

pub returns-in_err-write_all-clause-written : goal.returns-in_err-write_all-clause-written
returns-in_err-write_all-clause-written g c =
    fails_first (codes "refused law ") (c.args.name.now ++ 10 ∷ []) (g.W.Sink.contents c.args.out.now) (g.W.Sink.contents c.write_all.new.out)
    c.from_residual.result c.from_residual.ensures.0 c.in_err-write_all.ensures.written

pub returns-in_err-write_all-2-clause-written : goal.returns-in_err-write_all-2-clause-written
returns-in_err-write_all-2-clause-written g c =
    let r = c.from_residual-in_err-write_all-2 in
    writes_both (codes "refused law ") (c.args.name.now ++ 10 ∷ []) (g.W.Sink.contents c.args.out.now) (g.W.Sink.contents c.write_all.new.out) (g.W.Sink.contents c.write_all-2.new.out)
    r.result c.in_ok-write_all.ensures.written
    (fails_first c.args.name.now (10 ∷ []) (g.W.Sink.contents c.write_all.new.out) (g.W.Sink.contents c.write_all-2.new.out) r.result r.ensures.0
    (rw c.as_bytes.ensures.value at c.in_err-write_all-2.ensures.written))

pub returns-clause-written : goal.returns-clause-written
returns-clause-written g c =
    writes_both (codes "refused law ") (c.args.name.now ++ 10 ∷ []) (g.W.Sink.contents c.args.out.now) (g.W.Sink.contents c.write_all.new.out) (g.W.Sink.contents c.write_all-3.new.out)
    c.write_all-3.result c.in_ok-write_all.ensures.written
    (writes_both c.args.name.now (10 ∷ []) (g.W.Sink.contents c.write_all.new.out) (g.W.Sink.contents c.write_all-2.new.out) (g.W.Sink.contents c.write_all-3.new.out)
    c.write_all-3.result (rw c.as_bytes.ensures.value at c.in_ok-write_all-2.ensures.written) c.write_all-3.ensures.written)

use Rattle.std.proofs.Common.{◌++◌, take, ap, sym, ◌∙◌, append_assoc}
use Rattle.std.proofs.lemmas.List.{take-append-drop}
use Rattle.std.proofs.KnownBytes.{Appends-trans, Appends-kept}
use Rattle.sl_count_inputs.proofs.Writing.{prefix_of, writes_prefix}
use Rattle.sl_count_inputs.proofs.input.write_all.Goals as goal

pub writing-preserved : goal.writing-preserved
writing-preserved g c =
    let so_far = c.writing.invariant.written in
    let rest = c.writing.rest.now in
    let n = c.in_ok-n.n in
    record {
      written = (
        so_far.0 ++ take n rest,
        so_far.1 ∙ ap (λ r. so_far.0 ++ r) (sym (take-append-drop n rest) ∙ ap (λ r. take n rest ++ r) (sym c.split_at.ensures.back)) ∙ sym (append_assoc so_far.0 (take n rest) c.split_at.result.1.now),
        Appends-trans _ _ _ so_far.0 (take n rest) so_far.2 c.in_ok-n.ensures.bytes,
      );
      unfailed = c.in_ok-n.ensures.counts ∙ c.writing.invariant.unfailed;
    }

pub returns-in_err-n-clause-written : goal.returns-in_err-n-clause-written
returns-in_err-n-clause-written g c =
    writes_prefix c.args.text.now (g.W.Sink.contents c.args.out.now) (g.W.Sink.contents c.put.new.self) c.from_residual.result c.from_residual.ensures.0
    (prefix_of _ _ _ _ _ c.writing.invariant.written.1 (Appends-kept _ _ _ _ c.writing.invariant.written.2 c.in_err-n.ensures.bytes))
